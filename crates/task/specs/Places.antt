-- The task that a place shows.
use Rattle.task.specs.declared.place.Task.{Task}
use Rattle.task.specs.Contents.{content_of}
use Rattle.task.specs.Spelled.{TaskValue}

abbrev pub task_of : Task → TaskValue
task_of t = content_of t.shown

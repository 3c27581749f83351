use Rattle.std.proofs.Common.{length}
use Rattle.review.specs.Readers.{standing}
use Rattle.review.specs.Reviews.{content_of}
use Rattle.review.proofs.Reading.{SoFar}
use Rattle.review.proofs.file.content.Content.fill.Given as goal

abbrev pub invariant-loop-section : goal.invariant-loop-section
invariant-loop-section l = SoFar l.file (standing l.reader) (content_of l.self)

abbrev pub decreases-loop-section : goal.decreases-loop-section
decreases-loop-section l = length l.reader.rest.now

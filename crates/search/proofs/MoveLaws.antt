-- Steps of a bounded graph, and the moves that name them.
use Rattle.std.proofs.Common.{◌≡◌, ℕ, ◌<◌, true, refl}
use Rattle.std.proofs.lemmas.Bool.{lt-ltb}
use Rattle.locks.specs.Alone.{step_known, known_by}
use Rattle.locks.specs.declared.steps.Kind.{Kind}
use Rattle.locks.specs.declared.steps.Kind.TheVariants.{Plain, Take, Give}
use Rattle.locks.specs.declared.steps.Step.{Step}
use Rattle.locks.specs.Graphs.{Graph, StepFits}
use Rattle.locks.specs.Limits.{lock_limit}

known_in : (k : Kind) (l : ℕ) → l < lock_limit → known_by k l ≡ true
known_in Plain l h = refl
known_in Take l h = lt-ltb l lock_limit h
known_in Give l h = lt-ltb l lock_limit h

pub known_fit : (G : Graph) (s : Step) → StepFits G s → step_known s ≡ true
known_fit G s f = known_in s.kind s.lock f.lock_there

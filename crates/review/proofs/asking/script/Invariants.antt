use Rattle.std.proofs.Common.{◌≡◌, ◌+◌, length, take, replicate}
use Rattle.runs.specs.Scripts.{written}
use Rattle.review.specs.Asking.{ScriptSays}
use Rattle.review.proofs.asking.script.Given as goal

abbrev pub invariant-loop-pair : goal.invariant-loop-pair
invariant-loop-pair g l = record {
  says : ScriptSays l.script (take l.pair-index l.pairs) (replicate l.places 0);
  many : length (written l.script).calls ≡ l.pair-index + 2;
  most : (written l.script).most ≡ length l.pairs + 2;
}

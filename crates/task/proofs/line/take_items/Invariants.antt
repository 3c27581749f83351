use Rattle.std.proofs.Common.{◌≡◌, ℕ, List, [], Option}
use Rattle.task.specs.declared.fault.Wrong.{Wrong}
use Rattle.task.specs.Remaining.{words_left}
use Rattle.task.specs.Spelled.{Computes, each}
use Rattle.task.proofs.line.take_items.Given as goal

abbrev pub invariant-loop-word : goal.invariant-loop-word
invariant-loop-word g l =
    (goal.iterator-loop-word g).can_next l.word-iterator ×
    (goal.iterator-loop-word g).is_finite l.word-iterator ×
    ((meaning : List ℕ → Option _) (wrong : Wrong) → Computes g.F.Fn l.item_of meaning wrong → each meaning wrong l.items (words_left l.word-iterator) ≡ each meaning wrong [] (words_left l.fn.words))

-- What a renaming changes.
use Rattle.std.proofs.Common.{◌≡◌, ℕ, zero, suc, List, [], ◌∷◌, map, length, Option, sym, refl, ap, ◌∙◌}
use Rattle.std.specs.Option.{option_map}
use Rattle.std.proofs.lemmas.List.{length-map}
use Rattle.locks.specs.declared.steps.Kind.{Kind}
use Rattle.locks.specs.declared.steps.Kind.TheVariants.{Plain, Take, Give}
use Rattle.locks.specs.declared.steps.Step.{Step}
use Rattle.locks.specs.Graphs.{Graph, steps_at, step_at}
use Rattle.layers.specs.Numbers.{number_of, in_order}
use Rattle.layers.specs.Renaming.{renamed_lock, renamed_step, renamed_graph, IsRenamed, RenamingChangesLocksAlone}
use Rattle.layers.specs.RenamingLaws.{renamed_locations, renamed_steps, renamed_step_at}

own_number : (k : ℕ) → number_of in_order k ≡ k
own_number zero = refl
own_number (suc zero) = refl
own_number (suc (suc zero)) = refl
own_number (suc (suc (suc zero))) = refl
own_number (suc (suc (suc (suc zero)))) = refl
own_number (suc (suc (suc (suc (suc zero))))) = refl
own_number (suc (suc (suc (suc (suc (suc zero)))))) = refl
own_number (suc (suc (suc (suc (suc (suc (suc zero))))))) = refl
own_number (suc (suc (suc (suc (suc (suc (suc (suc k)))))))) = refl

own_lock : (d : Kind) (k : ℕ) → renamed_lock in_order d k ≡ k
own_lock Plain k = refl
own_lock Take k = own_number k
own_lock Give k = own_number k

own_step : (s : Step) → renamed_step in_order s ≡ s
own_step s = ap (λ k. record { kind = s.kind; lock = k; target = s.target }) (own_lock s.kind s.lock)

map_same : {X : Type 0} (f : X → X) → ((x : X) → f x ≡ x) → (xs : List X) → map f xs ≡ xs
map_same f h [] = refl
map_same f h (x ∷ xs) = ap (λ y. y ∷ map f xs) (h x) ∙ ap (λ ys. x ∷ ys) (map_same f h xs)

in_order_same : (G : Graph) → renamed_graph in_order G ≡ G
in_order_same G = ap (λ xs. record { start = G.start; steps = xs }) (map_same (map (renamed_step in_order)) (map_same (renamed_step in_order) own_step) G.steps)

is_renamed : (ns : List ℕ) (d : Kind) (k to : ℕ) → IsRenamed ns (record { kind = d; lock = k; target = to }) (renamed_step ns (record { kind = d; lock = k; target = to }))
is_renamed ns Plain k to = record { same_kind = refl; same_target = refl; plain_same = λ e. refl; take_renamed = λ e. cc; give_renamed = λ e. cc }
is_renamed ns Take k to = record { same_kind = refl; same_target = refl; plain_same = λ e. cc; take_renamed = λ e. refl; give_renamed = λ e. refl }
is_renamed ns Give k to = record { same_kind = refl; same_target = refl; plain_same = λ e. cc; take_renamed = λ e. refl; give_renamed = λ e. refl }

pub renaming_changes_locks_alone : RenamingChangesLocksAlone
renaming_changes_locks_alone = record {
  same_start = λ ns G. refl;
  same_locations = renamed_locations;
  same_count = λ ns G l. ap length (renamed_steps ns G l) ∙ length-map (steps_at G l) (renamed_step ns);
  each_step = λ ns G l n s is. (renamed_step ns s, renamed_step_at ns G l n ∙ ap (option_map (renamed_step ns)) is, is_renamed ns s.kind s.lock s.target);
  in_order_same = in_order_same;
}

-- what is answered of a step, from what the graph beneath answers
pub renamed_answer : (ns : List ℕ) (G : Graph) (l n : ℕ) (o r : Option Step) → r ≡ option_map (renamed_step ns) o → o ≡ step_at G l n → r ≡ step_at (renamed_graph ns G) l n
renamed_answer ns G l n o r is there = is ∙ ap (option_map (renamed_step ns)) there ∙ sym (renamed_step_at ns G l n)

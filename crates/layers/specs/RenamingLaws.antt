-- A renamed graph keeps the bounds of the graph beneath.
use Rattle.std.specs.Prelude.{◌≡◌, ℕ, ◌<◌, ◌≤◌, List, [], map, length, Some, None, Option, refl}
use Rattle.std.specs.List.{slice_get}
use Rattle.std.specs.Option.{option_map}
use Rattle.std.proofs.Common.{sym, ap, ◌∙◌, subst, arith}
use Rattle.std.proofs.Math.ListN.{get_or-map}
use Rattle.std.proofs.lemmas.List.{length-map, get_or_default}
use Rattle.std.proofs.lemmas.Option.{slice_get-map}
use Rattle.locks.specs.declared.steps.Kind.{Kind}
use Rattle.locks.specs.declared.steps.Kind.TheVariants.{Plain, Take, Give}
use Rattle.locks.specs.declared.steps.Step.{Step}
use Rattle.locks.specs.Graphs.{Graph, Bounded, StepFits, locations, steps_at, step_at}
use Rattle.locks.specs.Limits.{lock_limit, most_steps}
use Rattle.layers.specs.Numbers.{EachOnce, number_of}
use Rattle.layers.specs.Renaming.{renamed_lock, renamed_step, renamed_graph}

pub renamed_steps : (ns : List ℕ) (G : Graph) (l : ℕ) → steps_at (renamed_graph ns G) l ≡ map (renamed_step ns) (steps_at G l)
renamed_steps ns G l = get_or-map (map (renamed_step ns)) G.steps l []

pub renamed_step_at : (ns : List ℕ) (G : Graph) (l n : ℕ) → step_at (renamed_graph ns G) l n ≡ option_map (renamed_step ns) (step_at G l n)
renamed_step_at ns G l n = ap (λ xs. slice_get xs n) (renamed_steps ns G l) ∙ slice_get-map (renamed_step ns) (steps_at G l) n

pub renamed_locations : (ns : List ℕ) (G : Graph) → locations (renamed_graph ns G) ≡ locations G
renamed_locations ns G = length-map G.steps (map (renamed_step ns))

number_known : (ns : List ℕ) (k : ℕ) → EachOnce ns → k < lock_limit → number_of ns k < lock_limit
number_known ns k e h =
    let many = e.as_many in
    let same = get_or_default ns k 0 k (omega arith) in
    let known = e.locks k h in
    omega arith

lock_known : (ns : List ℕ) (d : Kind) (k : ℕ) → EachOnce ns → k < lock_limit → renamed_lock ns d k < lock_limit
lock_known ns Plain k e h = h
lock_known ns Take k e h = number_known ns k e h
lock_known ns Give k e h = number_known ns k e h

plain_known : (ns : List ℕ) (d : Kind) (k : ℕ) → d ≡ Plain → (d ≡ Plain → k ≡ 0) → renamed_lock ns d k ≡ 0
plain_known ns Plain k is h = h is
plain_known ns Take k is h = cc
plain_known ns Give k is h = cc

-- a step of the renamed graph is a renamed step of the graph beneath
step_fits : (ns : List ℕ) (G : Graph) (s : Step) (o : Option Step) → EachOnce ns → ((t : Step) → o ≡ Some t → StepFits G t) → option_map (renamed_step ns) o ≡ Some s → StepFits (renamed_graph ns G) s
step_fits ns G s None e fit is = cc
step_fits ns G s (Some t) e fit is =
    let fits = fit t refl in
    let to = fits.target_there in
    let many = renamed_locations ns G in
    let from : renamed_step ns t ≡ s = cc in
    subst (StepFits (renamed_graph ns G)) from (record {
      target_there = omega arith;
      lock_there = lock_known ns t.kind t.lock e fits.lock_there;
      plain_without = λ p. plain_known ns t.kind t.lock p fits.plain_without;
    })

few_there : (ns : List ℕ) (G : Graph) (l : ℕ) → length (steps_at G l) ≤ most_steps → length (steps_at (renamed_graph ns G) l) ≤ most_steps
few_there ns G l few =
    let same = ap length (renamed_steps ns G l) in
    let long = length-map (steps_at G l) (renamed_step ns) in
    omega arith

pub renamed_bounded : (ns : List ℕ) (G : Graph) → EachOnce ns → Bounded G → Bounded (renamed_graph ns G)
renamed_bounded ns G e b =
    let many = renamed_locations ns G in
    let some = b.not_empty in
    let few = b.few_locations in
    let begin = b.start_there in
    record {
      not_empty = omega arith;
      few_locations = omega arith;
      start_there = omega arith;
      few_steps = λ l. few_there ns G l (b.few_steps l);
      steps_fit = λ l n s is. step_fits ns G s (step_at G l n) e (b.steps_fit l n) (sym (renamed_step_at ns G l n) ∙ is);
    }

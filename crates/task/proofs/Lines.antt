-- A line by its keyword and its items.
use Rattle.std.proofs.Common.{◌≡◌, ℕ, cond, ltb, refl, ◌<◌, ◌≤◌, List, [], ◌∷◌, ◌++◌, length, Some, None, Ok, Err, Option, Result, sym, ap, ◌∙◌}
use Rattle.std.proofs.lemmas.Slice.Eq.{bytes_eq-Decides}
use Rattle.std.proofs.lemmas.Bool.{lt-ltb, le-ltb, cond-true, cond-false}
use Rattle.std.specs.Option.{ok_or}
use Rattle.task.specs.declared.fault.Wrong.{Wrong}
use Rattle.task.specs.declared.fault.Wrong.TheVariants.{TooMany}
use Rattle.task.specs.Pieces.{words}
use Rattle.task.specs.Spelled.{told, or_wrong, opened, each}

pub broke : {A B E : Type 0} (view : A → B) (r : Result A E) (spec : Result B E) (e y : E) → r ≡ Err y → y ≡ e → spec ≡ Err e → told view r ≡ spec
broke view r spec e y gone same is = ap (told view) (gone ∙ ap Err same) ∙ sym is

module _ (keyword : List ℕ) (all : List (List ℕ)) (l w : List ℕ) (ls ws : List (List ℕ)) (first : all ≡ l ∷ ls) (split : words l ≡ w ∷ ws) where
  pub opens : w ≡ keyword → opened keyword all ≡ Ok (ws, ls)
  opens same = rw (first, split) (cond-true _ _ _ ((bytes_eq-Decides w keyword).1 same))

-- one item of a line, after those that were got
module _ {X : Type 0} (spells : List ℕ → Option X) (wrong : Wrong) (got : List X) (all : List (List ℕ)) (w : List ℕ) (ws : List (List ℕ)) (first : all ≡ w ∷ ws) where
  each_from : (o : Option X) → spells w ≡ o → each spells wrong got all ≡ or_wrong o wrong (λ x. cond (ltb (length got) 4096) (each spells wrong (got ++ x ∷ []) ws) (Err TooMany))
  each_from o h = rw (first, h)

  pub each_more : (x : X) → Ok x ≡ ok_or (spells w) wrong → length got < 4096 → each spells wrong got all ≡ each spells wrong (got ++ x ∷ []) ws
  each_more x said room = go (spells w) refl said
    where
      go : (o : Option X) → spells w ≡ o → ◌≡◌ {A = Result X Wrong} (Ok x) (ok_or o wrong) → each spells wrong got all ≡ each spells wrong (got ++ x ∷ []) ws
      go None h is = cc
      go (Some y) h is =
          let same : y ≡ x = cc in
          each_from (Some y) h ∙ cond-true _ _ _ (lt-ltb (length got) 4096 room) ∙ ap (λ z. each spells wrong (got ++ z ∷ []) ws) same

  pub each_full : (x : X) → Ok x ≡ ok_or (spells w) wrong → 4096 ≤ length got → each spells wrong got all ≡ Err TooMany
  each_full x said full = go (spells w) refl said
    where
      go : (o : Option X) → spells w ≡ o → ◌≡◌ {A = Result X Wrong} (Ok x) (ok_or o wrong) → each spells wrong got all ≡ Err TooMany
      go None h is = cc
      go (Some y) h is = each_from (Some y) h ∙ cond-false _ _ _ (le-ltb (length got) 4096 full)

  pub each_none : (e : Wrong) → ◌≡◌ {A = Result X Wrong} (Err e) (ok_or (spells w) wrong) → each spells wrong got all ≡ Err e
  each_none e said = go (spells w) refl said
    where
      go : (o : Option X) → spells w ≡ o → ◌≡◌ {A = Result X Wrong} (Err e) (ok_or o wrong) → each spells wrong got all ≡ Err e
      go None h is = let same : wrong ≡ e = cc in each_from None h ∙ ap Err same
      go (Some y) h is = cc

-- What the passes find, item by item.
use Rattle.std.proofs.Common.{◌≡◌, ℕ, zero, suc, pred, ◌+◌, ◌-◌, ◌<◌, nat_le, Bool, true, false, cond, List, [], ◌∷◌, length, drop, Ok, Err, Result, sym, refl, ap, ◌∙◌, arith, add-one, length-drop}
use Rattle.readers.specs.declared.listing.command.Command.{Command}
use Rattle.readers.specs.declared.listing.fault.ListingFault.{ListingFault}
use Rattle.readers.specs.declared.listing.fault.Wrong.{Wrong}
use Rattle.readers.specs.declared.listing.fault.Wrong.TheVariants.{TooManyCommands, MissingTarget}
use Rattle.readers.specs.Bytes.{first, width}
use Rattle.readers.specs.Encoding.{highest}
use Rattle.readers.specs.Faults.{fault}
use Rattle.readers.specs.Flow.{most, inside, end_at, flow}
use Rattle.readers.specs.Reading.{given, go_on, broken, taken, run}
use Rattle.readers.specs.Items.{Item, item_then, items_from}
use Rattle.readers.proofs.Spelling.{within}
use Rattle.readers.proofs.Steps.{width_some, width_drop}

-- the bytes of the command before are passed over
items_skip : (s at : ℕ) (bs : List ℕ) → items_from s at bs ≡ items_from 0 (at + s) (drop s bs)
items_skip zero at [] = refl
items_skip (suc s) at [] = refl
items_skip zero at (b ∷ bs) = let e : at ≡ at + 0 = omega arith in ap (λ a. items_from 0 a (b ∷ bs)) e
items_skip (suc s) at (b ∷ bs) =
    let e : suc at + s ≡ at + suc s = omega arith in
    items_skip s (suc at) bs ∙ ap (λ a. items_from 0 a (drop s bs)) e

pub items_more : (at : ℕ) (bs rest : List ℕ) (c : Command) → first highest bs ≡ Ok c → rest ≡ drop (width c) bs → items_from 0 at bs ≡ (at, Ok c) ∷ items_from 0 (at + (length bs - length rest)) rest
items_more at [] rest c e is = cc
items_more at (b ∷ bs) rest c e is =
    let long = within (b ∷ bs) c e in
    let wide = width_some c in
    let left = ap length is ∙ length-drop (width c) (b ∷ bs) in
    let there : suc at + pred (width c) ≡ at + (length (b ∷ bs) - length rest) = omega arith in
    ap (λ r. item_then at r (λ d. items_from (pred (width d)) (suc at) bs)) e
    ∙ ap (λ ps. (at, Ok c) ∷ ps)
    (items_skip (pred (width c)) (suc at) bs
    ∙ ap (λ a. items_from 0 a (drop (pred (width c)) bs)) there
    ∙ ap (items_from 0 (at + (length (b ∷ bs) - length rest))) (sym (is ∙ width_drop c b bs)))

pub items_wrong : (at : ℕ) (bs : List ℕ) (w : Wrong) → 0 < length bs → first highest bs ≡ Err w → items_from 0 at bs ≡ (at, Err (fault w at)) ∷ []
items_wrong at [] w some e = absurd (omega arith)
items_wrong at (b ∷ bs) w some e = ap (λ r. item_then at r (λ d. items_from (pred (width d)) (suc at) bs)) e

-- x of a command, and y of a fault
abbrev pub of_item : {X : Type 0} → Result Command ListingFault → (Command → X) → (ListingFault → X) → X
of_item (Ok c) x y = x c
of_item (Err f) x y = y f

-- how many commands there are after n of them, or the first fault
abbrev pub counted : ℕ → List Item → Result ℕ ListingFault
counted n [] = Ok n
counted n (p ∷ ps) = cond (nat_le most n) (Err (fault TooManyCommands p.0)) (of_item p.1 (λ _. counted (n + 1) ps) (λ f. Err f))

abbrev pub run_items : List Item → List Command
run_items [] = []
run_items (p ∷ ps) = of_item p.1 (λ c. c ∷ run_items ps) (λ _. [])

abbrev pub flow_items : ℕ → Result (Unit {0}) ListingFault → List Item → Result (Unit {0}) ListingFault
flow_items n end [] = end
flow_items n end (p ∷ ps) = of_item p.1 (λ c. cond (inside n c) (flow_items n (end_at p.0 c) ps) (Err (fault (MissingTarget c) p.0))) (λ _. end)

unless_full : (full : Bool) (f : ListingFault) (r : Result (Unit {0}) ListingFault) (n : ℕ) (answer : Result ℕ ListingFault) → given r n ≡ answer → given (cond full (Err f) r) n ≡ cond full (Err f) answer
unless_full true f r n answer h = refl
unless_full false f r n answer h = h

pub counted_is : (s n at : ℕ) (bs : List ℕ) → given (broken s n at bs) (n + length (run s bs)) ≡ counted n (items_from s at bs)
counted_is s n at [] = let e : n + 0 ≡ n = omega arith in ap Ok e
counted_is zero n at (b ∷ bs) = go (first highest (b ∷ bs)) (λ c. counted_is (pred (width c)) (n + 1) (suc at) bs)
  where
    go : (r : Result Command Wrong) → ((c : Command) → given (broken (pred (width c)) (n + 1) (suc at) bs) (n + 1 + length (run (pred (width c)) bs)) ≡ counted (n + 1) (items_from (pred (width c)) (suc at) bs)) → given (cond (nat_le most n) (Err (fault TooManyCommands at)) (go_on r at (λ c. broken (pred (width c)) (suc n) (suc at) bs))) (n + length (taken r (λ c. run (pred (width c)) bs))) ≡ counted n (item_then at r (λ c. items_from (pred (width c)) (suc at) bs))
    go (Ok c) more =
        let e : n + length (c ∷ run (pred (width c)) bs) ≡ n + 1 + length (run (pred (width c)) bs) = omega arith in
        unless_full (nat_le most n) _ _ _ _
        (ap (λ m. given (broken (pred (width c)) m (suc at) bs) (n + length (c ∷ run (pred (width c)) bs))) (sym (add-one n))
        ∙ ap (given (broken (pred (width c)) (n + 1) (suc at) bs)) e
        ∙ more c)
    go (Err w) more = unless_full (nat_le most n) _ _ _ _ refl
counted_is (suc s) n at (b ∷ bs) = counted_is s n (suc at) bs

pub run_is : (s at : ℕ) (bs : List ℕ) → run s bs ≡ run_items (items_from s at bs)
run_is s at [] = refl
run_is zero at (b ∷ bs) = go (first highest (b ∷ bs)) (λ c. run_is (pred (width c)) (suc at) bs)
  where
    go : (r : Result Command Wrong) → ((c : Command) → run (pred (width c)) bs ≡ run_items (items_from (pred (width c)) (suc at) bs)) → taken r (λ c. run (pred (width c)) bs) ≡ run_items (item_then at r (λ c. items_from (pred (width c)) (suc at) bs))
    go (Ok c) more = ap (λ cs. c ∷ cs) (more c)
    go (Err w) more = refl
run_is (suc s) at (b ∷ bs) = run_is s (suc at) bs

pub flow_is : (n : ℕ) (end : Result (Unit {0}) ListingFault) (s at : ℕ) (bs : List ℕ) → flow n end (at + s) (run s bs) ≡ flow_items n end (items_from s at bs)
flow_is n end s at [] = refl
flow_is n end zero at (b ∷ bs) =
    go (first highest (b ∷ bs)) (λ c. flow_is n (end_at at c) (pred (width c)) (suc at) bs)
  where
    go : (r : Result Command Wrong) → ((c : Command) → flow n (end_at at c) (suc at + pred (width c)) (run (pred (width c)) bs) ≡ flow_items n (end_at at c) (items_from (pred (width c)) (suc at) bs)) → flow n end (at + 0) (taken r (λ c. run (pred (width c)) bs)) ≡ flow_items n end (item_then at r (λ d. items_from (pred (width d)) (suc at) bs))
    go (Ok c) more =
        let here : at + 0 ≡ at = omega arith in
        let wide = width_some c in
        let there : at + width c ≡ suc at + pred (width c) = omega arith in
        ap (λ a. flow n end a (c ∷ run (pred (width c)) bs)) here
        ∙ ap (λ r. cond (inside n c) r (Err (fault (MissingTarget c) at))) (ap (λ a. flow n (end_at at c) a (run (pred (width c)) bs)) there ∙ more c)
    go (Err w) more = refl
flow_is n end (suc s) at (b ∷ bs) =
    let there : at + suc s ≡ suc at + s = omega arith in
    ap (λ a. flow n end a (run s bs)) there ∙ flow_is n end s (suc at) bs

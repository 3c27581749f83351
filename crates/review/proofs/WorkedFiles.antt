-- Worked files, worked out.
use Rattle.std.proofs.Common.{◌≡◌, ℕ, ◌/◌, ◌%◌, ◌<◌, List, [], ◌∷◌, ◌++◌, length, drop, get_or, Ok, refl, sym, ap, ◌∙◌, inl, inr, arith}
use Rattle.std.proofs.lemmas.List.{length-append}
use Rattle.readers.specs.declared.listing.command.Command.TheVariants.{Stop}
use Rattle.readers.specs.Saying.{ListingSays}
use Rattle.review.specs.declared.file.kind.CommandKind.{CommandKind}
use Rattle.review.specs.declared.file.kind.CommandKind.TheVariants as kind
use Rattle.review.specs.declared.file.phase.Phase.TheVariants.{AmongPairs}
use Rattle.review.specs.Commands.{Command, left, right, rename, pair, end, first_byte, written, Sized}
use Rattle.review.specs.Order.{Allowed}
use Rattle.review.specs.Reviews.{Front}
use Rattle.review.specs.WorkedFiles.{WorkedFilesAreRefused}

nothing_before : (bs : List ℕ) → Front bs [] bs
nothing_before bs = record { split = refl; in_order = tt; sized = tt; sound = tt }

-- a kind with another first byte
other_kind : (b : ℕ) (k j : CommandKind) → first_byte k ≡ b → (first_byte j ≡ b → ⊥) → k ≡ j → ⊥
other_kind b k j e differs is = differs (ap first_byte (sym is) ∙ e)

no_rename : (k : CommandKind) → first_byte k ≡ 0x13 → Allowed AmongPairs k → ⊥
no_rename k e (inl is) = other_kind 0x13 k kind.Pair e (λ x. absurd (omega arith)) is
no_rename k e (inr is) = other_kind 0x13 k kind.End e (λ x. absurd (omega arith)) is

one_stop : ListingSays (0x00 ∷ []) (Ok (Stop ∷ []))
one_stop = (refl, record { few = omega arith; locks_known = (tt, tt); leads_inside = (tt, tt); ends = ([], Stop, refl, tt) })

abbrev first : List ℕ → ℕ
first xs = get_or xs 0 0

cut : (c : Command) (rest : List ℕ) → Sized c → 0x10 ∷ 0 ∷ 7 ∷ 0x02 ∷ [] ≡ written c ++ rest → ⊥
cut (left bs) rest s e =
    let high : 0 ≡ length bs / 256 = ap (λ xs. get_or xs 1 0) e in
    let low : 7 ≡ length bs % 256 = ap (λ xs. get_or xs 2 0) e in
    let long : 1 ≡ length (bs ++ rest) = ap (λ xs. length (drop 3 xs)) e in
    let parts = length-append bs rest in
    absurd (omega arith)
cut (right bs) rest s e = let byte : ◌≡◌ {A = ℕ} 0x10 0x11 = ap first e in absurd (omega arith)
cut (rename ns) rest s e = let byte : ◌≡◌ {A = ℕ} 0x10 0x13 = ap first e in absurd (omega arith)
cut (pair a b) rest s e = let byte : ◌≡◌ {A = ℕ} 0x10 0x12 = ap first e in absurd (omega arith)
cut end rest s e = let byte : ◌≡◌ {A = ℕ} 0x10 0x1f = ap first e in absurd (omega arith)

pub worked_files_are_refused : WorkedFilesAreRefused
worked_files_are_refused = record {
  no_bytes = (omega arith, ([], [], nothing_before [], inl (refl, λ e. cc)), refl);
  right_first = (omega arith, ([], 0x11 ∷ [], nothing_before _, (0x11, [], refl, λ k e. other_kind 0x11 k kind.Left e (λ x. absurd (omega arith))), refl));
  section_cut_short = (omega arith, ([], 0x10 ∷ 0 ∷ 7 ∷ 0x02 ∷ [], nothing_before _, inr (kind.Left, 0 ∷ 7 ∷ 0x02 ∷ [], refl, refl, cut)), refl);
  section_of_no_bytes = (omega arith, ([], record { front = []; rest = 0x10 ∷ 0 ∷ 0 ∷ []; more = []; before = nothing_before _; stands = (refl, (let h : 0 < 65536 = omega arith in h), refl); there = refl }, (refl, refl)));
  rename_behind_a_pair = (omega arith, (left (0x00 ∷ []) ∷ right (0x00 ∷ []) ∷ pair 0 0 ∷ [], 0x13 ∷ [], record { split = refl; in_order = (refl, (refl, (inr (inl refl), tt))); sized = ((let h : 1 < 65536 = omega arith in h), ((let h : 1 < 65536 = omega arith in h), (((let h : 0 < 65536 = omega arith in h), (let h : 0 < 65536 = omega arith in h)), tt))); sound = ((Stop ∷ [], one_stop), ((Stop ∷ [], one_stop), (tt, tt))) }, (0x13, [], refl, no_rename), refl));
  byte_behind_end = (omega arith, (left (0x00 ∷ []) ∷ right (0x00 ∷ []) ∷ end ∷ [], 0 ∷ [], record { split = refl; in_order = (refl, (refl, (inr (inr refl), tt))); sized = ((let h : 1 < 65536 = omega arith in h), ((let h : 1 < 65536 = omega arith in h), (tt, tt))); sound = ((Stop ∷ [], one_stop), ((Stop ∷ [], one_stop), (tt, tt))) }, (0, [], refl, λ k e a. a), refl));
  just_short_enough = λ bs long. (omega arith, ([], 0x00 ∷ bs, nothing_before _, (0, bs, refl, λ k e. other_kind 0 k kind.Left e (λ x. absurd (omega arith))), refl));
  too_long = λ bs long. omega arith;
  not_allowed = refl;
  ends_early = refl;
  over_long = refl;
  no_room = refl;
}

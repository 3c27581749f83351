use Rattle.std.proofs.Common.{◌≡◌, ℕ, ◌⊎◌, List, [], ◌++◌, codes, ap, sym, ◌∙◌, subst, ⊎_elim, append-nil}
use Rattle.std.specs.Fmt.{decimal}
use Rattle.readers.specs.declared.listing.command.Command.{Command}
use Rattle.readers.specs.declared.listing.command.Command.TheVariants.{Stop, Pass, Take, Give}
use Rattle.review.specs.Lines.{Filled}
use Rattle.review.specs.Words.{command_name, operand_words, command_words}
use Rattle.review.proofs.Filling.{nothing, joined}
use Rattle.review.proofs.file.words.put_command.Goals as goal

no_operand : (c : Command) → (c ≡ Stop) ⊎ (c ≡ Pass) → operand_words c ≡ []
no_operand c = ⊎_elim (λ e. ap operand_words e) (λ e. ap operand_words e)

named_lock : (c : Command) (k : ℕ) → (c ≡ Take k) ⊎ (c ≡ Give k) → operand_words c ≡ codes " names lock " ++ decimal k
named_lock c k = ⊎_elim (λ e. ap operand_words e) (λ e. ap operand_words e)

-- the name and then these words are the command's words
whole : (before after : List ℕ) (at : ℕ) (c : Command) (words : List ℕ) → operand_words c ≡ words → Filled before (command_name c ++ words) after at → Filled before (command_words c) after at
whole before after at c words e f = subst (λ xs. Filled before (command_name c ++ xs) after at) (sym e) f

pub returns-in-Stop : goal.returns-in-Stop
returns-in-Stop c =
    let before = c.args.space.now in
    let named = rw (c.as_bytes.ensures.value ∙ c.name.ensures) at (c.put-end.ensures before _ (nothing before)) in
    whole before _ _ c.args.command [] (no_operand c.args.command c.in-Stop.is) (rw append-nil named)

pub returns-in-Take : goal.returns-in-Take
returns-in-Take c =
    let before = c.args.space.now in
    let named = rw (c.as_bytes.ensures.value ∙ c.name.ensures) at (c.put-end.ensures before _ (nothing before)) in
    let worded = c.put-end-in-Take.ensures before _ named in
    let told = rw c.from-in-Take.ensures at (c.put_number-in-Take.ensures before _ worded) in
    whole before _ _ c.args.command _ (named_lock c.args.command c.in-Take.lock c.in-Take.is) (joined before _ (command_name c.args.command) (codes " names lock ") _ _ told)

pub returns-in-Goto : goal.returns-in-Goto
returns-in-Goto c =
    let before = c.args.space.now in
    let named = rw (c.as_bytes.ensures.value ∙ c.name.ensures) at (c.put-end.ensures before _ (nothing before)) in
    let worded = c.put-end-in-Goto.ensures before _ named in
    let told = rw c.from.ensures at (c.put_number.ensures before _ worded) in
    whole before _ _ c.args.command _ (ap operand_words c.in-Goto.is) (joined before _ (command_name c.args.command) (codes " leads to ") _ _ told)

pub returns-in-Either : goal.returns-in-Either
returns-in-Either c =
    let before = c.args.space.now in
    let name = command_name c.args.command in
    let named = rw (c.as_bytes.ensures.value ∙ c.name.ensures) at (c.put-end.ensures before _ (nothing before)) in
    let worded = c.put-end-in-Either.ensures before _ named in
    let first = joined before _ name (codes " leads to ") _ _ (rw c.from-in-Either.ensures at (c.put_number-end.ensures before _ worded)) in
    let second = joined before _ name _ (codes " and ") _ (c.put-end-in-Either-2.ensures before _ first) in
    let told = rw c.from-in-Either-2.ensures at (c.put_number-in-Either.ensures before _ second) in
    whole before _ _ c.args.command _ (ap operand_words c.in-Either.is) (joined before _ name _ _ _ told)

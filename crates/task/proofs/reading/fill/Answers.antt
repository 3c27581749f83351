use Rattle.std.proofs.Common.{◌≡◌, Err, sym, ap, ◌∙◌, codes, rules}
use Rattle.std.proofs.lemmas.Result.{err_from_is_err_and}
use Rattle.std.specs.Option.{ok_or}
use Rattle.task.specs.declared.fault.Wrong.TheVariants.{Byte, Move}
use Rattle.task.specs.Remaining.{lines_left}
use Rattle.task.specs.Spelled.{at_line, bytes, line_of, move_numbers_of, pair_of, told}
use Rattle.task.specs.Words.{byte_of, move_number}
use Rattle.task.proofs.Lines.{broke}
use Rattle.task.proofs.Stages.{line_is, fault_in_left, fault_in_right, fault_in_pair, fault_in_moves, all_lines, surplus}
use Rattle.task.proofs.reading.fill.Goals as goal
use Rattle.task.proofs.reading.fill.Goals.{After-map_err, After-map_err-2, After-map_err-3, After-map_err-4}

-- what each line spells, by what the code answered
left_is : (c : After-map_err) → at_line 1 (line_of (codes "left") bytes (lines_left c.new-lines.result)) ≡ told (λ _. (c.read_items.new.items, lines_left c.read_items.new.lines)) c.map_err.result
left_is c =
    let at : c.map_err.result ≡ at_line 1 c.read_items.result = search rules in
    line_is 1 _ _ _ _ (c.read_items.ensures byte_of Byte (λ w r p. p.says.met ∙ ap (λ v. ok_or (byte_of v) Byte) p.shows)) at

right_is : (c : After-map_err-2) → at_line 2 (line_of (codes "right") bytes (lines_left c.read_items.new.lines)) ≡ told (λ _. (c.read_items-2.new.items, lines_left c.read_items-2.new.lines)) c.map_err-2.result
right_is c =
    let at : c.map_err-2.result ≡ at_line 2 c.read_items-2.result = search rules in
    line_is 2 _ _ _ _ (c.read_items-2.ensures byte_of Byte (λ w r p. p.says.met ∙ ap (λ v. ok_or (byte_of v) Byte) p.shows)) at

pair_is : (c : After-map_err-3) → at_line 3 (line_of (codes "pair") pair_of (lines_left c.read_items-2.new.lines)) ≡ told (λ pair. (pair, lines_left c.read_pair.new.lines)) c.map_err-3.result
pair_is c =
    let at : c.map_err-3.result ≡ at_line 3 c.read_pair.result = search rules in
    line_is 3 _ _ _ _ c.read_pair.ensures at

moves_is : (c : After-map_err-4) → at_line 4 (line_of (codes "moves") move_numbers_of (lines_left c.read_pair.new.lines)) ≡ told (λ _. (c.read_items-3.new.items, lines_left c.read_items-3.new.lines)) c.map_err-4.result
moves_is c =
    let at : c.map_err-4.result ≡ at_line 4 c.read_items-3.result = search rules in
    line_is 4 _ _ _ _ (c.read_items-3.ensures move_number Move (λ w r p. p.says.met ∙ ap (λ v. ok_or (move_number v) Move) p.shows)) at

pub returns-in_err-map_err : goal.returns-in_err-map_err
returns-in_err-map_err c =
    let left = left_is (goal.at.returns-in_err-map_err c).After-map_err ∙ ap (told _) c.in_err-map_err.was in
    let gone = err_from_is_err_and c.from_residual.result c.from_residual.ensures.1 in
    broke _ _ _ c.in_err-map_err.field-0.0 gone.0 gone.1 gone.2 (fault_in_left c.args.text.now _ c.new-lines.ensures _ left)

pub returns-in_err-map_err-2 : goal.returns-in_err-map_err-2
returns-in_err-map_err-2 c =
    let left = left_is (goal.at.returns-in_err-map_err-2 c).After-map_err ∙ ap (told _) c.in_ok-map_err.was in
    let right = right_is (goal.at.returns-in_err-map_err-2 c).After-map_err-2 ∙ ap (told _) c.in_err-map_err-2.was in
    let gone = err_from_is_err_and c.from_residual-in_err-map_err-2.result c.from_residual-in_err-map_err-2.ensures.1 in
    broke _ _ _ c.in_err-map_err-2.field-0.0 gone.0 gone.1 gone.2 (fault_in_right c.args.text.now _ c.new-lines.ensures _ left _ right)

pub returns-in_err-left : goal.returns-in_err-left
returns-in_err-left c =
    let left = left_is (goal.at.returns-in_err-left c).After-map_err ∙ ap (told _) c.in_ok-map_err.was in
    let right = right_is (goal.at.returns-in_err-left c).After-map_err-2 ∙ ap (told _) c.in_ok-map_err-2.was in
    let pair = pair_is (goal.at.returns-in_err-left c).After-map_err-3 ∙ ap (told _) c.in_err-left.was in
    let gone = err_from_is_err_and c.from_residual-in_err-left.result c.from_residual-in_err-left.ensures.1 in
    broke _ _ _ c.in_err-left.field-0.0 gone.0 gone.1 gone.2 (fault_in_pair c.args.text.now _ c.new-lines.ensures _ left _ right _ pair)

pub returns-in_err-map_err-3 : goal.returns-in_err-map_err-3
returns-in_err-map_err-3 c =
    let left = left_is (goal.at.returns-in_err-map_err-3 c).After-map_err ∙ ap (told _) c.in_ok-map_err.was in
    let right = right_is (goal.at.returns-in_err-map_err-3 c).After-map_err-2 ∙ ap (told _) c.in_ok-map_err-2.was in
    let pair = pair_is (goal.at.returns-in_err-map_err-3 c).After-map_err-3 ∙ ap (told _) c.in_ok-left.was in
    let moves = moves_is (goal.at.returns-in_err-map_err-3 c).After-map_err-4 ∙ ap (told _) c.in_err-map_err-3.was in
    let gone = err_from_is_err_and c.from_residual-in_err-map_err-3.result c.from_residual-in_err-map_err-3.ensures.1 in
    broke _ _ _ c.in_err-map_err-3.field-0.0 gone.0 gone.1 gone.2 (fault_in_moves c.args.text.now _ c.new-lines.ensures _ left _ right _ pair _ moves)

pub returns-in-None : goal.returns-in-None
returns-in-None c =
    let left = left_is (goal.at.returns-in-None c).After-map_err ∙ ap (told _) c.in_ok-map_err.was in
    let right = right_is (goal.at.returns-in-None c).After-map_err-2 ∙ ap (told _) c.in_ok-map_err-2.was in
    let pair = pair_is (goal.at.returns-in-None c).After-map_err-3 ∙ ap (told _) c.in_ok-left.was in
    let moves = moves_is (goal.at.returns-in-None c).After-map_err-4 ∙ ap (told _) c.in_ok-map_err-3.was in
    sym (all_lines c.args.text.now _ c.new-lines.ensures _ left _ right _ pair _ moves c.in-None.ensures.steps.0)

pub returns-in-Some : goal.returns-in-Some
returns-in-Some c =
    let left = left_is (goal.at.returns-in-Some c).After-map_err ∙ ap (told _) c.in_ok-map_err.was in
    let right = right_is (goal.at.returns-in-Some c).After-map_err-2 ∙ ap (told _) c.in_ok-map_err-2.was in
    let pair = pair_is (goal.at.returns-in-Some c).After-map_err-3 ∙ ap (told _) c.in_ok-left.was in
    let moves = moves_is (goal.at.returns-in-Some c).After-map_err-4 ∙ ap (told _) c.in_ok-map_err-3.was in
    ap Err c.at.ensures ∙ sym (surplus c.args.text.now _ c.new-lines.ensures _ left _ right _ pair _ moves _ _ c.in-Some.ensures.steps)

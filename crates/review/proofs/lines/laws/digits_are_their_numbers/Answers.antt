use Rattle.review.proofs.Digits.{digits_are_their_numbers}
use Rattle.review.proofs.lines.laws.digits_are_their_numbers.Goals as goal

pub returns : goal.returns
returns c = digits_are_their_numbers

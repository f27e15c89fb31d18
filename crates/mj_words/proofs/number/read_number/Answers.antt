use Rattle.mj_words.proofs.Digits.{numbers-are-decimal}
use Rattle.mj_words.proofs.number.read_number.Goals as goal

pub returns-then-is_number-clause-decimal : goal.returns-then-is_number-clause-decimal
returns-then-is_number-clause-decimal c = numbers-are-decimal c.args.text.now

pub returns-else-is_number-clause-decimal : goal.returns-else-is_number-clause-decimal
returns-else-is_number-clause-decimal c = numbers-are-decimal c.args.text.now

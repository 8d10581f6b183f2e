-- The digits by how many they are.
use Rattle.std.proofs.Common.{◌∙◌, arith, length, ap}
use Rattle.std.specs.List.{list_all}
use Rattle.std.specs.Char.{is_ascii_digit}
use Rattle.date_text.proofs.MillisLemmas.{is_millis-long, is_millis-short, is_millis-longer}
use Rattle.date_text.proofs.reading.is_millis.Goals as goal

pub returns : goal.returns
returns c =
    let same = ap length c.digits_of-digits.ensures in
    c.are_digits.ensures ∙ ap (list_all is_ascii_digit) c.digits_of-digits.ensures ∙ is_millis-long c.args.text.now (omega arith) (omega arith)

pub returns-then-digits-lt5 : goal.returns-then-digits-lt5
returns-then-digits-lt5 c = let same = ap length c.digits_of-digits.ensures in is_millis-short c.args.text.now (omega arith)

pub returns-then-digits-gt19 : goal.returns-then-digits-gt19
returns-then-digits-gt19 c = let same = ap length c.digits_of-digits.ensures in is_millis-longer c.args.text.now (omega arith)

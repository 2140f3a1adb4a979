-- A digit more makes the value ten times as much and adds its own.
use Rattle.std.proofs.Common.{◌≡◌, ◌<◌, ◌-◌, get_or, length, arith}
use Rattle.lpt_script_words.proofs.Spellings.{spelled_more, place_more, digit_value_small}
use Rattle.lpt_script_words.proofs.numbers.value_of.Goals as goal

pub loop-digit-preserved : goal.loop-digit-preserved
loop-digit-preserved c =
    let digits = c.args.digits.now in
    let i = c.loop-digit.digit-index in
    let within : i < length digits = omega arith in
    let e = spelled_more digits i within in
    let small = digit_value_small digits i c.requires.digits within in
    let is : c.from.result ≡ get_or digits i 0 - 48 = c.from.ensures in
    (grind (arith, e), place_more c.loop-digit.value c.from.result i (omega arith) (rw is small))

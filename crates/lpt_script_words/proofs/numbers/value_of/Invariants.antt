use Rattle.std.proofs.Common.{◌≡◌, ◌<◌, ◌^◌, take}
use Rattle.lpt_script_words.specs.Numbers.{number_spelled}
use Rattle.lpt_script_words.proofs.numbers.value_of.Given as goal

-- the value is that of the digits so far, and of no more places
abbrev pub invariant-loop-digit : goal.invariant-loop-digit
invariant-loop-digit l =
    (l.value ≡ number_spelled (take l.digit-index l.digits)) × (l.value < 10 ^ l.digit-index)

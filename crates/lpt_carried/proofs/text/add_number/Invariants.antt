-- What was added, with the digits that are left, is the mark and all digits.
use Rattle.std.proofs.Common.{◌≡◌, ◌++◌, ◌∷◌}
use Rattle.std.specs.String.{string_bytes}
use Rattle.lpt_carried.specs.Times.{digits}
use Rattle.lpt_carried.proofs.text.add_number.Given as goal

abbrev pub invariant-loop-place : goal.invariant-loop-place
invariant-loop-place l =
    string_bytes l.text ++ digits l.place l.number
    ≡ string_bytes l.fn.text ++ l.fn.mark ∷ digits l.places l.number

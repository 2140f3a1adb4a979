-- The meaning of a message, step by step.
use Rattle.std.proofs.Common.{◌≡◌, ap, refl, ◌==◌, false, arith}
use Rattle.std.proofs.lemmas.Bool.Decides.{nat_tests}
use Rattle.lpt_memory.specs.Meanings.{command_meaning, body_meaning, meaning}
use Rattle.lpt_memory.proofs.laws.meanings_follow_octets.Goals as goal

pub returns-clause-silent : goal.returns-clause-silent
unfolding meaning
returns-clause-silent c = λ apid sizes message e. ap (command_meaning sizes) e

pub returns-clause-body : goal.returns-clause-body
unfolding meaning
returns-clause-body c = λ apid sizes message command e. ap (command_meaning sizes) e

pub returns-clause-service : goal.returns-clause-service
unfolding body_meaning
returns-clause-service c = λ sizes service subtype body other.
    let no : (service == 6) ≡ false = grind (arith, nat_tests) in
    rw no refl

pub returns-clause-subtype : goal.returns-clause-subtype
unfolding body_meaning
returns-clause-subtype c = λ sizes subtype body two five nine.
    let no_load : (subtype == 2) ≡ false = grind (arith, nat_tests) in
    let no_dump : (subtype == 5) ≡ false = grind (arith, nat_tests) in
    let no_check : (subtype == 9) ≡ false = grind (arith, nat_tests) in
    rw (no_load, no_dump, no_check) refl

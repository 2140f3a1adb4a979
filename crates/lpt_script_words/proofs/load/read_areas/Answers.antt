-- An area is that of its address and its octets.
use Rattle.std.proofs.Common.{◌≡◌, ◌∙◌, sym, Some, None, arith}
use Rattle.std.proofs.lemmas.Grind.{common_steps}
use Rattle.lpt_script_words.specs.Grammar.{area_of}
use Rattle.lpt_script_words.proofs.load.read_areas.Goals as goal

pub returns-in_default-2 : goal.returns-in_default-2
returns-in_default-2 c =
    let none : area_of c.in-Some.address.now c.in-Some-split_word.octets.now ≡ None =
    sym c.in_ok-area.ensures ∙ c.in_default-2.is in
    grind (arith, common_steps)

pub loop-address-preserved : goal.loop-address-preserved
loop-address-preserved c =
    let read : area_of c.in-Some.address.now c.in-Some-split_word.octets.now ≡ Some c.in-Some-2.area =
    sym c.in_ok-area.ensures ∙ c.in-Some-2.is in
    grind (arith, common_steps)

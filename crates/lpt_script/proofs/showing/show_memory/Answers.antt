-- What stands before the octets, and what ends the line behind it.
use Rattle.std.proofs.Common.{◌∙◌, ap, sym}
use Rattle.std.specs.Option.{option_map}
use Rattle.lpt_script_text.specs.Printing.{memory_front}
use Rattle.lpt_script.specs.Scripts.{memory_octets}
use Rattle.lpt_script.proofs.EndLemmas.{memory_shown, memory_not_shown, memory_front_ends}
use Rattle.lpt_script.proofs.showing.show_memory.Goals as goal

pub returns-in-Err-clause-ends : goal.returns-in-Err-clause-ends
returns-in-Err-clause-ends g c =
    memory_front_ends c.args.id c.args.address (memory_octets c.args.world.now c.args.id c.args.address c.args.len)
    c.in-Err.fault _ _ (c.in-Err.ensures.ends (memory_front c.args.id c.args.address) c.print_memory_front.ensures)

pub returns-in-Some-clause-ends : goal.returns-in-Some-clause-ends
returns-in-Some-clause-ends g c =
    memory_shown c.args.id c.args.address c.in-Some.octets.now _ c.put_octets.result _ _ _
    (sym c.octets_of.ensures ∙ ap (option_map (λ x. x.now)) c.in-Some.is)
    (c.in_default.ensures.ends (memory_front c.args.id c.args.address) c.print_memory_front.ensures)
    c.put_octets.ensures.ends

pub returns-in-None-clause-ends : goal.returns-in-None-clause-ends
returns-in-None-clause-ends g c =
    memory_not_shown c.args.id c.args.address _ c.put-in-None.result _ _ _
    (sym c.octets_of.ensures ∙ ap (option_map (λ x. x.now)) c.in-None.is)
    (c.in_default.ensures.ends (memory_front c.args.id c.args.address) c.print_memory_front.ensures)
    (c.put-in-None.ensures.ends _ c.print_none.ensures)

use Rattle.std.proofs.Common.{rules, length, sym, subst}
use Rattle.lpt_script_text.specs.Printing.{packet_text, journal_text}
use Rattle.lpt_script.specs.Ends.{TextEnds}
use Rattle.lpt_script.specs.Scripts.{show_text}
use Rattle.lpt_world.specs.Outside.{octets_of}
use Rattle.lpt_script.proofs.showing.run_show.Goals as goal

-- a packet is shown
pub returns-in-Packet-clause-ends : goal.returns-in-Packet-clause-ends
returns-in-Packet-clause-ends g c =
    let w = c.args.world.now in
    let a = g.K.Sink.contents c.args.out.now in
    let b = g.K.Sink.contents c.put.new.out in
    let text = packet_text c.in-Packet.number (octets_of w c.in-Packet.number) in
    subst (λ x. TextEnds (show_text x w) c.put.result a b) (sym c.in-Packet.is)
    (c.put.ensures.ends text (search rules))

-- the journal's length is shown
pub returns-in-Journal-clause-ends : goal.returns-in-Journal-clause-ends
returns-in-Journal-clause-ends g c =
    let w = c.args.world.now in
    let a = g.K.Sink.contents c.args.out.now in
    let b = g.K.Sink.contents c.put-in-Journal.new.out in
    let text = journal_text (length w.journal) in
    subst (λ x. TextEnds (show_text x w) c.put-in-Journal.result a b) (sym c.in-Journal.is)
    (c.put-in-Journal.ensures.ends text (search rules))

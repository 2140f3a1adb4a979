-- A packet more, by what it carries.
use Rattle.std.proofs.Common.{subst}
use Rattle.lpt_carried.specs.Carried.{name_of, part_named}
use Rattle.lpt_stream.specs.Pieces.{packets_of}
use Rattle.lpt_stream.proofs.EndLemmas.{any-err}
use Rattle.lpt_layout_join.proofs.StreamLemmas.{noted-taken}
use Rattle.lpt_layout_each.specs.News.{Hears}
use Rattle.lpt_layout_each.proofs.EachLemmas.{all-wanted, part-packet, told-packet}
use Rattle.lpt_layout_each.proofs.HeldsLemmas.{told-none}
use Rattle.lpt_layout_each.proofs.TellLemmas.{hears-nothing, part-none}
use Rattle.lpt_layout_each.proofs.each.Teller.add_packet.Goals as goal

-- it carries no part
pub returns-in-Err-clause-told : goal.returns-in-Err-clause-told
returns-in-Err-clause-told g c = λ first heard ps h.
    let was = c.args.self in
    let b = c.args.octets.now in
    let bs = packets_of ps in
    let hear = g.T.TakerAs.heard c.args.taker.now in
    told-packet first was heard hear ps h b c.in_ok-helds-in-Err.helds c.note.new.self hear
    (c.in_ok-helds-in-Err.ensures.held was.any bs c.in-Err.field-0 h.held c.in-Err.ensures.exact)
    (subst (Hears hear hear)
    (told-none was.wanted.reading was.any bs b c.in-Err.field-0 c.in-Err.ensures.exact)
    (hears-nothing hear))
    c.note.ensures.noted

-- and memory ran out
pub returns-in_err-helds-in-Err-clause-left : goal.returns-in_err-helds-in-Err-clause-left
returns-in_err-helds-in-Err-clause-left g c = λ first heard ps h.
    let hear = g.T.TakerAs.heard c.args.taker.now in
    any-err _ c.from_residual.result
    (part-packet first c.args.self heard hear ps h c.args.octets.now hear (part-none hear _))

-- it carries one
pub returns-clause-told : goal.returns-clause-told
returns-clause-told g c = λ first heard ps h.
    let was = c.args.self in
    let b = c.args.octets.now in
    let bs = packets_of ps in
    let hear = g.T.TakerAs.heard c.args.taker.now in
    let hears = g.T.TakerAs.heard c.take_part.new.taker in
    let some = c.in-Ok.ensures.exact in
    let part = part_named c.in-Ok.part in
    told-packet first was heard hear ps h b c.in_ok-helds.helds c.pass.new.self hears
    (c.in_ok-helds.ensures.held bs h.held some)
    (c.in_ok-helds.ensures.told bs h.held some)
    (noted-taken was.wanted b part was.skips c.pass.new.self some
    (all-wanted was.wanted.name (name_of part) h.all) c.pass.ensures)

-- the taker failed, or memory ran out
pub returns-in_err-helds-clause-left : goal.returns-in_err-helds-clause-left
returns-in_err-helds-clause-left g c = λ first heard ps h.
    let was = c.args.self in
    let bs = packets_of ps in
    let hear = g.T.TakerAs.heard c.args.taker.now in
    let hears = g.T.TakerAs.heard c.take_part.new.taker in
    any-err _ c.from_residual-in_err-helds.result
    (part-packet first was heard hear ps h c.args.octets.now hears
    (c.in_err-helds.ensures.left bs h.held c.in-Ok.ensures.exact))

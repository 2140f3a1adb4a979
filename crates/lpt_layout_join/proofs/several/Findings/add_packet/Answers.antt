-- A packet more, by what it carries.
use Rattle.std.proofs.Common.{◌∙◌, refl}
use Rattle.lpt_carried.specs.Carried.{part_named}
use Rattle.lpt_stream.specs.declared.piece_kind.PieceKind.TheVariants.{Whole}
use Rattle.lpt_layout_join.proofs.SeveralLemmas.{each-other}
use Rattle.lpt_layout_join.proofs.StreamLemmas.{gathers-packet, missing-packet, noted-taken}
use Rattle.lpt_layout_join.proofs.several.Findings.add_packet.Goals as goal

-- none that is wanted
pub returns-in_default : goal.returns-in_default
returns-in_default c = λ ps h at.
    let w = c.args.wanted.now in
    let was = c.args.self.now in
    let b = c.args.octets.now in
    gathers-packet w was ps h b was.gatherings c.take.new.self c.note.new.self
    c.in_ok-take.ensures
    (each-other w.reading w.name ps (record { kind = Whole; octets = b })
    was.gatherings (λ n its. c.in_default.ensures.none refl n its) h.gives)
    c.note.ensures.noted

-- one that is
pub returns : goal.returns
returns c = λ ps h at.
    let w = c.args.wanted.now in
    let was = c.args.self.now in
    let b = c.args.octets.now in
    let part = part_named c.in-Some.part in
    gathers-packet w was ps h b c.add.new.self c.take.new.self c.pass.new.self
    c.in_ok-take.ensures
    (c.in_ok-add.ensures w.reading w.name ps b h.gives
    c.in-Some.ensures.wanted
    (c.missing-missing.ensures ∙ missing-packet w was ps h b c.take.new.self c.in_ok-take.ensures)
    at c.in-Some.ensures.carried)
    (noted-taken w b part was.skips c.pass.new.self c.in-Some.ensures.carried
    c.in-Some.ensures.wanted c.pass.ensures)

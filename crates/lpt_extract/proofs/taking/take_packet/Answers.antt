-- What the dump report gives that octets are is what they give.
use Rattle.std.proofs.Common.{subst, List}
use Rattle.std.specs.Prelude.{IfErr, OnOk}
use Rattle.std.specs.Io.KnownBytes.{Appends}
use Rattle.lpt_memory.specs.declared.request.Area.{Area}
use Rattle.lpt_text.specs.Streams.{AppendsPart}
use Rattle.lpt_extract.specs.declared.notice.Notice.{Notice}
use Rattle.lpt_extract.specs.Extracts.{written_first}
use Rattle.lpt_extract.specs.Notices.{Hears}
use Rattle.lpt_extract.proofs.GiveLemmas.{on-held}
use Rattle.lpt_extract.proofs.SeenLemmas.{areas-seen, notices-seen}
use Rattle.lpt_extract.proofs.taking.take_packet.Goals as goal

pub returns-clause-held : goal.returns-clause-held
returns-clause-held g c = λ areas ns h.
    let w = c.args.wanted.now in
    let b = c.args.octets.now in
    on-held c.take_dump.result w.at areas _ _ ns _ _ c.take_dump.new.holding
    (areas-seen w b _ c.dump_in-dump.ensures)
    (notices-seen w b _ c.dump_in-dump.ensures c.args.place)
    (c.take_dump.ensures.held areas ns h)

pub returns-clause-wrote : goal.returns-clause-wrote
returns-clause-wrote g c =
    let w = c.args.wanted.now in
    subst (λ (areas : List Area). OnOk c.take_dump.result
    (Appends (g.K.Sink.contents c.args.out.now) (g.K.Sink.contents c.take_dump.new.out)
    (written_first w.at areas)))
    (areas-seen w c.args.octets.now _ c.dump_in-dump.ensures)
    c.take_dump.ensures.wrote

pub returns-clause-heard : goal.returns-clause-heard
returns-clause-heard g c =
    subst (λ (ns : List Notice). OnOk c.take_dump.result
    (Hears (g.L.Listener.heard c.args.listener.now)
    (g.L.Listener.heard c.take_dump.new.listener) ns))
    (notices-seen c.args.wanted.now c.args.octets.now _ c.dump_in-dump.ensures c.args.place)
    c.take_dump.ensures.heard

pub returns-clause-part : goal.returns-clause-part
returns-clause-part g c =
    let w = c.args.wanted.now in
    subst (λ (areas : List Area). IfErr c.take_dump.result (λ _. AppendsPart
    (g.K.Sink.contents c.args.out.now) (g.K.Sink.contents c.take_dump.new.out)
    (written_first w.at areas)))
    (areas-seen w c.args.octets.now _ c.dump_in-dump.ensures)
    c.take_dump.ensures.part

-- Event after event, until none is left.
use Rattle.std.proofs.Common.{◌≡◌, ◌∙◌, ap, sym, subst, refl, inr, inl, take, Ok, Err, List, Option, arith}
use Rattle.lpt_stream.specs.Buffers.{octets_held}
use Rattle.lpt_stream.proofs.EndLemmas.{other-fault, reader-all, reader-kept, writer-after, writer-all}
use Rattle.lpt_spacecraft.specs.Streams.{length_of, ServesTo}
use Rattle.lpt_spacecraft.specs.declared.front.Front.TheVariants as fronts
use Rattle.lpt_spacecraft.specs.declared.told.Told.{Told}
use Rattle.lpt_spacecraft.proofs.EventLemmas.{served-more, served-next, served-none}
use Rattle.lpt_spacecraft.proofs.FrontLemmas.{front-as}
use Rattle.lpt_spacecraft.proofs.NoiseLemmas.{served-passed}
use Rattle.lpt_spacecraft.proofs.SearchLemmas.{cutting-new, cutting-next}
use Rattle.lpt_spacecraft.proofs.StreamLemmas.{endless, serve-broken, serve-fault, serve-read, serve-reader, serve-stop}
use Rattle.lpt_spacecraft.proofs.serving.serve_stream.Goals as goal

pub loop-count-init : goal.loop-count-init
loop-count-init g c = record {
  served = served-none c.args.pace c.args.craft.now c.new-course.result
      (g.P.Peer.remaining c.args.peer.now) (g.K.Sink.contents c.args.out.now)
      (g.C.Clock.answers c.args.clock.now) (g.L.Listener.heard c.args.listener.now)
      (octets_held c.new-buffer.result) _ _ c.new-buffer.ensures.held c.new-buffer.ensures.step
      c.new-course.ensures.pace
      c.new-course.ensures.since c.new-course.ensures.uses;
  cutting = cutting-new c.args.pace.passing c.new-buffer.result (g.P.Peer.remaining c.args.peer.now)
      c.new-buffer.ensures.cut c.new-buffer.ensures.step c.new-buffer.ensures.end;
  idle = c.requires.idle;
  kept = c.requires.kept;
  config = refl;
  reader = refl;
  writer = refl;
}

-- a run was passed over
pub loop-count-preserved-in-Ok-Strays : goal.loop-count-preserved-in-Ok-Strays
loop-count-preserved-in-Ok-Strays g c =
    let found = front-as _ _ (fronts.Strays c.in-Ok-Strays.len) _ _ _ _ _ _ _
    c.in-Ok-Strays.field-0-is c.in-Ok-Strays.ensures.finds in
    let at = served-more c.args.pace c.args.craft.now c.loop-count.craft c.loop-count.course _ _ _
    _ found.0 _ _ _ _ _ c.loop-count.invariant.served found.1.consumed found.1.stays refl
    c.in-Ok-Strays.ensures.same in
    record {
      served = served-passed c.args.pace c.args.craft.now c.loop-count.craft c.loop-count.course _ _
          _ (octets_held c.find_front.new.buffer) _ _ _ _ _ c.in-Ok-Strays.len _ at found.3.2
          found.3.1 found.3.0 c.tell.ensures c.saturating_add-place.ensures;
      cutting = found.2;
      idle = c.loop-count.invariant.idle;
      kept = c.loop-count.invariant.kept;
      config = c.loop-count.invariant.config;
      reader = found.4 ∙ c.loop-count.invariant.reader;
      writer = c.in-Ok-Strays.ensures.writer ∙ c.loop-count.invariant.writer;
    }

-- it stops there
pub returns-in-Ok-Stop-clause-ends : goal.returns-in-Ok-Stop-clause-ends
returns-in-Ok-Stop-clause-ends g c =
    let found = front-as _ _ (fronts.Stop c.in-Ok-Stop.stop) _ _ _ _ _ _ _
    c.in-Ok-Stop.field-0-is c.in-Ok-Stop.ensures.finds in
    let at = served-more c.args.pace c.args.craft.now c.loop-count.craft c.loop-count.course _ _ _
    _ found.0 _ _ _ _ _ c.loop-count.invariant.served found.1.consumed found.1.stays refl
    c.in-Ok-Stop.ensures.same in
    serve-stop c.stop_at.result c.in-Ok-Stop.stop c.args.pace _ _ _ _ _ _ _ _ _
    c.stop_at.ensures.stop c.stop_at.ensures.fault at c.stop_at.ensures.same
    (found.3 (length_of at.events) at.place_is)

pub returns-in-Ok-Stop-clause-reader : goal.returns-in-Ok-Stop-clause-reader
returns-in-Ok-Stop-clause-reader g c =
    let found = front-as _ _ (fronts.Stop c.in-Ok-Stop.stop) _ _ _ _ _ _ _
    c.in-Ok-Stop.field-0-is c.in-Ok-Stop.ensures.finds in
    reader-all _ c.stop_at.result _ _ c.stop_at.ensures.fault
    (found.4 ∙ c.loop-count.invariant.reader)

pub returns-in-Ok-Stop-clause-writer : goal.returns-in-Ok-Stop-clause-writer
returns-in-Ok-Stop-clause-writer g c =
    writer-all c.stop_at.result _ _ _ c.stop_at.ensures.writer
    (c.in-Ok-Stop.ensures.writer ∙ c.loop-count.invariant.writer)

-- a read or a write failed
pub returns-in-Err-clause-ends : goal.returns-in-Err-clause-ends
returns-in-Err-clause-ends g c =
    serve-fault c.in-Err.fault c.args.pace c.args.craft.now c.loop-count.craft c.loop-count.course
    _ _ _ _ _ _ _ _ _ c.in-Err.ensures.finds c.loop-count.invariant.served c.in-Err.ensures.same

pub returns-in-Err-clause-reader : goal.returns-in-Err-clause-reader
returns-in-Err-clause-reader g c =
    serve-reader c.in-Err.fault c.args.pace c.args.craft.now c.loop-count.craft c.loop-count.course
    _ _ _ _ _ _ _ _ _ c.in-Err.ensures.finds c.loop-count.invariant.reader
    c.loop-count.invariant.served

pub returns-in-Err-clause-writer : goal.returns-in-Err-clause-writer
returns-in-Err-clause-writer g c =
    writer-after c.in-Err.fault _ _ _ c.in-Err.ensures.writer c.loop-count.invariant.writer

-- no more requests can be numbered
pub returns-then-is_full-clause-ends : goal.returns-then-is_full-clause-ends
returns-then-is_full-clause-ends g c =
    let found = front-as _ _ (fronts.Packet c.in-Ok-Packet.len) _ _ _ _ _ _ _
    c.in-Ok-Packet.field-0-is c.in-Ok-Packet.ensures.finds in
    let at = served-more c.args.pace c.args.craft.now c.loop-count.craft c.loop-count.course _ _ _
    _ found.0 _ _ _ _ _ c.loop-count.invariant.served found.1.consumed found.1.stays found.3.0
    c.in-Ok-Packet.ensures.same in
    serve-read c.args.pace c.args.craft.now c.loop-count.craft c.loop-count.course _ _ _ _ _ at

pub returns-then-is_full-clause-reader : goal.returns-then-is_full-clause-reader
returns-then-is_full-clause-reader g c =
    inr (inr (inl (c.is_full.ensures.full c.if-is_full.true)))

pub returns-then-is_full-clause-writer : goal.returns-then-is_full-clause-writer
returns-then-is_full-clause-writer g c =
    c.in-Ok-Packet.ensures.writer ∙ c.loop-count.invariant.writer

-- work broke off in a packet
pub returns-in-Err-serve_packet-clause-ends : goal.returns-in-Err-serve_packet-clause-ends
returns-in-Err-serve_packet-clause-ends g c =
    let found = front-as _ _ (fronts.Packet c.in-Ok-Packet.len) _ _ _ _ _ _ _
    c.in-Ok-Packet.field-0-is c.in-Ok-Packet.ensures.finds in
    let at = served-more c.args.pace c.args.craft.now c.loop-count.craft c.loop-count.course _ _ _
    _ found.0 _ _ _ _ _ c.loop-count.invariant.served found.1.consumed found.1.stays found.3.0
    c.in-Ok-Packet.ensures.same in
    subst (λ (h : Option (List Told)). ServesTo c.args.pace (Err c.in-Err-serve_packet.fault)
    c.args.craft.now c.serve_packet.new.craft (g.P.Peer.remaining c.args.peer.now)
    (g.P.Peer.remaining c.find_front.new.peer) (g.K.Sink.contents c.args.out.now)
    (g.K.Sink.contents c.serve_packet.new.out) (g.C.Clock.answers c.args.clock.now)
    (g.C.Clock.answers c.due_by-due.new.clock) (g.L.Listener.heard c.args.listener.now) h)
    (sym c.in-Err-serve_packet.ensures.untold)
    (serve-broken c.in-Err-serve_packet.fault c.args.pace c.args.craft.now c.loop-count.craft
    c.serve_packet.new.craft c.loop-count.course c.loop-count.craft.config _ _ _
    (octets_held c.find_front.new.buffer)
    (take c.in-Ok-Packet.len c.octets_held.result.now) _
    c.due_by-due.result c.loop-count.count c.loop-count.place c.in-Ok-Packet.len
    c.in-Err-serve_packet.ensures.fault at
    c.loop-count.invariant.config found.3.2
    (ap (take c.in-Ok-Packet.len) c.octets_held.ensures) c.due_by-due.ensures
    c.in-Err-serve_packet.ensures.breaks)

pub returns-in-Err-serve_packet-clause-reader : goal.returns-in-Err-serve_packet-clause-reader
returns-in-Err-serve_packet-clause-reader g c =
    let found = front-as _ _ (fronts.Packet c.in-Ok-Packet.len) _ _ _ _ _ _ _
    c.in-Ok-Packet.field-0-is c.in-Ok-Packet.ensures.finds in
    reader-kept _ c.in-Err-serve_packet.fault _ _ (other-fault c.in-Err-serve_packet.fault
    c.in-Err-serve_packet.ensures.fault)
    (found.4 ∙ c.loop-count.invariant.reader)

pub returns-in-Err-serve_packet-clause-writer : goal.returns-in-Err-serve_packet-clause-writer
returns-in-Err-serve_packet-clause-writer g c =
    writer-after c.in-Err-serve_packet.fault _ _ _ c.in-Err-serve_packet.ensures.writer
    (c.in-Ok-Packet.ensures.writer ∙ c.loop-count.invariant.writer)

-- a packet was taken
pub loop-count-preserved : goal.loop-count-preserved
loop-count-preserved g c =
    let found = front-as _ _ (fronts.Packet c.in-Ok-Packet.len) _ _ _ _ _ _ _
    c.in-Ok-Packet.field-0-is c.in-Ok-Packet.ensures.finds in
    let at = served-more c.args.pace c.args.craft.now c.loop-count.craft c.loop-count.course _ _ _
    _ found.0 _ _ _ _ _ c.loop-count.invariant.served found.1.consumed found.1.stays found.3.0
    c.in-Ok-Packet.ensures.same in
    record {
      served = served-next c.args.pace c.args.craft.now c.loop-count.craft c.serve_packet.new.craft
          c.loop-count.course c.serve_packet.new.course c.loop-count.craft.config _ _ _ _
          (octets_held c.find_front.new.buffer) _
          (take c.in-Ok-Packet.len c.octets_held.result.now) _ _ _ _ c.due_by-due.result
          c.loop-count.count c.loop-count.place c.in-Ok-Packet.len _
          at
          c.loop-count.invariant.config found.3.2 found.3.1
          (ap (take c.in-Ok-Packet.len) c.octets_held.ensures) c.due_by-due.ensures
          c.in-Ok.ensures.ok c.in-Ok.ensures.since c.in-Ok.ensures.pace
          c.saturating_add-place-in-loop-count.ensures c.skip.ensures.held
          c.skip.ensures.end c.skip.ensures.step;
      cutting = cutting-next c.args.pace.passing c.find_front.new.buffer c.skip.new.self _ found.2
          c.skip.ensures.cut c.skip.ensures.step c.skip.ensures.end;
      idle = c.in-Ok.ensures.idle;
      kept = c.in-Ok.ensures.kept;
      config = c.in-Ok.ensures.config ∙ c.loop-count.invariant.config;
      reader = found.4 ∙ c.loop-count.invariant.reader;
      writer = c.in-Ok.ensures.writer ∙ (c.in-Ok-Packet.ensures.writer ∙
          c.loop-count.invariant.writer);
    }

-- so many events came
pub returns-clause-ends : goal.returns-clause-ends
returns-clause-ends g c =
    serve-read c.args.pace c.args.craft.now c.loop-count.craft c.loop-count.course _ _ _ _ _
    c.loop-count.invariant.served

pub returns-clause-reader : goal.returns-clause-reader
returns-clause-reader g c =
    let most : c.loop-count.count ≡ 18446744073709551615 =
    grind (arith, c.loop-count.auto.count-end, c.loop-count-test.false) in
    inr (endless c.args.pace c.args.craft.now c.loop-count.craft c.loop-count.course _ _ _ _ _
    c.loop-count.invariant.served most)

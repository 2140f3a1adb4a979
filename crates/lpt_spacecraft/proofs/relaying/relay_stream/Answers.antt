-- Stretch after stretch, until the stream stops.
use Rattle.std.proofs.Common.{◌≡◌, ◌∙◌, ap, sym, subst, refl, inr, ◌+◌, ◌-◌, ◌^◌, min, Err, [], take, drop, arith}
use Rattle.lpt_text.specs.Streams.{ReadFails}
use Rattle.lpt_stream.specs.Buffers.{octets_held}
use Rattle.lpt_spacecraft.specs.Waiting.{HandsOver, IsUnending}
use Rattle.lpt_spacecraft.specs.declared.front.Front.TheVariants as fronts
use Rattle.lpt_spacecraft.proofs.FrontLemmas.{front-as}
use Rattle.lpt_spacecraft.proofs.RelayLemmas.{hands-fault, hands-front, hands-reader, hands-stop, relayed-frame, relayed-more, relayed-none, relayed-run, unending}
use Rattle.lpt_spacecraft.proofs.SearchLemmas.{cutting-new, cutting-next}
use Rattle.lpt_spacecraft.proofs.relaying.relay_stream.Goals as goal

pub loop-count-init : goal.loop-count-init
loop-count-init g c = record {
  handed = relayed-none c.args.passing (g.P.Peer.remaining c.args.peer.now)
      (g.R.Relay.handed c.args.relay.now) (octets_held c.new-buffer.result) _ _
      c.new-buffer.ensures.held c.new-buffer.ensures.step;
  cutting = cutting-new c.args.passing c.new-buffer.result (g.P.Peer.remaining c.args.peer.now)
      c.new-buffer.ensures.cut c.new-buffer.ensures.step c.new-buffer.ensures.end;
  reader = refl;
}

-- it stops there
pub returns-in-Ok-Stop-clause-hands : goal.returns-in-Ok-Stop-clause-hands
returns-in-Ok-Stop-clause-hands g c =
    let found = front-as _ _ (fronts.Stop c.in-Ok-Stop.stop) _ _ _ _ _ _ _
    c.in-Ok-Stop.field-0-is c.in-Ok-Stop.ensures.finds in
    hands-stop c.args.passing _ _ _ _ _ _ c.loop-count.count c.loop-count.place c.in-Ok-Stop.stop
    (relayed-more c.args.passing _ _ _ _ _ _ found.0 _ _ _ _ _ c.loop-count.invariant.handed
    found.1.consumed found.1.stays refl) found.3

pub returns-in-Ok-Stop-clause-reader : goal.returns-in-Ok-Stop-clause-reader
returns-in-Ok-Stop-clause-reader g c =
    let found = front-as _ _ (fronts.Stop c.in-Ok-Stop.stop) _ _ _ _ _ _ _
    c.in-Ok-Stop.field-0-is c.in-Ok-Stop.ensures.finds in
    found.4 ∙ c.loop-count.invariant.reader

-- no more is taken behind a run
pub returns-then-not-hand-clause-hands : goal.returns-then-not-hand-clause-hands
returns-then-not-hand-clause-hands g c =
    let found = front-as _ _ (fronts.Strays c.in-Ok-Strays.len) _ _ _ _ _ _ _
    c.in-Ok-Strays.field-0-is c.in-Ok-Strays.ensures.finds in
    hands-front c.args.passing _ _ _ _ _ _ _ _
    (relayed-run c.args.passing _ _ _ _ _ _ (octets_held c.find_front.new.buffer) _ _ _
    c.loop-count.count c.loop-count.place c.in-Ok-Strays.len
    (min (c.loop-count.place + c.in-Ok-Strays.len) (2 ^ 64 - 1))
    (relayed-more c.args.passing _ _ _ _ _ _ found.0 _ _ _ _ _ c.loop-count.invariant.handed
    found.1.consumed found.1.stays refl)
    found.3.2 found.3.1 found.3.0 c.hand.ensures.handed refl)

-- it was handed over
pub loop-count-preserved-in-Ok-Strays : goal.loop-count-preserved-in-Ok-Strays
loop-count-preserved-in-Ok-Strays g c =
    let found = front-as _ _ (fronts.Strays c.in-Ok-Strays.len) _ _ _ _ _ _ _
    c.in-Ok-Strays.field-0-is c.in-Ok-Strays.ensures.finds in
    record {
      handed = relayed-run c.args.passing _ _ _ _ _ _ (octets_held c.find_front.new.buffer) _ _ _
          c.loop-count.count c.loop-count.place c.in-Ok-Strays.len _
          (relayed-more c.args.passing _ _ _ _ _ _ found.0 _ _ _ _ _
          c.loop-count.invariant.handed found.1.consumed found.1.stays refl)
          found.3.2 found.3.1 found.3.0 c.hand.ensures.handed c.saturating_add-place.ensures;
      cutting = found.2;
      reader = found.4 ∙ c.loop-count.invariant.reader;
    }

-- a fault ends a search
pub returns-in-Err-clause-hands : goal.returns-in-Err-clause-hands
returns-in-Err-clause-hands g c =
    subst (λ f. HandsOver c.args.passing (Err f) (g.P.Peer.remaining c.args.peer.now)
    (g.P.Peer.remaining c.find_front.new.peer) (g.R.Relay.handed c.args.relay.now)
    (g.R.Relay.handed c.loop-count.relay)) (sym c.unwritten_fault.ensures)
    (hands-fault c.in-Err.fault c.args.passing _ _ _ _ _ _ _ _ _ c.loop-count.count
    c.loop-count.place c.in-Err.ensures.finds c.loop-count.invariant.handed)

pub returns-in-Err-clause-reader : goal.returns-in-Err-clause-reader
returns-in-Err-clause-reader g c =
    subst (λ f. ReadFails (IsUnending c.args.passing (g.P.Peer.remaining c.args.peer.now)
    (g.P.Peer.remaining c.find_front.new.peer)) f (g.P.Peer.failed c.args.peer.now)
    (g.P.Peer.failed c.find_front.new.peer)) (sym c.unwritten_fault.ensures)
    (hands-reader c.in-Err.fault c.args.passing _ _ _ _ _ _ _ _ _ _ c.loop-count.count
    c.loop-count.place c.in-Err.ensures.finds c.loop-count.invariant.reader
    c.loop-count.invariant.handed)

-- there is no memory for a packet
pub returns-in_default-clause-hands : goal.returns-in_default-clause-hands
returns-in_default-clause-hands g c =
    let found = front-as _ _ (fronts.Packet c.in-Ok-Packet.len) _ _ _ _ _ _ _
    c.in-Ok-Packet.field-0-is c.in-Ok-Packet.ensures.finds in (
      [],
      hands-front c.args.passing _ _ _ _ _ _ _ _
          (relayed-more c.args.passing _ _ _ _ _ _ found.0 _ _ _ _ _
          c.loop-count.invariant.handed found.1.consumed found.1.stays found.3.0),
    )

-- no more is taken behind a packet
pub returns-then-not-hand-2-clause-hands : goal.returns-then-not-hand-2-clause-hands
returns-then-not-hand-2-clause-hands g c =
    let found = front-as _ _ (fronts.Packet c.in-Ok-Packet.len) _ _ _ _ _ _ _
    c.in-Ok-Packet.field-0-is c.in-Ok-Packet.ensures.finds in
    let len = c.in-Ok-Packet.len in
    let is : c.from_vec.result ≡ take len (octets_held c.find_front.new.buffer) =
    c.from_vec.ensures ∙ c.in-Ok.ensures.items
    ∙ ap (take len) c.octets_held.ensures in
    hands-front c.args.passing _ _ _ _ _ _ _ _
    (relayed-frame c.args.passing _ _ _ _ _ _ (drop len (octets_held c.find_front.new.buffer))
    c.from_vec.result _ _ _ _ c.loop-count.count c.loop-count.place len
    (min (c.loop-count.place + len) (2 ^ 64 - 1))
    (relayed-more c.args.passing _ _ _ _ _ _ found.0 _ _ _ _ _ c.loop-count.invariant.handed
    found.1.consumed found.1.stays found.3.0)
    found.3.2 found.3.1 is c.hand-in-loop-count.ensures.handed refl refl refl refl)

-- one was handed over
pub loop-count-preserved : goal.loop-count-preserved
loop-count-preserved g c =
    let found = front-as _ _ (fronts.Packet c.in-Ok-Packet.len) _ _ _ _ _ _ _
    c.in-Ok-Packet.field-0-is c.in-Ok-Packet.ensures.finds in
    let len = c.in-Ok-Packet.len in
    let is : c.from_vec.result ≡ take len (octets_held c.find_front.new.buffer) =
    c.from_vec.ensures ∙ c.in-Ok.ensures.items
    ∙ ap (take len) c.octets_held.ensures in
    record {
      handed = relayed-frame c.args.passing _ _ _ _ _ _ _ c.from_vec.result _ _ _ _
          c.loop-count.count c.loop-count.place len _
          (relayed-more c.args.passing _ _ _ _ _ _ found.0 _ _ _ _ _
          c.loop-count.invariant.handed found.1.consumed found.1.stays found.3.0)
          found.3.2 found.3.1 is c.hand-in-loop-count.ensures.handed
          c.saturating_add-place-in-loop-count.ensures c.skip.ensures.held c.skip.ensures.end
          c.skip.ensures.step;
      cutting = cutting-next c.args.passing c.find_front.new.buffer c.skip.new.self _ found.2
          c.skip.ensures.cut c.skip.ensures.step c.skip.ensures.end;
      reader = found.4 ∙ c.loop-count.invariant.reader;
    }

-- so many stretches came
pub returns-clause-hands : goal.returns-clause-hands
returns-clause-hands g c =
    hands-front c.args.passing _ _ _ _ _ _ _ _ c.loop-count.invariant.handed

pub returns-clause-reader : goal.returns-clause-reader
returns-clause-reader g c =
    let most : c.loop-count.count ≡ 18446744073709551615 =
    grind (arith, c.loop-count.auto.count-end, c.loop-count-test.false) in
    inr (unending c.args.passing _ _ _ _ _ _ c.loop-count.count _ c.loop-count.invariant.handed
    most)

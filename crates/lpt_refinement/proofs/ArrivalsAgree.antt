-- What the receiver makes of a part goes by the journal's tests; hands have what the journal says.
use Rattle.std.proofs.Common.{◌≡◌, ◌∙◌, ap, sym, refl, ℕ, nat_le, Bool, not, ◌&&◌, if◌then◌else◌, Option, Some, None, is_some}
use Rattle.std.specs.Option.{option_map, option_map_or, option_and_then}
use Rattle.std.specs.Prelude.{slice_get}
use Rattle.std.proofs.lemmas.Option.{slice_get-map}
use Rattle.std.specs.FinMap as maps
use Rattle.lpt_packet.specs.declared.direction.Direction.{Direction}
use Rattle.lpt_packet.specs.Names.{Name}
use Rattle.lpt_events.specs.NamedParts.{NamedPart}
use Rattle.lpt_pus.specs.Telemetry.{Telemetry}
use Rattle.lpt_ledger.specs.States.{state_of}
use Rattle.lpt_events.specs.declared.lane.Lane.{Lane}
use Rattle.lpt_link.specs.declared.packet.LinkPacket.{LinkPacket}
use Rattle.lpt_events.specs.Lanes.{lane_direction}
use Rattle.lpt_events.specs.Sides.{receiver_side}
use Rattle.lpt_link.specs.Links.{packet_in_hand}
use Rattle.lpt_node.specs.declared.accepted.Accepted.{Accepted}
use Rattle.lpt_events.specs.declared.config.Config.{Config}
use Rattle.lpt_events.specs.declared.side.Side.{Side}
use Rattle.lpt_events.specs.Arrivals.{NotRead, arrival_in}
use Rattle.lpt_node.specs.Nodes.{NodeData}
use Rattle.lpt_node.specs.Receivers.{ReceiverState, table_in, part_received, received_from, if_free}
use Rattle.lpt_node.specs.Receiving.{after_received, receiver_of, abort_head, part_accepted}
use Rattle.lpt_reception.specs.Received.{Parts, contradicts, is_gap, is_whole}
use Rattle.lpt_part.specs.declared.reason.Reason.TheVariants as reason
use Rattle.lpt_table.specs.Offering.{OfferKind, Kept, Again, Whole, Conflict, Gap, NoRoom, part_offered, is_full, is_open, parts_at, taken_out, with_entry}
use Rattle.lpt_table.specs.Tables.{TableState}
use Rattle.lpt_journal.specs.Journal.{History}
use Rattle.lpt_journal.specs.Hands.{hand, arrival_at, in_hand}
use Rattle.lpt_journal.specs.Receivers.{as_kept, with_piece, heard, has_parts, is_closed, reception_count, limits}
use Rattle.lpt_refinement.specs.Shows.{Shows, ShowsReceiving, closed_mark, sent_packet}
use Rattle.lpt_model.specs.State.{State, arrival_held}
use Rattle.lpt_refinement.specs.Views.{views, receiving_view}
use Rattle.lpt_refinement.proofs.ReceivingShown.{full_shown, parts_shown}
use Rattle.lpt_memory.specs.Memories.{Contents}

-- ---- a part

-- what an offer comes to, and the table after it, by the table's tests
abbrev made_of : (full contra again gap there whole : Bool)
    → TableState
    → Name
    → (before with_it : Parts)
    → ℕ
    → OfferKind × TableState
made_of full contra again gap there whole t name before with_it now =
    if full then (NoRoom, t)
    else if contra then (Conflict reason.Conflict, taken_out t name)
    else if again then (Again, with_entry t name before now)
    else if gap then (if there then (Conflict reason.Discontinuity, taken_out t name) else (Gap, t))
    else if whole then (Whole, taken_out t name)
    else (Kept, with_entry t name with_it now)

-- the end after a part, and its answer, by all tests
abbrev pub delivery : Side
    → (closed full contra again gap there whole : Bool)
    → Option Telemetry
    → NodeData
    → ReceiverState
    → NamedPart
    → (before with_it : Parts)
    → NodeData × Accepted
delivery side closed full contra again gap there whole head d r q before with_it =
    after_received side d q
    (if_free (state_of (closed_mark closed)) r
    (received_from head r q.name with_it
    (made_of full contra again gap there whole (table_in r) q.name before with_it d.clock)))

-- the end's step goes by the tests
part_delivered : (side : Side) (c : Config) (d : NodeData) (q : NamedPart) (closed full : Bool)
    (before : Parts)
    → maps.get d.receiving.ledger q.name ≡ closed_mark closed
    → is_full (table_in (receiver_of c d.receiving)) q.name ≡ full
    → parts_at (table_in (receiver_of c d.receiving)) q.name ≡ before
    → part_accepted side c d q
    ≡ delivery side closed full (contradicts before q.number (as_kept q))
    (is_some (maps.get before q.number)) (is_gap c.mode before q.number)
    (is_open (table_in (receiver_of c d.receiving)) q.name) (is_whole (with_piece before q))
    (abort_head side c d q.name.source) d
    (receiver_of c d.receiving) q before (with_piece before q)
unfolding part_received part_offered
part_delivered side c d q closed full before e1 e2 e3 =
    let r = receiver_of c d.receiving in
    λ i. after_received side d q
    (if_free (state_of (e1 i)) r
    (received_from (abort_head side c d q.name.source) r q.name (with_piece (e3 i) q)
    (made_of (e2 i) (contradicts (e3 i) q.number (as_kept q)) (is_some (maps.get (e3 i) q.number))
    (is_gap c.mode (e3 i) q.number) (is_open (table_in r) q.name) (is_whole (with_piece (e3 i) q)) (table_in r) q.name (e3 i) (with_piece (e3 i) q) d.clock)))

-- the same, by what the journal says of the part's transaction
abbrev pub delivery_told : Config → History → Direction → NodeData → NamedPart → NodeData × Accepted
delivery_told c h w d q =
    let s = heard c h w q.name in
    delivery (receiver_side w) (is_closed h w q.name)
    (not (has_parts s) && nat_le (limits c h (receiver_side w)).receptions (reception_count c h w))
    (contradicts s q.number (as_kept q)) (is_some (maps.get s q.number))
    (is_gap c.mode s q.number) (is_open (table_in (receiver_of c d.receiving)) q.name)
    (is_whole (with_piece s q)) (abort_head (receiver_side w) c d q.name.source) d (receiver_of c d.receiving) q s (with_piece s q)

pub part_agrees : (c : Config) (h : History) (w : Direction) (d : NodeData) (q : NamedPart)
    → ShowsReceiving d.receiving (receiving_view c h w)
    → part_accepted (receiver_side w) c d q ≡ delivery_told c h w d q
part_agrees c h w d q own =
    part_delivered (receiver_side w) c d q _ _ _ (own.ledger q.name) (full_shown c h w q.name own)
    (parts_shown c q.name own)

-- ---- what is in a hand

-- what the link has in a lane's hand is to its receiver what the journal says
pub arrival_agrees : (c : Config) (first : Contents) (s : State) (h : History) (l : Lane)
    → Shows s (views c first h)
    → arrival_held c (lane_direction l) (packet_in_hand s.link l) ≡ in_hand c h l
arrival_agrees c first s h l k =
    ap (λ o. arrival_held c w (option_and_then (slice_get s.link.packets) o)) (k.link.hands l)
    ∙ go (hand h l) where
      w : Direction
      w = lane_direction l

      put : (o : Option LinkPacket)
          → option_map_or (λ x. arrival_in c w x.octets) o NotRead
          ≡ option_map_or (λ p. arrival_in c w p.octets) (option_map sent_packet o) NotRead
      put None = refl
      put (Some p) = refl

      go : (o : Option ℕ)
          → arrival_held c w (option_and_then (slice_get s.link.packets) o)
          ≡ option_map_or (arrival_at c h w) o NotRead
      go None = refl
      go (Some n) =
          put (slice_get s.link.packets n)
          ∙ ap (λ o. option_map_or (λ p. arrival_in c w p.octets) o NotRead)
          (sym (slice_get-map sent_packet s.link.packets n)
          ∙ ap (λ ps. slice_get ps n) k.link.packets)

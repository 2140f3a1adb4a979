-- Ground makes no reports of abortions.
use Rattle.std.proofs.Common.{◌≡◌, refl, Option, Some, None}
use Rattle.lpt_packet.specs.Names.{Name}
use Rattle.lpt_events.specs.Arrivals.{Arrival, NotRead, AnIdle, Foreign, ARequest, AReport, NoPart, APart, AnAbort}
use Rattle.lpt_events.specs.NamedParts.{NamedPart}
use Rattle.lpt_events.specs.declared.config.Config.{Config}
use Rattle.lpt_events.specs.declared.side.Side.TheVariants.{Ground}
use Rattle.lpt_ledger.specs.declared.state.State.{State}
use Rattle.lpt_ledger.specs.declared.state.State.TheVariants.{Free, Open, Closed}
use Rattle.lpt_node.specs.Accepting.{packet_accepted}
use Rattle.lpt_node.specs.Nodes.{NodeData}
use Rattle.lpt_node.specs.Receivers.{ReceiverState, part_received, received_from, after_offer, if_free, table_in, parts_with, kept_of}
use Rattle.lpt_node.specs.Receiving.{after_received, part_accepted, receiver_of}
use Rattle.lpt_node.specs.Times.{expired_of}
use Rattle.lpt_reception.specs.Received.{Parts}
use Rattle.lpt_table.specs.Offering as offering
use Rattle.lpt_table.specs.Offering.{OfferKind, part_offered}
use Rattle.lpt_table.specs.Tables.{Entries, TableState}
use Rattle.lpt_ledger.specs.States.{state_at}

of_offer : (d : NodeData) (q : NamedPart) (r : ReceiverState) (parts : Parts) (o : OfferKind)
    (es : Entries)
    → (after_received Ground d q (after_offer None r q.name parts o es)).1.packet ≡ None
of_offer d q r parts offering.Kept es = refl
of_offer d q r parts offering.Again es = refl
of_offer d q r parts offering.Gap es = refl
of_offer d q r parts offering.NoRoom es = refl
of_offer d q r parts offering.Whole es = refl
of_offer d q r parts (offering.Conflict reason) es = refl

of_free : (s : State) (d : NodeData) (q : NamedPart) (r : ReceiverState) (parts : Parts)
    (o : OfferKind × TableState)
    → (after_received Ground d q (if_free s r (received_from None r q.name parts o))).1.packet ≡
    None
of_free Free d q r parts o = of_offer d q r parts o.0 o.1.entries
of_free Open d q r parts o = refl
of_free Closed d q r parts o = refl

of_part : (c : Config) (d : NodeData) (q : NamedPart) → (part_accepted Ground c d q).1.packet ≡ None
unfolding part_received
of_part c d q =
    let r : ReceiverState = receiver_of c d.receiving in
    of_free (state_at r.ledger q.name) d q r (parts_with (table_in r) q)
    (part_offered (table_in r) q.name q.number (kept_of q) d.clock)

-- ground makes no report of what is delivered to it
pub none_of_delivery : (c : Config) (d : NodeData) (a : Arrival)
    → (packet_accepted Ground c d a).1.packet ≡ None
none_of_delivery c d NotRead = refl
none_of_delivery c d AnIdle = refl
none_of_delivery c d Foreign = refl
none_of_delivery c d (ARequest b) = refl
none_of_delivery c d (AReport service subtype) = refl
none_of_delivery c d NoPart = refl
none_of_delivery c d (AnAbort name reason) = refl
none_of_delivery c d (APart q) = of_part c d q

-- nor of a reception that it gives up
pub none_of_expiry : (c : Config) (d : NodeData) (o : Option Name)
    → (expired_of Ground c d o).1.packet ≡ None
none_of_expiry c d None = refl
none_of_expiry c d (Some name) = refl

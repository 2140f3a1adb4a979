-- A packet that is handed over, and what waits after it.
use Rattle.std.proofs.Common.{◌≡◌, ◌∙◌, ap, sym, subst, refl, ℕ, List, [], ◌∷◌, ◌++◌, None}
use Rattle.std.specs.Prelude.{reverse, option_to_list}
use Rattle.lpt_packet.specs.declared.direction.Direction.TheVariants.{Up, Down}
use Rattle.lpt_events.specs.Arrivals.{Arrival, NotRead, AnIdle, Foreign, ARequest, AReport, NoPart, APart, AnAbort, arrival}
use Rattle.lpt_events.specs.NamedParts.{NamedPart}
use Rattle.lpt_events.specs.declared.config.Config.{Config}
use Rattle.lpt_events.specs.declared.side.Side.TheVariants.{Craft}
use Rattle.lpt_jobs.specs.declared.job.Job.{Job}
use Rattle.lpt_jobs.specs.declared.job.Job.TheVariants.{Waiting}
use Rattle.lpt_ledger.specs.States.{state_at}
use Rattle.lpt_ledger.specs.declared.state.State.{State}
use Rattle.lpt_ledger.specs.declared.state.State.TheVariants.{Free, Open, Closed}
use Rattle.lpt_node.specs.declared.accepted.Accepted.{Accepted}
use Rattle.lpt_node.specs.Accepting.{packet_accepted}
use Rattle.lpt_node.specs.Nodes.{NodeData}
use Rattle.lpt_node.specs.Receivers.{table_in, kept_of, parts_with, after_offer, received_from, if_free, part_received}
use Rattle.lpt_node.specs.Receiving.{abort_head, after_received, part_accepted, receiver_of}
use Rattle.lpt_table.specs.Offering.{OfferKind, part_offered}
use Rattle.lpt_table.specs.Offering as offering
use Rattle.lpt_table.specs.Tables.{Entries, TableState}
use Rattle.lpt_model.specs.State.{as_list}
use Rattle.lpt_apart.specs.Ends.{Pair, Do, Accept}
use Rattle.lpt_apart.specs.TwoEnds.{CanMove}
use Rattle.lpt_spacecraft.specs.Serving.{Onboard}
use Rattle.lpt_spacecraft.specs.Streams.{WaitsFor}
use Rattle.lpt_spacecraft_moves.specs.Moves.{octets_of, IsCraftOf}
use Rattle.lpt_spacecraft_moves.proofs.Runs.{Reaches, as_list-same, octets-put}

-- what waits by what was released, of a node and its answer
abbrev Waits : NodeData × Accepted → Type 0
Waits x = WaitsFor x.1.released x.0.jobs.jobs

-- a message is released where nothing waits
waits_alone : (js : List Job) (m : List ℕ) → js ≡ [] → js ++ Waiting m ∷ [] ≡ Waiting m ∷ []
waits_alone js m none = ap (λ l. l ++ Waiting m ∷ []) none

module _ (c : Config) (d : NodeData) (idle : d.jobs.jobs ≡ []) (q : NamedPart) where
  -- what an offer of the part comes to
  abbrev offer : OfferKind × TableState
  offer = part_offered (table_in (receiver_of c d.receiving)) q.name q.number (kept_of q) d.clock

  -- what the node makes of it, where it knows its name so
  abbrev made_by : State → NodeData × Accepted
  made_by s =
      after_received Craft d q
      (if_free s (receiver_of c d.receiving)
      (received_from (abort_head Craft c d q.name.source) (receiver_of c d.receiving) q.name
      (parts_with (table_in (receiver_of c d.receiving)) q) offer))

  parted_is : part_accepted Craft c d q ≡ made_by (state_at d.receiving.ledger q.name)
  unfolding part_received
  parted_is = refl

  waits_offer : (kind : OfferKind) (es : Entries)
      → Waits (after_received Craft d q
      (after_offer (abort_head Craft c d q.name.source) (receiver_of c d.receiving) q.name
      (parts_with (table_in (receiver_of c d.receiving)) q) kind es))
  waits_offer offering.Kept es = idle
  waits_offer offering.Again es = idle
  waits_offer offering.Gap es = idle
  waits_offer offering.NoRoom es = idle
  waits_offer offering.Whole es = waits_alone d.jobs.jobs _ idle
  waits_offer (offering.Conflict reason) es = idle

  waits_known : (s : State) → Waits (made_by s)
  waits_known Free = waits_offer offer.0 offer.1.entries
  waits_known Open = idle
  waits_known Closed = idle

  waits_parted : Waits (part_accepted Craft c d q)
  waits_parted = subst Waits (sym parted_is) (waits_known (state_at d.receiving.ledger q.name))

-- what waits after a delivery, by what it released
pub waits-accepted : (c : Config) (d : NodeData) (a : Arrival)
    → d.jobs.jobs ≡ []
    → WaitsFor (packet_accepted Craft c d a).1.released (packet_accepted Craft c d a).0.jobs.jobs
waits-accepted c d NotRead idle = idle
waits-accepted c d AnIdle idle = idle
waits-accepted c d Foreign idle = idle
waits-accepted c d (ARequest b) idle = waits_alone d.jobs.jobs b idle
waits-accepted c d (AReport service subtype) idle = idle
waits-accepted c d NoPart idle = idle
waits-accepted c d (AnAbort name reason) idle = idle
waits-accepted c d (APart q) idle = waits_parted c d idle q

-- the packet is handed over
pub accept-run : (c : Config) (p : Pair) (s : Onboard) (b : List ℕ)
    → IsCraftOf p s
    → CanMove c p (Do (Accept Up b))
    → let x = packet_accepted Craft c s.node (arrival Craft c.apid c.part_size b) in
    Reaches c p (record { node = x.0; memories = s.memories }) (option_to_list x.1.packet)
accept-run c p s b at may =
    let a = arrival Craft c.apid c.part_size b in
    record {
      moves = Do (Accept Up b) ∷ [];
      own = (tt, tt);
      can = (may, tt);
      node = ap (λ (d : NodeData). (packet_accepted Craft c d a).0) at.node;
      memories = at.memories;
      tickets = at.tickets;
      put = octets-put p.ends.on_the_way Down None
          (as_list (packet_accepted Craft c p.ends.on_craft a).1.packet)
          ∙ ap (λ (d : NodeData). reverse (as_list (packet_accepted Craft c d a).1.packet)
          ++ octets_of
          p.ends.on_the_way) at.node
          ∙ ap (λ l. reverse l ++ octets_of p.ends.on_the_way)
          (as_list-same (packet_accepted Craft c s.node a).1.packet);
    }

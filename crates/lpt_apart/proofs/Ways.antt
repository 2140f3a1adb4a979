-- What was put out stays on the way until its name is freed.
use Rattle.std.proofs.Common.{◌≡◌, ◌∙◌, ap, sym, subst, refl, ℕ, zero, suc, Bool, true, false, not, ◌&&◌, List, [], ◌∷◌, Option, Some, None}
use Rattle.std.specs.Prelude.{slice_get, cond}
use Rattle.lpt_packet.specs.declared.direction.Direction.{Direction}
use Rattle.lpt_packet.specs.declared.direction.Direction.TheVariants.{Up, Down}
use Rattle.lpt_packet.specs.Names.{Name}
use Rattle.lpt_memory.specs.Readings.{Job}
use Rattle.lpt_events.specs.Arrivals.{Arrival, arrival_in}
use Rattle.lpt_events.specs.Lanes.{same_direction}
use Rattle.lpt_events.specs.Sides.{sender_side, receiver_side}
use Rattle.lpt_events.specs.declared.config.Config.{Config}
use Rattle.lpt_events.specs.declared.side.Side.{Side}
use Rattle.lpt_events.specs.declared.side.Side.TheVariants.{Ground, Craft}
use Rattle.lpt_node.specs.Nodes.{NodeData}
use Rattle.lpt_node.specs.Accepting.{packet_accepted}
use Rattle.lpt_node.specs.Times.{expired_of, which_ends}
use Rattle.lpt_model.specs.State.{as_list, job_left}
use Rattle.lpt_model.specs.Tickets.{ticket_of}
use Rattle.lpt_journal.proofs.CountLemmas.{same_name-comm}
use Rattle.lpt_apart.specs.Ends.{PutOut, Ends, node_at, with_node, put_out, is_part, without, is_same, Step, Open, Send, Plain, Finish, Accept, Tick, Expire, Claim, Commit, Apply, Retire, Restart, committed_on, after}
use Rattle.lpt_apart.specs.TwoEnds.{IsOnTheWay}
use Rattle.lpt_apart.proofs.Closing.{IsNoRetirement}

-- a packet is one of these
abbrev pub There : List PutOut → PutOut → Type 0
There ps p = (k : ℕ) × (slice_get ps k ≡ Some p)

-- the packet of a part
abbrev pub part_of : Direction → Name → List ℕ → PutOut
part_of d name b = record { direction = d; part_of = Some name; octets = b }

-- that of a packet that is no part
abbrev pub loose : Direction → List ℕ → PutOut
loose d b = record { direction = d; part_of = None; octets = b }

-- it may be handed over
pub out_of : (e : Ends) (p : PutOut) → There e.on_the_way p → IsOnTheWay e p.direction p.octets
out_of e p at = record {
  place = at.0;
  packet = p;
  there = at.1;
  goes = refl;
  octets = refl;
}

-- ---- what stays

-- what is put out besides takes none of them
pub there_put : (ps : List PutOut) (p : PutOut) (d : Direction) (tag : Option Name)
    (bs : List (List ℕ))
    → There ps p
    → There (put_out ps d tag bs) p
there_put ps p d tag [] at = at
there_put ps p d tag (b ∷ bs) at =
    there_put (record { direction = d; part_of = tag; octets = b } ∷ ps) p d tag bs
    (suc at.0, at.1)

there_at : (d : Direction) (name : Name) (p : PutOut) (ps : List PutOut) (k : ℕ)
    → is_part d name p ≡ false
    → slice_get ps k ≡ Some p
    → There (without d name ps) p
there_at d name p [] k other at = absurd cc
there_at d name p (q ∷ ps) zero other at =
    let same : q ≡ p = cc in
    subst (λ (t : Bool). There (cond (not t) (q ∷ without d name ps) (without d name ps)) p)
    (sym (ap (is_part d name) same ∙ other)) (zero, at)
there_at d name p (q ∷ ps) (suc k) other at =
    go (is_part d name q) (there_at d name p ps k other at) where
      go : (t : Bool)
          → There (without d name ps) p
          → There (cond (not t) (q ∷ without d name ps) (without d name ps)) p
      go true rest = rest
      go false rest = (suc rest.0, rest.1)

-- to free a name takes its own parts alone
pub there_without : (d : Direction) (name : Name) (ps : List PutOut) (p : PutOut)
    → is_part d name p ≡ false
    → There ps p
    → There (without d name ps) p
there_without d name ps p other at = there_at d name p ps at.0 other at.1

-- directions are compared either way
pub same_direction-comm : (d e : Direction) → same_direction d e ≡ same_direction e d
same_direction-comm Up Up = refl
same_direction-comm Up Down = refl
same_direction-comm Down Up = refl
same_direction-comm Down Down = refl

-- a part of another transaction is none of this one
pub other_part : (e : Direction) (i : Name) (d : Direction) (name : Name) (b : List ℕ)
    → is_same e i d name ≡ false
    → is_part e i (part_of d name b) ≡ false
other_part e i d name b other =
    (λ j. same_direction-comm d e j && same_name-comm name i j) ∙ other

-- a node changes nothing of it
pub same_ways : (e : Ends) (side : Side) (n : NodeData)
    → (with_node e side n).on_the_way ≡ e.on_the_way
same_ways e Ground n = refl
same_ways e Craft n = refl

-- ways that are the same have the same
there_same : (e : Ends) (side : Side) (n : NodeData) (p : PutOut)
    → There e.on_the_way p
    → There (with_node e side n).on_the_way p
there_same e side n p at =
    subst (λ (ps : List PutOut). There ps p) (sym (same_ways e side n)) at

-- a step that frees no name leaves all that is on the way
pub there_step : (c : Config) (e : Ends) (x : Step) (p : PutOut)
    → IsNoRetirement x
    → There e.on_the_way p
    → There (after c e x).on_the_way p
there_step c e (Open way i m) p stays at = there_same e (sender_side way) _ p at
there_step c e (Send way i k) p stays at = (suc at.0, at.1)
there_step c e (Plain source flags service subtype body) p stays at = (suc at.0, at.1)
there_step c e (Finish way i) p stays at = there_same e (sender_side way) _ p at
there_step c e (Accept way b) p stays at =
    let a : Arrival = arrival_in c way b in
    let side : Side = receiver_side way in
    there_put e.on_the_way p Down None
    (as_list (packet_accepted side c (node_at e side) a).1.packet) at
there_step c e (Tick side turn) p stays at = there_same e side _ p at
there_step c e (Expire side which) p stays at =
    there_put e.on_the_way p Down None
    (as_list (expired_of side c (node_at e side) (which_ends c (node_at e side) which)).1.packet) at
there_step c e (Claim w) p stays at = at
there_step c e (Commit w) p stays at = go (ticket_of e.tickets w) where
  go : (o : Option Job) → There (committed_on c e w o).on_the_way p
  go None = at
  go (Some t) = at
there_step c e (Apply how) p stays at =
    there_put e.on_the_way p Down None (job_left how c e.on_craft e.memories).0.1.packets at
there_step c e (Retire way i) p stays at = absurd stays
there_step c e (Restart side) p stays at = there_same e side _ p at

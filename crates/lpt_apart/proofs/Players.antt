-- What is tied of two ends that play a world's journal, and what a world has that doesn't refuse an
-- event.
use Rattle.std.proofs.Common.{◌≡◌, ◌∙◌, ap, sym, refl, ℕ, Bool, true, false, if◌then◌else◌, List, [], map, Option, Some, None, is_some}
use Rattle.std.specs.Option.{option_map, option_map_or, option_and_then}
use Rattle.std.specs.Prelude.{slice_get}
use Rattle.std.proofs.lemmas.Option.{slice_get-map}
use Rattle.lpt_memory.specs.Memories.{Contents}
use Rattle.lpt_memory.specs.Readings.{Job}
use Rattle.lpt_events.specs.Arrivals.{arrival_in}
use Rattle.lpt_events.specs.Configs.{IsConfig}
use Rattle.lpt_events.specs.Lanes.{lane_direction}
use Rattle.lpt_events.specs.declared.config.Config.{Config}
use Rattle.lpt_acts.specs.Acts.{Act}
use Rattle.lpt_acts.specs.Acts as act
use Rattle.lpt_events.specs.declared.lane.Lane.{Lane}
use Rattle.lpt_ledger.specs.declared.state.State.{State as Known}
use Rattle.lpt_ledger.specs.declared.state.State.TheVariants as known
use Rattle.lpt_link.specs.declared.fault.LinkFault.{LinkFault}
use Rattle.lpt_link.specs.declared.fault.LinkFault.TheVariants.{NotHeld, HandFull, HandEmpty}
use Rattle.lpt_link.specs.declared.packet.LinkPacket.{LinkPacket}
use Rattle.lpt_link.specs.Links.{hand_of, packet_in_hand}
use Rattle.lpt_node.specs.Nodes.{NodeData}
use Rattle.lpt_model.specs.State.{State, link_fault, refusal_of, refusal_claim_by, refusal_retire_by, refusal_commit_of, arrival_held}
use Rattle.lpt_refinement.specs.Shows.{Shows, sent_packet}
use Rattle.lpt_refinement.specs.Views.{views}
use Rattle.lpt_journal.specs.Hands.{hand}
use Rattle.lpt_journal.specs.Journal.{SentPacket, History}
use Rattle.lpt_journal.specs.Legal.{Legal}
use Rattle.lpt_journal.specs.Link.{sent as sent_so_far}
use Rattle.lpt_journal.specs.Replies.{history_after}
use Rattle.lpt_journal.proofs.HeadlineLemmas.{every}
use Rattle.lpt_apart.specs.Ends.{PutOut, Ends, Log, Step}
use Rattle.lpt_apart.specs.TwoEnds.{CanHappen}
use Rattle.lpt_apart.specs.Plays.{octets_held}
use Rattle.lpt_apart.specs.Ends as steps
use Rattle.lpt_apart.specs.Told.{log_told}
use Rattle.lpt_apart.proofs.Leaving.{AllHad}
use Rattle.lpt_apart.proofs.Ties.{ends_of}

-- ---- what is tied

-- two ends have the nodes, jobs and memories of a world that shows a journal, and its log; what
-- that world can still deliver may be handed over, or isn't read
pub record Plays (c : Config) (first : Contents) (es : List Act) (e : Ends) : Type 0 where
  pub state : State
  pub shown : Shows state (views c first (history_after c first es))
  pub had : AllHad c state.link e.on_the_way
  pub tells : log_told c (history_after c first es) ≡ e.log
  pub is : ends_of state e.on_the_way e.log ≡ e

-- what a world that shows a journal can still deliver may be handed over, or isn't read; and the
-- journal tells this log
pub record CanPlay (c : Config) (first : Contents) (s : State) (ways : List PutOut) (log : Log)
    (es : List Act) : Type 0 where
  pub shown : Shows s (views c first (history_after c first es))
  pub had : AllHad c s.link ways
  pub tells : log_told c (history_after c first es) ≡ log

-- two ends can do what an event is, if it is a step, and then play the longer journal
abbrev pub Goes : Config → Contents → List Act → Ends → Option Step → Type 0
Goes c first es e None = Plays c first es e
Goes c first es e (Some x) = CanHappen c e x × Plays c first es (steps.after c e x)

-- ---- refusals

-- what isn't there once it is mapped wasn't before
pub unmapped : {A B : Type 0} (f : A → B) (o : Option A) → option_map f o ≡ None → o ≡ None
unmapped f None e = refl
unmapped f (Some x) e = absurd cc

-- a worker that claims has no job
pub no_ticket : (d : NodeData) (o : Option Job) → refusal_claim_by d o ≡ None → o ≡ None
no_ticket d None e = refl
no_ticket d (Some t) e = absurd cc

-- one that commits has one
pub some_ticket : (o : Option Job) → refusal_commit_of o ≡ None → is_some o ≡ true
some_ticket None e = absurd cc
some_ticket (Some t) e = refl

-- what is retired is closed at its sender, and nothing else is left of it
pub retires_closed : (k : Known) (gone : Bool)
    → refusal_retire_by k gone ≡ None
    → (k ≡ known.Closed) × (gone ≡ true)
retires_closed known.Free gone e = absurd cc
retires_closed known.Open gone e = absurd cc
retires_closed known.Closed true e = (refl, refl)
retires_closed known.Closed false e = absurd cc

-- what a lane takes is held for it
pub takes_held : (a b : Bool)
    → ◌≡◌ {A = Option LinkFault}
    (if a then Some HandFull else if b then None else Some NotHeld) None
    → b ≡ true
takes_held true b e = absurd cc
takes_held false true e = refl
takes_held false false e = absurd cc

in_a_hand : (o : Option ℕ)
    → ◌≡◌ {A = Option LinkFault} (if is_some o then None else Some HandEmpty) None
    → (n : ℕ) × (o ≡ Some n)
in_a_hand None e = absurd cc
in_a_hand (Some n) e = (n, refl)

-- ---- what a lane delivers

-- a lane has this packet of a world's link in its hand, whose octets are what the journal says
pub record HasInHand (s : State) (h : History) (l : Lane) : Type 0 where
  pub number : ℕ
  pub packet : LinkPacket
  pub in_hand : hand_of s.link l ≡ Some number
  pub there : slice_get s.link.packets number ≡ Some packet
  pub goes : packet.direction ≡ lane_direction l
  pub octets : packet.octets ≡ octets_held h l

as_sent : (ps : List LinkPacket) (n : ℕ) (p : SentPacket)
    → slice_get (map sent_packet ps) n ≡ Some p
    → (q : LinkPacket) × (slice_get ps n ≡ Some q) × (sent_packet q ≡ p)
as_sent ps n p at = go (slice_get ps n) refl (sym (slice_get-map sent_packet ps n) ∙ at) where
  go : (o : Option LinkPacket)
      → slice_get ps n ≡ o
      → option_map sent_packet o ≡ Some p
      → (q : LinkPacket) × (slice_get ps n ≡ Some q) × (sent_packet q ≡ p)
  go None is e = absurd cc
  go (Some q) is e = (q, is, cc)

-- a lane whose delivery isn't refused has that
pub has_in_hand : (c : Config) (first : Contents) (s : State) (es : List Act) (l : Lane)
    → IsConfig c
    → Legal c first es
    → Shows s (views c first (history_after c first es))
    → refusal_of c s (act.Deliver l) ≡ None
    → HasInHand s (history_after c first es) l
has_in_hand c first s es l good legal shown free =
    let h : History = history_after c first es in
    let n = in_a_hand (hand_of s.link l) (unmapped link_fault _ free) in
    let told : hand h l ≡ Some n.0 = sym (shown.link.hands l) ∙ n.1 in
    let it = (every c first es good legal).0.hands l n.0 told in
    let q =
    as_sent s.link.packets n.0 it.packet
    (ap (λ (ps : List SentPacket). slice_get ps n.0) shown.link.packets ∙ it.was_sent) in
    let octets : octets_held h l ≡ it.packet.octets =
    ap (λ (o : Option ℕ). option_map_or (λ n. option_map_or (λ (p : SentPacket). p.octets)
    (slice_get (sent_so_far h) n) []) o []) told
    ∙ ap (λ (o : Option SentPacket). option_map_or (λ (p : SentPacket). p.octets) o []) it.was_sent
    in
    record {
      number = n.0;
      packet = q.0;
      in_hand = n.1;
      there = q.1;
      goes = ap (λ (p : SentPacket). p.direction) q.2 ∙ it.goes_there;
      octets = ap (λ (p : SentPacket). p.octets) q.2 ∙ sym octets;
    }

-- and is that to the node that receives it
pub arrives : (c : Config) (s : State) (h : History) (l : Lane)
    → HasInHand s h l
    → arrival_held c (lane_direction l) (packet_in_hand s.link l)
    ≡ arrival_in c (lane_direction l) (octets_held h l)
arrives c s h l it =
    ap (λ (o : Option ℕ). arrival_held c (lane_direction l)
    (option_and_then (slice_get s.link.packets) o)) it.in_hand
    ∙ ap (arrival_held c (lane_direction l)) it.there
    ∙ ap (arrival_in c (lane_direction l)) it.octets

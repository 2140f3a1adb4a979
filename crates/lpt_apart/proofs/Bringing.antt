-- The parts that came to a world come by the steps that its journal is, and by the moves that these
-- are.
use Rattle.std.proofs.Common.{◌≡◌, ◌∙◌, ap, sym, refl, ℕ, Bool, false, not, ◌&&◌, if◌then◌else◌, List, [], ◌∷◌}
use Rattle.lpt_packet.specs.declared.direction.Direction.{Direction}
use Rattle.lpt_packet.specs.Names.{Name}
use Rattle.lpt_memory.specs.Memories.{Contents}
use Rattle.lpt_events.specs.Arrivals.{Arrival, arrival_in}
use Rattle.lpt_events.specs.Configs.{IsConfig}
use Rattle.lpt_events.specs.Lanes.{lane_direction}
use Rattle.lpt_events.specs.Sides.{same_side, receiver_side}
use Rattle.lpt_events.specs.declared.config.Config.{Config}
use Rattle.lpt_acts.specs.Acts.{Act}
use Rattle.lpt_acts.specs.Acts as act
use Rattle.lpt_events.specs.declared.side.Side.{Side}
use Rattle.lpt_events.specs.declared.side.Side.TheVariants.{Ground, Craft}
use Rattle.lpt_node.specs.Accepting.{packet_accepted}
use Rattle.lpt_node.specs.Nodes.{NodeData}
use Rattle.lpt_node.specs.declared.accepted.Accepted.{Accepted}
use Rattle.lpt_model.specs.State.{State, end_of, job_left}
use Rattle.lpt_journal.specs.Journal.{History}
use Rattle.lpt_journal.specs.Legal.{Legal}
use Rattle.lpt_journal.specs.Replies.{history_after}
use Rattle.lpt_journal.specs.Whole as journal
use Rattle.lpt_apart.specs.Ends.{Ends, node_at, is_same, Step, Retire}
use Rattle.lpt_apart.specs.TwoEnds.{came_by, is_reported, came_after}
use Rattle.lpt_apart.specs.Worlds.{ends_reached}
use Rattle.lpt_apart.specs.Whole.{came, WorldsBringTheSame, MovesBringTheSame}
use Rattle.lpt_apart.specs.Plays.{octets_held, step_of, with_step, steps_of, AreEndsOf}
use Rattle.lpt_apart.proofs.Events.{open_came}
use Rattle.lpt_apart.proofs.Freely.{steps_are_moves}
use Rattle.lpt_apart.proofs.Played.{worlds_are_ends}
use Rattle.lpt_apart.proofs.Players.{HasInHand, has_in_hand, arrives}
use Rattle.lpt_apart.proofs.Telling.{leaving_opens, delivery_came}
use Rattle.lpt_apart.proofs.Ties.{IsLonger, longer, not_refused}

module _ (c : Config) (first : Contents) (es : List Act) (d : Direction) (name : Name) (k : ℕ)
    (good : IsConfig c) (xs : List Step) (are : AreEndsOf c first es (ends_reached c first xs))
    (had : came c first xs d name k ≡ journal.came c (history_after c first es) d name k) where
  abbrev h : History
  h = history_after c first es

  abbrev s : State
  s = are.world

  abbrev ends : Ends
  ends = ends_reached c first xs

  node : (side : Side) → end_of s side ≡ node_at ends side
  node Ground = are.ground
  node Craft = are.craft

  more : (e : Act) → Legal c first (e ∷ es) → IsLonger c first s es e
  more e legal =
      longer c first s es e good legal.0 are.shown legal.1.in_range
      (not_refused c first s es e good are.shown legal)

  event_brings : (e : Act)
      → Legal c first (e ∷ es)
      → came c first (with_step (step_of h e) xs) d name k
      ≡ journal.came c (history_after c first (e ∷ es)) d name k
  event_brings (act.Open i named m) legal =
      ap (λ (b : Bool). if is_same i named d name then false else b) had
      ∙ sym (open_came (is_same i named d name) _ (journal.came c h d name k))
  event_brings (act.Deliver l) legal =
      let w : Direction = lane_direction l in
      let a : Arrival = arrival_in c w (octets_held h l) in
      let x : NodeData × Accepted =
      packet_accepted (receiver_side w) c (node_at ends (receiver_side w)) a in
      let it : HasInHand s h l =
      has_in_hand c first s es l good legal.0 are.shown
      (not_refused c first s es (act.Deliver l) good are.shown legal) in
      ap (λ (b : Bool). came_by w a x.1.outcome d name k b) had
      ∙ sym (delivery_came c first s ends.log es are.shown are.log l
      (more (act.Deliver l) legal) a x (sym (arrives c s h l it))
      (ap (λ (n : NodeData). packet_accepted (receiver_side w) c n a)
      (sym (node (receiver_side w))))
      d name k)
  event_brings (act.Apply how) legal =
      let reports : is_reported (job_left how c ends.on_craft ends.memories).0.1.opened d name
      ≡ is_reported (job_left how c s.on_craft s.memories).0.1.opened d name =
      (λ i. is_reported (job_left how c (sym are.craft i) (sym are.memories i)).0.1.opened d
      name) in
      let opens = reports
      ∙ sym (leaving_opens c first s ends.log es are.shown are.log how
      (more (act.Apply how) legal) d name)
      in
      (λ i. if opens i then false else had i)
  event_brings (act.Restart side) legal =
      ap (λ (b : Bool). not (same_side side (receiver_side d)) && b) had
  event_brings e legal = had

pub worlds_bring_the_same : WorldsBringTheSame
worlds_bring_the_same c first [] d name k good on legal = refl
worlds_bring_the_same c first (e ∷ es) d name k good on legal =
    event_brings c first es d name k good (steps_of c first es)
    (worlds_are_ends c first es good on.1 legal.0).are
    (worlds_bring_the_same c first es d name k good on.1 legal.0) e legal

pub moves_bring_the_same : MovesBringTheSame
moves_bring_the_same c first [] d name k can = refl
moves_bring_the_same c first (Retire e i ∷ xs) d name k can =
    moves_bring_the_same c first xs d name k can.0
moves_bring_the_same c first (x ∷ xs) d name k can =
    let same = (steps_are_moves c first xs can.0).ends in
    let had = moves_bring_the_same c first xs d name k can.0 in
    (λ i. came_after c (same i) x d name k (had i))

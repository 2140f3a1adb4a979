-- What a journal tells with one event more is what the nodes of a world that shows it say.
use Rattle.std.proofs.Common.{◌≡◌, ◌∙◌, ap, sym, ℕ, List, ◌∷◌, length, is_some, Option}
use Rattle.std.specs.List.{find}
use Rattle.lpt_packet.specs.declared.direction.Direction.{Direction}
use Rattle.lpt_packet.specs.Names.{Name}
use Rattle.lpt_memory.specs.Memories.{Contents}
use Rattle.lpt_events.specs.Arrivals.{Arrival}
use Rattle.lpt_events.specs.Lanes.{lane_direction}
use Rattle.lpt_events.specs.MadePackets.{tc_made}
use Rattle.lpt_events.specs.Sides.{receiver_side, direction_to}
use Rattle.lpt_events.specs.declared.config.Config.{Config}
use Rattle.lpt_events.specs.declared.entry.Opening.{Opening}
use Rattle.lpt_events.specs.declared.entry.Release.{Release}
use Rattle.lpt_acts.specs.Acts.{Leaving, Act, Plain, Deliver, Expire, Apply}
use Rattle.lpt_events.specs.declared.lane.Lane.{Lane}
use Rattle.lpt_events.specs.declared.reply.Answer.{Answer}
use Rattle.lpt_events.specs.declared.reply.Answer.TheVariants.{Delivered, Expired}
use Rattle.lpt_events.specs.declared.reply.Reply.{Reply}
use Rattle.lpt_events.specs.declared.side.Side.{Side}
use Rattle.lpt_link.specs.Links.{packet_in_hand}
use Rattle.lpt_node.specs.Accepting.{packet_accepted}
use Rattle.lpt_node.specs.Nodes.{NodeData}
use Rattle.lpt_node.specs.Requests.{plain_made}
use Rattle.lpt_node.specs.Times.{expired_of, which_ends}
use Rattle.lpt_node.specs.declared.accepted.Accepted.{Accepted}
use Rattle.lpt_node.specs.declared.expired.Expired.{Expired as Ended}
use Rattle.lpt_model.specs.State.{State, end_of, as_list, arrival_held, add_release, add_opening, released_of, job_left}
use Rattle.lpt_refinement.specs.Shows.{Shows}
use Rattle.lpt_refinement.specs.Views.{views}
use Rattle.lpt_journal.specs.Delivery.{outcome}
use Rattle.lpt_journal.specs.Executions.{front_opens}
use Rattle.lpt_journal.specs.Hands.{in_hand}
use Rattle.lpt_journal.specs.Journal.{History}
use Rattle.lpt_journal.specs.Releases.{released_by, releases}
use Rattle.lpt_journal.specs.Replies.{answer, history_after, entry}
use Rattle.lpt_journal.specs.Senders.{is_opening_of, opened}
use Rattle.lpt_journal.specs.Whole.{came}
use Rattle.lpt_refinement.proofs.ArrivalsAgree.{arrival_agrees}
use Rattle.lpt_apart.specs.Ends.{Asked, Aborted, Left, Log, with_abortion, with_release, with_report}
use Rattle.lpt_apart.specs.TwoEnds.{came_by, is_reported}
use Rattle.lpt_apart.specs.Told.{with_releases, with_ended, log_told}
use Rattle.lpt_apart.proofs.Logs.{opened_told, opened_of_it, released_told, put_some-answer}
use Rattle.lpt_apart.proofs.Ties.{IsLonger}

module _ (c : Config) (first : Contents) (s : State) (log : Log) (es : List Act)
    (shown : Shows s (views c first (history_after c first es)))
    (tells : log_told c (history_after c first es) ≡ log) where
  abbrev h : History
  h = history_after c first es

  -- ground has asked the plain request that it made
  pub plain_told : (source flags service subtype : ℕ) (body : List ℕ)
      → log_told c (history_after c first (Plain source flags service subtype body ∷ es))
      ≡ Asked (plain_made c s.on_ground source flags service subtype body).1 ∷ log
  plain_told source flags service subtype body =
      ap (λ (n : ℕ). Asked (tc_made c source n flags service subtype body) ∷ log_told c h)
      (sym shown.ground.sending.count)
      ∙ ap (λ (l : Log). Asked (plain_made c s.on_ground source flags service subtype body).1 ∷ l)
      tells

  -- what a node gives up for its age is aborted
  pub expiry_told : (side : Side) (which : Option Name)
      → IsLonger c first s es (Expire side which)
      → log_told c (history_after c first (Expire side which ∷ es))
      ≡ Aborted (direction_to side)
      (expired_of side c (end_of s side) (which_ends c (end_of s side) which)).1.name
      ∷ log
  expiry_told side which more =
      let x : NodeData × Ended =
      expired_of side c (end_of s side) (which_ends c (end_of s side) which) in
      let answered : Expired (direction_to side) x.1.name ≡ answer c first h (Expire side which) =
      sym
      (put_some-answer (length s.link.packets) (Expired (direction_to side) x.1.name)
      (as_list x.1.packet))
      ∙ ap (λ (r : Reply). r.answer) more.answered in
      ap (λ (a : Answer). with_ended (Expire side which) a (log_told c h)) (sym answered)
      ∙ ap (λ (l : Log). Aborted (direction_to side) x.1.name ∷ l) tells

  -- a request has left the spacecraft's queue, and the report of data was opened that it made, or
  -- none
  pub leaving_told : (how : Leaving)
      → IsLonger c first s es (Apply how)
      → log_told c (history_after c first (Apply how ∷ es))
      ≡ Left how ∷ with_report log (job_left how c s.on_craft s.memories).0.1.opened
  leaving_told how more =
      let o = (job_left how c s.on_craft s.memories).0.1.opened in
      let opens : add_opening (opened h) (length h) o ≡ opened (entry c first h (Apply how) ∷ h) =
      ap (λ (os : List Opening). add_opening os (length h) o) (sym shown.opened)
      ∙ more.shown.opened in
      ap (λ (l : Log). Left how ∷ l)
      (opened_told (opened h) (length h) o (front_opens c first h how) (log_told c h) opens
      ∙ ap (λ (l : Log). with_report l o) tells)

  -- whether it is of a transaction
  pub leaving_opens : (how : Leaving)
      → IsLonger c first s es (Apply how)
      → (d : Direction) (name : Name)
      → is_some (find (is_opening_of d name) (front_opens c first h how))
      ≡ is_reported (job_left how c s.on_craft s.memories).0.1.opened d name
  leaving_opens how more d name =
      let o = (job_left how c s.on_craft s.memories).0.1.opened in
      let opens : add_opening (opened h) (length h) o ≡ opened (entry c first h (Apply how) ∷ h) =
      ap (λ (os : List Opening). add_opening os (length h) o) (sym shown.opened)
      ∙ more.shown.opened in
      opened_of_it (opened h) (length h) o (front_opens c first h how) d name opens

  -- the outcome of a delivery is what a node answers
  answers : (l : Lane)
      → IsLonger c first s es (Deliver l)
      → outcome c h l ≡ (packet_accepted (receiver_side (lane_direction l)) c
      (end_of s (receiver_side (lane_direction l)))
      (arrival_held c (lane_direction l) (packet_in_hand s.link l))).1.outcome
  answers l more =
      let d = lane_direction l in
      let x : NodeData × Accepted =
      packet_accepted (receiver_side d) c (end_of s (receiver_side d))
      (arrival_held c d (packet_in_hand s.link l)) in
      let both : Delivered x.1.outcome ≡ Delivered (outcome c h l) =
      sym (put_some-answer (length s.link.packets) (Delivered x.1.outcome) (as_list x.1.packet))
      ∙ ap (λ (r : Reply). r.answer) more.answered in
      cc

  -- the part that it hands over came
  pub delivery_came : (l : Lane)
      → IsLonger c first s es (Deliver l)
      → (a : Arrival) (x : NodeData × Accepted)
      → a ≡ arrival_held c (lane_direction l) (packet_in_hand s.link l)
      → x ≡ packet_accepted (receiver_side (lane_direction l)) c
      (end_of s (receiver_side (lane_direction l))) a
      → (d : Direction) (name : Name) (k : ℕ)
      → came c (history_after c first (Deliver l ∷ es)) d name k
      ≡ came_by (lane_direction l) a x.1.outcome d name k (came c h d name k)
  delivery_came l more a x held is d name k =
      let arrived : in_hand c h l ≡ a =
      sym (held ∙ arrival_agrees c first s h l shown) in
      let same : outcome c h l ≡ x.1.outcome =
      answers l more
      ∙ ap (λ (a : Arrival). (packet_accepted (receiver_side (lane_direction l)) c
      (end_of s (receiver_side (lane_direction l))) a).1.outcome) (sym held)
      ∙ ap (λ (y : NodeData × Accepted). y.1.outcome) (sym is) in
      (λ i. came_by (lane_direction l) (arrived i) (same i) d name k (came c h d name k))

  -- what a node answers to a delivery was released or broken off
  pub delivery_told : (l : Lane)
      → IsLonger c first s es (Deliver l)
      → (x : NodeData × Accepted)
      → x ≡ packet_accepted (receiver_side (lane_direction l)) c
      (end_of s (receiver_side (lane_direction l)))
      (arrival_held c (lane_direction l) (packet_in_hand s.link l))
      → log_told c (history_after c first (Deliver l ∷ es))
      ≡ with_abortion (lane_direction l) x.1.outcome
      (with_release log (released_of (lane_direction l) x.1.outcome) x.1.released)
  delivery_told l more y is =
      let d = lane_direction l in
      let x : NodeData × Accepted =
      packet_accepted (receiver_side d) c (end_of s (receiver_side d))
      (arrival_held c d (packet_in_hand s.link l)) in
      let both : Delivered x.1.outcome ≡ Delivered (outcome c h l) =
      sym (put_some-answer (length s.link.packets) (Delivered x.1.outcome) (as_list x.1.packet))
      ∙ ap (λ (r : Reply). r.answer) more.answered in
      let same : outcome c h l ≡ x.1.outcome = cc in
      let released : with_releases (released_by c (entry c first h (Deliver l)) h) (log_told c h)
      ≡ with_release log (released_of d x.1.outcome) x.1.released =
      released_told (releases c h) (length h) d x.1.outcome x.1.released
      (released_by c (entry c first h (Deliver l)) h) (log_told c h)
      (ap (λ (rs : List Release). add_release rs (length h) d x.1.outcome x.1.released)
      (sym shown.released)
      ∙ more.shown.released)
      ∙ ap (λ (l : Log). with_release l (released_of d x.1.outcome) x.1.released) tells in
      (λ i. with_abortion d (same i) (released i))
      ∙ ap (λ (y : NodeData × Accepted).
      with_abortion d y.1.outcome (with_release log (released_of d y.1.outcome) y.1.released))
      (sym is)

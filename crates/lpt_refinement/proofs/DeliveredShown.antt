-- What a lane had in its hand is delivered: the longer journal is shown.
use Rattle.std.proofs.Common.{◌≡◌, ap, sym, subst, refl, nat_le, Bool, true, false, not, ◌&&◌, [], ◌∷◌, ◌++◌, length, Some, None, is_some}
use Rattle.std.specs.FinMap as maps
use Rattle.lpt_packet.specs.declared.direction.Direction.{Direction}
use Rattle.lpt_packet.specs.declared.direction.Direction.TheVariants.{Up, Down}
use Rattle.lpt_events.specs.NamedParts.{NamedPart}
use Rattle.lpt_part.specs.declared.reason.Reason.TheVariants.{Conflict, Discontinuity}
use Rattle.lpt_node.specs.Receivers.{table_in}
use Rattle.lpt_table.specs.Offering.{is_open}
use Rattle.lpt_events.specs.declared.lane.Lane.{Lane}
use Rattle.lpt_events.specs.declared.lane.Lane.TheVariants.{S1, S2, G1, G2}
use Rattle.lpt_events.specs.Lanes.{lane_direction}
use Rattle.lpt_events.specs.Sides.{receiver_side}
use Rattle.lpt_link.specs.Links.{after_drop}
use Rattle.lpt_node.specs.declared.accepted.Accepted.{Accepted}
use Rattle.lpt_events.specs.declared.config.Config.{Config}
use Rattle.lpt_events.specs.declared.side.Side.TheVariants.{Ground}
use Rattle.lpt_node.specs.Accepting.{packet_accepted}
use Rattle.lpt_events.specs.Arrivals.{Arrival, NotRead, AnIdle, Foreign, ARequest, AReport, NoPart, APart, AnAbort}
use Rattle.lpt_node.specs.Nodes.{NodeData}
use Rattle.lpt_node.specs.Receiving.{abort_head, receiver_of}
use Rattle.lpt_reception.specs.Received.{contradicts, is_gap, is_whole, spelled}
use Rattle.lpt_acts.specs.Acts.{Deliver}
use Rattle.lpt_journal.specs.Delivery.{arrival_judged}
use Rattle.lpt_journal.specs.Jobs.{jobs, ticket}
use Rattle.lpt_journal.specs.Journal.{History}
use Rattle.lpt_journal.specs.Hands.{hand, hand_after, in_hand}
use Rattle.lpt_journal.specs.Receivers.{as_kept, with_piece, heard, has_parts, is_closed, clock, reception_count, limits}
use Rattle.lpt_journal.specs.Replies.{entry}
use Rattle.lpt_journal.proofs.OutcomeLemmas.{chosen}
use Rattle.lpt_model.specs.State.{State, end_of, delivered_on, after_deliver}
use Rattle.lpt_refinement.specs.Shows.{Shows, ShowsReceiving, JobsFit}
use Rattle.lpt_refinement.specs.Views.{views, jobs_view, receiving_view}
use Rattle.lpt_refinement.proofs.ArrivalsAgree.{delivery, part_agrees, arrival_agrees}
use Rattle.lpt_refinement.proofs.Fields.{with_link, with_sending}
use Rattle.lpt_refinement.proofs.LinkShown.{link_dropped}
use Rattle.lpt_refinement.proofs.Arriving.{MayCome, in_hand_comes}
use Rattle.lpt_refinement.proofs.JobsShown.{with_release}
use Rattle.lpt_refinement.proofs.ReceivingShown.{kept_shown, again_shown, ended_shown, some_parts}
use Rattle.lpt_refinement.proofs.ReportShown.{report_shown}
use Rattle.lpt_memory.specs.Memories.{Contents}
use Rattle.lpt_refinement.proofs.OpenedShown.{closed_shown}
use Rattle.lpt_refinement.proofs.DeliveredViews.{Hands, dropped_view, received_as, outcome_view, receives, release}

-- a part is delivered, and these are the answers of the tests
abbrev PartShown : Config
    → Contents
    → History
    → State
    → Hands
    → Direction
    → NamedPart
    → (closed full contra again gap there whole : Bool)
    → Type 0
PartShown c first h s hands w q closed full contra again gap there whole =
    let d = end_of s (receiver_side w) in
    let parts = heard c h w q.name in
    let with_it = with_piece parts q in
    Shows
    (received_as (length h) w s
    (delivery (receiver_side w) closed full contra again gap there whole (abort_head (receiver_side w) c d q.name.source) d
    (receiver_of c d.receiving) q parts with_it))
    (outcome_view c first h w hands (APart q)
    (chosen closed full contra again gap whole q (length (spelled with_it))))

module _ (c : Config) (first : Contents) (h : History) (s : State) (hands : Hands)
    (fits : JobsFit (jobs_view c first h) (ticket c h))
    (k : Shows s (dropped_view c first h hands)) (w : Direction)
    (own : ShowsReceiving (end_of s (receiver_side w)).receiving (receiving_view c h w))
    (time : (end_of s (receiver_side w)).clock ≡ clock c h (receiver_side w)) where
  -- whatever the tests answer
  part : (q : NamedPart) (closed full contra again gap there whole : Bool)
      → (again ≡ true → has_parts (heard c h w q.name) ≡ true)
      → PartShown c first h s hands w q closed full contra again gap there whole
  part q true full contra again gap there whole some = receives w k own k.released
  part q false true contra again gap there whole some = receives w k own k.released
  part q false false true again gap there whole some = broken w own where
    broken : (w : Direction)
        → ShowsReceiving (end_of s (receiver_side w)).receiving (receiving_view c h w)
        → PartShown c first h s hands w q false false true again gap there whole
    broken Up f = report_shown c q.name Conflict (receives Up k (ended_shown q.name f) k.released)
    broken Down f = receives Down k (ended_shown q.name f) k.released
  part q false false false false true there whole some = broken w own there where
    broken : (w : Direction)
        → ShowsReceiving (end_of s (receiver_side w)).receiving (receiving_view c h w)
        → (there : Bool)
        → PartShown c first h s hands w q false false false false true there whole
    broken Up f true = report_shown c q.name Discontinuity (receives Up k (ended_shown q.name f) k.released)
    broken Up f false = report_shown c q.name Discontinuity (receives Up k (ended_shown q.name f) k.released)
    broken Down f true = receives Down k (ended_shown q.name f) k.released
    broken Down f false = receives Down k (ended_shown q.name f) k.released
  part q false false false true gap there whole some =
      receives w k (again_shown q.name _ _ time (some refl) own) k.released
  part q false false false false false there true some = releasing w own where
    releasing : (w : Direction)
        → ShowsReceiving (end_of s (receiver_side w)).receiving (receiving_view c h w)
        → PartShown c first h s hands w q false false false false false there true
    releasing Up f =
        let out = release (length h) (Some (Up, q.name))
        (spelled (with_piece (heard c h Up q.name) q)) in
        with_release (jobs c h) out refl fits.executed fits.claimed
        (receives Up k (ended_shown q.name f) (ap (λ rs. rs ++ out ∷ []) k.released))
    releasing Down f =
        let out = release (length h) (Some (Down, q.name))
        (spelled (with_piece (heard c h Down q.name) q)) in
        receives Down k (ended_shown q.name f) (ap (λ rs. rs ++ out ∷ []) k.released)
  part q false false false false false there false some =
      receives w k (kept_shown q _ _ time own) k.released

  -- whatever arrives that may come
  any : (a : Arrival)
      → MayCome w a
      → Shows
      (received_as (length h) w s
      (packet_accepted (receiver_side w) c (end_of s (receiver_side w)) a))
      (outcome_view c first h w hands a (arrival_judged c h w a))
  any NotRead none = receives w k own k.released
  any AnIdle none = receives w k own k.released
  any Foreign none = receives w k own k.released
  any NoPart none = receives w k own k.released
  any (AReport service subtype) none = receives w k own k.released
  any (ARequest b) may = requests w own may where
    requests : (w : Direction)
        → ShowsReceiving (end_of s (receiver_side w)).receiving (receiving_view c h w)
        → MayCome w (ARequest b)
        → Shows
        (received_as (length h) w s
        (packet_accepted (receiver_side w) c (end_of s (receiver_side w)) (ARequest b)))
        (outcome_view c first h w hands (ARequest b) (arrival_judged c h w (ARequest b)))
    requests Down f may = absurd may
    requests Up f may =
        let out = release (length h) None b in
        with_release (jobs c h) out refl fits.executed fits.claimed
        (receives Up k f (ap (λ rs. rs ++ out ∷ []) k.released))
  any (AnAbort name reason) may = closes w may where
    closes : (w : Direction)
        → MayCome w (AnAbort name reason)
        → Shows
        (received_as (length h) w s
        (packet_accepted (receiver_side w) c (end_of s (receiver_side w)) (AnAbort name reason)))
        (outcome_view c first h w hands (AnAbort name reason)
        (arrival_judged c h w (AnAbort name reason)))
    closes Up may = absurd may
    closes Down may = with_sending Ground k (closed_shown h Up name k.ground.sending)
  any (APart q) none =
      let parts = heard c h w q.name in
      subst (λ (x : NodeData × Accepted). Shows (received_as (length h) w s x)
      (outcome_view c first h w hands (APart q) (arrival_judged c h w (APart q))))
      (sym (part_agrees c h w (end_of s (receiver_side w)) q own))
      (part q (is_closed h w q.name)
      (not (has_parts parts)
      && nat_le (limits c h (receiver_side w)).receptions (reception_count c h w))
      (contradicts parts q.number (as_kept q)) (is_some (maps.get parts q.number))
      (is_gap c.mode parts q.number)
      (is_open (table_in (receiver_of c (end_of s (receiver_side w)).receiving)) q.name)
      (is_whole (with_piece parts q)) (some_parts parts q.number))

-- ---- lanes

-- the lane's hand is emptied
dropped : (c : Config) (first : Contents) (s : State) (h : History) (l : Lane)
    → Shows s (views c first h)
    → Shows (record s { link = after_drop s.link l })
    (dropped_view c first h (λ m. hand_after (Deliver l) m (hand h m)))
dropped c first s h l k = with_link k (link_dropped l k.link)

-- what is in the hand is delivered
in_lane : (c : Config) (first : Contents) (s : State) (h : History) (l : Lane)
    → Shows s (views c first h)
    → JobsFit (jobs_view c first h) (ticket c h)
    → Shows
    (delivered_on (length h) s l
    (packet_accepted (receiver_side (lane_direction l)) c
    (end_of s (receiver_side (lane_direction l)))
    (in_hand c h l))).0
    (views c first (entry c first h (Deliver l) ∷ h))
in_lane c first s h S1 k fits =
    any c first h _ _ fits (dropped c first s h S1 k) Up k.craft.receiving k.craft.clock
    (in_hand c h S1) (in_hand_comes c h S1)
in_lane c first s h S2 k fits =
    any c first h _ _ fits (dropped c first s h S2 k) Up k.craft.receiving k.craft.clock
    (in_hand c h S2) (in_hand_comes c h S2)
in_lane c first s h G1 k fits =
    any c first h _ _ fits (dropped c first s h G1 k) Down k.ground.receiving k.ground.clock
    (in_hand c h G1) (in_hand_comes c h G1)
in_lane c first s h G2 k fits =
    any c first h _ _ fits (dropped c first s h G2 k) Down k.ground.receiving k.ground.clock
    (in_hand c h G2) (in_hand_comes c h G2)

-- a lane delivers
pub delivered_shown : (c : Config) (first : Contents) (s : State) (h : History) (l : Lane)
    → Shows s (views c first h)
    → JobsFit (jobs_view c first h) (ticket c h)
    → Shows (after_deliver c (length h) s l).0 (views c first (entry c first h (Deliver l) ∷ h))
delivered_shown c first s h l k fits =
    let side = receiver_side (lane_direction l) in
    subst (λ (a : Arrival).
    Shows (delivered_on (length h) s l (packet_accepted side c (end_of s side) a)).0
    (views c first (entry c first h (Deliver l) ∷ h))) (sym (arrival_agrees c first s h l k))
    (in_lane c first s h l k fits)

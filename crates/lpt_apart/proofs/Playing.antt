-- Two ends play what a world sends, and what its link does.
use Rattle.std.proofs.Common.{◌≡◌, ◌∙◌, ap, sym, subst, refl, ℕ, true, inl, inr, List, [], ◌∷◌, length, Some, None, is_some}
use Rattle.lpt_packet.specs.declared.direction.Direction.{Direction}
use Rattle.lpt_packet.specs.declared.direction.Direction.TheVariants.{Up, Down}
use Rattle.lpt_packet.specs.Names.{Name}
use Rattle.lpt_memory.specs.Memories.{Contents}
use Rattle.lpt_events.specs.Arrivals.{Arrival, NotRead, arrival_in}
use Rattle.lpt_events.specs.Configs.{IsConfig}
use Rattle.lpt_events.specs.Lanes.{lane_direction}
use Rattle.lpt_events.specs.declared.config.Config.{Config}
use Rattle.lpt_acts.specs.Acts.{Act}
use Rattle.lpt_acts.specs.Acts as act
use Rattle.lpt_events.specs.declared.lane.Lane.{Lane}
use Rattle.lpt_events.specs.declared.lane.Lane.TheVariants.{S1, S2, G1, G2}
use Rattle.lpt_events.specs.declared.side.Side.TheVariants.{Ground, Craft}
use Rattle.lpt_link.specs.Links.{hand_of, is_held_for, packet_in_hand, after_drop}
use Rattle.lpt_node.specs.Accepting.{packet_accepted}
use Rattle.lpt_node.specs.Faults.{node_fault}
use Rattle.lpt_node.specs.Nodes.{NodeData}
use Rattle.lpt_node.specs.Requests.{plain_made}
use Rattle.lpt_node.specs.Sending.{part_sent}
use Rattle.lpt_node.specs.declared.accepted.Accepted.{Accepted}
use Rattle.lpt_model.specs.State.{State, after, as_list, link_fault, refusal_of, arrival_held, released_of}
use Rattle.lpt_journal.specs.Journal.{History}
use Rattle.lpt_journal.specs.Legal.{Legal}
use Rattle.lpt_journal.specs.Replies.{history_after}
use Rattle.lpt_journal.proofs.HeadlineLemmas.{every, owes}
use Rattle.lpt_apart.specs.Ends.{PutOut, Ends, put_out, Opened, Asked, Log, with_abortion, with_release, accepted_on}
use Rattle.lpt_apart.specs.TwoEnds.{is_harmless, MayCome}
use Rattle.lpt_apart.specs.Plays.{octets_held, step_of}
use Rattle.lpt_apart.specs.Told.{log_told}
use Rattle.lpt_apart.proofs.Leaving.{IsHad, AllHad, out_at, had_one, had_put, had_taken, had_dropped}
use Rattle.lpt_apart.proofs.Telling.{plain_told, delivery_told}
use Rattle.lpt_apart.proofs.Ties.{ends_of, IsLonger, longer, not_refused}
use Rattle.lpt_apart.proofs.Players.{Plays, Goes, CanPlay, HasInHand, unmapped, takes_held, has_in_hand, arrives}
use Rattle.lpt_link.proofs.HandLemmas.{taken_held}

module _ (c : Config) (first : Contents) (s : State) (ways : List PutOut) (log : Log)
    (es : List Act) (good : IsConfig c) (t : CanPlay c first s ways log es) where
  -- two ends with that world's nodes
  abbrev pub ends : Ends
  ends = ends_of s ways log

  -- the history
  abbrev pub h : History
  h = history_after c first es

  -- the world after an event
  abbrev pub state_after : Act → State
  state_after e = (after c (length h) s e).0

  -- what is legal isn't refused
  pub free : (e : Act) → Legal c first (e ∷ es) → refusal_of c s e ≡ None
  free e legal = not_refused c first s es e good t.shown legal

  -- and can be done
  pub more : (e : Act) → Legal c first (e ∷ es) → IsLonger c first s es e
  more e legal =
      longer c first s es e good legal.0 t.shown legal.1.in_range (free e legal)

  -- the longer journal is played by two ends of the world after an event
  pub plays : (e : Act) (new : List PutOut) (now : Log)
      → Legal c first (e ∷ es)
      → AllHad c (state_after e).link new
      → log_told c (history_after c first (e ∷ es)) ≡ now
      → Plays c first (e ∷ es) (ends_of (state_after e) new now)
  plays e new now legal all now_told = record {
    state = state_after e;
    shown = (more e legal).shown;
    had = all;
    tells = now_told;
    is = refl;
  }

  -- an event goes on in two ends
  abbrev pub GoesOn : Act → Type 0
  GoesOn e = Legal c first (e ∷ es) → Goes c first (e ∷ es) ends (step_of h e)

  -- ---- sending

  -- a message is opened
  pub opens : (d : Direction) (name : Name) (m : List ℕ) → GoesOn (act.Open d name m)
  opens Up name m legal = (
    (legal.1.in_range, unmapped node_fault _ (free (act.Open Up name m) legal)),
    plays (act.Open Up name m) ways (Opened Up name m ∷ log) legal t.had
        (ap (λ (l : Log). Opened Up name m ∷ l) t.tells),
  )
  opens Down name m legal = (
    (legal.1.in_range, unmapped node_fault _ (free (act.Open Down name m) legal)),
    plays (act.Open Down name m) ways (Opened Down name m ∷ log) legal t.had
        (ap (λ (l : Log). Opened Down name m ∷ l) t.tells),
  )

  -- a part is sent
  pub sends : (d : Direction) (name : Name) (k : ℕ) → GoesOn (act.Send d name k)
  sends Up name k legal =
      let bs : List (List ℕ) = (part_sent Ground c s.on_ground name k).1 ∷ [] in (
        (legal.1.in_range, unmapped node_fault _ (free (act.Send Up name k) legal)),
        plays (act.Send Up name k) (put_out ways Up (Some name) bs) log legal
            (had_put c s.link ways Up (Some name) bs t.had) t.tells,
      )
  sends Down name k legal =
      let bs : List (List ℕ) = (part_sent Craft c s.on_craft name k).1 ∷ [] in (
        (legal.1.in_range, unmapped node_fault _ (free (act.Send Down name k) legal)),
        plays (act.Send Down name k) (put_out ways Down (Some name) bs) log legal
            (had_put c s.link ways Down (Some name) bs t.had) t.tells,
      )

  -- a plain request is made
  pub plain : (source flags service subtype : ℕ) (body : List ℕ)
      → GoesOn (act.Plain source flags service subtype body)
  plain source flags service subtype body legal =
      let e : Act = act.Plain source flags service subtype body in
      let b : List ℕ = (plain_made c s.on_ground source flags service subtype body).1 in (
        (legal.1.in_range, unmapped node_fault _ (free e legal)),
        plays (act.Plain source flags service subtype body) (put_out ways Up None (b ∷ []))
            (Asked b ∷ log) legal
            (had_put c s.link ways Up None (b ∷ []) t.had)
            (plain_told c first s log es t.shown t.tells source flags service subtype body),
      )

  -- a message is finished
  pub finishes : (d : Direction) (name : Name) → GoesOn (act.Finish d name)
  finishes Up name legal = (
    (legal.1.in_range, unmapped node_fault _ (free (act.Finish Up name) legal)),
    plays (act.Finish Up name) ways log legal t.had t.tells,
  )
  finishes Down name legal = (
    (legal.1.in_range, unmapped node_fault _ (free (act.Finish Down name) legal)),
    plays (act.Finish Down name) ways log legal t.had t.tells,
  )

  -- ---- the link

  -- what the link's noise left isn't read
  pub damages : (d : Direction) (b : List ℕ) → GoesOn (act.Damage d b)
  damages d b legal =
      let all = every c first es good legal.0 in
      let unread : arrival_in c d b ≡ NotRead =
      ((owes c first h (act.Damage d b) good all.0 all.2 legal.1).puts 0
      (record { direction = d; octets = b }) refl).sound in
      plays (act.Damage d b) ways log legal
      (had_one c s.link ways ways d None b t.had (λ p is. is) (inr unread)) t.tells

  -- what a lane takes can be delivered still
  pub takes : (l : Lane) (n : ℕ) → GoesOn (act.Take l n)
  takes l n legal =
      let held : is_held_for s.link (lane_direction l) n ≡ true =
      takes_held (is_some (hand_of s.link l)) (is_held_for s.link (lane_direction l) n)
      (unmapped link_fault _ (free (act.Take l n) legal)) in
      plays (act.Take l n) ways log legal
      (had_taken c s.link ways l n (taken_held s.link (lane_direction l) n held) t.had) t.tells

  -- what is in a lane's hand may come
  comes : (l : Lane)
      → HasInHand s h l
      → MayCome c ends (lane_direction l) (octets_held h l)
  comes l it = go (t.had it.number it.packet it.there (inr (l, it.in_hand))) where
    go : IsHad c ways it.packet → MayCome c ends (lane_direction l) (octets_held h l)
    go (inl out) =
        let at = out_at ways it.packet.direction it.packet.tag it.packet.octets out in
        inl (record {
          place = at.place;
          packet = at.packet;
          there = at.there;
          goes = at.is.direction ∙ it.goes;
          octets = at.is.octets ∙ it.octets;
        })
    go (inr unread) =
        inr (ap is_harmless ((λ i. arrival_in c (sym it.goes i) (sym it.octets i)) ∙ unread))

  -- what a lane delivers is handed over
  pub delivers : (l : Lane) → GoesOn (act.Deliver l)
  delivers S1 legal =
      let it = has_in_hand c first s es S1 good legal.0 t.shown (free (act.Deliver S1) legal) in
      let x : NodeData × Accepted =
      packet_accepted Craft c s.on_craft (arrival_held c Up (packet_in_hand s.link S1)) in (
        comes S1 it,
        subst (λ (a : Arrival). Plays c first (act.Deliver S1 ∷ es)
            (accepted_on ends Up (packet_accepted Craft c s.on_craft a))) (arrives c s h S1 it)
            (plays (act.Deliver S1) (put_out ways Down None (as_list x.1.packet))
            (with_abortion Up x.1.outcome
            (with_release log (released_of Up x.1.outcome) x.1.released)) legal
            (had_put c (after_drop s.link S1) ways Down None (as_list x.1.packet)
            (had_dropped c s.link ways S1 t.had))
            (delivery_told c first s log es t.shown t.tells S1 (more (act.Deliver S1) legal) x
            refl)),
      )
  delivers S2 legal =
      let it = has_in_hand c first s es S2 good legal.0 t.shown (free (act.Deliver S2) legal) in
      let x : NodeData × Accepted =
      packet_accepted Craft c s.on_craft (arrival_held c Up (packet_in_hand s.link S2)) in (
        comes S2 it,
        subst (λ (a : Arrival). Plays c first (act.Deliver S2 ∷ es)
            (accepted_on ends Up (packet_accepted Craft c s.on_craft a))) (arrives c s h S2 it)
            (plays (act.Deliver S2) (put_out ways Down None (as_list x.1.packet))
            (with_abortion Up x.1.outcome
            (with_release log (released_of Up x.1.outcome) x.1.released)) legal
            (had_put c (after_drop s.link S2) ways Down None (as_list x.1.packet)
            (had_dropped c s.link ways S2 t.had))
            (delivery_told c first s log es t.shown t.tells S2 (more (act.Deliver S2) legal) x
            refl)),
      )
  delivers G1 legal =
      let it = has_in_hand c first s es G1 good legal.0 t.shown (free (act.Deliver G1) legal) in
      let x : NodeData × Accepted =
      packet_accepted Ground c s.on_ground (arrival_held c Down (packet_in_hand s.link G1)) in (
        comes G1 it,
        subst (λ (a : Arrival). Plays c first (act.Deliver G1 ∷ es)
            (accepted_on ends Down (packet_accepted Ground c s.on_ground a))) (arrives c s h G1 it)
            (plays (act.Deliver G1) (put_out ways Down None (as_list x.1.packet))
            (with_abortion Down x.1.outcome
            (with_release log (released_of Down x.1.outcome) x.1.released)) legal
            (had_put c (after_drop s.link G1) ways Down None (as_list x.1.packet)
            (had_dropped c s.link ways G1 t.had))
            (delivery_told c first s log es t.shown t.tells G1 (more (act.Deliver G1) legal) x
            refl)),
      )
  delivers G2 legal =
      let it = has_in_hand c first s es G2 good legal.0 t.shown (free (act.Deliver G2) legal) in
      let x : NodeData × Accepted =
      packet_accepted Ground c s.on_ground (arrival_held c Down (packet_in_hand s.link G2)) in (
        comes G2 it,
        subst (λ (a : Arrival). Plays c first (act.Deliver G2 ∷ es)
            (accepted_on ends Down (packet_accepted Ground c s.on_ground a))) (arrives c s h G2 it)
            (plays (act.Deliver G2) (put_out ways Down None (as_list x.1.packet))
            (with_abortion Down x.1.outcome
            (with_release log (released_of Down x.1.outcome) x.1.released)) legal
            (had_put c (after_drop s.link G2) ways Down None (as_list x.1.packet)
            (had_dropped c s.link ways G2 t.had))
            (delivery_told c first s log es t.shown t.tells G2 (more (act.Deliver G2) legal) x
            refl)),
      )

-- Octets are handed over: a lane takes their packet and delivers it, or they are harmless.
use Rattle.std.proofs.Common.{◌≡◌, ◌∙◌, ap, subst, refl, ℕ, Bool, true, false, ◌&&◌, ◌||◌, if◌then◌else◌, inl, inr, List, ◌∷◌, length, Option, Some, None, is_some}
use Rattle.std.specs.Option.{option_map, option_map_or}
use Rattle.std.specs.Prelude.{slice_get}
use Rattle.lpt_packet.specs.declared.direction.Direction.{Direction}
use Rattle.lpt_packet.specs.declared.direction.Direction.TheVariants.{Up, Down}
use Rattle.lpt_memory.specs.Memories.{Contents}
use Rattle.lpt_events.specs.Arrivals.{Arrival, NotRead, AnIdle, Foreign, ARequest, AReport, NoPart, APart, AnAbort, arrival_in}
use Rattle.lpt_events.specs.Configs.{IsConfig}
use Rattle.lpt_events.specs.Lanes.{lane_direction, same_direction}
use Rattle.lpt_events.specs.Sides.{receiver_side}
use Rattle.lpt_events.specs.declared.config.Config.{Config}
use Rattle.lpt_acts.specs.Acts.{Act, Take, Deliver}
use Rattle.lpt_events.specs.declared.event.Event.TheVariants as event
use Rattle.lpt_events.specs.declared.lane.Lane.{Lane}
use Rattle.lpt_events.specs.declared.lane.Lane.TheVariants.{S1, S2, G1, G2}
use Rattle.lpt_events.specs.declared.side.Side.TheVariants.{Ground, Craft}
use Rattle.lpt_link.specs.declared.fault.LinkFault.TheVariants.{NotHeld, HandFull, HandEmpty}
use Rattle.lpt_link.specs.declared.packet.LinkPacket.{LinkPacket}
use Rattle.lpt_link.specs.Links.{LinkData, hand_of, is_held_for, after_take, after_drop}
use Rattle.lpt_node.specs.Accepting.{packet_accepted}
use Rattle.lpt_node.specs.declared.accepted.Accepted.{Accepted}
use Rattle.lpt_node.specs.Nodes.{NodeData}
use Rattle.lpt_model.specs.State.{State, link_fault, as_list, arrival_held, delivered_on}
use Rattle.lpt_refinement.specs.Shows.{Shows}
use Rattle.lpt_refinement.specs.Views.{views}
use Rattle.lpt_journal.specs.Journal.{History}
use Rattle.lpt_journal.specs.Legal.{Legal}
use Rattle.lpt_journal.specs.Replies.{history_after}
use Rattle.lpt_journal.specs.Whole.{came}
use Rattle.lpt_apart.specs.Ends.{PutOut, Ends, node_at, Log, with_release, accepted_on}
use Rattle.lpt_apart.specs.TwoEnds.{is_harmless, CanHappen, came_by, came_after}
use Rattle.lpt_apart.specs.Ends as steps
use Rattle.lpt_apart.proofs.Aborts.{closed_up, closed_down}
use Rattle.lpt_apart.proofs.Links.{IsHeldAs, held_at, put_held, put_hands}
use Rattle.lpt_apart.proofs.Telling.{delivery_told, delivery_came}
use Rattle.lpt_apart.proofs.Ties.{ends_of, IsTied, Came, Leads, IsLonger, longer}

-- ---- a lane takes and delivers

-- the world that has taken a packet
abbrev taken : State → Lane → ℕ → State
taken s l n = record s { link = after_take s.link l n }

hand_taken : (v : LinkData) (l : Lane) (n : ℕ) → hand_of (after_take v l n) l ≡ Some n
hand_taken v S1 n = refl
hand_taken v S2 n = refl
hand_taken v G1 n = refl
hand_taken v G2 n = refl

-- a lane with an empty hand takes what is held
take : (c : Config) (first : Contents) (s : State) (es : List Act) (l : Lane) (n : ℕ)
    → IsConfig c
    → Legal c first es
    → Shows s (views c first (history_after c first es))
    → hand_of s.link l ≡ None
    → is_held_for s.link (lane_direction l) n ≡ true
    → IsLonger c first s es (Take l n)
take c first s es l n good legal shown empty held =
    longer c first s es (Take l n) good legal shown tt
    (λ i. option_map link_fault
    (if is_some (empty i) then Some HandFull else if held i then None else Some NotHeld))

-- and delivers it
deliver : (c : Config) (first : Contents) (s : State) (es : List Act) (l : Lane) (n : ℕ)
    → IsConfig c
    → IsLonger c first s es (Take l n)
    → IsLonger c first (taken s l n) (Take l n ∷ es) (Deliver l)
deliver c first s es l n good took =
    longer c first (taken s l n) (Take l n ∷ es) (Deliver l) good took.legal took.shown tt
    (ap (λ (o : Option ℕ). option_map link_fault (if is_some o then None else Some HandEmpty))
    (hand_taken s.link l n))

-- ---- what is on the way

module _ (c : Config) (first : Contents) (usual : Type 0) (s : State) (ways : List PutOut)
    (log : Log)
    (es : List Act)
    (good : IsConfig c) (t : IsTied c first usual s ways log es) where
  -- the parts that came before
  abbrev had : Came
  had = came c (history_after c first es)

  -- what a node has taken leads on, and its part came
  abbrev Led : Direction → Arrival → Type 0
  Led d a =
      let x : NodeData × Accepted =
      packet_accepted (receiver_side d) c (node_at (ends_of s ways log) (receiver_side d)) a in
      Leads c first usual (accepted_on (ends_of s ways log) d x)
      (λ e name k. came_by d a x.1.outcome e name k (had e name k))

  -- the packet goes in this direction, and is held
  held_for : (d : Direction) (p : PutOut) (h : IsHeldAs s.link.packets p)
      → p.direction ≡ d
      → is_held_for s.link d h.number ≡ true
  held_for d p h goes =
      ap (λ (o : Option LinkPacket). option_map_or (λ q. q.held && same_direction q.direction d) o
      false) h.there
      ∙ (λ i. h.held i && same_direction ((h.direction ∙ goes) i) d)
      ∙ go d where
        go : (d : Direction) → (true && same_direction d d) ≡ true
        go Up = refl
        go Down = refl

  -- what the lane has in its hand is what was put out
  arrives : (d : Direction) (p : PutOut) (b : List ℕ) (h : IsHeldAs s.link.packets p)
      → p.octets ≡ b
      → arrival_held c d (slice_get s.link.packets h.number) ≡ arrival_in c d b
  arrives d p b h octets =
      ap (arrival_held c d) h.there ∙ ap (arrival_in c d) (h.octets ∙ octets)

  up : (n : ℕ)
      → is_held_for s.link Up n ≡ true
      → Led Up (arrival_held c Up (slice_get s.link.packets n))
  up n held =
      let x : NodeData × Accepted =
      packet_accepted Craft c s.on_craft (arrival_held c Up (slice_get s.link.packets n)) in
      let h : History = history_after c first (Take S1 n ∷ es) in
      let took = take c first s es S1 n good t.legal t.shown (t.hands S1) held in
      let gave = deliver c first s es S1 n good took in
      record {
        follows = record {
          state = (delivered_on (length h) (taken s S1 n) S1 x).0;
          events = Deliver S1 ∷ Take S1 n ∷ es;
          tied = record {
            legal = gave.legal;
            shown = gave.shown;
            hands = λ l.
                put_hands (after_drop (taken s S1 n).link S1) Down None (as_list x.1.packet) l
                ∙ hands l;
            held = put_held (after_drop (taken s S1 n).link S1) ways Down None (as_list x.1.packet)
                t.held;
            tells =
                delivery_told c first (taken s S1 n) log (Take S1 n ∷ es) took.shown t.tells S1 gave
                x refl;
            alone = λ u. (
              (t.alone u, record { event = event.Take S1 n; is = refl }),
              record { event = event.Deliver S1; is = refl },
            );
          };
          is = refl;
        };
        comes =
            delivery_came c first (taken s S1 n) log (Take S1 n ∷ es) took.shown t.tells S1 gave
            (arrival_held c Up (slice_get s.link.packets n)) x refl refl;
      } where
        hands : (l : Lane) → hand_of (after_drop (taken s S1 n).link S1) l ≡ None
        hands S1 = refl
        hands S2 = t.hands S2
        hands G1 = t.hands G1
        hands G2 = t.hands G2

  down : (n : ℕ)
      → is_held_for s.link Down n ≡ true
      → Led Down (arrival_held c Down (slice_get s.link.packets n))
  down n held =
      let x : NodeData × Accepted =
      packet_accepted Ground c s.on_ground (arrival_held c Down (slice_get s.link.packets n)) in
      let h : History = history_after c first (Take G1 n ∷ es) in
      let took = take c first s es G1 n good t.legal t.shown (t.hands G1) held in
      let gave = deliver c first s es G1 n good took in
      record {
        follows = record {
          state = (delivered_on (length h) (taken s G1 n) G1 x).0;
          events = Deliver G1 ∷ Take G1 n ∷ es;
          tied = record {
            legal = gave.legal;
            shown = gave.shown;
            hands = λ l.
                put_hands (after_drop (taken s G1 n).link G1) Down None (as_list x.1.packet) l
                ∙ hands l;
            held = put_held (after_drop (taken s G1 n).link G1) ways Down None (as_list x.1.packet)
                t.held;
            tells =
                delivery_told c first (taken s G1 n) log (Take G1 n ∷ es) took.shown t.tells G1 gave
                x refl;
            alone = λ u. (
              (t.alone u, record { event = event.Take G1 n; is = refl }),
              record { event = event.Deliver G1; is = refl },
            );
          };
          is = refl;
        };
        comes =
            delivery_came c first (taken s G1 n) log (Take G1 n ∷ es) took.shown t.tells G1 gave
            (arrival_held c Down (slice_get s.link.packets n)) x refl refl;
      } where
        hands : (l : Lane) → hand_of (after_drop (taken s G1 n).link G1) l ≡ None
        hands S1 = t.hands S1
        hands S2 = t.hands S2
        hands G1 = refl
        hands G2 = t.hands G2

  -- nothing has happened
  same : Leads c first usual (ends_of s ways log) had
  same = record {
    follows = record { state = s; events = es; tied = t; is = refl };
    comes = λ d name k. refl;
  }

  -- what is no part brings none
  still : {e : Ends} (i : Direction)
      → Leads c first usual e had
      → Leads c first usual e (λ d name k. (same_direction i d && false) || had d name k)
  still i l = record {
    follows = l.follows;
    comes = λ d name k. l.comes d name k ∙ go (same_direction i d) (had d name k);
  } where
    go : (b before : Bool) → before ≡ ((b && false) || before)
    go true before = refl
    go false before = refl

  -- what is harmless changes nothing, or finishes a message
  harmless_up : (a : Arrival)
      → is_harmless a ≡ true
      → Led Up a
  harmless_up NotRead harmless = still Up same
  harmless_up AnIdle harmless = still Up same
  harmless_up Foreign harmless = still Up same
  harmless_up (ARequest b) harmless = absurd cc
  harmless_up (AReport service subtype) harmless = still Up same
  harmless_up NoPart harmless = still Up same
  harmless_up (APart q) harmless = absurd cc
  harmless_up (AnAbort name reason) harmless =
      still Up (closed_down c first usual s ways log es good t name)

  harmless_down : (a : Arrival)
      → is_harmless a ≡ true
      → Led Down a
  harmless_down NotRead harmless = still Down same
  harmless_down AnIdle harmless = still Down same
  harmless_down Foreign harmless = still Down same
  harmless_down (ARequest b) harmless = absurd cc
  harmless_down (AReport service subtype) harmless = still Down same
  harmless_down NoPart harmless = still Down same
  harmless_down (APart q) harmless = absurd cc
  harmless_down (AnAbort name reason) harmless =
      still Down (closed_up c first usual s ways log es good t name)

  -- what may come does
  pub accept : (d : Direction) (b : List ℕ)
      → CanHappen c (ends_of s ways log) (steps.Accept d b)
      → Leads c first usual (steps.after c (ends_of s ways log) (steps.Accept d b))
      (λ e name k. came_after c (ends_of s ways log) (steps.Accept d b) e name k (had e name k))
  accept Up b (inl on) =
      let h : IsHeldAs s.link.packets on.packet =
      held_at s.link.packets ways on.place on.packet t.held on.there in
      subst (Led Up)
      (arrives Up on.packet b h on.octets)
      (up h.number (held_for Up on.packet h on.goes))
  accept Down b (inl on) =
      let h : IsHeldAs s.link.packets on.packet =
      held_at s.link.packets ways on.place on.packet t.held on.there in
      subst (Led Down)
      (arrives Down on.packet b h on.octets)
      (down h.number (held_for Down on.packet h on.goes))
  accept Up b (inr harmless) = harmless_up (arrival_in c Up b) harmless
  accept Down b (inr harmless) = harmless_down (arrival_in c Down b) harmless

-- A ground end and a spacecraft's that is killed and started again keep the promise: what they do
-- is moves of two ends apart.
use Rattle.std.proofs.Common.{◌≡◌, ◌∙◌, ap, sym, subst, refl, ℕ, ◌+◌, List, [], ◌∷◌, Ok, arith}
use Rattle.lpt_packet.specs.declared.direction.Direction.TheVariants.{Up, Down}
use Rattle.lpt_events.specs.Arrivals.{arrival_in}
use Rattle.lpt_events.specs.Configs.{IsConfig}
use Rattle.lpt_events.specs.declared.config.Config.{Config}
use Rattle.lpt_events.specs.declared.side.Side.TheVariants.{Ground, Craft}
use Rattle.lpt_memory.specs.Memories.{Contents}
use Rattle.lpt_node.specs.Accepting.{packet_accepted}
use Rattle.lpt_node.specs.Nodes.{NodeData, NodeView, no_data}
use Rattle.lpt_node.specs.Restarts.{node_restarted}
use Rattle.lpt_state.specs.Lastings.{restarted_node}
use Rattle.lpt_state.specs.Verdicts.{reading}
use Rattle.lpt_state.proofs.LawLemmas.{written_is_read}
use Rattle.lpt_apart.specs.Ends.{after_all, Pair, Move, Do, Free, pair_after, Accept, Expire, Finish, Open, Plain, Restart, Retire, Send, Tick}
use Rattle.lpt_apart.specs.TwoEnds.{later, no_pair_later, own_config, CanAll, AllDue, CanMove, came_since, WithholdsNothing, IsPromised}
use Rattle.lpt_apart.proofs.Clocks.{ends_with_clocks_keep_the_promise, ends_with_clocks_withhold_nothing}
use Rattle.lpt_spacecraft.specs.Flights.{Flight, Input, Astray, Came, Cleared, Ticked, new_flight}
use Rattle.lpt_spacecraft.specs.Serving.{Onboard, new_end}
use Rattle.lpt_spacecraft_moves.specs.Lives.{behind, craft_own, joined_after, done_all, joined_new, view_of, CanDo, CanDoAll, Deed, GroundAndSpacecraftKeepThePromise, IsOfGround, IsStarted, Joined, KeepsThePromise, Makes, Starts, Takes}
use Rattle.lpt_spacecraft_moves.specs.Moves.{after_moves, CanMakeAll, IsCraftOf, MayBring, ReleasesOctets}
use Rattle.lpt_spacecraft_moves.proofs.InputRuns.{input-moves}
use Rattle.lpt_spacecraft_moves.proofs.OctetLogs.{octets_on, released_octets, AreOfOctets}

-- ---- the spacecraft's end

-- a move of ground leaves it as it is
ground_leaves : (c : Config) (p : Pair) (s : Onboard) (x : Move)
    → IsOfGround x
    → IsCraftOf p s
    → IsCraftOf (pair_after c p x) s
ground_leaves c p s (Do (Open Up name m)) own at =
    record { node = at.node; memories = at.memories; tickets = at.tickets; idle = at.idle }
ground_leaves c p s (Do (Send Up name k)) own at =
    record { node = at.node; memories = at.memories; tickets = at.tickets; idle = at.idle }
ground_leaves c p s (Do (Plain source flags service subtype body)) own at =
    record { node = at.node; memories = at.memories; tickets = at.tickets; idle = at.idle }
ground_leaves c p s (Do (Finish Up name)) own at =
    record { node = at.node; memories = at.memories; tickets = at.tickets; idle = at.idle }
ground_leaves c p s (Do (Accept Down b)) own at =
    record { node = at.node; memories = at.memories; tickets = at.tickets; idle = at.idle }
ground_leaves c p s (Do (Tick Ground turn)) own at =
    record { node = at.node; memories = at.memories; tickets = at.tickets; idle = at.idle }
ground_leaves c p s (Do (Expire Ground which)) own at =
    record { node = at.node; memories = at.memories; tickets = at.tickets; idle = at.idle }
ground_leaves c p s (Do (Retire Up name)) own at =
    record { node = at.node; memories = at.memories; tickets = at.tickets; idle = at.idle }
ground_leaves c p s (Do (Restart Ground)) own at =
    record { node = at.node; memories = at.memories; tickets = at.tickets; idle = at.idle }
ground_leaves c p s (Free Down name) own at =
    record { node = at.node; memories = at.memories; tickets = at.tickets; idle = at.idle }
ground_leaves c p s x own at = absurd own

-- a program that is started again has the end that a restart leaves
starts_again : (c : Config) (p : Pair) (s t : Onboard)
    → IsCraftOf p s
    → IsStarted c s t
    → IsCraftOf (pair_after c p (Do (Restart Craft))) t
starts_again c p s t at is =
    let read : Ok (restarted_node (view_of c s)) ≡ Ok (view_of c t) =
    sym (ap (reading Craft c) is.kept
    ∙ written_is_read (view_of c s) is.is_end is.number_left) ∙ is.read in
    let same : restarted_node (view_of c s) ≡ view_of c t = cc in
    let node : node_restarted s.node ≡ t.node = ap (λ (v : NodeView). v.at) same in
    record {
      node = ap node_restarted at.node ∙ node;
      memories = at.memories ∙ sym is.memories;
      tickets = at.tickets;
      idle = ap (λ (d : NodeData). d.jobs.jobs) (sym node);
    }

-- ---- moves

-- moves behind others
after_behind : (c : Config) (p : Pair) (ms before : List Move)
    → after_all c p (behind ms before) ≡ after_moves c (after_all c p before) ms
after_behind c p [] before = refl
after_behind c p (x ∷ ms) before = after_behind c p ms (x ∷ before)

can_behind : (c : Config) (p : Pair) (ms before : List Move)
    → CanAll c p before
    → CanMakeAll c (after_all c p before) ms
    → CanAll c p (behind ms before)
can_behind c p [] before had can = had
can_behind c p (x ∷ ms) before had can = can_behind c p ms (x ∷ before) (had, can.0) can.1

octets_all : (c : Config) (p : Pair) (xs : List Move)
    → AreOfOctets p.ends.log
    → CanAll c p xs
    → AreOfOctets (after_all c p xs).ends.log
octets_all c p [] all can = all
octets_all c p (x ∷ xs) all can =
    octets_on c (after_all c p xs) x can.1 (octets_all c p xs all can.0)

-- ---- whatever is done

-- the ends stand where the moves lead
record AreLed (c : Config) (start : Pair) (j : Joined) : Type 0 where
  can : CanAll c start j.moves
  at : j.pair ≡ after_all c start j.moves
  craft : IsCraftOf j.pair j.flight.end

led_on : (c : Config) (start : Pair) (j : Joined) (x : Deed)
    → AreLed c start j
    → CanDo c j x
    → AreLed c start (joined_after c j x)
led_on c start j (Makes x) led can = record {
  can = (led.can, subst (λ (p : Pair). CanMove c p x) led.at can.1);
  at = ap (λ (p : Pair). pair_after c p x) led.at;
  craft = ground_leaves c j.pair j.flight.end x can.0 led.craft;
}
led_on c start j (Takes x ms) led can =
    let are = can.1.0 in
    let same : are.moves ≡ ms = can.1.1 in
    let may : CanMakeAll c j.pair ms =
    subst (λ (l : List Move). CanMakeAll c j.pair l) same are.can in
    record {
      can = can_behind c start ms j.moves led.can
          (subst (λ (p : Pair). CanMakeAll c p ms) led.at may);
      at = ap (λ (p : Pair). after_moves c p ms) led.at ∙ sym (after_behind c start ms j.moves);
      craft = subst (λ (l : List Move). IsCraftOf (after_moves c j.pair l)
          (joined_after c j (Takes x ms)).flight.end) same are.are;
    }
led_on c start j (Starts reuse t) led can = record {
  can = (led.can, tt);
  at = ap (λ (p : Pair). pair_after c p (Do (Restart Craft))) led.at;
  craft = starts_again c j.pair j.flight.end t led.craft can;
}

led : (c : Config) (start : Pair) (j : Joined) (xs : List Deed)
    → AreLed c start j
    → CanDoAll c j xs
    → AreLed c start (done_all c j xs)
led c start j [] at can = at
led c start j (x ∷ xs) at can =
    led_on c start (done_all c j xs) x (led c start j xs at can.0) can.1

module _ (c : Config) (first : Contents) (ticks reuse : ℕ) (good : IsConfig c)
    (good_g : IsConfig (later ticks c)) where
  abbrev start : Pair
  start = no_pair_later c first ticks (craft_own c)

  begun : AreLed c start (joined_new c first ticks reuse)
  begun =
      let clock : 0 + c.clock ≡ c.clock = omega arith in
      record {
        can = tt;
        at = refl;
        craft = record {
          node = λ i. no_data (record c { clock = clock i });
          memories = refl;
          tickets = refl;
          idle = refl;
        };
      }

  good_k : IsConfig (own_config (craft_own c) c)
  good_k = subst (λ (n : ℕ). IsConfig (record c { clock = n })) (omega arith) good

  promised : (xs : List Move)
      → CanAll c start xs
      → IsPromised c first (after_all c start xs).ends
  promised xs can = ends_with_clocks_keep_the_promise c first ticks (craft_own c) xs good_g good_k can

  -- what the spacecraft releases of what may come is octets
  octets : (xs : List Move) (f : Flight) (x : Input)
      → CanAll c start xs
      → IsCraftOf (after_all c start xs) f.end
      → MayBring c (after_all c start xs) f x
      → ReleasesOctets c f.end x
  octets xs f (Came b) can at may =
      let p : Pair = after_all c start xs in
      let due = (promised (Do (Accept Up b) ∷ xs) (can, may)).due in
      let x = packet_accepted Craft c p.ends.on_craft (arrival_in c Up b) in
      subst (λ (n : NodeData). ReleasesOctets c (record { node = n; memories = f.end.memories })
      (Came b)) at.node
      (released_octets p.ends.log x.1.outcome x.1.released (octets_all c start xs tt can) due)
  octets xs f Ticked can at may = tt
  octets xs f (Astray place len) can at may = tt
  octets xs f Cleared can at may = tt

  keeps : (j : Joined) → AreLed c start j → KeepsThePromise c first start j
  keeps j led =
      let all = promised j.moves led.can in
      record {
        craft = led.craft;
        promised = subst (λ (p : Pair). IsPromised c first p.ends) (sym led.at) all;
        whole = subst (λ (p : Pair). WithholdsNothing c p.ends.log (came_since c start j.moves))
            (sym led.at)
            (ends_with_clocks_withhold_nothing c first ticks (craft_own c) j.moves good_g good_k
            led.can);
        goes_on = λ x may.
            input-moves c j.pair j.flight x good led.craft may
            (octets j.moves j.flight x led.can
            (subst (λ (p : Pair). IsCraftOf p j.flight.end) led.at led.craft)
            (subst (λ (p : Pair). MayBring c p j.flight x) led.at may));
      }

pub ground_and_spacecraft_keep_the_promise : GroundAndSpacecraftKeepThePromise
ground_and_spacecraft_keep_the_promise c first ticks reuse xs good good_g can =
    keeps c first ticks reuse good good_g (done_all c (joined_new c first ticks reuse) xs)
    (led c (no_pair_later c first ticks (craft_own c)) (joined_new c first ticks reuse) xs
    (begun c first ticks reuse good good_g) can)

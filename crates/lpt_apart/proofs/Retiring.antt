-- A name is retired: all of its parts are lost first.
use Rattle.std.proofs.Common.{◌≡◌, ◌∙◌, ap, refl, ℕ, zero, suc, ◌<◌, Bool, true, false, not, ◌&&◌, ◌||◌, List, [], ◌∷◌, length, Option, None, is_some, arith}
use Rattle.std.specs.FinMap as maps
use Rattle.std.specs.List.{list_any}
use Rattle.std.specs.Option.{option_map_or, option_and_then}
use Rattle.std.specs.Prelude.{slice_get}
use Rattle.lpt_packet.specs.declared.direction.Direction.{Direction}
use Rattle.lpt_packet.specs.Names.{Name}
use Rattle.lpt_memory.specs.Memories.{Contents}
use Rattle.lpt_events.specs.Configs.{IsConfig}
use Rattle.lpt_events.specs.Lanes.{lanes}
use Rattle.lpt_events.specs.Sides.{sender_side, receiver_side}
use Rattle.lpt_events.specs.declared.config.Config.{Config}
use Rattle.lpt_events.specs.declared.event.Event.TheVariants as event
use Rattle.lpt_acts.specs.Acts.{Act, Retire}
use Rattle.lpt_events.specs.declared.lane.Lane.{Lane}
use Rattle.lpt_events.specs.declared.side.Side.{Side}
use Rattle.lpt_events.specs.declared.side.Side.TheVariants.{Ground, Craft}
use Rattle.lpt_ledger.specs.States.{state_at}
use Rattle.lpt_ledger.specs.declared.state.State.TheVariants.{Closed}
use Rattle.lpt_link.specs.Links.{LinkData, is_of, hand_of, any_held, any_in_hand, holds}
use Rattle.lpt_node.specs.Nodes.{NodeData}
use Rattle.lpt_model.specs.State.{State, after, end_of, is_gone, refusal_of, refusal_retire_by}
use Rattle.lpt_journal.specs.Replies.{history_after}
use Rattle.lpt_journal.specs.Whole.{came}
use Rattle.lpt_apart.specs.Ends.{PutOut, node_at, Retired, Log}
use Rattle.lpt_apart.specs.TwoEnds.{CanHappen}
use Rattle.lpt_apart.specs.Ends as steps
use Rattle.lpt_apart.proofs.Links.{held_without}
use Rattle.lpt_apart.proofs.Losing.{is_held_part, WereLost, lose_below}
use Rattle.lpt_apart.proofs.Ties.{ends_of, IsTied, Leads, longer}

none_any : {A : Type 0} (test : A → Bool) (xs : List A)
    → ((k : ℕ) → k < length xs → option_map_or test (slice_get xs k) false ≡ false)
    → list_any test xs ≡ false
none_any test [] all = refl
none_any test (x ∷ xs) all =
    let here : test x ≡ false = all zero (omega arith) in
    let there : list_any test xs ≡ false =
    none_any test xs (λ k below. all (suc k) (omega arith)) in
    (λ i. here i || there i)

none_in_hand : (v : LinkData) (d : Direction) (name : Name)
    → ((l : Lane) → hand_of v l ≡ None)
    → any_in_hand v d name ≡ false
none_in_hand v d name hands i = list_any (λ l. at l i) lanes where
  at : (l : Lane)
      → option_map_or (is_of d name) (option_and_then (slice_get v.packets) (hand_of v l)) false
      ≡ false
  at l = ap (λ (o : Option ℕ). option_map_or (is_of d name)
      (option_and_then (slice_get v.packets) o)
      false) (hands l)

-- no packet that is held or in a hand is a part of the transaction
none_held : (v : LinkData) (d : Direction) (name : Name) (n : ℕ)
    → length v.packets ≡ n
    → ((k : ℕ) → k < n → option_map_or (is_held_part d name) (slice_get v.packets k) false ≡ false)
    → ((l : Lane) → hand_of v l ≡ None)
    → holds v d name ≡ false
none_held v d name n many clear hands =
    let held : any_held v d name ≡ false =
    none_any (is_held_part d name) v.packets (λ k below. clear k (omega arith)) in
    let taken : any_in_hand v d name ≡ false = none_in_hand v d name hands in
    (λ i. held i || taken i)

-- the node of a side is the world's
same_node : (s : State) (link : LinkData) (ways : List PutOut) (log : Log) (side : Side)
    → end_of (record s { link = link }) side ≡ node_at (ends_of s ways log) side
same_node s link ways log Ground = refl
same_node s link ways log Craft = refl

pub retire : (c : Config) (first : Contents) (usual : Type 0) (s : State) (ways : List PutOut)
    (log : Log)
    (es : List Act) (d : Direction) (name : Name)
    → IsConfig c
    → IsTied c first usual s ways log es
    → CanHappen c (ends_of s ways log) (steps.Retire d name)
    → Leads c first usual (steps.after c (ends_of s ways log) (steps.Retire d name))
    (came c (history_after c first es))
retire c first usual s ways log es d name good t can =
    let n : ℕ = length s.link.packets in
    let cut : WereLost c first s es d name n =
    lose_below c first good s es d name t.legal t.shown n in
    let cut_state : State = record s { link = cut.link } in
    let hands : (l : Lane) → hand_of cut.link l ≡ None = λ l. cut.hands l ∙ t.hands l in
    let held : holds cut.link d name ≡ false =
    none_held cut.link d name n cut.many cut.clear hands in
    let heard : is_some (maps.get (end_of cut_state (receiver_side d)).receiving.entries name)
    ≡ false =
    ap (λ (x : NodeData). is_some (maps.get x.receiving.entries name))
    (same_node s cut.link ways log (receiver_side d))
    ∙ can.1.unheard in
    let gone : is_gone cut_state d name ≡ true = (λ i. not (held i) && not (heard i)) in
    let closed : state_at (end_of cut_state (sender_side d)).sending.ledger name ≡ Closed =
    ap (λ (x : NodeData). state_at x.sending.ledger name)
    (same_node s cut.link ways log (sender_side d))
    ∙ can.1.closed in
    let free : refusal_of c cut_state (Retire d name) ≡ None =
    (λ i. refusal_retire_by (closed i) (gone i)) in
    let more = longer c first cut_state cut.events (Retire d name) good cut.legal
    cut.shown can.0 free
    in
    record {
      follows = record {
        state = (after c (length (history_after c first cut.events)) cut_state (Retire d name)).0;
        events = Retire d name ∷ cut.events;
        tied = record {
          legal = more.legal;
          shown = more.shown;
          hands = hands;
          held = held_without s.link.packets cut.link.packets d name ways cut.kept t.held;
          tells = ap (λ (l : Log). Retired d name ∷ l) (cut.tells ∙ t.tells);
          alone = λ u. (
            cut.alone (t.alone u),
            record { event = event.Retire d name; is = refl },
          );
        };
        is = refl;
      };
      comes = cut.comes;
    }

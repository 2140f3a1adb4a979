-- The reception that is due at a node is the one that the journal says.
use Rattle.std.proofs.Common.{◌≡◌, ◌∙◌, ap, sym, refl, ℕ, ◌+◌, ◌≤◌, Bool, true, false, ◌&&◌, if◌then◌else◌, Option, Some, None, arith, is_some}
use Rattle.std.specs.List.{list_any}
use Rattle.std.specs.FinMap as maps
use Rattle.lpt_packet.specs.declared.direction.Direction.{Direction}
use Rattle.lpt_packet.specs.Names.{Name, same_name}
use Rattle.lpt_table.specs.Deadlines.{IsDue, due_of}
use Rattle.lpt_table.specs.Tables.{TableEntry}
use Rattle.lpt_table.proofs.DueLemmas.{due_of_is, due_unique}
use Rattle.lpt_events.specs.declared.config.Config.{Config}
use Rattle.lpt_node.specs.Nodes.{Receiving}
use Rattle.lpt_node.specs.Receivers.{table_in}
use Rattle.lpt_node.specs.Receiving.{receiver_of}
use Rattle.lpt_journal.specs.Due.{is_overdue, due, given_up}
use Rattle.lpt_events.specs.Sides.{receiver_side, direction_to}
use Rattle.lpt_events.specs.declared.side.Side.{Side}
use Rattle.lpt_events.specs.declared.side.Side.TheVariants.{Ground, Craft}
use Rattle.lpt_node.specs.Times.{due as node_due, which_ends}
use Rattle.lpt_packet.specs.declared.direction.Direction.TheVariants.{Up, Down}
use Rattle.lpt_journal.specs.Journal.{History}
use Rattle.lpt_journal.specs.Receivers.{heard, has_parts, clock, last_tick, limits}
use Rattle.lpt_refinement.specs.Shows.{Shows, ShowsReceiving}
use Rattle.lpt_model.specs.State.{State, end_of}
use Rattle.lpt_refinement.specs.Views.{views, receiving_view}
use Rattle.lpt_journal.proofs.DueLemmas.{Earliest, earliest_is, overdue_names, in_overdue}
use Rattle.lpt_packet.proofs.BoolLemmas.{le_true, true_le, and_left, and_right}
use Rattle.lpt_memory.specs.Memories.{Contents}
use Rattle.lpt_refinement.proofs.ReceivingShown.{is_some-entry_of}

-- ---- what is due

module _ (c : Config) (h : History) (d : Direction) (v : Receiving) (now : ℕ)
    (k : ShowsReceiving v (receiving_view c h d))
    (clocks : now ≡ clock c h (receiver_side d)) where
  -- an open reception of the table
  shown_entry : (name : Name) (e : TableEntry)
      → maps.get v.entries name ≡ Some e
      → (has_parts (heard c h d name) ≡ true) × (e.last ≡ last_tick c h d name)
  shown_entry name e g = go (has_parts (heard c h d name)) refl (sym (k.entries name) ∙ g) where
    go : (t : Bool)
        → has_parts (heard c h d name) ≡ t
        → ◌≡◌ {A = Option TableEntry}
        (if t then Some
        (record { parts = heard c h d name; last = last_tick c h d name }) else None)
        (Some e)
        → (has_parts (heard c h d name) ≡ true) × (e.last ≡ last_tick c h d name)
    go true a f =
        let same : record { parts = heard c h d name; last = last_tick c h d name } ≡ e = cc in
        (a, ap (λ (x : TableEntry). x.last) (sym same))
    go false a f = absurd cc

  -- one that is overdue is among the journal's
  overdue_shown : (name : Name) (e : TableEntry)
      → maps.get v.entries name ≡ Some e
      → e.last + v.timeout ≤ now
      → list_any (same_name name) (overdue_names c h d) ≡ true
  overdue_shown name e g late =
      let w = shown_entry name e g in
      let last : e.last ≡ last_tick c h d name = w.1 in
      let over : is_overdue c h d name ≡ true =
      let out : v.timeout ≡ (limits c h (receiver_side d)).timeout = k.timeout in
      le_true (last_tick c h d name + (limits c h (receiver_side d)).timeout)
      (clock c h (receiver_side d)) (omega arith) in
      in_overdue c h d name ∙ (λ i. over i && w.0 i)

  is_due : (o : Option Name)
      → Earliest (last_tick c h d) (overdue_names c h d) o
      → IsDue (table_in (receiver_of c v)) now o
  is_due None none = λ name e g late.
      let yes = overdue_shown name e g late in
      let no : list_any (same_name name) (overdue_names c h d) ≡ false = none name in
      absurd cc
  is_due (Some name) it =
      let both : (is_overdue c h d name && has_parts (heard c h d name)) ≡ true =
      sym (in_overdue c h d name) ∙ it.is_in in
      let out : v.timeout ≡ (limits c h (receiver_side d)).timeout = k.timeout in
      let over : last_tick c h d name + (limits c h (receiver_side d)).timeout
      ≤ clock c h (receiver_side d) =
      true_le (last_tick c h d name + (limits c h (receiver_side d)).timeout)
      (clock c h (receiver_side d))
      (and_left (is_overdue c h d name) (has_parts (heard c h d name)) both) in
      let here = and_right (is_overdue c h d name) (has_parts (heard c h d name)) both in
      let entry : TableEntry = record { parts = heard c h d name; last = last_tick c h d name } in (
        entry,
        record {
          present = k.entries name ∙ ap (λ t. if t then Some entry else None) here;
          overdue = omega arith;
          oldest = λ other its g late.
              let w : its.last ≡ last_tick c h d other = (shown_entry other its g).1 in
              omega (arith, it.first other (overdue_shown other its g late));
          least = λ other its g same.
              let w : its.last ≡ last_tick c h d other = (shown_entry other its g).1 in
              let late : its.last + v.timeout ≤ now = omega arith in
              it.least other (overdue_shown other its g late) (sym w ∙ same);
        },
      )

  -- the table's reception that is due is the journal's
  due_agrees : due_of (table_in (receiver_of c v)) now ≡ due c h d
  due_agrees =
      due_unique (table_in (receiver_of c v)) now (due_of (table_in (receiver_of c v)) now)
      (due c h d)
      (due_of_is (table_in (receiver_of c v)) now)
      (is_due (due c h d) (earliest_is (last_tick c h d) (overdue_names c h d)))

-- what is due at an end is what the journal says
pub due_shown : (c : Config) (first : Contents) (s : State) (h : History) (side : Side)
    → Shows s (views c first h)
    → node_due c (end_of s side) ≡ due c h (direction_to side)
due_shown c first s h Ground k =
    due_agrees c h Down s.on_ground.receiving s.on_ground.clock k.ground.receiving k.ground.clock
due_shown c first s h Craft k =
    due_agrees c h Up s.on_craft.receiving s.on_craft.clock k.craft.receiving k.craft.clock

-- whether a reception of a name is open at an end is what the journal says
open_shown : {x : Receiving} (c : Config) (h : History) (d : Direction) (name : Name)
    → ShowsReceiving x (receiving_view c h d)
    → is_some (maps.get x.entries name) ≡ has_parts (heard c h d name)
open_shown c h d name k =
    ap is_some (k.entries name) ∙ is_some-entry_of (heard c h d name) (last_tick c h d name)

-- and so is what is given up
pub which_shown : (c : Config) (first : Contents) (s : State) (h : History) (side : Side)
    (which : Option Name)
    → Shows s (views c first h)
    → which_ends c (end_of s side) which ≡ given_up c h (direction_to side) which
which_shown c first s h side None k = due_shown c first s h side k
which_shown c first s h Ground (Some name) k =
    ap (λ b. if b then Some name else None) (open_shown c h Down name k.ground.receiving)
which_shown c first s h Craft (Some name) k =
    ap (λ b. if b then Some name else None) (open_shown c h Up name k.craft.receiving)

-- an end refuses to give up the reception of a name where the journal does
pub open_at : (c : Config) (first : Contents) (s : State) (h : History) (side : Side) (name : Name)
    → Shows s (views c first h)
    → is_some (maps.get (end_of s side).receiving.entries name)
    ≡ has_parts (heard c h (direction_to side) name)
open_at c first s h Ground name k = open_shown c h Down name k.ground.receiving
open_at c first s h Craft name k = open_shown c h Up name k.craft.receiving

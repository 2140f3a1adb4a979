-- Which names are closed at an end, in the order of names.
use Rattle.std.specs.Prelude.{ℕ, ◌==◌, nat_lt, nat_le, Bool, true, false, ◌&&◌, ◌||◌, if◌then◌else◌, Option, Some, None, option_map}
use Rattle.std.specs.FinMap as map
use Rattle.std.specs.List.{find}
use Rattle.std.specs.Option.{unwrap_or}
use Rattle.lpt_events.specs.Lanes.{same_direction}
use Rattle.lpt_ledger.specs.Marks.{Marks}
use Rattle.lpt_ledger.specs.declared.state.State.{State}
use Rattle.lpt_ledger.specs.declared.state.State.TheVariants.{Free, Open, Closed as Shut}
use Rattle.lpt_node.specs.Nodes.{direction_from as sends}
use Rattle.lpt_node.specs.Restarts.{name_state}
use Rattle.lpt_packet.specs.Names.{Name}
use Rattle.lpt_packet.specs.declared.direction.Direction.{Direction}
use Rattle.lpt_c_end.specs.Codes.{range}
use Rattle.lpt_c_end.specs.Walks.{none_refusal}
use Rattle.lpt_c_end.specs.Words.{direction_from, name_word}
use Rattle.lpt_c_end.specs.declared.end.End.{End}
use Rattle.lpt_c_end.specs.declared.words.LptName.{LptName}

-- whether a name is this one, or stands behind it
abbrev pub is_from : (from : Name) → Name → Bool
is_from from n =
    nat_lt from.source n.source || ((from.source == n.source) && nat_le from.id n.id)

-- whether a state is closed
abbrev pub is_shut : State → Bool
is_shut Free = false
is_shut Open = false
is_shut Shut = true

-- whether a name is closed at an end
abbrev pub is_closed_at : Direction → End → Name → Bool
is_closed_at way e n = is_shut (name_state e.side e.node.at way n)

-- the names in use at an end
abbrev pub names_at : Direction → End → Marks
names_at way e =
    if same_direction way (sends e.side) then e.node.at.sending.ledger
    else e.node.at.receiving.ledger

-- whether a name is looked for: from this one on, and closed
abbrev pub is_sought : Direction → (from : Name) → End → Name → Bool
is_sought way from e n = is_from from n && is_closed_at way e n

-- the first closed name from this one on, of those in use, which stand in the order of names
abbrev pub first_closed : Direction → (from : Name) → End → Option Name
first_closed way from e = find (is_sought way from e) (map.keys (names_at way e))

-- why none is told
abbrev pub closed_refusal : (direction : ℕ) → (from : Name) → End → Option ℕ
closed_refusal direction from e =
    if nat_lt 1 direction then Some range
    else none_refusal (first_closed (direction_from direction) from e)

-- what is told behind a handle, and what stood there before if nothing is
abbrev pub closed_told : (direction : ℕ) → (from : Name) → Option End → (before : LptName) → LptName
closed_told direction from None before = before
closed_told direction from (Some e) before =
    if nat_lt 1 direction then before
    else unwrap_or (option_map name_word (first_closed (direction_from direction) from e)) before

-- The state of each name.
use Rattle.std.specs.Prelude.{Bool, true, false, Option, Some, None}
use Rattle.std.specs.FinMap as map
use Rattle.lpt_packet.specs.Names.{Name}
use Rattle.lpt_ledger.specs.declared.state.State.{State}
use Rattle.lpt_ledger.specs.declared.state.State.TheVariants.{Free, Open, Closed}
use Rattle.lpt_ledger.specs.Marks.{Mark, Opened, Shut, Marks}

-- the state that a mark, or none, says
abbrev pub state_of : Option Mark → State
state_of None = Free
state_of (Some Opened) = Open
state_of (Some Shut) = Closed

-- the state of a name
abbrev pub state_at : Marks → Name → State
state_at m name = state_of (map.get m name)

-- whether it is free
abbrev pub is_free : State → Bool
is_free Free = true
is_free Open = false
is_free Closed = false

-- closed if it was open, else as it was
abbrev pub closed_state : State → State
closed_state Free = Free
closed_state Open = Closed
closed_state Closed = Closed

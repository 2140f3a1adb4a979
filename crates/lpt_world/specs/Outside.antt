-- What is done outside a world: packets that are taken out of it, and what was read of them.
use Rattle.std.specs.Prelude.{◌≡◌, ℕ, List, slice_get, Option, Some, None}
use Rattle.std.specs.Option.{option_map, option_and_then}
use Rattle.lpt_events.specs.declared.fault.StepFault.{StepFault}
use Rattle.lpt_events.specs.declared.fault.StepFault.TheVariants.{Memory, NotYours}
use Rattle.lpt_events.specs.declared.lane.Lane.{Lane}
use Rattle.lpt_journal.specs.Hands.{hand}
use Rattle.lpt_journal.specs.Link.{sent}
use Rattle.lpt_system.specs.Outside.{IsReadOf}
use Rattle.lpt_node.specs.ParsedViews.{ParsedView}
use Rattle.lpt_world.specs.Worlds.{Shown, history}

-- the octets of the packet of a number
abbrev pub octets_of : Shown → ℕ → Option (List ℕ)
octets_of w n = option_map (λ p. p.octets) (slice_get (sent (history w)) n)

-- the octets of the packet in a lane's hand
abbrev pub octets_in_hand : Shown → Lane → Option (List ℕ)
octets_in_hand w l = option_and_then (octets_of w) (hand (history w) l)

-- what was read is what the lane has in its hand
abbrev pub IsOfHand : Shown → Lane → ParsedView → Type 0
IsOfHand w l o = IsReadOf w.config (octets_in_hand w l) l o

-- the fault is the reason for which the event is refused; if there is none, it says whether what
-- was read outside is of what the lane or the worker has
abbrev pub ReadRefusedBy : Type 0 → Option StepFault → StepFault → Type 0
ReadRefusedBy IsTheirs (Some first) fault = fault ≡ first
ReadRefusedBy IsTheirs None Memory = IsTheirs
ReadRefusedBy IsTheirs None NotYours = ¬ IsTheirs
ReadRefusedBy IsTheirs None _ = ⊥

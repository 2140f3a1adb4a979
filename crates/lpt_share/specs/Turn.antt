-- How it is found out that no part is sent twice: part after part, and one transaction after the
-- other.
use Rattle.std.specs.Prelude.{ℕ, ◌+◌, ◌==◌, Bool, true, false, not, ◌&&◌, ◌||◌, if◌then◌else◌, List, [], ◌∷◌, Option, Some, None}
use Rattle.lpt_packet.specs.declared.direction.Direction.{Direction}
use Rattle.lpt_packet.specs.declared.direction.Direction.TheVariants.{Up, Down}
use Rattle.lpt_packet.specs.Names.{Name, same_name}
use Rattle.lpt_events.specs.Lanes.{same_direction}
use Rattle.lpt_events.specs.declared.entry.Entry.{Entry}
use Rattle.lpt_events.specs.declared.event.Event.{Event}
use Rattle.lpt_events.specs.declared.event.Event.TheVariants.{Send}
use Rattle.lpt_share.specs.Finished.{is_sent}
use Rattle.lpt_share.specs.declared.sending.Sent.{Sent}

-- the part that an event sends in this direction
abbrev pub sent_in : Direction → Event → Option Sent
sent_in d (Send e name k) =
    if same_direction e d then Some (record { name = name; part = k }) else None
sent_in d _ = None

-- the last part that was sent, behind this one
abbrev pub last_sent : Option Sent → Option Sent → Option Sent
last_sent last None = last
last_sent last (Some s) = Some s

-- whether a part follows the last one
abbrev pub follows : Option Sent → Sent → Bool
follows None s = false
follows (Some a) s = same_name s.name a.name && (s.part == a.part + 1)

-- whether a part is a transaction's first, which isn't sent again
abbrev pub starts : Direction → Sent → List Entry → Bool
starts d s later = (s.part == 1) && not (is_sent later d s.name 1)

-- whether a part may be sent now, if it is one
abbrev pub is_next : Direction → Option Sent → Option Sent → List Entry → Bool
is_next d last None later = true
is_next d last (Some s) later = follows last s || starts d s later

-- whether each part that entries send in this direction follows the one before, or is a
-- transaction's first, and sent but once
abbrev pub are_in_turn : Direction → Option Sent → List Entry → Bool
are_in_turn d last [] = true
are_in_turn d last (x ∷ xs) =
    is_next d last (sent_in d x.event) xs
    && are_in_turn d (last_sent last (sent_in d x.event)) xs

-- whether they are in both directions
abbrev pub are_all_in_turn : List Entry → Bool
are_all_in_turn xs = are_in_turn Up None xs && are_in_turn Down None xs

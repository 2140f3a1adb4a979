-- The names of the reasons for which nothing is made of a packet.
use Rattle.std.specs.Prelude.{ℕ, List, codes}
use Rattle.lpt_events.specs.declared.outcome.Why.{Why}
use Rattle.lpt_events.specs.declared.outcome.Why.TheVariants.{Unreadable, Idle, ForeignApid, BadPart, Closed, NoRoom}

-- the reason's name
abbrev pub why_name : Why → List ℕ
why_name Unreadable = codes "Unreadable"
why_name Idle = codes "Idle"
why_name ForeignApid = codes "ForeignApid"
why_name BadPart = codes "BadPart"
why_name Closed = codes "Closed"
why_name NoRoom = codes "NoRoom"

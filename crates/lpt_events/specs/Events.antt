-- The ranges of an event's numbers.
use Rattle.std.specs.Prelude.{◌<◌, ⊤}
use Rattle.lpt_packet.specs.Names.{IsName}
use Rattle.lpt_packet.specs.Numbers.{IsOctets}
use Rattle.lpt_events.specs.declared.event.Event.{Event}
use Rattle.lpt_events.specs.declared.event.Event.TheVariants.{Open, Send, Plain, Finish, Lose, Damage, Take, Deliver, Tick, Expire, Claim, Commit, Apply, Retire, Restart}

-- the event's numbers are of their types
abbrev pub IsEvent : Event → Type 0
IsEvent (Open d name m) = IsName name × IsOctets m
IsEvent (Send d name k) = IsName name × (k < 65536)
IsEvent (Plain source flags service subtype body) =
    (source < 65536) × (flags < 16) × (service < 256) × (subtype < 256) × IsOctets body
IsEvent (Finish d name) = IsName name
IsEvent (Lose n) = ⊤
IsEvent (Damage d b) = IsOctets b
IsEvent (Take l n) = ⊤
IsEvent (Deliver l) = ⊤
IsEvent (Tick side) = ⊤
IsEvent (Expire side) = ⊤
IsEvent (Claim w) = ⊤
IsEvent (Commit w) = ⊤
IsEvent Apply = ⊤
IsEvent (Retire d name) = IsName name
IsEvent (Restart side) = ⊤

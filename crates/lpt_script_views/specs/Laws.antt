-- What the replies of a history tell of kept parts.
use Rattle.std.specs.Prelude.{◌≡◌, ℕ, List, is_some}
use Rattle.std.specs.FinMap as maps
use Rattle.lpt_acts.specs.Acts.{Act}
use Rattle.lpt_events.specs.declared.config.Config.{Config}
use Rattle.lpt_journal.specs.Receivers.{heard}
use Rattle.lpt_journal.specs.Replies.{history_after}
use Rattle.lpt_memory.specs.Memories.{Contents}
use Rattle.lpt_packet.specs.declared.direction.Direction.{Direction}
use Rattle.lpt_packet.specs.Names.{Name}
use Rattle.lpt_script_views.specs.Kept.{has_number, kept_numbers}

-- over every history that acts tell, the numbers are those of the parts that the receiver has kept
abbrev pub KeptAreHeard : Type 0
KeptAreHeard =
    (c : Config) (first : Contents) (es : List Act) (d : Direction) (name : Name) (k : ℕ)
    → has_number (kept_numbers d name (history_after c first es)) k
    ≡ is_some (maps.get (heard c (history_after c first es) d name) k)

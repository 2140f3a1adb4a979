-- What a world is like under the lock, and what one event makes of it.
use Rattle.std.specs.Prelude.{◌≡◌, ℕ, length, None}
use Rattle.lpt_events.specs.Configs.{IsConfig}
use Rattle.lpt_events.specs.declared.event.Event.{Event}
use Rattle.lpt_events.specs.declared.refused.Refused.{Refused}
use Rattle.lpt_events.specs.declared.reply.Reply.{Reply}
use Rattle.lpt_journal.specs.Events.{reply}
use Rattle.lpt_world.specs.Worlds.{Shown, IsTold, RefusedBy, history, refusal_at, with_entry}

-- the configuration is in its ranges, and each entry could happen after those before it and has the
-- reply that it gave then
abbrev pub IsLegal : Shown → Type 0
IsLegal w = IsConfig w.config × IsTold w.config w.first w.journal

-- the seat's event can happen, and gave this reply and this world
abbrev pub Enters : Shown → Shown → ℕ → Event → Reply → Type 0
Enters old new seat e r =
    (refusal_at old seat e ≡ None)
    × (r ≡ reply old.config old.first (history old) e)
    × (new ≡ with_entry old seat e r)

-- the seat's event was refused for its first reason, and nothing has changed
abbrev pub Refuses : Shown → Shown → ℕ → Event → Refused → Type 0
Refuses old new seat e refused =
    RefusedBy (refusal_at old seat e) refused.fault
    × (refused.event ≡ e)
    × (refused.at ≡ length old.journal)
    × (new ≡ old)

-- The messages that the nodes release.
use Rattle.std.specs.Prelude.{ℕ, List, [], ◌∷◌, length, Some, None}
use Rattle.lpt_packet.specs.declared.direction.Direction.{Direction}
use Rattle.lpt_packet.specs.Names.{Name}
use Rattle.lpt_reception.specs.Received.{Parts, spelled}
use Rattle.lpt_events.specs.declared.lane.Lane.{Lane}
use Rattle.lpt_events.specs.Lanes.{lane_direction}
use Rattle.lpt_events.specs.declared.config.Config.{Config}
use Rattle.lpt_events.specs.declared.outcome.Outcome.TheVariants.{Released, PlainReleased}
use Rattle.lpt_events.specs.Arrivals.{Arrival, ARequest, APart}
use Rattle.lpt_acts.specs.Acts.{Act, Deliver}
use Rattle.lpt_events.specs.declared.reply.Answer.{Answer}
use Rattle.lpt_events.specs.declared.reply.Answer.TheVariants.{Delivered}
use Rattle.lpt_events.specs.declared.entry.Release.{Release}
use Rattle.lpt_journal.specs.Journal.{Recorded, History, with_all}
use Rattle.lpt_journal.specs.Hands.{in_hand}
use Rattle.lpt_journal.specs.Receivers.{with_piece, heard}

-- what a delivery at this place releases: the message that the parts spell, or the telecommand
abbrev pub released_now : (place : ℕ) → Direction → Answer → (Name → Parts) → Arrival → List Release
released_now place d (Delivered (Released name len)) s (APart q) =
    record { place = place; of = Some (d, name); message = spelled (with_piece (s name) q) } ∷ []
released_now place d (Delivered (PlainReleased len)) s (ARequest b) =
    record { place = place; of = None; message = b } ∷ []
released_now place d answer s arrived = []

-- what an event at this place releases; s is what was heard, arrived what is in each lane's hand
abbrev pub release_after : Act
    → (place : ℕ)
    → Answer
    → (Direction → Name → Parts)
    → (Lane → Arrival)
    → List Release
release_after (Deliver l) place answer s arrived =
    released_now place (lane_direction l) answer (s (lane_direction l)) (arrived l)
release_after _ place answer s arrived = []

-- what an entry releases after this history
abbrev pub released_by : Config → Recorded → History → List Release
released_by c x h = release_after x.event (length h) x.reply.answer (heard c h) (in_hand c h)

-- all releases, in order of place
abbrev pub releases : Config → History → List Release
releases c [] = []
releases c (x ∷ h) = with_all (releases c h) (released_by c x h)

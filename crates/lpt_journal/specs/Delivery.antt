-- What becomes of a packet that is delivered: the first case that applies, in a fixed order.
use Rattle.std.specs.Prelude.{ℕ, nat_le, Bool, not, ◌&&◌, if◌then◌else◌, length, is_some}
use Rattle.std.specs.FinMap as map
use Rattle.lpt_packet.specs.declared.direction.Direction.{Direction}
use Rattle.lpt_part.specs.declared.mode.Mode.{Mode}
use Rattle.lpt_part.specs.declared.reason.Reason.TheVariants.{Conflict, Discontinuity}
use Rattle.lpt_reception.specs.Received.{Parts, contradicts, is_gap, is_whole, spelled}
use Rattle.lpt_events.specs.NamedParts.{NamedPart}
use Rattle.lpt_events.specs.declared.lane.Lane.{Lane}
use Rattle.lpt_events.specs.Lanes.{lane_direction}
use Rattle.lpt_events.specs.declared.config.Config.{Config}
use Rattle.lpt_events.specs.declared.outcome.Outcome.{Outcome}
use Rattle.lpt_events.specs.declared.outcome.Outcome.TheVariants.{Kept, Again, Released, PlainReleased, ReportNoted, AbortNoted, Broken, Ignored}
use Rattle.lpt_events.specs.declared.outcome.Why.TheVariants.{Unreadable, Idle, ForeignApid, BadPart, Closed, NoRoom}
use Rattle.lpt_events.specs.Arrivals.{Arrival, NotRead, AnIdle, Foreign, ARequest, AReport, NoPart, APart, AnAbort}
use Rattle.lpt_journal.specs.Journal.{History}
use Rattle.lpt_journal.specs.Hands.{in_hand}
use Rattle.lpt_events.specs.Sides.{receiver_side}
use Rattle.lpt_journal.specs.Receivers.{as_kept, with_piece, heard, has_parts, reception_count, is_closed, limits}

-- What becomes of a part: closed says whether its transaction is, open how many receptions are, s
-- what was kept of it. What doesn't contradict and has a number that was kept was kept itself. In
-- strict mode any other part must be the next one.
abbrev pub judged_part : Mode
    → (limit : ℕ) (closed : Bool) (open_now : ℕ)
    → Parts
    → NamedPart
    → Outcome
judged_part mode limit closed open_now s q =
    if closed then Ignored Closed
    else if not (has_parts s) && nat_le limit open_now then Ignored NoRoom
    else if contradicts s q.number (as_kept q) then Broken q.name Conflict
    else if is_some (map.get s q.number) then Again q.name q.number
    else if is_gap mode s q.number then Broken q.name Discontinuity
    else if is_whole (with_piece s q) then Released q.name (length (spelled (with_piece s q)))
    else Kept q.name q.number

-- what becomes of what arrives in this direction
abbrev pub arrival_judged : Config → History → Direction → Arrival → Outcome
arrival_judged c h d NotRead = Ignored Unreadable
arrival_judged c h d AnIdle = Ignored Idle
arrival_judged c h d Foreign = Ignored ForeignApid
arrival_judged c h d (ARequest b) = PlainReleased (length b)
arrival_judged c h d (AReport service subtype) = ReportNoted service subtype
arrival_judged c h d NoPart = Ignored BadPart
arrival_judged c h d (AnAbort name reason) = AbortNoted name reason
arrival_judged c h d (APart q) =
    judged_part c.mode (limits c h (receiver_side d)).receptions (is_closed h d q.name)
    (reception_count c h d) (heard c h d q.name) q

-- what becomes of the packet in a lane's hand
abbrev pub outcome : Config → History → Lane → Outcome
outcome c h l = arrival_judged c h (lane_direction l) (in_hand c h l)

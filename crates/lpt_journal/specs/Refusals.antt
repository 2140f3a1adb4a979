-- Why an event is refused.
use Rattle.std.specs.Prelude.{ℕ, nat_lt, nat_le, ◌==◌, Bool, not, ◌&&◌, ◌||◌, if◌then◌else◌, List, [], ◌∷◌, length, Option, Some, None, is_some}
use Rattle.lpt_part.specs.Splitting.{part_count}
use Rattle.lpt_events.specs.Lanes.{lane_direction}
use Rattle.lpt_events.specs.declared.config.Config.{Config}
use Rattle.lpt_events.specs.Damages.{is_damage_long, looks_whole}
use Rattle.lpt_events.specs.Requests.{is_part_request, is_too_long}
use Rattle.lpt_packet.specs.Names.{Name}
use Rattle.lpt_acts.specs.Acts.{Setting, On, Back, Within, Act, Open, Send, Plain, Finish, Lose, Damage, Take, Deliver, Tick, Expire, Claim, Commit, Apply, Retire, Restart}
use Rattle.lpt_events.specs.declared.fault.StepFault.{StepFault}
use Rattle.lpt_events.specs.declared.fault.StepFault.TheVariants.{InUse, Short, Long, TooMany, NotOpen, NoSuchPart, NotHeld, HandFull, HandEmpty, NothingDue, NoJob, NotReady, NotClear, LooksWhole, StillOpen, ClockEnd, PartRequest}
use Rattle.lpt_events.specs.Sides.{direction_to, sender_side}
use Rattle.lpt_journal.specs.Clear.{is_clear}
use Rattle.lpt_journal.specs.Journal.{History}
use Rattle.lpt_journal.specs.Jobs.{jobs, jobs_claimed, jobs_applied, ticket, is_committed, front_job}
use Rattle.lpt_journal.specs.Link.{is_held, goes}
use Rattle.lpt_journal.specs.Hands.{hand}
use Rattle.lpt_journal.specs.Senders.{Sender, OpenSender, sender, is_free, is_open, open_count}
use Rattle.lpt_journal.specs.Receivers.{clock, limits}
use Rattle.lpt_packet.specs.Sizes.{longest_packet}
use Rattle.lpt_journal.specs.Due.{given_up}
use Rattle.lpt_events.specs.Counts.{greatest_clock}

-- the first fault whose test holds
abbrev pub first_fault : List (Bool × StepFault) → Option StepFault
first_fault [] = None
first_fault (test ∷ tests) = if test.0 then Some test.1 else first_fault tests

-- how many parts an open sender's message has; none else
abbrev pub parts_open : Config → Sender → ℕ
parts_open c (OpenSender m) = part_count (length m) c.part_size
parts_open c _ = 0

-- why a clock doesn't turn so: one that goes on isn't at its end
abbrev pub turn_reasons : (clock : ℕ) → Setting → List (Bool × StepFault)
turn_reasons clock On = (clock == greatest_clock, ClockEnd) ∷ []
turn_reasons clock (Back n) = []
turn_reasons clock (Within l) = []

-- the fault if no reception is given up: none is due, or that of the name isn't open
abbrev pub expiry_fault : Option Name → StepFault
expiry_fault None = NothingDue
expiry_fault (Some name) = NotOpen

-- the reasons for which an event is refused, each with its test, in the order of the tests
abbrev pub reasons : Config → History → Act → List (Bool × StepFault)
reasons c h (Open d name m) =
    (not (is_free (sender h d name)), InUse)
    ∷ (nat_le (length m) c.part_size, Short)
    ∷ (nat_lt longest_packet (length m), Long)
    ∷ (nat_le (limits c h (sender_side d)).outgoing (open_count h d), TooMany) ∷ []
reasons c h (Send d name k) =
    (not (is_open (sender h d name)), NotOpen)
    ∷ ((k == 0) || nat_lt (parts_open c (sender h d name)) k, NoSuchPart) ∷ []
reasons c h (Plain source flags service subtype body) =
    (is_part_request service subtype, PartRequest)
    ∷ (is_too_long c (length body), Long) ∷ []
reasons c h (Finish d name) = (not (is_open (sender h d name)), NotOpen) ∷ []
reasons c h (Lose n) = (not (is_held h n), NotHeld) ∷ []
reasons c h (Damage d b) = (is_damage_long c b, Long) ∷ (looks_whole b, LooksWhole) ∷ []
reasons c h (Take l n) =
    (is_some (hand h l), HandFull)
    ∷ (not (is_held h n && goes h (lane_direction l) n), NotHeld) ∷ []
reasons c h (Deliver l) = (not (is_some (hand h l)), HandEmpty) ∷ []
reasons c h (Tick side turn) = turn_reasons (clock c h side) turn
reasons c h (Expire side which) =
    (not (is_some (given_up c h (direction_to side) which)), expiry_fault which) ∷ []
reasons c h (Claim w) =
    (is_some (ticket c h w), HandFull) ∷ (nat_le (length (jobs c h)) (jobs_claimed h), NoJob) ∷ []
reasons c h (Commit w) = (not (is_some (ticket c h w)), HandEmpty) ∷ []
reasons c h (Apply how) =
    (not (is_some (front_job c h)), NoJob)
    ∷ (not (is_committed h (jobs_applied h)), NotReady) ∷ []
reasons c h (Retire d name) =
    (is_free (sender h d name), NotOpen)
    ∷ (is_open (sender h d name), StillOpen)
    ∷ (not (is_clear c h d name), NotClear) ∷ []
reasons c h (Restart side) = []

-- why an event is refused, if it is
abbrev pub refusal : Config → History → Act → Option StepFault
refusal c h e = first_fault (reasons c h e)

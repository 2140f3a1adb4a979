-- Which seat of a run asks for which events.
use Rattle.std.specs.Prelude.{◌≡◌, ◌==◌, ◌&&◌, ◌||◌, ℕ, Bool, true, false, List, [], ◌∷◌, ⊤}
use Rattle.lpt_packet.specs.declared.direction.Direction.{Direction}
use Rattle.lpt_packet.specs.declared.direction.Direction.TheVariants.{Up, Down}
use Rattle.lpt_events.specs.declared.event.Event.{Event}
use Rattle.lpt_events.specs.declared.event.Event.TheVariants.{Send, Finish, Take, Deliver, Tick, Expire, Claim, Commit, Apply}
use Rattle.lpt_events.specs.declared.lane.Lane.{Lane}
use Rattle.lpt_events.specs.declared.lane.Lane.TheVariants.{S1, S2, G1, G2}
use Rattle.lpt_events.specs.declared.log.Call.{Call}
use Rattle.lpt_events.specs.declared.log.SeatLog.{SeatLog}
use Rattle.lpt_events.specs.declared.side.Side.{Side}
use Rattle.lpt_events.specs.declared.side.Side.TheVariants.{Ground, Craft}
use Rattle.lpt_events.specs.declared.worker.Worker.{Worker}
use Rattle.lpt_events.specs.declared.worker.Worker.TheVariants.{W1, W2}

-- the seat of a lane
abbrev pub lane_seat : Lane → ℕ
lane_seat S1 = 1
lane_seat S2 = 2
lane_seat G1 = 3
lane_seat G2 = 4

-- the seat of a node's timer
abbrev pub timer_seat : Side → ℕ
timer_seat Craft = 5
timer_seat Ground = 6

-- the seat of a worker
abbrev pub worker_seat : Worker → ℕ
worker_seat W1 = 7
worker_seat W2 = 8

-- the seat of a direction's sender
abbrev pub sender_seat : Direction → ℕ
sender_seat Up = 9
sender_seat Down = 10

-- Whether a seat asks for such an event: lanes take and deliver, timers tick and end receptions,
-- workers claim, commit and apply, senders send and finish; no other event is asked for.
abbrev pub is_of_seat : ℕ → Event → Bool
is_of_seat seat (Take lane n) = seat == lane_seat lane
is_of_seat seat (Deliver lane) = seat == lane_seat lane
is_of_seat seat (Tick side) = seat == timer_seat side
is_of_seat seat (Expire side) = seat == timer_seat side
is_of_seat seat (Claim worker) = seat == worker_seat worker
is_of_seat seat (Commit worker) = seat == worker_seat worker
is_of_seat seat Apply = (seat == 7) || (seat == 8)
is_of_seat seat (Send d name k) = seat == sender_seat d
is_of_seat seat (Finish d name) = seat == sender_seat d
is_of_seat seat _ = false

-- each call is of an event that the seat asks for
abbrev pub are_of_seat : ℕ → List Call → Bool
are_of_seat seat [] = true
are_of_seat seat (call ∷ calls) = is_of_seat seat call.event && are_of_seat seat calls

-- each call of each log is of an event that the log's seat asks for
abbrev pub are_of_seats : List SeatLog → Bool
are_of_seats [] = true
are_of_seats (log ∷ logs) = are_of_seat log.seat log.calls.items && are_of_seats logs

-- What each seat of a run does, whom it tells, and of what.
use Rattle.std.specs.Prelude.{◌≡◌, ◌==◌, ◌&&◌, ◌||◌, ◌+◌, ℕ, Bool, true, false, not, if◌then◌else◌, List, [], ◌∷◌, is_some, ⊤}
use Rattle.std.specs.List.Sorted.{IsPermutation, IsSorted}
use Rattle.lpt_share.specs.Kinds.{lane_seat, timer_seat, worker_seat, sender_seat}
use Rattle.lpt_events.specs.Lanes.{same_direction}
use Rattle.lpt_events.specs.declared.entry.Opening.{Opening}
use Rattle.lpt_events.specs.declared.outcome.Outcome.{Outcome}
use Rattle.lpt_events.specs.declared.outcome.Outcome.TheVariants.{Released, PlainReleased}
use Rattle.lpt_events.specs.declared.reply.Answer.{Answer}
use Rattle.lpt_events.specs.declared.reply.Answer.TheVariants.{Delivered}
use Rattle.lpt_journal.specs.Senders.{opened, sender}
use Rattle.lpt_packet.specs.Names.{Name, name_cmp}
use Rattle.lpt_packet.specs.declared.direction.Direction.{Direction}
use Rattle.lpt_node.specs.Nodes.{is_open}
use Rattle.lpt_world.specs.Worlds.{Shown, history, state_shown}
use Rattle.lpt_share.specs.declared.notices.Outlets.{Outlets}
use Rattle.lpt_share.specs.declared.task.Seat.{Seat}
use Rattle.lpt_share.specs.declared.task.Task.{Task}
use Rattle.lpt_share.specs.declared.task.Task.TheVariants.{Lane, Timer, Worker, Sender}

-- whether a task is that of the seat of this number
abbrev pub is_task : ℕ → Task → Bool
is_task seat (Lane lane notices) = seat == lane_seat lane
is_task seat (Timer node) = seat == timer_seat node
is_task seat (Worker worker notices) = seat == worker_seat worker
is_task seat (Sender d notices) = seat == sender_seat d

-- Whom the seat of this number tells: of packets those whose calls put some, so not the lanes and
-- the timer of ground; of jobs the lanes of the spacecraft; and of openings the workers. Nothing
-- was told yet.
abbrev pub AreOutlets : ℕ → Outlets → Type 0
AreOutlets seat out =
    (is_some out.packets ≡ not ((seat == 3) || (seat == 4) || (seat == 6)))
    × (is_some out.jobs ≡ ((seat == 1) || (seat == 2)))
    × (is_some out.opened ≡ ((seat == 7) || (seat == 8)))
    × (out.told ≡ 0)

-- a seat has this number, its task and its outlets
abbrev pub IsSeat : ℕ → Seat → Type 0
IsSeat n seat = (seat.seat ≡ n) × (is_task n seat.task ≡ true) × AreOutlets n seat.outlets

-- the seats are numbered from this one on
abbrev pub AreSeats : ℕ → List Seat → Type 0
AreSeats n [] = ⊤
AreSeats n (seat ∷ seats) = IsSeat n seat × AreSeats (n + 1) seats

-- whether an opening is of this direction, and its transaction is open
abbrev pub is_open_in : Direction → Shown → Opening → Bool
is_open_in d w o =
    same_direction o.direction d && is_open (state_shown (sender (history w) d o.name))

-- the names of those openings, in order
abbrev pub names_in : Direction → Shown → List Opening → List Name
names_in d w [] = []
names_in d w (o ∷ os) = if is_open_in d w o then o.name ∷ names_in d w os else names_in d w os

-- the names of the transactions of a direction that are open, rising
abbrev pub AreOpenNames : Direction → Shown → List Name → Type 0
AreOpenNames d w names = IsPermutation (names_in d w (opened (history w))) names × IsSorted name_cmp names

-- whether an outcome is a release
abbrev pub is_release : Outcome → Bool
is_release (Released name n) = true
is_release (PlainReleased octets) = true
is_release _ = false

-- whether an answer says that a message was released
abbrev pub releases : Answer → Bool
releases (Delivered outcome) = is_release outcome
releases _ = false

-- What a run has finished, but for what seats left whose logs are full.
-- And that it did nothing twice.
use Rattle.std.specs.Prelude.{◌≡◌, ◌⊎◌, ℕ, ◌+◌, ◌-◌, ◌<◌, ◌≤◌, ◌==◌, nat_lt, nat_le, Bool, true, false, not, ◌&&◌, ◌||◌, if◌then◌else◌, List, [], ◌∷◌, length, drop, Option, Some, None, ⊤}
use Rattle.lpt_packet.specs.declared.direction.Direction.{Direction}
use Rattle.lpt_packet.specs.declared.direction.Direction.TheVariants.{Up, Down}
use Rattle.lpt_packet.specs.Names.{Name, same_name}
use Rattle.lpt_part.specs.Splitting.{part_count}
use Rattle.lpt_events.specs.Lanes.{same_direction}
use Rattle.lpt_events.specs.Sides.{same_side}
use Rattle.lpt_events.specs.declared.entry.Entry.{Entry}
use Rattle.lpt_events.specs.declared.entry.Opening.{Opening}
use Rattle.lpt_events.specs.declared.event.Event.{Event}
use Rattle.lpt_events.specs.declared.event.Event.TheVariants.{Send, Finish, Plain, Damage, Take, Tick}
use Rattle.lpt_events.specs.declared.lane.Lane.TheVariants.{S1, S2, G1, G2}
use Rattle.lpt_events.specs.declared.reply.Puts.{Puts}
use Rattle.lpt_events.specs.declared.turns.Turns.{Turns}
use Rattle.lpt_events.specs.declared.side.Side.{Side}
use Rattle.lpt_events.specs.declared.side.Side.TheVariants.{Ground, Craft}
use Rattle.lpt_events.specs.declared.worker.Worker.TheVariants.{W1, W2}
use Rattle.lpt_journal.specs.Hands.{hand}
use Rattle.lpt_journal.specs.Jobs.{jobs, jobs_applied, ticket}
use Rattle.lpt_journal.specs.Link.{is_held}
use Rattle.lpt_journal.specs.Receivers.{clock}
use Rattle.lpt_journal.specs.Journal.{History}
use Rattle.lpt_journal.specs.Senders.{opened, sender, notes_abort}
use Rattle.lpt_node.specs.Nodes.{is_open}
use Rattle.lpt_world.specs.Worlds.{Shown, history, state_shown}
use Rattle.lpt_events.specs.declared.log.SeatLog.{SeatLog}
use Rattle.lpt_share.specs.Kinds.{sender_seat, timer_seat}
use Rattle.lpt_share.specs.declared.owed.Owed.{Owed}
use Rattle.lpt_events.specs.Counts.{greatest_clock}
use Rattle.lpt_events.specs.Openings.{is_opened}

-- ---- whose log is full

-- whether the log of this seat has so many calls
abbrev pub is_full : ℕ → List SeatLog → ℕ → Bool
is_full limit [] seat = false
is_full limit (log ∷ logs) seat =
    ((log.seat == seat) && nat_le limit (length log.calls.items)) || is_full limit logs seat

-- whether the logs of both seats have
abbrev pub are_full : ℕ → List SeatLog → (a b : ℕ) → Bool
are_full limit logs a b = is_full limit logs a && is_full limit logs b

-- ---- what entries have

-- the number of the packet that an event takes
abbrev pub packet_taken : Event → Option ℕ
packet_taken (Take l n) = Some n
packet_taken _ = None

-- whether there is a number, and it is this one
abbrev pub is_number : Option ℕ → ℕ → Bool
is_number None n = false
is_number (Some k) n = k == n

-- whether the packet numbered n is taken
abbrev pub is_taken : List Entry → ℕ → Bool
is_taken [] n = false
is_taken (x ∷ xs) n = is_number (packet_taken x.event) n || is_taken xs n

-- where the packets go that an event puts: those of ground up, those of the spacecraft down
abbrev pub puts_to : Event → Direction
puts_to (Send d name k) = d
puts_to (Plain source flags service subtype body) = Up
puts_to (Damage d octets) = d
puts_to _ = Down

-- whether the packet numbered n is one of those that were put
abbrev pub is_among : Option Puts → ℕ → Bool
is_among None n = false
is_among (Some p) n = nat_le p.first n && nat_lt (n - p.first) p.count

-- whether entries put the packet numbered n in this direction
abbrev pub is_put : List Entry → Direction → ℕ → Bool
is_put [] d n = false
is_put (x ∷ xs) d n =
    (same_direction (puts_to x.event) d && is_among x.reply.puts n) || is_put xs d n

-- whether an event sends part k of a transaction
abbrev pub sends : Event → Direction → Name → ℕ → Bool
sends (Send e i n) d name k = same_direction e d && same_name i name && (n == k)
sends _ d name k = false

-- whether part k of a transaction is sent
abbrev pub is_sent : List Entry → Direction → Name → ℕ → Bool
is_sent [] d name k = false
is_sent (x ∷ xs) d name k = sends x.event d name k || is_sent xs d name k

-- whether an event finishes a transaction
abbrev pub finishes : Event → Direction → Name → Bool
finishes (Finish e i) d name = same_direction e d && same_name i name
finishes _ d name = false

-- whether a transaction is finished
abbrev pub is_finished : List Entry → Direction → Name → Bool
is_finished [] d name = false
is_finished (x ∷ xs) d name = finishes x.event d name || is_finished xs d name

-- whether an abortion report of a transaction is noted; such a report speaks of what goes up
abbrev pub is_aborted : List Entry → Direction → Name → Bool
is_aborted [] d name = false
is_aborted (x ∷ xs) d name =
    (same_direction Up d && notes_abort x.reply.answer name) || is_aborted xs d name

-- whether an event is a tick of this side's clock
abbrev pub ticks : Event → Side → Bool
ticks (Tick s) side = same_side s side
ticks _ side = false

-- how often a seat ticked
abbrev pub tick_count : List Entry → ℕ → Side → ℕ
tick_count [] seat side = 0
tick_count (x ∷ xs) seat side =
    if (x.seat == seat) && ticks x.event side then tick_count xs seat side + 1
    else tick_count xs seat side

-- no packet is taken twice
abbrev pub AreTakenOnce : List Entry → Type 0
AreTakenOnce [] = ⊤
AreTakenOnce (x ∷ xs) =
    ((n : ℕ) → packet_taken x.event ≡ Some n → is_taken xs n ≡ false) × AreTakenOnce xs

-- no part of a transaction is sent twice in this direction
abbrev pub AreSentOnce : Direction → List Entry → Type 0
AreSentOnce d [] = ⊤
AreSentOnce d (x ∷ xs) =
    ((name : Name) (k : ℕ) → sends x.event d name k ≡ true → is_sent xs d name k ≡ false)
    × AreSentOnce d xs

-- ---- what is finished

-- whether the logs of both lanes are full that take the packet numbered n: of those of the
-- spacecraft if it goes up, of those of ground if it goes down
abbrev pub is_let_off : ℕ → List SeatLog → List Entry → ℕ → Bool
is_let_off limit logs journal n =
    (are_full limit logs 1 2 && is_put journal Up n)
    || (are_full limit logs 3 4 && is_put journal Down n)

-- each packet that was put and never lost is taken
pub record AreTaken (limit : ℕ) (logs : List SeatLog) (w : Shown) (xs : List Entry) : Type 0 where
  pub taken : (n : ℕ)
      → is_held (history w) n ≡ true
      → is_let_off limit logs w.journal n ≡ false
      → is_taken xs n ≡ true

-- a transaction of so many parts is sent whole and finished, or aborted
abbrev pub IsCarried : List Entry → Direction → Name → ℕ → Type 0
IsCarried xs d name parts =
    (is_aborted xs d name ≡ true)
    ⊎ (((k : ℕ) → 1 ≤ k → k ≤ parts → is_sent xs d name k ≡ true) × (is_finished xs d name ≡ true))

-- each transaction that was opened from that place on is carried after its opening, if the
-- entries are those from there on; but for those of a sender whose log is full
abbrev pub AreCarried :
    (limit : ℕ) → List SeatLog → (p : ℕ) → (from : ℕ) → List Entry → List Opening → Type 0
AreCarried limit logs p from xs [] = ⊤
AreCarried limit logs p from xs (o ∷ os) =
    (from ≤ o.place
    → is_full limit logs (sender_seat o.direction) ≡ false
    → IsCarried (drop (o.place - from) xs) o.direction o.name (part_count (length o.message) p))
    × AreCarried limit logs p from xs os

-- the last openings of the transactions that are open
abbrev pub open_ones : History → List Opening → List Owed
open_ones h [] = []
open_ones h (o ∷ os) =
    if is_open (state_shown (sender h o.direction o.name))
    && not (is_opened os o.direction o.name) then
    record { direction = o.direction; name = o.name; length = length o.message } ∷ open_ones h os
    else open_ones h os

-- what was open in a world
abbrev pub owed_of : Shown → List Owed
owed_of w = open_ones (history w) (opened (history w))

-- each of these transactions is carried, but for those of a sender whose log is full
abbrev pub AreOwedCarried :
    (limit : ℕ) → List SeatLog → (p : ℕ) → List Entry → List Owed → Type 0
AreOwedCarried limit logs p xs [] = ⊤
AreOwedCarried limit logs p xs (o ∷ os) =
    (is_full limit logs (sender_seat o.direction) ≡ false
    → IsCarried xs o.direction o.name (part_count o.length p))
    × AreOwedCarried limit logs p xs os

-- no hand and no worker has anything
abbrev pub IsIdle : Shown → Type 0
IsIdle w =
    (hand (history w) S1 ≡ None)
    × (hand (history w) S2 ≡ None)
    × (hand (history w) G1 ≡ None)
    × (hand (history w) G2 ≡ None)
    × (ticket w.config (history w) W1 ≡ None)
    × (ticket w.config (history w) W2 ≡ None)

-- each job is executed, or the logs of both workers are full
abbrev pub AreExecuted : ℕ → List SeatLog → Shown → Type 0
AreExecuted limit logs w =
    are_full limit logs 7 8 ≡ false → length (jobs w.config (history w)) - jobs_applied (history w)
    ≡ 0

-- the seat ticked so often, or the clock is at its greatest
abbrev pub HasTicked : Shown → List Entry → ℕ → Side → ℕ → Type 0
HasTicked w xs seat side count =
    (tick_count xs seat side ≡ count) ⊎ (clock w.config (history w) side ≡ greatest_clock)

-- the node's timer ticked not more than that, and so often if its log isn't full
abbrev pub IsTicked : Turns → List SeatLog → Shown → List Entry → Side → Type 0
IsTicked turns logs w xs side =
    (tick_count xs (timer_seat side) side ≤ turns.ticks)
    × (is_full turns.per_seat logs (timer_seat side) ≡ false
    → HasTicked w xs (timer_seat side) side turns.ticks)

-- Each transaction that was open in the given world or was opened since is sent whole and finished,
-- or aborted, and no part twice; each packet that was never lost is taken, and none twice; hands
-- and workers have nothing, and each job is executed; the timers have ticked. What a seat left
-- whose log is full is excused, if nobody else does the same.
pub record IsFinished (turns : Turns) (given w : Shown) (logs : List SeatLog) : Type 0 where
  pub at_start : AreOwedCarried turns.per_seat logs w.config.part_size
      (drop (length given.journal) w.journal) (owed_of given)
  pub since : AreCarried turns.per_seat logs w.config.part_size (length given.journal)
      (drop (length given.journal) w.journal) (opened (history w))
  pub taken : AreTaken turns.per_seat logs w (drop (length given.journal) w.journal)
  pub once : AreTakenOnce (drop (length given.journal) w.journal)
  pub up_once : AreSentOnce Up (drop (length given.journal) w.journal)
  pub down_once : AreSentOnce Down (drop (length given.journal) w.journal)
  pub idle : IsIdle w
  pub executed : AreExecuted turns.per_seat logs w
  pub craft_ticked : IsTicked turns logs w (drop (length given.journal) w.journal) Craft
  pub ground_ticked : IsTicked turns logs w (drop (length given.journal) w.journal) Ground

-- What is looked at when the threads of a run have ended. It is all that a run has to finish, but
-- for the parts of a transaction: those are looked for one after the other.
use Rattle.std.specs.Prelude.{◌≡◌, ◌⊎◌, ℕ, ◌+◌, ◌-◌, ◌<◌, ◌≤◌, true, false, if◌then◌else◌, List, [], ◌∷◌, length, drop, replicate, ⊤}
use Rattle.lpt_packet.specs.declared.direction.Direction.{Direction}
use Rattle.lpt_packet.specs.Names.{Name}
use Rattle.lpt_part.specs.Splitting.{part_count}
use Rattle.lpt_events.specs.declared.entry.Entry.{Entry}
use Rattle.lpt_events.specs.declared.entry.Opening.{Opening}
use Rattle.lpt_events.specs.declared.side.Side.TheVariants.{Ground, Craft}
use Rattle.lpt_journal.specs.Senders.{opened}
use Rattle.lpt_world.specs.Worlds.{Shown, history}
use Rattle.lpt_share.specs.declared.owed.Owed.{Owed}
use Rattle.lpt_events.specs.declared.log.SeatLog.{SeatLog}
use Rattle.lpt_events.specs.declared.turns.Turns.{Turns}
use Rattle.lpt_journal.specs.Link.{sent}
use Rattle.lpt_share.specs.Finished.{is_full, sends, finishes, is_finished, is_aborted, AreExecuted, AreTaken, IsIdle, IsTicked}
use Rattle.lpt_share.specs.FinishedInside.{are_fresh}
use Rattle.lpt_share.specs.Kinds.{sender_seat}
use Rattle.lpt_share.specs.Turn.{are_all_in_turn}

-- the part after those that are sent one after the other from part k on, before the transaction is
-- finished
abbrev pub sent_on : List Entry → Direction → Name → ℕ → ℕ
sent_on [] d name k = k
sent_on (x ∷ xs) d name k =
    if finishes x.event d name then k
    else (if sends x.event d name k then sent_on xs d name (k + 1) else sent_on xs d name k)

-- a transaction of so many parts is sent, one part after the other up to the last, and finished
abbrev pub IsSentWhole : List Entry → Direction → Name → ℕ → Type 0
IsSentWhole xs d name parts = (parts < sent_on xs d name 1) × (is_finished xs d name ≡ true)

-- it is sent so, or it is aborted
abbrev pub IsCarriedInOrder : List Entry → Direction → Name → ℕ → Type 0
IsCarriedInOrder xs d name parts = (is_aborted xs d name ≡ true) ⊎ IsSentWhole xs d name parts

-- so is each transaction that was opened from that place on, after its opening, if the entries
-- are those from there on; but for those of a sender whose log is full
abbrev pub AreCarriedInOrder :
    (limit : ℕ) → List SeatLog → (p : ℕ) → (from : ℕ) → List Entry → List Opening → Type 0
AreCarriedInOrder limit logs p from xs [] = ⊤
AreCarriedInOrder limit logs p from xs (o ∷ os) =
    (from ≤ o.place
    → is_full limit logs (sender_seat o.direction) ≡ false
    → IsCarriedInOrder (drop (o.place - from) xs) o.direction o.name
    (part_count (length o.message) p))
    × AreCarriedInOrder limit logs p from xs os

-- so is each of these, but for those of a sender whose log is full
abbrev pub AreOwedInOrder :
    (limit : ℕ) → List SeatLog → (p : ℕ) → List Entry → List Owed → Type 0
AreOwedInOrder limit logs p xs [] = ⊤
AreOwedInOrder limit logs p xs (o ∷ os) =
    (is_full limit logs (sender_seat o.direction) ≡ false
    → IsCarriedInOrder xs o.direction o.name (part_count o.length p))
    × AreOwedInOrder limit logs p xs os

-- hands, workers and jobs are done with, parts are sent in turn, the timers have ticked, and what
-- was owed or was opened from that place on is carried, if the entries are those from there on
abbrev pub AreThrough : Turns → (from : ℕ) → List Owed → Shown → List SeatLog → List Entry → Type 0
AreThrough turns from owed w logs xs =
    IsIdle w
    × (are_all_in_turn xs ≡ true)
    × AreExecuted turns.per_seat logs w
    × IsTicked turns logs w xs Craft
    × IsTicked turns logs w xs Ground
    × AreOwedInOrder turns.per_seat logs w.config.part_size xs owed
    × AreCarriedInOrder turns.per_seat logs w.config.part_size from xs (opened (history w))

-- each packet that is taken was put, and is taken once; and each that was never lost is taken
abbrev pub AreTakenInTurn : ℕ → List SeatLog → Shown → List Entry → Type 0
AreTakenInTurn limit logs w xs =
    (are_fresh xs (replicate (length (sent (history w))) false) ≡ true) × AreTaken limit logs w xs

-- the same, and packets are taken from that place on
abbrev pub IsSettled : Turns → (from : ℕ) → List Owed → Shown → List SeatLog → Type 0
IsSettled turns from owed w logs =
    AreThrough turns from owed w logs (drop from w.journal)
    × AreTakenInTurn turns.per_seat logs w (drop from w.journal)

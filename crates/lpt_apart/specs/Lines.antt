-- The lines by which the programs of two ends apart free names, over a link that loses, repeats,
-- delays and reorders whatever goes over it.
--
-- A name has a turn at each end: how often it was freed there.
use Rattle.std.specs.Prelude.{◌≡◌, ℕ, ◌+◌, ◌<◌, ◌==◌, Bool, false, ◌&&◌, not, if◌then◌else◌, List, [], ◌∷◌, slice_get, Option, Some, None, is_some}
use Rattle.std.specs.FinMap as maps
use Rattle.lpt_packet.specs.declared.direction.Direction.{Direction}
use Rattle.lpt_packet.specs.Names.{Name}
use Rattle.lpt_events.specs.Events.{IsEvent}
use Rattle.lpt_events.specs.Sides.{receiver_side, sender_side}
use Rattle.lpt_events.specs.declared.event.Event.TheVariants as event
use Rattle.lpt_ledger.specs.States.{state_at}
use Rattle.lpt_ledger.specs.declared.state.State.TheVariants.{Closed}
use Rattle.lpt_apart.specs.Ends.{PutOut, Ends, node_at, is_same, Pair, Move, Do, Free, Accept, Retire}

-- What goes over the link: the packet of a part, with its name and the turn of its sender; a packet
-- that is no part; its sender says that it is finished with a name, in this turn; its receiver
-- says that it has freed one, in this turn. The direction is that of the name's messages.
pub data Line : Type 0 where
  Part : Direction → Name → (turn : ℕ) → (octets : List ℕ) → Line
  Packet : Direction → (octets : List ℕ) → Line
  Finished : Direction → Name → (turn : ℕ) → Line
  Freed : Direction → Name → (turn : ℕ) → Line

-- ---- turns

-- whether a move frees a name at its sender
abbrev pub is_freed_sending : Move → Direction → Name → Bool
is_freed_sending (Do (Retire e i)) d name = is_same e i d name
is_freed_sending _ d name = false

-- whether a move frees a name at its receiver
abbrev pub is_freed_receiving : Move → Direction → Name → Bool
is_freed_receiving (Free e i) d name = is_same e i d name
is_freed_receiving _ d name = false

-- the turn of a name at its sender, after these moves
abbrev pub sends : List Move → Direction → Name → ℕ
sends [] d name = 0
sends (x ∷ xs) d name =
    if is_freed_sending x d name then sends xs d name + 1 else sends xs d name

-- the turn of a name at its receiver, after these moves
abbrev pub receives : List Move → Direction → Name → ℕ
receives [] d name = 0
receives (x ∷ xs) d name =
    if is_freed_receiving x d name then receives xs d name + 1 else receives xs d name

-- ---- what is said

-- a packet was put out, and may be handed over still
pub record IsOut (e : Ends) (p : PutOut) : Type 0 where
  pub place : ℕ
  pub there : slice_get e.on_the_way place ≡ Some p

-- What an end may say, after these moves: a packet that it put out and that is no part; of a name
-- whose message it has closed, that it is finished with it, in its turn; of any name, that it has
-- freed it, in a turn before its own. A part is said when it is made.
abbrev pub MaySay : Pair → List Move → Line → Type 0
MaySay p xs (Part d name turn b) = ⊥
MaySay p xs (Packet d b) = IsOut p.ends (record { direction = d; part_of = None; octets = b })
MaySay p xs (Finished d name turn) =
    IsEvent (event.Retire d name)
    × (turn ≡ sends xs d name)
    × (state_at (node_at p.ends (sender_side d)).sending.ledger name ≡ Closed)
MaySay p xs (Freed d name turn) = IsEvent (event.Retire d name) × (turn < receives xs d name)

-- ---- what is heard

-- whether no reception of a name is open
abbrev pub is_unheard : Ends → Direction → Name → Bool
is_unheard e d name =
    not (is_some (maps.get (node_at e (receiver_side d)).receiving.entries name))

-- The move by which an end answers what it hears, if it makes one. A packet is handed to it; a
-- part of its own turn, too. A name with which its sender is finished in the receiver's turn is
-- freed, if no reception of it is open. A name that its receiver has freed in the sender's turn
-- is freed.
abbrev pub answer : Ends → List Move → Line → Option Move
answer e xs (Part d name turn b) =
    if turn == receives xs d name then Some (Do (Accept d b)) else None
answer e xs (Packet d b) = Some (Do (Accept d b))
answer e xs (Finished d name turn) =
    if turn == receives xs d name && is_unheard e d name then Some (Free d name) else None
answer e xs (Freed d name turn) =
    if turn == sends xs d name then Some (Do (Retire d name)) else None

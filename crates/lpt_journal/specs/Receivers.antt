-- The receiving ends: what each has kept, which receptions have ended, the clocks and the limits.
use Rattle.std.specs.Prelude.{ℕ, Bool, false, not, ◌&&◌, ◌||◌, ◌==◌, if◌then◌else◌, List, [], ◌∷◌, length}
use Rattle.std.specs.List.{filter}
use Rattle.std.specs.FinMap as map
use Rattle.lpt_packet.specs.declared.direction.Direction.{Direction}
use Rattle.lpt_packet.specs.Names.{Name, same_name}
use Rattle.lpt_reception.specs.Received.{Kept as KeptPart, Parts, no_parts, with_part}
use Rattle.lpt_events.specs.NamedParts.{NamedPart}
use Rattle.lpt_events.specs.declared.lane.Lane.{Lane}
use Rattle.lpt_events.specs.Lanes.{lane_direction, same_direction}
use Rattle.lpt_events.specs.declared.config.Config.{Config}
use Rattle.lpt_events.specs.declared.outcome.Outcome.TheVariants.{Kept, Again, Released, Broken}
use Rattle.lpt_events.specs.declared.side.Side.{Side}
use Rattle.lpt_events.specs.Arrivals.{Arrival, APart}
use Rattle.lpt_acts.specs.Acts.{Act, Deliver, Tick, Expire, Retire, Restart, clock_turned, past_turned, Limits, limits_of, limits_set}
use Rattle.lpt_events.specs.declared.reply.Answer.{Answer}
use Rattle.lpt_events.specs.declared.reply.Answer.TheVariants.{Delivered, Expired}
use Rattle.lpt_events.specs.Sides.{same_side, receiver_side}
use Rattle.lpt_journal.specs.Journal.{History}
use Rattle.lpt_journal.specs.Hands.{in_hand}
use Rattle.lpt_journal.specs.Senders.{once}

-- ---- what was kept

-- a part as a reception keeps it
abbrev pub as_kept : NamedPart → KeptPart
as_kept q = record { kind = q.kind; octets = q.octets }

-- the kept parts with one more
abbrev pub with_piece : Parts → NamedPart → Parts
with_piece s q = with_part s q.number (as_kept q)

-- the kept parts with what arrived
abbrev pub with_arrival : Arrival → Parts → Parts
with_arrival (APart q) s = with_piece s q
with_arrival _ s = s

-- what is kept of a name after a delivery: a part kept before adds nothing, an end leaves nothing
abbrev pub heard_now : Answer → Arrival → Name → Parts → Parts
heard_now (Delivered (Kept i k)) arrived name before =
    if same_name i name then with_arrival arrived before else before
heard_now (Delivered (Released i len)) arrived name before =
    if same_name i name then no_parts else before
heard_now (Delivered (Broken i reason)) arrived name before =
    if same_name i name then no_parts else before
heard_now _ arrived name before = before

-- whether an answer ends the reception of this name
abbrev pub ends : Answer → Name → Bool
ends (Delivered (Released i len)) name = same_name i name
ends (Delivered (Broken i reason)) name = same_name i name
ends (Expired d i) name = same_name i name
ends _ name = false

-- what is kept of a transaction after an event; arrived says what is in each lane's hand
abbrev pub heard_after : Act → Answer → (Lane → Arrival) → Direction → Name → Parts → Parts
heard_after (Deliver l) answer arrived d name before =
    if same_direction (lane_direction l) d then heard_now answer (arrived l) name before else before
heard_after (Expire side which) answer arrived d name before =
    if same_side side (receiver_side d) && ends answer name then no_parts else before
heard_after (Restart side) answer arrived d name before =
    if same_side side (receiver_side d) then no_parts else before
heard_after _ answer arrived d name before = before

-- the parts that are kept of a transaction
abbrev pub heard : Config → History → Direction → Name → Parts
heard c [] d name = no_parts
heard c (x ∷ h) d name = heard_after x.event x.reply.answer (in_hand c h) d name (heard c h d name)

-- ---- open receptions, counted by name

-- whether a reception with these parts is open: it has kept some
abbrev pub has_parts : Parts → Bool
has_parts s = not (map.len s == 0)

-- these names with that of the part that an answer keeps
abbrev pub with_kept_name : Answer → List Name → List Name
with_kept_name (Delivered (Kept i k)) before = i ∷ before
with_kept_name _ before = before

-- the names that were heard in a direction after an event
abbrev pub names_after : Act → Answer → Direction → List Name → List Name
names_after (Deliver l) answer d before =
    if same_direction (lane_direction l) d then with_kept_name answer before else before
names_after _ answer d before = before

-- the names of all parts that were ever kept
abbrev pub heard_names : History → Direction → List Name
heard_names [] d = []
heard_names (x ∷ h) d = names_after x.event x.reply.answer d (heard_names h d)

-- the names with an open reception, each once
abbrev pub open_names : Config → History → Direction → List Name
open_names c h d = once (filter (λ name. has_parts (heard c h d name)) (heard_names h d))

-- how many receptions are open
abbrev pub reception_count : Config → History → Direction → ℕ
reception_count c h d = length (open_names c h d)

-- ---- receptions that have ended

-- whether the receiver has the transaction closed after an event
abbrev pub closed_after : Act → Answer → Direction → Name → Bool → Bool
closed_after (Deliver l) answer d name before =
    (same_direction (lane_direction l) d && ends answer name) || before
closed_after (Expire side which) answer d name before =
    (same_side side (receiver_side d) && ends answer name) || before
closed_after (Retire e i) answer d name before =
    not (same_direction e d && same_name i name) && before
closed_after _ answer d name before = before

-- whether a reception of the transaction has ended, and it was not retired after that
abbrev pub is_closed : History → Direction → Name → Bool
is_closed [] d name = false
is_closed (x ∷ h) d name = closed_after x.event x.reply.answer d name (is_closed h d name)

-- ---- time

-- a node's clock after an event
abbrev pub clock_after : Act → Side → ℕ → ℕ
clock_after (Tick t turn) side before =
    if same_side t side then clock_turned turn before else before
clock_after _ side before = before

-- a node's clock
abbrev pub clock : Config → History → Side → ℕ
clock c [] side = c.clock
clock c (x ∷ h) side = clock_after x.event side (clock c h side)

-- whether an answer takes a part of this name
abbrev pub takes : Answer → Name → Bool
takes (Delivered (Kept i k)) name = same_name i name
takes (Delivered (Again i k)) name = same_name i name
takes _ name = false

-- whether an event takes a part of the transaction
abbrev pub takes_part : Act → Answer → Direction → Name → Bool
takes_part (Deliver l) answer d name = same_direction (lane_direction l) d && takes answer name
takes_part _ answer d name = false

-- a tick of the past after an event: it goes back with the clock of its node
abbrev pub past_after : Act → Side → ℕ → ℕ
past_after (Tick t turn) side before =
    if same_side t side then past_turned turn before else before
past_after _ side before = before

-- the receiver's clock when it last took a part; 0 if it took none, and then none is open
abbrev pub last_tick : Config → History → Direction → Name → ℕ
last_tick c [] d name = 0
last_tick c (x ∷ h) d name =
    if takes_part x.event x.reply.answer d name then clock c h (receiver_side d)
    else past_after x.event (receiver_side d) (last_tick c h d name)

-- ---- limits

-- a node's limits after an event
abbrev pub limits_after : Act → Side → Limits → Limits
limits_after (Tick t turn) side before =
    if same_side t side then limits_set turn before else before
limits_after _ side before = before

-- a node's limits: those of the configuration until it sets others
abbrev pub limits : Config → History → Side → Limits
limits c [] side = limits_of c
limits c (x ∷ h) side = limits_after x.event side (limits c h side)

-- What is told of a world row by row: of each packet on the link, and of each message.
use Rattle.std.specs.Prelude.{ℕ, ◌==◌, if◌then◌else◌, List, [], ◌∷◌, ◌++◌, length, flat_map, codes, decimal, Option, Some, None}
use Rattle.std.specs.List.{range_with_len}
use Rattle.lpt_script_text.specs.Printing.{line_of}
use Rattle.lpt_world.specs.Outside.{octets_of}
use Rattle.lpt_events.specs.NameTexts.{name_text}
use Rattle.lpt_events.specs.declared.entry.Opening.{Opening}
use Rattle.lpt_journal.specs.Link.{is_held}
use Rattle.lpt_journal.specs.Senders.{is_open, opened, sender}
use Rattle.lpt_packet.specs.declared.direction.Direction.{Direction}
use Rattle.lpt_packet.specs.Names.{Name}
use Rattle.lpt_part.specs.Splitting.{part_count}
use Rattle.lpt_world.specs.Worlds.{Shown, history}
use Rattle.lpt_script_views.specs.declared.rows.Half.{Half}
use Rattle.lpt_script_views.specs.declared.rows.Half.TheVariants as half
use Rattle.lpt_script_views.specs.Gaps.{gaps_text, is_missing}
use Rattle.lpt_script_views.specs.Kept.{kept_numbers}
use Rattle.lpt_packet.specs.Directions.{direction_word}
use Rattle.lpt_events.specs.Openings.{is_opened}

-- ---- packets

-- a packet that the link holds, with how many octets it has
abbrev pub held_line : (n len : ℕ) → List ℕ
held_line n len = line_of (codes "held" ∷ decimal n ∷ decimal len ∷ [])

-- the same of a packet that there is
abbrev pub held_octets : ℕ → Option (List ℕ) → List ℕ
held_octets n None = []
held_octets n (Some m) = held_line n (length m)

-- the packet of this number, if the link holds it
abbrev pub held_row : Shown → ℕ → List ℕ
held_row w n = if is_held (history w) n then held_octets n (octets_of w n) else []

-- the rows of so many numbers from one on
abbrev pub rows_text : (ℕ → List ℕ) → (from count : ℕ) → List ℕ
rows_text row from count = flat_map row (range_with_len from count)

-- ---- messages

-- how many parts an opening's message has
abbrev pub parts : Shown → Opening → ℕ
parts w o = part_count (length o.message) w.config.part_size

-- a message of so many parts, if it is open at the node that sends it
abbrev pub sender_row : Shown → Direction → Name → (parts : ℕ) → List ℕ
sender_row w d name parts =
    if is_open (sender (history w) d name)
    then line_of (codes "open" ∷ direction_word d ∷ name_text w.config.source name ∷ codes "parts" ∷ decimal parts ∷ [])
    else []

-- a message of so many parts, and which of them its receiver doesn't keep, if this source is
-- configured
abbrev pub missing_line : (source : ℕ) → Direction → Name → (kept : List ℕ) → (parts : ℕ) → List ℕ
missing_line source d name kept parts =
    codes "reception " ++ (direction_word d ++ (codes " " ++ (name_text source name ++ (codes " parts "
    ++ (decimal parts ++ (codes " missing" ++ (gaps_text (is_missing kept parts) parts ++ 10 ∷ [])))))))

-- the same if the receiver keeps parts of it
abbrev pub missing_row : (source : ℕ) → Direction → Name → (kept : List ℕ) → (parts : ℕ) → List ℕ
missing_row source d name kept parts = if length kept == 0 then [] else missing_line source d name kept parts

-- a message at its sender or at its receiver
abbrev pub message_row : Shown → Half → Opening → List ℕ
message_row w half.Sender o = sender_row w o.direction o.name (parts w o)
message_row w half.Receiver o =
    missing_row w.config.source o.direction o.name (kept_numbers o.direction o.name (history w)) (parts w o)

-- the rows of these openings, each the last of its transaction
abbrev pub last_rows : Shown → Half → List Opening → List ℕ
last_rows w half [] = []
last_rows w half (o ∷ os) =
    (if is_opened os o.direction o.name then [] else message_row w half o) ++ last_rows w half os

-- the rows of the messages of a world, in the order in which they were opened
abbrev pub messages_text : Shown → Half → List ℕ
messages_text w half = last_rows w half (opened (history w))

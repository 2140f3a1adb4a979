-- What is wanted of the messages of a stream, one behind the other.
use Rattle.std.specs.Prelude.{◌≡◌, ◌<◌, ℕ, ◌+◌, ◌==◌, if◌then◌else◌, true, List, [], ◌∷◌, ◌++◌, Option, Some, None}
use Rattle.std.specs.Io.KnownBytes.{Appends}
use Rattle.lpt_events.specs.Counts.{sequence_counts}
use Rattle.lpt_split.specs.declared.split_end.SplitEnd.{SplitEnd}
use Rattle.lpt_split.specs.Forms.{packets_in}
use Rattle.lpt_split.specs.Messages.{Choice, AreWanted, IsUnsplit}
use Rattle.lpt_split.specs.declared.each_wanted.EachWanted.{EachWanted}
use Rattle.lpt_split.specs.declared.one.One.{One}
use Rattle.lpt_split.specs.declared.one.One.TheVariants.{Written, Unsplit}
use Rattle.lpt_split.specs.declared.pick.Pick.{Pick}

-- ---- what is picked

-- the list of the first pick of this identifier
abbrev pub list_of : List Pick → ℕ → Option (List ℕ)
list_of [] id = None
list_of (p ∷ ps) id = if p.id == id then Some p.parts.now else list_of ps id

-- the list of all parts, 1-
abbrev pub all_parts : List ℕ
all_parts = 49 ∷ 45 ∷ []

-- the list of the parts that are wanted under an identifier: of all parts, if nothing is picked
abbrev pub parts_picked : List Pick → ℕ → Option (List ℕ)
parts_picked [] id = Some all_parts
parts_picked (p ∷ ps) id = list_of (p ∷ ps) id

-- ---- a message

-- the parts that this list names, under this identifier and of sequence counts from this one on; a
-- message that has no more octets than a part goes as it is
abbrev pub share : (id count : ℕ) → List ℕ → Choice
share id count list = record { id = id; list = list; first = count; whole = true }

-- these are the packets that are wanted of a message, by its list if there is one, and the sequence
-- count behind them
abbrev pub AreShare : EachWanted → (id count : ℕ) → (m : List ℕ) → Option (List ℕ)
    → (behind : ℕ) → List (List ℕ) → Type 0
AreShare w id count m None behind packets = (behind ≡ count) × (packets ≡ [])
AreShare w id count m (Some list) behind packets =
    AreWanted w.writing (share id count list) m behind packets

-- the same of the message under this identifier
abbrev pub ArePackets : EachWanted → (id count : ℕ) → (m : List ℕ) → (behind : ℕ)
    → List (List ℕ) → Type 0
ArePackets w id count m behind packets =
    AreShare w id count m (parts_picked w.picks.now id) behind packets

-- something is wanted of it, and it isn't split, so
abbrev pub IsRefused : EachWanted → (id count : ℕ) → (m : List ℕ) → SplitEnd → Type 0
IsRefused w id count m end =
    (list : List ℕ) × (parts_picked w.picks.now id ≡ Some list)
    × IsUnsplit w.writing (share id count list) m end

-- they were written; or nothing was
abbrev pub WritesOne : EachWanted → (id count : ℕ) → (m : List ℕ) → One
    → (old new : Option (List ℕ)) → Type 0
WritesOne w id count m (Written behind) old new =
    (packets : List (List ℕ)) × ArePackets w id count m behind packets
    × (behind < sequence_counts)
    × Appends old new (packets_in w.writing.form w.writing.clock packets)
WritesOne w id count m (Unsplit end) old new = IsRefused w id count m end × (new ≡ old)

-- ---- messages, one behind the other

-- these are the packets that are wanted of them, under identifiers and of sequence counts from these
-- on, and the sequence count behind them
abbrev pub AreAll : EachWanted → (id count : ℕ) → List (List ℕ) → (behind : ℕ)
    → List (List ℕ) → Type 0
AreAll w id count [] behind packets = (behind ≡ count) × (packets ≡ [])
AreAll w id count (m ∷ ms) behind packets =
    (next : ℕ) × (mine : List (List ℕ)) × (others : List (List ℕ))
    × ArePackets w id count m next mine × AreAll w (id + 1) next ms behind others
    × (packets ≡ mine ++ others)

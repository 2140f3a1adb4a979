-- How a message is split, and written from one stream to another.
use Rattle.std.specs.Prelude.{◌≡◌, ◌⊎◌, ℕ, ◌+◌, ◌%◌, ◌≤◌, ◌<◌, Bool, true, false, List, [], ◌∷◌, ◌++◌, length, Option, Some, None}
use Rattle.std.specs.Io.KnownBytes.{Appends, Consumes, IsAtEnd}
use Rattle.lpt_events.specs.Counts.{sequence_counts}
use Rattle.lpt_layout.specs.declared.fault.LayoutFault.TheVariants as layout_fault
use Rattle.lpt_packet.specs.Sizes.{longest_packet}
use Rattle.lpt_part.specs.Splitting.{part_count}
use Rattle.lpt_text.specs.Streams.{AppendsPart}
use Rattle.lpt_split.specs.declared.split_end.SplitEnd.{SplitEnd}
use Rattle.lpt_split.specs.declared.split_end.SplitEnd.TheVariants.{Written, Short, Long, Many, NoSuchPart, Unfit, TooLong}
use Rattle.lpt_split.specs.declared.wanted.Wanted.{Wanted}
use Rattle.lpt_split.specs.declared.writing.Writing.{Writing}
use Rattle.lpt_split.specs.Forms.{packets_in}
use Rattle.lpt_split.specs.Lists.{numbers_of}
use Rattle.lpt_split.specs.Packets.{packets_of, AreMade, FirstFault}
use Rattle.lpt_split.specs.Splits.{written_in, AreNumbers}

-- ---- what is wanted of a message

-- which packets of a message are wanted, without how they are written
pub record Choice : Type 0 where
  pub id : ℕ
  pub list : List ℕ
  pub first : ℕ
  pub whole : Bool

abbrev pub choice : Wanted → Choice
choice w = record { id = w.id; list = w.parts.now; first = w.first; whole = w.whole }

-- a message is split: it is longer than a part, no longer than a packet, and has at most 65,535
pub record IsSplit (w : Writing) (m : List ℕ) : Type 0 where
  pub long : w.part_size < length m
  pub short : length m ≤ longest_packet
  pub few : part_count (length m) w.part_size ≤ 65535

-- it is, and the list names these of its parts
pub record AreNamed (w : Writing) (c : Choice) (m ns : List ℕ) : Type 0 where
  pub split : IsSplit w m
  pub read : numbers_of (part_count (length m) w.part_size) c.list ≡ Some ns
  pub parts : AreNumbers (part_count (length m) w.part_size) ns

-- these are the packets of just these parts, each of which can be made, and the sequence count
-- behind them
pub record ArePackets (w : Writing) (c : Choice) (m ns : List ℕ) (behind : ℕ)
    (packets : List (List ℕ)) : Type 0 where
  pub made : AreMade w c.id m c.first ns
  pub are : packets ≡ packets_of w c.id m c.first ns
  pub onward : behind ≡ (c.first + length ns) % sequence_counts

-- the message goes as it is: it has no more octets than a part, and some
pub record IsItself (w : Writing) (c : Choice) (m : List ℕ) (behind : ℕ)
    (packets : List (List ℕ)) : Type 0 where
  pub short : length m ≤ w.part_size
  pub some : 0 < length m
  pub may : c.whole ≡ true
  pub are : packets ≡ m ∷ []
  pub onward : behind ≡ c.first

-- these are the packets that are wanted of a message: those of just the parts that the list names,
-- in its order; or the message itself
abbrev pub AreWanted : Writing → Choice → (m : List ℕ) → (behind : ℕ) → List (List ℕ) → Type 0
AreWanted w c m behind packets =
    ((ns : List ℕ) × AreNamed w c m ns × ArePackets w c m ns behind packets)
    ⊎ IsItself w c m behind packets

-- why nothing is written of a message: it is too short, or too long; the list names no parts of it;
-- or one of those that it names can't be made
abbrev pub IsUnsplit : Writing → Choice → (m : List ℕ) → SplitEnd → Type 0
IsUnsplit w c m (Written behind) = ⊥
IsUnsplit w c m (Short n) =
    (n ≡ length m) × (n ≤ w.part_size) × ((c.whole ≡ false) ⊎ (n ≡ 0))
IsUnsplit w c m Long = longest_packet < length m
IsUnsplit w c m (Many parts) =
    (w.part_size < length m) × (length m ≤ longest_packet)
    × (parts ≡ part_count (length m) w.part_size) × (65535 < parts)
IsUnsplit w c m (NoSuchPart last) =
    IsSplit w m × (last ≡ part_count (length m) w.part_size) × (numbers_of last c.list ≡ None)
IsUnsplit w c m Unfit =
    (ns : List ℕ) × AreNamed w c m ns × FirstFault w c.id m c.first ns layout_fault.Unfit
IsUnsplit w c m TooLong =
    (ns : List ℕ) × AreNamed w c m ns × FirstFault w c.id m c.first ns layout_fault.TooLong

-- ---- what is put behind octets

-- what is wanted of a message was put behind octets, in the form that is wanted; or it isn't split
abbrev pub PutsSplit : Writing → Choice → (m : List ℕ) → SplitEnd → (old new : List ℕ) → Type 0
PutsSplit w c m (Written behind) old new =
    (packets : List (List ℕ)) × AreWanted w c m behind packets
    × (new ≡ old ++ packets_in w.form w.clock packets)
PutsSplit w c m (Short n) old new = IsUnsplit w c m (Short n)
PutsSplit w c m Long old new = IsUnsplit w c m Long
PutsSplit w c m (Many parts) old new = IsUnsplit w c m (Many parts)
PutsSplit w c m (NoSuchPart last) old new = IsUnsplit w c m (NoSuchPart last)
PutsSplit w c m Unfit old new = IsUnsplit w c m Unfit
PutsSplit w c m TooLong old new = IsUnsplit w c m TooLong

-- the packets of these parts were; or one of them can't be made
abbrev pub PutsNumbers : Writing → Choice → (m ns : List ℕ) → SplitEnd → (old new : List ℕ)
    → Type 0
PutsNumbers w c m ns (Written behind) old new =
    (packets : List (List ℕ)) × ArePackets w c m ns behind packets
    × (new ≡ old ++ packets_in w.form w.clock packets)
PutsNumbers w c m ns Unfit old new = FirstFault w c.id m c.first ns layout_fault.Unfit
PutsNumbers w c m ns TooLong old new = FirstFault w c.id m c.first ns layout_fault.TooLong
PutsNumbers w c m ns _ old new = ⊥

-- ---- from one stream to another

-- what is wanted was written; or nothing was
abbrev pub WritesSplit : Writing → Choice → (m : List ℕ) → SplitEnd
    → (old new : Option (List ℕ)) → Type 0
WritesSplit w c m (Written behind) old new =
    (packets : List (List ℕ)) × AreWanted w c m behind packets
    × Appends old new (written_in w.form w.clock packets)
WritesSplit w c m (Short n) old new = IsUnsplit w c m (Short n) × (new ≡ old)
WritesSplit w c m Long old new = IsUnsplit w c m Long × (new ≡ old)
WritesSplit w c m (Many parts) old new = IsUnsplit w c m (Many parts) × (new ≡ old)
WritesSplit w c m (NoSuchPart last) old new = IsUnsplit w c m (NoSuchPart last) × (new ≡ old)
WritesSplit w c m Unfit old new = IsUnsplit w c m Unfit × (new ≡ old)
WritesSplit w c m TooLong old new = IsUnsplit w c m TooLong × (new ≡ old)

-- nothing was written, or a front part of what is wanted
abbrev pub LeavesSplit : Writing → Choice → (m : List ℕ) → (old new : Option (List ℕ)) → Type 0
LeavesSplit w c m old new =
    (new ≡ old)
    ⊎ ((behind : ℕ) × (packets : List (List ℕ)) × AreWanted w c m behind packets
    × AppendsPart old new (written_in w.form w.clock packets))

-- the message was read to its end, but for one that is too long
abbrev pub IsReadTo : SplitEnd → Option (List ℕ) → Type 0
IsReadTo Long after = Unit {0}
IsReadTo (Written behind) after = IsAtEnd after
IsReadTo (Short n) after = IsAtEnd after
IsReadTo (Many parts) after = IsAtEnd after
IsReadTo (NoSuchPart last) after = IsAtEnd after
IsReadTo Unfit after = IsAtEnd after
IsReadTo TooLong after = IsAtEnd after

-- a message was read, and so written
abbrev pub SplitsTo : Wanted → SplitEnd → (before after old new : Option (List ℕ)) → Type 0
SplitsTo w end before after old new =
    (m : List ℕ) × Consumes before after m × WritesSplit w.writing (choice w) m end old new
    × IsReadTo end after

-- octets were read, and nothing was written or a front part of what is wanted of them
abbrev pub SplitLeaves : Wanted → (before after old new : Option (List ℕ)) → Type 0
SplitLeaves w before after old new =
    (m : List ℕ) × Consumes before after m × LeavesSplit w.writing (choice w) m old new

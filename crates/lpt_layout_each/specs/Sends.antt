-- Packets of messages one behind the other.
use Rattle.std.specs.Prelude.{◌≡◌, ◌≢◌, ◌⊎◌, ℕ, ◌≤◌, Bool, true, false, List, [], ◌∷◌, ◌++◌, filter, length, None, Some, is_some}
use Rattle.std.specs.List.{AllByRecursion}
use Rattle.lpt_part.specs.Parts.{nth_part}
use Rattle.lpt_part.specs.Splitting.{part_count}
use Rattle.lpt_carried.specs.declared.name.Name.{Name}
use Rattle.lpt_carried.specs.declared.reading.Reading.{Reading}
use Rattle.lpt_carried.specs.Carried.{part_carried, part_of}
use Rattle.lpt_layout_join.specs.Gathered.{came, carry, is_end}
use Rattle.lpt_layout_join.specs.Laws.{IsSplit}
use Rattle.lpt_layout_join.specs.Writes.{unfit}
use Rattle.lpt_split.specs.declared.writing.Writing.{Writing}
use Rattle.lpt_split.specs.Packets as split
use Rattle.lpt_split.specs.Packets.{AreMade}
use Rattle.lpt_split.specs.Splits.{AreNumbers}

-- a packet carries part k of a message that is split into parts of p octets
pub record Carries (r : Reading) (n : Name) (p : ℕ) (m : List ℕ) (k : ℕ) (b : List ℕ)
    : Type 0 where
  pub some : 1 ≤ k
  pub within : k ≤ part_count (length m) p
  pub is : part_of n (part_carried r b) ≡ Some (nth_part p n.id m k)

-- it carries no part of the name, or one of the message's
abbrev pub Belongs : Reading → Name → (p : ℕ) → (m b : List ℕ) → Type 0
Belongs r n p m b = (part_of n (part_carried r b) ≡ None) ⊎ ((k : ℕ) × Carries r n p m k b)

-- none of these packets before the message's first part carries a last one
abbrev pub FirstBeforeLast : Reading → Name → (p : ℕ) → (m : List ℕ) → List (List ℕ) → Type 0
FirstBeforeLast r n p m [] = Unit {0}
FirstBeforeLast r n p m (b ∷ bs) =
    Carries r n p m 1 b
    ⊎ ((is_end (part_of n (part_carried r b)) ≡ false) × FirstBeforeLast r n p m bs)

-- each of these packets carries a part of the message, or no part of its name; each part of it is
-- there, the last one not before the first, and it is whole with the last packet alone: it may be
-- given out, though its parts may not have come in their order
pub record IsSentBy (r : Reading) (any : Bool) (n : Name) (m : List ℕ) (bs : List (List ℕ))
    : Type 0 where
  pub size : ℕ
  pub split : IsSplit size m
  pub fit : unfit r any false m ≡ None
  pub front : List (List ℕ)
  pub last : List ℕ
  pub number : ℕ
  pub are : bs ≡ front ++ last ∷ []
  pub belong : AllByRecursion (Belongs r n size m) front
  pub ends : Carries r n size m number last
  pub first : came r n number front ≡ false
  pub order : FirstBeforeLast r n size m front
  pub all : (k : ℕ) → 1 ≤ k → k ≤ part_count (length m) size → came r n k bs ≡ true

-- the packets are those of these messages, one behind the other, and behind them others that carry
-- no part of their name
abbrev pub Sends :
    Reading → (any : Bool) → Name → (messages : List (List ℕ)) → List (List ℕ) → Type 0
Sends r any n [] bs = carry r n bs ≡ false
Sends r any n (m ∷ ms) bs =
    (front : List (List ℕ)) × (rest : List (List ℕ))
    × (bs ≡ front ++ rest) × IsSentBy r any n m front × Sends r any n ms rest

-- ---- messages that are split

-- the packets that are written so are read by this reading, and carry parts of this name
pub record IsWrittenFor (r : Reading) (n : Name) (w : Writing) : Type 0 where
  pub layout : w.layout ≡ r.layout
  pub parts : w.parts ≡ r.parts
  pub direction : w.direction ≡ r.direction
  pub apid : w.apid ≡ r.apid
  pub user : w.user ≡ n.user
  pub size : (r.part_size ≡ None) ⊎ (r.part_size ≡ Some w.part_size)

-- a message that is split: its parts of these numbers, in packets of sequence counts from this on
pub record Split : Type 0 where
  pub writing : Writing
  pub message : List ℕ
  pub count : ℕ
  pub numbers : List ℕ

-- its packets
abbrev pub packets_of : Name → Split → List (List ℕ)
packets_of n s = split.packets_of s.writing n.id s.message s.count s.numbers

-- the number is among these
abbrev pub HasNumber : ℕ → List ℕ → Type 0
HasNumber n [] = ⊥
HasNumber n (k ∷ ks) = (k ≡ n) ⊎ HasNumber n ks

-- number 1 comes before this one, or this one isn't there
abbrev pub OneBefore : ℕ → List ℕ → Type 0
OneBefore k [] = Unit {0}
OneBefore k (n ∷ ns) = (n ≡ 1) ⊎ ((n ≢ k) × OneBefore k ns)

-- each part of the message is sent, the last one not before the first, and not all before the last
-- number; it may be given out
pub record IsSplitWhole (r : Reading) (any : Bool) (n : Name) (s : Split) : Type 0 where
  pub written : IsWrittenFor r n s.writing
  pub split : IsSplit s.writing.part_size s.message
  pub fit : unfit r any false s.message ≡ None
  pub made : AreMade s.writing n.id s.message s.count s.numbers
  pub front : List ℕ
  pub number : ℕ
  pub are : s.numbers ≡ front ++ number ∷ []
  pub first : HasNumber number front → ⊥
  pub order : OneBefore (part_count (length s.message) s.writing.part_size) front
  pub numbers : AreNumbers (part_count (length s.message) s.writing.part_size) s.numbers
  pub each : (k : ℕ) → 1 ≤ k → k ≤ part_count (length s.message) s.writing.part_size
      → HasNumber k s.numbers

-- each of these is
abbrev pub AllSplitWhole : Reading → (any : Bool) → Name → List Split → Type 0
AllSplitWhole r any n ss = AllByRecursion (IsSplitWhole r any n) ss

-- the packets that carry a part of the name
abbrev pub carriers : Reading → Name → List (List ℕ) → List (List ℕ)
carriers r n bs = filter (λ b. is_some (part_of n (part_carried r b))) bs

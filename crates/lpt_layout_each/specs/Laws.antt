-- What is given out of any packets.
use Rattle.std.specs.Prelude.{◌≡◌, ◌⊎◌, ℕ, ◌+◌, ◌≤◌, Bool, true, false, nat_lt, if◌then◌else◌, List, [], ◌∷◌, ◌++◌, Some, None, is_some}
use Rattle.std.specs.List.{AllByRecursion, flat_map}
use Rattle.lpt_part.specs.Parts.{Piece}
use Rattle.lpt_carried.specs.declared.name.Name.{Name}
use Rattle.lpt_carried.specs.declared.reading.Reading.{Reading}
use Rattle.lpt_layout_join.specs.Came.{Came, contradicts, message_of, nothing_came}
use Rattle.lpt_carried.specs.Carried.{part_carried, part_of, same_name}
use Rattle.lpt_layout_join.specs.Writes.{unfit}
use Rattle.lpt_layout_each.specs.Eaches.{more}
use Rattle.lpt_layout_each.specs.News.{Event, News}

-- one of these packets carries this part of a name
abbrev pub IsThere : Reading → Name → List (List ℕ) → Piece → Type 0
IsThere r n [] q = ⊥
IsThere r n (b ∷ bs) q = (part_of n (part_carried r b) ≡ Some q) ⊎ IsThere r n bs q

-- each of these parts agrees with those before it
abbrev pub AreAgreed : (before qs : List Piece) → Type 0
AreAgreed before [] = Unit {0}
AreAgreed before (q ∷ qs) = (contradicts before q ≡ false) × AreAgreed (before ++ q ∷ []) qs

-- a message to which parts of a name are joined that agree, each of which one of these packets
-- carries; it may be given out
pub record IsGood (r : Reading) (any : Bool) (bs : List (List ℕ)) (n : Name)
    (m : List ℕ) : Type 0 where
  pub parts : List Piece
  pub there : AllByRecursion (IsThere r n bs) parts
  pub agree : AreAgreed [] parts
  pub joined : message_of parts ≡ Some m
  pub fit : unfit r any true m ≡ None

-- the highest of two numbers
abbrev pub higher : ℕ → ℕ → ℕ
higher k n = if nat_lt k n then n else k

-- a part agrees with others, and the message isn't whole with it
pub record Continues (c : Came) (q : Piece) : Type 0 where
  pub agrees : is_some (more c q).against ≡ false
  pub waits : message_of (more c q).parts ≡ None

-- each of these packets carries no part of the name, or the next part behind these up to this
-- number, or one of them again but the first; it agrees with them, and they aren't whole with it;
-- at the end these came, up to this number
abbrev pub Runs : Reading → Name → Came → (from : ℕ) → List (List ℕ) → Came → (to : ℕ) → Type 0
Runs r n c from [] d to = (c ≡ d) × (from ≡ to)
Runs r n c from (b ∷ bs) d to =
    ((part_of n (part_carried r b) ≡ None) × Runs r n c from bs d to)
    ⊎ ((q : Piece) × (part_of n (part_carried r b) ≡ Some q) × (2 ≤ q.number)
    × (q.number ≤ from + 1)
    × Continues c q × Runs r n (more c q) (higher from q.number) bs d to)

-- the parts of the message stand in these packets in their order: from part 1, in the first packet,
-- to the part that makes them whole, in the last packet, no other part of their name stands between
-- them; it may be given out in whichever order they come
pub record InOrder (r : Reading) (any : Bool) (n : Name) (m : List ℕ)
    (front : List (List ℕ)) (last : List ℕ) : Type 0 where
  pub fit : unfit r any false m ≡ None
  pub first : List ℕ
  pub middle : List (List ℕ)
  pub are : front ≡ first ∷ middle
  pub part : Piece
  pub begins : part_of n (part_carried r first) ≡ Some part
  pub one : part.number ≡ 1
  pub continues : Continues nothing_came part
  pub came : Came
  pub number : ℕ
  pub runs : Runs r n (more nothing_came part) 1 middle came number
  pub final : Piece
  pub ends : part_of n (part_carried r last) ≡ Some final
  pub behind_first : 2 ≤ final.number
  pub next : final.number ≤ number + 1
  pub agrees : is_some (more came final).against ≡ false
  pub joined : message_of (more came final).parts ≡ Some m

-- the news of one name among those of all
abbrev pub news_of_name : Name → List Event → List News
news_of_name n es = flat_map (λ e. if same_name e.0 n then e.1 ∷ [] else []) es

-- What is kept of a stream's packets.
use Rattle.std.specs.Prelude.{◌≡◌, ◌⊎◌, ◌≤◌, ℕ, Bool, true, false, List, [], ◌∷◌, length, Option, Some, None}
use Rattle.std.specs.BTreeMap.{IsOrdered, get}
use Rattle.std.specs.Option.{option_map}
use Rattle.lpt_carried.specs.declared.name.Name.{Name}
use Rattle.lpt_carried.specs.declared.reading.Reading.{Reading}
use Rattle.lpt_carried.specs.Carried.{same_name}
use Rattle.lpt_layout_join.specs.PartNumbersInside.{has, is_ended}
use Rattle.lpt_stream.specs.Pieces.{Piece, packets_of, up_to_limit}
use Rattle.lpt_layout_join.specs.declared.gathering.Gathering.{Gathering}
use Rattle.lpt_layout_join.specs.declared.gatherings.Gatherings.{Gatherings}
use Rattle.lpt_layout_join.specs.CameInside.{Shows}
use Rattle.lpt_layout_join.specs.Gathered.{Gathered, came, carry, has_ended, first_against, parts_gathered}
use Rattle.lpt_layout_join.specs.Names.{name_cmp}

-- it keeps what the packets among these pieces give of the transaction of a name, which of its
-- parts came, and where the first came that contradicts those before it
pub record Gives (r : Reading) (n : Name) (pieces : List Piece) (g : Gathering) : Type 0 where
  pub came_is : Shows (parts_gathered r n (packets_of pieces)).came g.came
  pub order_is : g.order ≡ (parts_gathered r n (packets_of pieces)).order
  pub sure_is : g.sure ≡ (parts_gathered r n (packets_of pieces)).sure
  pub numbers_are : (k : ℕ) → has g.numbers k ≡ came r n k (packets_of pieces)
  pub ended_is : is_ended g.numbers ≡ has_ended r n (packets_of pieces)
  pub against_is : g.against ≡ option_map up_to_limit (first_against r n pieces)

-- what is kept of the transaction of a name
abbrev pub kept_of : Gatherings → Name → Option Gathering
kept_of g n = get name_cmp g.kept n

-- it is what the packets give of a transaction of which they carry parts; nothing is kept of one of
-- which they carry none, or if more came than are kept
abbrev pub IsKept : Reading → Name → List Piece → (more : Bool) → Option Gathering → Type 0
IsKept r n ps more (Some g) = Gives r n ps g × (carry r n (packets_of ps) ≡ true)
IsKept r n ps more None = more ≡ false → carry r n (packets_of ps) ≡ false

-- whether parts of this name are wanted
abbrev pub is_wanted : (wanted : Option Name) → Name → Bool
is_wanted None n = true
is_wanted (Some m) n = same_name n m

-- nothing is kept, or just this transaction, and no more came
abbrev pub IsLone : Name → Gatherings → Type 0
IsLone n g =
    (g.has_more ≡ false)
    × ((g.kept.entries ≡ []) ⊎ ((x : Gathering) × (g.kept.entries ≡ (n, x) ∷ [])))

-- if one transaction is wanted, no other is kept
abbrev pub LoneIs : (wanted : Option Name) → Gatherings → Type 0
LoneIs None g = Unit {0}
LoneIs (Some n) g = IsLone n g

-- of each transaction that is wanted, what is kept is what the packets among these pieces give of
-- it; of at most 64, and if more came, of as many; and of no other
pub record GivesEach (r : Reading) (wanted : Option Name) (ps : List Piece) (g : Gatherings) :
    Type 0 where
  pub each : (n : Name) → is_wanted wanted n ≡ true → IsKept r n ps g.has_more (kept_of g n)
  pub lone : LoneIs wanted g
  pub most : length g.kept.entries ≤ 64
  pub full : g.has_more ≡ true → length g.kept.entries ≡ 64

-- this is kept of the transaction of this name, and nothing came of any other
pub record IsOnly (gs : Gatherings) (n : Name) (g : Gathering) : Type 0 where
  pub is : gs.kept.entries ≡ (n, g) ∷ []
  pub all : gs.has_more ≡ false

-- there isn't just one; what is kept stands by the names, each once
abbrev pub NoneIsOnly : Gatherings → Type 0
NoneIsOnly gs =
    ((n : Name) (g : Gathering) → IsOnly gs n g → ⊥) × IsOrdered name_cmp gs.kept

-- this is what is kept of the transaction of this name, or of the only one
abbrev pub IsChosen : Gatherings → (name : Option Name) → Gathering → Type 0
IsChosen gs (Some n) g = kept_of gs n ≡ Some g
IsChosen gs None g = (n : Name) × IsOnly gs n g

-- nothing is
abbrev pub NoneIsChosen : Gatherings → (name : Option Name) → Type 0
NoneIsChosen gs (Some n) = kept_of gs n ≡ None
NoneIsChosen gs None = NoneIsOnly gs

-- it shows what packets gave
pub record ShowsGathered (g : Gathered) (x : Gathering) : Type 0 where
  pub came_is : Shows g.came x.came
  pub sure_is : x.sure ≡ g.sure

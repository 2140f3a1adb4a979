-- A number for each transaction, in a map for each direction.
use Rattle.std.specs.Prelude.{◌≡◌, ℕ, ◌+◌, ◌&&◌, cond, List, [], Option, Some, IsSome}
use Rattle.std.specs.BTreeMap.{is_at}
use Rattle.std.specs.Map.{lookup}
use Rattle.std.specs.Option.{option_eq, option_map_or}
use Rattle.lpt_packet.specs.Names.{Name, name_cmp, same_name}
use Rattle.lpt_packet.specs.declared.direction.Direction.{Direction}
use Rattle.lpt_packet.specs.declared.direction.Direction.TheVariants.{Up, Down}
use Rattle.lpt_events.specs.Lanes.{same_direction}

-- ---- one direction

-- the number under a name, if it has a place
abbrev pub found_in : List (Name × ℕ) → Name → Option ℕ
found_in es name = lookup (is_at (name_cmp name)) es

-- the number under a name, and 0 if it has no place
abbrev pub number_in : List (Name × ℕ) → Name → ℕ
number_in es name = option_map_or (λ n. n) (found_in es name) 0

-- the name has a place
abbrev pub IsPlaced : List (Name × ℕ) → Name → Type 0
IsPlaced es name = IsSome (found_in es name)

-- the number of this name is one more, and the others are the same
abbrev pub IsOneMoreAt : Name → List (Name × ℕ) → List (Name × ℕ) → Type 0
IsOneMoreAt name old new =
    (q : Name) → number_in new q ≡ number_in old q + cond (is_at (name_cmp name) q) 1 0

-- ---- both

-- the names that have a place in each direction, with their numbers
pub record LinkCounts : Type 0 where
  pub up : List (Name × ℕ)
  pub down : List (Name × ℕ)

-- no name has a place
abbrev pub no_counts : LinkCounts
no_counts = record { up = []; down = [] }

-- those of a direction
abbrev pub counts_in : LinkCounts → Direction → List (Name × ℕ)
counts_in c Up = c.up
counts_in c Down = c.down

-- the number of a transaction
abbrev pub count_of : LinkCounts → Direction → Name → ℕ
count_of c direction name = number_in (counts_in c direction) name

-- the transaction has a place
abbrev pub HasPlace : LinkCounts → Direction → Name → Type 0
HasPlace c direction name = IsPlaced (counts_in c direction) name

-- each transaction that had a place has one
abbrev pub KeepsPlaces : LinkCounts → LinkCounts → Type 0
KeepsPlaces old new =
    (direction : Direction) (name : Name) → HasPlace old direction name
    → HasPlace new direction name

-- the numbers are the same
abbrev pub SameCounts : LinkCounts → LinkCounts → Type 0
SameCounts old new =
    (direction : Direction) (name : Name) → count_of new direction name
    ≡ count_of old direction name

-- 1 if a tag is the transaction's, and else 0
abbrev pub one_of : Direction → Option Name → Direction → Name → ℕ
one_of goes tag direction name =
    cond (same_direction goes direction && option_eq same_name tag (Some name)) 1 0

-- the number of the transaction with this tag is one more, and the others are the same
abbrev pub IsOneMore : Direction → Option Name → LinkCounts → LinkCounts → Type 0
IsOneMore goes tag old new =
    (direction : Direction) (name : Name)
    → count_of new direction name ≡ count_of old direction name + one_of goes tag direction name

-- What a value holds of the parts that came.
use Rattle.std.specs.Prelude.{◌≡◌, ◌≤◌, ℕ, ◌-◌, Bool, if◌then◌else◌, List, [], Option, Some, None}
use Rattle.lpt_layout_join.specs.declared.came.CameAs.{CameAs}
use Rattle.lpt_layout_join.specs.declared.last_part.LastPart.{LastPart}
use Rattle.lpt_layout_join.specs.Came.{Came, octets_of, size_of, last_of, highest}
use Rattle.lpt_layout_join.specs.Slots.{IsSound, at, end_in}

-- the octets of the part of a number
abbrev pub part_at : CameAs → ℕ → Option (List ℕ)
part_at s n = at s.slots (n - 1)

-- a number, if there is one
abbrev pub number_if : (there : Bool) → ℕ → Option ℕ
number_if there n = if there then Some n else None

-- the part size
abbrev pub size_in : CameAs → Option ℕ
size_in s = number_if s.has_size s.size

-- the last part
abbrev pub last_if : (there : Bool) → (number len : ℕ) → Option LastPart
last_if there number len =
    if there then Some (record { number = number; len = len }) else None

abbrev pub last_in : CameAs → Option LastPart
last_in s = last_if s.has_last s.last_number s.last_len

-- the place of the part that contradicts
abbrev pub against_in : CameAs → Option ℕ
against_in s = number_if s.has_against s.against_at

-- the place from which on they are told
abbrev pub began_in : CameAs → Option ℕ
began_in s = number_if s.has_began s.began_at

-- up to which number parts are kept
abbrev pub highest_in : CameAs → ℕ
highest_in s = end_in s.slots

-- it holds no part
pub record IsBlank (s : CameAs) : Type 0 where
  pub spans : s.slots.spans.items ≡ []
  pub size : size_in s ≡ None
  pub last : last_in s ≡ None
  pub against : against_in s ≡ None

-- what is held is what came
pub record Shows (c : Came) (s : CameAs) : Type 0 where
  pub sound : IsSound s.slots
  pub parts_are : (n : ℕ) → 1 ≤ n → part_at s n ≡ octets_of c.parts n
  pub size_is : size_in s ≡ size_of c.parts
  pub last_is : last_in s ≡ last_of c.parts
  pub highest_is : highest_in s ≡ highest c.parts
  pub against_is : against_in s ≡ c.against

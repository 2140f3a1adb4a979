-- The keys of a table.
use Rattle.std.specs.Prelude.{ℕ, Bool, true, ◌&&◌, nat_eq, if◌then◌else◌, List, []}
use Rattle.std.specs.List.{list_any}
use Rattle.std.specs.Cmp.Lexicographic.{pointwise}
use Rattle.toml.specs.Data.{Members, no_members, member}

-- the key is one of the words
abbrev pub is_one_of : List (List ℕ) → List ℕ → Bool
is_one_of words key = list_any (pointwise nat_eq key) words

-- each key of a table is one of the words
abbrev pub has_only : List (List ℕ) → Members → Bool
has_only words no_members = true
has_only words (member key d more) = is_one_of words key && has_only words more

-- the first key of a table that is none of the words; the empty text if each is one
abbrev pub unknown_key : List (List ℕ) → Members → List ℕ
unknown_key words no_members = []
unknown_key words (member key d more) = if is_one_of words key then unknown_key words more else key

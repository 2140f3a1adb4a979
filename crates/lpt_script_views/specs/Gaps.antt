-- Which parts of a message are missing.
use Rattle.std.specs.Prelude.{ℕ, ◌+◌, ◌-◌, nat_le, Bool, false, not, ◌&&◌, if◌then◌else◌, List, [], ◌∷◌, flat_map, decimal, slice_index_or}
use Rattle.std.specs.List.{range_with_len}
use Rattle.lpt_script_views.specs.Kept.{has_number}

-- whether the part of this number is missing, of so many parts
abbrev pub is_missing : (kept : List ℕ) → (parts k : ℕ) → Bool
is_missing kept parts k = nat_le 1 k && nat_le k parts && not (has_number kept k)

-- the same, if it is marked of each number whether that part is kept
abbrev pub is_unmarked : (marks : List Bool) → (parts k : ℕ) → Bool
is_unmarked marks parts k = nat_le 1 k && nat_le k parts && not (slice_index_or marks k false)

-- What a number adds to the list of the missing ones: the first of a run is told by itself, and the
-- last of a longer one behind a dash.
abbrev pub gap_text : (missing before behind : Bool) → ℕ → List ℕ
gap_text missing before behind k =
    if not missing then []
    else if not before then 32 ∷ decimal k
    else if not behind then 45 ∷ decimal k
    else []

-- what the number of a part adds to the list of the missing ones
abbrev pub part_gap : (missing : ℕ → Bool) → ℕ → List ℕ
part_gap missing k = gap_text (missing k) (missing (k - 1)) (missing (k + 1)) k

-- the parts that are missing, of so many
abbrev pub gaps_text : (missing : ℕ → Bool) → (parts : ℕ) → List ℕ
gaps_text missing parts = flat_map (part_gap missing) (range_with_len 1 parts)

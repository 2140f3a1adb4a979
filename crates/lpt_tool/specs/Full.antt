-- Which seats of a run of threads reached their limit.
use Rattle.std.specs.Prelude.{◌+◌, ◌==◌, ℕ, nat_le, if◌then◌else◌, List, [], ◌∷◌}
use Rattle.lpt_events.specs.declared.entry.Entry.{Entry}

-- how many calls of a seat a journal has
abbrev pub call_count : (seat : ℕ) → List Entry → ℕ
call_count seat [] = 0
call_count seat (x ∷ xs) = if x.seat == seat then call_count seat xs + 1 else call_count seat xs

-- those of these seats of which a journal has as many calls as the limit, or more
abbrev pub full_of : (limit : ℕ) → List Entry → (seats : List ℕ) → List ℕ
full_of limit journal [] = []
full_of limit journal (s ∷ ss) =
    if nat_le limit (call_count s journal) then s ∷ full_of limit journal ss else full_of limit journal ss

-- those of the seats that have a thread
abbrev pub full_seats : (limit : ℕ) → List Entry → List ℕ
full_seats limit journal = full_of limit journal (1 ∷ 2 ∷ 3 ∷ 4 ∷ 5 ∷ 6 ∷ 7 ∷ 8 ∷ 9 ∷ 10 ∷ [])

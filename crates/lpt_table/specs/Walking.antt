-- How open receptions are gone through, one by one, and when the next one is due.
use Rattle.std.specs.Prelude.{◌≡◌, ℕ, ◌+◌, Bool, true, false, ◌&&◌, nat_le, nat_lt, if◌then◌else◌, List, [], ◌∷◌, Option, Some, None}
use Rattle.std.specs.FinMap as map
use Rattle.std.specs.Option.{option_map}
use Rattle.lpt_packet.specs.Names.{Name, name_before}
use Rattle.lpt_reception.specs.Received.{Received}
use Rattle.lpt_table.specs.declared.places.DuePlace.{DuePlace}
use Rattle.lpt_table.specs.Tables.{TableEntry, TableState}

-- what is kept under a name, if a reception of it is open
abbrev pub reception_at : TableState → Name → Option Received
reception_at t name =
    option_map (λ e. record { id = name.id; p = t.p; parts = e.parts }) (map.get t.entries name)

-- the tick from which on the reception of a name is overdue, if one is open
abbrev pub due_at : TableState → Name → Option ℕ
due_at t name = option_map (λ e. e.last + t.timeout) (map.get t.entries name)

-- the lesser of a tick and another, if there is one
abbrev pub lesser : ℕ → Option ℕ → ℕ
lesser a None = a
lesser a (Some b) = if nat_lt b a then b else a

-- the least last tick of receptions
abbrev pub least_last : List (Name × TableEntry) → Option ℕ
least_last [] = None
least_last (e ∷ es) = Some (lesser e.1.last (least_last es))

-- the tick from which on some reception is overdue, if one is open
abbrev pub next_due : TableState → Option ℕ
next_due t = option_map (λ last. last + t.timeout) (least_last (map.entries t.entries))

-- whether a tick, if there is one, has come
abbrev pub has_come : Option ℕ → (now : ℕ) → Bool
has_come None now = false
has_come (Some at) now = nat_le at now

-- ---- names in order

-- whether a name stands behind this one, if there is one
abbrev pub is_behind : Option Name → Name → Bool
is_behind None name = true
is_behind (Some after) name = name_before after name

-- a name that passes a test and stands behind another, and that none of these is before
pub record IsNextName (test : Name → Bool) (after : Option Name) (name : Name) : Type 0 where
  pub passes : test name ≡ true
  pub behind : is_behind after name ≡ true
  pub least : (q : Name) → test q ≡ true → is_behind after q ≡ true → name_before q name ≡ false

-- the least name behind another that passes a test, or none
abbrev pub IsNext : (test : Name → Bool) → (after : Option Name) → Option Name → Type 0
IsNext test after None = (q : Name) → test q ≡ true → is_behind after q ≡ false
IsNext test after (Some name) = IsNextName test after name

-- ---- the same of places

-- whether a name stands before one that was found
abbrev pub is_nearer : Name → Option Name → Bool
is_nearer name None = true
is_nearer name (Some found) = name_before name found

-- a name if it stands behind another and before the one that was found, else that one
abbrev pub nearer : (after : Option Name) → Name → (found : Option Name) → Option Name
nearer after name found = if is_behind after name && is_nearer name found then Some name else found

-- the least name behind another among those of places
abbrev pub nearest : (after : Option Name) → List DuePlace → Option Name
nearest after [] = None
nearest after (x ∷ xs) = nearer after x.name (nearest after xs)

-- the last tick of the first place
abbrev pub first_last : List DuePlace → Option ℕ
first_last [] = None
first_last (x ∷ xs) = Some x.last

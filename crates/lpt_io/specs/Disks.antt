-- What is on a disk, and what becomes of it.
use Rattle.std.specs.Prelude.{◌≡◌, ◌≢◌, ℕ, List, ◌++◌, Option, Some, None, ⊤, codes}

-- what is at each path: the octets of a file, or none
abbrev pub Contents : Type 0
Contents = (path : List ℕ) → Option (List ℕ)

-- all is as it was
abbrev pub Same : (old new : Contents) → Type 0
Same old new = (p : List ℕ) → new p ≡ old p

-- but at this path
abbrev pub SameBut : (path : List ℕ) → (old new : Contents) → Type 0
SameBut path old new = (p : List ℕ) → p ≢ path → new p ≡ old p

-- but at these
abbrev pub SameButBoth : (path other : List ℕ) → (old new : Contents) → Type 0
SameButBoth path other old new = (p : List ℕ) → p ≢ path → p ≢ other → new p ≡ old p

-- these octets are at this path
abbrev pub IsPut : (path octets : List ℕ) → (old new : Contents) → Type 0
IsPut path octets old new = (new path ≡ Some octets) × SameBut path old new

-- what was at one path is at the other
abbrev pub IsRenamed : (from to : List ℕ) → (old new : Contents) → Type 0
IsRenamed from to old new = (new to ≡ old from) × SameButBoth from to old new

-- these octets are at the second path, and what is at others stays
abbrev pub IsWritten : (part path octets : List ℕ) → (old new : Contents) → Type 0
IsWritten part path octets old new = (new path ≡ Some octets) × SameButBoth part path old new

-- this became of what is on a disk, if that is known
abbrev pub Step : (Contents → Contents → Type 0) → (old new : Option Contents) → Type 0
Step P None None = ⊤
Step P None (Some new) = ⊥
Step P (Some old) None = ⊥
Step P (Some old) (Some new) = P old new

-- the path at which a file is written first that gets this one
abbrev pub part_path : (path : List ℕ) → List ℕ
part_path path = path ++ codes ".part"

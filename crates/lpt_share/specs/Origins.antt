-- Which world a lock was opened with.
use Rattle.std.specs.Prelude.{◌≡◌, List, [], ◌∷◌, Option, Some, None, ⊤}
use Rattle.lpt_events.specs.declared.entry.Entry.{Entry}
use Rattle.lpt_world.specs.Worlds.{Shown}

-- a journal begins with another
abbrev pub Begins : List Entry → List Entry → Type 0
Begins [] xs = ⊤
Begins (g ∷ gs) [] = ⊥
Begins (g ∷ gs) (x ∷ xs) = (x ≡ g) × Begins gs xs

-- the world goes on from the given one: over its configuration and first memories, and its journal
-- begins with that one's
abbrev pub Continues : Shown → Shown → Type 0
Continues given w =
    (w.config ≡ given.config) × (w.first ≡ given.first) × Begins given.journal w.journal

-- the same if a world was given
abbrev pub GoesOn : Option Shown → Shown → Type 0
GoesOn None w = ⊤
GoesOn (Some given) w = Continues given w

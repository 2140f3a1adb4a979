-- What becomes of a reception when a part comes.
use Rattle.std.specs.Prelude.{◌≡◌, ℕ, true, Some}
use Rattle.std.specs.FinMap as map
use Rattle.lpt_reception.specs.PartsOf.{IsMessageOf}
use Rattle.lpt_reception.specs.Received.{Kept as KeptPart, Received, with_part, contradicts}
use Rattle.lpt_examples.specs.declared.reception.Heard.{Heard}
use Rattle.lpt_examples.specs.declared.reception.Heard.TheVariants.{Kept, Again, Whole, Conflict, NoMemory}

-- part n is kept, and others are missing; or it was kept before, and the reception is as it was; or
-- the message is the one of which these are all parts; or the part contradicts what was kept; or
-- memory is out, and it is as it was
abbrev pub Hears : Received → ℕ → KeptPart → Heard → Type 0
Hears s n x (Kept f) = f ≡ record s { parts = with_part s.parts n x }
Hears s n x (Again f) = (map.get s.parts n ≡ Some x) × (f ≡ s)
Hears s n x (Whole m) = IsMessageOf (with_part s.parts n x) s.p m
Hears s n x (Conflict reason) = contradicts s.parts n x ≡ true
Hears s n x (NoMemory f) = f ≡ s

-- What an offer of a part answers.
use Rattle.std.specs.Prelude.{◌≡◌, ℕ, true, false, Option, Some, None}
use Rattle.lpt_packet.specs.Names.{Name}
use Rattle.lpt_reception.specs.declared.step.Step.TheVariants as step
use Rattle.lpt_reception.specs.Steps.{IsNew, Answers}
use Rattle.lpt_reception.specs.Received.{Kept as KeptPart, with_part, is_gap}
use Rattle.lpt_table.specs.declared.offer.Offer.{Offer}
use Rattle.lpt_table.specs.declared.offer.Offer.TheVariants.{Kept, Again, Whole, Conflict, Gap, NoRoom, Memory}
use Rattle.lpt_table.specs.Offering as kind
use Rattle.lpt_table.specs.Tables.{TableState}
use Rattle.lpt_table.specs.Offering.{OfferKind, is_full, is_open, parts_at, received_at, with_entry, TakesOut}

-- what an offer of part n of a transaction answers, and what it makes of the table: no room if
-- the table is full, a gap if none is open and the part isn't the next one in the table's mode,
-- else as the reception answers; a part that is kept, or was kept, sets the last tick, and a reception
-- that is whole or broken off is taken out
abbrev pub Offers : TableState → Name → ℕ → KeptPart → ℕ → Offer → TableState → Type 0
Offers old name n x now NoRoom new = (is_full old name ≡ true) × (new ≡ old)
Offers old name n x now Kept new =
    (is_full old name ≡ false)
    × Answers old.mode (received_at old name) n x
    (step.Filling (record (received_at old name) { parts = with_part (parts_at old name) n x }))
    × (new ≡ with_entry old name (with_part (parts_at old name) n x) now)
Offers old name n x now Again new =
    (is_full old name ≡ false)
    × Answers old.mode (received_at old name) n x (step.Again (received_at old name))
    × (new ≡ with_entry old name (parts_at old name) now)
Offers old name n x now (Whole w) new =
    (is_full old name ≡ false)
    × Answers old.mode (received_at old name) n x (step.Whole w)
    × TakesOut old new name
Offers old name n x now (Conflict b) new =
    (is_full old name ≡ false)
    × Answers old.mode (received_at old name) n x (step.Conflict b)
    × TakesOut old new name
Offers old name n x now Gap new =
    (is_full old name ≡ false)
    × (is_open old name ≡ false)
    × IsNew (parts_at old name) n x
    × (is_gap old.mode (parts_at old name) n ≡ true)
    × (new ≡ old)
Offers old name n x now Memory new =
    (is_full old name ≡ false)
    × Answers old.mode (received_at old name) n x (step.NoMemory (received_at old name))
    × (new ≡ old)

-- what comes out is of this name's identifier and part size
abbrev pub IsOfName : Name → ℕ → Offer → Type 0
IsOfName name p Kept = Unit {0}
IsOfName name p Again = Unit {0}
IsOfName name p (Whole w) = (w.before.id ≡ name.id) × (w.before.p ≡ p)
IsOfName name p (Conflict b) = (b.before.id ≡ name.id) × (b.before.p ≡ p)
IsOfName name p Gap = Unit {0}
IsOfName name p NoRoom = Unit {0}
IsOfName name p Memory = Unit {0}

-- what the offer came to, unless there was no memory
abbrev pub kind_of : Offer → Option OfferKind
kind_of Kept = Some kind.Kept
kind_of Again = Some kind.Again
kind_of (Whole w) = Some kind.Whole
kind_of (Conflict b) = Some (kind.Conflict b.reason)
kind_of Gap = Some kind.Gap
kind_of NoRoom = Some kind.NoRoom
kind_of Memory = None

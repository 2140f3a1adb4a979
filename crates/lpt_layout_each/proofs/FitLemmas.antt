-- A message that may be given out though it isn't sure, may be where it is.
use Rattle.std.proofs.Common.{◌≡◌, ◌∙◌, ap, refl, ℕ, Bool, true, false, ◌||◌, if◌then◌else◌, List}
use Rattle.std.specs.Prelude.{Option, Some, None}
use Rattle.std.specs.Option.{option_or}
use Rattle.lpt_layout_join.specs.declared.ending.MisfitAs.{MisfitAs}
use Rattle.lpt_layout_join.specs.declared.ending.MisfitAs.TheVariants.{Unsure}
use Rattle.lpt_carried.specs.declared.reading.Reading.{Reading}
use Rattle.lpt_layout_join.specs.Writes.{misfit, unfit, unsure}

or-none : (a b : Option MisfitAs) → option_or a b ≡ None → a ≡ None
or-none None b h = refl
or-none (Some e) b h = absurd cc

sure-none : (checked : Bool)
    → ◌≡◌ {A = Option MisfitAs} (if checked || true then None else Some Unsure) None
sure-none true = refl
sure-none false = refl

by_any : (any : Bool) (a b c : Option MisfitAs)
    → (if any then None else option_or a b) ≡ None
    → c ≡ None
    → (if any then None else option_or a c) ≡ None
by_any true a b c h e = refl
by_any false a b c h e = ap (λ (x : Option MisfitAs). option_or x c) (or-none a b h) ∙ e

pub fit-sure : (r : Reading) (any sure : Bool) (m : List ℕ)
    → unfit r any sure m ≡ None
    → unfit r any true m ≡ None
fit-sure r any sure m h =
    by_any any (misfit r m) (unsure r sure) (unsure r true) h (sure-none r.layout.has_checksum)

pub fit-any : (r : Reading) (any sure : Bool) (m : List ℕ)
    → unfit r any false m ≡ None
    → unfit r any sure m ≡ None
fit-any r any true m h = fit-sure r any false m h
fit-any r any false m h = h

-- Many ticks at once are as many calls of `lpt_end_tick`.
use Rattle.std.specs.Prelude.{◌≡◌, ℕ, zero, suc, None}
use Rattle.lpt_c_end.specs.Changes.{IsSame, IsTickedBy}
use Rattle.lpt_c_end.specs.Refusals.{ticks_refusal}
use Rattle.lpt_c_end.specs.declared.end.End.{End}
use Rattle.lpt_c_pair.specs.Pairs.{IsDone, Tick}

-- so many calls of `lpt_end_tick` that answered 0, one after the other, made this of an end
abbrev pub AreTicks : (ticks : ℕ) → End → End → Type 0
AreTicks zero e new = IsSame e new
AreTicks (suc zero) e new = IsDone Tick e new
AreTicks (suc (suc n)) e new = (mid : End) × (IsDone Tick e mid × AreTicks (suc n) mid new)

-- what `lpt_end_tick_many` makes of an end, so many calls make
abbrev pub ManyTicksAreTicks : Type 0
ManyTicksAreTicks =
    (ticks : ℕ) (e new : End)
    → ticks_refusal ticks e ≡ None
    → IsTickedBy ticks e new
    → AreTicks ticks e new

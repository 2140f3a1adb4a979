-- Many ticks, one after another.
use Rattle.std.proofs.Common.{◌≡◌, ℕ, zero, suc, ◌+◌, ◌<◌, inl, inr, Option, None, Some, refl, sym, ap, ◌∙◌, subst, is_some, cond, arith}
use Rattle.lpt_events.specs.declared.side.Side.{Side}
use Rattle.lpt_script.specs.Ends.{IsTickRefused}
use Rattle.lpt_script.specs.Scripts.{event_answered, event_stepped, clock_ticked}
use Rattle.lpt_events.specs.declared.event.Event.TheVariants.{Tick}
use Rattle.lpt_events.specs.declared.fault.StepFault.{StepFault}
use Rattle.lpt_world.specs.Worlds.{Shown, refusal_at, with_entry, RefusedBy}

-- a tick that isn't the last and isn't refused prints nothing
pub ticked_more : (k j : ℕ) (side : Side) (w : Shown)
    → k ≡ j + 1
    → 0 < j
    → refusal_at w 0 (Tick side) ≡ None
    → clock_ticked k side w ≡ clock_ticked j side
    (with_entry w 0 (Tick side) (event_answered w (Tick side)))
ticked_more k zero side w next some none = absurd (omega arith)
ticked_more k (suc j) side w next some none =
    let after = with_entry w 0 (Tick side) (event_answered w (Tick side)) in
    let two : k ≡ suc (suc j) = omega arith in
    subst (λ x. clock_ticked x side w ≡ clock_ticked (suc j) side after) (sym two)
    (ap (λ x. cond (is_some x) (event_stepped w (Tick side)) (clock_ticked (suc j) side after))
    none)

-- a tick that is refused is the last
pub ticked_refused : (k : ℕ) (side : Side) (w : Shown) (fault : StepFault)
    → 0 < k
    → refusal_at w 0 (Tick side) ≡ Some fault
    → clock_ticked k side w ≡ event_stepped w (Tick side)
ticked_refused zero side w fault some is = absurd (omega arith)
ticked_refused (suc zero) side w fault some is = refl
ticked_refused (suc (suc k)) side w fault some is =
    ap (λ x. cond (is_some x) (event_stepped w (Tick side))
    (clock_ticked (suc k) side (with_entry w 0 (Tick side) (event_answered w (Tick side))))) is

-- a tick before the last was refused
pub tick_ends : (count left : ℕ) (side : Side) (old w v : Shown) (fault : StepFault)
    → 0 < left
    → clock_ticked count side old ≡ clock_ticked left side w
    → v ≡ w
    → RefusedBy (refusal_at w 0 (Tick side)) fault
    → IsTickRefused count side old v fault
tick_ends count left side old w v fault some same unchanged by =
    subst (λ x. IsTickRefused count side old x fault) (sym unchanged) (by_reason (refusal_at w 0 (Tick side)) refl by)
  where
    by_reason : (x : Option StepFault) → refusal_at w 0 (Tick side) ≡ x → RefusedBy x fault
        → IsTickRefused count side old w fault
    by_reason None is p = inl p
    by_reason (Some first) is p =
        let told = is ∙ ap Some (sym p) in
        inr (told, same ∙ ticked_refused left side w fault some told)

-- Runs of events, one event longer.
use Rattle.std.proofs.Common.{zero, ◌≤◌, ◌≡◌, ◌∙◌, ◌<◌, ◌+◌, ap, sym, subst, ℕ, suc, List, [], ◌∷◌, take, length, slice_index_or, slice_get, arith, Some, None}
use Rattle.lpt_events.specs.declared.event.Event.{Event}
use Rattle.lpt_journal.specs.Events.{reply}
use Rattle.lpt_world.specs.Worlds.{Shown, AllAccepted, events_entered, history, refusal_at, with_entry}

module _ (seat : ℕ) (e : Event) where
  accepted_with : (w : Shown) (es : List Event) (n : ℕ) → n < length es → e ≡ slice_index_or es n e
      → AllAccepted w seat (take n es) → refusal_at (events_entered w seat (take n es)) seat e
      ≡ None
      → AllAccepted w seat (take (suc n) es)
  accepted_with w [] n k is all free = absurd (omega arith)
  accepted_with w (x ∷ xs) zero k is all free = (ap (λ y. refusal_at w seat y) (sym is) ∙ free, tt)
  accepted_with w (x ∷ xs) (suc n) k is all free =
      (all.0, accepted_with (with_entry w seat x (reply w.config w.first (history w) x)) xs n (omega arith) is all.1 free)

  entered_with : (w : Shown) (es : List Event) (n : ℕ) → n < length es → e ≡ slice_index_or es n e
      → with_entry (events_entered w seat (take n es)) seat e
      (reply (events_entered w seat (take n es)).config (events_entered w seat (take n es)).first
      (history (events_entered w seat (take n es))) e)
      ≡ events_entered w seat (take (suc n) es)
  entered_with w [] n k is = absurd (omega arith)
  entered_with w (x ∷ xs) zero k is = ap (λ y. with_entry w seat y (reply w.config w.first (history w) y)) is
  entered_with w (x ∷ xs) (suc n) k is = entered_with (with_entry w seat x (reply w.config w.first (history w) x)) xs n (omega arith) is

  -- where the event stands in the list
  pub got : (es : List Event) (n : ℕ) → n < length es → e ≡ slice_index_or es n e → slice_get es n ≡ Some e
  got [] n k is = absurd (omega arith)
  got (x ∷ xs) zero k is = ap (λ y. Some y) (sym is)
  got (x ∷ xs) (suc n) k is = got xs n (omega arith) is

-- a run of so many events
pub record IsRun (w v : Shown) (es : List Event) (n : ℕ) : Type 0 where
  pub accepted : AllAccepted w 0 (take n es)
  pub entered : v ≡ events_entered w 0 (take n es)

-- the run with one event more
pub run_on : (w v v' : Shown) (es : List Event) (n : ℕ) (e : Event) → n < length es → e ≡ slice_index_or es n e → IsRun w v es n
    → refusal_at v 0 e ≡ None → v' ≡ with_entry v 0 e (reply v.config v.first (history v) e)
    → IsRun w v' es (n + 1)
run_on w v v' es n e k is run free next = let one : suc n ≡ n + 1 = omega arith in subst (IsRun w v' es) one (record {
  accepted = accepted_with 0 e w es n k is run.accepted (subst (λ (u : Shown). refusal_at u 0 e ≡ None) run.entered free);
  entered = next ∙ ap (λ (u : Shown). with_entry u 0 e (reply u.config u.first (history u) e)) run.entered ∙ entered_with 0 e w es n k is;
})

-- a run of all of them
pub run_all : (w v : Shown) (es : List Event) (n : ℕ) → n ≤ length es → length es ≤ n → IsRun w v es n → IsRun w v es (length es)
run_all w v es n within all run = let e : n ≡ length es = omega arith in subst (IsRun w v es) e run

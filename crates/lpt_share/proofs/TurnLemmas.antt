-- The calls that a turn adds, one call longer.
use Rattle.std.proofs.Common.{◌≡◌, ◌⊎◌, ◌∙◌, refl, sym, ap, subst, inl, inr, ℕ, ◌+◌, ◌≤◌, List, [], ◌∷◌, ◌++◌, length, Option, Some, None, Result, Ok, Err, IfOk, IfErr, arith}
use Rattle.std.proofs.lemmas.List.{append-nil, append_assoc, length-append}
use Rattle.lpt_events.specs.declared.event.Event.{Event}
use Rattle.lpt_share.specs.declared.fault.ShareFault.{ShareFault}
use Rattle.lpt_share.specs.declared.fault.ShareFault.TheVariants as shares
use Rattle.lpt_events.specs.declared.log.Call.{Call}
use Rattle.lpt_events.specs.declared.log.SeatLog.{SeatLog}
use Rattle.lpt_events.specs.declared.fault.StepFault.{StepFault}
use Rattle.lpt_events.specs.declared.fault.StepFault.TheVariants as steps
use Rattle.lpt_world.specs.Worlds.{Shown}
use Rattle.lpt_share.specs.Calls.{IsCallFault, IsLeft, IsSeen, MayAnswer, MayHaveLength}
use Rattle.lpt_share.specs.Turns.{Adds, AreDone, Begin, Follow, IsAsked, IsTurnFault, ended_by, failed_by}
use Rattle.lpt_share.specs.declared.call.CallFault.{CallFault}
use Rattle.lpt_share.specs.declared.call.CallFault.TheVariants as calls

Follow-push : (e : Event) (xs : List Call) (call : Call) → Follow [] e xs → call.event ≡ e
    → Follow [] e (xs ++ call ∷ [])
Follow-push e [] call f is = (is, tt)
Follow-push e (x ∷ xs) call f is = (f.0, Follow-push e xs call f.1 is)

-- ---- what is seen

-- more was seen after what was seen
seen_more : (given : Option Shown) (a b c : ℕ) → IsSeen given a b → IsSeen given b c
    → IsSeen given a c
seen_more given a b c (inl x) (inl y) = inl (y ∙ x)
seen_more given a b c (inl x) (inr y) = let least = y.0 in inr (omega (arith, x, least), y.1)
seen_more given a b c (inr x) (inl y) =
    let least = x.0 in
    inr (omega (arith, y, least), subst (λ n. MayHaveLength given n) (sym y) x.1)
seen_more given a b c (inr x) (inr y) =
    let here = x.0 in let there = y.0 in inr (omega (arith, here, there), y.1)

-- no less is seen
seen_least : (given : Option Shown) (a b : ℕ) → IsSeen given a b → a ≤ b
seen_least given a b (inl x) = omega (arith, x)
seen_least given a b (inr x) = x.0

-- ---- one call more

-- one call more was done behind others
AreDone-push : (given : Option Shown) (seat seen mid after : ℕ) (xs : List Call) (call : Call)
    → AreDone given seat seen xs mid
    → mid ≤ call.place
    → MayAnswer given call.place seat call.event call.reply
    → after ≡ call.place + 1
    → AreDone given seat seen (xs ++ call ∷ []) after
AreDone-push given seat seen mid after [] call d least may is =
    let so_far = seen_least given seen mid d in (omega (arith, so_far, least), may, inl is)
AreDone-push given seat seen mid after (x ∷ xs) call d least may is =
    (d.0, d.1, AreDone-push given seat (x.place + 1) mid after xs call d.2 least may is)

-- more was seen after the same calls
AreDone-more : (given : Option Shown) (seat seen mid after : ℕ) (xs : List Call)
    → AreDone given seat seen xs mid
    → IsSeen given mid after
    → AreDone given seat seen xs after
AreDone-more given seat seen mid after [] d more = seen_more given seen mid after d more
AreDone-more given seat seen mid after (x ∷ xs) d more =
    (d.0, d.1, AreDone-more given seat (x.place + 1) mid after xs d.2 more)

-- the last call was not accepted
pub left_more : (given : Option Shown) (e : Event) (old mid new : SeatLog)
    → Adds given (Follow [] e) old mid
    → IsLeft given mid new
    → Adds given (Follow [] e) old new
left_more given e old mid new a same = (
  a.0,
  same.0.0 ∙ a.1,
  same.0.1
      ∙ a.2,
  a.3,
  AreDone-more given old.seat old.seen mid.seen new.seen a.0 a.4 same.1,
)

-- no call
pub none : (given : Option Shown) (e : Event) (log : SeatLog) → Adds given (Follow [] e) log log
none given e log = ([], refl, sym (append-nil log.calls.items), tt, inl refl)

-- one call more, and its count
pub one_more : {A : Type 0} (given : Option Shown) (e again : Event) (old mid new : SeatLog) (n : ℕ)
    (answer : A) (r : Result (Option A) ShareFault)
    → again ≡ e
    → r ≡ Ok (Some answer)
    → IsAsked given again mid new r
    → Adds given (Follow [] e) old mid × (length mid.calls.items ≡ length old.calls.items + n)
    → Adds given (Follow [] e) old new × (length new.calls.items ≡ length old.calls.items + (n + 1))
one_more given e again old mid new n answer r same is asked so_far =
    let one : IsAsked given again mid new (Ok (Some answer)) =
    subst (λ x. IsAsked given again mid new x) is asked in
    let a = so_far.0 in (
      (
        a.0 ++ one.0 ∷ [],
        one.1 ∙ a.1,
        one.3 ∙ ap (λ xs. xs ++ one.0 ∷ []) a.2 ∙ append_assoc old.calls.items a.0 (one.0 ∷ []),
        Follow-push e a.0 one.0 a.3 (one.2 ∙ same),
        AreDone-push given old.seat old.seen mid.seen new.seen a.0 one.0 a.4 one.4
            (subst (λ s. MayAnswer given one.0.place s one.0.event one.0.reply) a.1 one.5) one.6,
      ),
      (let l : length new.calls.items
          ≡ length mid.calls.items + 1 = ap (λ (xs : List Call). length xs) one.3
          ∙ length-append mid.calls.items (one.0 ∷ []) in
          let k = so_far.1 in
          omega arith),
    )

-- ---- one call

-- a call that did nothing leaves the same calls
left : (given : Option Shown) (e : Event) (old new : SeatLog) (f : CallFault)
    → IsCallFault given old new e f → IsLeft given old new
left given e old new (calls.Refused r) f =
    let seen = f.3 in
    let least = f.2 in (
      f.0,
      inr (
        omega (arith, seen, least),
        (f.4.0, f.4.1, f.4.2 ∙ sym seen),
      ),
    )
left given e old new (calls.Torn length event) f = (f.0, inl f.1)
left given e old new (calls.Memory event) f = (f.0, inl f.1)

-- a refusal that ends a turn by a fault does so for want of memory
ended_memory : (A : Type 0) (fault : StepFault)
    → IfErr (ended_by {A = A} fault) (λ f. f ≡ shares.Memory)
ended_memory A steps.Memory = refl
ended_memory A _ = tt

-- so does any fault but a torn journal
as_memory : (given : Option Shown) (seen : ℕ) (f : ShareFault) → f ≡ shares.Memory
    → IsTurnFault given seen f
as_memory given seen f is = subst (λ x. IsTurnFault given seen x) (sym is) tt

-- why a turn ends at a call that did nothing
turn_fault : (A : Type 0) (given : Option Shown) (e : Event) (old new : SeatLog) (f : CallFault)
    (other : ShareFault)
    → Err other ≡ failed_by {A = A} f
    → IsCallFault given old new e f
    → IsTurnFault given new.seen other
turn_fault A given e old new (calls.Refused r) other is fault =
    as_memory given new.seen other
    (subst (λ x. IfErr x (λ k. k ≡ shares.Memory)) (sym is) (ended_memory A r.fault))
turn_fault A given e old new (calls.Torn length event) other is fault =
    let torn : other ≡ shares.Torn = cc in
    let below = fault.3 in
    let same = fault.1 in
    subst (λ x. IsTurnFault given new.seen x) (sym torn)
    (length, omega (arith, below, same), fault.4)
turn_fault A given e old new (calls.Memory event) other is fault =
    as_memory given new.seen other cc

-- a call that was refused has no answer, and leaves the same calls
pub refused : {A : Type 0} (given : Option Shown) (e : Event) (old new : SeatLog) (f : CallFault)
    (r : Result (Option A) ShareFault)
    → IfOk r (λ answer. answer ≡ None)
    → r ≡ failed_by f
    → IsCallFault given old new e f
    → IsAsked given e old new r
refused {A} given e old new f (Ok (Some answer)) is exact fault = absurd (cc)
refused {A} given e old new f (Ok None) is exact fault = left given e old new f fault
refused {A} given e old new f (Err other) is exact fault =
    (left given e old new f fault, turn_fault A given e old new f other exact fault)

-- ---- the calls of a turn, one after the other

-- no call was accepted
pub stays : (given : Option Shown) (es : List Event) (again : Event) (old new : SeatLog)
    → IsLeft given old new
    → Adds given (Follow es again) old new
stays given es again old new same = (
  [],
  same.0.0,
  same.0.1
      ∙ sym (append-nil old.calls.items),
  tt,
  same.1,
)

-- one call of an event was accepted
abbrev pub IsOne : Option Shown → Event → SeatLog → SeatLog → Type 0
IsOne given e old new =
    (call : Call)
    × (new.seat ≡ old.seat)
    × (call.event ≡ e)
    × (new.calls.items ≡ old.calls.items ++ call ∷ [])
    × (old.seen ≤ call.place)
    × MayAnswer given call.place old.seat call.event call.reply
    × (new.seen ≡ call.place + 1)

-- the calls behind the first were done
later : (given : Option Shown) (old mid new : SeatLog) (call : Call) (xs : List Call)
    → mid.seat ≡ old.seat
    → mid.seen ≡ call.place + 1
    → AreDone given mid.seat mid.seen xs new.seen
    → AreDone given old.seat (call.place + 1) xs new.seen
later given old mid new call xs seat seen done =
    subst (λ s. AreDone given s (call.place + 1) xs new.seen) seat
    (subst (λ n. AreDone given mid.seat n xs new.seen) seen done)

-- the first call was accepted, and then those of the rest
pub goes_on : (given : Option Shown) (e : Event) (es : List Event) (again : Event)
    (old mid new : SeatLog)
    → IsOne given e old mid
    → Adds given (Follow es again) mid new
    → Adds given (Follow (e ∷ es) again) old new
goes_on given e es again old mid new one more = (
  one.0 ∷ more.0,
  more.1 ∙ one.1,
  more.2 ∙ ap (λ xs. xs ++ more.0) one.3 ∙ append_assoc old.calls.items (one.0 ∷ []) more.0,
  (one.2, more.3),
  (one.4, one.5, later given old mid new one.0 more.0 one.1 one.6 more.4),
)

-- ---- the same, with no event again and again

-- no call was accepted
pub begins_none : (given : Option Shown) (es : List Event) (old new : SeatLog)
    → IsLeft given old new → Adds given (Begin es) old new
begins_none given es old new same = (
  [],
  same.0.0,
  same.0.1
      ∙ sym (append-nil old.calls.items),
  tt,
  same.1,
)

-- the log stays as it is
pub itself : (given : Option Shown) (log : SeatLog) → IsLeft given log log
itself given log = ((refl, refl), inl refl)

-- the first call was accepted, and then those of the rest
pub begins : (given : Option Shown) (e : Event) (es : List Event) (old mid new : SeatLog)
    → IsOne given e old mid
    → Adds given (Begin es) mid new
    → Adds given (Begin (e ∷ es)) old new
begins given e es old mid new one more = (
  one.0 ∷ more.0,
  more.1 ∙ one.1,
  more.2 ∙ ap (λ xs. xs ++ more.0) one.3 ∙ append_assoc old.calls.items (one.0 ∷ []) more.0,
  (one.2, more.3),
  (one.4, one.5, later given old mid new one.0 more.0 one.1 one.6 more.4),
)

-- What a function that is lent the locked world does to it.
use Rattle.std.proofs.Common.{◌≡◌, ◌⊎◌, ◌∙◌, refl, sym, ap, subst, inl, inr, ℕ, ◌+◌, ◌≤◌, List, [], ◌∷◌, ◌++◌, length, Option, Some, None, Result, Ok, Err, IfOk, IfErr, arith}
use Rattle.lpt_events.specs.declared.event.Event.{Event}
use Rattle.lpt_events.specs.declared.log.Call.{Call}
use Rattle.lpt_events.specs.declared.log.SeatLog.{SeatLog}
use Rattle.lpt_world.specs.Worlds.{Shown, refusal_at}
use Rattle.lpt_share.specs.Calls.{IsSeen}
use Rattle.lpt_share.specs.Doing.{ComesOf, DoesOne, Sees}
use Rattle.lpt_share.specs.Entering.{IsLegal}
use Rattle.lpt_share.specs.Origins.{GoesOn}
use Rattle.lpt_share.specs.Turns.{IsAsked, IsTurnFault}
use Rattle.lpt_share.specs.declared.fault.ShareFault.{ShareFault}
use Rattle.lpt_share.specs.declared.fault.ShareFault.TheVariants.{Torn, Memory, NoThread}

-- want of memory comes of any world
of_memory : (world : Shown) (seen : ℕ) (f : ShareFault) → f ≡ Memory → ComesOf world seen f
of_memory world seen f is = subst (λ x. ComesOf world seen x) (sym is) tt

-- an event that was refused has no answer: the world stays, and its length is seen
pub refused : {A : Type 0} (e : Event) (world after : Shown) (old new : SeatLog)
    (r : Result (Option A) ShareFault)
    → IfOk r (λ answer. answer ≡ None)
    → IfErr r (λ f. f ≡ Memory)
    → after ≡ world
    → new.seat ≡ old.seat
    → new.calls.items ≡ old.calls.items
    → old.seen ≤ length world.journal
    → new.seen ≡ length world.journal
    → DoesOne e world after old new r
refused e world after old new (Ok (Some answer)) is why same seat calls least seen = absurd (cc)
refused e world after old new (Ok None) is why same seat calls least seen =
    (same, (seat, calls), (least, seen))
refused e world after old new (Err fault) is why same seat calls least seen =
    (same, (seat, calls), inr (least, seen), of_memory world new.seen fault why)

-- what was seen of a legal world
saw : (given : Option Shown) (world : Shown) (old mid new : SeatLog)
    → GoesOn given world
    → IsLegal world
    → mid.seen ≡ old.seen
    → Sees world mid new
    → IsSeen given old.seen new.seen
saw given world old mid new on legal seen sees =
    let least = sees.0 in
    let now = sees.1 in
    inr (omega (arith, seen, least, now), (world, (on, legal), sym now))

-- the same, where it was seen
saw_if : (given : Option Shown) (world : Shown) (old mid new : SeatLog)
    → GoesOn given world
    → IsLegal world
    → mid.seen ≡ old.seen
    → (new.seen ≡ mid.seen) ⊎ Sees world mid new
    → IsSeen given old.seen new.seen
saw_if given world old mid new on legal seen (inl same) = inl (same ∙ seen)
saw_if given world old mid new on legal seen (inr sees) =
    saw given world old mid new on legal seen sees

-- a fault that comes of a legal world ends a turn
comes : (given : Option Shown) (world : Shown) (seen : ℕ) (fault : ShareFault)
    → GoesOn given world
    → IsLegal world
    → ComesOf world seen fault
    → IsTurnFault given seen fault
comes given world seen Torn on legal below =
    (length world.journal, below, (world, (on, legal), refl))
comes given world seen Memory on legal below = tt
comes given world seen NoThread on legal below = below

-- what was done in a legal world, for a log that had been given its place, was asked of the log
pub asked : {A : Type 0} (given : Option Shown) (e : Event) (world after : Shown)
    (old mid new : SeatLog) (r : Result (Option A) ShareFault)
    → GoesOn given world
    → IsLegal world
    → mid.seat ≡ old.seat
    → mid.seen ≡ old.seen
    → mid.calls.items ≡ old.calls.items
    → DoesOne e world after mid new r
    → IsAsked given e old new r
asked given e world after old mid new (Ok (Some answer)) on legal seat seen calls one =
    let call : Call = record { place = length world.journal; event = e; reply = one.0 } in
    let noted = one.2 in
    let least : mid.seen ≤ length world.journal = noted.0 in
    let from : old.seen ≤ length world.journal = omega (arith, seen, least) in (
      call,
      noted.1 ∙ seat,
      refl,
      noted.3 ∙ ap (λ xs. xs ++ call ∷ []) calls,
      from,
      (world, (on, legal), refl, subst (λ s. refusal_at world s e ≡ None) seat one.1.0, one.1.1),
      noted.2,
    )
asked given e world after old mid new (Ok None) on legal seat seen calls one =
    ((one.1.0 ∙ seat, one.1.1 ∙ calls), saw given world old mid new on legal seen one.2)
asked given e world after old mid new (Err fault) on legal seat seen calls one = (
  ((one.1.0 ∙ seat, one.1.1 ∙ calls), saw_if given world old mid new on legal seen one.2),
  comes given world new.seen fault on legal one.3,
)

-- a log that had no place was asked nothing
pub unasked : (A : Type 0) (given : Option Shown) (e : Event) (old new : SeatLog)
    (fault : ShareFault)
    → fault ≡ Memory
    → new.seat ≡ old.seat
    → new.seen ≡ old.seen
    → new.calls.items ≡ old.calls.items
    → IsAsked {A = A} given e old new (Err fault)
unasked A given e old new fault is seat seen calls =
    (((seat, calls), inl seen), subst (λ x. IsTurnFault given new.seen x) (sym is) tt)

-- A world that enters an event still goes on from the one that its lock was opened with.
use Rattle.std.proofs.Common.{refl, List, [], ◌∷◌, ◌++◌, ℕ, Option, Some, None}
use Rattle.lpt_events.specs.declared.entry.Entry.{Entry}
use Rattle.lpt_events.specs.declared.event.Event.{Event}
use Rattle.lpt_events.specs.declared.reply.Reply.{Reply}
use Rattle.lpt_world.specs.Worlds.{Shown, with_entry}
use Rattle.lpt_share.specs.Origins.{Begins, Continues, GoesOn}

pub Begins-append : (gs xs ys : List Entry) → Begins gs xs → Begins gs (xs ++ ys)
Begins-append [] xs ys b = tt
Begins-append (g ∷ gs) [] ys b = absurd b
Begins-append (g ∷ gs) (x ∷ xs) ys b = (b.0, Begins-append gs xs ys b.1)

pub Begins-self : (xs : List Entry) → Begins xs xs
Begins-self [] = tt
Begins-self (x ∷ xs) = (refl, Begins-self xs)

-- a world goes on from itself
pub continues_itself : (w : Shown) → Continues w w
continues_itself w = (refl, refl, Begins-self w.journal)

pub goes_on_entered : (given : Option Shown) (w : Shown) (seat : ℕ) (e : Event) (r : Reply)
    → GoesOn given w → GoesOn given (with_entry w seat e r)
goes_on_entered None w seat e r g = tt
goes_on_entered (Some given) w seat e r g = (g.0, g.1, Begins-append given.journal w.journal (record { seat = seat; event = e; reply = r } ∷ []) g.2)

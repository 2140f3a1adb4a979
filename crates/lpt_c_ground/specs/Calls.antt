-- What calls on a handle leave.
use Rattle.std.specs.Prelude.{◌≡◌, ℕ, List, [], ◌∷◌, slice_get, Option, Some, None, Ok, Err}
use Rattle.lpt_ground.specs.declared.pass.End.{End}
use Rattle.lpt_ground.specs.declared.pass.End.TheVariants as ends
use Rattle.lpt_ground.specs.declared.pass.Step.{Step}
use Rattle.lpt_ground.specs.declared.pass.Step.TheVariants.{Put, Listen, Stop}
use Rattle.lpt_ground.specs.Carrying.{AllTold, Answer, state_answered, come_to, octets_of, packets_of}
use Rattle.lpt_ground.specs.Passes.{next_step, state_of}
use Rattle.lpt_c_ground.specs.Codes.{empty, nothing}
use Rattle.lpt_c_ground.specs.Copies.{Text}
use Rattle.lpt_c_ground.specs.Jobs.{terms_of}
use Rattle.lpt_c_ground.specs.Plans.{IsNew}
use Rattle.lpt_c_ground.specs.declared.grounds.Ground.{Ground}
use Rattle.lpt_c_ground.specs.declared.jobs.LptJob.{LptJob}
use Rattle.lpt_c_ground.specs.declared.jobs.LptPlace.{LptPlace}

-- a handle holds such a pass
abbrev pub IfHeld : (Ground → Type 0) → Option Ground → Type 0
IfHeld F None = ⊥
IfHeld F (Some g) = F g

-- a handle holds a pass before and after, of which this is so; or none before and after
abbrev pub IfBoth : (Ground → Ground → Type 0) → Option Ground → Option Ground → Type 0
IfBoth F None None = Unit {0}
IfBoth F None (Some new) = ⊥
IfBoth F (Some g) None = ⊥
IfBoth F (Some g) (Some new) = F g new

-- ---- what a pass does next

-- its end as a number
abbrev pub end_word : End → ℕ
end_word ends.Done = 3
end_word ends.Failed = 4
end_word ends.Given = 5
end_word ends.Ended = 6

-- what it does next as a number
abbrev pub step_word : Step → ℕ
step_word (Put k) = 1
step_word Listen = 2
step_word (Stop e) = end_word e

-- what a pass does next
abbrev pub step_of : Ground → Step
step_of g = next_step (state_of g.pass)

-- the same as a number behind a handle, and what stood there before if there is no pass
abbrev pub step_told : Option Ground → (before : ℕ) → ℕ
step_told None before = before
step_told (Some g) before = step_word (step_of g)

-- the packet that a pass puts by a step
abbrev pub put_by : Step → Ground → Text
put_by (Put k) g = Ok (octets_of (slice_get g.pass.asked.items k))
put_by Listen g = Err nothing
put_by (Stop e) g = Err nothing

-- the packet that is to be sent next
abbrev pub outgoing_of : Option Ground → Text
outgoing_of None = Err empty
outgoing_of (Some g) = put_by (step_of g) g

-- why there is none
abbrev pub unsent_by : Step → Option ℕ
unsent_by (Put k) = None
unsent_by Listen = Some nothing
unsent_by (Stop e) = Some nothing

-- the same of a pass
abbrev pub sent_refusal : Ground → Option ℕ
sent_refusal g = unsent_by (step_of g)

-- ---- what becomes of a pass

-- it is where a pass comes that is answered so: that nothing has come, if it sends; a packet
-- that came; that none did for the wait; or that none will come any more
pub record Goes (a : Answer) (g new : Ground) : Type 0 where
  pub state : state_of new.pass ≡ state_answered g.pass.terms (state_of g.pass) a
  pub terms : new.pass.terms ≡ g.pass.terms

-- the same of answers, one after the other
abbrev pub GoesBy : List Answer → Ground → Ground → Type 0
GoesBy [] g new = g ≡ new
GoesBy (a ∷ answers) g new = (next : Ground) × Goes a g next × GoesBy answers next new

-- ---- the laws

-- calls carry a pass
abbrev pub CallsCarryAPass : Type 0
CallsCarryAPass =
    (answers : List Answer) (g new : Ground)
    → GoesBy answers g new
    → (state_of new.pass ≡ come_to g.pass.terms (state_of g.pass) answers)
    × (new.pass.terms ≡ g.pass.terms)

-- whatever a job's pass heard by calls, once it says that it is completed, of each of its requests
-- a packet was handed over that says so
abbrev pub CompletedWasTold : Type 0
CompletedWasTold =
    (j : LptJob) (places : List LptPlace) (content : List ℕ) (answers : List Answer)
    (g new : Ground)
    → IsNew j places content g
    → GoesBy answers g new
    → step_word (step_of new) ≡ 3
    → AllTold (terms_of j) g.pass.asked.items (packets_of answers)

-- What calls on a handle leave and report.
use Rattle.std.specs.Prelude.{◌≡◌, ℕ, nat_lt, if◌then◌else◌, List, [], ◌∷◌, Option, Some, None, Err, is_some, option_map}
use Rattle.std.specs.Option.{option_and_then, unwrap_or}
use Rattle.lpt_jobs.specs.Jobs.{oldest}
use Rattle.lpt_c_end.specs.Changes.{delivery, execution_of}
use Rattle.lpt_c_end.specs.Codes.{empty, no_job, nothing}
use Rattle.lpt_c_end.specs.Copies.{Text}
use Rattle.lpt_c_end.specs.Kept.{content_by, text_or_nothing}
use Rattle.lpt_node.specs.Restarts.{name_state}
use Rattle.lpt_packet.specs.Names.{Name}
use Rattle.lpt_pus.specs.Commands.{command_in}
use Rattle.lpt_c_end.specs.Words.{direction_from, state_word, words, applied_words}
use Rattle.lpt_c_end.specs.declared.end.End.{End}
use Rattle.lpt_c_end.specs.declared.words.LptOutcome.{LptOutcome}
use Rattle.lpt_c_end.specs.declared.words.LptApplied.{LptApplied}

-- a handle holds such an end
abbrev pub IfHeld : (End → Type 0) → Option End → Type 0
IfHeld F None = ⊥
IfHeld F (Some e) = F e

-- a handle holds an end before and after, of which this is so; or none before and after
abbrev pub IfBoth : (End → End → Type 0) → Option End → Option End → Type 0
IfBoth F None None = Unit {0}
IfBoth F None (Some new) = ⊥
IfBoth F (Some e) None = ⊥
IfBoth F (Some e) (Some new) = F e new

-- what is reported of octets that were delivered
abbrev pub IsTold : List ℕ → LptOutcome → End → Type 0
IsTold b said e = said ≡ words (delivery e b).1.outcome

-- the state of a name in a direction, if that is one
abbrev pub state_of : (direction : ℕ) → Name → End → Option ℕ
state_of direction name e =
    if nat_lt 1 direction then None
    else Some (state_word (name_state e.side e.node.at (direction_from direction) name))

-- the same behind a handle, and what stood there before if there is none
abbrev pub state_told : (direction : ℕ) → Name → Option End → (before : ℕ) → ℕ
state_told direction name None before = before
state_told direction name (Some e) before = unwrap_or (state_of direction name e) before

-- the first of packets
abbrev pub first : List (List ℕ) → Option (List ℕ)
first [] = None
first (b ∷ bs) = Some b

-- the message that was released last
abbrev pub released_of : Option End → Text
released_of None = Err empty
released_of (Some e) = text_or_nothing e.released

-- the packet that is to be sent first
abbrev pub outgoing_of : Option End → Text
outgoing_of None = Err empty
outgoing_of (Some e) = text_or_nothing (first e.outbox.items)

-- the telecommand that the oldest job that waits is, by its service type and message subtype
abbrev pub asked_in : End → Option (ℕ × ℕ)
asked_in e =
    option_map (λ c. (c.service, c.subtype))
    (option_and_then (command_in e.config.apid) (oldest e.node.at.jobs.jobs))

-- why none is told
abbrev pub asked_refusal : End → Option ℕ
asked_refusal e =
    if is_some (oldest e.node.at.jobs.jobs) then
    (if is_some (asked_in e) then None else Some nothing)
    else Some no_job

-- the service type and the message subtype are those of the telecommand
abbrev pub IsAsked : (service subtype : ℕ) → End → Type 0
IsAsked service subtype e = asked_in e ≡ Some (service, subtype)

-- what is reported of the execution of a job
abbrev pub IsApplied : LptApplied → End → Type 0
IsApplied said e = said ≡ applied_words (execution_of e).0.1.applied

-- the octets of a memory
abbrev pub memory_in : ℕ → Option End → Text
memory_in id None = Err empty
memory_in id (Some e) = content_by id e.memories

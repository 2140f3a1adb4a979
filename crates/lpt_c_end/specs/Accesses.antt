-- What the oldest request does to memories, access by access, and its execution by the octets that
-- it reads.
use Rattle.std.specs.Prelude.{◌≡◌, ℕ, ◌==◌, if◌then◌else◌, List, length, Option, Some, None, Err}
use Rattle.std.specs.List.{slice_get}
use Rattle.std.specs.Option.{option_and_then, option_map}
use Rattle.lpt_jobs.specs.Jobs.{head_of}
use Rattle.lpt_memory.specs.declared.given.Access.{Access}
use Rattle.lpt_memory.specs.Given.{accesses, read_length, octets_written}
use Rattle.lpt_memory.specs.Memories.{Contents, sizes_of}
use Rattle.lpt_memory.specs.Readings.{Source, source_meaning}
use Rattle.lpt_node.specs.Jobs.{FrontHolds, job_executed, executed_given, front_reading, refusal_apply}
use Rattle.lpt_c_end.specs.Changes.{IsFixed}
use Rattle.lpt_c_end.specs.Codes.{empty, node_code, read_length_fault}
use Rattle.lpt_c_end.specs.Copies.{Text}
use Rattle.lpt_c_end.specs.Kept.{elsewhere_refusal, memories_refusal, text_or_nothing}
use Rattle.lpt_c_end.specs.Refusals.{sending_refusal}
use Rattle.lpt_c_end.specs.Walks.{none_refusal}
use Rattle.lpt_c_end.specs.Words.{applied_words}
use Rattle.lpt_c_end.specs.declared.accessing.LptAccess.{LptAccess}
use Rattle.lpt_c_end.specs.declared.end.End.{End}
use Rattle.lpt_c_end.specs.declared.kept.Kept.TheVariants.{Elsewhere}
use Rattle.lpt_c_end.specs.declared.words.LptApplied.{LptApplied}

-- ---- accesses

-- an access as C is told it
abbrev pub access_word : Access → LptAccess
access_word a = record {
  memory = a.memory;
  write = if a.is_write then 1 else 0;
  address = a.address;
  len = a.len;
}

-- what stands first among an end's requests, if it was read
abbrev pub first_read : End → Option Source
first_read e = front_reading (head_of e.node.at.jobs.jobs)

-- why the oldest request can't be executed
abbrev pub unready : End → Option ℕ
unready e = node_code (refusal_apply e.node.at)

-- why it isn't dropped
abbrev pub drop_read_refusal : End → Option ℕ
drop_read_refusal e = memories_refusal e.memories (unready e)

-- its access of a number
abbrev pub access_of : (number : ℕ) → End → Option LptAccess
access_of number e =
    option_and_then (λ r. option_map access_word (slice_get (accesses (source_meaning r)) number))
    (first_read e)

-- a refusal, or else that there is nothing
abbrev pub or_nothing : {A : Type 0} → Option ℕ → Option A → Option ℕ
or_nothing (Some fault) o = Some fault
or_nothing None o = none_refusal o

-- why no access of this number is told
abbrev pub access_refusal : (number : ℕ) → End → Option ℕ
access_refusal number e = or_nothing (unready e) (access_of number e)

-- this is the access of this number
abbrev pub IsAccess : (number : ℕ) → LptAccess → End → Type 0
IsAccess number access e = access_of number e ≡ Some access

-- a refusal, or else octets, or that there are none
abbrev pub text_by : Option ℕ → Option (List ℕ) → Text
text_by (Some fault) o = Err fault
text_by None o = text_or_nothing o

-- the octets that the oldest request writes by its access of a number
abbrev pub written_by : (number : ℕ) → Option End → Text
written_by number None = Err empty
written_by number (Some e) =
    text_by (unready e)
    (option_and_then (λ r. slice_get (octets_written (source_meaning r)) number) (first_read e))

-- ---- its execution by the octets that it reads

-- a refusal, or else that these are not as many octets as are read
abbrev pub length_refusal : Option ℕ → Option Source → List ℕ → Option ℕ
length_refusal (Some fault) first octets = Some fault
length_refusal None None octets = None
length_refusal None (Some r) octets =
    if length octets == read_length (source_meaning r) then None else Some read_length_fault

-- why it isn't executed so
abbrev pub given_refusal : List ℕ → End → Option ℕ
given_refusal octets e =
    elsewhere_refusal e.memories
    (sending_refusal (length_refusal (unready e) (first_read e) octets) e.outbox.items)

-- the oldest job was executed, by the octets that it reads of memories, and its reports are to be
-- sent
pub record IsExecutedGiven (octets : List ℕ) (e new : End) : Type 0 where
  pub node : new.node.at ≡ (executed_given e.config e.node.at octets).0
  pub outbox : new.outbox.items ≡ (executed_given e.config e.node.at octets).1.packets
  pub released : new.released ≡ e.released
  pub fixed : IsFixed e new

-- what is reported of it
abbrev pub IsAppliedGiven : List ℕ → LptApplied → End → Type 0
IsAppliedGiven octets said e =
    said ≡ applied_words (executed_given e.config e.node.at octets).1.applied

-- it is what is executed over any memories of the end's sizes that have these octets there
abbrev pub IsOver : List ℕ → End → Type 0
IsOver octets e =
    (ms : Contents)
    → e.memories ≡ Elsewhere (sizes_of ms)
    → FrontHolds (head_of e.node.at.jobs.jobs) ms octets
    → executed_given e.config e.node.at octets ≡ (job_executed e.config e.node.at ms).0

-- Lists of events as they are asked for, some of them refused, with what each gives.
use Rattle.std.proofs.Common.{◌≡◌, ℕ, List, [], ◌∷◌, Option, Some, None}
use Rattle.lpt_events.specs.declared.config.Config.{Config}
use Rattle.lpt_acts.specs.Acts.{Act}
use Rattle.lpt_events.specs.declared.fault.StepFault.{StepFault}
use Rattle.lpt_events.specs.declared.reply.Answer.{Answer}
use Rattle.lpt_events.specs.declared.reply.Answer.TheVariants.{Put}
use Rattle.lpt_events.specs.declared.reply.Reply.{Reply}
use Rattle.lpt_journal.specs.Journal.{Recorded, History}
use Rattle.lpt_journal.specs.Replies.{entry}
use Rattle.lpt_journal.specs.Refusals.{refusal}
use Rattle.lpt_journal_examples.specs.Passes.{usual_memories}
use Rattle.lpt_journal_examples.proofs.Listed.{entry_listed, entry_is, refusal_listed, refusal_is}

-- what an event gives: its reply, or why it is refused
pub data Given : Type 0 where
  Gives : Reply → Given
  Refuses : StepFault → Given

-- what a list of events gives, and the history after it
pub record Played : Type 0 where
  pub given : List Given
  pub after : History

abbrev given_first : Given → Played → Played
given_first g p = record { given = g ∷ p.given; after = p.after }

-- These events, the oldest first, after this history. Make says what is recorded of an event, and
-- refuses why it is refused.
abbrev played_by : (Config → History → Act → Recorded)
    → (Config → History → Act → Option StepFault)
    → Config
    → History
    → List Act
    → Played
played_by make refuses c h [] = record { given = []; after = h }
played_by make refuses c h (e ∷ es) = elim (refuses c h e) [
  | None ↦ given_first (Gives (make c h e).reply) (played_by make refuses c (make c h e ∷ h) es)
  | Some f ↦ given_first (Refuses f) (played_by make refuses c h es)
]

-- these events, the oldest first, on an empty journal
abbrev pub played : Config → List Act → Played
played c es = played_by (λ c h e. entry c usual_memories h e) refusal c [] es

-- the same, by the lists
abbrev pub played_listed : Config → List Act → Played
played_listed c es = played_by entry_listed refusal_listed c [] es

-- what a list of events gives is the same by the lists
pub played_is : (c : Config) (es : List Act) → played c es ≡ played_listed c es
played_is c es i = played_by (λ c h e. entry_is c h e i) (λ c h e. refusal_is c h e i) c [] es

-- ---- how replies are written in rows

-- an event that puts nothing
abbrev pub gives : Answer → Given
gives a = Gives (record { answer = a; puts = None })

-- an event that puts the packet numbered n
abbrev pub puts_packet : ℕ → Given
puts_packet n = Gives (record { answer = Put n; puts = Some (record { first = n; count = 1 }) })

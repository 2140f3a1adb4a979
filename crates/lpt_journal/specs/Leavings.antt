-- What is told of requests that leave the queue without being executed.
use Rattle.std.specs.Prelude.{◌≡◌, ℕ, suc, List, [], ◌∷◌, drop, map, slice_get, Some, ⊤}
use Rattle.lpt_packet.specs.declared.direction.Direction.TheVariants.{Down}
use Rattle.lpt_pus.specs.declared.failure_code.FailureCode.{FailureCode}
use Rattle.lpt_memory.specs.Memories.{Contents}
use Rattle.lpt_acts.specs.Acts.{Leaving, Execute, Refuse, Drop, Act, Apply}
use Rattle.lpt_events.specs.declared.applied.Applied.TheVariants.{Silent, Code}
use Rattle.lpt_events.specs.declared.config.Config.{Config}
use Rattle.lpt_events.specs.declared.entry.Release.{Release}
use Rattle.lpt_events.specs.declared.reply.Answer.TheVariants.{Applied}
use Rattle.lpt_events.specs.declared.side.Side.TheVariants.{Craft}
use Rattle.lpt_execution.specs.declared.ending.Ending.TheVariants.{Refused}
use Rattle.lpt_execution.specs.Reporting.{message_reports, request_source, link_packets}
use Rattle.lpt_journal.specs.Executions.{reports_after}
use Rattle.lpt_journal.specs.Jobs.{front_job, memories}
use Rattle.lpt_journal.specs.Journal.{Recorded, History}
use Rattle.lpt_journal.specs.Legal.{Legal}
use Rattle.lpt_journal.specs.Receivers.{clock}
use Rattle.lpt_journal.specs.Replies.{history_after}
use Rattle.lpt_journal.specs.Senders.{packets_made}

-- the oldest request was refused with this code: it changed no memory, and what was put are its
-- reports of that failure, to its own source
pub record IsToldRefused (c : Config) (first : Contents) (code : FailureCode) (x : Recorded)
    (h : History) : Type 0 where
  pub request : Release
  pub was_oldest : front_job c h ≡ Some request
  pub answers : x.reply.answer ≡ Applied (Code code)
  pub puts : x.puts
      ≡ map (λ b. record { direction = Down; octets = b })
      (link_packets c.part_size
      (reports_after c (request_source c.apid request.message) (packets_made h Down)
      (clock c h Craft) (message_reports c.apid request.message (Refused code))))
  pub unchanged : memories c first (x ∷ h) ≡ memories c first h

-- the oldest request was dropped: it changed no memory, and nothing was put or opened
pub record IsDroppedSilently (c : Config) (first : Contents) (x : Recorded) (h : History)
    : Type 0 where
  pub request : Release
  pub was_oldest : front_job c h ≡ Some request
  pub answers : x.reply.answer ≡ Applied Silent
  pub puts : x.puts ≡ []
  pub opens : x.opens ≡ []
  pub unchanged : memories c first (x ∷ h) ≡ memories c first h

-- what is told of a request that left so
abbrev pub IsTold : Config → Contents → Leaving → Recorded → History → Type 0
IsTold c first Execute x h = ⊤
IsTold c first (Refuse code) x h = IsToldRefused c first code x h
IsTold c first Drop x h = IsDroppedSilently c first x h

-- so it is of every legal journal; behind an entry stands the history before it
abbrev pub LeavingsAreTold : Type 0
LeavingsAreTold =
    (c : Config) (first : Contents) (es : List Act) (k : ℕ) (x : Recorded) (how : Leaving)
    → Legal c first es
    → slice_get (history_after c first es) k ≡ Some x
    → x.event ≡ Apply how
    → IsTold c first how x (drop (suc k) (history_after c first es))

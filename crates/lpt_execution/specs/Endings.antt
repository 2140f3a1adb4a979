-- How the execution of a request ends.
use Rattle.std.specs.Prelude.{ℕ, ◌+◌, nat_le, Bool, false, not, if◌then◌else◌, List, length, Option, Some, None, is_some}
use Rattle.lpt_pus.specs.declared.failure_code.FailureCode.{FailureCode}
use Rattle.lpt_pus.specs.declared.failure_code.FailureCode.TheVariants.{NoFreeIdentifier, TooManyOpen}
use Rattle.lpt_memory.specs.declared.reply_kind.ReplyKind.{ReplyKind}
use Rattle.lpt_memory.specs.declared.reply_kind.ReplyKind.TheVariants as reply
use Rattle.lpt_memory.specs.declared.effect.Effect.{Effect}
use Rattle.lpt_memory.specs.declared.effect.Effect.TheVariants as effect
use Rattle.lpt_events.specs.LinkPackets.{longest_on_link}
use Rattle.lpt_events.specs.declared.telemetry.TelemetryKind.{TelemetryKind}
use Rattle.lpt_events.specs.declared.telemetry.TelemetryKind.TheVariants as kind
use Rattle.lpt_execution.specs.declared.ending.Ending.{Ending}
use Rattle.lpt_execution.specs.declared.ending.Ending.TheVariants.{Silent, Refused, Carried}

-- whether telemetry with a body of so many octets is a packet of the link: it has 19 octets besides
abbrev pub is_small : (p len : ℕ) → Bool
is_small p len = nat_le (len + 19) (longest_on_link p)

-- why a reply with a body of so many octets isn't sent: if it is no packet of the link, it is
-- opened as a message, and needs a free name and room for an open message more
abbrev pub reply_fault : (p len : ℕ) → (free room : Bool) → Option FailureCode
reply_fault p len free room =
    if is_small p len then None
    else if not free then Some NoFreeIdentifier
    else if not room then Some TooManyOpen
    else None

-- the kind of the report that a reply is
abbrev pub reply_report : ReplyKind → TelemetryKind
reply_report reply.Dump = kind.Dump
reply_report reply.Check = kind.Check

-- how a request with this reply ends, with this fault or none
abbrev pub reply_ending : Option FailureCode → ReplyKind → List ℕ → Ending
reply_ending (Some code) k body = Refused code
reply_ending None k body = Carried (Some (record { kind = reply_report k; body = body }))

-- how a request ends that comes to this; free and room say whether a reply could be opened
abbrev pub ending : (p : ℕ) → (free room : Bool) → Effect → Ending
ending p free room effect.Silent = Silent
ending p free room (effect.Code code) = Refused code
ending p free room effect.Done = Carried None
ending p free room (effect.Reply k body) =
    reply_ending (reply_fault p (length body) free room) k body

-- why the reply that a request comes to isn't sent, if it comes to one
abbrev pub reply_refusal : (p : ℕ) → (free room : Bool) → Effect → Option FailureCode
reply_refusal p free room effect.Silent = None
reply_refusal p free room (effect.Code code) = None
reply_refusal p free room effect.Done = None
reply_refusal p free room (effect.Reply k body) = reply_fault p (length body) free room

-- whether there is a report of data
abbrev pub has_data : Ending → Bool
has_data Silent = false
has_data (Refused code) = false
has_data (Carried r) = is_some r

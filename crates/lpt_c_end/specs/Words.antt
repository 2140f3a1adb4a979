-- Sides, directions, names, configurations and outcomes as C writes and reads them.
use Rattle.std.specs.Prelude.{ℕ, ◌==◌, if◌then◌else◌, Some, None}
use Rattle.lpt_events.specs.declared.applied.Applied.{Applied}
use Rattle.lpt_events.specs.declared.applied.Applied.TheVariants.{Done, Silent, Code}
use Rattle.lpt_events.specs.declared.config.Config.{Config}
use Rattle.lpt_events.specs.declared.outcome.Outcome.{Outcome}
use Rattle.lpt_events.specs.declared.outcome.Outcome.TheVariants.{Kept, Again, Released, PlainReleased, ReportNoted, AbortNoted, Broken, Ignored}
use Rattle.lpt_events.specs.declared.outcome.Why.{Why}
use Rattle.lpt_events.specs.declared.outcome.Why.TheVariants.{Unreadable, Idle, ForeignApid, BadPart, Closed, NoRoom}
use Rattle.lpt_events.specs.declared.side.Side.{Side}
use Rattle.lpt_events.specs.declared.side.Side.TheVariants.{Ground, Craft}
use Rattle.lpt_ledger.specs.declared.state.State.{State}
use Rattle.lpt_ledger.specs.declared.state.State.TheVariants.{Free, Open, Closed as Shut}
use Rattle.lpt_packet.specs.declared.direction.Direction.{Direction}
use Rattle.lpt_packet.specs.declared.direction.Direction.TheVariants.{Up, Down}
use Rattle.lpt_packet.specs.Names.{Name, named_by, no_name}
use Rattle.lpt_part.specs.Aborts.{reason_code}
use Rattle.lpt_part.specs.declared.mode.Mode.{Mode}
use Rattle.lpt_part.specs.declared.mode.Mode.TheVariants.{Any, Strict}
use Rattle.lpt_pus.specs.Codes.{number_of}
use Rattle.lpt_c_end.specs.declared.words.LptApplied.{LptApplied}
use Rattle.lpt_c_end.specs.declared.words.LptConfig.{LptConfig}
use Rattle.lpt_c_end.specs.declared.words.LptName.{LptName}
use Rattle.lpt_c_end.specs.declared.words.LptOutcome.{LptOutcome}

-- ---- numbers of 0 and 1

-- a side
abbrev pub side_from : ℕ → Side
side_from n = if n == 0 then Ground else Craft

-- a direction
abbrev pub direction_from : ℕ → Direction
direction_from n = if n == 0 then Up else Down

-- a mode
abbrev pub mode_from : ℕ → Mode
mode_from n = if n == 0 then Any else Strict

-- ---- names

-- the name that C gives
abbrev pub name_from : LptName → Name
name_from n = named_by n.source n.id

-- the name as C is told it
abbrev pub name_word : Name → LptName
name_word n = record { source = n.source; id = n.id }

-- the state of a name as C is told it
abbrev pub state_word : State → ℕ
state_word Free = 0
state_word Open = 1
state_word Shut = 2

-- ---- a configuration

-- what it says; an end has no source of its own, since each call names one
abbrev pub config_from : LptConfig → Config
config_from c = record {
  apid = c.apid;
  source = 0;
  part_size = c.part_size;
  timeout = c.timeout;
  receptions = c.receptions;
  outgoing = c.outgoing;
  clock = c.clock;
  mode = mode_from c.mode;
}

-- ---- outcomes

-- why nothing was made of a packet
abbrev pub why_word : Why → ℕ
why_word Unreadable = 1
why_word Idle = 2
why_word ForeignApid = 3
why_word BadPart = 4
why_word Closed = 5
why_word NoRoom = 6

-- an outcome of this kind and transaction that says this
abbrev pub word_of : ℕ → Name → ℕ → ℕ → LptOutcome
word_of kind name first second = record {
  kind = kind;
  name = name_word name;
  first = first;
  second = second;
}

-- what became of a packet
abbrev pub words : Outcome → LptOutcome
words (Kept name number) = word_of 1 name number 0
words (Again name number) = word_of 2 name number 0
words (Released name len) = word_of 3 name len 0
words (PlainReleased len) = word_of 4 no_name len 0
words (ReportNoted service subtype) = word_of 5 no_name service subtype
words (AbortNoted name reason) = word_of 6 name (reason_code reason) 0
words (Broken name reason) = word_of 7 name (reason_code reason) 0
words (Ignored why) = word_of 8 no_name (why_word why) 0

-- ---- executions

-- what became of a request, of this kind and with this transaction, and what it says
abbrev pub applied_word : ℕ → Name → ℕ → LptApplied
applied_word kind name value = record { kind = kind; name = name_word name; value = value }

-- what became of a request
abbrev pub applied_words : Applied → LptApplied
applied_words (Done None) = applied_word 1 no_name 0
applied_words (Done (Some name)) = applied_word 2 name 0
applied_words Silent = applied_word 3 no_name 0
applied_words (Code code) = applied_word 4 no_name (number_of code)

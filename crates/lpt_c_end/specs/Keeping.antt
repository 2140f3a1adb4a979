-- The state of an end as octets, and an end that is restored from them.
use Rattle.std.specs.Prelude.{◌≡◌, ℕ, ◌+◌, ◌<◌, ◌^◌, nat_lt, ◌||◌, if◌then◌else◌, List, [], Option, Some, None, Result, Ok, Err}
use Rattle.lpt_events.specs.Configs.{config_fault}
use Rattle.lpt_events.specs.declared.config.Config.{Config}
use Rattle.lpt_events.specs.declared.side.Side.{Side}
use Rattle.lpt_node.specs.Nodes.{NodeView}
use Rattle.lpt_state.specs.declared.fault.StateFault.{StateFault}
use Rattle.lpt_state.specs.declared.fault.StateFault.TheVariants as fault
use Rattle.lpt_state.specs.Lastings.{restarted_node}
use Rattle.lpt_state.specs.Spellings.{state_spelled}
use Rattle.lpt_state.specs.Verdicts.{reading}
use Rattle.lpt_c_end.specs.Codes.{empty, memory, no_number, range}
use Rattle.lpt_c_end.specs.Contents.{memories_of}
use Rattle.lpt_c_end.specs.Copies.{Text}
use Rattle.lpt_c_end.specs.Refusals.{config_refusal, memory_refusal}
use Rattle.lpt_c_end.specs.Words.{config_from, side_from}
use Rattle.lpt_c_end.specs.declared.end.End.{End}
use Rattle.lpt_c_end.specs.declared.kept.Kept.{Kept}
use Rattle.lpt_c_end.specs.declared.memories.LptMemory.{LptMemory}
use Rattle.lpt_c_end.specs.declared.words.LptConfig.{LptConfig}

-- ---- the state of an end

-- its octets
abbrev pub state_text : Option End → Text
state_text None = Err empty
state_text (Some e) = Ok (state_spelled e.node)

-- what is read of the end's state, by its side and configuration, is the end that a restart leaves,
-- if a number is left for one
abbrev pub ReadsAsRestarted : End → Type 0
ReadsAsRestarted e =
    e.node.at.boot + 1 < 2 ^ 64
    → reading e.side e.config (state_spelled e.node) ≡ Ok (restarted_node e.node)

-- ---- an end that is made again

-- the number of a fault of a state
abbrev pub state_code : StateFault → ℕ
state_code fault.Short = 111
state_code fault.Tag = 112
state_code fault.Version = 113
state_code fault.Length = 114
state_code fault.Side = 115
state_code fault.Config = 116
state_code fault.Checksum = 117
state_code fault.Boot = no_number
state_code fault.Order = 118
state_code fault.Memory = memory

-- the fault of a state, if there is one
abbrev pub read_refused : Result NodeView StateFault → Option ℕ
read_refused (Ok v) = None
read_refused (Err e) = Some (state_code e)

-- a refusal, or else that of a state
abbrev pub then_read : Option ℕ → Result NodeView StateFault → Option ℕ
then_read (Some code) r = Some code
then_read None r = read_refused r

-- why an end of this side and configuration isn't made of a state and memories
abbrev pub kept_refusal : Side → Config → List ℕ → List LptMemory → List ℕ → Option ℕ
kept_refusal side c state ms content =
    then_read (memory_refusal side ms content) (reading side c state)

-- why no end is made of a state
abbrev pub resume_refusal : ℕ → LptConfig → List ℕ → List LptMemory → List ℕ → Option ℕ
resume_refusal side c state ms content =
    if nat_lt 1 side || nat_lt 1 c.mode then Some range
    else config_refusal (config_fault (config_from c))
    (kept_refusal (side_from side) (config_from c) state ms content)

-- the end is the one that a state says, with such memories
pub record IsResumedWith (s : Side) (c : Config) (state : List ℕ) (kept : Kept) (e : End)
    : Type 0 where
  pub side : e.side ≡ s
  pub config : e.config ≡ c
  pub node : reading s c state ≡ Ok e.node
  pub memories : e.memories ≡ kept
  pub released : e.released ≡ None
  pub outbox : e.outbox.items ≡ []

-- the same, with memories that begin with this content
abbrev pub IsResumed : Side → Config → List ℕ → List LptMemory → List ℕ → End → Type 0
IsResumed s c state ms content = IsResumedWith s c state (memories_of s ms content)

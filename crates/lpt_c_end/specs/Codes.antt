-- The numbers that calls answer.
use Rattle.std.specs.Prelude.{◌≡◌, ◌⊎◌, ℕ, Option, Some, None}
use Rattle.lpt_events.specs.ConfigFaultNames as configured
use Rattle.lpt_events.specs.FaultNames as step
use Rattle.lpt_events.specs.declared.config_fault.ConfigFault.{ConfigFault}
use Rattle.lpt_events.specs.declared.fault.StepFault.TheVariants as step_fault
use Rattle.lpt_memory.specs.FaultNames as of_memory
use Rattle.lpt_memory.specs.declared.fault.MemoryFault.TheVariants as memory_fault
use Rattle.lpt_node.specs.declared.fault.NodeFault.{NodeFault}
use Rattle.lpt_node.specs.Faults.{node_fault}

-- it is done
abbrev pub all_done : ℕ
all_done = 0

-- ---- faults that have their numbers elsewhere

-- memory ran out
abbrev pub memory : ℕ
memory = step.code_of step_fault.Memory

-- the transaction is open
abbrev pub still_open : ℕ
still_open = step.code_of step_fault.StillOpen

-- the clock is at its greatest value, or would go past it
abbrev pub clock_end : ℕ
clock_end = step.code_of step_fault.ClockEnd

-- no transaction of the name is open
abbrev pub not_open : ℕ
not_open = step.code_of step_fault.NotOpen

-- there is no job to be read or executed
abbrev pub no_job : ℕ
no_job = step.code_of step_fault.NoJob

-- a memory of no octets, or of too many
abbrev pub bad_memories : ℕ
bad_memories = of_memory.code_of memory_fault.BadMemories

-- the fault of a node, or none
abbrev pub node_code : Option NodeFault → Option ℕ
node_code None = None
node_code (Some fault) = Some (step.code_of (node_fault fault))

-- the fault of a configuration, or none
abbrev pub config_code : Option ConfigFault → Option ℕ
config_code None = None
config_code (Some fault) = Some (configured.code_of fault)

-- ---- numbers of these calls alone

-- a number is out of its range
abbrev pub range : ℕ
range = 102

-- the clock, or a tick at which a reception last took a part, would go below 0
abbrev pub clock_start : ℕ
clock_start = 125

-- the buffer is too short
abbrev pub room : ℕ
room = 103

-- the handle holds no end
abbrev pub empty : ℕ
empty = 106

-- no number is left for a job, or for a start
abbrev pub no_number : ℕ
no_number = 108

-- there is nothing to copy, or to let go
abbrev pub nothing : ℕ
nothing = 109

-- packets are to be sent first
abbrev pub unsent : ℕ
unsent = 110

-- the memories that the call is for are elsewhere: with the caller, or in the end
abbrev pub elsewhere : ℕ
elsewhere = 119

-- these aren't as many octets as the request reads
abbrev pub read_length_fault : ℕ
read_length_fault = 120

-- the oldest request of all was read already
abbrev pub already_read : ℕ
already_read = 126

-- ---- answers

-- the answer of a call that takes no memory, if this refuses it
abbrev pub answer : Option ℕ → ℕ
answer None = all_done
answer (Some fault) = fault

-- the answer of a call that takes memory, if this refuses it; if nothing does, out of memory
-- alone can
abbrev pub IsAnswer : Option ℕ → ℕ → Type 0
IsAnswer None code = (code ≡ all_done) ⊎ (code ≡ memory)
IsAnswer (Some fault) code = code ≡ fault

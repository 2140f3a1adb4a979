-- The numbers that calls answer.
use Rattle.std.specs.Prelude.{◌≡◌, ◌⊎◌, ℕ, Option, Some, None}
use Rattle.lpt_memory.specs.FaultNames as of_memory
use Rattle.lpt_memory.specs.declared.fault.MemoryFault.TheVariants as memory_fault
use Rattle.lpt_c_ground.specs.declared.grounds.Ground.{Ground}

-- it is done
abbrev pub all_done : ℕ
all_done = 0

-- no area, one without octets or behind the last address, or two that overlap
abbrev pub bad_area : ℕ
bad_area = of_memory.code_of memory_fault.BadArea

-- memory ran out
abbrev pub memory : ℕ
memory = 58

-- a number is out of its range
abbrev pub range : ℕ
range = 102

-- the buffer is too short
abbrev pub room : ℕ
room = 103

-- the handle holds no pass
abbrev pub empty : ℕ
empty = 106

-- there is nothing to copy, or to be said
abbrev pub nothing : ℕ
nothing = 109

-- it takes more requests than a pass has
abbrev pub long_job : ℕ
long_job = 121

-- ---- answers

-- the refusal of a call on a handle: it holds no pass, or the pass refuses
abbrev pub refusal_by : (Ground → Option ℕ) → Option Ground → Option ℕ
refusal_by of None = Some empty
refusal_by of (Some g) = of g

-- the answer of a call that takes no memory, if this refuses it
abbrev pub answer : Option ℕ → ℕ
answer None = all_done
answer (Some fault) = fault

-- the answer of a call that takes memory, if this refuses it; if nothing does, out of memory
-- alone can
abbrev pub IsAnswer : Option ℕ → ℕ → Type 0
IsAnswer None code = (code ≡ all_done) ⊎ (code ≡ memory)
IsAnswer (Some fault) code = code ≡ fault

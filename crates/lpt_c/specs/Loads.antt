-- Loads of a memory, as they are written.
use Rattle.std.specs.Prelude.{◌≡◌, ℕ, ◌+◌, ◌≤◌, List, [], ◌∷◌, length, Option, Some, None, Ok, Err}
use Rattle.lpt_memory.specs.declared.fault.MemoryFault.{MemoryFault}
use Rattle.lpt_memory.specs.declared.request.Area.{Area}
use Rattle.lpt_memory.specs.FaultNames.{code_of}
use Rattle.lpt_memory.specs.Meanings.{Load, Sizes, size_of, body_meaning}
use Rattle.lpt_memory.specs.Spellings.{load_text, write_fault}
use Rattle.lpt_c.specs.Buffers.{BufferText}

-- the area that octets fill from an address on
abbrev pub area_of : ℕ → List ℕ → Area
area_of address octets = record { address = address; octets = octets }

-- the body of a load of one area
abbrev pub load_body : ℕ → Area → List ℕ
load_body memory area = load_text memory (area ∷ [])

-- a text, unless there is a fault
abbrev pub text_unless : Option MemoryFault → List ℕ → BufferText
text_unless (Some fault) text = Err (code_of fault)
text_unless None text = Ok text

-- the body that is to be written, if such a load can be
abbrev pub load_told : ℕ → Area → BufferText
load_told memory area = text_unless (write_fault (area ∷ [])) (load_body memory area)

-- a load of this body means this area, in all memories that it is within
abbrev pub MeansLoad : List ℕ → ℕ → Area → Type 0
MeansLoad body id area =
    (sizes : Sizes) (size : ℕ)
    → size_of id sizes ≡ Some size
    → area.address + length area.octets ≤ size
    → body_meaning sizes 6 2 body ≡ Load id (area ∷ [])

-- What lies within memories.
use Rattle.std.specs.Prelude.{◌≡◌, ℕ, ◌+◌, ◌≤◌, List, [], ◌∷◌, length, Some}
use Rattle.lpt_pus.specs.Codes.{number_of}
use Rattle.lpt_memory.specs.declared.request.Area.{Area}
use Rattle.lpt_memory.specs.declared.request.AreaRange.{AreaRange}
use Rattle.lpt_packet.specs.Sizes.{longest_packet}
use Rattle.lpt_memory.specs.Meanings.{Meaning, Silent, Fault, Load, Dump, Check, Sizes, size_of, dump_length, meaning}

-- areas end within a memory of this size
abbrev pub AreasFit : ℕ → List Area → Type 0
AreasFit size [] = Unit {0}
AreasFit size (a ∷ rest) = (a.address + length a.octets ≤ size) × AreasFit size rest

-- ranges end within a memory of this size
abbrev pub RangesFit : ℕ → List AreaRange → Type 0
RangesFit size [] = Unit {0}
RangesFit size (r ∷ rest) = (r.address + r.len ≤ size) × RangesFit size rest

-- the memory is known, and its areas are within it
pub record LoadFits (sizes : Sizes) (id : ℕ) (areas : List Area) : Type 0 where
  pub size : ℕ
  pub known : size_of id sizes ≡ Some size
  pub fit : AreasFit size areas

-- the memory is known, and its ranges are within it
pub record ReadFits (sizes : Sizes) (id : ℕ) (ranges : List AreaRange) : Type 0 where
  pub size : ℕ
  pub known : size_of id sizes ≡ Some size
  pub fit : RangesFit size ranges

-- a request is within its memory, and the answer to a dump within a packet; a fault's code is one
-- of the first six
abbrev pub MeaningFits : Sizes → Meaning → Type 0
MeaningFits sizes Silent = Unit {0}
MeaningFits sizes (Fault code) = number_of code ≤ 6
MeaningFits sizes (Load id areas) = LoadFits sizes id areas
MeaningFits sizes (Dump id ranges) = ReadFits sizes id ranges × (dump_length ranges ≤ longest_packet)
MeaningFits sizes (Check id ranges) = ReadFits sizes id ranges

-- the octets mean this load at a node with this APID, in all memories that it is within
abbrev pub MeansLoad : ℕ → List ℕ → ℕ → List Area → Type 0
MeansLoad apid octets id areas =
    (sizes : Sizes) (size : ℕ)
    → size_of id sizes ≡ Some size
    → AreasFit size areas
    → meaning apid sizes octets ≡ Load id areas

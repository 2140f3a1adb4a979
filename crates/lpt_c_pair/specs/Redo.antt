-- Writes that were made in part, and are made again.
use Rattle.std.specs.Prelude.{◌≡◌, ℕ, ◌==◌, if◌then◌else◌, List, [], ◌∷◌, length, take, drop, map, slice_index, Some}
use Rattle.lpt_c_end.specs.declared.end.End.{End}
use Rattle.lpt_c_pair.specs.Programs.{ToldWrite, put_told, AreTold}
use Rattle.lpt_jobs.specs.Jobs.{head_of, Ready}
use Rattle.lpt_memory.specs.declared.request.Area.{Area}
use Rattle.lpt_memory.specs.Meanings.{Load}
use Rattle.lpt_memory.specs.Memories.{Contents, content_of, put_all, sizes_of}
use Rattle.lpt_memory.specs.Overlaps.{NoneCovers}
use Rattle.lpt_memory.specs.Ranges.{AreasFit}
use Rattle.lpt_memory.specs.Readings.{Source, source_meaning}

-- memories of which that with this identifier has these octets
abbrev pub with_content : ℕ → List ℕ → Contents → Contents
with_content id octets [] = []
with_content id octets (m ∷ ms) =
    if m.0 == id then (m.0, octets) ∷ ms else m ∷ with_content id octets ms

-- a memory became this, and where none of the areas goes it is as it was: some of them were put
-- over it, whole or in part, in any order
pub record IsPutInPart (areas : List Area) (old new : List ℕ) : Type 0 where
  pub long : length new ≡ length old
  pub others : (place : ℕ) → NoneCovers place areas → slice_index new place ≡ slice_index old place

-- the octets that a memory has where an area goes
abbrev pub image : List ℕ → Area → Area
image old a = record {
  address = a.address;
  octets = take (length a.octets) (drop a.address old);
}

-- a memory over which areas were put in part is as it was, once what stood there is put back
abbrev pub WritesCanBeTakenBack : Type 0
WritesCanBeTakenBack =
    (areas : List Area) (old new : List ℕ)
    → AreasFit (length old) areas
    → IsPutInPart areas old new
    → put_all new (map (image old) areas) ≡ old

-- the oldest request of an end was a load, and its writes are made over memories over which some of
-- them were made: so they come to what they would have come to
abbrev pub WritesCanBeMadeAgain : Type 0
WritesCanBeMadeAgain =
    (e : End) (r : Source) (id : ℕ) (areas : List Area) (ts : List ToldWrite) (ms : Contents)
    (old new : List ℕ)
    → head_of e.node.at.jobs.jobs ≡ Ready r
    → r.sizes ≡ sizes_of ms
    → source_meaning r ≡ Load id areas
    → AreTold 0 ts e
    → content_of id ms ≡ Some old
    → IsPutInPart areas old new
    → put_told ts (with_content id new ms) ≡ put_told ts ms

-- What files have that are replaced as a whole.
use Rattle.std.specs.Prelude.{ℕ, Bool, false, if◌then◌else◌, nat_eq, List, map, Option, Some, None}
use Rattle.std.specs.List.{list_any}
use Rattle.std.specs.Option.{option_eq}
use Rattle.lpt_memory.specs.Memories.{content_of, Contents}
use Rattle.lpt_spacecraft.specs.declared.told.Told.{Told}
use Rattle.lpt_spacecraft.specs.declared.told.Told.TheVariants.{Did}

-- what a file has that was replaced by these octets, if that is known
abbrev pub replaced_by : (octets : List ℕ) → Option (List ℕ) → Option (List ℕ)
replaced_by b None = None
replaced_by b (Some old) = Some b

-- what a file has to which a memory was written, if there is such a memory
abbrev pub written_with : (memory : Option (List ℕ)) → Option (List ℕ) → Option (List ℕ)
written_with None old = old
written_with (Some m) old = replaced_by m old

-- whether the memory of this identifier was written by what is told
abbrev pub writes_to : (id : ℕ) → Told → Bool
writes_to id (Did d) = option_eq nat_eq d.wrote (Some id)
writes_to id _ = false

-- what the file of a memory has, behind what is told: the memory, if that was written
abbrev pub saved_in : List Told → Contents → (id : ℕ) → Option (List ℕ) → Option (List ℕ)
saved_in told ms id old =
    if list_any (writes_to id) told then written_with (content_of id ms) old else old

-- the same, beside the memory's identifier
abbrev pub saved_by : List Told → Contents → ℕ × Option (List ℕ) → ℕ × Option (List ℕ)
saved_by told ms f = (f.0, saved_in told ms f.0 f.1)

-- what files of memories have, each beside the memory's identifier
abbrev pub contents_of : {F : Type 0} → (F → Option (List ℕ))
    → List (ℕ × F)
    → List (ℕ × Option (List ℕ))
contents_of content fs = map (λ f. (f.0, content f.1)) fs

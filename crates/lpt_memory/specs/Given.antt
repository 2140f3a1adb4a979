-- What a message does to memories that are elsewhere, and what it is answered by their octets.
use Rattle.std.specs.Prelude.{ℕ, true, false, if◌then◌else◌, List, [], ◌∷◌, ◌++◌, length, map, take, drop, sum_by}
use Rattle.std.specs.List.{flat_map}
use Rattle.lpt_memory.specs.declared.effect.Effect.{Effect}
use Rattle.lpt_memory.specs.declared.effect.Effect.TheVariants as effects
use Rattle.lpt_memory.specs.declared.given.Access.{Access}
use Rattle.lpt_memory.specs.declared.reply_kind.ReplyKind.{ReplyKind}
use Rattle.lpt_memory.specs.declared.reply_kind.ReplyKind.TheVariants as kinds
use Rattle.lpt_memory.specs.declared.request.Area.{Area}
use Rattle.lpt_memory.specs.declared.request.AreaRange.{AreaRange}
use Rattle.lpt_memory.specs.Effects.{octets_of, dumped_area, checked_area}
use Rattle.lpt_memory.specs.Meanings.{Meaning, Silent, Fault, Load, Dump, Check}
use Rattle.lpt_memory.specs.Memories.{Contents, memories_loaded}

-- ---- accesses

-- an area of a load is written
abbrev pub write_of : ℕ → Area → Access
write_of id a = record { memory = id; is_write = true; address = a.address; len = length a.octets }

-- an area of a dump or a check is read
abbrev pub read_of : ℕ → AreaRange → Access
read_of id r = record { memory = id; is_write = false; address = r.address; len = r.len }

-- what is written and read of memories for a message, in this order
abbrev pub accesses : Meaning → List Access
accesses Silent = []
accesses (Fault code) = []
accesses (Load id areas) = map (write_of id) areas
accesses (Dump id ranges) = map (read_of id) ranges
accesses (Check id ranges) = map (read_of id) ranges

-- what is written, access by access
abbrev pub octets_written : Meaning → List (List ℕ)
octets_written Silent = []
octets_written (Fault code) = []
octets_written (Load id areas) = map (λ a. a.octets) areas
octets_written (Dump id ranges) = []
octets_written (Check id ranges) = []

-- octets that are written by one access after the other
abbrev pub put_each : List Access → List (List ℕ) → Contents → Contents
put_each [] octets ms = ms
put_each (a ∷ rest) [] ms = ms
put_each (a ∷ rest) (o ∷ others) ms =
    put_each rest others
    (memories_loaded a.memory (record { address = a.address; octets = o } ∷ []) ms)

-- ---- octets that are read

-- the octets that an access reads of memories
abbrev pub read_by : Contents → Access → List ℕ
read_by ms a = if a.is_write then [] else take a.len (drop a.address (octets_of a.memory ms))

-- how many octets there are in ranges
abbrev pub all_length : List AreaRange → ℕ
all_length ranges = sum_by (λ r. r.len) ranges

-- how many octets a message reads
abbrev pub read_length : Meaning → ℕ
read_length Silent = 0
read_length (Fault code) = 0
read_length (Load id areas) = 0
read_length (Dump id ranges) = all_length ranges
read_length (Check id ranges) = all_length ranges

-- which octets a message reads of memories, those of one access behind those of the other
abbrev pub octets_read : Meaning → Contents → List ℕ
octets_read m ms = flat_map (read_by ms) (accesses m)

-- ---- answers

-- an area of a reply of this kind, with these octets
abbrev pub area_of : ReplyKind → AreaRange → List ℕ → List ℕ
area_of kinds.Dump = dumped_area
area_of kinds.Check = checked_area

-- the areas of a reply, whose octets stand one behind the other
abbrev pub areas_of : ReplyKind → List AreaRange → List ℕ → List ℕ
areas_of kind [] octets = []
areas_of kind (r ∷ rest) octets =
    area_of kind r (take r.len octets) ++ areas_of kind rest (drop r.len octets)

-- the body of a reply
abbrev pub reply_of : ReplyKind → ℕ → List AreaRange → List ℕ → List ℕ
reply_of kind id ranges octets = id ∷ length ranges ∷ areas_of kind ranges octets

-- what a message is answered that reads these octets
abbrev pub answer_of : Meaning → List ℕ → Effect
answer_of Silent octets = effects.Silent
answer_of (Fault code) octets = effects.Code code
answer_of (Load id areas) octets = effects.Done
answer_of (Dump id ranges) octets = effects.Reply kinds.Dump (reply_of kinds.Dump id ranges octets)
answer_of (Check id ranges) octets = effects.Reply kinds.Check (reply_of kinds.Check id ranges octets)

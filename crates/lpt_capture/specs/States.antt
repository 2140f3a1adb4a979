-- What is still to be found in a file of which a front part was read.
use Rattle.std.specs.Prelude.{◌≡◌, Bool, ℕ, ◌<◌, List, [], length, take, Option, Some, None, MatchOption, ⊤}
use Rattle.std.specs.Option.{option_map}
use Rattle.std.specs.Io.KnownBytes.{prepend_known}
use Rattle.lpt_capture.specs.declared.ahead.Ahead.{Ahead}
use Rattle.lpt_capture.specs.declared.captured.Captured.{Captured}
use Rattle.lpt_capture.specs.declared.fault.CaptureFault.{CaptureFault}
use Rattle.lpt_capture.specs.declared.fault.CaptureFault.TheVariants.{Short}
use Rattle.lpt_capture.specs.declared.place.Place.{Place}
use Rattle.lpt_capture.specs.declared.place.Place.TheVariants.{Front, Plain, Record, Ended, Cut, Broken}
use Rattle.lpt_capture.specs.Captured.{Finding, sound, broken_finding, before, in_record, records_of, found_in}

-- ---- octets read ahead

-- the octets that were read and not given yet
abbrev pub octets_held : {S : Type 0} → Ahead S → List ℕ
octets_held a = take a.have a.octets

abbrev pub source_of : {S : Type 0} → Ahead S → S
source_of a = a.source

-- the octets that are still to be given, if those of the source are known
abbrev pub octets_known : {S : Type 0} → (S → Option (List ℕ)) → Ahead S → Option (List ℕ)
octets_known remaining a = prepend_known (octets_held a) (remaining (source_of a))

-- ---- places

-- what is found from this place on
abbrev pub found_at : Place → List ℕ → Finding
found_at Front b = found_in b
found_at Plain b = sound b
found_at (Record r) b = in_record r.at r.left b (records_of r.turned r.next)
found_at Ended b = sound []
found_at (Cut at) b = broken_finding [] (Short at)
found_at (Broken fault) b = broken_finding [] fault

-- how many octets are looked at in front of a file: those that show that it is no capture, or all
-- of its header
abbrev pub front_size : Option Bool → ℕ
front_size None = 4
front_size (Some turned) = 24

-- what comes next is no header
abbrev pub IsSettled : Place → Type 0
IsSettled Front = ⊥
IsSettled Plain = ⊤
IsSettled (Record r) = 0 < r.left
IsSettled Ended = ⊤
IsSettled (Cut at) = ⊤
IsSettled (Broken fault) = ⊤

-- something is wrong with the file, other than that it ends within a record
abbrev pub IsBroken : Place → Type 0
IsBroken Front = ⊥
IsBroken Plain = ⊥
IsBroken (Record r) = ⊥
IsBroken Ended = ⊥
IsBroken (Cut at) = ⊥
IsBroken (Broken fault) = ⊤

-- what is wrong with the file, if that was found
abbrev pub fault_at : Place → Option CaptureFault
fault_at Front = None
fault_at Plain = None
fault_at (Record r) = None
fault_at Ended = None
fault_at (Cut at) = Some (Short at)
fault_at (Broken fault) = Some fault

-- ---- the reader of a file

abbrev pub ahead_of : {S : Type 0} → Captured S → Ahead S
ahead_of c = c.ahead

abbrev pub place_of : {S : Type 0} → Captured S → Place
place_of c = c.place

-- whether a read has failed
abbrev pub has_failed : {S : Type 0} → Captured S → Bool
has_failed c = c.failed

-- what is still to be found, if the octets of the source are known
abbrev pub finding_ahead : {S : Type 0} → (S → Option (List ℕ)) → Captured S → Option Finding
finding_ahead remaining c = option_map (found_at c.place) (octets_known remaining c.ahead)

-- the octets that are found
abbrev pub octets_of : Finding → List ℕ
octets_of f = f.octets

-- the octets that are still to be given, if those of the source are known
abbrev pub octets_left : {S : Type 0} → (S → Option (List ℕ)) → Captured S → Option (List ℕ)
octets_left remaining c = option_map octets_of (finding_ahead remaining c)

-- these octets were given of what was to be found
abbrev pub Gives : (old new : Option Finding) → List ℕ → Type 0
Gives None new b = ⊤
Gives (Some f) None b = ⊥
Gives (Some f) (Some g) b = f ≡ before b g

-- nothing is wrong, but that a capture may end within a record
abbrev pub IsGood : Option CaptureFault → Type 0
IsGood None = ⊤
IsGood (Some (Short at)) = ⊤
IsGood (Some fault) = ⊥

-- nothing more is found, and nothing is wrong, but that a capture may end within a record
abbrev pub IsDone : Option Finding → Type 0
IsDone None = ⊤
IsDone (Some f) = (f.octets ≡ []) × IsGood f.fault

-- a read gave a front part of what was to be found, nothing at the end alone; or it failed, and
-- gave none
abbrev pub Reads : Option ℕ → (old new : Option Finding) → (buf : List ℕ) → Type 0
Reads result old new buf = MatchOption result (Gives old new [])
    (λ n. Gives old new (take n buf) × (n ≡ 0 → 0 < length buf → IsDone new))

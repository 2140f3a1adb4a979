-- What the packets that settled a pass's requests hold of memories.
use Rattle.std.specs.Prelude.{ℕ, ◌+◌, ◌-◌, ◌==◌, ◌&&◌, Bool, true, false, List, [], ◌∷◌, ◌++◌, length, take, drop}
use Rattle.lpt_packet.specs.Checksums.{checksum}
use Rattle.lpt_packet.specs.Numbers.{word_at}
use Rattle.lpt_ground.specs.declared.asked.Asked.{Asked}
use Rattle.lpt_ground.specs.declared.asked.Awaits.{Awaits}
use Rattle.lpt_ground.specs.declared.asked.Awaits.TheVariants.{Completion, Dumped, Checked}
use Rattle.lpt_ground.specs.declared.asked.Fate.{Fate}
use Rattle.lpt_ground.specs.declared.asked.Fate.TheVariants.{Waiting, Done, Failed}

-- so many octets of a report's packet stand in front of what its area holds: the packet's headers,
-- memory, number of areas, address and length
abbrev pub area_front : ℕ
area_front = 25

-- so many octets a report's packet has behind the octets of a dump: two checksums
abbrev pub area_end : ℕ
area_end = 4

-- the octets of a dump in the packet of its report
abbrev pub octets_in : List ℕ → List ℕ
octets_in o = take (length o - (area_front + area_end)) (drop area_front o)

-- what a request's packet holds
abbrev pub octets_by : Fate → List ℕ
octets_by Waiting = []
octets_by (Done o) = octets_in o
octets_by (Failed code) = []

-- what all of them hold, one behind the other
abbrev pub octets_dumped : List Asked → List ℕ
octets_dumped [] = []
octets_dumped (a ∷ asked) = octets_by a.fate ++ octets_dumped asked

-- whether the packet of a check's report has the checksum of these octets
abbrev pub holds_checksum : Fate → List ℕ → Bool
holds_checksum Waiting octets = false
holds_checksum (Done o) octets = word_at o area_front == checksum octets
holds_checksum (Failed code) octets = false

-- how many octets a check is of
abbrev pub checked_len : Awaits → ℕ
checked_len Completion = 0
checked_len (Dumped p) = 0
checked_len (Checked p) = p.len

-- whether the checks agree with this content, one behind the other, and are of all of it
abbrev pub checks_agree : List Asked → List ℕ → Bool
checks_agree [] content = length content == 0
checks_agree (a ∷ asked) content =
    holds_checksum a.fate (take (checked_len a.awaits) content)
    && checks_agree asked (drop (checked_len a.awaits) content)

-- The requests of a pass, by what is asked of a memory.
use Rattle.std.specs.Prelude.{ℕ, List, [], ◌∷◌}
use Rattle.lpt_pus.specs.Numbers.{long_at}
use Rattle.lpt_requests.specs.declared.request.Range.{Range}
use Rattle.lpt_requests.specs.declared.request.Request.{Request}
use Rattle.lpt_requests.specs.declared.request.Request.TheVariants.{Load, Dump, Check}
use Rattle.lpt_requests.specs.Packets.{next_count}
use Rattle.lpt_requests.specs.Requests.{request_packet}
use Rattle.lpt_ground.specs.declared.asked.Asked.{Asked}
use Rattle.lpt_ground.specs.declared.asked.Awaits.{Awaits}
use Rattle.lpt_ground.specs.declared.asked.Awaits.TheVariants.{Completion, Dumped, Checked}
use Rattle.lpt_ground.specs.declared.asked.Fate.TheVariants.{Waiting}
use Rattle.lpt_ground.specs.declared.asked.Place.{Place}

-- the place of a range in this memory
abbrev pub place_of : (memory : ℕ) → Range → Place
place_of memory r = record { memory = memory; address = r.address; len = r.len }

-- a dump of one place awaits its octets
abbrev pub awaits_dump : (memory : ℕ) → List Range → Awaits
awaits_dump memory [] = Completion
awaits_dump memory (r ∷ []) = Dumped (place_of memory r)
awaits_dump memory (r ∷ s ∷ rest) = Completion

-- a check of one place awaits its checksum
abbrev pub awaits_check : (memory : ℕ) → List Range → Awaits
awaits_check memory [] = Completion
awaits_check memory (r ∷ []) = Checked (place_of memory r)
awaits_check memory (r ∷ s ∷ rest) = Completion

-- what settles a request
abbrev pub awaits_of : Request → Awaits
awaits_of (Load memory areas) = Completion
awaits_of (Dump memory ranges) = awaits_dump memory ranges.items
awaits_of (Check memory ranges) = awaits_check memory ranges.items

-- a request that waits, of this packet
abbrev pub asked_of : List ℕ → Request → Asked
asked_of octets request = record {
  octets = octets;
  id = long_at octets 0;
  awaits = awaits_of request;
  fate = Waiting;
}

-- the requests of a pass, the first with this count
abbrev pub requests_planned : (apid source count flags : ℕ) → List Request → List Asked
requests_planned apid source count flags [] = []
requests_planned apid source count flags (r ∷ rest) =
    asked_of (request_packet apid source count flags r) r
    ∷ requests_planned apid source (next_count count) flags rest

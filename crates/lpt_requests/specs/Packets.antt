-- The packets of requests, one behind the other, and what a spacecraft's memories are once it
-- executed them.
use Rattle.std.specs.Prelude.{ℕ, ◌+◌, ◌==◌, if◌then◌else◌, List, [], ◌∷◌, Option, None}
use Rattle.lpt_memory.specs.declared.fault.MemoryFault.{MemoryFault}
use Rattle.lpt_memory.specs.Meanings.{meaning}
use Rattle.lpt_memory.specs.Memories.{Contents, effect, sizes_of}
use Rattle.lpt_memory.specs.Ranges.{MeansLoad}
use Rattle.lpt_requests.specs.declared.request.Request.{Request}
use Rattle.lpt_requests.specs.Cuts.{Asked, Loads, Dumps, Checks, or_first}
use Rattle.lpt_requests.specs.Requests.{MeansCheck, MeansDump, request_fault, request_packet}

-- the sequence count behind this one
abbrev pub next_count : ℕ → ℕ
next_count count = if count == 16383 then 0 else count + 1

-- the packets of requests, the first with this count
abbrev pub request_packets : (apid source count flags : ℕ) → List Request → List (List ℕ)
request_packets apid source count flags [] = []
request_packets apid source count flags (r ∷ rest) =
    request_packet apid source count flags r
    ∷ request_packets apid source (next_count count) flags rest

-- the first fault of requests
abbrev pub first_fault : List Request → Option MemoryFault
first_fault [] = None
first_fault (r ∷ rest) = or_first (request_fault r) (first_fault rest)

-- the octets ask this of the memories of a node with this APID, in all memories that it is within
abbrev pub MeansAsked : ℕ → List ℕ → Asked → Type 0
MeansAsked apid octets (Loads memory areas) = MeansLoad apid octets memory areas
MeansAsked apid octets (Dumps memory ranges) = MeansDump apid octets memory ranges
MeansAsked apid octets (Checks memory ranges) = MeansCheck apid octets memory ranges

-- each of these packets asks what stands at its place
abbrev pub AllMean : ℕ → List (List ℕ) → List Asked → Type 0
AllMean apid [] [] = Unit {0}
AllMean apid [] (a ∷ asked) = ⊥
AllMean apid (p ∷ packets) [] = ⊥
AllMean apid (p ∷ packets) (a ∷ asked) = MeansAsked apid p a × AllMean apid packets asked

-- the memories of a node with this APID once it executed each of these messages, one after the
-- other
abbrev pub messages_executed : (apid : ℕ) → List (List ℕ) → Contents → Contents
messages_executed apid [] ms = ms
messages_executed apid (m ∷ messages) ms =
    messages_executed apid messages (effect (meaning apid (sizes_of ms) m) ms)

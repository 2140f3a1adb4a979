-- What telecommands and telemetry share: a header's tests, and what readers and writers answer.
use Rattle.std.specs.Prelude.{◌≡◌, ℕ, ◌<◌, ◌≤◌, ◌==◌, Bool, if◌then◌else◌, List, length, Option, Some, None, Result, Ok, Err}
use Rattle.lpt_packet.specs.declared.packet.PacketKind.{PacketKind}
use Rattle.lpt_packet.specs.Packets.{Fields, Sight, IdlePacket, APacket}
use Rattle.lpt_packet.specs.Sizes.{longest_packet}
use Rattle.lpt_pus.specs.declared.fault.PusFault.{PusFault}
use Rattle.lpt_pus.specs.declared.fault.PusFault.TheVariants.{PusVersion, WrongType, ShortHeader, TooLong, Memory}

-- the message, or the first test that its packet fails: the packet type, then the header's
-- length, then the PUS version
abbrev pub headers_tested : {X : Type 0} → Bool → Bool → Bool → X → Result X PusFault
headers_tested of_type long of_version message =
    if of_type then
    (if long then
    (if of_version then Ok message
    else Err PusVersion)
    else Err ShortHeader)
    else Err WrongType

-- the message that was read, if it has this APID
abbrev pub for_apid : {X : Type 0} → (X → ℕ) → ℕ → Result X PusFault → Option X
for_apid apid_of apid (Ok message) = if apid_of message == apid then Some message else None
for_apid apid_of apid (Err e) = None

-- the message in the packet that octets are seen as
abbrev pub in_packet : {X : Type 0} → (Fields → Option X) → Option Sight → Option X
in_packet read (Some (APacket f)) = read f
in_packet read (Some IdlePacket) = None
in_packet read None = None

-- what a reader answered, seen by this view, is this verdict
abbrev pub Gives : {X Y : Type 0} → (X → Y) → Result X PusFault → Result Y PusFault → Type 0
Gives view (Ok x) v = v ≡ Ok (view x)
Gives view (Err e) v = v ≡ Err e

-- what a writer made is these octets; they are too long exactly if they are more than a packet
-- has; otherwise memory may have run out
abbrev pub Writes : Result (List ℕ) PusFault → List ℕ → Type 0
Writes (Ok o) s = (length s ≤ longest_packet) × (o ≡ s)
Writes (Err TooLong) s = longest_packet < length s
Writes (Err Memory) s = length s ≤ longest_packet
Writes (Err PusVersion) s = ⊥
Writes (Err WrongType) s = ⊥
Writes (Err ShortHeader) s = ⊥

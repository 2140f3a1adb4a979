-- What was written as a capture is found in it.
use Rattle.std.proofs.Common.{◌≡◌, ◌∙◌, ap, refl, ⊎_elim, ℕ, ◌+◌, ◌-◌, ◌*◌, ◌<◌, ◌≤◌, ◌&&◌, nat_le, if◌then◌else◌, sym, Bool, true, false, List, [], ◌∷◌, ◌++◌, length, drop, slice_index, None, arith, append_assoc}
use Rattle.std.specs.List.{flat_map}
use Rattle.std.proofs.lemmas.Bool.{ne_eqb, le-ltb}
use Rattle.std.proofs.lemmas.List.{get_or_append_left}
use Rattle.lpt_packet.specs.declared.packet.PacketKind.{PacketKind}
use Rattle.lpt_packet.specs.declared.packet.PacketKind.TheVariants.{Tm, Tc}
use Rattle.lpt_packet.specs.Numbers.{word_at}
use Rattle.lpt_packet.specs.Packets.{Fields, IsPacket, IsIdle, packet_type, spelling}
use Rattle.lpt_packet.specs.Ranges.{InRange}
use Rattle.lpt_packet.specs.Sizes.{longest_packet}
use Rattle.lpt_packet.proofs.Codec.{length-spelling, word_at-0}
use Rattle.lpt_capture.specs.Captures.{capture_header, record_header, record_of, capture_of}
use Rattle.lpt_stream.specs.Streams.{IsPacketOrIdle, IsStream, all_octets}
use Rattle.lpt_capture.specs.declared.fault.CaptureFault.TheVariants.{Pcapng}
use Rattle.lpt_capture.specs.Captured.{Finding, sound, broken_finding, before, number_at, order_of, begins_so, is_pcapng, in_record, place_behind, records_of, found_by, found_in}
use Rattle.lpt_capture.proofs.CaptureLemmas.{capture_whole, record_whole, record_given, no-records, none-left}

-- ---- sizes

record IsSized (n : ℕ) : Type 0 where
  some : 7 ≤ n
  most : n ≤ 65542

sized-packet : (b : List ℕ) (f : Fields) → IsPacket b f → IsSized (length b)
sized-packet b f h =
    let long : length b ≡ length f.octets + 8 = ap length h.spelled ∙ length-spelling f in
    let ranges = h.ranges in
    record { some = omega (arith, long); most = omega (arith, long, ranges.field_fits) }

sized-idle : (b : List ℕ) → IsIdle b → length b ≤ 65542 → IsSized (length b)
sized-idle b h most =
    let long = h.long in
    record { some = omega (arith, long); most = most }

sized : (b : List ℕ) → IsPacketOrIdle b → IsSized (length b)
sized b h = ⊎_elim (λ p. sized-packet b p.0 p.1) (λ i. sized-idle b i.0 i.1) h

-- ---- captures

long-record : (time n : ℕ) → length (record_header time n) ≡ 16
unfolding record_header
long-record time n = refl

no-more : (time n : ℕ) → drop 16 (record_header time n) ≡ []
unfolding record_header
no-more time n = refl

size-said : (time n : ℕ) → n ≤ 65542 → number_at false (record_header time n) 8 ≡ n
unfolding record_header
size-said time n h = omega (arith, h)

-- a record that comes whole
at-once : (at : ℕ) (p rest : List ℕ) (others : List ℕ → Finding)
    → in_record at (length p) (p ++ rest) others ≡ before p (others rest)
at-once at p rest others =
    let none : length p - length p ≡ 0 = omega arith in
    record_given at (length p) p rest others (omega arith)
    ∙ ap (λ n. before p (in_record at n rest others)) none
    ∙ ap (before p) (none-left at rest others)

-- a record of a packet in front of others
record-read : (time at : ℕ) (p rest : List ℕ)
    → IsSized (length p)
    → records_of false at (record_of time p ++ rest)
    ≡ before p (records_of false (place_behind at (length p)) rest)
record-read time at p rest h =
    let head = record_header time (length p) in
    let long : 16 ≤ length head = (let size = long-record time (length p) in omega (arith, size)) in
    let said = size-said time (length p) h.most in
    let some = ne_eqb (length p) 0 (λ e. (let least = h.some in omega (arith, e, least))) in
    let fits = le-ltb longest_packet (length p) h.most in
    let behind = no-more time (length p) in
    ap (records_of false at) (append_assoc head p rest)
    ∙ record_whole false at head (p ++ rest) long
    ∙ rw (said, some, fits, behind)
    (at-once at p rest (records_of false (place_behind at (length p))))

records-read : (time at : ℕ) (packets : List (List ℕ))
    → IsStream packets
    → records_of false at (flat_map (record_of time) packets) ≡ sound (all_octets packets)
records-read time at [] h = no-records false at
records-read time at (p ∷ ps) h =
    record-read time at p (flat_map (record_of time) ps) (sized p h.0)
    ∙ ap (before p) (records-read time (place_behind at (length p)) ps h.1)

pub capture_read : (time : ℕ) (packets : List (List ℕ))
    → IsStream packets
    → found_in (capture_of time packets) ≡ sound (all_octets packets)
unfolding capture_header
capture_read time packets h =
    capture_whole false capture_header (flat_map (record_of time) packets) refl (omega arith)
    ∙ records-read time 24 packets h

-- ---- streams

type-small : (k : PacketKind) → packet_type k ≤ 1
type-small Tm = omega arith
type-small Tc = omega arith

small-packet : (b : List ℕ) (f : Fields) → IsPacket b f → word_at b 0 < 8192
small-packet b f h =
    let ranges = h.ranges in
    let kind = type-small f.kind in
    let word : word_at b 0
    ≡ packet_type f.kind * 4096 + 2048 + f.apid = ap (λ x. word_at x 0) h.spelled
    ∙ word_at-0 f h.ranges in
    omega (arith, word, kind, ranges.apid_fits)

small-idle : (b : List ℕ) → IsIdle b → word_at b 0 < 8192
small-idle b h =
    let version = h.version in
    omega (arith, version)

-- the first three bits of a packet are zeros
first-small : (b : List ℕ) → IsPacketOrIdle b → slice_index b 0 < 32
first-small b h =
    let word = ⊎_elim (λ p. small-packet b p.0 p.1) (λ i. small-idle b i.0) h in
    omega (arith, word)

and-false : (a : Bool) → (a && false) ≡ false
and-false true = refl
and-false false = refl

not-so : (w x y z : ℕ) (b : List ℕ) → slice_index b 0 < 32 → 32 ≤ w → begins_so w x y z b ≡ false
not-so w x y z b small large =
    let other = ne_eqb (slice_index b 0) w (λ e. omega (arith, e, small, large)) in
    rw other (and-false (nat_le 4 (length b)))

no-capture : (b : List ℕ) → slice_index b 0 < 32 → order_of b ≡ None
no-capture b small =
    let p = not-so 0xa1 0xb2 0xc3 0xd4 b small (omega arith) in
    let q = not-so 0xa1 0xb2 0x3c 0x4d b small (omega arith) in
    let r = not-so 0xd4 0xc3 0xb2 0xa1 b small (omega arith) in
    let s = not-so 0x4d 0x3c 0xb2 0xa1 b small (omega arith) in
    rw (p, q, r, s) refl

third-octet : (f : Fields) → InRange f.apid f.count f.octets → 192 ≤ slice_index (spelling f) 2
unfolding spelling
third-octet f r = omega (arith, r.count_fits)

-- the two flags of a packet's sequence are set, so its third octet isn't 13
other-packet : (b : List ℕ) (f : Fields) → IsPacket b f → slice_index b 2 ≡ 13 → ⊥
other-packet b f h third =
    let same : slice_index b 2 ≡ slice_index (spelling f) 2 = ap (λ x. slice_index x 2) h.spelled in
    omega (arith, third, same, third-octet f h.ranges)

-- the APID of an idle one is 2047, so it doesn't begin with 10 and 13
other-idle : (b : List ℕ) → IsIdle b → slice_index b 0 ≡ 10 → slice_index b 1 ≡ 13 → ⊥
other-idle b h first second =
    let apid = h.apid in
    omega (arith, apid, first, second)

other-kind : (b : List ℕ) → IsPacketOrIdle b
    → slice_index b 0 ≡ 10
    → slice_index b 1 ≡ 13
    → slice_index b 2 ≡ 13
    → ⊥
other-kind b h p q r =
    ⊎_elim (λ packet. other-packet b packet.0 packet.1 r) (λ idle. other-idle b idle.0 p q) h

not-pcapng : (b : List ℕ)
    → (slice_index b 0 ≡ 10 → slice_index b 1 ≡ 13 → slice_index b 2 ≡ 13 → ⊥)
    → is_pcapng b ≡ false
not-pcapng b other = grind arith

pub stream_read : (packets : List (List ℕ))
    → IsStream packets
    → found_in (all_octets packets) ≡ sound (all_octets packets)
unfolding found_in
stream_read [] h = refl
stream_read (p ∷ ps) h =
    let all = p ++ all_octets ps in
    let size = (sized p h.0).some in
    let rest = all_octets ps in
    let first : slice_index all 0 ≡ slice_index p 0 =
    get_or_append_left p rest 0 0 (omega (arith, size)) in
    let second : slice_index all 1 ≡ slice_index p 1 =
    get_or_append_left p rest 0 1 (omega (arith, size)) in
    let third : slice_index all 2 ≡ slice_index p 2 =
    get_or_append_left p rest 0 2 (omega (arith, size)) in
    let small = first-small p h.0 in
    ap (λ o. found_by o all) (no-capture all (omega (arith, first, small)))
    ∙ ap (λ (other : Bool). if other then broken_finding [] Pcapng else sound all)
    (not-pcapng all (λ a b c. other-kind p h.0 (sym first ∙ a) (sym second ∙ b) (sym third ∙ c)))

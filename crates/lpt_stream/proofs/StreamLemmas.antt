-- Packets are cut out by their lengths, and seen.
use Rattle.std.proofs.Common.{◌≡◌, ◌∙◌, ap, sym, ℕ, ◌+◌, ◌*◌, ◌≤◌, nat_lt, false, if◌then◌else◌, List, ◌++◌, length, Some, None, Result, Ok, Err, arith, length-append}
use Rattle.std.specs.Result.{result_ok}
use Rattle.std.proofs.lemmas.List.{get_or_append_left}
use Rattle.std.proofs.Math.Seq.{take-append_seam, drop-append_seam}
use Rattle.lpt_packet.specs.Numbers.{word_at}
use Rattle.lpt_packet.specs.declared.fault.PacketFault.{PacketFault}
use Rattle.lpt_packet.specs.declared.packet.Seen.{Seen}
use Rattle.lpt_packet.specs.Packets.{Fields, IsPacket, IsIdle, Sight, packet_seen, sight, verdict}
use Rattle.lpt_packet.proofs.Codec.{length-spelling, word_at-4}
use Rattle.lpt_packet.proofs.Readings.{lt_false}
use Rattle.lpt_stream.specs.Streams.{octets_wanted, cut_at, front_of, IsFramed}

-- ---- the front

-- a front's length stands in its first octets, whatever comes behind
pub word_at-front : (b rest : List ℕ) → 6 ≤ length b → word_at (b ++ rest) 4 ≡ word_at b 4
word_at-front b rest h =
    let high = get_or_append_left b rest 0 4 (omega arith) in
    let low = get_or_append_left b rest 0 5 (omega arith) in
    λ i. 256 * high i + low i

-- what is wanted of octets with a whole header
wanted-headed : (b : List ℕ) → 6 ≤ length b → octets_wanted b ≡ 7 + word_at b 4
wanted-headed b h = ap (λ t. if t then 6 else 7 + word_at b 4) (lt_false (length b) 6 h)

-- octets as their header says are cut out, whatever comes behind
pub framed_first : (b rest : List ℕ) → IsFramed b → front_of (b ++ rest) ≡ Some (b, rest)
unfolding front_of
framed_first b rest h =
    let all = b ++ rest in
    let size : length all ≡ length b + length rest = length-append b rest in
    let same : 7 + word_at all 4 ≡ length b = ap (λ n. 7 + n) (word_at-front b rest h.headed)
    ∙ sym h.whole in
    let want : octets_wanted all ≡ length b = wanted-headed all (omega (arith, h.headed)) ∙ same in
    let enough : nat_lt (length all) (octets_wanted all) ≡ false = lt_false _ _ (omega arith) in
    ap (λ t. if t then None else Some (cut_at (7 + word_at all 4) all)) enough
    ∙ ap (λ n. Some (cut_at n all)) same
    ∙ (λ i. Some (take-append_seam b rest i, drop-append_seam b rest i))

-- ---- packets

-- a packet is as many octets as its header says
pub framed_packet : (b : List ℕ) (f : Fields) → IsPacket b f → IsFramed b
framed_packet b f h =
    let long : length b ≡ length f.octets + 8 = ap length h.spelled ∙ length-spelling f in
    let word : word_at b 4 ≡ length f.octets + 1 = ap (λ x. word_at x 4) h.spelled
    ∙ word_at-4 f h.ranges in
    record { headed = omega arith; whole = omega arith }

-- an idle packet is
pub framed_idle : (b : List ℕ) → IsIdle b → IsFramed b
framed_idle b h =
    let long = h.long in
    record { headed = omega arith; whole = h.data_length }

-- ---- what is seen

-- what a reader saw is seen
pub seen-read : (b : List ℕ) (s r : Seen)
    → packet_seen b ≡ result_ok (verdict b)
    → verdict b ≡ Ok (sight s)
    → s ≡ r
    → packet_seen b ≡ Some (sight r)
seen-read b s r law reads same =
    law ∙ ap (λ (r : Result Sight PacketFault). result_ok r) reads
    ∙ ap (λ (s : Seen). Some (sight s)) same

-- and nothing where it gave a fault
pub seen-unread : (b : List ℕ) (e : PacketFault)
    → packet_seen b ≡ result_ok (verdict b)
    → verdict b ≡ Err e
    → packet_seen b ≡ None
seen-unread b e law h = law ∙ ap (λ (r : Result Sight PacketFault). result_ok r) h

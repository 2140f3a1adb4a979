-- What passes the reader's tests is what it is seen as.
use Rattle.std.proofs.Common.{◌≡◌, ◌≢◌, ◌∙◌, ap, sym, subst, ℕ, suc, ◌+◌, ◌-◌, ◌*◌, ◌/◌, ◌%◌, ◌<◌, ◌≤◌, List, [], ◌∷◌, ◌++◌, length, take, drop, arith, Result, Ok, Err, get_or}
use Rattle.std.proofs.lemmas.List.{take-append-drop, length-take}
use Rattle.std.specs.Prelude.{IfOk}
use Rattle.lpt_packet.specs.declared.packet.Seen.{Seen}
use Rattle.lpt_packet.specs.Packets.{Gives, sight, Fields, spelling, IsPacket, IsIdle, Sight, IdlePacket, APacket, fields_at, verdict, IsSight, header, packet_type, kind_of}
use Rattle.lpt_packet.specs.Numbers.{be, word_at, IsOctets}
use Rattle.lpt_packet.specs.Checksums.{checksum}
use Rattle.lpt_packet.specs.Ranges.{InRange}
use Rattle.lpt_packet.specs.declared.fault.PacketFault.{PacketFault}
use Rattle.lpt_packet.proofs.Codec.{word_cells, drop-last_word, packet_type-kind_of}
use Rattle.lpt_packet.proofs.Readings.{tests_passed, tests_passed_idle, not_lt, true_eq, false_eq, packet_again, idle_again}

-- ---- from the tests to the spelling

-- the octets before the checksum are the header of their fields, and the data field
front_at : (b : List ℕ) → IsOctets b → 8 ≤ length b → word_at b 0 / 8192 ≡ 0 → length b ≡ 7 + word_at b 4 → word_at b 2 / 16384 ≡ 3 → word_at b 0 / 2048 % 2 ≡ 1 → take (length b - 2) b ≡ header (fields_at b) ++ (fields_at b).octets
front_at (x0 ∷ x1 ∷ x2 ∷ x3 ∷ x4 ∷ x5 ∷ rest) o long version fits flags secondary =
    let w0 = 256 * x0 + x1 in
    let w1 = 256 * x2 + x3 in
    let w2 = 256 * x4 + x5 in
    let octets = take (length (x0 ∷ x1 ∷ x2 ∷ x3 ∷ x4 ∷ x5 ∷ rest) - 8) rest in
    let b0 : x0 < 256 = o 0 in
    let b1 : x1 < 256 = o 1 in
    let b2 : x2 < 256 = o 2 in
    let b3 : x3 < 256 = o 3 in
    let b4 : x4 < 256 = o 4 in
    let b5 : x5 < 256 = o 5 in
    let type_bit : packet_type (kind_of w0) ≡ w0 / 4096 % 2 = packet_type-kind_of w0 in
    let first : packet_type (kind_of w0) * 4096 + 2048 + w0 % 2048 ≡ w0 = omega arith in
    let second : 49152 + w1 % 16384 ≡ w1 = omega arith in
    let size : length octets ≡ length rest - 2 = omega (arith, length-take (length (x0 ∷ x1 ∷ x2 ∷ x3 ∷ x4 ∷ x5 ∷ rest) - 8) rest) in
    let third : length octets + 1 ≡ w2 = omega arith in
    let e0 : be (packet_type (kind_of w0) * 4096 + 2048 + w0 % 2048) 2 ≡ x0 ∷ x1 ∷ [] = ap (λ n. be n 2) first ∙ word_cells x0 x1 b0 b1 in
    let e1 : be (49152 + w1 % 16384) 2 ≡ x2 ∷ x3 ∷ [] = ap (λ n. be n 2) second ∙ word_cells x2 x3 b2 b3 in
    let e2 : be (length octets + 1) 2 ≡ x4 ∷ x5 ∷ [] = ap (λ n. be n 2) third ∙ word_cells x4 x5 b4 b5 in
    let cut : length (x0 ∷ x1 ∷ x2 ∷ x3 ∷ x4 ∷ x5 ∷ rest) - 2 ≡ suc (suc (suc (suc (suc (suc (length rest - 2)))))) = omega arith in
    let same : length rest - 2 ≡ length (x0 ∷ x1 ∷ x2 ∷ x3 ∷ x4 ∷ x5 ∷ rest) - 8 = omega arith in
    ap (λ n. take n (x0 ∷ x1 ∷ x2 ∷ x3 ∷ x4 ∷ x5 ∷ rest)) cut
    ∙ ap (λ n. x0 ∷ x1 ∷ x2 ∷ x3 ∷ x4 ∷ x5 ∷ take n rest) same
    ∙ sym (λ i. (e0 i ++ e1 i ++ e2 i) ++ octets)
front_at [] o long version fits flags secondary = absurd (omega arith)
front_at (x0 ∷ []) o long version fits flags secondary = absurd (omega arith)
front_at (x0 ∷ x1 ∷ []) o long version fits flags secondary = absurd (omega arith)
front_at (x0 ∷ x1 ∷ x2 ∷ []) o long version fits flags secondary = absurd (omega arith)
front_at (x0 ∷ x1 ∷ x2 ∷ x3 ∷ []) o long version fits flags secondary = absurd (omega arith)
front_at (x0 ∷ x1 ∷ x2 ∷ x3 ∷ x4 ∷ []) o long version fits flags secondary = absurd (omega arith)

-- fields that passed the tests are in their ranges
ranges_at : (b : List ℕ) → IsOctets b → 8 ≤ length b → length b ≡ 7 + word_at b 4 → word_at b 0 % 2048 ≢ 2047
    → InRange (fields_at b).apid (fields_at b).count (fields_at b).octets
ranges_at b o long fits busy =
    let high : get_or b 4 0 < 256 = o 4 in
    let low : get_or b (4 + 1) 0 < 256 = o (4 + 1) in
    record {
      apid_fits = omega arith;
      count_fits = omega arith;
      field_fits = omega (arith, length-take (length b - 8) (drop 6 b));
    }

spelled_at : (b : List ℕ) → IsOctets b → 8 ≤ length b → word_at b 0 / 8192 ≡ 0 → length b ≡ 7 + word_at b 4
    → word_at b 2 / 16384 ≡ 3 → word_at b 0 / 2048 % 2 ≡ 1 → checksum (take (length b - 2) b) ≡ word_at b (length b - 2)
    → b ≡ spelling (fields_at b)
unfolding spelling
spelled_at b o long version fits flags secondary seals =
    let front : take (length b - 2) b ≡ header (fields_at b) ++ (fields_at b).octets = front_at b o long version fits flags secondary in
    let last : drop (length b - 2) b ≡ be (word_at b (length b - 2)) 2 = drop-last_word b (length b - 2) o (omega arith) in
    let tail : drop (length b - 2) b ≡ be (checksum (header (fields_at b) ++ (fields_at b).octets)) 2 = last ∙ ap (λ n. be n 2) (sym seals ∙ ap checksum front) in
    sym (take-append-drop (length b - 2) b) ∙ (λ i. front i ++ tail i)

found_packet : (b : List ℕ) (f : Fields) → IsOctets b → verdict b ≡ Ok (APacket f) → IsPacket b f
found_packet b f o h =
    let p = tests_passed b f h in
    let long : 8 ≤ length b = not_lt _ _ p.has_checksum in
    let fits : length b ≡ 7 + word_at b 4 = true_eq _ _ p.length_fits in
    let it : IsPacket b (fields_at b) = record {
      ranges = ranges_at b o long fits (false_eq _ _ p.not_idle);
      spelled = spelled_at b o long (true_eq _ _ p.version_0) fits (true_eq _ _ p.unsegmented) (true_eq _ _ p.has_header) (true_eq _ _ p.sealed);
    } in
    subst (λ (g : Fields). IsPacket b g) p.same it

found_idle : (b : List ℕ) → verdict b ≡ Ok IdlePacket → IsIdle b
found_idle b h =
    let p = tests_passed_idle b h in
    record { long = not_lt _ _ p.long; version = true_eq _ _ p.version_0; apid = true_eq _ _ p.idles; data_length = true_eq _ _ p.length_fits }

-- what the reader answers is what the octets are
pub found : (b : List ℕ) (s : Sight) → IsOctets b → verdict b ≡ Ok s → IsSight b s
found b IdlePacket o h = found_idle b h
found b (APacket f) o h = found_packet b f o h

-- what the octets are is what the reader answers
pub again : (b : List ℕ) (s : Sight) → IsSight b s → verdict b ≡ Ok s
again b IdlePacket h = idle_again b h
again b (APacket f) h = packet_again b f h

-- the same of a reader's answer
pub found_gives : (b : List ℕ) (r : Result Seen PacketFault) → IsOctets b → Gives r (verdict b) → IfOk r (λ s. IsSight b (sight s))
found_gives b (Ok s) o h = found b (sight s) o h
found_gives b (Err e) o h = tt

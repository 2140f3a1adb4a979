-- A packet without a packet error control: what its reader's tests let through.
use Rattle.std.proofs.Common.{◌≡◌, ◌≢◌, ◌∙◌, ap, sym, subst, refl, ℕ, ◌+◌, ◌-◌, ◌*◌, ◌/◌, ◌%◌, ◌<◌, ◌≤◌, ◌==◌, nat_lt, Bool, true, false, if◌then◌else◌, List, [], ◌∷◌, ◌++◌, length, get_or, arith, Result, Ok, Err, IfOk, length-drop}
use Rattle.lpt_packet.specs.declared.fault.PacketFault.{PacketFault}
use Rattle.lpt_packet.specs.declared.fault.PacketFault.TheVariants.{Short, Version, Length, Segmented, NoSecondary}
use Rattle.lpt_packet.specs.Numbers.{be, word_at, IsOctets}
use Rattle.lpt_packet.specs.Packets.{octets_sealed as sealed_of, header_of, Fields, Sight, IdlePacket, APacket, IsIdle, IsPacket, packet_type, kind_of, spelling}
use Rattle.lpt_packet.proofs.Codec.{word_cells, packet_type_small, packet_type-kind_of, kind_of-packet_type, same_fields, length-spelling}
use Rattle.lpt_packet.proofs.Found as sealed
use Rattle.lpt_packet.proofs.Readings.{lt_false, not_lt, eq_true, eq_false, true_eq, false_eq}
use Rattle.lpt_layout.specs.declared.packet.SeenAs.{SeenAs}
use Rattle.lpt_layout.specs.Layouts.{trailer}
use Rattle.lpt_layout.specs.Packets.{packet_closed, bare_header, spelling_as, FieldsFit, IsPacketAs, bare_at, verdict_as, sight, IsSightAs, Gives}

-- ---- the tests as bits

abbrev chain : (short version fits idle flags secondary : Bool) → Fields → Result Sight PacketFault
chain short version fits idle flags secondary f =
    if short then Err Short
    else if version then
    (if fits then
    (if idle then Ok IdlePacket
    else if flags then (if secondary then Ok (APacket f) else Err NoSecondary)
    else Err Segmented)
    else Err Length)
    else Err Version

bare_is : (b : List ℕ) → verdict_as false b
    ≡ chain (nat_lt (length b) 7) (word_at b 0 / 8192 == 0) (length b == 7 + word_at b 4)
    (word_at b 0 % 2048 == 2047) (word_at b 2 / 16384 == 3) (word_at b 0 / 2048 % 2 == 1)
    (bare_at b)
unfolding verdict_as
bare_is b = refl

-- what a packet has passed, and what an idle one has
abbrev Passed : (short version fits idle flags secondary : Bool) → Fields → Sight → Type 0
Passed short version fits idle flags secondary f IdlePacket =
    (short ≡ false) × (version ≡ true) × (fits ≡ true) × (idle ≡ true)
Passed short version fits idle flags secondary f (APacket g) =
    (short ≡ false) × (version ≡ true) × (fits ≡ true) × (idle ≡ false) × (flags ≡ true)
    × (secondary ≡ true) × (f ≡ g)

passed : (a b c d e h : Bool) (f : Fields) (s : Sight)
    → chain a b c d e h f ≡ Ok s
    → Passed a b c d e h f s
passed true b c d e h f s k = absurd cc
passed false false c d e h f s k = absurd cc
passed false true false d e h f s k = absurd cc
passed false true true true e h f IdlePacket k = (refl, refl, refl, refl)
passed false true true true e h f (APacket g) k = absurd cc
passed false true true false false h f s k = absurd cc
passed false true true false true false f s k = absurd cc
passed false true true false true true f IdlePacket k = absurd cc
passed false true true false true true f (APacket g) k =
    (refl, refl, refl, refl, refl, refl, cc)

-- ---- what is written is read

bare_again : (f : Fields)
    → FieldsFit false f
    → verdict_as false (bare_header f ++ f.octets) ≡ Ok (APacket f)
bare_again f r =
    let b : List ℕ = bare_header f ++ f.octets in
    let small : packet_type f.kind < 2 = packet_type_small f.kind in
    let len : length b ≡ length f.octets + 6 = omega arith in
    let first : word_at b 0 ≡ packet_type f.kind * 4096 + 2048 + f.apid =
    omega (arith, r.apid_fits) in
    let second : word_at b 2 ≡ 49152 + f.count = omega (arith, r.count_fits) in
    let third : word_at b 4 ≡ length f.octets - 1 = omega (arith, r.field_fits) in
    let some : 1 ≤ length f.octets = omega (arith, r.some) in
    let apid : f.apid ≤ 2046 = r.apid_fits in
    let count : f.count ≤ 16383 = r.count_fits in
    let not_short : nat_lt (length b) 7 ≡ false = lt_false (length b) 7 (omega arith) in
    let version : (word_at b 0 / 8192 == 0) ≡ true = eq_true _ _ (omega arith) in
    let fits : (length b == 7 + word_at b 4) ≡ true = eq_true _ _ (omega arith) in
    let busy : (word_at b 0 % 2048 == 2047) ≡ false = eq_false _ _ (omega arith) in
    let flags : (word_at b 2 / 16384 == 3) ≡ true = eq_true _ _ (omega arith) in
    let secondary : (word_at b 0 / 2048 % 2 == 1) ≡ true = eq_true _ _ (omega arith) in
    let same : bare_at b ≡ f = same_fields _ _ _ _ _ _ _ _
    (kind_of-packet_type f.kind (word_at b 0) (omega arith)) (omega arith) (omega arith) refl in
    bare_is b
    ∙ (λ i. chain (not_short i) (version i) (fits i) (busy i) (flags i) (secondary i) (same i))

idle_again : (b : List ℕ) → IsIdle b → verdict_as false b ≡ Ok IdlePacket
idle_again b h =
    let not_short : nat_lt (length b) 7 ≡ false = lt_false (length b) 7 h.long in
    let version : (word_at b 0 / 8192 == 0) ≡ true = eq_true _ _ h.version in
    let fits : (length b == 7 + word_at b 4) ≡ true = eq_true _ _ h.data_length in
    let idles : (word_at b 0 % 2048 == 2047) ≡ true = eq_true _ _ h.apid in
    bare_is b ∙ (λ i. chain (not_short i) (version i) (fits i) (idles i)
    (word_at b 2 / 16384 == 3) (word_at b 0 / 2048 % 2 == 1) (bare_at b))

-- ---- what is read

-- octets that passed the tests are spelled by what stands at their places
bare_spelled : (b : List ℕ)
    → IsOctets b
    → 7 ≤ length b
    → word_at b 0 / 8192 ≡ 0
    → length b ≡ 7 + word_at b 4
    → word_at b 2 / 16384 ≡ 3
    → word_at b 0 / 2048 % 2 ≡ 1
    → b ≡ bare_header (bare_at b) ++ (bare_at b).octets
bare_spelled (x0 ∷ x1 ∷ x2 ∷ x3 ∷ x4 ∷ x5 ∷ rest) o long version fits flags secondary =
    let w0 : ℕ = 256 * x0 + x1 in
    let w1 : ℕ = 256 * x2 + x3 in
    let b0 : x0 < 256 = o 0 in
    let b1 : x1 < 256 = o 1 in
    let b2 : x2 < 256 = o 2 in
    let b3 : x3 < 256 = o 3 in
    let b4 : x4 < 256 = o 4 in
    let b5 : x5 < 256 = o 5 in
    let type_bit : packet_type (kind_of w0) ≡ w0 / 4096 % 2 = packet_type-kind_of w0 in
    let first : packet_type (kind_of w0) * 4096 + 2048 + w0 % 2048 ≡ w0 = omega arith in
    let second : 49152 + w1 % 16384 ≡ w1 = omega arith in
    let third : length rest - 1 ≡ 256 * x4 + x5 = omega arith in
    let e0 = ap (λ n. be n 2) first ∙ word_cells x0 x1 b0 b1 in
    let e1 = ap (λ n. be n 2) second ∙ word_cells x2 x3 b2 b3 in
    let e2 = ap (λ n. be n 2) third ∙ word_cells x4 x5 b4 b5 in
    sym (λ i. (e0 i ++ e1 i ++ e2 i) ++ rest)
bare_spelled [] o long version fits flags secondary = absurd (omega arith)
bare_spelled (x0 ∷ []) o long version fits flags secondary = absurd (omega arith)
bare_spelled (x0 ∷ x1 ∷ []) o long version fits flags secondary = absurd (omega arith)
bare_spelled (x0 ∷ x1 ∷ x2 ∷ []) o long version fits flags secondary = absurd (omega arith)
bare_spelled (x0 ∷ x1 ∷ x2 ∷ x3 ∷ []) o long version fits flags secondary = absurd (omega arith)
bare_spelled (x0 ∷ x1 ∷ x2 ∷ x3 ∷ x4 ∷ []) o long version fits flags secondary =
    absurd (omega arith)

bare_ranges : (b : List ℕ)
    → IsOctets b
    → 7 ≤ length b
    → length b ≡ 7 + word_at b 4
    → word_at b 0 % 2048 ≢ 2047
    → FieldsFit false (bare_at b)
bare_ranges b o long fits busy =
    let high : get_or b 4 0 < 256 = o 4 in
    let low : get_or b (4 + 1) 0 < 256 = o (4 + 1) in
    record {
      apid_fits = omega arith;
      count_fits = omega arith;
      some = omega (arith, length-drop 6 b);
      field_fits = omega (arith, length-drop 6 b);
    }

bare_found : (b : List ℕ) (s : Sight)
    → IsOctets b
    → Passed (nat_lt (length b) 7) (word_at b 0 / 8192 == 0) (length b == 7 + word_at b 4)
    (word_at b 0 % 2048 == 2047) (word_at b 2 / 16384 == 3) (word_at b 0 / 2048 % 2 == 1)
    (bare_at b) s
    → IsSightAs false b s
unfolding spelling_as
bare_found b IdlePacket o p = record {
  long = not_lt _ _ p.0;
  version = true_eq _ _ p.1;
  apid = true_eq _ _ p.3;
  data_length = true_eq _ _ p.2;
}
bare_found b (APacket g) o p =
    let long : 7 ≤ length b = not_lt _ _ p.0 in
    let fits : length b ≡ 7 + word_at b 4 = true_eq _ _ p.2 in
    let it : IsPacketAs false b (bare_at b) = record {
      ranges = bare_ranges b o long fits (false_eq _ _ p.3);
      spelled = bare_spelled b o long (true_eq _ _ p.1) fits (true_eq _ _ p.4) (true_eq _ _ p.5);
    } in
    subst (λ (f : Fields). IsPacketAs false b f) p.6 it

-- ---- with a packet error control or without

-- what the reader answers is what the octets are
pub found : (ends : Bool) (b : List ℕ) (s : Sight)
    → IsOctets b
    → verdict_as ends b ≡ Ok s
    → IsSightAs ends b s
unfolding verdict_as spelling_as
found true b IdlePacket o h = sealed.found b IdlePacket o h
found true b (APacket f) o h =
    let p = sealed.found b (APacket f) o h in
    record {
      ranges = record {
        apid_fits = p.ranges.apid_fits;
        count_fits = p.ranges.count_fits;
        some = omega arith;
        field_fits = omega (arith, p.ranges.field_fits);
      };
      spelled = p.spelled;
    }
found false b s o h = bare_found b s o (passed _ _ _ _ _ _ _ s h)

-- a packet with a packet error control is one of this project's own
pub is_packet : (b : List ℕ) (f : Fields) → IsPacketAs true b f → IsPacket b f
unfolding spelling_as
is_packet b f h = record {
  ranges = record {
    apid_fits = h.ranges.apid_fits;
    count_fits = h.ranges.count_fits;
    field_fits = omega (arith, h.ranges.field_fits);
  };
  spelled = h.spelled;
}

-- what the octets are is what the reader answers
pub again : (ends : Bool) (b : List ℕ) (s : Sight)
    → IsSightAs ends b s
    → verdict_as ends b ≡ Ok s
unfolding verdict_as spelling_as
again true b IdlePacket h = sealed.again b IdlePacket h
again true b (APacket f) h = sealed.again b (APacket f) (is_packet b f h)
again false b IdlePacket h = idle_again b h
again false b (APacket f) h = ap (verdict_as false) h.spelled ∙ bare_again f h.ranges

-- the same of a reader's answer
pub found_gives : (ends : Bool) (b : List ℕ) (r : Result SeenAs PacketFault)
    → IsOctets b
    → Gives r (verdict_as ends b)
    → IfOk r (λ s. IsSightAs ends b (sight s))
found_gives ends b (Ok s) o h = found ends b (sight s) o h
found_gives ends b (Err e) o h = tt

-- how long a packet is
pub length-spelling_as : (ends : Bool) (f : Fields)
    → length (spelling_as ends f) ≡ 6 + (length f.octets + trailer ends)
unfolding spelling_as
length-spelling_as true f = omega (arith, length-spelling f)
length-spelling_as false f = omega arith

-- ---- what is written

-- a header with the right data length, and the data field, are the front of the packet
pub closed-spelled : (ends : Bool) (f : Fields) (n : ℕ)
    → 3 ≤ length f.octets
    → n ≡ length f.octets + trailer ends
    → packet_closed ends (header_of f.kind f.apid f.count (n - 2) ++ f.octets) ≡ spelling_as ends f
unfolding spelling_as spelling
closed-spelled true f n some e =
    let len : n - 2 ≡ length f.octets = omega arith in
    ap (λ k. sealed_of (header_of f.kind f.apid f.count k ++ f.octets)) len
closed-spelled false f n some e =
    let len : n - 2 + 1 ≡ length f.octets - 1 = omega arith in
    ap (λ k. (be (packet_type f.kind * 4096 + 2048 + f.apid) 2 ++ be (49152 + f.count) 2 ++ be k 2)
    ++ f.octets) len

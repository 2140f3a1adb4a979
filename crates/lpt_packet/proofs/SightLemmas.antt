-- What octets are seen as, by their fields, is what the relation and the reader's tests say.
use Rattle.std.proofs.Common.{◌≡◌, ◌≢◌, ◌∙◌, ap, sym, subst, ℕ, ◌+◌, ◌-◌, ◌*◌, ◌/◌, ◌%◌, ◌<◌, ◌≤◌, ◌==◌, nat_le, Bool, true, false, ◌&&◌, if◌then◌else◌, List, [], ◌∷◌, length, drop, refl, arith, Option, Some, None, Result, Ok, Err}
use Rattle.std.proofs.lemmas.List.{length-take}
use Rattle.std.proofs.lemmas.Bool.Decides.{nat_tests}
use Rattle.std.specs.Result.{result_ok}
use Rattle.lpt_packet.specs.Packets.{Fields, spelling, IsPacket, IsIdle, Sight, IdlePacket, APacket, fields_at, verdict, packet_seen, sight, IsSight, is_idle, is_packet, packet_type}
use Rattle.lpt_packet.specs.Numbers.{word_at, IsOctets, same_octets}
use Rattle.lpt_packet.specs.Ranges.{InRange}
use Rattle.lpt_packet.specs.declared.fault.PacketFault.{PacketFault}
use Rattle.lpt_packet.specs.declared.packet.Seen.{Seen}
use Rattle.lpt_packet.proofs.BoolLemmas.{and_left, and_right, and_both, le_true, true_le}
use Rattle.lpt_packet.proofs.Codec.{fields_at-spelling, length-spelling, word_at-0, packet_type_small}
use Rattle.lpt_packet.proofs.Readings.{eq_true, true_eq}
use Rattle.lpt_packet.proofs.Found.{found, again}

-- ---- tests

pub same_octets-refl : (b : List ℕ) → same_octets b b ≡ true
same_octets-refl [] = refl
same_octets-refl (x ∷ b) = grind (arith, nat_tests, same_octets-refl b)

isnt_true : (a : Bool) → (a ≡ true → ⊥) → a ≡ false
isnt_true true h = absurd (h refl)
isnt_true false h = refl

pub same_octets-true : (b d : List ℕ) → same_octets b d ≡ true → b ≡ d
same_octets-true [] [] h = refl
same_octets-true [] (y ∷ d) h = absurd cc
same_octets-true (x ∷ b) [] h = absurd cc
same_octets-true (x ∷ b) (y ∷ d) h =
    let head : x ≡ y = true_eq x y (and_left (x == y) (same_octets b d) h) in
    let rest : b ≡ d = same_octets-true b d (and_right (x == y) (same_octets b d) h) in
    cc

-- ---- idle packets

idle_true : (b : List ℕ) → IsIdle b → is_idle b ≡ true
idle_true b h =
    and_both _ (length b == 7 + word_at b 4)
    (and_both _ (word_at b 0 % 2048 == 2047)
    (and_both (nat_le 7 (length b)) (word_at b 0 / 8192 == 0) (le_true _ _ h.long) (eq_true _ _ h.version))
    (eq_true _ _ h.apid))
    (eq_true _ _ h.data_length)

true_idle : (b : List ℕ) → is_idle b ≡ true → IsIdle b
true_idle b h =
    let three = and_left (nat_le 7 (length b) && (word_at b 0 / 8192 == 0) && (word_at b 0 % 2048 == 2047)) (length b == 7 + word_at b 4) h in
    let two = and_left (nat_le 7 (length b) && (word_at b 0 / 8192 == 0)) (word_at b 0 % 2048 == 2047) three in
    record {
      long = true_le _ _ (and_left (nat_le 7 (length b)) (word_at b 0 / 8192 == 0) two);
      version = true_eq _ _ (and_right (nat_le 7 (length b)) (word_at b 0 / 8192 == 0) two);
      apid = true_eq _ _ (and_right (nat_le 7 (length b) && (word_at b 0 / 8192 == 0)) (word_at b 0 % 2048 == 2047) three);
      data_length = true_eq _ _ (and_right (nat_le 7 (length b) && (word_at b 0 / 8192 == 0) && (word_at b 0 % 2048 == 2047)) (length b == 7 + word_at b 4) h);
    }

-- ---- packets

spelling_true : (f : Fields) → InRange f.apid f.count f.octets → is_packet (spelling f) ≡ true
spelling_true f r =
    let b = spelling f in
    let first : word_at b 0 ≡ packet_type f.kind * 4096 + 2048 + f.apid = word_at-0 f r in
    let small : packet_type f.kind < 2 = packet_type_small f.kind in
    let apid : nat_le (word_at b 0 % 2048) 2046 ≡ true = le_true _ _ (omega arith) in
    let size : nat_le (length b) 65542 ≡ true = le_true _ _ (omega (arith, length-spelling f)) in
    and_both (nat_le (length b) 65542 && nat_le (word_at b 0 % 2048) 2046) (same_octets b (spelling (fields_at b)))
    (and_both (nat_le (length b) 65542) (nat_le (word_at b 0 % 2048) 2046) size apid)
    (ap (λ g. same_octets b (spelling g)) (fields_at-spelling f r) ∙ same_octets-refl b)

true_packet : (b : List ℕ) → is_packet b ≡ true → IsPacket b (fields_at b)
true_packet b h =
    let sizes = and_left (nat_le (length b) 65542 && nat_le (word_at b 0 % 2048) 2046) (same_octets b (spelling (fields_at b))) h in
    let size : length b ≤ 65542 = true_le _ _ (and_left (nat_le (length b) 65542) (nat_le (word_at b 0 % 2048) 2046) sizes) in
    record {
      ranges = record {
        apid_fits = true_le _ _ (and_right (nat_le (length b) 65542) (nat_le (word_at b 0 % 2048) 2046) sizes);
        count_fits = omega arith;
        field_fits = omega (arith, length-take (length b - 8) (drop 6 b));
      };
      spelled = same_octets-true b (spelling (fields_at b)) (and_right (nat_le (length b) 65542 && nat_le (word_at b 0 % 2048) 2046) (same_octets b (spelling (fields_at b))) h);
    }

-- ---- what is seen

abbrev seen_by : Bool → Bool → Fields → Option Sight
seen_by idle packet f = if idle then Some IdlePacket else if packet then Some (APacket f) else None

seen_is : (b : List ℕ) → packet_seen b ≡ seen_by (is_idle b) (is_packet b) (fields_at b)
unfolding packet_seen
seen_is b = refl

-- what is written is seen again
pub seen_again : (f : Fields) → InRange f.apid f.count f.octets → packet_seen (spelling f)
    ≡ Some (APacket f)
seen_again f r =
    let first : word_at (spelling f) 0 ≡ packet_type f.kind * 4096 + 2048 + f.apid = word_at-0 f r in
    let small : packet_type f.kind < 2 = packet_type_small f.kind in
    let apid : f.apid ≤ 2046 = r.apid_fits in
    let other : word_at (spelling f) 0 % 2048 ≢ 2047 = omega arith in
    let busy : is_idle (spelling f) ≡ false = isnt_true _ (λ k. other (true_idle (spelling f) k).apid) in
    let packet : is_packet (spelling f) ≡ true = spelling_true f r in
    seen_is (spelling f) ∙ (λ i. seen_by (busy i) (packet i) (fields_at-spelling f r i))

-- what octets are is seen
pub sight_seen : (b : List ℕ) (s : Sight) → IsSight b s → packet_seen b ≡ Some s
sight_seen b IdlePacket h = seen_is b ∙ ap (λ t. seen_by t (is_packet b) (fields_at b)) (idle_true b h)
sight_seen b (APacket f) h = ap packet_seen h.spelled ∙ seen_again f h.ranges

-- what is seen is what the octets are
pub seen_sight : (b : List ℕ) (s : Sight) → packet_seen b ≡ Some s → IsSight b s
seen_sight b s h = go (is_idle b) (is_packet b) (true_idle b) (true_packet b) (sym (seen_is b) ∙ h) where
  go : (i p : Bool) → (i ≡ true → IsIdle b) → (p ≡ true → IsPacket b (fields_at b)) → seen_by i p (fields_at b) ≡ Some s → IsSight b s
  go true p idle packet k = let e : IdlePacket ≡ s = cc in subst (λ (x : Sight). IsSight b x) e (idle refl)
  go false true idle packet k = let e : APacket (fields_at b) ≡ s = cc in subst (λ (x : Sight). IsSight b x) e (packet refl)
  go false false idle packet k = absurd cc

-- what is seen is what the reader's tests let through
pub seen_verdict : (b : List ℕ) → IsOctets b → packet_seen b ≡ result_ok (verdict b)
seen_verdict b o = go (verdict b) refl where
  none : (e : PacketFault) → verdict b ≡ Err e → (v : Option Sight) → packet_seen b ≡ v → v ≡ None
  none e h None k = refl
  none e h (Some s) k = absurd (let a : verdict b ≡ Ok s = again b s (seen_sight b s k) in cc)

  go : (v : Result Sight PacketFault) → verdict b ≡ v → packet_seen b ≡ result_ok v
  go (Ok s) h = sight_seen b s (found b s o h)
  go (Err e) h = none e h (packet_seen b) refl

-- what a reader saw is seen
pub seen-read : (b : List ℕ) (s t : Seen)
    → packet_seen b ≡ result_ok (verdict b)
    → verdict b ≡ Ok (sight s)
    → s ≡ t
    → packet_seen b ≡ Some (sight t)
seen-read b s t law reads same =
    law ∙ ap (λ (r : Result Sight PacketFault). result_ok r) reads ∙ ap (λ (s : Seen). Some (sight s)) same

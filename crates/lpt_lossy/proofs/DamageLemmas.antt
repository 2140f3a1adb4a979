-- Changed bits of a packet show: it is none any more.
use Rattle.std.proofs.Common.{◌≡◌, ◌≢◌, ◌∙◌, ap, sym, refl, ℕ, zero, suc, ◌+◌, ◌*◌, ◌/◌, ◌%◌, ◌<◌, ◌≤◌, ◌&&◌, ◌||◌, nat_lt, Bool, true, false, List, [], ◌∷◌, ◌++◌, length, take, drop, get_or, Option, None, Some, Result, Ok, Err, arith, length-drop}
use Rattle.std.specs.Prelude.{bit_xor}
use lib.Bits.{xor_assoc, xor_self, xor_zero_l}
use Rattle.std.proofs.lemmas.Bool.Decides.{nat_tests}
use Rattle.std.proofs.lemmas.List.{length-append, length-take-le}
use Rattle.std.proofs.lemmas.Nat.{xor_mod}
use Rattle.std.specs.Result.{result_ok}
use Rattle.lpt_packet.specs.declared.fault.PacketFault.{PacketFault}
use Rattle.lpt_packet.specs.declared.packet.Seen.{Seen}
use Rattle.lpt_packet.specs.declared.packet.Seen.TheVariants as seen_as
use Rattle.lpt_packet.specs.Bursts.{all_bits, DifferInBurst}
use Rattle.lpt_packet.specs.Checksums.{bits}
use Rattle.lpt_packet.specs.Numbers.{word_at, IsOctets}
use Rattle.lpt_packet.specs.Packets.{Fields, Gives, Sight, IdlePacket, APacket, packet_seen, verdict}
use Rattle.lpt_packet.proofs.BoolLemmas.{and_left, and_right}
use Rattle.lpt_packet.proofs.Bursts.{burst_shows_in_packet}
use Rattle.lpt_packet.proofs.SightLemmas.{seen_sight, seen_verdict}
use Rattle.lpt_carried.specs.declared.layouts.Layouts.{Layouts}
use Rattle.lpt_lossy.specs.declared.dice.Odds.{Odds}
use Rattle.lpt_lossy.specs.declared.fate.Burst.{Burst}
use Rattle.lpt_lossy.specs.Bursts.{can_change, bits_changed, has_bits, is_allowed, is_read, is_there, is_within, shows_changes, tailored_for, IsDamage, IsKept}

-- ---- two octets in place of two

split-two : (at : ℕ) (b : List ℕ)
    → suc at < length b
    → b ≡ (take at b ++ (get_or b at 0 ∷ get_or b (suc at) 0 ∷ [])) ++ drop (suc (suc at)) b
split-two zero [] h = absurd (omega arith)
split-two zero (x ∷ []) h = absurd (omega arith)
split-two zero (x ∷ y ∷ b) h = refl
split-two (suc at) [] h = absurd (omega arith)
split-two (suc at) (x ∷ b) h = ap (λ (r : List ℕ). x ∷ r) (split-two at b (omega arith))

get-other : (i at x y : ℕ) (b : List ℕ)
    → suc at < length b
    → i ≢ at
    → i ≢ suc at
    → get_or ((take at b ++ (x ∷ y ∷ [])) ++ drop (suc (suc at)) b) i 0 ≡ get_or b i 0
get-other zero zero x y b h n m = absurd (n refl)
get-other (suc zero) zero x y b h n m = absurd (m refl)
get-other (suc (suc i)) zero x y [] h n m = absurd (omega arith)
get-other (suc (suc i)) zero x y (p ∷ []) h n m = absurd (omega arith)
get-other (suc (suc i)) zero x y (p ∷ q ∷ b) h n m = refl
get-other i (suc at) x y [] h n m = absurd (omega arith)
get-other zero (suc at) x y (p ∷ b) h n m = refl
get-other (suc i) (suc at) x y (p ∷ b) h n m =
    get-other i at x y b (omega arith) (λ (e : i ≡ at). n (ap suc e))
    (λ (e : i ≡ suc at). m (ap suc e))

length-two : (at x y : ℕ) (b : List ℕ)
    → suc at < length b
    → length ((take at b ++ (x ∷ y ∷ [])) ++ drop (suc (suc at)) b) ≡ length b
length-two at x y b h =
    omega (
      arith,
      length-append (take at b ++ (x ∷ y ∷ [])) (drop (suc (suc at)) b),
      length-append (take at b) (x ∷ y ∷ []),
      length-take-le at b (omega arith),
      length-drop (suc (suc at)) b,
    )

changed-is : (u : Burst) (b : List ℕ)
    → bits_changed u b
    ≡ (take u.at b ++ (bit_xor (get_or b u.at 0) u.first ∷ bit_xor (get_or b (suc u.at) 0) u.second
    ∷ []))
    ++ drop (suc (suc u.at)) b
changed-is u b =
    let one : u.at + 1 ≡ suc u.at = omega arith in
    let two : u.at + 2 ≡ suc (suc u.at) = omega arith in
    ap (λ (k : ℕ). (take u.at b ++ (bit_xor (get_or b u.at 0) u.first ∷ bit_xor (get_or b k 0)
    u.second ∷ []))
    ++ drop (u.at + 2) b) one
    ∙ ap (λ (k : ℕ). (take u.at b
    ++ (bit_xor (get_or b u.at 0) u.first ∷ bit_xor (get_or b (suc u.at) 0) u.second ∷ [])) ++ drop
    k b) two

-- ---- bits

all_bits-append : (a b : List ℕ) → all_bits (a ++ b) ≡ all_bits a ++ all_bits b
all_bits-append [] b = refl
all_bits-append (x ∷ a) b = ap (λ (r : List ℕ). bits x ++ r) (all_bits-append a b)

bits-two : (a c : List ℕ) (x y : ℕ)
    → all_bits ((a ++ (x ∷ y ∷ [])) ++ c) ≡ (all_bits a ++ (bits x ++ bits y)) ++ all_bits c
bits-two a c x y =
    all_bits-append (a ++ (x ∷ y ∷ [])) c
    ∙ ap (λ (r : List ℕ). r ++ all_bits c) (all_bits-append a (x ∷ y ∷ []))

-- the eight bits of an octet make it
octet-of : (n : ℕ) → n % 256
    ≡ 128 * (n / 128 % 2) + 64 * (n / 64 % 2) + 32 * (n / 32 % 2) + 16 * (n / 16 % 2)
    + 8 * (n / 8 % 2) + 4 * (n / 4 % 2) + 2 * (n / 2 % 2) + n % 2
octet-of n = omega arith

same-octet : (a b : ℕ) → bits a ≡ bits b → a % 256 ≡ b % 256
same-octet a b e =
    let e7 : a / 128 % 2 ≡ b / 128 % 2 = cc in
    let e6 : a / 64 % 2 ≡ b / 64 % 2 = cc in
    let e5 : a / 32 % 2 ≡ b / 32 % 2 = cc in
    let e4 : a / 16 % 2 ≡ b / 16 % 2 = cc in
    let e3 : a / 8 % 2 ≡ b / 8 % 2 = cc in
    let e2 : a / 4 % 2 ≡ b / 4 % 2 = cc in
    let e1 : a / 2 % 2 ≡ b / 2 % 2 = cc in
    let e0 : a % 2 ≡ b % 2 = cc in
    octet-of a
    ∙ rw (e7, e6, e5, e4, e3, e2, e1, e0) refl
    ∙ sym (octet-of b)

xor-none : (p f : ℕ) → bit_xor p f ≡ p → f ≡ 0
xor-none p f e =
    sym (xor_zero_l f)
    ∙ ap (λ (z : ℕ). bit_xor z f) (sym (xor_self p))
    ∙ xor_assoc p p f
    ∙ ap (bit_xor p) e
    ∙ xor_self p

octet-changed : (x f : ℕ) → has_bits f ≡ true → ¬ (bits x ≡ bits (bit_xor x f))
octet-changed x f h e =
    let some : 0 < f = grind (arith, nat_tests) in
    let few : f < 256 = grind (arith, nat_tests) in
    let low : f % 256 ≡ f = omega arith in
    let none : f ≡ 0 = xor-none (x % 256) f
    (ap (bit_xor (x % 256)) (sym low) ∙ sym (xor_mod x f 8) ∙ sym (same-octet x (bit_xor x f) e)) in
    omega arith

two-changed : (x y f g : ℕ)
    → (has_bits f || has_bits g) ≡ true
    → (bits x ++ bits y) ≢ (bits (bit_xor x f) ++ bits (bit_xor y g))
two-changed x y f g h e = go (has_bits f) (has_bits g) refl refl h where
  go : (p q : Bool) → has_bits f ≡ p → has_bits g ≡ q → (p || q) ≡ true → ⊥
  go true q fs gs k = octet-changed x f fs (ap (take 8) e)
  go false true fs gs k = octet-changed y g gs (ap (drop 8) e)
  go false false fs gs k = cc

-- ---- where a burst lies

away : (at k : ℕ)
    → ((nat_lt 0 at && nat_lt at 3) || nat_lt 5 at) ≡ true
    → 4 ≤ k
    → k ≤ 5
    → (k ≢ at) × (k ≢ suc at)
away at k h least most =
    (λ (e : k ≡ at). grind (arith, nat_tests), λ (e : k ≡ suc at). grind (arith, nat_tests))

was-packet : (l : Layouts) (v : Option Sight) → shows_changes l v ≡ true
    → (f : Fields) × (v ≡ Some (APacket f)) × ((tailored_for f.kind l).packets.has_checksum ≡ true)
was-packet l None h = absurd cc
was-packet l (Some IdlePacket) h = absurd cc
was-packet l (Some (APacket f)) h = (f, refl, h)

differ-there : (u : Burst) (b : List ℕ)
    → (has_bits u.first || has_bits u.second) ≡ true
    → suc u.at < length b
    → DifferInBurst b (bits_changed u b)
differ-there u b some within =
    let at = u.at in
    let x = get_or b at 0 in
    let y = get_or b (suc at) 0 in
    record {
      front = all_bits (take at b);
      one = bits x ++ bits y;
      other = bits (bit_xor x u.first) ++ bits (bit_xor y u.second);
      back = all_bits (drop (suc (suc at)) b);
      x_is = ap all_bits (split-two at b within) ∙ bits-two (take at b) (drop (suc (suc at)) b) x y;
      y_is = ap all_bits (changed-is u b)
          ∙ bits-two (take at b) (drop (suc (suc at)) b) (bit_xor x u.first) (bit_xor y u.second);
      differ = two-changed x y u.first u.second some;
      as_long = refl;
      short = omega arith;
    }

word-kept : (u : Burst) (b : List ℕ)
    → ((nat_lt 0 u.at && nat_lt u.at 3) || nat_lt 5 u.at) ≡ true
    → suc u.at < length b
    → word_at (bits_changed u b) 4 ≡ word_at b 4
word-kept u b apart within =
    let x = bit_xor (get_or b u.at 0) u.first in
    let y = bit_xor (get_or b (suc u.at) 0) u.second in
    let four = away u.at 4 apart (omega arith) (omega arith) in
    let five = away u.at 5 apart (omega arith) (omega arith) in
    ap (λ (o : List ℕ). word_at o 4) (changed-is u b)
    ∙ ap (λ (n : ℕ). 256 * n + get_or ((take u.at b ++ (x ∷ y ∷ [])) ++ drop (suc (suc u.at)) b) 5
    0)
    (get-other 4 u.at x y b within four.0 four.1)
    ∙ ap (λ (n : ℕ). 256 * get_or b 4 0 + n) (get-other 5 u.at x y b within five.0 five.1)

first-kept : (u : Burst) (b : List ℕ)
    → ((nat_lt 0 u.at && nat_lt u.at 3) || nat_lt 5 u.at) ≡ true
    → suc u.at < length b
    → get_or (bits_changed u b) 0 0 ≡ get_or b 0 0
first-kept u b apart within =
    let x = bit_xor (get_or b u.at 0) u.first in
    let y = bit_xor (get_or b (suc u.at) 0) u.second in
    let behind : 0 < u.at = grind (arith, nat_tests) in
    ap (λ (o : List ℕ). get_or o 0 0) (changed-is u b)
    ∙ get-other 0 u.at x y b within (λ (e : 0 ≡ u.at). omega arith)
    (λ (e : 0 ≡ suc u.at). omega arith)

drop-other : (n at x y : ℕ) (b : List ℕ)
    → suc at < n
    → suc at < length b
    → drop n ((take at b ++ (x ∷ y ∷ [])) ++ drop (suc (suc at)) b) ≡ drop n b
drop-other zero at x y b k h = absurd (omega arith)
drop-other (suc zero) at x y b k h = absurd (omega arith)
drop-other (suc (suc n)) zero x y [] k h = absurd (omega arith)
drop-other (suc (suc n)) zero x y (p ∷ []) k h = absurd (omega arith)
drop-other (suc (suc n)) zero x y (p ∷ q ∷ b) k h = refl
drop-other (suc (suc n)) (suc at) x y [] k h = absurd (omega arith)
drop-other (suc (suc n)) (suc at) x y (p ∷ b) k h = drop-other (suc n) at x y b (omega arith) (omega
    arith)

kept : (in_header : Bool) (u : Burst) (b : List ℕ)
    → is_there in_header u.at ≡ true
    → suc u.at < length b
    → IsKept in_header b (bits_changed u b)
kept true u b there within =
    let front : suc u.at < 6 = grind (arith, nat_tests) in
    ap (drop 6) (changed-is u b) ∙ drop-other 6 u.at _ _ b front within
kept false u b there within = (first-kept u b there within, word-kept u b there within)

-- so what is changed is damage
pub damage : (l : Layouts) (odds : Odds) (u : Burst) (b : List ℕ)
    → is_allowed odds u.in_header ≡ true
    → can_change l u b ≡ true
    → IsDamage l odds b (bits_changed u b)
damage l odds u b allowed h =
    let shows = shows_changes l (packet_seen b) in
    let bits = has_bits u.first || has_bits u.second in
    let apart = is_there u.in_header u.at in
    let there = and_left (is_within u (length b)) shows h in
    let front = and_left (bits && apart) (nat_lt (u.at + 1) (length b)) there in
    let inside : nat_lt (u.at + 1) (length b) ≡ true
    = and_right (bits && apart) (nat_lt (u.at + 1) (length b)) there in
    let within : suc u.at < length b = grind (arith, nat_tests) in
    let was = was-packet l (packet_seen b) (and_right (is_within u (length b)) shows h) in
    let packet = seen_sight b (APacket was.0) was.1 in
    let differ = differ-there u b (and_left bits apart front) within in
    record {
      was = (was.0, packet, was.2);
      none = λ g. burst_shows_in_packet b (bits_changed u b) was.0 g differ packet;
      differ = differ;
      as_many = ap (λ (o : List ℕ). length o) (changed-is u b) ∙ length-two u.at _ _ b within;
      kept = (u.in_header, allowed, kept u.in_header u b (and_right bits apart front) within);
    }

-- what a reader answers says it of octets
pub is_read-shows : (l : Layouts) (b : List ℕ) (r : Result Seen PacketFault)
    → IsOctets b
    → Gives r (verdict b)
    → is_read l r ≡ shows_changes l (packet_seen b)
is_read-shows l b (Ok seen_as.Idle) o g = sym (ap (shows_changes l)
    (seen_verdict b o ∙ ap result_ok g))
is_read-shows l b (Ok (seen_as.Packet p)) o g = sym (ap (shows_changes l)
    (seen_verdict b o ∙ ap result_ok g))
is_read-shows l b (Err e) o g = sym (ap (shows_changes l) (seen_verdict b o ∙ ap result_ok g))

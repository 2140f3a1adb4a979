-- A burst of changed bits shows in the checksum, which is 0 over octets with their own behind them.
use Rattle.std.proofs.Common.{◌≡◌, ◌∙◌, ap, sym, refl, subst, ℕ, ◌*◌, ◌/◌, ◌%◌, ◌<◌, List, [], ◌∷◌, ◌++◌, arith, rules}
use Rattle.std.specs.Int.Bits.{xor_self}
use Rattle.lpt_packet.specs.Checksums.{shift, bits, shift_all, octets_in, checksum}
use Rattle.lpt_packet.specs.Bursts.{all_bits, DifferInBurst}
use Rattle.lpt_packet.specs.Numbers.{be}
use Rattle.lpt_packet.specs.Packets.{Fields, IsPacket, octets_sealed, spelling, header}
use Rattle.lpt_packet.proofs.Registers.{octets_in-append, shift_all-fits, checksum-fits}
use Rattle.lpt_packet.proofs.Shifts.{AreBits, shift_all-append, injective, apart}

-- ---- octets as bits

all_bits_are_bits : (x : List ℕ) → AreBits (all_bits x)
all_bits_are_bits [] = tt
all_bits_are_bits (n ∷ x) = search (rules, all_bits_are_bits x)

AreBits-front : (a b : List ℕ) → AreBits (a ++ b) → AreBits a
AreBits-front [] b h = tt
AreBits-front (x ∷ a) b h = (h.0, AreBits-front a b h.1)

AreBits-back : (a b : List ℕ) → AreBits (a ++ b) → AreBits b
AreBits-back [] b h = h
AreBits-back (x ∷ a) b h = AreBits-back a b h.1

AreBits-middle : (a b c : List ℕ) → AreBits (a ++ b ++ c) → AreBits b
AreBits-middle a b c h = AreBits-back a b (AreBits-front (a ++ b) c h)

-- octets shift in what their bits do
octets_in-bits : (r : ℕ) (x : List ℕ) → octets_in r x ≡ shift_all r (all_bits x)
unfolding octets_in shift_all
octets_in-bits r [] = refl
octets_in-bits r (n ∷ x) =
    octets_in-bits (shift_all r (bits n)) x ∙ sym (shift_all-append r (bits n) (all_bits x))

-- ---- bursts

-- the checksum over octets whose bits are in three parts
parts_in : (x front middle back : List ℕ) → all_bits x ≡ front ++ middle ++ back →
    checksum x ≡ shift_all (shift_all (shift_all 65535 front) middle) back
unfolding checksum
parts_in x front middle back e =
    octets_in-bits 65535 x ∙ ap (shift_all 65535) e ∙ shift_all-append 65535 (front ++ middle) back
    ∙ ap (λ (r : ℕ). shift_all r back) (shift_all-append 65535 front middle)

-- octets that differ by a burst have different checksums
pub burst_shows : (x y : List ℕ) → DifferInBurst x y → ¬ (checksum x ≡ checksum y)
burst_shows x y d e =
    let xs : AreBits (d.front ++ d.one ++ d.back) = subst AreBits d.x_is (all_bits_are_bits x) in
    let ys : AreBits (d.front ++ d.other ++ d.back) = subst AreBits d.y_is (all_bits_are_bits y) in
    let ones : AreBits d.one = AreBits-middle d.front d.one d.back xs in
    let others : AreBits d.other = AreBits-middle d.front d.other d.back ys in
    let backs : AreBits d.back = AreBits-back (d.front ++ d.one) d.back xs in
    let before : ℕ = shift_all 65535 d.front in
    let fits : before < 65536 = shift_all-fits 65535 d.front (omega arith) in
    let after : shift_all before d.one ≡ shift_all before d.other =
    injective d.back (shift_all before d.one) (shift_all before d.other) backs
    (shift_all-fits before d.one fits) (shift_all-fits before d.other fits)
    (sym (parts_in x d.front d.one d.back d.x_is) ∙ e ∙ parts_in y d.front d.other d.back d.y_is) in
    d.differ (apart d.one d.other before ones others d.as_long d.short fits after)

-- ---- sealed lists

-- where the bit that comes in is the bit that falls out, the register moves alone
slide : (r b m : ℕ) → b ≡ r / 32768 → m ≡ r * 2 % 65536 → shift r b ≡ m
slide r b m p q = rw (p, xor_self) (sym q)

-- an octet that is the register's upper half shifts that half out
octet_out : (r n : ℕ) → r < 65536 → n ≡ r / 256 → shift_all r (bits n) ≡ r * 256 % 65536
unfolding shift_all
octet_out r n h e =
    rw (
      slide r (n / 128 % 2) (r * 2 % 65536) (omega arith) (omega arith),
      slide (r * 2 % 65536) (n / 64 % 2) (r * 4 % 65536) (omega arith) (omega arith),
      slide (r * 4 % 65536) (n / 32 % 2) (r * 8 % 65536) (omega arith) (omega arith),
      slide (r * 8 % 65536) (n / 16 % 2) (r * 16 % 65536) (omega arith) (omega arith),
      slide (r * 16 % 65536) (n / 8 % 2) (r * 32 % 65536) (omega arith) (omega arith),
      slide (r * 32 % 65536) (n / 4 % 2) (r * 64 % 65536) (omega arith) (omega arith),
      slide (r * 64 % 65536) (n / 2 % 2) (r * 128 % 65536) (omega arith) (omega arith),
      slide (r * 128 % 65536) (n % 2) (r * 256 % 65536) (omega arith) (omega arith),
    ) refl

-- so a register's own two octets leave none of it
both_out : (r : ℕ) → r < 65536 → octets_in r (be r 2) ≡ 0
unfolding octets_in
both_out r h =
    ap (λ (m : ℕ). shift_all m (bits (r % 256))) (octet_out r (r / 256 % 256) h (omega arith))
    ∙ octet_out (r * 256 % 65536) (r % 256) (omega arith) (omega arith)
    ∙ omega arith

-- the checksum over octets with their checksum behind them is 0
pub sealed_is_zero : (front : List ℕ) → checksum (octets_sealed front) ≡ 0
unfolding checksum
sealed_is_zero front =
    octets_in-append 65535 front (be (checksum front) 2)
    ∙ both_out (checksum front) (checksum-fits front)

packet_is_zero : (x : List ℕ) (f : Fields) → IsPacket x f → checksum x ≡ 0
unfolding spelling
packet_is_zero x f h = ap checksum h.spelled ∙ sealed_is_zero (header f ++ f.octets)

-- a packet that is changed by a burst is none
pub burst_shows_in_packet : (x y : List ℕ) (f g : Fields) →
    DifferInBurst x y → IsPacket x f → ¬ IsPacket y g
burst_shows_in_packet x y f g d p q =
    burst_shows x y d (packet_is_zero x f p ∙ sym (packet_is_zero y g q))

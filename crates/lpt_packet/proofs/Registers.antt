-- The checksum's register, octet by octet.
use Rattle.std.proofs.Common.{◌*◌, ◌/◌, ◌%◌, ◌==◌, Bool, true, false, if◌then◌else◌, bit_xor, ◌≡◌, ℕ, ◌+◌, ◌<◌, ◌≤◌, List, [], ◌∷◌, ◌++◌, length, get_or, drop, refl, add-one, arith, drop-cons}
use Rattle.std.proofs.lemmas.List.{drop_all}
use Rattle.std.proofs.lemmas.Nat.{xor_of_16}
use Rattle.lpt_packet.specs.Checksums.{shift, bits, shift_all, octets_in, checksum}

-- some octets and then others
pub octets_in-append : (r : ℕ) (a b : List ℕ) → octets_in r (a ++ b) ≡ octets_in (octets_in r a) b
unfolding octets_in
octets_in-append r [] b = refl
octets_in-append r (x ∷ a) b = octets_in-append (shift_all r (bits x)) a b

-- the next octet in
pub octets_in-next : (r : ℕ) (b : List ℕ) (i : ℕ) → i < length b → octets_in (shift_all r (bits (get_or b i 0))) (drop (i + 1) b) ≡ octets_in r (drop i b)
unfolding octets_in
octets_in-next r b i h = rw (add-one, drop-cons b i 0) refl

-- no octet is left
pub octets_in-end : (r : ℕ) (b : List ℕ) (i : ℕ) → length b ≤ i → octets_in r (drop i b) ≡ r
unfolding octets_in
octets_in-end r b i h = rw drop_all refl

-- ---- sixteen bits

-- a register keeps to sixteen bits
pub shift_fits : (r b : ℕ) → shift r b < 65536
shift_fits r b = go (bit_xor (r / 32768) b == 1) where
  go : (t : Bool) → (if t then bit_xor (r * 2 % 65536) 0x1021 else r * 2 % 65536) < 65536
  go true = xor_of_16 (r * 2 % 65536) 0x1021 (omega arith) (omega arith)
  go false = omega arith

pub shift_all-fits : (r : ℕ) (b : List ℕ) → r < 65536 → shift_all r b < 65536
unfolding shift_all
shift_all-fits r [] h = h
shift_all-fits r (x ∷ b) h = shift_all-fits (shift r x) b (shift_fits r x)

pub octets_in-fits : (r : ℕ) (b : List ℕ) → r < 65536 → octets_in r b < 65536
unfolding octets_in
octets_in-fits r [] h = h
octets_in-fits r (x ∷ b) h = octets_in-fits (shift_all r (bits x)) b (shift_all-fits r (bits x) h)

-- a checksum has sixteen bits
pub checksum-fits : (b : List ℕ) → checksum b < 65536
unfolding checksum
checksum-fits b = octets_in-fits 0xffff b (omega arith)

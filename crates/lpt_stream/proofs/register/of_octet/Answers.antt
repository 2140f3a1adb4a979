-- What each octet makes of a register of zeros is computed.
use Rattle.std.proofs.Common.{◌≡◌, ◌∙◌, ap, sym, refl, ℕ, ◌*◌, ◌/◌, ◌%◌, ◌<◌, List, get_or, map, arith}
use Rattle.std.specs.Int.Bits.{bit_xor}
use Rattle.std.specs.List.{range_with_len}
use Rattle.std.proofs.lemmas.List.FromFn.{get_or-map-range_with_len}
use Rattle.lpt_packet.specs.Checksums.{bits, shift_all}
use Rattle.lpt_stream.proofs.register.of_octet.Goals as goal

-- so many times the polynomial is taken, as it is summed
abbrev summed : ℕ → ℕ
summed taken = bit_xor (bit_xor (taken * 4096 % 65536) (taken * 32 % 65536)) taken

abbrev of_taken : ℕ → ℕ
of_taken octet = summed (bit_xor octet (octet / 16))

abbrev after : ℕ → ℕ
after octet = shift_all 0 (bits octet)

-- all 256 at once
all_are : map of_taken (range_with_len 0 256) ≡ map after (range_with_len 0 256)
unfolding shift_all
all_are = refl

value_is : (octet : ℕ) → octet < 256 → of_taken octet ≡ after octet
value_is octet h =
    sym (get_or-map-range_with_len of_taken 0 256 octet octet 0 h (omega arith))
    ∙ ap (λ (row : List ℕ). get_or row octet 0) all_are
    ∙ get_or-map-range_with_len after 0 256 octet octet 0 h (omega arith)

pub returns : goal.returns
returns c = ap summed c.from-taken.ensures ∙ value_is c.args.octet c.ranges.octet.fits

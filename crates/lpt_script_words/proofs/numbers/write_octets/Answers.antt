-- Two digits more make an octet more.
use Rattle.std.proofs.Common.{◌≡◌, ◌∙◌, ap, refl, ℕ, ◌+◌, ◌*◌, ◌%◌, List, length, get_or, Ok, arith}
use Rattle.hex.specs.Hex.{digit_or_error, pair_value, value_at}
use Rattle.hex.proofs.HexLemmas.{decode_of-even}
use Rattle.hex.proofs.Pairs.{decode_step, decode_done}
use Rattle.lpt_script_words.proofs.numbers.write_octets.Goals as goal

pub pairs-preserved : goal.pairs-preserved
pairs-preserved c =
    let word : List ℕ = c.args.word.now in
    let i : ℕ = c.pairs.i in
    let h : ℕ = c.value_of_digit.result in
    let l : ℕ = c.value_of_digit-in-pairs.result in
    let high : value_at (get_or word (2 * i) 0) (2 * i) ≡ Ok h =
    ap (digit_or_error (get_or word (2 * i) 0) (2 * i)) c.value_of_digit.ensures.value in
    let low : value_at (get_or word (2 * i + 1) 0) (2 * i + 1) ≡ Ok l =
    ap (digit_or_error (get_or word (2 * i + 1) 0) (2 * i + 1))
    c.value_of_digit-in-pairs.ensures.value in
    let pair : pair_value (get_or word (2 * i) 0) (get_or word (2 * i + 1) 0) (2 * i)
    ≡ Ok (h * 16 + l) = rw (high, low) refl in
    decode_step word c.pairs.octets i (h * 16 + l) (omega arith) (omega arith) pair
    c.pairs.invariant

pub returns : goal.returns
returns c =
    let word : List ℕ = c.args.word.now in
    let even : length word % 2 ≡ 0 = omega arith in
    decode_of-even word even
    ∙ decode_done word c.pairs.octets c.pairs.i (omega arith) (omega arith) c.pairs.invariant

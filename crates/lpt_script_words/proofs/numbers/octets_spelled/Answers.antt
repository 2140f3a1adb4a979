use Rattle.std.proofs.Common.{◌≡◌, ◌==◌, false, true, length, codes, is_some, arith}
use Rattle.std.proofs.lemmas.Bool.Decides.{nat_tests}
use Rattle.std.proofs.lemmas.Grind.{common_steps}
use Rattle.hex.specs.Hex.{decode_of}
use Rattle.lpt_script_words.specs.Numbers.{is_word, octets_decoded}
use Rattle.lpt_script_words.proofs.Hexes.{length-octets_of}
use Rattle.lpt_script_words.proofs.numbers.octets_spelled.Goals as goal

-- pairs of digits, not the word of no octets
pub returns-clause-len : goal.returns-clause-len
returns-clause-len c =
    let word = c.args.word.now in
    let other : is_word (codes "-") word ≡ false = grind (arith, common_steps) in
    let filled : (length word == 0) ≡ false = grind (arith, nat_tests, common_steps) in
    let pairs : is_some (octets_decoded (decode_of word)) ≡ true = grind (arith, common_steps) in
    length-octets_of word other filled pairs

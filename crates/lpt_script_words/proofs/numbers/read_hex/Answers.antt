-- All digits are judged before their octets are written.
use Rattle.std.proofs.Common.{◌≡◌, true, is_some, arith}
use Rattle.std.proofs.lemmas.Grind.{common_steps}
use Rattle.hex.specs.Hex.{decode_of}
use Rattle.lpt_script_words.specs.Numbers.{octets_decoded}
use Rattle.lpt_script_words.proofs.Hexes.{digits-decoded}
use Rattle.lpt_script_words.proofs.numbers.read_hex.Goals as goal

pub write_octets-requires-clause-digits : goal.write_octets-requires-clause-digits
write_octets-requires-clause-digits c =
    let pairs : is_some (octets_decoded (decode_of c.args.word.now)) ≡ true =
    grind (arith, common_steps) in
    (digits-decoded c.args.word.now pairs).1

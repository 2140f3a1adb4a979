-- What is read as a word is written as the same octets.
use Rattle.std.proofs.Common.{arith, rules}
use Rattle.std.proofs.lemmas.Nat.{le_bytes_8}
use Rattle.lpt_packet.proofs.words.word_of.Goals as goal

pub returns : goal.returns
returns c = le_bytes_8 c.args.octets.now _ (omega arith) (search rules) c.from_le_bytes.ensures

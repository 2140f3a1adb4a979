-- The first word goes, if it is added to those 4, 11 and 16 places behind it.
use Rattle.lpt_packet.proofs.WordLemmas.{word_more}
use Rattle.lpt_packet.proofs.words.with_word.Goals as goal
use Rattle.std.proofs.Common.{arith}

pub returns : goal.returns
returns c = word_more c.args.words.now c.args.next (omega arith)

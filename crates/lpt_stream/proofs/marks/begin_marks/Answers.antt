-- The first is 0.
use Rattle.lpt_stream.proofs.MarkLemmas.{marks-first}
use Rattle.lpt_stream.proofs.marks.begin_marks.Goals as goal

pub returns-clause-are : goal.returns-clause-are
returns-clause-are c = λ octets are. marks-first c.args.room.now octets c.requires.room

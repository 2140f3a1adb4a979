-- Where all was written, the writer gained the whole text.
use Rattle.std.proofs.Common.{rules}
use Rattle.lpt_script.proofs.decoding.decode.Goals as goal

pub returns-in-Ok-write_out-clause-ends : goal.returns-in-Ok-write_out-clause-ends
returns-in-Ok-write_out-clause-ends g c = search rules

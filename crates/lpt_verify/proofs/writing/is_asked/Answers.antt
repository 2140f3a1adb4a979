-- The flag is one of three, each of which is a bit.
use Rattle.lpt_verify.proofs.FlagLemmas.{flag_by_division}
use Rattle.lpt_verify.proofs.writing.is_asked.Goals as goal

pub returns : goal.returns
returns c = flag_by_division c.args.flags c.args.flag c.requires

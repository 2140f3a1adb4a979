use Rattle.lpt_layout_each.proofs.HeldsLemmas.{each-none}
use Rattle.std.proofs.Common.{refl}
use Rattle.lpt_layout_each.proofs.helds.HeldsAs.pass_over.Goals as goal

pub returns-in-Ok-clause-held : goal.returns-in-Ok-clause-held
returns-in-Ok-clause-held c = λ any bs e h is.
    each-none c.args.reading.now any bs c.args.octets.now e c.args.self _ is refl c.in-Ok.ensures h

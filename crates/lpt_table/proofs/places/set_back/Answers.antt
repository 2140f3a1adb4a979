use Rattle.std.proofs.Common.{rules}
use Rattle.std.proofs.lemmas.List.Edits.{map_over_more}
use Rattle.lpt_table.specs.SettingBack.{place_earlier}
use Rattle.lpt_table.proofs.places.set_back.Goals as goal

pub loop-place-preserved : goal.loop-place-preserved
loop-place-preserved c = search (rules, map_over_more (place_earlier c.args.ticks))

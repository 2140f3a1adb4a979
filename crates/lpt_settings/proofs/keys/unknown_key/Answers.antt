-- The first unknown key of the map is that of its members.
use Rattle.std.proofs.Common.{◌∙◌, map, ap}
use Rattle.lpt_settings.proofs.TableLemmas.{first_unknown, key_or_none}
use Rattle.lpt_settings.proofs.keys.unknown_key.Goals as goal

pub returns-in-Some : goal.returns-in-Some
returns-in-Some c =
    c.as_str.ensures.value
    ∙ ap key_or_none (rw c.in-Some.is at c.first_unknown.ensures)
    ∙ first_unknown (map (λ w. w.now) c.args.words.now) c.args.table.now.entries

pub returns-in-None : goal.returns-in-None
returns-in-None c =
    ap key_or_none (rw c.in-None.is at c.first_unknown.ensures)
    ∙ first_unknown (map (λ w. w.now) c.args.words.now) c.args.table.now.entries

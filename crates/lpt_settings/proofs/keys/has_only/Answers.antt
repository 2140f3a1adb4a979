use Rattle.std.proofs.Common.{◌∙◌, map}
use Rattle.lpt_settings.proofs.TableLemmas.{only_keys}
use Rattle.lpt_settings.proofs.keys.has_only.Goals as goal

-- the keys of the map are those of its members
pub returns : goal.returns
returns c =
    c.are_keys_among.ensures
    ∙ only_keys (map (λ w. w.now) c.args.words.now) c.args.table.now.entries

use Rattle.std.proofs.Common.{◌∙◌, refl, codes}
use Rattle.toml.proofs.Views.{table_get}
use Rattle.lpt_settings.proofs.mode.mode.Goals as goal

-- the key is there
pub returns-in-Some : goal.returns-in-Some
returns-in-Some c =
    let entries = c.args.table.now.entries in
    let found = table_get c.get.result (codes "mode") entries c.get.ensures.value in
    record { value = c.mode_of_value.ensures ∙ rw (← rw c.in-Some.is at found) refl }

-- the key is absent
pub returns-in-None : goal.returns-in-None
returns-in-None c =
    let entries = c.args.table.now.entries in
    let found = table_get c.get.result (codes "mode") entries c.get.ensures.value in
    record { value = rw (← rw c.in-None.is at found) refl }

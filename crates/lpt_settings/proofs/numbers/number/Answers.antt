use Rattle.std.proofs.Common.{◌∙◌, refl}
use Rattle.toml.proofs.Views.{table_get}
use Rattle.lpt_settings.proofs.numbers.number.Goals as goal

-- the key is there
pub returns-in-Some-clause-value : goal.returns-in-Some-clause-value
returns-in-Some-clause-value c =
    let entries = c.args.table.now.entries in
    let found = table_get c.get.result c.args.key.now entries c.get.ensures.value in
    c.number_of_value.ensures.value ∙ rw (← rw c.in-Some.is at found) refl

-- the key is absent
pub returns-in-None-clause-value : goal.returns-in-None-clause-value
returns-in-None-clause-value c =
    let entries = c.args.table.now.entries in
    let found = table_get c.get.result c.args.key.now entries c.get.ensures.value in
    c.or_missing.ensures ∙ rw (← rw c.in-None.is at found) refl

use Rattle.std.proofs.Common.{◌∙◌, refl, codes}
use Rattle.toml.proofs.Views.{table_get}
use Rattle.lpt_layout_file.proofs.tables.telemetry.Goals as goal

-- the key is there
pub returns-in-Some-clause-value : goal.returns-in-Some-clause-value
returns-in-Some-clause-value c =
    let entries = c.args.table.now.entries in
    let found = table_get c.get.result (codes "telemetry") entries c.get.ensures.value in
    c.telemetry_of.ensures.value ∙ rw (← rw c.in-Some.is at found) refl

-- the key is absent
pub returns-in-None-clause-value : goal.returns-in-None-clause-value
returns-in-None-clause-value c =
    let entries = c.args.table.now.entries in
    let found = table_get c.get.result (codes "telemetry") entries c.get.ensures.value in
    rw (← rw c.in-None.is at found, c.own_tm.ensures, c.own.ensures) refl

-- What is found at the two keys is what the definition reads there.
use Rattle.std.proofs.Common.{◌∙◌, ap, codes, Option}
use Rattle.toml.specs.Data.{get_member}
use Rattle.toml.specs.View.{table_view}
use Rattle.toml.proofs.Views.{table_get}
use Rattle.lpt_memory.specs.Fields.{◌>>=◌}
use Rattle.lpt_layout_file.specs.declared.times.TimeField.{TimeField}
use Rattle.lpt_layout_file.specs.Times.{since, since_or}
use Rattle.lpt_layout_file.proofs.times.time_field.Goals as goal

-- the key is there
pub returns-in-Some : goal.returns-in-Some
returns-in-Some c =
    let members = table_view c.args.table.now in
    let field = c.in_ok-field.field in
    let entries = c.args.table.now.entries in
    let found = table_get c.get.result (codes "epoch") entries c.get.ensures.value in
    c.since.ensures ∙ ap (since field field.code) c.day_in.ensures
    ∙ ap (since_or field) (rw c.in-Some.is at found)
    ∙ ap (λ (o : Option TimeField). o >>= λ t. since_or t (get_member (codes "epoch") members))
    c.in_ok-field.ensures

-- the key is absent
pub returns-in-None : goal.returns-in-None
returns-in-None c =
    let members = table_view c.args.table.now in
    let field = c.in_ok-field.field in
    let entries = c.args.table.now.entries in
    let found = table_get c.get.result (codes "epoch") entries c.get.ensures.value in
    ap (since_or field) (rw c.in-None.is at found)
    ∙ ap (λ (o : Option TimeField). o >>= λ t. since_or t (get_member (codes "epoch") members))
    c.in_ok-field.ensures

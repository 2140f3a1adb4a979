use Rattle.std.proofs.Common.{◌≡◌, Some, None, ◌∙◌, ap}
use Rattle.toml.specs.Data.{no_members}
use Rattle.toml.specs.View.{table_view}
use Rattle.lpt_settings.specs.Settings.{settings_of, default_settings}
use Rattle.lpt_settings.proofs.TableLemmas.{parse_document-blank, settings_of-none}
use Rattle.lpt_settings.proofs.settings.read_config.Goals as goal

-- the table of a blank text is read
pub returns-in-Ok-Some-clause-blank : goal.returns-in-Ok-Some-clause-blank
returns-in-Ok-Some-clause-blank c blank =
    let whole = parse_document-blank c.args.text.now blank in
    let ok = c.in-Ok.ensures.ok in
    let none : table_view c.in-Ok.table ≡ no_members = cc in
    let value = rw c.in-Ok-Some.field-0-is at c.in-Ok-Some.ensures.value in
    let known : Some ((c.in-Ok-Some.config, c.in-Ok-Some.turns), c.in-Ok-Some.memories)
    ≡ Some default_settings =
    value ∙ ap settings_of none ∙ settings_of-none in
    cc

-- the text isn't TOML
pub returns-in_default-clause-blank : goal.returns-in_default-clause-blank
returns-in_default-clause-blank c blank =
    let whole = parse_document-blank c.args.text.now blank in
    let fault = c.in_default.ensures in
    let refused = fault.refused (λ memory. fault.memory memory blank) in cc

-- the table is refused
pub returns-in-Ok-None-clause-blank : goal.returns-in-Ok-None-clause-blank
returns-in-Ok-None-clause-blank c blank =
    let whole = parse_document-blank c.args.text.now blank in
    let ok = c.in-Ok.ensures.ok in
    let none : table_view c.in-Ok.table ≡ no_members = cc in
    let value = rw c.in-Ok-None.field-0-is at c.in-Ok-None.ensures.value in
    let known : None ≡ Some default_settings = value ∙ ap settings_of none ∙ settings_of-none in
    cc

-- A blank text is a document with no members, which means the profile.
use Rattle.std.proofs.Common.{◌≡◌, ◌∙◌, ap}
use Rattle.toml.specs.Data.{no_members}
use Rattle.toml.specs.View.{table_view}
use Rattle.lpt_settings.proofs.TableLemmas.{parse_document-blank}
use Rattle.lpt_layout_file.specs.Tables.{layouts_of}
use Rattle.lpt_layout_file.proofs.TableLemmas.{layouts_of-none}
use Rattle.lpt_layout_file.proofs.reading.read_layouts.Goals as goal

-- the text isn't TOML
pub returns-in_default-clause-blank : goal.returns-in_default-clause-blank
returns-in_default-clause-blank c blank =
    let whole = parse_document-blank c.args.text.now blank in
    let fault = c.in_default.ensures in
    let refused = fault.refused (λ memory. fault.memory memory blank) in cc

-- its table is judged
pub returns-clause-blank : goal.returns-clause-blank
returns-clause-blank c blank =
    let whole = parse_document-blank c.args.text.now blank in
    let ok = c.in-Ok.ensures.ok in
    let none : table_view c.in-Ok.table ≡ no_members = cc in
    c.ok.ensures.value ∙ c.judge.ensures.value ∙ ap layouts_of none ∙ layouts_of-none

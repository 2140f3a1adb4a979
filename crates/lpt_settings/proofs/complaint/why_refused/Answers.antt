-- What is judged of the table is what its settings are.
use Rattle.std.proofs.Common.{◌≡◌, false, is_some, None, sym, ap}
use Rattle.std.specs.Option.{option_and_then}
use Rattle.toml.specs.Parse.{parse_document}
use Rattle.toml.specs.View.{table_view}
use Rattle.lpt_settings.specs.Settings.{settings_of}
use Rattle.lpt_settings.proofs.JudgeLemmas.{settings_of-refused}
use Rattle.lpt_settings.proofs.complaint.why_refused.Goals as goal

-- something is wrong with the table
pub returns-in-Ok-clause-found : goal.returns-in-Ok-clause-found
returns-in-Ok-clause-found c =
    let settings = settings_of (table_view c.in-Ok.table) in
    let none : settings ≡ None = settings_of-refused settings c.in-Err-judge.ensures.value in
    let refused : is_some (option_and_then settings_of (parse_document c.args.text.now)) ≡ false =
    rw (c.in-Ok.ensures.ok) (ap is_some none) in
    sym refused

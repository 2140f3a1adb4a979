-- What is judged of the table decides.
use Rattle.std.proofs.Common.{◌≡◌, ◌∙◌, Some, None, option_map, Result, Ok, Err, IsSome, OnErr, sym, ap}
use Rattle.toml.specs.View.{table_view}
use Rattle.lpt_settings.specs.MemoryTables.{memories_of}
use Rattle.lpt_settings.specs.Settings.{settings_of}
use Rattle.lpt_settings.proofs.JudgeLemmas.{settings_of-judged, settings_of-refused, settings_of-some}
use Rattle.lpt_settings.proofs.settings.read_table.Goals as goal

on_err : {A E : Type 0} (r : Result A E) (P : Type 0) → P → OnErr r P
on_err (Ok x) P p = tt
on_err (Err e) P p = p

-- something is wrong
pub returns-in_default-clause-value : goal.returns-in_default-clause-value
returns-in_default-clause-value c =
    sym (settings_of-refused (settings_of (table_view c.args.table.now)) c.in_default.ensures.value)

-- nothing is, and there is no memory
pub returns-in_err-memories-clause-asked : goal.returns-in_err-memories-clause-asked
returns-in_err-memories-clause-asked c =
    let settings = settings_of (table_view c.args.table.now) in
    on_err c.from_residual.result (IsSome settings)
    (settings_of-some settings c.in-Ok.numbers c.in-Ok.ensures.value)

-- the memories are refused
pub returns-in_default-2-clause-value : goal.returns-in_default-2-clause-value
returns-in_default-2-clause-value c =
    let members = table_view c.args.table.now in
    let numbers = c.in-Ok.numbers in
    let none : memories_of members ≡ None = sym c.in_ok-memories.ensures ∙ c.in_default-2.is in
    sym (settings_of-judged members numbers c.in-Ok.ensures.value
    ∙ ap (option_map (λ ms. (numbers, ms))) none)

-- the memories are there
pub returns-clause-value : goal.returns-clause-value
returns-clause-value c =
    let members = table_view c.args.table.now in
    let numbers = c.in-Ok.numbers in
    let some : memories_of members ≡ Some c.in-Some.memories =
    sym c.in_ok-memories.ensures ∙ c.in-Some.is in
    sym (settings_of-judged members numbers c.in-Ok.ensures.value
    ∙ ap (option_map (λ ms. (numbers, ms))) some)

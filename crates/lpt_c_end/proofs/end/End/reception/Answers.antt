-- A name of an open reception has one in the table.
use Rattle.std.proofs.Common.{◌≡◌, ◌∙◌, ap, sym, ℕ, Some, None}
use Rattle.std.specs.Prelude.{slice_get}
use Rattle.std.specs.FinMap as map
use Rattle.std.specs.Option.{option_map}
use Rattle.lpt_packet.specs.Names.{Name}
use Rattle.lpt_table.specs.Tables.{TableState}
use Rattle.lpt_table.specs.Walking.{reception_at}
use Rattle.lpt_c_end.proofs.NextLemmas.{key_entry}
use Rattle.lpt_c_end.proofs.end.End.reception.Goals as goal

is_open : (t : TableState) (i : ℕ) (name : Name)
    → slice_get (map.keys t.entries) i ≡ Some name
    → None ≡ reception_at t name
    → ⊥
is_open t i name at none =
    let entry = key_entry t.entries i name at in
    let no : None ≡ Some (record { id = name.id; p = t.p; parts = entry.0.parts }) =
    none ∙ ap (option_map (λ e. record { id = name.id; p = t.p; parts = e.parts })) entry.1
    in
    cc

pub unreachable-requires : goal.unreachable-requires
unreachable-requires c =
    is_open c.receptions-table.result.now c.args.number c.in_ok-name.name
    (sym c.open_name.ensures ∙ c.in_ok-name.was) c.in_default.ensures

use Rattle.lpt_packet.specs.Names.{name_cmp}
use Rattle.std.proofs.Common.{◌∙◌, ap, arith}
use Rattle.std.specs.FinMap as map
use Rattle.lpt_table.specs.EntryLists.{Listing}
use Rattle.lpt_table.specs.Tables.{TableEntry}
use Rattle.lpt_table.proofs.table.Table.new.Goals as goal

-- no reception takes a place
pub invariant_of-result : goal.invariant_of-result
invariant_of-result c =
    let len =
    ap (λ (l : Listing). map.len l.entries) c.in_ok-new.ensures
    ∙ map.len-empty name_cmp TableEntry
    in
    (omega (arith, len), tt)

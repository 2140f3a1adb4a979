-- What is counted, as the code has it.
use Rattle.lpt_layout_join.specs.declared.counts.Counts.{Counts}
use Rattle.lpt_layout_join.specs.Counts.{Counted}

abbrev pub counts_shown : Counts → Counted
counts_shown s =
    record { latest = record { count = s.count; octets = s.octets.items }; missing = s.missing }

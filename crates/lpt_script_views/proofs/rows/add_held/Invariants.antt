-- The packets so far are told.
use Rattle.std.proofs.Common.{◌≡◌, ◌++◌, string_bytes}
use Rattle.lpt_script_views.specs.Rows.{held_row, rows_text}
use Rattle.lpt_script_views.proofs.rows.add_held.Given as goal

abbrev pub invariant-loop-number : goal.invariant-loop-number
invariant-loop-number l =
    string_bytes l.text ≡ string_bytes l.fn.text ++ rows_text (held_row l.world) 0 l.number

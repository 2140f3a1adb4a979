-- What was added, with the rows of the rest, is all.
use Rattle.std.proofs.Common.{◌≡◌, ◌++◌, length, string_bytes}
use Rattle.lpt_script_views.specs.Rows.{last_rows, messages_text}
use Rattle.lpt_script_views.proofs.rows.add_messages.Given as goal

abbrev pub invariant-loop-opening : goal.invariant-loop-opening
invariant-loop-opening l =
    string_bytes l.text ++ last_rows l.world l.half l.rest
    ≡ string_bytes l.fn.text ++ messages_text l.world l.half

abbrev pub decreases-loop-opening : goal.decreases-loop-opening
decreases-loop-opening l = length l.rest

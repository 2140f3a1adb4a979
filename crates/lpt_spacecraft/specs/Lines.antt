-- The lines that tell what happens at the spacecraft's end.
use Rattle.std.specs.Prelude.{ℕ, List, [], ◌∷◌, ◌++◌, codes, Option, Some, None}
use Rattle.std.specs.Fmt.{decimal}
use Rattle.lpt_packet.specs.Directions.{direction_word}
use Rattle.lpt_packet.specs.Names.{Name}
use Rattle.lpt_packet.specs.declared.direction.Direction.TheVariants.{Up, Down}
use Rattle.lpt_script_text.specs.Printing.{applied_text, expired_text, line_of, outcome_text, retired_text, transaction_line}
use Rattle.lpt_spacecraft.specs.declared.told.Told.{Told}
use Rattle.lpt_spacecraft.specs.declared.told.Told.TheVariants.{Took, Did, GaveUp, Freed, UsedUp, Skipped}

-- The first argument is the configured source, whose names have no source in them.

-- a report was sent in so many parts, if one was
abbrev pub sent_text : ℕ → Option (Name × ℕ) → List ℕ
sent_text source None = []
sent_text source (Some x) = transaction_line source (codes "sent") Down x.0 x.1

-- what happened, in the words of a script's transcript if it has them
abbrev pub told_text : ℕ → Told → List ℕ
told_text source (Took o) = outcome_text source Up o
told_text source (Did d) =
    applied_text source d.applied
    ++ line_of (codes "reports" ∷ decimal d.reports ∷ [])
    ++ sent_text source d.sent
told_text source (GaveUp name) = expired_text source Up name
told_text source (Freed way name) = retired_text source way name
told_text source (UsedUp way from) =
    line_of (codes "full" ∷ direction_word way ∷ decimal from ∷ [])
told_text source (Skipped place len) =
    line_of (codes "skipped" ∷ decimal place ∷ decimal len ∷ [])

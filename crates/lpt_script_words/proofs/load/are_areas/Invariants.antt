use Rattle.std.proofs.Common.{◌≡◌, ◌≤◌, nat_lt, false, length}
use Rattle.lpt_script_words.specs.Grammar.{areas_of}
use Rattle.lpt_script_words.specs.Words.{words}
use Rattle.lpt_script_words.proofs.LoadLemmas.{fits}
use Rattle.lpt_script_words.proofs.load.are_areas.Given as goal

-- the areas of the rest fit what the areas so far have left where all fit
abbrev pub invariant-loop-address : goal.invariant-loop-address
invariant-loop-address l =
    (fits l.room l.left (nat_lt l.left 255) (areas_of (words l.rest))
    ≡ fits 65527 255 false (areas_of (words l.line)))
    × (l.left ≤ 255)

abbrev pub decreases-loop-address : goal.decreases-loop-address
decreases-loop-address l = length l.rest

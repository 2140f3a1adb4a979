use Rattle.std.proofs.Common.{◌≡◌, ◌++◌, length}
use Rattle.std.specs.Option.{option_map}
use Rattle.lpt_script_words.specs.Grammar.{areas_of}
use Rattle.lpt_script_words.specs.Words.{words}
use Rattle.lpt_script_words.proofs.load.read_areas.Given as goal

-- the areas so far stand before those of the rest
abbrev pub invariant-loop-address : goal.invariant-loop-address
invariant-loop-address l =
    option_map (λ more. l.areas.items ++ more) (areas_of (words l.rest)) ≡ areas_of (words l.line)

abbrev pub decreases-loop-address : goal.decreases-loop-address
decreases-loop-address l = length l.rest

use Rattle.std.proofs.Common.{◌≡◌, ◌≤◌, length}
use Rattle.lpt_script_words.specs.Words.{words}
use Rattle.lpt_script_words.proofs.words.split_word.Given as goal

-- the spaces passed so far are part of no word
abbrev pub invariant-loop-rest : goal.invariant-loop-rest
invariant-loop-rest l =
    (words l.rest ≡ words l.line) × (length l.rest ≤ length l.line)

abbrev pub decreases-loop-rest : goal.decreases-loop-rest
decreases-loop-rest l = length l.rest

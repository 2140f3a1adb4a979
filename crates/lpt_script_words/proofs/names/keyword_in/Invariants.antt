-- The rows that are left say of the word what all say.
use Rattle.std.proofs.Common.{◌≡◌, drop, map}
use Rattle.lpt_script_words.specs.Names.{keyword_in}
use Rattle.lpt_script_words.proofs.names.keyword_in.Given as goal

abbrev pub invariant-loop-row : goal.invariant-loop-row
invariant-loop-row l =
    keyword_in (map (λ row. (row.0.now, row.1)) (drop l.row-index l.rows)) l.word
    ≡ keyword_in (map (λ row. (row.0.now, row.1)) l.rows) l.word

use Rattle.std.proofs.Common.{◌∙◌}
use Rattle.lpt_script_words.proofs.Hexes.{are_pairs-even}
use Rattle.lpt_script_words.proofs.numbers.has_pairs.Goals as goal

-- of an even number of octets, the digits decide
pub returns-then-word-eq0 : goal.returns-then-word-eq0
returns-then-word-eq0 c =
    c.are_digits.ensures ∙ are_pairs-even c.args.word.now c.if-word-eq0.true

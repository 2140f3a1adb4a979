-- A line that wants memory asks for something.
use Rattle.std.proofs.Common.{◌≡◌, ◌∙◌, sym, arith, false, nat_lt, length}
use Rattle.std.proofs.lemmas.Bool.Decides.{nat_tests}
use Rattle.lpt_script_words.specs.Grammar.{reading_of, IsAsked}
use Rattle.lpt_script_words.specs.Words.{words}
use Rattle.lpt_script_words.proofs.Asking.{on_err, asks}
use Rattle.lpt_script_words.proofs.grammar.read_line.Goals as goal

pub returns-in_err-command-clause-asked : goal.returns-in_err-command-clause-asked
returns-in_err-command-clause-asked c =
    let line = c.args.line.now in
    let short : nat_lt 140000 (length line) ≡ false =
    grind (arith, nat_tests, c.if-line-gt-LONGEST_LINE.false) in
    on_err c.from_residual.result (IsAsked (reading_of c.args.source line))
    (asks c.args.source line c.in-Some.word.now (words c.in-Some.rest.now) c.in-Some-read_keyword.keyword short
    c.in-Some.ensures.words
    (sym c.begins_comment.ensures ∙ c.if-begins_comment.false)
    (sym c.read_keyword.ensures ∙ c.in-Some-read_keyword.is)
    c.in_err-command.ensures.asked)

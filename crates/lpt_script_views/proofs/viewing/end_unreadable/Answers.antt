use Rattle.std.proofs.Common.{refl}
use Rattle.lpt_script_text.specs.Printing.{unreadable_text}
use Rattle.lpt_script_words.specs.declared.grammar.Reading.TheVariants.{Unreadable}
use Rattle.lpt_script.proofs.LineLemmas.{taken_text}
use Rattle.lpt_script.specs.Scripts.{line_ran}
use Rattle.lpt_script_views.proofs.viewing.end_unreadable.Goals as goal

-- the text was written
pub returns-in-Ok-clause-ends : goal.returns-in-Ok-clause-ends
returns-in-Ok-clause-ends g c =
    λ w. (refl, refl, refl, c.in-Ok.ensures.ends (unreadable_text c.args.number) c.print_unreadable.ensures)

-- it could not be
pub returns-in-Err-clause-ends : goal.returns-in-Err-clause-ends
returns-in-Err-clause-ends g c =
    λ w. taken_text (line_ran Unreadable c.args.number w) c.args.number c.in-Err.fault w
    (g.K.Sink.contents c.args.out.now) (g.K.Sink.contents c.put.new.out)
    (c.in-Err.ensures.ends (unreadable_text c.args.number) c.print_unreadable.ensures)

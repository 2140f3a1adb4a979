-- An unreadable line ends the run.
use Rattle.std.proofs.Common.{◌≡◌, ◌∙◌, ap, subst, sym}
use Rattle.lpt_events.specs.declared.config.Config.{Config}
use Rattle.lpt_script_words.specs.Grammar.{reading_of}
use Rattle.lpt_script_words.specs.declared.grammar.Reading.{Reading}
use Rattle.lpt_script_words.specs.declared.grammar.Reading.TheVariants.{Unreadable}
use Rattle.lpt_script.specs.RunsInside.{LineTaken}
use Rattle.lpt_script.specs.Scripts.{is_later, line_ran, says_now}
use Rattle.lpt_script.proofs.running.Running.run_line.Goals as goal

pub returns-in-Ok-Unreadable-clause-ends : goal.returns-in-Ok-Unreadable-clause-ends
returns-in-Ok-Unreadable-clause-ends g c =
    let w = c.args.self.now.world in
    let line = c.args.line.now in
    let told : reading_of w.config.source line ≡ Unreadable =
    ap (λ (k : Config). reading_of k.source line) (sym c.config.ensures.shown)
    ∙ (sym c.in-Ok-Unreadable.ensures.says ∙ c.in-Ok-Unreadable.field-0-is) in
    subst (λ (r : Reading). LineTaken (line_ran (says_now (is_later c.args.self.now.shows) r) c.args.number w)
    c.args.number c.end_unreadable.result w
    (g.K.Sink.contents c.args.out.now) (g.K.Sink.contents c.end_unreadable.new.out)) (sym told)
    (c.end_unreadable.ensures.ends w)

use Rattle.std.proofs.Common.{List, ℕ, subst}
use Rattle.std.specs.Io.KnownBytes.{Appends}
use Rattle.lpt_events.specs.declared.entry.Entry.{Entry}
use Rattle.lpt_events.specs.declared.entry.Release.{Release}
use Rattle.lpt_events.specs.declared.config.Config.{Config}
use Rattle.lpt_tool.specs.Summary.{IsSummary}
use Rattle.lpt_script.proofs.GrowthLemmas.{grows_on}
use Rattle.lpt_tool.proofs.SummaryLemmas.{text_grows, text_only}
use Rattle.lpt_tool.proofs.ThreadLemmas.{left_shown}
use Rattle.lpt_tool.specs.Ends.{shown_text}
use Rattle.lpt_tool.proofs.threads.show_left.Goals as goal

-- what was left, and then what the kept lines show of it
pub returns-in-Ok-clause-all : goal.returns-in-Ok-clause-all
returns-in-Ok-clause-all g c =
    left_shown c.args.kept.now c.args.world.now c.show_kept.result
    (g.K.Sink.contents c.args.out.now) (g.K.Sink.contents c.put_summary.new.out) (g.K.Sink.contents c.show_kept.new.out)
    (subst (λ (rs : List Release). (summary : List ℕ) × IsSummary c.args.world.now.config.source rs c.args.world.now.journal summary
    × Appends (g.K.Sink.contents c.args.out.now) (g.K.Sink.contents c.put_summary.new.out) summary) c.released.ensures.all
    (subst (λ (es : List Entry). (summary : List ℕ) × IsSummary c.args.world.now.config.source c.released.result.now es summary
    × Appends (g.K.Sink.contents c.args.out.now) (g.K.Sink.contents c.put_summary.new.out) summary) c.journal.ensures.shown
    (subst (λ (k : Config). (summary : List ℕ) × IsSummary k.source c.released.result.now c.journal.result.now summary
    × Appends (g.K.Sink.contents c.args.out.now) (g.K.Sink.contents c.put_summary.new.out) summary) c.config.ensures.shown
    c.in-Ok.ensures.all)))
    c.show_kept.ensures.ends

pub returns-in-Ok-clause-grows : goal.returns-in-Ok-clause-grows
returns-in-Ok-clause-grows g c =
    let written = g.K.Sink.contents in
    grows_on (written c.args.out.now) (written c.put_summary.new.out) (written c.show_kept.new.out)
    c.put_summary.ensures.grows
    (text_grows (shown_text c.args.kept.now c.args.world.now) c.show_kept.result (written c.put_summary.new.out) (written c.show_kept.new.out)
    c.show_kept.ensures.ends)

pub returns-in-Ok-clause-only : goal.returns-in-Ok-clause-only
returns-in-Ok-clause-only g c =
    text_only (shown_text c.args.kept.now c.args.world.now) c.show_kept.result
    (g.K.Sink.contents c.put_summary.new.out) (g.K.Sink.contents c.show_kept.new.out) c.show_kept.ensures.ends

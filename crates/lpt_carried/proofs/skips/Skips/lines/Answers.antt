-- A topic adds its line, where it has one.
use Rattle.std.proofs.Common.{arith, ap, sym, ◌∙◌, map}
use Rattle.std.specs.Option.{option_map}
use Rattle.std.specs.String.{string_bytes}
use Rattle.std.proofs.lemmas.List.{map-append}
use Rattle.lpt_carried.specs.Told.{line_of, topics}
use Rattle.lpt_carried.proofs.ToldLemmas.{told_none, told_some}
use Rattle.lpt_carried.proofs.skips.Skips.lines.Goals as goal
use Rattle.lpt_carried.proofs.skips.Skips.lines.Goals.{in-Some+in_ok-push, in_default}

pub loop-topic-preserved : goal.loop-topic-preserved
loop-topic-preserved c =
    let line = line_of c.args.wanted.now c.args.source c.args.from c.args.self.now in
    elim c.match-branch-2.branch [
      | in-Some+in_ok-push w ↦
          ap (λ v. map string_bytes v.items) w.lines-is
          ∙ ap (λ xs. map string_bytes xs) w.in_ok-push.ensures.items
          ∙ map-append string_bytes c.loop-topic.lines.items _
          ∙ told_some line topics c.loop-topic.topic-index _ _ _
          (omega arith) c.loop-topic.invariant
          (sym c.in_ok-line.ensures ∙ ap (λ o. option_map string_bytes o) w.in-Some.is)
      | in_default w ↦
          ap (λ v. map string_bytes v.items) w.lines-is
          ∙ told_none line topics c.loop-topic.topic-index _ _
          (omega arith) c.loop-topic.invariant
          (sym c.in_ok-line.ensures ∙ ap (λ o. option_map string_bytes o) w.in_default.is)
    ]

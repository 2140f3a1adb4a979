use Rattle.std.proofs.Common.{arith, length-drop, ◌∙◌, ap, subst, ne_eqb}
use Rattle.std.specs.Prelude.{◌||◌}
use Rattle.std.specs.Io.KnownBytes.{Appends}
use Rattle.std.proofs.lemmas.List.{take_rest}
use Rattle.lpt_text.proofs.StreamLemmas.{appends_more, take_next, some_count}
use Rattle.lpt_text.proofs.stream.write_out.Goals as goal

-- a write that took some octets
pub loop-at-preserved : goal.loop-at-preserved
loop-at-preserved g c =
    let at = c.loop-at.at in
    let taken = c.unwrap_or-taken.result in
    let text = c.args.text.now in
    let before = g.K.Sink.failed c.loop-at.out in
    let some = c.if-taken-eq0.false in
    let given = some_count c.write.result taken c.unwrap_or-taken.ensures some in
    let call = rw (given, take_rest text at) at c.write.ensures in
    record {
      bound = omega (arith, call.bound, length-drop at text);
      gained = subst (Appends _ _) (take_next at taken text)
          (appends_more _ _ _ _ _ c.loop-at.invariant.gained call.bytes);
      told = call.cause
          ∙ ap (λ none. none || before) (ne_eqb taken 0 some)
          ∙ c.loop-at.invariant.told;
    }

-- Calls, one after the other.
use Rattle.std.proofs.Common.{◌≡◌, ◌∙◌, ap, subst, sym, refl, [], ◌∷◌}
use Rattle.lpt_ground.specs.declared.asked.Terms.{Terms}
use Rattle.lpt_ground.specs.declared.pass.End.TheVariants as ends
use Rattle.lpt_ground.specs.declared.pass.Step.{Step}
use Rattle.lpt_ground.specs.declared.pass.Step.TheVariants.{Put, Listen, Stop}
use Rattle.lpt_ground.specs.Carrying.{AllTold, come_to, packets_of, DoneIsTold}
use Rattle.lpt_ground.specs.Passes.{PassState, next_step, state_of}
use Rattle.lpt_c_ground.specs.Calls.{CallsCarryAPass, CompletedWasTold, Goes, step_word}

-- calls that were answered so, one after the other
pub calls-carry : CallsCarryAPass
calls-carry [] g new same = (
  ap (λ g. state_of g.pass) (sym same),
  ap (λ g. g.pass.terms) (sym same),
)
calls-carry (a ∷ answers) g new goes =
    let next = goes.0 in
    let one : Goes a g next = goes.1 in
    let rest = calls-carry answers next new goes.2 in (
      rest.0
          ∙ ap (λ (t : Terms). come_to t (state_of next.pass) answers) one.terms
          ∙ ap (λ (s : PassState). come_to g.pass.terms s answers) one.state,
      rest.1 ∙ one.terms,
    )

-- a pass that says so is done
done-by : (s : Step) → step_word s ≡ 3 → s ≡ Stop ends.Done
done-by (Put k) is = absurd cc
done-by Listen is = absurd cc
done-by (Stop ends.Done) is = refl
done-by (Stop ends.Failed) is = absurd cc
done-by (Stop ends.Given) is = absurd cc
done-by (Stop ends.Ended) is = absurd cc

-- a job that is completed, where a pass that is done was told so
pub completed-told : DoneIsTold → CompletedWasTold
completed-told told j places content answers g new made goes is =
    let came = calls-carry answers g new goes in
    subst (λ (t : Terms). AllTold t g.pass.asked.items (packets_of answers)) made.terms
    (told g.pass.terms (state_of g.pass) answers
    (ap next_step (sym came.0) ∙ done-by (next_step (state_of new.pass)) is))

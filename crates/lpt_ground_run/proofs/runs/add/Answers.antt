-- What stays of the last run, and the one of the request.
use Rattle.std.proofs.Common.{◌∙◌, ap, sym, List, [], ◌∷◌, ◌++◌, append_assoc}
use Rattle.std.specs.Prelude.{Option}
use Rattle.std.specs.Option.{option_to_list}
use Rattle.lpt_ground_run.specs.declared.runs.GroundRun.{GroundRun}
use Rattle.lpt_ground_run.proofs.RunLemmas.{runs-more}
use Rattle.lpt_ground_run.proofs.runs.add.Goals as goal

pub returns-in_ok-push-in-None : goal.returns-in_ok-push-in-None
returns-in_ok-push-in-None c =
    let front : List GroundRun = c.pop.new.self.items in
    let run : GroundRun = c.behind-before.result.1 in
    runs-more c.args.runs.now.items front c.push.new.self.items c.pop.result
    c.behind-before.result.0 run c.args.outcome c.pop.ensures.items c.behind-before.ensures
    (c.in_ok-push-in-None.ensures.items
    ∙ ap (λ (b : Option GroundRun). front ++ (option_to_list b ++ run ∷ [])) (sym c.in-None.is))

pub returns-in_ok-push-in-Some-2 : goal.returns-in_ok-push-in-Some-2
returns-in_ok-push-in-Some-2 c =
    let front : List GroundRun = c.pop.new.self.items in
    let run : GroundRun = c.behind-before.result.1 in
    runs-more c.args.runs.now.items front c.push-in-Some-2.new.self.items c.pop.result
    c.behind-before.result.0 run c.args.outcome c.pop.ensures.items c.behind-before.ensures
    (c.in_ok-push-in-Some-2.ensures.items
    ∙ ap (λ (l : List GroundRun). l ++ run ∷ []) c.in_ok-push-in-Some.ensures.items
    ∙ append_assoc front (c.in-Some.before ∷ []) (run ∷ [])
    ∙ ap (λ (b : Option GroundRun). front ++ (option_to_list b ++ run ∷ [])) (sym c.in-Some.is))

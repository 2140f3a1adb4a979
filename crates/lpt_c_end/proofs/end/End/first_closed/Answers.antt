-- The names of the runs are those in use, and a run without one that passes is left out.
use Rattle.std.proofs.Common.{◌≡◌, ◌∙◌, sym, ap, List, Bool, Option}
use Rattle.std.specs.FinMap.{keys}
use Rattle.std.specs.List.{find}
use Rattle.std.specs.Option.{option_or}
use Rattle.std.proofs.lemmas.List.Folds.{find-append}
use Rattle.lpt_ledger.proofs.RunsLemmas.{names_in-runs_of_names}
use Rattle.lpt_ledger.specs.declared.run.NameRun.{NameRun}
use Rattle.lpt_ledger.specs.Runs.{names_in, names_of, runs_of}
use Rattle.lpt_packet.specs.Names.{Name}
use Rattle.lpt_c_end.specs.Closed.{is_sought, names_at}
use Rattle.lpt_c_end.proofs.end.End.first_closed.Goals as goal

pub loop-run-init : goal.loop-run-init
loop-run-init c =
    let runs : c.into_iter-run-iterator.result ≡ runs_of (names_at c.args.direction c.args.self.now) =
    c.into_iter-run-iterator.ensures.into_iter_gives
    ∙ c.runs-run-items.ensures
    ∙ ap runs_of c.names.ensures
    in
    ap (find (is_sought c.args.direction c.args.from c.args.self.now))
    (sym (ap names_in runs
    ∙ names_in-runs_of_names (keys (names_at c.args.direction c.args.self.now))))

pub returns-in-Some-closed_in : goal.returns-in-Some-closed_in
unfolding names_in
returns-in-Some-closed_in c =
    let p : Name → Bool = is_sought c.args.direction c.args.from c.args.self.now in
    let rest : List NameRun = c.next.new.self in
    sym (c.loop-run.invariant
    ∙ ap (λ (rs : List NameRun). find p (names_in rs)) c.in-Some.ensures.steps
    ∙ find-append p (names_of c.in-Some.run') (names_in rest)
    ∙ ap (λ (o : Option Name). option_or o (find p (names_in rest)))
    (sym c.closed_in.ensures ∙ c.in-Some-closed_in.is))

pub loop-run-preserved : goal.loop-run-preserved
unfolding names_in
loop-run-preserved c =
    let p : Name → Bool = is_sought c.args.direction c.args.from c.args.self.now in
    let rest : List NameRun = c.next.new.self in
    c.loop-run.invariant
    ∙ ap (λ (rs : List NameRun). find p (names_in rs)) c.in-Some.ensures.steps
    ∙ find-append p (names_of c.in-Some.run') (names_in rest)
    ∙ ap (λ (o : Option Name). option_or o (find p (names_in rest)))
    (sym c.closed_in.ensures ∙ c.in_default.is)

pub returns : goal.returns
unfolding names_in
returns c =
    let p : Name → Bool = is_sought c.args.direction c.args.from c.args.self.now in
    sym (c.loop-run.invariant
    ∙ ap (λ (rs : List NameRun). find p (names_in rs)) c.in-None.ensures.steps.0)

-- Name by name the run gets longer, until one isn't the next.
use Rattle.std.proofs.Common.{◌≡◌, ◌∙◌, ap, sym, rules, true, false, Option}
use Rattle.lpt_packet.specs.Names.{Name}
use Rattle.lpt_ledger.specs.declared.run.NameRun.{NameRun}
use Rattle.lpt_ledger.specs.Runs.{is_next, runs_from}
use Rattle.lpt_ledger.specs.RunsInside.{runs_left}
use Rattle.lpt_ledger.proofs.RunsLemmas.{run_begins, run_ends, run_goes_on, run_is_last}
use Rattle.lpt_ledger.proofs.runs.Runs.next_run.Goals as goal

pub loop-name-init : goal.loop-name-init
loop-name-init c =
    let names = c.self.inside.names in
    ap (λ (r : NameRun). runs_from r names) c.lone-run.ensures
    ∙ run_begins c.in_ok-self.field-0 names
    ∙ ap (λ (o : Option Name). runs_left o names) (sym c.in_ok-self.was)
    ∙ c.self.view_is

pub returns-then-not-is_next-clause-some : goal.returns-then-not-is_next-clause-some
returns-then-not-is_next-clause-some c =
    let other : is_next c.loop-name.run c.in-Some.name ≡ false = search rules in
    sym c.loop-name.invariant
    ∙ run_ends c.loop-name.run c.in-Some.name c.next.new.self c.loop-name.self-inside.names other
    c.in-Some.ensures.some

pub loop-name-preserved : goal.loop-name-preserved
loop-name-preserved c =
    let next : is_next c.loop-name.run c.in-Some.name ≡ true = search rules in
    sym (run_goes_on c.loop-name.run c.in-Some.name c.next.new.self c.loop-name.self-inside.names
    next c.in-Some.ensures.some)
    ∙ c.loop-name.invariant

pub returns-clause-some : goal.returns-clause-some
returns-clause-some c =
    sym c.loop-name.invariant
    ∙ run_is_last c.loop-name.run c.loop-name.self-inside.names c.in_default.ensures.none

-- One name of the run is closed after the other.
use Rattle.std.proofs.Common.{◌≡◌, ◌∙◌, ap, sym, ℕ, suc, ◌+◌, ◌-◌, ◌≤◌, arith}
use Rattle.std.specs.FinMap as map
use Rattle.lpt_packet.specs.Names.{named_by}
use Rattle.lpt_ledger.specs.Marks.{Marks, Shut}
use Rattle.lpt_ledger.specs.Runs.{shut_names, some_names}
use Rattle.lpt_ledger.proofs.RunsLemmas.{shut_names-more, shut_names-none}
use Rattle.lpt_ledger.proofs.ledger.Ledger.shut_run.Goals as goal

pub loop-id-init : goal.loop-id-init
loop-id-init c =
    let none : c.from-id.result - c.args.run.first ≡ 0 = omega arith in
    (shut_names-none c.args.self.now c.args.run.source c.args.run.first _ none, omega arith)

pub loop-id-preserved : goal.loop-id-preserved
loop-id-preserved c =
    let m : Marks = c.args.self.now in
    let s : ℕ = c.args.run.source in
    let first : ℕ = c.args.run.first in
    let id : ℕ = c.loop-id.id in
    let from : first ≤ id = omega arith in
    let more : id + 1 - first ≡ suc (id - first) = omega arith in
    let at : first + (id - first) ≡ id = omega arith in (
      c.in_ok-set.ensures.ok
          ∙ ap (λ (x : Marks). map.insert x (named_by s id) Shut) c.loop-id.invariant.0
          ∙ ap (λ (i : ℕ). map.insert (shut_names m (some_names (id - first) s first))
          (named_by s i) Shut) (sym at)
          ∙ sym (shut_names-more m (id - first) s first)
          ∙ ap (λ (n : ℕ). shut_names m (some_names n s first)) (sym more),
      omega arith,
    )

pub returns-clause-ok : goal.returns-clause-ok
returns-clause-ok c =
    let all : c.loop-id.id - c.args.run.first
    ≡ c.args.run.last + 1 - c.args.run.first = omega arith in
    c.loop-id.invariant.0
    ∙ ap (λ (n : ℕ). shut_names c.args.self.now (some_names n c.args.run.source c.args.run.first))
    all

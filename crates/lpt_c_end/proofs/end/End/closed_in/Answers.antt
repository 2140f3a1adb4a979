-- The names before the first that may pass are left out, and then each that doesn't.
use Rattle.std.proofs.Common.{◌≡◌, ◌∙◌, sym, ap, refl, ℕ, ◌+◌, ◌-◌, ◌<◌, ◌≤◌, ◌&&◌, Bool, true, false, Some, cond, arith}
use Rattle.std.specs.List.{find}
use Rattle.lpt_ledger.specs.Runs.{some_names}
use Rattle.lpt_packet.specs.Names.{Name, named_by}
use Rattle.lpt_c_end.specs.Closed.{is_closed_at, is_from, is_sought}
use Rattle.lpt_c_end.proofs.ClosedLemmas.{find_behind, find_next, find_none}
use Rattle.lpt_c_end.proofs.end.End.closed_in.Goals as goal

pub loop-id-init : goal.loop-id-init
loop-id-init c =
    let p : Name → Bool = is_sought c.args.direction c.args.from c.args.self.now in
    let source : ℕ = c.args.run.source in
    let first : ℕ = c.args.run.first in
    let last : ℕ = c.args.run.last in
    let start : ℕ = c.start_in-start.result in
    let begins : first ≤ start = c.start_in-start.ensures.begins in
    let less : last + 1 - first - (start - first) ≡ last + 1 - start = omega (arith, begins) in
    let same : first + (start - first) ≡ start = omega (arith, begins) in (
      omega arith,
      find_behind p (start - first) (last + 1 - first) source first
          (λ i a b d.
          ap (λ (b : Bool). b && is_closed_at c.args.direction c.args.self.now (named_by source i))
          (c.start_in-start.ensures.before i a (omega (arith, begins, b)) (omega (arith, d, a))))
          ∙ ap (λ (n : ℕ). find p (some_names n source (first + (start - first)))) less
          ∙ ap (λ (j : ℕ). find p (some_names (last + 1 - start) source j)) same,
    )

pub returns-then-is_closed : goal.returns-then-is_closed
returns-then-is_closed c =
    let p : Name → Bool = is_sought c.args.direction c.args.from c.args.self.now in
    let source : ℕ = c.args.run.source in
    let last : ℕ = c.args.run.last in
    let id : ℕ = c.loop-id.id in
    let name : Name = named_by source id in
    let within : id < last + 1 = omega (arith, c.loop-id-test.true, c.from-id-end.ensures) in
    let behind : is_from c.args.from name ≡ true =
    c.start_in-start.ensures.behind id c.loop-id.invariant.0 (omega (arith, within))
    in
    let passes : p name ≡ true =
    ap (λ (b : Bool). b && is_closed_at c.args.direction c.args.self.now name) behind
    ∙ sym c.is_closed.ensures
    ∙ c.if-is_closed.true
    in
    sym (c.loop-id.invariant.1
    ∙ find_next p (last + 1 - id) source id last refl within
    ∙ ap (λ (b : Bool). cond b (Some name) (find p (some_names (last + 1 - (id + 1)) source (id + 1))))
    passes)

pub loop-id-preserved : goal.loop-id-preserved
loop-id-preserved c =
    let p : Name → Bool = is_sought c.args.direction c.args.from c.args.self.now in
    let source : ℕ = c.args.run.source in
    let last : ℕ = c.args.run.last in
    let id : ℕ = c.loop-id.id in
    let name : Name = named_by source id in
    let within : id < last + 1 = omega (arith, c.loop-id-test.true, c.from-id-end.ensures) in
    let behind : is_from c.args.from name ≡ true =
    c.start_in-start.ensures.behind id c.loop-id.invariant.0 (omega (arith, within))
    in
    let fails : p name ≡ false =
    ap (λ (b : Bool). b && is_closed_at c.args.direction c.args.self.now name) behind
    ∙ sym c.is_closed.ensures
    ∙ c.if-is_closed.false
    in (
      omega (arith, c.loop-id.invariant.0),
      c.loop-id.invariant.1
          ∙ find_next p (last + 1 - id) source id last refl within
          ∙ ap (λ (b : Bool).
          cond b (Some name) (find p (some_names (last + 1 - (id + 1)) source (id + 1))))
          fails,
    )

pub returns : goal.returns
returns c =
    sym (c.loop-id.invariant.1
    ∙ find_none (is_sought c.args.direction c.args.from c.args.self.now)
    (c.args.run.last + 1 - c.loop-id.id) c.args.run.source c.loop-id.id
    (omega (arith, c.loop-id-test.false, c.from-id-end.ensures)))

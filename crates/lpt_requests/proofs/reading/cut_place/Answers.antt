-- Piece after piece.
use Rattle.std.proofs.Common.{◌≡◌, ◌∙◌, ◌++◌, ◌-◌, ℕ, [], ◌∷◌, ap, append-nil, arith, min, subst}
use Rattle.lpt_memory.specs.declared.request.AreaRange.{AreaRange}
use Rattle.lpt_requests.specs.Cuts.{IsRangeCut, as_read}
use Rattle.lpt_requests.proofs.CutLemmas.{place-next, views-push}
use Rattle.lpt_requests.proofs.reading.cut_place.Goals as goal

pub loop-rest-preserved : goal.loop-rest-preserved
loop-rest-preserved c =
    let each = c.args.each in
    let at = c.loop-rest.address in
    let rest = c.loop-rest.rest in
    let ask = as_read c.args.what c.args.memory in
    let was = c.loop-rest.invariant.cut in
    let min-is : c.min.result ≡ min rest each
    = c.min.ensures ∙ ap (λ (k : ℕ). min rest k) c.from.ensures in
    let left : c.saturating_sub-rest.result ≡ rest - each
    = c.saturating_sub-rest.ensures ∙ ap (λ (k : ℕ). rest - k) c.from-in-loop-rest.ensures in
    let stepped = c.from-address-in-loop-rest.ensures in
    let range : AreaRange = record { address = at; len = min rest each } in
    let within = c.loop-rest.invariant.fit c.loop-rest-test.true in
    record {
      cut = (
        was.0 ++ range ∷ [],
        views-push ask was.0 range c.args.requests.now.items c.loop-rest.requests.items
            c.push.new.self.items c.in_ok-request.request was.1 c.in_ok-push.ensures.items
            (c.in_ok-request.ensures
            ∙ ap (λ (l : ℕ). ask (record { address = at; len = l })) min-is),
        place-next each at c.from-address-in-loop-rest.result c.args.place.address rest
            c.saturating_sub-rest.result c.args.place.len was.0 c.loop-rest-test.true stepped left
            was.2,
      );
      fit = λ more. omega (arith, left, stepped, within, more);
    }

pub returns : goal.returns
returns c =
    let was = c.loop-rest.invariant.cut in
    let none : c.loop-rest.rest ≡ 0 = omega (arith, c.loop-rest-test.false) in (
      was.0,
      subst (IsRangeCut c.args.each c.args.place.address c.args.place.len) (append-nil was.0)
          (was.2 [] none),
      was.1,
    )

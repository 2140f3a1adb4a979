-- Piece after piece.
use Rattle.std.proofs.Common.{◌≡◌, ◌∙◌, ◌++◌, ◌<◌, ℕ, [], ◌∷◌, List, ap, append-nil, arith, length, min, subst, take}
use Rattle.std.proofs.lemmas.Bool.Decides.{nat_tests}
use Rattle.lpt_memory.specs.declared.request.Area.{Area}
use Rattle.lpt_requests.specs.Cuts.{AreCut, as_load}
use Rattle.lpt_requests.proofs.CutLemmas.{area-next, behind-is, front-is, none-left, still-within, views-push}
use Rattle.lpt_requests.proofs.cutting.cut_area.Goals as goal

pub loop-rest-preserved : goal.loop-rest-preserved
loop-rest-preserved c =
    let each = c.args.each in
    let at = c.loop-rest.address in
    let rest = c.loop-rest.rest.now in
    let ask = as_load c.args.memory in
    let was = c.loop-rest.invariant.cut in
    let some : 0 < length rest = grind (arith, nat_tests) in
    let min-is : c.min.result ≡ min (length rest) each
    = c.min.ensures ∙ ap (λ (k : ℕ). min (length rest) k) c.from.ensures in
    let front = c.split_at.ensures.front ∙ front-is c.min.result each rest min-is in
    let back = c.split_at.ensures.back ∙ behind-is c.min.result each rest min-is in
    let stepped = c.from-address-in-loop-rest.ensures in
    let piece : Area = record { address = at; octets = take each rest } in
    record {
      cut = (
        was.0 ++ piece ∷ [],
        views-push ask was.0 piece c.args.requests.now.items c.loop-rest.requests.items
            c.push.new.self.items c.in_ok-request.request was.1 c.in_ok-push.ensures.items
            (c.in_ok-request.ensures
            ∙ ap (λ (o : List ℕ). ask (record { address = at; octets = o })) front),
        area-next each at c.from-address-in-loop-rest.result c.args.area.now.address rest
            c.split_at.result.1.now c.args.area.now.octets was.0 some stepped back was.2,
      );
      fit = still-within each at c.from-address-in-loop-rest.result rest c.split_at.result.1.now
          stepped back (c.loop-rest.invariant.fit some);
    }

pub returns : goal.returns
returns c =
    let was = c.loop-rest.invariant.cut in
    let none : length c.loop-rest.rest.now ≡ 0 = grind (arith, nat_tests) in (
      was.0,
      subst (AreCut c.args.each c.args.area.now.address c.args.area.now.octets) (append-nil was.0)
          (was.2 [] (none-left c.loop-rest.rest.now none)),
      was.1,
    )

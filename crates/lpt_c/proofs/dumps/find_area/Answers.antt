-- An area that is read is the one that is looked for, or stands in front of what is left.
use Rattle.std.proofs.Common.{◌≡◌, ◌∙◌, ap, sym, rules, arith, ℕ, suc, ◌+◌, ◌-◌, ◌<◌, ◌≤◌, ◌≢◌, subst, IfSome, List, drop, length, option_map, Option, Some, length-drop}
use Rattle.std.proofs.lemmas.List.{length-take-le}
use Rattle.lpt_memory.specs.Requests.{front_load_area}
use Rattle.lpt_c.specs.declared.dumps.AreaPlace.{AreaPlace}
use Rattle.lpt_c.specs.Dumps.{place_in, Placed}
use Rattle.lpt_c.proofs.DumpLemmas.{left, left-over, next-here, next-other, unmapped}
use Rattle.lpt_c.proofs.dumps.find_area.Goals as goal
use Rattle.lpt_c.proofs.dumps.find_area.Goals.{then-from-number, else-from-number}

pub loop-k-preserved : goal.loop-k-preserved
loop-k-preserved c =
    let body = c.args.body.now in
    let at = c.loop-k.at in
    let later = c.in_ok-area.behind in
    let k = c.args.number - c.loop-k.k in
    let j = c.args.number - (c.loop-k.k + 1) in
    let n = c.args.areas - c.loop-k.k in
    let m = c.args.areas - (c.loop-k.k + 1) in
    let old = option_map (place_in body) c.loop-k.found in
    let here = place_in body c.in_ok-area.area in
    let more : n ≡ suc m = omega (arith, c.loop-k-test.true) in
    let read : front_load_area (drop at body) ≡ Some (here.area, drop later body) = search rules in
    let text : length here.area.octets ≡ c.in_ok-area.area.len =
    length-take-le c.in_ok-area.area.len (drop here.at body)
    (omega (arith, length-drop here.at body, c.in_ok-area.ensures.within)) in
    let size : later ≡ at + (8 + length here.area.octets) =
    omega (arith, text, c.in_ok-area.ensures.behind) in
    let With : Option AreaPlace → (at k n : ℕ) → List ℕ → Option (Option Placed)
    = λ f at k n b. left front_load_area (option_map (place_in body) f) at k n b in
    elim c.if-from-number.branch [
      | then-from-number w ↦
          let is : c.loop-k.k ≡ c.args.number = sym c.from.ensures ∙ w.if-from-number.true in
          record {
            inside = c.in_ok-area.ensures.inside;
            within =
                subst (λ f. IfSome f (λ p. p.at + p.len ≤ length body)) (sym w.found-is)
                c.in_ok-area.ensures.within;
            passed = λ none. absurd (let found = w.found-is in cc);
            first = λ h. absurd (omega (arith, h, is));
            read =
                ap (λ f. With f later j m (drop later body)) w.found-is
                ∙ ap (λ p. left front_load_area (Some (record { at = p; area = here.area })) later
                j m (drop later body)) c.in_ok-area.ensures.placed
                ∙ next-here front_load_area at later k j n m (drop at body) (drop later body)
                here.area more read (omega (arith, is))
                ∙ ap (λ f. With f at k n (drop at body))
                (sym (c.loop-k.invariant.first (omega (arith, is))))
                ∙ c.loop-k.invariant.read;
          }
      | else-from-number w ↦
          let other : c.loop-k.k ≢ c.args.number =
          λ e. w.if-from-number.false (c.from.ensures ∙ e) in
          record {
            inside = c.in_ok-area.ensures.inside;
            within =
                subst (λ f. IfSome f (λ p. p.at + p.len ≤ length body)) (sym w.found-is)
                c.loop-k.invariant.within;
            passed =
                λ none. let h = c.loop-k.invariant.passed (sym w.found-is ∙ none) in
                omega (arith, h, other);
            first = λ h. w.found-is ∙ c.loop-k.invariant.first (omega (arith, h));
            read =
                ap (λ f. With f later j m (drop later body)) w.found-is
                ∙ next-other front_load_area old at later k j n m (drop at body) (drop later body)
                here.area more read
                (λ none. let h = c.loop-k.invariant.passed
                (unmapped (place_in body) c.loop-k.found none) in omega (arith, h, other)) size
                ∙ c.loop-k.invariant.read;
          }
    ]

pub returns-then-at-body-clause-value : goal.returns-then-at-body-clause-value
returns-then-at-body-clause-value c =
    let body = c.args.body.now in
    let some : 0 < length (drop c.loop-k.at body) = omega (arith, length-drop c.loop-k.at body) in
    left-over front_load_area (option_map (place_in body) c.loop-k.found) c.loop-k.at
    (c.args.number - c.loop-k.k) (c.args.areas - c.loop-k.k) (drop c.loop-k.at body)
    (omega (arith, c.loop-k-test.false)) some
    ∙ c.loop-k.invariant.read

-- The front of a file that is no capture, and of one.
use Rattle.std.proofs.Common.{◌≡◌, ◌∙◌, ◌<◌, ◌++◌, ap, sym, subst, refl, ℕ, List, [], None, Some, length, drop}
use Rattle.std.specs.Option.{option_map}
use Rattle.std.specs.Io.KnownBytes.{IsAtEnd, prepend_known}
use Rattle.lpt_capture.specs.Captured.{found_in, order_of}
use Rattle.lpt_capture.specs.States.{Gives, finding_ahead, found_at, front_size, octets_held}
use Rattle.lpt_capture.proofs.FindingLemmas.{front-found}
use Rattle.lpt_capture.proofs.captured.Captured.settle_front.Goals as goal

pub returns-in-None-clause-same : goal.returns-in-None-clause-same
returns-in-None-clause-same g c =
    let had = octets_held c.hold_front.new.self.ahead in
    let place = c.behind_other-self.result in
    let plain : order_of had ≡ None =
    ap order_of (sym c.octets_held.ensures) ∙ sym c.order_in.ensures ∙ c.in-None.is in
    let rest = g.S.Source.remaining c.hold_front.new.self.ahead.source in
    let enough = c.if-not-hold_front.ensures.enough refl in
    let P : List ℕ → Type 0 =
    λ h. (b : List ℕ) → (length h < 4 → b ≡ []) → found_in (h ++ b) ≡ found_at place (h ++ b) in
    front-found c.args.self.now.place place _ had had rest 4 c.in-Front.is c.hold_front.ensures.same
    (subst (λ o. length had < front_size o → IsAtEnd rest) plain enough)
    (subst P c.octets_held-in-None.ensures c.behind_other-self.ensures.found)

pub returns-in-Some-clause-same : goal.returns-in-Some-clause-same
returns-in-Some-clause-same g c =
    let remaining = g.S.Source.remaining in
    let had = octets_held c.hold_front.new.self.ahead in
    let place = c.behind_file_header-self.result in
    let before = finding_ahead remaining c.args.self.now in
    let order : order_of had ≡ Some c.in-Some.turned =
    ap order_of (sym c.octets_held.ensures) ∙ sym c.order_in.ensures ∙ c.in-Some.is in
    let rest = remaining c.hold_front.new.self.ahead.source in
    let enough = c.if-not-hold_front.ensures.enough refl in
    let P : List ℕ → Type 0 =
    λ h. (b : List ℕ) → (length h < 24 → b ≡ [])
    → found_in (h ++ b) ≡ found_at place (drop 24 h ++ b) in
    let behind : Gives before (option_map (found_at place) (prepend_known (drop 24 had) rest)) [] =
    front-found c.args.self.now.place place _ had (drop 24 had) rest 24 c.in-Front.is
    c.hold_front.ensures.same
    (subst (λ o. length had < front_size o → IsAtEnd rest) order enough)
    (subst P c.octets_held-in-Some.ensures c.behind_file_header-self.ensures.found) in
    let after = remaining c.skip.new.self.source in
    let known : Gives before (option_map (found_at place) (prepend_known (drop 24 had) after)) [] =
    subst
    (λ s. Gives before (option_map (found_at place) (prepend_known (drop 24 had) (remaining s))) [])
    (sym c.skip.ensures.source) behind in
    subst (λ k. Gives before (option_map (found_at place) (prepend_known k after)) [])
    (sym c.skip.ensures.held) known

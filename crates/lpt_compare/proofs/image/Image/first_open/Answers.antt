-- Areas in another order show the same addresses.
use Rattle.std.proofs.Common.{rules, ◌≡◌, ◌∙◌, ap, sym, subst, ℕ, ◌&&◌, arith}
use Rattle.std.specs.List.Sorted.{IsNonDecreasingBy}
use Rattle.std.proofs.lemmas.List.Sorted.{list_any-IsPermutation, IsNonDecreasingBy-from_sort_by_key}
use Rattle.lpt_compare.specs.declared.checked.Checked.{Checked}
use Rattle.lpt_compare.specs.Images.{agrees, has, is_shown}
use Rattle.lpt_compare.proofs.image.Image.first_open.Goals as goal

pub reach-open-requires : goal.reach-open-requires
reach-open-requires c =
    let up = IsNonDecreasingBy-from_sort_by_key (λ (x : Checked). x.address) _
    c.sort_unstable_by_key.ensures.sorted (λ a r q k. search rules) in
    subst (IsNonDecreasingBy (λ (x : Checked). x.address)) (sym c.deref.ensures.value) up

-- all are shown
pub returns-then-end-open : goal.returns-then-end-open
returns-then-end-open c = λ n a b.
    let from = c.args.self.now.from in
    let octets = c.args.self.now.octets.now in
    list_any-IsPermutation (λ x. has x n && agrees from octets x) _ _
    c.sort_unstable_by_key.ensures.permutation
    ∙ ap (λ xs. is_shown from octets xs n) (sym c.deref.ensures.value)
    ∙ c.reach-open.ensures.shown n a (omega (arith, b, c.if-end-open.true, c.from.ensures))

-- one isn't
pub returns : goal.returns
returns c =
    let from = c.args.self.now.from in
    let octets = c.args.self.now.octets.now in
    let same : (n : ℕ) → is_shown from octets c.args.checks.items n
    ≡ is_shown from octets c.deref.result.now n =
    λ n. list_any-IsPermutation (λ x. has x n && agrees from octets x) _ _
    c.sort_unstable_by_key.ensures.permutation
    ∙ ap (λ xs. is_shown from octets xs n) (sym c.deref.ensures.value) in (
      c.reach-open.ensures.from,
      omega (arith, c.if-end-open.false, c.from.ensures),
      same c.reach-open.result ∙ c.reach-open.ensures.open,
      λ n a b. same n ∙ c.reach-open.ensures.shown n a b,
    )

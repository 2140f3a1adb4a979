-- What was told on it.
use Rattle.std.proofs.Common.{◌≡◌, ◌∙◌, ap, sym, rules, Some}
use Rattle.std.specs.BTreeMap.{get}
use Rattle.lpt_outcomes.specs.declared.outcome.Outcome.{Outcome}
use Rattle.lpt_outcomes.specs.Answers.{with_told}
use Rattle.lpt_outcomes.specs.Keys.{key_cmp, key_of}
use Rattle.lpt_outcomes.proofs.asked.Asked.answer.Goals as goal

pub returns-in-Some : goal.returns-in-Some
returns-in-Some c =
    let a = c.args.self.now in
    let told : get key_cmp c.args.outcomes.now (key_of a) ≡ Some c.in-Some.outcome.now =
    ap (get key_cmp c.args.outcomes.now) (sym c.key.ensures) ∙ search rules in
    ap (λ (o : Outcome). record a { outcome = o }) c.with_later-self.ensures
    ∙ sym (ap (with_told a) told)

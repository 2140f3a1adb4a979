-- What the report tells is put under its key alone.
use Rattle.std.proofs.Common.{rules}
use Rattle.std.specs.BTreeMap.{get}
use Rattle.lpt_outcomes.specs.Keys.{key_cmp}
use Rattle.lpt_outcomes.proofs.KeyLemmas.{heard-put}
use Rattle.lpt_outcomes.proofs.answers.hear.Goals as goal

pub returns-in-Some : goal.returns-in-Some
returns-in-Some c = λ k.
    heard-put c.args.news.now c.key.result k (get key_cmp c.args.outcomes.now) c.in-Some.outcome.now
    c.with_news.result _ c.key.ensures c.with_news.ensures (search rules)
    (((c.get_mut.follows.holds _).3 (search rules)).0 k)

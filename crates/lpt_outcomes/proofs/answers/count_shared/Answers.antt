-- One request more, and the numbers that were counted are those of the requests.
use Rattle.std.proofs.Common.{rules, arith, ◌≡◌, ◌∙◌, ap, sym, ℕ, Bool, true}
use Rattle.std.proofs.lemmas.Grind.{common_steps}
use Rattle.std.specs.Prelude.{count_by, nat_lt}
use Rattle.std.specs.BTreeMap.{get}
use Rattle.std.specs.Map.{count_at}
use Rattle.lpt_packet.proofs.BoolLemmas.{lt_true}
use Rattle.lpt_packet.proofs.Readings.{lt_false}
use Rattle.lpt_outcomes.specs.declared.asked.Asked.{Asked}
use Rattle.lpt_outcomes.specs.Keys.{Key, key_cmp, key_of}
use Rattle.lpt_outcomes.proofs.KeyLemmas.{count-more, count-same}
use Rattle.lpt_outcomes.proofs.answers.count_shared.Goals as goal
use Rattle.lpt_outcomes.proofs.answers.count_shared.Goals.{then-sharers-gt1, else-sharers-gt1}

pub loop-asked-preserved : goal.loop-asked-preserved
loop-asked-preserved c =
    let f : Asked → Bool =
    λ a. nat_lt 1 (count_at (get key_cmp c.in_ok-counts.counts) (key_of a)) in
    elim c.if-sharers-gt1.branch [
      | then-sharers-gt1 w ↦
          w.shared-is
          ∙ count-more f c.args.requests.now c.loop-asked.asked-index _ c.loop-asked.shared true
          (search rules) (ap (nat_lt 1) (sym c.sharers.ensures)
          ∙ lt_true 1 c.sharers.result w.if-sharers-gt1.true)
          c.loop-asked.invariant
      | else-sharers-gt1 w ↦
          w.shared-is
          ∙ count-same f c.args.requests.now c.loop-asked.asked-index _ c.loop-asked.shared
          (search rules) (ap (nat_lt 1) (sym c.sharers.ensures)
          ∙ lt_false 1 c.sharers.result w.if-sharers-gt1.false)
          c.loop-asked.invariant
    ]

pub returns : goal.returns
returns c =
    let requests = c.args.requests.now in
    let counts : Key → ℕ = count_at (get key_cmp c.in_ok-counts.counts) in
    let whole : c.loop-asked.shared ≡ count_by (λ a. nat_lt 1 (counts (key_of a))) requests =
    first_of (search rules, grind (arith, common_steps))
    in
    whole ∙ (λ t. count_by (λ a. nat_lt 1 (c.in_ok-counts.ensures (key_of a) t)) requests)

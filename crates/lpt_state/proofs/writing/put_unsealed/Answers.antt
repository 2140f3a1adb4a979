-- The head, the numbers and the runs stand one behind the other.
use Rattle.std.proofs.Common.{◌≡◌, ◌∙◌, ap, sym, ℕ, ◌+◌, ◌*◌, ◌≤◌, List, ◌++◌, length, drop, arith}
use Rattle.std.proofs.lemmas.List.{drop-drop}
use Rattle.lpt_state.specs.Lastings.{lasting_of, Lasting}
use Rattle.lpt_state.specs.Spellings.{head_octets, number_octets, runs_octets}
use Rattle.lpt_state.proofs.SpellingLemmas.{length-front}
use Rattle.lpt_state.proofs.writing.put_unsealed.Goals as goal

pub put_both-sent-requires : goal.put_both-sent-requires
put_both-sent-requires c =
    let v = c.args.node.now in
    omega (
      arith,
      c.requires,
      length-front v.side v.config (lasting_of v.at),
      c.split_at_mut-front.ensures.back_len,
    )

pub overflow_add-result : goal.overflow_add-result
overflow_add-result c =
    let v = c.args.node.now in
    omega (
      arith,
      c.requires,
      length-front v.side v.config (lasting_of v.at),
      c.put_both-sent.ensures.sent,
      c.put_both-sent.ensures.received,
    )

pub overflow_mul-result : goal.overflow_mul-result
overflow_mul-result c =
    let v = c.args.node.now in
    omega (
      arith,
      c.requires,
      length-front v.side v.config (lasting_of v.at),
      c.put_both-sent.ensures.sent,
      c.put_both-sent.ensures.received,
    )

pub overflow_add-result-2 : goal.overflow_add-result-2
overflow_add-result-2 c =
    let v = c.args.node.now in
    omega (
      arith,
      c.requires,
      length-front v.side v.config (lasting_of v.at),
      c.put_both-sent.ensures.sent,
      c.put_both-sent.ensures.received,
    )

pub returns-clause-len : goal.returns-clause-len
returns-clause-len c =
    let v = c.args.node.now in
    omega (
      arith,
      length-front v.side v.config (lasting_of v.at),
      c.put_both-sent.ensures.sent,
      c.put_both-sent.ensures.received,
    )

pub returns-clause-octets : goal.returns-clause-octets
returns-clause-octets c =
    let v = c.args.node.now in
    let s : Lasting = lasting_of v.at in
    let out : List ℕ = c.args.out.now in
    let runs : List ℕ = runs_octets s.sent ++ runs_octets s.received in
    let n : ℕ = 6 * (length s.sent + length s.received) in
    let head : c.put_head.new.out ≡ head_octets v.side v.config =
    c.put_head.ensures ∙ (λ i. head_octets (c.side.ensures i) (c.config.ensures.config i)) in
    let numbers : c.put_numbers.new.out
    ≡ number_octets v.at.boot v.at.clock (length s.sent) (length s.received) =
    c.put_numbers.ensures
    ∙ (λ i. number_octets (c.boot.ensures i) (c.clock.ensures i) (c.put_both-sent.ensures.sent i)
    (c.put_both-sent.ensures.received i)) in
    let behind : c.put_both-sent.new.out ≡ runs ++ drop (43 + n) out =
    c.put_both-sent.ensures.octets
    ∙ ap (λ (xs : List ℕ). runs ++ drop n xs) c.split_at_mut-front.ensures.back
    ∙ ap (λ (xs : List ℕ). runs ++ xs) (drop-drop n 43 out) in
    (λ i. (head i ++ numbers i) ++ behind i)
    ∙ ap (λ (k : ℕ). (head_octets v.side v.config
    ++ number_octets v.at.boot v.at.clock (length s.sent) (length s.received)
    ++ runs_octets s.sent ++ runs_octets s.received) ++ drop k out)
    (sym (length-front v.side v.config s))

-- A bit that needn't change, and none without a word.
use Rattle.std.proofs.Common.{◌≡◌, ◌∙◌, ap, sym, rules, ℕ, ◌==◌, true, false, is_some, arith}
use Rattle.std.specs.BTreeMap.{is_at}
use Rattle.std.specs.Int.{bit_at}
use Rattle.std.specs.Map.{lookup}
use Rattle.lpt_packet.specs.Names.{Name, name_cmp}
use Rattle.lpt_ledger.specs.LedgerInside.{word_first, word_in}
use Rattle.lpt_ledger.proofs.FullLemmas.{none_set, one_word, page_bit}
use Rattle.lpt_ledger.proofs.full.put_bit.Goals as goal

pub returns-then-not-contains_key-clause-this : goal.returns-then-not-contains_key-clause-this
returns-then-not-contains_key-clause-this c = λ q same one.
    let ws = c.args.words.now.entries in
    let without : is_some (lookup (is_at (name_cmp c.first_among-first.result)) ws) ≡ false = search rules in
    let none : is_some (lookup (is_at (name_cmp (word_first q))) ws) ≡ false =
    ap (λ (n : Name). is_some (lookup (is_at (name_cmp n)) ws))
    (sym (one_word q c.args.name same) ∙ sym c.first_among-first.ensures) ∙ without in
    absurd (omega (arith, none_set ws q none, one))

-- the bit is as it has to be
pub returns-then-has_bit-is_full-clause-this : goal.returns-then-has_bit-is_full-clause-this
returns-then-has_bit-is_full-clause-this c = λ q same one.
    let ws = c.args.words.now.entries in
    let word : c.word_of-word.result ≡ word_in ws (word_first c.args.name) =
    c.word_of-word.ensures ∙ ap (λ (n : Name). word_in ws n) c.first_among-first.ensures in
    let bit : bit_at c.word_of-word.result c.from-bit.result ≡ 1 =
    (λ i. bit_at (word i) (c.from-bit.ensures i)) ∙ sym (page_bit ws q c.args.name same) ∙ one in
    let set : c.has_bit.result ≡ true = c.has_bit.ensures ∙ ap (λ (n : ℕ). n == 1) bit in
    search (rules, set, c.if-has_bit-is_full.true)

-- A word in which no bit is set says what no word says.
use Rattle.std.proofs.Common.{◌≡◌, ◌∙◌, rules, cond}
use Rattle.std.specs.BTreeMap.{is_at}
use Rattle.lpt_packet.specs.Names.{name_cmp}
use Rattle.lpt_ledger.specs.LedgerInside.{word_in}
use Rattle.lpt_ledger.proofs.FullLemmas.{zero_word}
use Rattle.lpt_ledger.proofs.full.keep_place.Goals as goal

pub returns-in-Ok-clause-words : goal.returns-in-Ok-clause-words
returns-in-Ok-clause-words c = λ q.
    let put : word_in c.insert.new.self.entries q
    ≡ cond (is_at (name_cmp c.first_among-first.result) q) 0 (word_in c.args.words.now.entries q) = search rules in
    put ∙ zero_word c.args.words.now.entries c.first_among-first.result q (search rules)

-- The runs are those of both ledgers.
use Rattle.std.proofs.Common.{◌∙◌, ap, length, arith}
use Rattle.lpt_ledger.specs.Marks.{Marks}
use Rattle.lpt_ledger.specs.Runs.{runs_of}
use Rattle.lpt_state.proofs.LawLemmas.{length_of}
use Rattle.lpt_state.proofs.writing.state_len.Goals as goal

pub returns-clause-len : goal.returns-clause-len
returns-clause-len c =
    omega (
      arith,
      length_of c.args.node.now,
      c.run_count.ensures.count ∙ ap (λ (m : Marks). length (runs_of m)) c.senders.ensures,
      c.run_count-2.ensures.count
          ∙ ap (λ (m : Marks). length (runs_of m)) c.receivers.ensures.names,
    )

-- A name that is free stays so.
use Rattle.std.proofs.Common.{◌≡◌, ◌∙◌, ap, refl, Some}
use Rattle.lpt_ledger.specs.declared.state.State.{State}
use Rattle.lpt_ledger.specs.declared.state.State.TheVariants.{Free, Open, Closed}
use Rattle.lpt_ledger.specs.declared.fault.LedgerFault.TheVariants.{NotOpen}
use Rattle.lpt_ledger.specs.Refusals.{refusal_retire}
use Rattle.lpt_ledger.specs.States.{state_at}
use Rattle.lpt_node.proofs.RestartLemmas.{retired-free}
use Rattle.lpt_node.proofs.restart.free.Goals as goal

pub returns-in-Err-NotOpen : goal.returns-in-Err-NotOpen
returns-in-Err-NotOpen c =
    c.in-Err-NotOpen.ensures.err
    ∙ retired-free c.args.ledger.now c.args.name
    (not_refused (state_at c.args.ledger.now c.args.name)
    (c.in-Err-NotOpen.ensures.refused ∙ ap Some c.in-Err-NotOpen.field-0-is)) where
      not_refused : (s : State) → refusal_retire s ≡ Some NotOpen → s ≡ Free
      not_refused Free h = refl
      not_refused Open h = cc
      not_refused Closed h = cc

-- Why a name of this state can't be changed as asked; none if it can.
use Rattle.std.specs.Prelude.{◌≡◌, Option, Some, None}
use Rattle.lpt_ledger.specs.declared.state.State.{State}
use Rattle.lpt_ledger.specs.declared.state.State.TheVariants.{Free, Open, Closed}
use Rattle.lpt_ledger.specs.declared.fault.LedgerFault.{LedgerFault}
use Rattle.lpt_ledger.specs.declared.fault.LedgerFault.TheVariants.{InUse, StillOpen, NotOpen, Memory}

-- only a free one is opened
abbrev pub refusal_open : State → Option LedgerFault
refusal_open Free = None
refusal_open Open = Some InUse
refusal_open Closed = Some InUse

-- only an open one is closed
abbrev pub refusal_close : State → Option LedgerFault
refusal_close Free = Some NotOpen
refusal_close Open = None
refusal_close Closed = Some NotOpen

-- only a free one is shut
abbrev pub refusal_shut : State → Option LedgerFault
refusal_shut Free = None
refusal_shut Open = Some InUse
refusal_shut Closed = Some InUse

-- only a closed one is retired
abbrev pub refusal_retire : State → Option LedgerFault
refusal_retire Free = Some NotOpen
refusal_retire Open = Some StillOpen
refusal_retire Closed = None

-- a call that takes memory is refused for the state, or for out of memory if that allows it
abbrev pub RefusedBy : Option LedgerFault → LedgerFault → Type 0
RefusedBy (Some first) e = e ≡ first
RefusedBy None e = e ≡ Memory

-- Each side is computed.
use Rattle.std.proofs.Common.{refl}
use Rattle.lpt_packet.specs.Checksums.{checksum, octets_in, shift_all}
use Rattle.lpt_ledger.specs.Runs.{ascend_behind}
use Rattle.lpt_state.specs.Spellings.{spelling}
use Rattle.lpt_state.specs.Verdicts.{runs_in, verdict}
use Rattle.lpt_apart_examples.proofs.laws.worked_state.Goals as goal

pub returns-clause-spelled : goal.returns-clause-spelled
unfolding spelling checksum octets_in shift_all
returns-clause-spelled c = refl

pub returns-clause-read : goal.returns-clause-read
unfolding verdict runs_in ascend_behind checksum octets_in shift_all
returns-clause-read c = refl

pub returns-clause-clock : goal.returns-clause-clock
unfolding verdict runs_in ascend_behind checksum octets_in shift_all
returns-clause-clock c = refl

pub returns-clause-limits : goal.returns-clause-limits
unfolding verdict runs_in ascend_behind checksum octets_in shift_all
returns-clause-limits c = refl

pub returns-clause-side : goal.returns-clause-side
unfolding verdict
returns-clause-side c = refl

pub returns-clause-config : goal.returns-clause-config
unfolding verdict
returns-clause-config c = refl

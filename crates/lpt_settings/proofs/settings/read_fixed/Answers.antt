-- The configuration has the numbers and the mode that were read.
-- It is written out so that a wrong body is refused at once.
use Rattle.std.proofs.Common.{Some}
use Rattle.lpt_memory.specs.Fields.{◌>>=◌}
use Rattle.lpt_settings.proofs.settings.read_fixed.Goals as goal

pub returns-clause-value : goal.returns-clause-value
returns-clause-value c = λ i. do
  apid ← c.in_ok-apid.ensures.value i
  source ← c.in_ok-source.ensures.value i
  part_size ← c.in_ok-part_size.ensures.value i
  timeout ← c.in_ok-timeout.ensures.value i
  receptions ← c.in_ok-receptions.ensures.value i
  outgoing ← c.in_ok-outgoing.ensures.value i
  clock ← c.in_ok-clock.ensures.value i
  mode ← c.in_ok-mode.ensures.value i
  Some (record {
    apid = apid;
    source = source;
    part_size = part_size;
    timeout = timeout;
    receptions = receptions;
    outgoing = outgoing;
    clock = clock;
    mode = mode;
  })

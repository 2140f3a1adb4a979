-- Nothing is known yet.
use Rattle.std.proofs.Common.{[]}
use Rattle.lpt_stream.proofs.buffer.PacketBuffer.new.Goals as goal

pub invariant_of-result-clause-known : goal.invariant_of-result-clause-known
invariant_of-result-clause-known c = c.new-2.ensures []

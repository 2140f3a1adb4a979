-- What is known of octets that are passed over is known of those behind them.
use Rattle.std.proofs.Common.{subst, take}
use Rattle.std.proofs.lemmas.List.{drop-drop}
use Rattle.lpt_stream.specs.Searches.{Knows}
use Rattle.lpt_stream.specs.Buffers.{octets_held}
use Rattle.lpt_stream.proofs.buffer.PacketBuffer.skip.Goals as goal

pub invariant_of-self-clause-known : goal.invariant_of-self-clause-known
invariant_of-self-clause-known c =
    let b = c.args.self.now in
    subst (Knows c.pass.new.self) (drop-drop c.args.found.len b.start (take b.end b.octets.items))
    (c.pass.ensures (octets_held b) b.known)

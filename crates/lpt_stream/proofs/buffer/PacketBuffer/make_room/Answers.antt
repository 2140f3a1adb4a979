-- What there is room for changes nothing of what is held.
use Rattle.std.proofs.Common.{◌+◌, ◌-◌, subst, arith}
use Rattle.std.specs.Prelude.{is_ok, replicate}
use Rattle.lpt_stream.specs.Searches.{Knows}
use Rattle.lpt_stream.proofs.KnownLemmas.{resized}
use Rattle.lpt_stream.proofs.buffer.PacketBuffer.make_room.Goals as goal

pub invariant_of-self-clause-known : goal.invariant_of-self-clause-known
invariant_of-self-clause-known c =
    let b = c.args.self.now in
    let room = b.end + 65536 in
    subst (Knows b.search)
    (resized (is_ok c.resize.result) b.start b.end room b.octets.items
    (replicate (room - b.octets.len) 0) c.resize.new.self.items c.resize.ensures.items b.within
    (omega (arith, c.if-len-room.true, c.len.ensures, b.octets.ok.0)))
    b.known

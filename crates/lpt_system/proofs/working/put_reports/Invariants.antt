-- What is put so far, with what is left.
use Rattle.std.proofs.Common.{◌≡◌, ◌≤◌, length, None}
use Rattle.lpt_packet.specs.declared.direction.Direction.TheVariants.{Down}
use Rattle.lpt_model.specs.State.{put_all}
use Rattle.lpt_system.proofs.working.put_reports.Given as goal

abbrev pub invariant-loop-octets : goal.invariant-loop-octets
invariant-loop-octets l =
    (length l.octets-iterator.rest.items ≤ l.link.spare)
    × (put_all l.link.at Down None l.octets-iterator.rest.items
    ≡ put_all l.fn.link.at Down None l.fn.packets.items)

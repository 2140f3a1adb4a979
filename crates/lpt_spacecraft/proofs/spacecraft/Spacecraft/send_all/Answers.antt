-- All parts were written, and the message can't be finished.
use Rattle.std.proofs.Common.{rules, length}
use Rattle.std.specs.Io.KnownBytes.{Appends}
use Rattle.lpt_part.specs.Splitting.{part_count}
use Rattle.lpt_stream.specs.Streams.{all_octets}
use Rattle.lpt_text.proofs.StreamLemmas.{part_whole}
use Rattle.lpt_spacecraft.specs.Serving.{first_sent}
use Rattle.lpt_spacecraft.proofs.spacecraft.Spacecraft.send_all.Goals as goal

pub returns-in-Err-finish-clause-part : goal.returns-in-Err-finish-clause-part
returns-in-Err-finish-clause-part g c =
    let s = c.args.self.now in
    let old = g.K.Sink.contents c.args.out.now in
    let new = g.K.Sink.contents c.send_parts.new.out in
    let all = all_octets (first_sent s.config s.node.at c.args.name
    (part_count (length c.args.message.now) s.config.part_size)).1 in
    let h : Appends old new all = search rules in
    part_whole old new all h

-- One mark more.
use Rattle.std.proofs.Common.{◌≡◌, ◌∙◌, ◌+◌, ◌-◌, ◌*◌, ◌<◌, ◌≤◌, ℕ, ap, take, get_or, length, arith}
use Rattle.std.proofs.lemmas.List.{length-set}
use Rattle.lpt_packet.specs.Checksums.{octets_in}
use Rattle.lpt_stream.proofs.MarkLemmas.{from_mark, marks-next}
use Rattle.lpt_stream.proofs.marks.extend_marks.Goals as goal

pub loop-count-init : goal.loop-count-init
loop-count-init c = record {
  are = c.begin_marks-count.ensures.are c.args.octets.now c.requires.are;
  some = c.begin_marks-count.ensures.some;
  room = omega (arith, c.requires.room, c.begin_marks-count.ensures.size);
}

pub loop-count-preserved : goal.loop-count-preserved
loop-count-preserved c =
    let count = c.loop-count.count in
    let room = c.loop-count.room in
    let b = c.args.octets.now in
    let before : count - 1 < count = omega (arith, c.loop-count.invariant.some) in
    let next : (count - 1) * 64 + 64 ≡ count * 64 = omega (arith, c.loop-count.invariant.some) in
    let fits : count < length room =
    omega (arith, c.loop-count-test.true, c.loop-count.invariant.room) in
    let within : count * 64 ≤ length b =
    omega (arith, c.loop-count-test.true, c.requires.within) in
    record {
      are = marks-next count c.octets_in.result room b c.loop-count.invariant.are fits within
          (c.octets_in.ensures
          ∙ from_mark ((count - 1) * 64) ((count - 1) * 64 + 64) (get_or room (count - 1) 0) b
          (omega arith) (c.loop-count.invariant.are (count - 1) before).1
          ∙ ap (λ (k : ℕ). octets_in 0 (take k b)) next);
      some = omega arith;
      room = omega (arith, length-set room count c.octets_in.result, c.loop-count.invariant.room);
    }

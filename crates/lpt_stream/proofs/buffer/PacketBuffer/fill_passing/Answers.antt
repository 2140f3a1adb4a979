-- What was read stands behind what was held, of a source that waits as well.
use Rattle.std.proofs.Common.{◌≡◌, ◌∙◌, ◌<◌, ◌≤◌, ◌+◌, ◌++◌, List, ℕ, ap, sym, subst, length, take, arith, length-drop}
use Rattle.std.proofs.lemmas.List.{length-take, length-take-le}
use Rattle.lpt_stream.specs.Searches.{Knows}
use Rattle.lpt_stream.proofs.SearchLemmas.{knows-more}
use Rattle.lpt_stream.specs.Buffers.{octets_held}
use Rattle.lpt_stream.specs.Pieces.{most_kept}
use Rattle.lpt_stream.proofs.BufferLemmas.{filled, more_given}
use Rattle.lpt_stream.proofs.KnownLemmas.{refilled, unread}
use Rattle.lpt_stream.proofs.buffer.PacketBuffer.fill_passing.Goals as goal

pub returns : goal.returns
returns g c =
    let b = c.make_room.new.self in
    let n = c.in-Some.given in
    let buf = c.read.new.buf in
    let call = c.in-Some.ensures in
    let slice = ap (λ (o : List ℕ). length o) c.deref_mut.ensures.value in
    let room = c.in-Ok.ensures.room in
    let size : length buf ≡ 65536
    = omega (arith, c.read.auto.buf, slice, room, length-take {A = ℕ}, length-drop {A = ℕ}) in
    let fits : b.end + n ≤ b.octets.len = omega (arith, call.bound, size, room, b.octets.ok.0) in
    let some : 0 < length buf = omega (arith, size) in (
      take n buf,
      record {
        consumed = call.bytes.0;
        behind = filled b.start b.end n b.octets.len b.octets.items c.deref_mut.result.now buf _ _
            (c.in-Ok.ensures.front ∙ c.compact.ensures.front) c.deref_mut.ensures.value b.within
            call.bound fits
            ∙ ap (λ (o : List ℕ). o ++ take n buf) (c.in-Ok.ensures.held ∙ c.compact.ensures.held);
        step = c.in-Ok.ensures.step ∙ c.compact.ensures.step;
        cut = c.in-Ok.ensures.cut ∙ c.compact.ensures.cut;
      },
      call.cause,
      omega (arith, size, call.bound, length-take-le n buf call.bound),
      more_given n buf _ call.bound some call.bytes.1,
    )

-- a read that failed leaves what was held
pub invariant_of-self : goal.invariant_of-self
invariant_of-self g c =
    let b = c.make_room.new.self in
    let buf = c.read.new.buf in
    let slice = ap (λ (o : List ℕ). length o) c.deref_mut.ensures.value in
    let room = c.in-Ok.ensures.room in
    let size : length buf ≡ 65536
    = omega (arith, c.read.auto.buf, slice, room, length-take {A = ℕ}, length-drop {A = ℕ}) in
    let all = refilled b.end 65536 b.octets.len b.octets.items c.deref_mut.result.now buf
    c.deref_mut.ensures.value room size b.octets.ok.0 in
    record {
      ordered = b.ordered;
      within = subst (λ n. b.end ≤ n) (sym all) b.within;
      few = subst (λ n. n ≤ most_kept) (sym all) b.few;
      known = subst (Knows b.search)
          (sym (unread b.start b.end b.octets.len b.octets.items c.deref_mut.result.now buf _ _
          (c.in-Ok.ensures.front ∙ c.compact.ensures.front) c.deref_mut.ensures.value b.within
          (omega (arith, b.within, b.octets.ok.0))))
          b.known;
    }

-- and what was read stands behind it
pub invariant_of-self-2 : goal.invariant_of-self-2
invariant_of-self-2 g c =
    let b = c.make_room.new.self in
    let n = c.in-Some.given in
    let buf = c.read.new.buf in
    let call = c.in-Some.ensures in
    let slice = ap (λ (o : List ℕ). length o) c.deref_mut.ensures.value in
    let room = c.in-Ok.ensures.room in
    let size : length buf ≡ 65536
    = omega (arith, c.read.auto.buf, slice, room, length-take {A = ℕ}, length-drop {A = ℕ}) in
    let fits : b.end + n ≤ b.octets.len = omega (arith, call.bound, size, room, b.octets.ok.0) in
    let all = refilled b.end 65536 b.octets.len b.octets.items c.deref_mut.result.now buf
    c.deref_mut.ensures.value room size b.octets.ok.0 in
    record {
      ordered = omega (arith, b.ordered);
      within = subst (λ k. b.end + n ≤ k) (sym all) (omega (arith, fits, b.octets.ok.0));
      few = subst (λ k. k ≤ most_kept) (sym all) b.few;
      known = subst (Knows b.search)
          (sym (filled b.start b.end n b.octets.len b.octets.items c.deref_mut.result.now buf _ _
          (c.in-Ok.ensures.front ∙ c.compact.ensures.front) c.deref_mut.ensures.value b.within
          call.bound fits))
          (knows-more b.search (octets_held b) (take n buf) b.known);
    }

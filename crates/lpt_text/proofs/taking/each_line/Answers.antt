-- Line after line, until none is left, or none is taken behind one.
use Rattle.std.proofs.Common.{◌≡◌, ◌∙◌, ◌+◌, ◌<◌, ◌≤◌, ◌⊎◌, ap, sym, subst, refl, is_none, true, length, arith}
use Rattle.std.proofs.KnownBytes.{Appends-nil}
use Rattle.std.proofs.lemmas.Bool.Decides.{nat_tests}
use Rattle.std.proofs.lemmas.Grind.{common_steps}
use Rattle.lpt_text.specs.Lines.{octets_held, room_of}
use Rattle.lpt_text.specs.Taking.{IsTaken, TakesText, failures, is_last}
use Rattle.lpt_text.specs.TakingInside.{IsPiece}
use Rattle.lpt_text.proofs.TakeLemmas.{found, none_is, over_by, piece_size, takes_broken, takes_cut, takes_last, takes_next, takes_nothing, takes_read, takes_smaller, takes_start, takes_within}
use Rattle.lpt_text.proofs.taking.each_line.Goals as goal

-- nothing was read
pub loop-place-init : goal.loop-place-init
loop-place-init g c = record {
  takes = takes_start g.T.LineTaker.story c.args.taker.now (octets_held c.new-lines.result)
      (room_of c.new-lines.result)
      (g.S.Source.remaining c.args.source.now) (g.K.Sink.contents c.args.out.now)
      (g.K.Sink.contents c.args.out.now)
      c.new-lines.ensures.held c.new-lines.ensures.room
      (Appends-nil (g.K.Sink.contents c.args.out.now));
  going = c.requires;
  heard = refl;
  written = refl;
}

-- no more could be read
pub returns-in-Err-clause-ends : goal.returns-in-Err-clause-ends
returns-in-Err-clause-ends g c =
    takes_cut g.T.LineTaker.story c.args.taker.now c.loop-place.taker c.loop-place.is_taken
    c.loop-place.number c.loop-place.failed
    c.loop-place.lines c.find_line.new.self c.in-Err.fault
    (g.S.Source.remaining c.args.source.now) (g.S.Source.remaining c.loop-place.source)
    (g.S.Source.remaining c.find_line.new.source)
    (g.K.Sink.contents c.args.out.now) (g.K.Sink.contents c.loop-place.out)
    (g.K.Sink.contents c.find_line.new.out)
    (g.T.LineTaker.is_over c.loop-place.taker) (g.S.Source.failed c.loop-place.source)
    (g.S.Source.failed c.find_line.new.source)
    c.loop-place.invariant.takes c.in-Err.ensures.finds c.in-Err.ensures.same
    c.loop-place.invariant.going

-- nothing is held
pub returns-then-is_empty-clause-ends : goal.returns-then-is_empty-clause-ends
returns-then-is_empty-clause-ends g c =
    let story = g.T.LineTaker.story in
    let first = c.args.taker.now in
    let t = c.loop-place.taker in
    let text = octets_held c.find_line.new.self in
    let old = g.S.Source.remaining c.args.source.now in
    let now = g.S.Source.remaining c.loop-place.source in
    let next = g.S.Source.remaining c.find_line.new.source in
    let a = g.K.Sink.contents c.args.out.now in
    let b = g.K.Sink.contents c.find_line.new.out in
    let place = c.in-Ok.place in
    let finds = found place c.loop-place.lines c.find_line.new.self now next
    (g.S.Source.failed c.loop-place.source)
    (g.S.Source.failed c.find_line.new.source) c.in-Ok.ensures.finds in
    let takes =
    takes_read story first t c.loop-place.is_taken c.loop-place.number c.loop-place.failed
    c.loop-place.lines
    c.find_line.new.self finds.0 old now next a (g.K.Sink.contents c.loop-place.out) b
    c.loop-place.invariant.takes finds.1 c.in-Ok.ensures.same in
    let none : length text ≡ 0 =
    grind (
      arith,
      common_steps,
      nat_tests,
      c.octets_held-held.ensures,
      c.is_empty.ensures,
      c.if-is_empty.true,
    ) in
    takes_nothing story first t c.loop-place.is_taken c.loop-place.number c.loop-place.failed place
    text (room_of c.find_line.new.self)
    old next a b (g.T.LineTaker.is_over t)
    (g.S.Source.failed c.find_line.new.source) takes finds.2 none finds.3
    c.loop-place.invariant.going

pub returns-then-is_empty-clause-within : goal.returns-then-is_empty-clause-within
returns-then-is_empty-clause-within g c =
    let story = g.T.LineTaker.story in
    let first = c.args.taker.now in
    let t = c.loop-place.taker in
    let old = g.S.Source.remaining c.args.source.now in
    let now = g.S.Source.remaining c.loop-place.source in
    let next = g.S.Source.remaining c.find_line.new.source in
    let a = g.K.Sink.contents c.args.out.now in
    let b = g.K.Sink.contents c.find_line.new.out in
    let finds = found c.in-Ok.place c.loop-place.lines c.find_line.new.self now next
    (g.S.Source.failed c.loop-place.source)
    (g.S.Source.failed c.find_line.new.source) c.in-Ok.ensures.finds in
    takes_within story first t c.loop-place.is_taken c.loop-place.number c.loop-place.failed
    (octets_held c.find_line.new.self)
    (room_of c.find_line.new.self) old next a b
    (takes_read story first t c.loop-place.is_taken c.loop-place.number c.loop-place.failed
    c.loop-place.lines
    c.find_line.new.self finds.0 old now next a (g.K.Sink.contents c.loop-place.out) b
    c.loop-place.invariant.takes finds.1 c.in-Ok.ensures.same)

-- the last piece was taken
pub returns-then-is_at_end-clause-ends : goal.returns-then-is_at_end-clause-ends
returns-then-is_at_end-clause-ends g c =
    let story = g.T.LineTaker.story in
    let first = c.args.taker.now in
    let t = c.loop-place.taker in
    let text = octets_held c.find_line.new.self in
    let old = g.S.Source.remaining c.args.source.now in
    let now = g.S.Source.remaining c.loop-place.source in
    let next = g.S.Source.remaining c.find_line.new.source in
    let a = g.K.Sink.contents c.args.out.now in
    let b = g.K.Sink.contents c.find_line.new.out in
    let place = c.in-Ok.place in
    let finds = found place c.loop-place.lines c.find_line.new.self now next
    (g.S.Source.failed c.loop-place.source)
    (g.S.Source.failed c.find_line.new.source) c.in-Ok.ensures.finds in
    let takes =
    takes_read story first t c.loop-place.is_taken c.loop-place.number c.loop-place.failed
    c.loop-place.lines
    c.find_line.new.self finds.0 old now next a (g.K.Sink.contents c.loop-place.out) b
    c.loop-place.invariant.takes finds.1 c.in-Ok.ensures.same in
    let some : 0 < length text =
    grind (
      arith,
      common_steps,
      nat_tests,
      c.octets_held-held.ensures,
      c.is_empty.ensures,
      c.if-is_empty.false,
    ) in
    let line = c.front_line-len.result.0.now in
    let len = c.front_line-len.result.1 in
    let piece =
    subst (λ x. IsPiece place x line len) c.octets_held-held.ensures c.front_line-len.ensures in
    let d = g.K.Sink.contents c.take_front.new.out in
    let v = c.take_front.new.taker in
    let taken = c.in-Ok-take_front.taken in
    let ends = over_by (g.T.LineTaker.is_over v) (is_last taken) ((is_none place ≡ true)
    × (len ≤ 140000))
    c.in-Ok-take_front.ensures.over (c.is_at_end.ensures.yes c.if-is_at_end.true) in
    subst (λ k. IsTaken (g.T.LineTaker.is_over v) old next
    (λ x. TakesText story first v x (c.loop-place.failed + k) a d))
    (sym c.failures-failed.ensures)
    (takes_last story first t v c.loop-place.is_taken c.loop-place.number c.loop-place.failed place
    text line len
    (room_of c.find_line.new.self) taken old next a b d (g.T.LineTaker.is_over v)
    (g.S.Source.failed c.find_line.new.source)
    takes finds.2 some piece finds.3 c.in-Ok-take_front.ensures.takes ends)

pub returns-then-is_at_end-clause-within : goal.returns-then-is_at_end-clause-within
returns-then-is_at_end-clause-within g c =
    let story = g.T.LineTaker.story in
    let first = c.args.taker.now in
    let t = c.loop-place.taker in
    let old = g.S.Source.remaining c.args.source.now in
    let now = g.S.Source.remaining c.loop-place.source in
    let next = g.S.Source.remaining c.find_line.new.source in
    let a = g.K.Sink.contents c.args.out.now in
    let b = g.K.Sink.contents c.find_line.new.out in
    let finds = found c.in-Ok.place c.loop-place.lines c.find_line.new.self now next
    (g.S.Source.failed c.loop-place.source)
    (g.S.Source.failed c.find_line.new.source) c.in-Ok.ensures.finds in
    takes_within story first t c.loop-place.is_taken c.loop-place.number c.loop-place.failed
    (octets_held c.find_line.new.self)
    (room_of c.find_line.new.self) old next a b
    (takes_read story first t c.loop-place.is_taken c.loop-place.number c.loop-place.failed
    c.loop-place.lines
    c.find_line.new.self finds.0 old now next a (g.K.Sink.contents c.loop-place.out) b
    c.loop-place.invariant.takes finds.1 c.in-Ok.ensures.same)

-- a piece could not be taken
pub returns-in-Err-take_front-clause-ends : goal.returns-in-Err-take_front-clause-ends
returns-in-Err-take_front-clause-ends g c =
    let story = g.T.LineTaker.story in
    let first = c.args.taker.now in
    let t = c.loop-place.taker in
    let text = octets_held c.find_line.new.self in
    let old = g.S.Source.remaining c.args.source.now in
    let now = g.S.Source.remaining c.loop-place.source in
    let next = g.S.Source.remaining c.find_line.new.source in
    let a = g.K.Sink.contents c.args.out.now in
    let b = g.K.Sink.contents c.find_line.new.out in
    let place = c.in-Ok.place in
    let finds = found place c.loop-place.lines c.find_line.new.self now next
    (g.S.Source.failed c.loop-place.source)
    (g.S.Source.failed c.find_line.new.source) c.in-Ok.ensures.finds in
    let takes =
    takes_read story first t c.loop-place.is_taken c.loop-place.number c.loop-place.failed
    c.loop-place.lines
    c.find_line.new.self finds.0 old now next a (g.K.Sink.contents c.loop-place.out) b
    c.loop-place.invariant.takes finds.1 c.in-Ok.ensures.same in
    let some : 0 < length text =
    grind (
      arith,
      common_steps,
      nat_tests,
      c.octets_held-held.ensures,
      c.is_empty.ensures,
      c.if-is_empty.false,
    ) in
    let line = c.front_line-len.result.0.now in
    let len = c.front_line-len.result.1 in
    let piece =
    subst (λ x. IsPiece place x line len) c.octets_held-held.ensures c.front_line-len.ensures in
    let d = g.K.Sink.contents c.take_front.new.out in
    let v = c.take_front.new.taker in
    takes_broken story first t v c.loop-place.is_taken c.loop-place.number c.loop-place.failed place
    c.in-Err-take_front.fault
    text line len (room_of c.find_line.new.self) old next a b d (g.T.LineTaker.is_over v)
    (g.S.Source.failed c.find_line.new.source)
    takes finds.2 some piece finds.3 c.in-Err-take_front.ensures.breaks
    c.in-Err-take_front.ensures.fault

-- a piece was taken
pub loop-place-smaller : goal.loop-place-smaller
loop-place-smaller g c =
    let story = g.T.LineTaker.story in
    let first = c.args.taker.now in
    let t = c.loop-place.taker in
    let text = octets_held c.find_line.new.self in
    let old = g.S.Source.remaining c.args.source.now in
    let now = g.S.Source.remaining c.loop-place.source in
    let next = g.S.Source.remaining c.find_line.new.source in
    let a = g.K.Sink.contents c.args.out.now in
    let b = g.K.Sink.contents c.find_line.new.out in
    let place = c.in-Ok.place in
    let finds = found place c.loop-place.lines c.find_line.new.self now next
    (g.S.Source.failed c.loop-place.source)
    (g.S.Source.failed c.find_line.new.source) c.in-Ok.ensures.finds in
    let takes =
    takes_read story first t c.loop-place.is_taken c.loop-place.number c.loop-place.failed
    c.loop-place.lines
    c.find_line.new.self finds.0 old now next a (g.K.Sink.contents c.loop-place.out) b
    c.loop-place.invariant.takes finds.1 c.in-Ok.ensures.same in
    let some : 0 < length text =
    grind (
      arith,
      common_steps,
      nat_tests,
      c.octets_held-held.ensures,
      c.is_empty.ensures,
      c.if-is_empty.false,
    ) in
    let line = c.front_line-len.result.0.now in
    let len = c.front_line-len.result.1 in
    let piece =
    subst (λ x. IsPiece place x line len) c.octets_held-held.ensures c.front_line-len.ensures in
    let d = g.K.Sink.contents c.take_front.new.out in
    let v = c.take_front.new.taker in
    takes_smaller c.loop-place.lines c.find_line.new.self finds.0
    (octets_held c.skip.new.self) now next len (room_of c.skip.new.self)
    finds.1 (piece_size place text line len finds.2 some piece) c.skip.ensures.held
    c.skip.ensures.room

pub loop-place-preserved : goal.loop-place-preserved
loop-place-preserved g c =
    let story = g.T.LineTaker.story in
    let first = c.args.taker.now in
    let t = c.loop-place.taker in
    let text = octets_held c.find_line.new.self in
    let old = g.S.Source.remaining c.args.source.now in
    let now = g.S.Source.remaining c.loop-place.source in
    let next = g.S.Source.remaining c.find_line.new.source in
    let a = g.K.Sink.contents c.args.out.now in
    let b = g.K.Sink.contents c.find_line.new.out in
    let place = c.in-Ok.place in
    let finds = found place c.loop-place.lines c.find_line.new.self now next
    (g.S.Source.failed c.loop-place.source)
    (g.S.Source.failed c.find_line.new.source) c.in-Ok.ensures.finds in
    let takes =
    takes_read story first t c.loop-place.is_taken c.loop-place.number c.loop-place.failed
    c.loop-place.lines
    c.find_line.new.self finds.0 old now next a (g.K.Sink.contents c.loop-place.out) b
    c.loop-place.invariant.takes finds.1 c.in-Ok.ensures.same in
    let some : 0 < length text =
    grind (
      arith,
      common_steps,
      nat_tests,
      c.octets_held-held.ensures,
      c.is_empty.ensures,
      c.if-is_empty.false,
    ) in
    let line = c.front_line-len.result.0.now in
    let len = c.front_line-len.result.1 in
    let piece =
    subst (λ x. IsPiece place x line len) c.octets_held-held.ensures c.front_line-len.ensures in
    let d = g.K.Sink.contents c.take_front.new.out in
    let v = c.take_front.new.taker in
    let taken = c.in-Ok-take_front.taken in
    let goes = c.is_at_end.ensures.no c.if-is_at_end.false in
    record {
      takes = takes_next story first t v c.loop-place.is_taken c.loop-place.number
          c.loop-place.failed place text line
          (octets_held c.skip.new.self) len (room_of c.find_line.new.self) taken old next a b d
          c.is_none-is_taken.result (c.loop-place.number + c.from-number.result)
          (c.loop-place.failed + c.failures-failed.result)
          (room_of c.skip.new.self) takes finds.2 some piece goes.1 c.in-Ok-take_front.ensures.takes
          goes.0 c.skip.ensures.held
          (none_is place c.is_none-is_taken.result c.is_none-is_taken.ensures)
          (ap (λ k. c.loop-place.number + k) c.from-number.ensures)
          (ap (λ k. c.loop-place.failed + k) c.failures-failed.ensures) c.skip.ensures.room;
      going = c.in-Ok-take_front.ensures.over ∙ goes.0;
      heard = finds.4 ∙ c.loop-place.invariant.heard;
      written = c.in-Ok-take_front.ensures.writer ∙ c.in-Ok.ensures.writer
          ∙ c.loop-place.invariant.written;
    }

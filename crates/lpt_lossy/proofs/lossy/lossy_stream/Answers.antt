-- Packet after packet, until none is left.
use Rattle.std.proofs.Common.{◌≡◌, ◌∙◌, ◌≤◌, inr, sym, subst, length, length-take-le, refl, arith}
use Rattle.std.proofs.lemmas.Result.{err_from_is_err_and}
use Rattle.lpt_stream.proofs.EndLemmas.{any-err, passing-reader, reader-after}
use Rattle.lpt_lossy.specs.Ends.{CarriesPart}
use Rattle.lpt_lossy.proofs.CarryLemmas.{at-end, at-end-part, at-fault, at-lost, at-more, at-most, at-next, at-none, at-part, next-is, none-carried}
use Rattle.lpt_lossy.proofs.FrontLemmas.{cutting-next, found-goes, front-packet}
use Rattle.lpt_lossy.proofs.lossy.lossy_stream.Goals as goal

pub returns-in_err-turns-clause-leaves : goal.returns-in_err-turns-clause-leaves
returns-in_err-turns-clause-leaves g c =
    let a = g.S.Source.remaining c.args.source.now in
    let k = g.K.Sink.contents c.args.out.now in
    any-err (CarriesPart c.args.link.now.layouts c.args.dice.now.odds a a k k)
    c.from_residual.result (none-carried c.args.link.now.layouts c.args.dice.now.odds a k)

pub loop-init : goal.loop-init
loop-init g c = record {
  at = at-none c.args.link.now.layouts c.args.link.now.most_later
      (g.S.Source.remaining c.args.source.now) (g.K.Sink.contents c.args.out.now)
      c.new-buffer.result c.in_ok-turns.turns c.args.dice.now c.new-buffer.ensures.held
      record { cut_is = c.new-buffer.ensures.cut; step_is = c.new-buffer.ensures.step }
      c.in_ok-turns.ensures;
  reader = refl;
  writer = refl;
}

-- a read failed, what was kept back couldn't be passed on, or there was no memory
pub returns-in_err-front-clause-leaves : goal.returns-in_err-front-clause-leaves
returns-in_err-front-clause-leaves g c =
    any-err (CarriesPart c.args.link.now.layouts c.args.dice.now.odds
    (g.S.Source.remaining c.args.source.now) (g.S.Source.remaining c.find_piece_passing.new.source)
    (g.K.Sink.contents c.args.out.now) (g.K.Sink.contents c.find_piece_passing.new.out))
    c.from_residual-in_err-front.result
    (at-fault c.loop.invariant.at _ _ c.in_err-front.field-0.0 c.find_piece_passing.new.self _ _
    c.in_err-front.ensures.finds c.in_err-front.ensures.same)

pub returns-in_err-front-clause-reader : goal.returns-in_err-front-clause-reader
returns-in_err-front-clause-reader g c =
    let p = err_from_is_err_and c.from_residual-in_err-front.result
    c.from_residual-in_err-front.ensures.1 in
    rw (p.1, p.2)
    (reader-after _ c.in_err-front.field-0.0 _ _ _
    (passing-reader _ c.in_err-front.field-0.0 _ _ _ _ _ _ c.in_err-front.ensures.finds)
    c.loop.invariant.reader)

-- no more packets come
pub returns-in_err-end_run-in-None-clause-leaves : goal.returns-in_err-end_run-in-None-clause-leaves
returns-in_err-end_run-in-None-clause-leaves g c =
    let b2 = c.find_piece_passing.new.self in
    let found = found-goes c.in_ok-front.front c.loop.buffer b2 _ _ _ _
    c.in_ok-front.ensures.finds in
    any-err (CarriesPart c.args.link.now.layouts c.args.dice.now.odds
    (g.S.Source.remaining c.args.source.now) (g.S.Source.remaining c.find_piece_passing.new.source)
    (g.K.Sink.contents c.args.out.now) (g.K.Sink.contents c.end_run.new.out))
    c.from_residual-in_err-end_run-in-None.result
    (at-end-part (at-more c.loop.invariant.at b2 found.0 found.1 c.in_ok-front.ensures.same) _
    c.in_err-end_run-in-None.ensures.part)

pub returns-in-None-clause-ends : goal.returns-in-None-clause-ends
returns-in-None-clause-ends g c =
    let b2 = c.find_piece_passing.new.self in
    let found = found-goes c.in_ok-front.front c.loop.buffer b2 _ _ _ _
    c.in_ok-front.ensures.finds in
    at-end (at-more c.loop.invariant.at b2 found.0 found.1 c.in_ok-front.ensures.same) _
    c.in_ok-end_run-in-None.ensures.ok

-- a packet
pub slice_bounds-octets-end : goal.slice_bounds-octets-end
slice_bounds-octets-end g c =
    let held = c.octets_held-in-loop.result.now in
    let len = c.in-Some.found.len in
    let front = front-packet c.in_ok-front.front c.in-Some.found c.loop.buffer
    c.find_piece_passing.new.self _ _ _ _ (sym c.in-Some.ensures) c.in_ok-front.ensures.finds
    c.loop.invariant.at.cutting in
    sym (length-take-le len held
    (subst (λ o. len ≤ length o) (sym c.octets_held-in-loop.ensures) front.1.within))

pub decide-requires : goal.decide-requires
decide-requires g c =
    let front = front-packet c.in_ok-front.front c.in-Some.found c.loop.buffer
    c.find_piece_passing.new.self _ _ _ _ (sym c.in-Some.ensures) c.in_ok-front.ensures.finds
    c.loop.invariant.at.cutting in
    front.1.least

pub carry-requires-clause-turn : goal.carry-requires-clause-turn
carry-requires-clause-turn g c =
    omega (arith, c.loop.invariant.at.turns_are, c.fate_settled-way.ensures.most)

pub returns-in_err-carry-clause-leaves : goal.returns-in_err-carry-clause-leaves
returns-in_err-carry-clause-leaves g c =
    let b2 = c.find_piece_passing.new.self in
    let found = found-goes c.in_ok-front.front c.loop.buffer b2 _ _ _ _
    c.in_ok-front.ensures.finds in
    let front = front-packet c.in_ok-front.front c.in-Some.found c.loop.buffer b2 _ _ _ _
    (sym c.in-Some.ensures) c.in_ok-front.ensures.finds c.loop.invariant.at.cutting in
    let next = next-is c.args.link.now.layouts c.args.dice.now.odds c.loop.dice.odds b2
    c.in-Some.found.len c.octets_held-in-loop.result.now c.decide.result.burst c.fate_settled-way.result front.1
    c.octets_held-in-loop.ensures c.loop.invariant.at.odds_are c.decide.ensures.allowed
    c.fate_settled-way.ensures.decided c.fate_settled-way.ensures.shows in
    any-err (CarriesPart c.args.link.now.layouts c.args.dice.now.odds
    (g.S.Source.remaining c.args.source.now) (g.S.Source.remaining c.find_piece_passing.new.source)
    (g.K.Sink.contents c.args.out.now) (g.K.Sink.contents c.carry.new.out))
    c.from_residual-in_err-carry.result
    (at-part (at-more c.loop.invariant.at b2 found.0 found.1 c.in_ok-front.ensures.same) next _
    c.in_err-carry.ensures.part)

pub loop-preserved : goal.loop-preserved
loop-preserved g c =
    let b2 = c.find_piece_passing.new.self in
    let f = c.in-Some.found in
    let found = found-goes c.in_ok-front.front c.loop.buffer b2 _ _ _ _
    c.in_ok-front.ensures.finds in
    let at = at-more c.loop.invariant.at b2 found.0 found.1 c.in_ok-front.ensures.same in
    let front = front-packet c.in_ok-front.front f c.loop.buffer b2 _ _ _ _ (sym c.in-Some.ensures)
    c.in_ok-front.ensures.finds c.loop.invariant.at.cutting in
    let next = next-is c.args.link.now.layouts c.args.dice.now.odds c.loop.dice.odds b2 f.len
    c.octets_held-in-loop.result.now c.decide.result.burst c.fate_settled-way.result front.1
    c.octets_held-in-loop.ensures c.loop.invariant.at.odds_are c.decide.ensures.allowed
    c.fate_settled-way.ensures.decided c.fate_settled-way.ensures.shows in
    record {
      at = at-next at next c.skip.new.self c.carry.new.turns c.decide.new.self
          c.in_ok-carry.ensures.ok c.in_ok-carry.ensures.turns c.decide.ensures.odds
          c.skip.ensures.held
          (cutting-next b2 c.skip.new.self f at.cutting front.0 c.skip.ensures.cut
          c.skip.ensures.step);
      reader = found.2 ∙ c.loop.invariant.reader;
      writer = c.in_ok-carry.ensures.writer ∙ (c.in_ok-front.ensures.writer
          ∙ c.loop.invariant.writer);
    }

-- so many packets came
pub returns-clause-leaves : goal.returns-clause-leaves
returns-clause-leaves g c = at-lost c.loop.invariant.at

pub returns-clause-reader : goal.returns-clause-reader
returns-clause-reader g c =
    let most : c.loop.counter ≡ 18446744073709551615 =
    grind (arith, c.loop.auto.counter-end, c.loop-test.false) in
    inr (at-most c.loop.invariant.at most)

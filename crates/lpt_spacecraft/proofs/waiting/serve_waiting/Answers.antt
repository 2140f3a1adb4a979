-- Turn after turn, until the end is given.
use Rattle.std.proofs.Common.{◌≡◌, ◌∙◌, ap, sym, subst, refl, Err, List, [], ◌∷◌, Option}
use Rattle.std.proofs.KnownBytes.{Consumes-nil}
use Rattle.std.proofs.lemmas.Result.{err_from_is_err_and}
use Rattle.lpt_spacecraft.specs.Waiting.{AttendsTo, Gains, Heeds, Idles, Skips}
use Rattle.lpt_spacecraft.specs.declared.inlet.Happening.{Happening}
use Rattle.lpt_spacecraft.specs.declared.inlet.Happening.TheVariants as happens
use Rattle.lpt_spacecraft.specs.declared.told.Told.{Told}
use Rattle.lpt_spacecraft.proofs.TurnLemmas.{attended-next, attended-none, attended-passed, attends-broken, attends-end, attends-fault, gains-none, skip-flies}
use Rattle.lpt_spacecraft.proofs.waiting.serve_waiting.Goals as goal

pub loop-count-init : goal.loop-count-init
loop-count-init g c = record {
  taken = attended-none c.args.pace c.args.craft.now c.new-course.result
      (g.I.Inlet.given c.args.inlet.now) (g.K.Sink.contents c.args.out.now)
      (g.C.Clock.answers c.args.clock.now) (g.L.Listener.heard c.args.listener.now)
      c.new-course.ensures.pace c.new-course.ensures.since c.new-course.ensures.uses;
  idle = c.requires.idle;
  kept = c.requires.kept;
  config = refl;
  reader = refl;
  writer = refl;
}

-- what was written couldn't be passed on
pub returns-in_err-flush_out-clause-ends : goal.returns-in_err-flush_out-clause-ends
returns-in_err-flush_out-clause-ends g c =
    let p = err_from_is_err_and c.from_residual.result c.from_residual.ensures.1 in
    let at = attended-passed c.args.pace c.args.craft.now c.loop-count.craft c.loop-count.course _
    (g.K.Sink.contents c.flush_out.new.out) c.loop-count.count c.loop-count.invariant.taken
    c.in_err-flush_out.ensures.same in
    rw (p.1, p.2)
    (attends-fault c.in_err-flush_out.field-0.0 c.args.pace c.args.craft.now c.loop-count.craft
    c.loop-count.course _ _ c.loop-count.count at (gains-none (g.I.Inlet.given c.loop-count.inlet)))

-- the inlet failed
pub returns-in_err-octets-clause-ends : goal.returns-in_err-octets-clause-ends
returns-in_err-octets-clause-ends g c =
    let p = err_from_is_err_and c.from_residual-in_err-octets.result
    c.from_residual-in_err-octets.ensures.1 in
    let at = attended-passed c.args.pace c.args.craft.now c.loop-count.craft c.loop-count.course _
    (g.K.Sink.contents c.flush_out.new.out) c.loop-count.count c.loop-count.invariant.taken
    c.in_ok-flush_out.ensures.same in
    rw (p.1, p.2)
    (attends-fault c.in_err-octets.field-0.0 c.args.pace c.args.craft.now c.loop-count.craft
    c.loop-count.course _ _ c.loop-count.count at c.in_err-octets.ensures.err)

-- work broke off in ticks while nothing came
pub returns-in_err-serve_ticks-in-Nothing-clause-ends :
    goal.returns-in_err-serve_ticks-in-Nothing-clause-ends
returns-in_err-serve_ticks-in-Nothing-clause-ends g c =
    let p = err_from_is_err_and c.from_residual-in_err-serve_ticks-in-Nothing.result
    c.from_residual-in_err-serve_ticks-in-Nothing.ensures.1 in
    let at = attended-passed c.args.pace c.args.craft.now c.loop-count.craft c.loop-count.course _
    (g.K.Sink.contents c.flush_out.new.out) c.loop-count.count c.loop-count.invariant.taken
    c.in_ok-flush_out.ensures.same in
    let given = subst (λ (w : Happening). Gains (g.I.Inlet.given c.loop-count.inlet)
    (g.I.Inlet.given c.next.new.self) (w ∷ [])) c.in-Nothing.is c.in_ok-octets.ensures.ok in
    let broke = c.in_err-serve_ticks-in-Nothing.ensures in
    let fault = c.in_err-serve_ticks-in-Nothing.field-0.0 in
    rw (p.1, p.2)
    (subst (λ (h : Option (List Told)). AttendsTo c.args.pace (Err fault) c.args.craft.now
    c.serve_ticks.new.craft (g.I.Inlet.given c.args.inlet.now) (g.I.Inlet.given c.next.new.self)
    (g.K.Sink.contents c.args.out.now) (g.K.Sink.contents c.serve_ticks.new.out)
    (g.C.Clock.answers c.args.clock.now) (g.C.Clock.answers c.due-due.new.self)
    (g.L.Listener.heard c.args.listener.now) h) (sym broke.untold)
    (attends-broken fault c.args.pace c.args.craft.now c.loop-count.craft c.serve_ticks.new.craft
    c.loop-count.course c.loop-count.craft.config _ _ _ _ (Idles c.due-due.result)
    c.loop-count.count broke.fault at c.loop-count.invariant.config given c.due-due.ensures
    broke.breaks))

-- they were done
pub loop-count-preserved-in-Nothing : goal.loop-count-preserved-in-Nothing
loop-count-preserved-in-Nothing g c =
    let at = attended-passed c.args.pace c.args.craft.now c.loop-count.craft c.loop-count.course _
    (g.K.Sink.contents c.flush_out.new.out) c.loop-count.count c.loop-count.invariant.taken
    c.in_ok-flush_out.ensures.same in
    let given = subst (λ (w : Happening). Gains (g.I.Inlet.given c.loop-count.inlet)
    (g.I.Inlet.given c.next.new.self) (w ∷ [])) c.in-Nothing.is c.in_ok-octets.ensures.ok in
    let done = c.in_ok-serve_ticks-in-Nothing.ensures in
    record {
      taken = attended-next c.args.pace c.args.craft.now c.loop-count.craft c.serve_ticks.new.craft
          c.loop-count.course c.serve_ticks.new.course c.loop-count.craft.config _ _ _ _ _
          (Idles c.due-due.result) c.loop-count.count at c.loop-count.invariant.config given
          c.due-due.ensures done.ok done.since done.pace;
      idle = done.idle;
      kept = done.kept;
      config = done.config ∙ c.loop-count.invariant.config;
      reader = c.in_ok-octets.ensures.cause ∙ c.loop-count.invariant.reader;
      writer = done.writer ∙ (c.in_ok-flush_out.ensures.writer ∙ c.loop-count.invariant.writer);
    }

-- octets were passed over
pub loop-count-preserved-in-Skipped : goal.loop-count-preserved-in-Skipped
loop-count-preserved-in-Skipped g c =
    let at = attended-passed c.args.pace c.args.craft.now c.loop-count.craft c.loop-count.course _
    (g.K.Sink.contents c.flush_out.new.out) c.loop-count.count c.loop-count.invariant.taken
    c.in_ok-flush_out.ensures.same in
    let given = subst (λ (w : Happening). Gains (g.I.Inlet.given c.loop-count.inlet)
    (g.I.Inlet.given c.next.new.self) (w ∷ [])) c.in-Skipped.is c.in_ok-octets.ensures.ok in
    let told = skip-flies c.loop-count.craft.config c.loop-count.craft c.loop-count.course
    (g.K.Sink.contents c.flush_out.new.out) (g.L.Listener.heard c.loop-count.listener)
    (g.L.Listener.heard c.tell.new.self) c.in-Skipped.place c.in-Skipped.len c.tell.ensures in
    record {
      taken = attended-next c.args.pace c.args.craft.now c.loop-count.craft c.loop-count.craft
          c.loop-count.course c.loop-count.course c.loop-count.craft.config _ _ _ _ _
          (Skips c.in-Skipped.place c.in-Skipped.len) c.loop-count.count at
          c.loop-count.invariant.config given
          (Consumes-nil (g.C.Clock.answers c.loop-count.clock)) told refl refl;
      idle = c.loop-count.invariant.idle;
      kept = c.loop-count.invariant.kept;
      config = c.loop-count.invariant.config;
      reader = c.in_ok-octets.ensures.cause ∙ c.loop-count.invariant.reader;
      writer = c.in_ok-flush_out.ensures.writer ∙ c.loop-count.invariant.writer;
    }

-- the end was given
pub returns-in-End-clause-ends : goal.returns-in-End-clause-ends
returns-in-End-clause-ends g c =
    let at = attended-passed c.args.pace c.args.craft.now c.loop-count.craft c.loop-count.course _
    (g.K.Sink.contents c.flush_out.new.out) c.loop-count.count c.loop-count.invariant.taken
    c.in_ok-flush_out.ensures.same in
    let given = subst (λ (w : Happening). Gains (g.I.Inlet.given c.loop-count.inlet)
    (g.I.Inlet.given c.next.new.self) (w ∷ [])) c.in-End.is c.in_ok-octets.ensures.ok in
    attends-end c.in-End.stop c.args.pace c.args.craft.now c.loop-count.craft c.loop-count.course
    _ _ c.loop-count.count at given

-- work broke off in a packet
pub returns-in_err-serve_packet-clause-ends : goal.returns-in_err-serve_packet-clause-ends
returns-in_err-serve_packet-clause-ends g c =
    let p = err_from_is_err_and c.from_residual-in_err-serve_packet.result
    c.from_residual-in_err-serve_packet.ensures.1 in
    let at = attended-passed c.args.pace c.args.craft.now c.loop-count.craft c.loop-count.course _
    (g.K.Sink.contents c.flush_out.new.out) c.loop-count.count c.loop-count.invariant.taken
    c.in_ok-flush_out.ensures.same in
    let same : c.in-Packet.octets ≡ c.as_slice.result.now = cc in
    let given = subst (λ (w : Happening). Gains (g.I.Inlet.given c.loop-count.inlet)
    (g.I.Inlet.given c.next.new.self) (w ∷ [])) (c.in-Packet.is ∙ ap happens.Packet same)
    c.in_ok-octets.ensures.ok in
    let broke = c.in_err-serve_packet.ensures in
    let fault = c.in_err-serve_packet.field-0.0 in
    rw (p.1, p.2)
    (subst (λ (h : Option (List Told)). AttendsTo c.args.pace (Err fault) c.args.craft.now
    c.serve_packet.new.craft (g.I.Inlet.given c.args.inlet.now) (g.I.Inlet.given c.next.new.self)
    (g.K.Sink.contents c.args.out.now) (g.K.Sink.contents c.serve_packet.new.out)
    (g.C.Clock.answers c.args.clock.now) (g.C.Clock.answers c.due-due-in-loop-count.new.self)
    (g.L.Listener.heard c.args.listener.now) h) (sym broke.untold)
    (attends-broken fault c.args.pace c.args.craft.now c.loop-count.craft c.serve_packet.new.craft
    c.loop-count.course c.loop-count.craft.config _ _ _ _
    (Heeds c.due-due-in-loop-count.result c.as_slice.result.now) c.loop-count.count broke.fault at
    c.loop-count.invariant.config given c.due-due-in-loop-count.ensures broke.breaks))

-- one was taken
pub loop-count-preserved : goal.loop-count-preserved
loop-count-preserved g c =
    let at = attended-passed c.args.pace c.args.craft.now c.loop-count.craft c.loop-count.course _
    (g.K.Sink.contents c.flush_out.new.out) c.loop-count.count c.loop-count.invariant.taken
    c.in_ok-flush_out.ensures.same in
    let same : c.in-Packet.octets ≡ c.as_slice.result.now = cc in
    let given = subst (λ (w : Happening). Gains (g.I.Inlet.given c.loop-count.inlet)
    (g.I.Inlet.given c.next.new.self) (w ∷ [])) (c.in-Packet.is ∙ ap happens.Packet same)
    c.in_ok-octets.ensures.ok in
    let done = c.in_ok-serve_packet.ensures in
    record {
      taken = attended-next c.args.pace c.args.craft.now c.loop-count.craft c.serve_packet.new.craft
          c.loop-count.course c.serve_packet.new.course c.loop-count.craft.config _ _ _ _ _
          (Heeds c.due-due-in-loop-count.result c.as_slice.result.now) c.loop-count.count at
          c.loop-count.invariant.config given c.due-due-in-loop-count.ensures done.ok done.since
          done.pace;
      idle = done.idle;
      kept = done.kept;
      config = done.config ∙ c.loop-count.invariant.config;
      reader = c.in_ok-octets.ensures.cause ∙ c.loop-count.invariant.reader;
      writer = done.writer ∙ (c.in_ok-flush_out.ensures.writer ∙ c.loop-count.invariant.writer);
    }

-- Read after read, until what is held shows a piece; what was written is passed on before each.
use Rattle.std.proofs.Common.{◌∙◌, [], ◌++◌, inl, inr, refl}
use Rattle.std.proofs.KnownBytes.{Keeps-refl, Keeps-trans}
use Rattle.lpt_stream.proofs.BufferLemmas.{goes-same, goes-more, nearer, asked-more, judged-more, fill-fault, passing-fault}
use Rattle.lpt_stream.proofs.buffer.PacketBuffer.find_piece_passing.Goals as goal

-- an octet astray shows at once
pub returns-then-shows_none-clause-finds : goal.returns-then-shows_none-clause-finds
returns-then-shows_none-clause-finds g c = (
  [],
  goes-same c.args.self.now c.shows_none.new.self
      (g.P.Peer.remaining c.args.source.now) c.shows_none.ensures.held c.shows_none.ensures.cut
      c.shows_none.ensures.step
      c.shows_none.ensures.end,
  c.shows_none.ensures.stray c.if-shows_none.true,
  refl,
  inl refl,
)

pub loop-found-init : goal.loop-found-init
loop-found-init g c = record {
  goes = (
    [],
    goes-same c.args.self.now c.shows_none.new.self
        (g.P.Peer.remaining c.args.source.now) c.shows_none.ensures.held
        c.shows_none.ensures.cut c.shows_none.ensures.step
        c.shows_none.ensures.end,
    inl refl,
  );
  judged = λ e. absurd cc;
  told = refl;
  same = Keeps-refl (g.K.Sink.contents c.args.out.now);
  passed = inl refl;
  written = refl;
}

pub returns-in-Some-clause-finds : goal.returns-in-Some-clause-finds
returns-in-Some-clause-finds g c = (
  c.loop-found.invariant.goes.0,
  c.loop-found.invariant.goes.1,
  c.in-Some.ensures.some,
  c.loop-found.invariant.told,
  c.loop-found.invariant.goes.2,
)

pub returns-in-None-clause-finds : goal.returns-in-None-clause-finds
returns-in-None-clause-finds g c = (
  c.loop-found.invariant.goes.0,
  c.loop-found.invariant.goes.1,
  (c.in-None.ensures.none refl).last c.if-self.true,
  c.if-self.true,
  c.loop-found.invariant.told,
)

pub loop-found-smaller : goal.loop-found-smaller
loop-found-smaller g c =
    nearer c.loop-found.self c.fill_passing.new.self (g.P.Peer.remaining c.loop-found.source)
    (g.P.Peer.remaining c.fill_passing.new.peer) c.in-Ok-fill_passing.ensures.0 c.if-self.false
    (c.in-None.ensures.none refl).few c.in-Ok-fill_passing.ensures.1 c.in-Ok-fill_passing.ensures.4

pub loop-found-preserved : goal.loop-found-preserved
loop-found-preserved g c = record {
  goes = (
    c.loop-found.invariant.goes.0 ++ c.in-Ok-fill_passing.ensures.0,
    goes-more c.args.self.now c.loop-found.self c.fill_passing.new.self
        (g.P.Peer.remaining c.args.source.now) (g.P.Peer.remaining c.loop-found.source)
        (g.P.Peer.remaining c.fill_passing.new.peer) c.loop-found.invariant.goes.0
        c.in-Ok-fill_passing.ensures.0
        c.if-self.false c.loop-found.invariant.goes.1 c.in-Ok-fill_passing.ensures.1
        c.in-Ok-fill_passing.ensures.4,
    asked-more c.args.self.now c.loop-found.self (g.P.Peer.remaining c.args.source.now)
        (g.P.Peer.remaining c.loop-found.source) c.loop-found.invariant.goes.0
        c.in-Ok-fill_passing.ensures.0
        c.loop-found.invariant.goes.1 (c.in-None.ensures.none refl) c.in-Ok-fill_passing.ensures.3,
  );
  judged = λ e.
      judged-more c.loop-found.self c.fill_passing.new.self (g.P.Peer.remaining c.loop-found.source)
      (g.P.Peer.remaining c.fill_passing.new.peer) c.in-Ok-fill_passing.ensures.0
      c.stays_judged-is_judged.result
      c.in-Ok-fill_passing.ensures.1
      (c.in-None.ensures.none refl) c.stays_judged-is_judged.ensures e;
  told = c.in-Ok-fill_passing.ensures.2 ∙ c.loop-found.invariant.told;
  same = Keeps-trans (g.K.Sink.contents c.args.out.now) (g.K.Sink.contents c.loop-found.out)
      (g.K.Sink.contents c.flush_out.new.out) c.loop-found.invariant.same c.in-Ok.ensures.same;
  passed = inr c.in-Ok.ensures.all;
  written = c.in-Ok.ensures.writer ∙ c.loop-found.invariant.written;
}

-- a read failed, or memory ran out, before a piece was shown
pub returns-in-Err-fill_passing-clause-finds : goal.returns-in-Err-fill_passing-clause-finds
returns-in-Err-fill_passing-clause-finds g c =
    passing-fault c.in-Err-fill_passing.fault c.args.self.now c.fill_passing.new.self
    (g.P.Peer.remaining c.args.source.now) (g.P.Peer.remaining c.fill_passing.new.peer)
    (g.P.Peer.failed c.args.source.now) (g.P.Peer.failed c.fill_passing.new.peer)
    (fill-fault c.in-Err-fill_passing.fault c.args.self.now c.loop-found.self
    c.fill_passing.new.self
    (g.P.Peer.remaining c.args.source.now) (g.P.Peer.remaining c.loop-found.source)
    (g.P.Peer.remaining c.fill_passing.new.peer) c.loop-found.invariant.goes.0
    (g.P.Peer.failed c.args.source.now) (g.P.Peer.failed c.loop-found.source)
    (g.P.Peer.failed c.fill_passing.new.peer) c.if-self.false c.loop-found.invariant.goes.1
    (c.in-None.ensures.none refl) c.loop-found.invariant.told c.in-Err-fill_passing.ensures)

-- A packet gives what it says, and other octets give no area.
use Rattle.std.proofs.Common.{sym, subst, [], ◌++◌}
use Rattle.lpt_stream.specs.Pieces.{packet_before}
use Rattle.lpt_extract.specs.Extracts.{areas_in, notices_at}
use Rattle.lpt_extract.specs.ExtractsInside.{HeldAreas}
use Rattle.lpt_extract.proofs.GiveLemmas.{held-same}
use Rattle.lpt_extract.proofs.taking.take_piece.Goals as goal

pub returns-in-Damaged-clause-held : goal.returns-in-Damaged-clause-held
returns-in-Damaged-clause-held g c = λ areas ns h.
    let w = c.args.wanted.now in
    let b = c.args.octets.now in
    subst (λ k. HeldAreas w.at (areas ++ areas_in w (packet_before k b []))
    (ns ++ notices_at w c.args.place k b)
    c.tell.new.self) (sym c.in-Damaged.is)
    (held-same w.at areas _ c.tell.new.self (c.tell.ensures.held w.at areas ns h))

pub returns-in-Stray-clause-held : goal.returns-in-Stray-clause-held
returns-in-Stray-clause-held g c = λ areas ns h.
    let w = c.args.wanted.now in
    let b = c.args.octets.now in
    subst (λ k. HeldAreas w.at (areas ++ areas_in w (packet_before k b []))
    (ns ++ notices_at w c.args.place k b)
    c.tell-in-Stray.new.self) (sym c.in-Stray.is)
    (held-same w.at areas _ c.tell-in-Stray.new.self (c.tell-in-Stray.ensures.held w.at areas ns h))

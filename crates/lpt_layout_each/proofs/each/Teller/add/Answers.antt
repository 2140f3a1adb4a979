-- What is no packet is passed over.
use Rattle.std.proofs.Common.{sym, subst, ◌++◌, ◌∷◌, []}
use Rattle.lpt_stream.specs.declared.piece_kind.PieceKind.{PieceKind}
use Rattle.lpt_layout_each.specs.Tellers.{IsTold}
use Rattle.lpt_layout_each.proofs.each.Teller.add.Goals as goal

pub returns-in-Damaged-clause-told : goal.returns-in-Damaged-clause-told
returns-in-Damaged-clause-told g c = λ first heard ps h.
    let hears = g.T.TakerAs.heard c.args.taker.now in
    subst (λ (k : PieceKind). IsTold first c.pass.result heard hears
    (ps ++ record { kind = k; octets = c.args.octets.now } ∷ []))
    (sym c.in-Damaged.is) (c.pass.ensures.told first heard hears ps h)

pub returns-in-Stray-clause-told : goal.returns-in-Stray-clause-told
returns-in-Stray-clause-told g c = λ first heard ps h.
    let hears = g.T.TakerAs.heard c.args.taker.now in
    subst (λ (k : PieceKind). IsTold first c.pass-in-Stray.result heard hears
    (ps ++ record { kind = k; octets = c.args.octets.now } ∷ []))
    (sym c.in-Stray.is) (c.pass-in-Stray.ensures.told first heard hears ps h)

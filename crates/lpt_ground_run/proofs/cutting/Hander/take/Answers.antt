-- A piece more.
use Rattle.std.proofs.Common.{◌≡◌, ◌∙◌, ap, sym, subst, [], ◌∷◌, ◌++◌, List, ℕ, true, false, Option}
use Rattle.lpt_stream.specs.Pieces.{Piece}
use Rattle.lpt_stream.specs.declared.piece_kind.PieceKind.{PieceKind}
use Rattle.lpt_stream.proofs.EndLemmas.{any-err}
use Rattle.lpt_stream.specs.declared.piece_kind.PieceKind.TheVariants as kinds
use Rattle.lpt_ground_run.specs.declared.cutting.Cutting.{Cutting}
use Rattle.lpt_ground_run.specs.declared.halt.Halt.TheVariants as halts
use Rattle.lpt_ground_run.specs.Halts.{halt_damaged, halt_of, passed_in, stray_of, HaltsAt, Rises}
use Rattle.lpt_ground_run.specs.Handing.{in_front, Gains, packets_in}
use Rattle.lpt_ground_run.proofs.HaltLemmas.{are-past, at-damaged, at-passed, at-stray, behind, is-open, none-passed, passed-same, rises-passed, rises-same}
use Rattle.lpt_ground_run.proofs.HandingLemmas.{handed-more, handed-part, passed-over}
use Rattle.lpt_ground_run.proofs.cutting.Hander.take.Goals as goal

-- no memory
pub returns-in_err-from_slice-in-Whole-clause-left :
    goal.returns-in_err-from_slice-in-Whole-clause-left
returns-in_err-from_slice-in-Whole-clause-left g c = λ from first old pieces h.
    let p : Piece = record { kind = c.args.kind; octets = c.args.octets.now } in
    any-err _ c.from_residual.result (
      handed-part (g.O.Outlet.handed old) (g.O.Outlet.handed c.args.lent.now) pieces p h.1.gains,
      rises-same (g.O.Outlet.strays old) (g.O.Outlet.strays c.args.lent.now)
          (passed_in first.resumes (pieces ++ p ∷ [])) (passed_in first.resumes pieces)
          (passed-same first.resumes pieces p (ap stray_of c.in-Whole.is)) h.1.rises,
    )

-- a piece that is none of a packet's, and none of an octet
pub returns-in-Damaged-clause-taken : goal.returns-in-Damaged-clause-taken
returns-in-Damaged-clause-taken g c = λ from first old pieces h at.
    let p : Piece = record { kind = c.args.kind; octets = c.args.octets.now } in
    let r = first.resumes in
    let old_lent = c.args.lent.now in
    let new_lent = c.skip.new.self in
    let more = g.O.Outlet.is_open new_lent in
    let none : stray_of p.kind ≡ 0 = ap stray_of c.in-Damaged.is in
    let halt = c.args.self.halt in (
      h.0,
      record {
        gains =
            subst (λ (o : Option (List (List ℕ))).
            Gains (g.O.Outlet.handed old) o (packets_in (pieces ++ p ∷ [])))
            (sym c.skip.ensures.handed)
            (passed-over (g.O.Outlet.handed old) (g.O.Outlet.handed old_lent) pieces p
            (ap (λ (k : PieceKind). in_front k c.args.octets.now []) c.in-Damaged.is) h.1.gains);
        rises =
            subst (λ (n : ℕ). Rises (g.O.Outlet.strays old) n (passed_in r (pieces ++ p ∷ [])))
            (sym c.skip.ensures.strays)
            (rises-same (g.O.Outlet.strays old) (g.O.Outlet.strays old_lent)
            (passed_in r (pieces ++ p ∷ [])) (passed_in r pieces) (passed-same r pieces p none)
            h.1.rises);
        halts =
            subst (λ (k : PieceKind). HaltsAt r from more
            (pieces ++ record { kind = k; octets = c.args.octets.now } ∷ [])
            c.halt_damaged.result) (sym c.in-Damaged.is)
            (subst (HaltsAt r from more
            (pieces ++ record { kind = kinds.Damaged; octets = c.args.octets.now } ∷ []))
            (ap (λ (k : Cutting). halt_damaged k.resumes c.args.place c.args.octets.now) (sym h.0)
            ∙ sym c.halt_damaged.ensures)
            (at-damaged r from more pieces c.args.octets.now c.args.place
            (are-past r from (g.O.Outlet.is_open old_lent) pieces halt c.requires.open h.1.halts)
            (c.skip.ensures.more
            ∙ is-open r from (g.O.Outlet.is_open old_lent) pieces halt c.requires.open h.1.halts)
            at));
      },
    )

-- an octet that is passed over
pub returns-in-Stray-clause-taken : goal.returns-in-Stray-clause-taken
returns-in-Stray-clause-taken g c = λ from first old pieces h at.
    let p : Piece = record { kind = c.args.kind; octets = c.args.octets.now } in
    let r = first.resumes in
    let is : r ≡ true = ap (λ (k : Cutting). k.resumes) (sym h.0) ∙ c.if-self.true in
    let old_lent = c.args.lent.now in
    let new_lent = c.pass.new.self in
    let halt = c.args.self.halt in (
      h.0,
      record {
        gains =
            subst (λ (o : Option (List (List ℕ))).
            Gains (g.O.Outlet.handed old) o (packets_in (pieces ++ p ∷ [])))
            (sym c.pass.ensures.handed)
            (passed-over (g.O.Outlet.handed old) (g.O.Outlet.handed old_lent) pieces p
            (ap (λ (k : PieceKind). in_front k c.args.octets.now []) c.in-Stray.is) h.1.gains);
        rises =
            rises-passed r (g.O.Outlet.strays old) (g.O.Outlet.strays old_lent)
            (g.O.Outlet.strays new_lent) pieces p is (ap stray_of c.in-Stray.is) h.1.rises
            c.pass.ensures.strays;
        halts =
            subst (λ (k : PieceKind). HaltsAt r from (g.O.Outlet.is_open new_lent)
            (pieces ++ record { kind = k; octets = c.args.octets.now } ∷ []) halt)
            (sym c.in-Stray.is)
            (at-passed r from (g.O.Outlet.is_open new_lent) pieces c.args.octets.now halt
            c.requires.open
            (are-past r from (g.O.Outlet.is_open old_lent) pieces halt c.requires.open h.1.halts)
            (c.pass.ensures.more
            ∙ is-open r from (g.O.Outlet.is_open old_lent) pieces halt c.requires.open h.1.halts)
            is);
      },
    )

-- the first octet with which no packet begins
pub returns-in-Stray-2-clause-taken : goal.returns-in-Stray-2-clause-taken
returns-in-Stray-2-clause-taken g c = λ from first old pieces h at.
    let p : Piece = record { kind = c.args.kind; octets = c.args.octets.now } in
    let r = first.resumes in
    let is : r ≡ false = ap (λ (k : Cutting). k.resumes) (sym h.0) ∙ c.if-self.false in
    let more = g.O.Outlet.is_open c.args.lent.now in
    let halt = c.args.self.halt in (
      h.0,
      record {
        gains =
            passed-over (g.O.Outlet.handed old) (g.O.Outlet.handed c.args.lent.now) pieces p
            (ap (λ (k : PieceKind). in_front k c.args.octets.now []) c.in-Stray-2.is) h.1.gains;
        rises =
            rises-same (g.O.Outlet.strays old) (g.O.Outlet.strays c.args.lent.now)
            (passed_in r (pieces ++ p ∷ [])) (passed_in r pieces)
            (none-passed r pieces (pieces ++ p ∷ []) is) h.1.rises;
        halts =
            subst (λ (k : PieceKind). HaltsAt r from more
            (pieces ++ record { kind = k; octets = c.args.octets.now } ∷ [])
            (halts.Stray c.args.place)) (sym c.in-Stray-2.is)
            (at-stray r from more pieces c.args.octets.now c.args.place
            (are-past r from more pieces halt c.requires.open h.1.halts) at is);
      },
    )

-- a packet
pub returns-in_ok-from_slice-in-Whole-clause-taken :
    goal.returns-in_ok-from_slice-in-Whole-clause-taken
returns-in_ok-from_slice-in-Whole-clause-taken g c = λ from first old pieces h at.
    let p : Piece = record { kind = c.args.kind; octets = c.args.octets.now } in
    let r = first.resumes in
    let more = g.O.Outlet.is_open c.hand-more.new.self in
    let none : stray_of p.kind ≡ 0 = ap stray_of c.in-Whole.is in
    let halt = c.args.self.halt in (
      h.0,
      record {
        gains =
            handed-more (g.O.Outlet.handed old) (g.O.Outlet.handed c.args.lent.now)
            (g.O.Outlet.handed c.hand-more.new.self) pieces p c.from_vec-packet.result
            (ap (λ (k : PieceKind). in_front k c.args.octets.now []) c.in-Whole.is
            ∙ ap (λ (o : List ℕ). o ∷ [])
            (sym (c.from_vec-packet.ensures ∙ c.in_ok-from_slice-in-Whole.ensures.items)))
            h.1.gains c.hand-more.ensures.handed;
        rises =
            subst (λ (n : ℕ). Rises (g.O.Outlet.strays old) n (passed_in r (pieces ++ p ∷ [])))
            (sym c.hand-more.ensures.strays)
            (rises-same (g.O.Outlet.strays old) (g.O.Outlet.strays c.args.lent.now)
            (passed_in r (pieces ++ p ∷ [])) (passed_in r pieces) (passed-same r pieces p none)
            h.1.rises);
        halts =
            subst (HaltsAt r from more (pieces ++ p ∷ []))
            (sym (c.halt_of.ensures ∙ ap halt_of c.hand-more.ensures.more))
            (subst (λ (k : PieceKind). HaltsAt r from more
            (pieces ++ record { kind = k; octets = c.args.octets.now } ∷ []) (halt_of more))
            (sym c.in-Whole.is)
            (behind r from more pieces c.args.octets.now
            (are-past r from (g.O.Outlet.is_open c.args.lent.now) pieces halt c.requires.open
            h.1.halts)));
      },
    )

-- what is handed over is this piece
pub hand-more-requires : goal.hand-more-requires
hand-more-requires g c =
    subst g.O.Outlet.may
    (sym (c.from_vec-packet.ensures ∙ c.in_ok-from_slice-in-Whole.ensures.items))
    (c.requires.may c.in-Whole.is)

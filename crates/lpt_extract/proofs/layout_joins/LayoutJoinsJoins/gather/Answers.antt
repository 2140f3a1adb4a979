-- A packet more, or what is none.
use Rattle.std.proofs.Common.{sym, subst, false, ℕ, List, [], ◌++◌, append-nil}
use Rattle.std.specs.Prelude.{IfOk}
use Rattle.lpt_stream.specs.declared.piece_kind.PieceKind.{PieceKind}
use Rattle.lpt_stream.specs.Pieces.{packet_before}
use Rattle.lpt_layout_each.specs.Helds.{HoldsEach}
use Rattle.lpt_layout_each.specs.News.{Hears}
use Rattle.lpt_layout_each.specs.Streams.{events}
use Rattle.lpt_extract.proofs.LayoutJoinLemmas.{told-on}
use Rattle.lpt_extract.proofs.ReadLemmas.{if-on}
use Rattle.lpt_extract.proofs.layout_joins.LayoutJoinsJoins.gather.Goals as goal

pub returns-in-Whole-clause-told : goal.returns-in-Whole-clause-told
returns-in-Whole-clause-told g c = λ first old bs h told.
    let r = c.args.self.reading in
    let b = c.args.octets.now in
    let heard = g.T.TakerAs.heard old in
    let hear = g.T.TakerAs.heard c.args.taker.now in
    let hears = g.T.TakerAs.heard c.gather_packet.new.taker in
    subst (λ (k : PieceKind). IfOk c.gather_packet.result (λ _. Hears heard hears
    (events first.reading false (bs ++ packet_before k b [])))) (sym c.in-Whole.is)
    (if-on _ _ c.gather_packet.result
    (told-on r first.reading bs b heard hear hears h.0 told) (c.gather_packet.ensures.told bs h.1))

pub returns-in-Damaged-clause-kept : goal.returns-in-Damaged-clause-kept
returns-in-Damaged-clause-kept g c = λ first bs h. (
  h.0,
  subst (λ (k : PieceKind). HoldsEach c.args.self.reading false
      (bs ++ packet_before k c.args.octets.now []) c.args.self.helds) (sym c.in-Damaged.is)
      (subst (λ (xs : List (List ℕ)). HoldsEach c.args.self.reading false xs c.args.self.helds)
      (sym (append-nil bs)) h.1),
)

pub returns-in-Damaged-clause-told : goal.returns-in-Damaged-clause-told
returns-in-Damaged-clause-told g c = λ first old bs h told.
    let heard = g.T.TakerAs.heard old in
    let hears = g.T.TakerAs.heard c.args.taker.now in
    subst (λ (k : PieceKind). Hears heard hears
    (events first.reading false (bs ++ packet_before k c.args.octets.now []))) (sym c.in-Damaged.is)
    (subst (λ (xs : List (List ℕ)). Hears heard hears (events first.reading false xs))
    (sym (append-nil bs)) told)

pub returns-in-Damaged-clause-placed : goal.returns-in-Damaged-clause-placed
returns-in-Damaged-clause-placed g c = λ first bs h e. absurd cc

pub returns-in-Stray-clause-kept : goal.returns-in-Stray-clause-kept
returns-in-Stray-clause-kept g c = λ first bs h. (
  h.0,
  subst (λ (k : PieceKind). HoldsEach c.args.self.reading false
      (bs ++ packet_before k c.args.octets.now []) c.args.self.helds) (sym c.in-Stray.is)
      (subst (λ (xs : List (List ℕ)). HoldsEach c.args.self.reading false xs c.args.self.helds)
      (sym (append-nil bs)) h.1),
)

pub returns-in-Stray-clause-told : goal.returns-in-Stray-clause-told
returns-in-Stray-clause-told g c = λ first old bs h told.
    let heard = g.T.TakerAs.heard old in
    let hears = g.T.TakerAs.heard c.args.taker.now in
    subst (λ (k : PieceKind). Hears heard hears
    (events first.reading false (bs ++ packet_before k c.args.octets.now []))) (sym c.in-Stray.is)
    (subst (λ (xs : List (List ℕ)). Hears heard hears (events first.reading false xs))
    (sym (append-nil bs)) told)

pub returns-in-Stray-clause-placed : goal.returns-in-Stray-clause-placed
returns-in-Stray-clause-placed g c = λ first bs h e. absurd cc

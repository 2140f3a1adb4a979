-- A piece more.
use Rattle.std.proofs.Common.{◌≡◌, ◌∙◌, ap, sym}
use Rattle.std.specs.BTreeMap.{get}
use Rattle.lpt_layout.specs.declared.layout.Layout.{Layout}
use Rattle.lpt_stream.specs.Pieces.{Piece}
use Rattle.lpt_outcomes.specs.Keys.{key_cmp}
use Rattle.lpt_outcomes.specs.Passing.{in_piece}
use Rattle.lpt_outcomes.specs.Reports.{news_in}
use Rattle.lpt_outcomes.proofs.TakeLemmas.{heard_more, passed-more, passed-same, unheard}
use Rattle.lpt_outcomes.proofs.reports.ReportTakerTakerUnit.take.Goals as goal

-- one that is no report
pub returns-in-Err-clause-taken : goal.returns-in-Err-clause-taken
returns-in-Err-clause-taken g c = λ from first old pieces h at.
    let p : Piece = record { kind = c.args.kind; octets = c.args.octets.now } in
    let b = c.in-Err.beside in
    let l = first.layout in
    let is = ap (λ (l : Layout). in_piece (news_in l) p.kind p.octets) (sym h.0)
    ∙ sym c.news_in_piece.ensures ∙ c.in-Err.is in (
      h.0,
      λ k. unheard l k (get key_cmp first.outcomes k) (get key_cmp c.args.self.outcomes k) pieces
          p b (h.1 k) is,
      passed-more (news_in l) pieces p b c.count.new.self is (c.count.ensures _ h.2),
    )

-- one that is
pub returns-in-Ok-clause-taken : goal.returns-in-Ok-clause-taken
returns-in-Ok-clause-taken g c = λ from first old pieces h at.
    let p : Piece = record { kind = c.args.kind; octets = c.args.octets.now } in
    let n = c.in-Ok.news in
    let l = first.layout in
    let is = ap (λ (l : Layout). in_piece (news_in l) p.kind p.octets) (sym h.0)
    ∙ sym c.news_in_piece.ensures ∙ c.in-Ok.is in (
      h.0,
      λ k. heard_more l k (get key_cmp first.outcomes k) (get key_cmp c.args.self.outcomes k) _
          pieces p n (h.1 k) is (c.hear.ensures k),
      passed-same (news_in l) pieces p n c.args.self.passed is h.2,
    )

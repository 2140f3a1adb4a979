-- What one more piece of a stream is.
use Rattle.std.proofs.Common.{◌≡◌, ◌∙◌, ap, sym, subst, ℕ, List, [], ◌∷◌, ◌++◌, Option, Some, None, Result, Ok, Err, append-nil}
use Rattle.std.specs.List.{filter_map, cons_option}
use Rattle.std.specs.Result.{result_ok, result_err}
use Rattle.std.proofs.lemmas.List.{map-append}
use Rattle.std.proofs.lemmas.List.Elements.{filter_map-append}
use Rattle.lpt_layout.specs.declared.layout.Layout.{Layout}
use Rattle.lpt_stream.specs.Pieces.{Piece}
use Rattle.lpt_outcomes.specs.declared.news.ReportNews.{ReportNews}
use Rattle.lpt_outcomes.specs.declared.outcome.Outcome.{Outcome}
use Rattle.lpt_outcomes.specs.declared.passed.Beside.{Beside}
use Rattle.lpt_outcomes.specs.declared.passed.Passed.{Passed}
use Rattle.lpt_outcomes.specs.Answers.{heard_at, told_at}
use Rattle.lpt_outcomes.specs.Keys.{Key}
use Rattle.lpt_outcomes.specs.Passing.{all_found, in_piece, pieces_met, passed_over, IsPassed}
use Rattle.lpt_outcomes.specs.Reports.{news_in, news_of}
use Rattle.lpt_outcomes.proofs.AnswerLemmas.{told_at-next}

-- ---- a piece

-- what is taken from what pieces are, and one more
taken-next : {A B : Type 0} (take : Result A Beside → Option B) (read : List ℕ → Result A Beside)
    → (ps : List Piece) (p : Piece)
    → filter_map take (pieces_met read (ps ++ p ∷ []))
    ≡ filter_map take (pieces_met read ps) ++ cons_option (take (in_piece read p.kind p.octets)) []
taken-next take read ps p =
    ap (filter_map take) (map-append (λ (p : Piece). in_piece read p.kind p.octets) ps (p ∷ []))
    ∙ filter_map-append take (pieces_met read ps) (in_piece read p.kind p.octets ∷ [])

-- of one that gives nothing
none-next : {A B : Type 0} (take : Result A Beside → Option B) (read : List ℕ → Result A Beside)
    → (ps : List Piece) (p : Piece)
    → take (in_piece read p.kind p.octets) ≡ None
    → filter_map take (pieces_met read (ps ++ p ∷ [])) ≡ filter_map take (pieces_met read ps)
none-next take read ps p none =
    taken-next take read ps p
    ∙ ap (λ o. filter_map take (pieces_met read ps) ++ cons_option o []) none
    ∙ append-nil (filter_map take (pieces_met read ps))

-- and of one that gives something
some-next : {A B : Type 0} (take : Result A Beside → Option B) (read : List ℕ → Result A Beside)
    → (ps : List Piece) (p : Piece) (x : B)
    → take (in_piece read p.kind p.octets) ≡ Some x
    → filter_map take (pieces_met read (ps ++ p ∷ [])) ≡ filter_map take (pieces_met read ps) ++ x
    ∷ []
some-next take read ps p x some =
    taken-next take read ps p
    ∙ ap (λ o. filter_map take (pieces_met read ps) ++ cons_option o []) some

-- ---- one that is looked for

pub found-more : {A : Type 0} (read : List ℕ → Result A Beside) (ps : List Piece) (p : Piece)
    → (x : A)
    → in_piece read p.kind p.octets ≡ Ok x
    → all_found read (ps ++ p ∷ []) ≡ all_found read ps ++ x ∷ []
found-more read ps p x is = some-next result_ok read ps p x (ap result_ok is)

pub passed-same : {A : Type 0} (read : List ℕ → Result A Beside) (ps : List Piece) (p : Piece)
    → (x : A) (t : Passed)
    → in_piece read p.kind p.octets ≡ Ok x
    → IsPassed (passed_over read ps) t
    → IsPassed (passed_over read (ps ++ p ∷ [])) t
passed-same read ps p x t is h =
    subst (λ bs. IsPassed bs t) (sym (none-next result_err read ps p (ap result_err is))) h

-- ---- one that is passed over

pub found-same : {A : Type 0} (read : List ℕ → Result A Beside) (ps : List Piece) (p : Piece)
    → (b : Beside)
    → in_piece read p.kind p.octets ≡ Err b
    → all_found read (ps ++ p ∷ []) ≡ all_found read ps
found-same read ps p b is = none-next result_ok read ps p (ap result_ok is)

pub passed-more : {A : Type 0} (read : List ℕ → Result A Beside) (ps : List Piece) (p : Piece)
    → (b : Beside) (t : Passed)
    → in_piece read p.kind p.octets ≡ Err b
    → IsPassed (passed_over read ps ++ b ∷ []) t
    → IsPassed (passed_over read (ps ++ p ∷ [])) t
passed-more read ps p b t is h =
    subst (λ bs. IsPassed bs t) (sym (some-next result_err read ps p b (ap result_err is))) h

-- ---- reports

-- a piece that is none
pub unheard : (l : Layout) (k : Key) (first now : Option Outcome) (ps : List Piece) (p : Piece)
    → (b : Beside)
    → now ≡ told_at k (news_of l ps) first
    → in_piece (news_in l) p.kind p.octets ≡ Err b
    → now ≡ told_at k (news_of l (ps ++ p ∷ [])) first
unheard l k first now ps p b h is =
    h ∙ ap (λ ns. told_at k ns first) (sym (found-same (news_in l) ps p b is))

-- and one that is
pub heard_more : (l : Layout) (k : Key) (first now more : Option Outcome) (ps : List Piece)
    → (p : Piece) (n : ReportNews)
    → now ≡ told_at k (news_of l ps) first
    → in_piece (news_in l) p.kind p.octets ≡ Ok n
    → more ≡ heard_at k n now
    → more ≡ told_at k (news_of l (ps ++ p ∷ [])) first
heard_more l k first now more ps p n h is e =
    e ∙ ap (heard_at k n) h ∙ sym (told_at-next k (news_of l ps) n first)
    ∙ ap (λ ns. told_at k ns first) (sym (found-more (news_in l) ps p n is))

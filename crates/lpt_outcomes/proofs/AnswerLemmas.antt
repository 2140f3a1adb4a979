-- What was told by source and request ID is what reports tell, one after the other.
use Rattle.std.proofs.Common.{◌≡◌, ◌∙◌, ap, sym, refl, ℕ, ◌==◌, Bool, true, false, if◌then◌else◌, List, [], ◌∷◌, ◌++◌, map, Option, Some, None}
use Rattle.std.specs.Prelude.{◌||◌}
use Rattle.std.specs.List.{flat_map, list_any}
use Rattle.std.specs.Option.{option_or}
use Rattle.lpt_requests.specs.declared.notice.FailureNotice.{FailureNotice}
use Rattle.lpt_list.specs.declared.form.Form.{Form}
use Rattle.lpt_outcomes.specs.declared.asked.Asked.{Asked}
use Rattle.lpt_outcomes.specs.declared.news.ReportNews.{ReportNews}
use Rattle.lpt_outcomes.specs.declared.outcome.Outcome.{Outcome}
use Rattle.lpt_outcomes.specs.Answers.{heard_at, outcomes_joined, told_at, with_told}
use Rattle.lpt_outcomes.specs.Keys.{Key, key_of, reported_key, same_key}
use Rattle.lpt_outcomes.specs.Lines.{has_key, line_of}
use Rattle.lpt_outcomes.specs.Reports.{all_heard, news_heard, outcome_told, told_by}
use Rattle.lpt_outcomes.specs.Requests.{nothing_told}
use Rattle.lpt_outcomes.proofs.KeyLemmas.{same-self}

-- ---- what was told first, and what was told then

or-true : (b : Bool) → (b || true) ≡ true
or-true true = refl
or-true false = refl

or-false : (b : Bool) → (b || false) ≡ b
or-false true = refl
or-false false = refl

or-none : (o : Option FailureNotice) → option_or o None ≡ o
or-none None = refl
or-none (Some notice) = refl

or-assoc : (o p q : Option FailureNotice)
    → option_or o (option_or p q) ≡ option_or (option_or o p) q
or-assoc None p q = refl
or-assoc (Some notice) p q = refl

-- one more success
joined-success : (o s : Outcome) (one three : Bool)
    → outcomes_joined o (if one then (record s { accepted = true })
    else if three then (record s { started = true }) else (record s { completed = true }))
    ≡ (if one then (record (outcomes_joined o s) { accepted = true })
    else if three then (record (outcomes_joined o s) { started = true })
    else (record (outcomes_joined o s) { completed = true }))
joined-success o s true three =
    ap (λ b. record (outcomes_joined o s) { accepted = b }) (or-true o.accepted)
joined-success o s false true =
    ap (λ b. record (outcomes_joined o s) { started = b }) (or-true o.started)
joined-success o s false false =
    ap (λ b. record (outcomes_joined o s) { completed = b }) (or-true o.completed)

-- one more report
joined-told : (o s : Outcome) (subtype : ℕ) (failure : Option FailureNotice)
    → outcomes_joined o (told_by s subtype failure) ≡ told_by (outcomes_joined o s) subtype failure
joined-told o s subtype None = joined-success o s (subtype == 1) (subtype == 3)
joined-told o s subtype (Some notice) =
    ap (λ f. record (outcomes_joined o s) { failure = f })
    (or-assoc o.failure s.failure (Some notice))

joined-nothing : (o : Outcome) → outcomes_joined o nothing_told ≡ o
joined-nothing o =
    simp (or-false o.accepted, or-false o.started, or-false o.completed, or-none o.failure) refl

-- ---- a request

-- what one becomes by reports
abbrev one : Asked → List ReportNews → Asked
one a [] = a
one a (n ∷ ns) = one (news_heard n a) ns

one-told : (a : Asked) (s : Outcome) (ns : List ReportNews)
    → with_told a (told_at (key_of a) ns (Some s)) ≡ one (with_told a (Some s)) ns
one-told a s [] = refl
one-told a s (n ∷ ns) =
    by_id (same_key (reported_key n) (key_of a)) refl (one-told a (outcome_told s n) ns)
    (one-told a s ns)
  where
    by_id : (b : Bool) → same_key (reported_key n) (key_of a) ≡ b
        → with_told a (told_at (key_of a) ns (Some (outcome_told s n)))
        ≡ one (with_told a (Some (outcome_told s n))) ns
        → with_told a (told_at (key_of a) ns (Some s)) ≡ one (with_told a (Some s)) ns
        → with_told a (told_at (key_of a) (n ∷ ns) (Some s))
        ≡ one (with_told a (Some s)) (n ∷ ns)
    by_id true e own other =
        rw e (own ∙ ap (λ (o : Outcome). one (record a { outcome = o }) ns)
        (joined-told a.outcome s n.subtype n.report.failure))
    by_id false e own other = rw e other

-- from nothing on
one-answered : (a : Asked) (ns : List ReportNews)
    → with_told a (told_at (key_of a) ns (Some nothing_told)) ≡ one a ns
one-answered a ns =
    one-told a nothing_told ns
    ∙ ap (λ (o : Outcome). one (record a { outcome = o }) ns) (joined-nothing a.outcome)

-- ---- requests

heard-none : (ns : List ReportNews) → all_heard [] ns ≡ []
heard-none [] = refl
heard-none (n ∷ ns) = heard-none ns

heard-one : (a : Asked) (rest : List Asked) (ns : List ReportNews)
    → all_heard (a ∷ rest) ns ≡ one a ns ∷ all_heard rest ns
heard-one a rest [] = refl
heard-one a rest (n ∷ ns) = heard-one (news_heard n a) (map (news_heard n) rest) ns

-- requests with what was told on them
pub answered-heard : (m : Key → Option Outcome) (requests : List Asked) (ns : List ReportNews)
    → ((k : Key) → list_any (has_key k) requests ≡ true → m k ≡ told_at k ns (Some nothing_told))
    → map (λ a. with_told a (m (key_of a))) requests ≡ all_heard requests ns
answered-heard m [] ns h = sym (heard-none ns)
answered-heard m (a ∷ rest) ns h =
    let k = key_of a in
    let own = h k (ap (λ b. b || list_any (has_key k) rest) (same-self k)) in
    let others = answered-heard m rest ns
    (λ i some. h i (ap (λ b. has_key i a || b) some ∙ or-true (has_key i a))) in
    ap (λ o. with_told a o ∷ map (λ a. with_told a (m (key_of a))) rest) own
    ∙ ap (λ x. x ∷ map (λ a. with_told a (m (key_of a))) rest) (one-answered a ns)
    ∙ ap (λ xs. one a ns ∷ xs) others
    ∙ sym (heard-one a rest ns)

-- ---- one more report

pub told_at-next : (k : Key) (ns : List ReportNews) (n : ReportNews) (o : Option Outcome)
    → told_at k (ns ++ n ∷ []) o ≡ heard_at k n (told_at k ns o)
told_at-next k [] n o = refl
told_at-next k (m ∷ ns) n o = told_at-next k ns n (heard_at k m o)

-- ---- lines

-- by the same numbers the lines are the same
pub lines-counted : (form : Form) (f g : Key → ℕ)
    → ((k : Key) → f k ≡ g k)
    → (requests : List Asked)
    → flat_map (λ a. line_of form (f (key_of a)) a) requests
    ≡ flat_map (λ a. line_of form (g (key_of a)) a) requests
lines-counted form f g same [] = refl
lines-counted form f g same (a ∷ rest) =
    ap (λ n. line_of form n a ++ flat_map (λ a. line_of form (f (key_of a)) a) rest)
    (same (key_of a))
    ∙ ap (λ t. line_of form (g (key_of a)) a ++ t) (lines-counted form f g same rest)

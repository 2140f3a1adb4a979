-- What a map has at a source and a request ID, once a value is put at some.
use Rattle.std.proofs.Common.{arith, ◌≡◌, ◌∙◌, ap, sym, refl, ℕ, ◌+◌, ◌<◌, ◌==◌, ◌&&◌, ◌||◌, Bool, true, false, if◌then◌else◌, cond, List, length, take, Option, Some, None, Less, Equal, Greater}
use Rattle.std.proofs.lemmas.Bool.{and_parts}
use Rattle.std.proofs.lemmas.List.Folds.{list_any_more}
use Rattle.std.proofs.lemmas.List.Sums.{sum_by_more}
use Rattle.std.specs.Prelude.{count_by, get_or, option_map, unwrap_or}
use Rattle.std.specs.declared.cmp.Ordering.{Ordering}
use Rattle.std.specs.BTreeMap.{is_at}
use Rattle.std.specs.Cmp.{unsigned_tied}
use Rattle.std.specs.List.{list_any}
use Rattle.std.specs.Map.{count_at}
use Rattle.std.specs.Ordering.{is_eq, nat_cmp, ordering_then}
use Rattle.lpt_packet.proofs.Readings.{eq_true, true_eq}
use Rattle.lpt_outcomes.specs.declared.asked.Asked.{Asked}
use Rattle.lpt_outcomes.specs.declared.news.ReportNews.{ReportNews}
use Rattle.lpt_outcomes.specs.declared.outcome.Outcome.{Outcome}
use Rattle.lpt_outcomes.specs.Answers.{heard_at, untold}
use Rattle.lpt_outcomes.specs.Keys.{Key, key_cmp, key_of, reported_key, same_key}
use Rattle.lpt_outcomes.specs.Lines.{has_key, with_key}
use Rattle.lpt_outcomes.specs.Reports.{outcome_told}
use Rattle.lpt_outcomes.specs.Requests.{nothing_told}

pub same-self : (k : Key) → same_key k k ≡ true
same-self k = λ i. eq_true k.source k.source refl i && eq_true k.id k.id refl i

-- those that are the same are equal
same-equal : (j k : Key) → same_key j k ≡ true → j ≡ k
same-equal j k h =
    let both = and_parts (j.source == k.source) (j.id == k.id) h in
    λ i. record {
      source = true_eq j.source k.source both.0 i;
      id = true_eq j.id k.id both.1 i;
    }

tied_both : (r s : Ordering) → is_eq (ordering_then r s) ≡ (is_eq r && is_eq s)
tied_both Less s = refl
tied_both Equal s = refl
tied_both Greater s = refl

-- and stand together in their order
tied : (j k : Key) → is_at (key_cmp j) k ≡ same_key j k
tied j k =
    tied_both (nat_cmp j.source k.source) (nat_cmp j.id k.id)
    ∙ (λ i. unsigned_tied j.source k.source i && unsigned_tied j.id k.id i)

-- a report that is told where it is on a request
pub heard-put : (n : ReportNews) (j k : Key) (at : Key → Option Outcome) (o x : Outcome)
    → (new : Option Outcome)
    → j ≡ reported_key n
    → x ≡ outcome_told o n
    → at j ≡ Some o
    → new ≡ cond (is_at (key_cmp j) k) (Some x) (at k)
    → new ≡ heard_at k n (at k)
heard-put n j k at o x new named is there put =
    put ∙ ap (λ b. cond b (Some x) (at k)) (tied j k) ∙ go (same_key j k) refl
    ∙ ap (λ q. if same_key q k then option_map (λ y. outcome_told y n) (at k) else at k) named
  where
    go : (b : Bool) → same_key j k ≡ b
        → cond b (Some x) (at k) ≡ (if b then option_map (λ y. outcome_told y n) (at k) else at k)
    go true e =
        ap Some is ∙ ap (option_map (λ y. outcome_told y n)) (sym there ∙ ap at (same-equal j k e))
    go false e = refl

-- ---- one request more

module _ (requests : List Asked) (i : ℕ) (d : Asked) (j k : Key) where
  -- of which nothing was told
  pub untold-put : (x : Outcome) (old new : Option Outcome)
      → i < length requests
      → j ≡ key_of (get_or requests i d)
      → x ≡ nothing_told
      → old ≡ untold (take i requests) k
      → new ≡ cond (is_at (key_cmp j) k) (Some x) old
      → new ≡ untold (take (i + 1) requests) k
  untold-put x old new lt named is before put =
      put ∙ (λ t. cond (tied j k t) (Some (is t)) (before t)) ∙ go (same_key j k) some
      ∙ ap (λ b. if b then Some nothing_told else None)
      (ap (λ q. some || same_key q k) named ∙ sym (list_any_more (has_key k) requests i d lt))
    where
      some : Bool
      some = list_any (has_key k) (take i requests)

      go : (b c : Bool)
          → cond b (Some nothing_told) (if c then Some nothing_told else None)
          ≡ (if c || b then Some nothing_told else None)
      go true true = refl
      go true false = refl
      go false true = refl
      go false false = refl

  -- which is counted
  pub counted-put : (n : ℕ) (at : Key → Option ℕ) (new : Option ℕ)
      → i < length requests
      → j ≡ key_of (get_or requests i d)
      → n ≡ count_at at (key_of (get_or requests i d))
      → count_at at k ≡ with_key (take i requests) k
      → new ≡ cond (is_at (key_cmp j) k) (Some (n + 1)) (at k)
      → unwrap_or new 0 ≡ with_key (take (i + 1) requests) k
  counted-put n at new lt named is before put =
      ap (λ o. unwrap_or o 0)
      (put ∙ (λ t. cond (tied j k t) (Some ((is ∙ ap (count_at at) (sym named)) t + 1)) (at k)))
      ∙ go (same_key j k) refl
      ∙ (λ t. before t + cond (same_key (named t) k) 1 0)
      ∙ sym (sum_by_more (λ a. cond (has_key k a) 1 0) requests i d lt)
    where
      go : (b : Bool)
          → same_key j k ≡ b
          → unwrap_or (cond b (Some (count_at at j + 1)) (at k)) 0 ≡ count_at at k + cond b 1 0
      go true e = ap (λ q. count_at at q + 1) (same-equal j k e)
      go false e = omega arith

-- one request more that is counted where this holds of it
pub count-more : (f : Asked → Bool) (requests : List Asked) (i : ℕ) (d : Asked) (n : ℕ) (b : Bool)
    → i < length requests
    → f (get_or requests i d) ≡ b
    → n ≡ count_by f (take i requests)
    → n + cond b 1 0 ≡ count_by f (take (i + 1) requests)
count-more f requests i d n b lt is before =
    (λ t. before t + cond (sym is t) 1 0)
    ∙ sym (sum_by_more (λ a. cond (f a) 1 0) requests i d lt)

pub count-same : (f : Asked → Bool) (requests : List Asked) (i : ℕ) (d : Asked) (n : ℕ)
    → i < length requests
    → f (get_or requests i d) ≡ false
    → n ≡ count_by f (take i requests)
    → n ≡ count_by f (take (i + 1) requests)
count-same f requests i d n lt is before =
    let none : n ≡ n + 0 = omega arith in
    none ∙ count-more f requests i d n false lt is before

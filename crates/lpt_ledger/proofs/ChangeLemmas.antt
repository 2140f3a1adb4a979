-- A page that is changed where it stands.
use Rattle.std.proofs.Common.{◌≡◌, ◌∙◌, refl, sym, ap, inl, inr, ℕ, ◌+◌, ◌*◌, ◌/◌, ◌%◌, ◌<◌, Bool, true, false, cond, List, Option, Some, None, is_some, arith}
use mathlib.Core.Bool.{beq, not}
use Rattle.std.specs.BTreeMap.{is_at}
use Rattle.lpt_packet.proofs.KeyLemmas as keys
use Rattle.lpt_packet.proofs.NameLemmas.{name_cmp-IsAntisymmetric, name_cmp_total}
use Rattle.lpt_packet.specs.Names.{Name, name_cmp, named_by}
use Rattle.lpt_ledger.specs.declared.page.Page.{Page}
use Rattle.lpt_ledger.specs.declared.state.State.{State}
use Rattle.lpt_ledger.specs.LedgerInside.{full_bit, mark_on, marks, page_first, page_in, page_mark, with_state, IsChanged, IsKept}
use Rattle.lpt_ledger.proofs.FullLemmas.{first_first, page_bit}
use Rattle.lpt_ledger.proofs.MarksLemmas.{get-marks, marks-put, same_marks}

-- pages in which one stands as it stood are the same
pub same_page : (es fs : List (Name × Page)) (first : Name) (page : Page)
    → page_in es first ≡ Some page
    → ((q : Name) → page_in fs q ≡ cond (is_at (name_cmp first) q) (Some page) (page_in es q))
    → (q : Name)
    → page_in fs q ≡ page_in es q
same_page es fs first page there stands q =
    stands q
    ∙ elim (keys.same_or_not name_cmp_total name_cmp-IsAntisymmetric first q) [
      | inl t ↦
          ap (λ b. cond b (Some page) (page_in es q)) t.0 ∙ sym there ∙ ap (page_in es) t.1
      | inr t ↦ ap (λ b. cond b (Some page) (page_in es q)) t.0
    ]

-- a page with a free name isn't one of which none is free
pub as_full : (before : Option Page) (page kept : Page) (a b : Bool)
    → before ≡ Some kept
    → not (beq a b) ≡ false
    → (a ≡ true → (k : ℕ) → k < 64 → is_some (page_mark page k) ≡ true)
    → (b ≡ false → (k : ℕ) × (k < 64) × (page_mark kept k ≡ None))
    → ((k : ℕ) → k < 64 → is_some (mark_on before k) ≡ true)
    → (k : ℕ)
    → k < 64
    → is_some (page_mark page k) ≡ true
as_full before page kept true b there same full other taken = full refl
as_full before page kept false true there same full other taken = absurd cc
as_full before page kept false false there same full other taken =
    let free = other refl in
    let never : true ≡ false =
    sym (taken free.0 free.1) ∙ ap (λ o. is_some (mark_on o free.0)) there ∙ ap is_some free.2 in
    absurd cc

module _ (es fs : List (Name × Page)) (name : Name) where
  -- where no page changes, neither do the marks
  pub marks-same : ((q : Name) → page_in fs q ≡ page_in es q) → marks fs ≡ marks es
  marks-same same = same_marks (marks fs) (marks es) (λ q.
      get-marks fs q
      ∙ ap (λ (o : Option Page). mark_on o (q.id % 64)) (same (page_first q))
      ∙ sym (get-marks es q))

  -- nor what always holds
  pub IsKept-same : (ws : List (Name × ℕ))
      → ((q : Name) → page_in fs q ≡ page_in es q)
      → IsKept es ws
      → IsKept fs ws
  IsKept-same ws same kept = record {
    tells = λ q one.
        ap (λ (o : Option Page). is_some (mark_on o (q.id % 64))) (same (page_first q))
        ∙ kept.tells q one;
    paged = λ q some. kept.paged q (sym (ap is_some (same q)) ∙ some);
  }

  module _ (state : State) (h : IsChanged es fs (page_first name) (name.id % 64) state) where
    -- the name has the state
    pub marks-changed : marks fs ≡ with_state (marks es) name state
    marks-changed =
        marks-put es fs name state h.page h.this h.others (λ q b.
        ap (λ (o : Option Page). mark_on o b) (h.stands q)
        ∙ on_either (is_at (name_cmp (page_first name)) q) (page_in es q) b) where
          on_either : (c : Bool) (o : Option Page) (b : ℕ)
              → mark_on (cond c (Some h.page) o) b ≡ cond c (page_mark h.page b) (mark_on o b)
          on_either true o b = refl
          on_either false o b = refl

    -- a page whose bit is set has no free name
    was_full : (ws : List (Name × ℕ)) (q : Name)
        → IsKept es ws
        → page_first name ≡ page_first q
        → full_bit ws q ≡ 1
        → (k : ℕ)
        → k < 64
        → is_some (mark_on (page_in es (page_first name)) k) ≡ true
    was_full ws q kept same one k within =
        let r = named_by q.source (q.id / 64 * 64 + k) in
        let ids : (q.id / 64 * 64 + k) / 64 * 64 ≡ q.id / 64 * 64 = omega (arith, within) in
        let place : (q.id / 64 * 64 + k) % 64 ≡ k = omega (arith, within) in
        let page : page_first r ≡ page_first q = ap (λ (i : ℕ). named_by q.source i) ids in
        (λ i. is_some (mark_on (page_in es ((same ∙ sym page) i)) (sym place i)))
        ∙ kept.tells r (page_bit ws r q page ∙ one)

    -- what always holds still does
    pub IsKept-changed : (ws : List (Name × ℕ)) → IsKept es ws → IsKept fs ws
    IsKept-changed ws kept = record {
      tells = λ q one.
          ap (λ (o : Option Page). is_some (mark_on o (q.id % 64))) (h.stands (page_first q))
          ∙ elim (keys.same_or_not name_cmp_total name_cmp-IsAntisymmetric (page_first name)
          (page_first q)) [
            | inl t ↦
                ap (λ b. is_some (mark_on (cond b (Some h.page) (page_in es (page_first q)))
                (q.id % 64))) t.0
                ∙ h.full (was_full ws q kept t.1 one) (q.id % 64) (omega arith)
            | inr t ↦
                ap (λ b. is_some (mark_on (cond b (Some h.page) (page_in es (page_first q)))
                (q.id % 64))) t.0
                ∙ kept.tells q one
          ];
      paged = λ q some.
          elim (keys.same_or_not name_cmp_total name_cmp-IsAntisymmetric (page_first name) q) [
            | inl t ↦ ap page_first (sym t.1) ∙ first_first name ∙ t.1
            | inr t ↦
                kept.paged q
                (sym (ap is_some (h.stands q
                ∙ ap (λ b. cond b (Some h.page) (page_in es q)) t.0))
                ∙ some)
          ];
    }

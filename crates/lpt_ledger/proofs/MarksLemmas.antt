-- What pages are seen as, and what a page that is put does to the marks.
use Rattle.std.proofs.Common.{◌≡◌, ◌≢◌, ◌∙◌, refl, sym, ap, ℕ, zero, suc, ◌+◌, ◌*◌, ◌/◌, ◌%◌, ◌<◌, ◌≤◌, true, false, cond, List, [], ◌∷◌, Option, Some, None, inl, inr, ◌⊎◌, arith}
use Rattle.std.proofs.lemmas.Bool.Decides.{eqb_tells}
use Rattle.std.specs.BTreeMap.{is_at}
use Rattle.std.specs.FinMap.{get, get-insert, get-remove, get-empty, empty, get-from_entries, same_map}
use Rattle.std.specs.FinMap.Entries.{find}
use Rattle.std.specs.Ordering.{eq_by_cmp}
use Rattle.lpt_packet.proofs.KeyLemmas as keys
use Rattle.lpt_packet.proofs.NameLemmas.{name_cmp-IsAntisymmetric, name_cmp_total}
use Rattle.lpt_packet.specs.Names.{Name, name_cmp, named_by}
use Rattle.lpt_ledger.specs.declared.page.Page.{Page}
use Rattle.lpt_ledger.specs.declared.state.State.{State}
use Rattle.lpt_ledger.specs.declared.state.State.TheVariants.{Free, Open, Closed}
use Rattle.lpt_ledger.specs.Marks.{Mark, Opened, Shut, Marks}
use Rattle.lpt_ledger.specs.States.{state_of}
use Rattle.lpt_ledger.specs.LedgerInside.{mark_of, name_marked, marks, marks_over, mark_at, mark_on, names_from, names_on, page_first, page_in, page_mark, with_state}

-- ---- which names pages have

-- a name is one of these
abbrev IsAmong : Name → List Name → Type 0
IsAmong q [] = ⊥
IsAmong q (n ∷ ns) = (q ≡ n) ⊎ IsAmong q ns

-- one that is among those behind a page's is among all
among_behind : (n k : ℕ) (first : Name) (rest : List Name) (q : Name)
    → IsAmong q rest
    → IsAmong q (names_from n k first rest)
unfolding names_from
among_behind zero k first rest q h = h
among_behind (suc n) k first rest q h = inr (among_behind n (suc k) first rest q h)

-- and one of the page's is
among_here : (n k i : ℕ) (first : Name) (rest : List Name) (q : Name)
    → q ≡ named_by first.source (first.id + i)
    → k ≤ i
    → i < k + n
    → IsAmong q (names_from n k first rest)
unfolding names_from
among_here zero k i first rest q is from to = absurd (omega (arith, from, to))
among_here (suc n) k i first rest q is from to = elim (eqb_tells i k) [
  | inl t ↦ inl (is ∙ ap (λ (j : ℕ). named_by first.source (first.id + j)) t.1)
  | inr t ↦ inr
      (among_here n (suc k) i first rest q is (omega (arith, from, t.1)) (omega (arith, to)))
]

-- a name stands on its page
pub on_page : (q first : Name) → page_first q ≡ first → q
    ≡ named_by first.source (first.id + q.id % 64)
on_page q first e =
    (λ i. record { source = q.source; id = parts q.id i })
    ∙ ap (λ (x : Name). named_by x.source (x.id + q.id % 64)) e
  where
    parts : (n : ℕ) → n ≡ n / 64 * 64 + n % 64
    parts n = omega arith

-- so it is among the names of pages that have its own
among_pages : (es : List (Name × Page)) (q : Name) (g : Page)
    → page_in es (page_first q) ≡ Some g
    → IsAmong q (names_on es)
among_pages [] q g h = absurd cc
among_pages (e ∷ es) q g h =
    elim (keys.same_or_not name_cmp_total name_cmp-IsAntisymmetric (page_first q) e.0) [
      | inl w ↦ among_here 64 0 (q.id % 64) e.0 (names_on es) q (on_page q e.0 w.1) (omega arith)
          (omega arith)
      | inr w ↦
          among_behind 64 0 e.0 (names_on es) q
          (among_pages es q g
          (sym (ap (λ b. cond b (Some e.1) (page_in es (page_first q))) w.0) ∙ h))
    ]

-- ---- what is found among marks

-- of a name that is among them, or has no mark
find-marks_over : (mark : Name → Option Mark) (q : Name) (ns : List Name)
    → IsAmong q ns ⊎ (mark q ≡ None)
    → find name_cmp q (marks_over ns mark) ≡ mark q
find-marks_over mark q [] h = elim h [ inl w ↦ absurd w | inr w ↦ sym w ]
find-marks_over mark q (n ∷ ns) h =
    let later = find-marks_over mark q ns in
    elim (keys.same_or_not name_cmp_total name_cmp-IsAntisymmetric q n) [
      | inl w ↦ here later w.0 w.1 (mark n) refl
      | inr w ↦ there w.0 (mark n) ∙ later (behind w.1 h)
    ]
  where
    here : (IsAmong q ns ⊎ (mark q ≡ None) → find name_cmp q (marks_over ns mark) ≡ mark q)
        → eq_by_cmp name_cmp q n ≡ true
        → q ≡ n
        → (o : Option Mark)
        → mark n ≡ o
        → find name_cmp q (name_marked n o (marks_over ns mark)) ≡ mark q
    here later tied same None e = later (inr (ap mark same ∙ e))
    here later tied same (Some x) e =
        ap (λ b. cond b (Some x) (find name_cmp q (marks_over ns mark))) tied ∙ sym e
        ∙ ap mark (sym same)

    there : eq_by_cmp name_cmp q n ≡ false
        → (o : Option Mark)
        → find name_cmp q (name_marked n o (marks_over ns mark))
        ≡ find name_cmp q (marks_over ns mark)
    there tied None = refl
    there tied (Some x) = ap (λ b. cond b (Some x) (find name_cmp q (marks_over ns mark))) tied

    behind : q ≢ n
        → IsAmong q (n ∷ ns) ⊎ (mark q ≡ None)
        → IsAmong q ns ⊎ (mark q ≡ None)
    behind other h = elim h [
      | inl w ↦ elim w [ inl same ↦ absurd (other same) | inr later ↦ inl later ]
      | inr w ↦ inr w
    ]

-- ---- what pages are seen as

-- the mark of each name
pub get-marks : (es : List (Name × Page)) (q : Name) → get (marks es) q ≡ mark_at es q
unfolding marks
get-marks es q =
    get-from_entries name_cmp_total (marks_over (names_on es) (mark_at es)) q
    ∙ find-marks_over (mark_at es) q (names_on es) (known (page_in es (page_first q)) refl)
  where
    known : (o : Option Page)
        → page_in es (page_first q) ≡ o
        → IsAmong q (names_on es) ⊎ (mark_at es q ≡ None)
    known None e = inr (ap (λ o. mark_on o (q.id % 64)) e)
    known (Some g) e = inl (among_pages es q g e)

-- a state's mark stands for it
pub state_of-mark_of : (s : State) → state_of (mark_of s) ≡ s
state_of-mark_of Free = refl
state_of-mark_of Open = refl
state_of-mark_of Closed = refl

-- marks that show the same are the same
pub same_marks : (m n : Marks) → ((q : Name) → get m q ≡ get n q) → m ≡ n
same_marks m n same = same_map name_cmp_total name_cmp-IsAntisymmetric m n same

-- no pages are no marks
pub marks-nil : marks [] ≡ empty
marks-nil = same_marks (marks []) empty (λ q. get-marks [] q ∙ sym (get-empty name_cmp q))

-- ---- one state is set

-- the mark of each name once one has a state
get-with_state : (m : Marks) (name : Name) (s : State) (q : Name)
    → get (with_state m name s) q ≡ cond (eq_by_cmp name_cmp q name) (mark_of s) (get m q)
get-with_state m name Free q = get-remove name_cmp_total m name q
get-with_state m name Open q = get-insert name_cmp_total m name Opened q
get-with_state m name Closed q = get-insert name_cmp_total m name Shut q

-- names on the same page and at the same place are the same
one_place : (q n : Name) → page_first n ≡ page_first q → q.id % 64 ≡ n.id % 64 → q ≡ n
one_place q n e same =
    let first : n.id / 64 * 64 ≡ q.id / 64 * 64 = ap (λ (x : Name). x.id) e in
    let ids : q.id ≡ n.id = omega (arith, first, same) in
    let sources : q.source ≡ n.source = ap (λ (x : Name). x.source) (sym e) in
    λ i. record { source = sources i; id = ids i }

module _ (es fs : List (Name × Page)) (name : Name) (s : State) (page : Page)
    (this : page_mark page (name.id % 64) ≡ mark_of s)
    (others : (b : ℕ) → b < 64 → b ≢ name.id % 64 → page_mark page b
    ≡ mark_on (page_in es (page_first name)) b)
    (put : (q : Name) (b : ℕ) → mark_on (page_in fs q) b
    ≡ cond (is_at (name_cmp (page_first name)) q) (page_mark page b) (mark_on (page_in es q) b))
  where
    on_this : (q : Name)
        → page_first name ≡ page_first q
        → page_mark page (q.id % 64) ≡ cond (eq_by_cmp name_cmp q name) (mark_of s) (mark_at es q)
    on_this q e = elim (keys.same_or_not name_cmp_total name_cmp-IsAntisymmetric q name) [
      | inl u ↦
          ap (λ (x : Name). page_mark page (x.id % 64)) u.1
          ∙ this
          ∙ sym (ap (λ b. cond b (mark_of s) (mark_at es q)) u.0)
      | inr u ↦
          others (q.id % 64) (omega arith) (λ same. u.1 (one_place q name e same))
          ∙ ap (λ (x : Name). mark_on (page_in es x) (q.id % 64)) e
          ∙ sym (ap (λ b. cond b (mark_of s) (mark_at es q)) u.0)
    ]

    on_another : (q : Name)
        → page_first name ≢ page_first q
        → mark_at es q ≡ cond (eq_by_cmp name_cmp q name) (mark_of s) (mark_at es q)
    on_another q other = elim (keys.same_or_not name_cmp_total name_cmp-IsAntisymmetric q name) [
      | inl u ↦ absurd (other (ap page_first (sym u.1)))
      | inr u ↦ sym (ap (λ b. cond b (mark_of s) (mark_at es q)) u.0)
    ]

    mark_at-put : (q : Name) → mark_at fs q
        ≡ cond (eq_by_cmp name_cmp q name) (mark_of s) (mark_at es q)
    mark_at-put q =
        put (page_first q) (q.id % 64)
        ∙ elim (keys.same_or_not name_cmp_total name_cmp-IsAntisymmetric (page_first name)
        (page_first q)) [
          | inl t ↦
              ap (λ b. cond b (page_mark page (q.id % 64)) (mark_at es q)) t.0
              ∙ on_this q t.1
          | inr t ↦
              ap (λ b. cond b (page_mark page (q.id % 64)) (mark_at es q)) t.0
              ∙ on_another q t.1
        ]

    -- to put the page with a name's state is to set its mark
    pub marks-put : marks fs ≡ with_state (marks es) name s
    marks-put = same_marks (marks fs) (with_state (marks es) name s) (λ q.
        get-marks fs q
        ∙ mark_at-put q
        ∙ ap (cond (eq_by_cmp name_cmp q name) (mark_of s)) (sym (get-marks es q))
        ∙ sym (get-with_state (marks es) name s q))

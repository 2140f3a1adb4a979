-- The names in use that pages list, page by page, are the keys of the marks.
use Rattle.std.proofs.Common.{◌≡◌, ◌≢◌, ◌∙◌, refl, sym, ap, subst, inl, inr, ℕ, zero, suc, ◌+◌, ◌-◌, ◌*◌, ◌/◌, ◌%◌, ◌<◌, ◌≤◌, Bool, true, false, cond, ◌||◌, if◌then◌else◌, List, [], ◌∷◌, ◌++◌, Some, is_some, Less, add-one, arith}
use Rattle.std.proofs.lemmas.Bool.Decides.{eqb_tells}
use Rattle.std.proofs.lemmas.List.{append-nil}
use Rattle.std.proofs.lemmas.List.Folds.{list_any-append}
use Rattle.std.specs.BTreeMap.{is_at}
use Rattle.std.specs.FinMap.{keys}
use Rattle.std.specs.List.{All, list_any}
use Rattle.std.specs.List.Sorted.{IsStrictlySortedBy}
use Rattle.std.specs.Map.{keys_of, lookup}
use Rattle.std.specs.Ordering.{eq_by_cmp}
use Rattle.lpt_packet.proofs.BoolLemmas.{or_false}
use Rattle.lpt_packet.proofs.KeyLemmas as keyed
use Rattle.lpt_packet.proofs.NameLemmas.{name_cmp_total, name_cmp-IsAntisymmetric}
use Rattle.lpt_packet.specs.Names.{Name, name_cmp, named_by}
use Rattle.lpt_ledger.specs.declared.page.Page.{Page}
use Rattle.lpt_ledger.specs.LedgerInside.{mark_at, mark_on, marks, page_first, page_in, page_mark, ArePaged}
use Rattle.lpt_ledger.specs.RunsInside.{listing, page_names, AllFirst, IsFirst}
use Rattle.lpt_ledger.proofs.MarksLemmas.{get-marks, on_page}
use Rattle.lpt_ledger.proofs.RisingLemmas.{IsBy, AllFrom, Rise, all_from, keys_are, less_says, outside}

-- what is found stands so
pub all_first : (es all : List (Name × Page))
    → All (λ e. lookup (is_at (name_cmp e.0)) all ≡ Some e.1) es
    → ArePaged all
    → AllFirst es
all_first [] all found paged = tt
all_first (e ∷ es) all found paged =
    let here : is_some (page_in all e.0) ≡ true = ap is_some (found 0 e (omega arith)) in (
      ap (λ (n : Name). n.id) (paged e.0 here),
      all_first es all (λ k d within. found (suc k) d (omega arith)) paged,
    )

-- ---- they rise

-- the names of a page stand from its place on, before others behind it
page_rises : (n k : ℕ) (first : Name) (g : Page) (rest : List Name)
    → AllFrom first.source (first.id + (k + n)) rest
    → Rise rest
    → AllFrom first.source (first.id + k) (page_names n k first g ++ rest)
    × Rise (page_names n k first g ++ rest)
unfolding page_names
page_rises zero k first g rest above rise = (
  all_from first.source (first.id + k) first.source (first.id + (k + 0)) rest
      (inr (refl, omega arith)) above,
  rise,
)
page_rises (suc n) k first g rest above rise =
    let s : ℕ = first.source in
    let i : ℕ = first.id in
    let names : List Name = page_names n (suc k) first g ++ rest in
    let more : AllFrom s (i + suc k) names × Rise names =
    page_rises n (suc k) first g rest
    (all_from s (i + (suc k + n)) s (i + (k + suc n)) rest (inr (refl, omega arith)) above) rise
    in
    elim (is_some (page_mark g k)) as
    (λ b. AllFrom s (i + k)
    ((if b then named_by s (i + k) ∷ page_names n (suc k) first g else page_names n
    (suc k) first g) ++ rest)
    × Rise ((if b then named_by s (i + k) ∷ page_names n (suc k) first g else page_names n
    (suc k) first g) ++ rest)) [
      | true ↦ (
        (
          inr (refl, omega arith),
          all_from s (i + k) s (i + suc k) names
              (inr (refl, omega arith)) more.0,
        ),
        (all_from s (i + k + 1) s (i + suc k) names (inr (refl, omega arith)) more.0, more.1),
      )
      | false ↦ (all_from s (i + k) s (i + suc k) names (inr (refl, omega arith)) more.0, more.1)
    ]

page_from : (n k : ℕ) (first : Name) (g : Page)
    → AllFrom first.source (first.id + k) (page_names n k first g)
page_from n k first g =
    subst (λ (ns : List Name). AllFrom first.source (first.id + k) ns)
    (append-nil (page_names n k first g))
    (page_rises n k first g [] tt tt).0

-- the page behind a page begins 64 names behind it
next_page : (a b : Name) → IsFirst a → IsFirst b → name_cmp a b ≡ Less
    → IsBy a.source (a.id + 64) b.source (b.id + 0)
next_page a b p q h =
    elim (less_says a b h) [ inl t ↦ inl t | inr t ↦ inr (t.0, omega (arith, p, q, t.1)) ]

-- what pages list behind one stands behind it, and rises
rises : (e : Name × Page) (es : List (Name × Page))
    → IsStrictlySortedBy name_cmp (keys_of (e ∷ es))
    → AllFirst (e ∷ es)
    → AllFrom e.0.source (e.0.id + 64) (listing es) × Rise (listing es)
unfolding IsStrictlySortedBy listing
rises e [] sorted firsts = (tt, tt)
rises e (f ∷ es) sorted firsts =
    let later : AllFrom f.0.source (f.0.id + 64) (listing es)
    × Rise (listing es) = rises f es sorted.1 firsts.1 in
    let page = page_rises 64 0 f.0 f.1 (listing es) later.0 later.1 in (
      all_from e.0.source (e.0.id + 64) f.0.source (f.0.id + 0)
          (page_names 64 0 f.0 f.1 ++ listing es)
          (next_page e.0 f.0 firsts.0 firsts.1.0 sorted.0.0) page.0,
      page.1,
    )

listing_rises : (es : List (Name × Page))
    → IsStrictlySortedBy name_cmp (keys_of es)
    → AllFirst es
    → Rise (listing es)
unfolding listing
listing_rises [] sorted firsts = tt
listing_rises (e ∷ es) sorted firsts =
    let later = rises e es sorted firsts in
    (page_rises 64 0 e.0 e.1 (listing es) later.0 later.1).1

-- ---- which names they are

-- a name of the page is listed where it has a mark
listed_here : (n k j : ℕ) (first : Name) (g : Page) (q : Name)
    → q ≡ named_by first.source (first.id + j)
    → k ≤ j
    → j < k + n
    → list_any (eq_by_cmp name_cmp q) (page_names n k first g) ≡ is_some (page_mark g j)
unfolding page_names
listed_here zero k j first g q is from to = absurd (omega (arith, from, to))
listed_here (suc n) k j first g q is from to =
    let s : ℕ = first.source in
    let names : List Name = page_names n (suc k) first g in
    let this : Name = named_by s (first.id + k) in
    let source : q.source ≡ s = ap (λ (x : Name). x.source) is in
    let id : q.id ≡ first.id + j = ap (λ (x : Name). x.id) is in
    let tied = keyed.same_or_not name_cmp_total name_cmp-IsAntisymmetric q this in
    elim (eqb_tells j k) [
      | inl t ↦
          let found : eq_by_cmp name_cmp q this ≡ true =
          elim tied [
            | inl w ↦ w.0
            | inr w ↦ absurd (w.1 (is ∙ ap (λ (x : ℕ). named_by s (first.id + x)) t.1))
          ] in
          elim (is_some (page_mark g k)) as
          (λ b. list_any (eq_by_cmp name_cmp q) (if b then this ∷ names else names) ≡ b) [
            | true ↦ ap (λ (b : Bool). b || list_any (eq_by_cmp name_cmp q) names) found
            | false ↦ outside s (first.id + suc k) names q source (omega (arith, id, t.1))
                (page_from n (suc k) first g)
          ]
          ∙ ap (λ (x : ℕ). is_some (page_mark g x)) (sym t.1)
      | inr t ↦
          let later : list_any (eq_by_cmp name_cmp q) names ≡ is_some (page_mark g j) =
          listed_here n (suc k) j first g q is (omega (arith, from, t.1)) (omega (arith, to)) in
          let passed : eq_by_cmp name_cmp q this ≡ false =
          elim tied [
            | inl w ↦ absurd (t.1 (omega (arith, id, ap (λ (x : Name). x.id) w.1)))
            | inr w ↦ w.0
          ] in
          elim (is_some (page_mark g k)) as
          (λ b. list_any (eq_by_cmp name_cmp q) (if b then this ∷ names else names)
          ≡ is_some (page_mark g j)) [
            | true ↦ ap (λ (b : Bool). b || list_any (eq_by_cmp name_cmp q) names) passed ∙ later
            | false ↦ later
          ]
    ]

-- a name of another page isn't
listed_elsewhere : (n k : ℕ) (first : Name) (g : Page) (q : Name)
    → k + n ≤ 64
    → IsFirst first
    → page_first q ≢ first
    → list_any (eq_by_cmp name_cmp q) (page_names n k first g) ≡ false
unfolding page_names
listed_elsewhere zero k first g q within is other = refl
listed_elsewhere (suc n) k first g q within is other =
    let names : List Name = page_names n (suc k) first g in
    let this : Name = named_by first.source (first.id + k) in
    let begins : (first.id + k) / 64 * 64 ≡ first.id = omega (arith, is, within) in
    let later : list_any (eq_by_cmp name_cmp q) names ≡ false =
    listed_elsewhere n (suc k) first g q (omega (arith, within)) is other in
    let passed : eq_by_cmp name_cmp q this ≡ false =
    elim (keyed.same_or_not name_cmp_total name_cmp-IsAntisymmetric q this) [
      | inl w ↦ absurd (other (ap page_first w.1 ∙ ap (λ (x : ℕ). named_by first.source x) begins))
      | inr w ↦ w.0
    ] in
    elim (is_some (page_mark g k)) as
    (λ b. list_any (eq_by_cmp name_cmp q) (if b then this ∷ names else names) ≡ false) [
      | true ↦ ap (λ (b : Bool). b || list_any (eq_by_cmp name_cmp q) names) passed ∙ later
      | false ↦ later
    ]

-- so each name is listed where it has a mark
listed : (es : List (Name × Page)) (q : Name)
    → IsStrictlySortedBy name_cmp (keys_of es)
    → AllFirst es
    → is_some (mark_at es q) ≡ list_any (eq_by_cmp name_cmp q) (listing es)
unfolding IsStrictlySortedBy listing
listed [] q sorted firsts = refl
listed (e ∷ es) q sorted firsts =
    let page : List Name = page_names 64 0 e.0 e.1 in
    let in_page : Bool = list_any (eq_by_cmp name_cmp q) page in
    let split : list_any (eq_by_cmp name_cmp q) (page ++ listing es)
    ≡ (in_page || list_any (eq_by_cmp name_cmp q) (listing es)) =
    list_any-append (eq_by_cmp name_cmp q) page (listing es) in
    elim (keyed.same_or_not name_cmp_total name_cmp-IsAntisymmetric (page_first q) e.0) [
      | inl w ↦
          let at : q ≡ named_by e.0.source (e.0.id + q.id % 64) = on_page q e.0 w.1 in
          let source : q.source ≡ e.0.source = ap (λ (x : Name). x.source) at in
          let id : q.id ≡ e.0.id + q.id % 64 = ap (λ (x : Name). x.id) at in
          let behind : list_any (eq_by_cmp name_cmp q) (listing es) ≡ false =
          outside e.0.source (e.0.id + 64) (listing es) q source (omega arith)
          (rises e es sorted firsts).0 in
          ap (λ b. is_some (mark_on (cond b (Some e.1) (page_in es (page_first q))) (q.id % 64)))
          w.0
          ∙ sym (listed_here 64 0 (q.id % 64) e.0 e.1 q at (omega arith) (omega arith))
          ∙ sym (or_false in_page)
          ∙ ap (λ (b : Bool). in_page || b) (sym behind)
          ∙ sym split
      | inr w ↦
          ap (λ b. is_some (mark_on (cond b (Some e.1) (page_in es (page_first q))) (q.id % 64)))
          w.0
          ∙ listed es q sorted.1 firsts.1
          ∙ ap (λ (b : Bool). b || list_any (eq_by_cmp name_cmp q) (listing es))
          (sym (listed_elsewhere 64 0 e.0 e.1 q (omega arith) firsts.0 w.1))
          ∙ sym split
    ]

-- what pages list are the keys of their marks
pub listing_keys : (es : List (Name × Page))
    → IsStrictlySortedBy name_cmp (keys_of es)
    → AllFirst es
    → keys (marks es) ≡ listing es
listing_keys es sorted firsts =
    keys_are (marks es) (listing es) (listing_rises es sorted firsts)
    (λ q. ap is_some (get-marks es q) ∙ listed es q sorted firsts)

-- ---- one place of a page

step : (k : ℕ) (first : Name) (g : Page) (b : Bool)
    → k < 64
    → is_some (page_mark g k) ≡ b
    → page_names (64 - k) k first g
    ≡ (if b then named_by first.source (first.id + k) ∷
    page_names (64 - (k + 1)) (k + 1) first g else page_names (64 - (k + 1)) (k + 1) first g)
unfolding page_names
step k first g b within is =
    let more : 64 - k ≡ suc (64 - suc k) = omega arith in
    let this : Name = named_by first.source (first.id + k) in
    ap (λ (n : ℕ). page_names n k first g) more
    ∙ ap (λ (t : Bool). if t then this ∷ page_names (64 - suc k) (suc k) first g else page_names
    (64 - suc k) (suc k) first g) is
    ∙ ap (λ (n : ℕ). if b then this ∷ page_names (64 - n) n first g else page_names
    (64 - n) n first g) (sym (add-one k))

-- a name in use is the next one
pub page_taken : (k : ℕ) (first : Name) (g : Page)
    → k < 64
    → is_some (page_mark g k) ≡ true
    → page_names (64 - k) k first g
    ≡ named_by first.source (first.id + k) ∷ page_names (64 - (k + 1)) (k + 1) first g
page_taken k first g within is = step k first g true within is

-- a free name is left out
pub page_skipped : (k : ℕ) (first : Name) (g : Page)
    → k < 64
    → is_some (page_mark g k) ≡ false
    → page_names (64 - k) k first g ≡ page_names (64 - (k + 1)) (k + 1) first g
page_skipped k first g within is = step k first g false within is

-- and then none is left
pub page_done : (k : ℕ) (first : Name) (g : Page) → 64 ≤ k → page_names (64 - k) k first g ≡ []
unfolding page_names
page_done k first g beyond =
    let none : 64 - k ≡ 0 = omega arith in ap (λ (n : ℕ). page_names n k first g) none

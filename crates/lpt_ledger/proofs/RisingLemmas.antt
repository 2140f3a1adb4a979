-- Names that rise in their order: what is among them, and that they are a ledger's.
use Rattle.std.proofs.Common.{◌≡◌, ◌∙◌, refl, sym, ap, subst, inl, inr, ◌⊎◌, ℕ, ◌+◌, ◌<◌, ◌≤◌, ◌==◌, Bool, true, false, cond, ◌&&◌, ◌||◌, T, List, [], ◌∷◌, map as mapped, Some, None, is_some, Less, Equal, Greater, arith}
use Rattle.std.specs.Cmp.{ranked, nat_cmp_total, tied_itself}
use Rattle.std.specs.declared.cmp.Ordering.{Ordering}
use Rattle.std.specs.FinMap.{get, entries, entries_sorted, keys, from_sorted, entries-from_sorted, get-from_sorted, contains_key-keys}
use Rattle.std.specs.FinMap.Entries.{below_all, find, is_sorted}
use Rattle.std.specs.List.{list_any}
use Rattle.std.specs.Ordering.{eq_by_cmp, is_lt, nat_cmp, ordering_then}
use Rattle.lpt_packet.proofs.BoolLemmas.{lt_true}
use Rattle.lpt_packet.proofs.KeyLemmas as keyed
use Rattle.lpt_packet.proofs.NameLemmas.{name_cmp_total, name_cmp-IsAntisymmetric}
use Rattle.lpt_packet.specs.Names.{Name, name_cmp}
use Rattle.lpt_ledger.specs.Marks.{Mark, Shut, Marks}
use Rattle.lpt_ledger.proofs.MarksLemmas.{same_marks}

-- ---- where names stand

-- a source and an identifier stand before others, or are the same
abbrev pub IsBy : (s i t j : ℕ) → Type 0
IsBy s i t j = (s < t) ⊎ ((s ≡ t) × (i ≤ j))

pub by_chain : (s i t j u k : ℕ) → IsBy s i t j → IsBy t j u k → IsBy s i u k
by_chain s i t j u k f g = elim f [
  | inl p ↦ elim g [ inl q ↦ inl (omega (arith, p, q)) | inr q ↦ inl (omega (arith, p, q.0)) ]
  | inr p ↦ elim g [
    | inl q ↦ inl (omega (arith, p.0, q))
    | inr q ↦ inr
        (omega (arith, p.0, q.0), omega (arith, p.1, q.1))
  ]
]

-- all of these names stand from there on
abbrev pub AllFrom : ℕ → ℕ → List Name → Type 0
AllFrom s i [] = Unit {0}
AllFrom s i (n ∷ ns) = IsBy s i n.source n.id × AllFrom s i ns

pub all_from : (s i t j : ℕ) (ns : List Name) → IsBy s i t j → AllFrom t j ns → AllFrom s i ns
all_from s i t j [] by h = tt
all_from s i t j (n ∷ ns) by h = (by_chain s i t j n.source n.id by h.0, all_from s i t j ns by h.1)

-- each of these names stands before those behind it
abbrev pub Rise : List Name → Type 0
Rise [] = Unit {0}
Rise (n ∷ ns) = AllFrom n.source (n.id + 1) ns × Rise ns

-- ---- the order of names

nat_less : (a b : ℕ) → a < b → nat_cmp a b ≡ Less
nat_less a b h = ap (λ (t : Bool). cond t Less (cond (a == b) Equal Greater)) (lt_true a b h)

nat_equal : (a b : ℕ) → a ≡ b → nat_cmp a b ≡ Equal
nat_equal a b h = ap (nat_cmp a) (sym h) ∙ tied_itself nat_cmp_total a

-- what stands behind a name is greater
pub less_when : (x n : Name) → IsBy x.source (x.id + 1) n.source n.id → name_cmp x n ≡ Less
less_when x n h = elim h [
  | inl p ↦ ap (λ (r : Ordering). ordering_then r (nat_cmp x.id n.id))
      (nat_less x.source n.source p)
  | inr p ↦
      ap (λ (r : Ordering). ordering_then r (nat_cmp x.id n.id)) (nat_equal x.source n.source p.0)
      ∙ nat_less x.id n.id (omega (arith, p.1))
]

-- and a greater name stands behind it
pub less_says : (x n : Name) → name_cmp x n ≡ Less → IsBy x.source (x.id + 1) n.source n.id
less_says x n h = go (nat_cmp x.source n.source) refl h where
  go : (r : Ordering)
      → nat_cmp x.source n.source ≡ r
      → ordering_then r (nat_cmp x.id n.id) ≡ Less
      → IsBy x.source (x.id + 1) n.source n.id
  go Less e t = inl (ranked x.source n.source Less (sym e))
  go Equal e t =
      let below : x.id < n.id = ranked x.id n.id Less (sym t) in
      inr (ranked x.source n.source Equal (sym e), omega arith)
  go Greater e t = absurd cc

-- ---- what isn't among them

-- a name is not one of those that all stand behind it
pub outside : (s i : ℕ) (ns : List Name) (q : Name)
    → q.source ≡ s
    → q.id < i
    → AllFrom s i ns
    → list_any (eq_by_cmp name_cmp q) ns ≡ false
outside s i [] q same below h = refl
outside s i (n ∷ ns) q same below h =
    let other : eq_by_cmp name_cmp q n ≡ false =
    elim (keyed.same_or_not name_cmp_total name_cmp-IsAntisymmetric q n) [
      | inl w ↦ absurd (elim h.0 [
        | inl p ↦ omega (arith, p, same, ap (λ (x : Name). x.source) w.1)
        | inr p ↦ omega (arith, p.1, below, ap (λ (x : Name). x.id) w.1)
      ])
      | inr w ↦ w.0
    ] in
    ap (λ (b : Bool). b || list_any (eq_by_cmp name_cmp q) ns) other
    ∙ outside s i ns q same below h.1

-- ---- the keys of a ledger's marks

-- these names with marks
abbrev shut_all : List Name → List (Name × Mark)
shut_all ns = mapped (λ (n : Name). (n, Shut)) ns

names_shut : (ns : List Name) → mapped (λ (e : Name × Mark). e.0) (shut_all ns) ≡ ns
names_shut [] = refl
names_shut (n ∷ ns) = ap (λ (xs : List Name). n ∷ xs) (names_shut ns)

find-shut_all : (q : Name) (ns : List Name)
    → find name_cmp q (shut_all ns) ≡ cond (list_any (eq_by_cmp name_cmp q) ns) (Some Shut) None
find-shut_all q [] = refl
find-shut_all q (n ∷ ns) =
    elim (eq_by_cmp name_cmp q n) as (λ b. cond b (Some Shut) (find name_cmp q (shut_all ns))
    ≡ cond (b || list_any (eq_by_cmp name_cmp q) ns) (Some Shut) None)
    [ true ↦ refl | false ↦ find-shut_all q ns ]

below_by : (x : Name) (ns : List Name) → AllFrom x.source (x.id + 1) ns
    → below_all name_cmp x (shut_all ns) ≡ true
below_by x [] h = refl
below_by x (n ∷ ns) h = λ i. is_lt (less_when x n h.0 i) && below_by x ns h.1 i

sorted_by : (ns : List Name) → Rise ns → is_sorted name_cmp (shut_all ns) ≡ true
sorted_by [] h = refl
sorted_by (n ∷ ns) h = λ i. below_by n ns h.0 i && sorted_by ns h.1 i

below_same : (x : Name) (es : List (Name × Mark))
    → below_all name_cmp x (shut_all (mapped (λ (e : Name × Mark). e.0) es))
    ≡ below_all name_cmp x es
below_same x [] = refl
below_same x (e ∷ es) = ap (λ (b : Bool). is_lt (name_cmp x e.0) && b) (below_same x es)

sorted_same : (es : List (Name × Mark))
    → is_sorted name_cmp (shut_all (mapped (λ (e : Name × Mark). e.0) es)) ≡ is_sorted name_cmp es
sorted_same [] = refl
sorted_same (e ∷ es) = λ i. below_same e.0 es i && sorted_same es i

-- names that rise, and are those with a mark, are the keys
pub keys_are : (m : Marks) (ns : List Name)
    → Rise ns
    → ((q : Name) → is_some (get m q) ≡ list_any (eq_by_cmp name_cmp q) ns)
    → keys m ≡ ns
keys_are m ns rise same =
    let ks : List Name = keys m in
    let one : T (is_sorted name_cmp (shut_all ks)) = subst T (sym (sorted_same (entries m)))
    (entries_sorted m) in
    let two : T (is_sorted name_cmp (shut_all ns)) = subst T (sym (sorted_by ns rise)) tt in
    let a : Marks = from_sorted (shut_all ks) in
    let b : Marks = from_sorted (shut_all ns) in
    let equal : a ≡ b = same_marks a b (λ q.
    get-from_sorted name_cmp (shut_all ks) q one
    ∙ find-shut_all q ks
    ∙ ap (λ (t : Bool). cond t (Some Shut) None) (sym (contains_key-keys m q) ∙ same q)
    ∙ sym (find-shut_all q ns)
    ∙ sym (get-from_sorted name_cmp (shut_all ns) q two)) in
    sym (names_shut ks)
    ∙ ap (mapped (λ (e : Name × Mark). e.0)) (sym (entries-from_sorted name_cmp (shut_all ks) one)
    ∙ ap entries equal ∙ entries-from_sorted name_cmp (shut_all ns) two)
    ∙ names_shut ns

-- and the keys rise
keys_from : (x : Name) (es : List (Name × Mark))
    → T (below_all name_cmp x es)
    → AllFrom x.source (x.id + 1) (mapped (λ (e : Name × Mark). e.0) es)
keys_from x [] h = tt
keys_from x (e ∷ es) h = (
  less_says x e.0
      (keyed.less (name_cmp x e.0)
      (keyed.first (is_lt (name_cmp x e.0)) (below_all name_cmp x es) h)),
  keys_from x es (keyed.second (is_lt (name_cmp x e.0)) (below_all name_cmp x es) h),
)

sorted_rise : (es : List (Name × Mark))
    → T (is_sorted name_cmp es)
    → Rise (mapped (λ (e : Name × Mark). e.0) es)
sorted_rise [] h = tt
sorted_rise (e ∷ es) h = (
  keys_from e.0 es (keyed.first (below_all name_cmp e.0 es) (is_sorted name_cmp es) h),
  sorted_rise es (keyed.second (below_all name_cmp e.0 es) (is_sorted name_cmp es) h),
)

pub keys_rise : (m : Marks) → Rise (keys m)
keys_rise m = sorted_rise (entries m) (entries_sorted m)

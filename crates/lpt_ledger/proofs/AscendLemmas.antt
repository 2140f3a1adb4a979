-- The runs of a ledger ascend, and runs that ascend are those of the ledger that they close.
use Rattle.std.proofs.Common.{◌≡◌, ◌∙◌, refl, sym, ap, subst, inl, inr, ◌⊎◌, ℕ, zero, suc, ◌+◌, ◌-◌, ◌<◌, ◌≤◌, ◌==◌, nat_lt, Bool, true, false, cond, ◌&&◌, ◌||◌, if◌then◌else◌, List, [], ◌∷◌, ◌++◌, Option, Some, None, is_some, arith}
use Rattle.std.specs.FinMap.{keys, empty, get-empty}
use Rattle.std.specs.List.{list_any}
use Rattle.std.specs.Ordering.{eq_by_cmp}
use Rattle.lpt_packet.proofs.BoolLemmas.{and_both, and_left, and_right, le_true, lt_true, or_left, or_right, true_le, true_lt}
use Rattle.lpt_packet.proofs.NameLemmas.{same_name-refl, same_name-true}
use Rattle.lpt_packet.proofs.Readings.{eq_true, not_lt, true_eq}
use Rattle.lpt_packet.specs.Names.{Name, name_cmp, named_by}
use Rattle.lpt_ledger.specs.declared.run.NameRun.{NameRun}
use Rattle.lpt_ledger.specs.Marks.{Shut, Marks}
use Rattle.lpt_ledger.specs.Runs.{ascend, ascend_behind, closed_by, has_name, is_behind, is_next, lone, longer, names_in, names_of, runs_from, runs_of, runs_of_names, some_names, stands}
use Rattle.lpt_ledger.proofs.RunsLemmas.{get-shut_names}
use Rattle.lpt_ledger.proofs.RisingLemmas.{IsBy, AllFrom, Rise, all_from, keys_are, keys_rise}

-- ---- the runs of names that rise ascend

-- a run behind another in the words of numbers
abbrev pub Behind : NameRun → NameRun → Type 0
Behind r s = (r.source < s.source) ⊎ ((r.source ≡ s.source) × (r.last + 1 < s.first))

behind_true : (r s : NameRun) → Behind r s → is_behind r s ≡ true
behind_true r s h = elim h [
  | inl p ↦ or_left (nat_lt r.source s.source)
      ((r.source == s.source) && nat_lt (r.last + 1) s.first) (lt_true r.source s.source p)
  | inr p ↦ or_right (nat_lt r.source s.source)
      ((r.source == s.source) && nat_lt (r.last + 1) s.first)
      (and_both (r.source == s.source) (nat_lt (r.last + 1) s.first) (eq_true r.source s.source p.0)
      (lt_true (r.last + 1) s.first p.1))
]

one_of : (a b : Bool) → (a || b) ≡ true → (a ≡ true) ⊎ (b ≡ true)
one_of true b h = inl refl
one_of false b h = inr h

pub behind_says : (r s : NameRun) → is_behind r s ≡ true → Behind r s
behind_says r s h =
    elim (one_of (nat_lt r.source s.source)
    ((r.source == s.source) && nat_lt (r.last + 1) s.first) h) [
      | inl p ↦ inl (true_lt r.source s.source p)
      | inr p ↦ inr (
        true_eq r.source s.source (and_left (r.source == s.source) (nat_lt (r.last + 1) s.first) p),
        true_lt (r.last + 1) s.first
            (and_right (r.source == s.source) (nat_lt (r.last + 1) s.first) p),
      )
    ]

-- a name that stands behind a run and isn't the next one begins a run behind it
begins_behind : (r : NameRun) (n : Name)
    → IsBy r.source (r.last + 1) n.source n.id
    → is_next r n ≡ false
    → Behind r (lone n)
begins_behind r n by not_next = elim by [
  | inl p ↦ inl p
  | inr p ↦ inr (p.0, go (nat_lt (r.last + 1) n.id) refl p.0 p.1)
] where
  go : (b : Bool) → nat_lt (r.last + 1) n.id ≡ b → r.source ≡ n.source → r.last + 1 ≤ n.id
      → r.last + 1 < n.id
  go true e same from = true_lt (r.last + 1) n.id e
  go false e same from =
      let is : r.last + 1 ≡ n.id = omega (arith, from, not_lt (r.last + 1) n.id e) in
      let next : is_next r n
      ≡ true = and_both (r.source == n.source) (r.last + 1 == n.id)
      (eq_true r.source n.source same) (eq_true (r.last + 1) n.id is) in
      let no : true ≡ false = sym next ∙ not_next in
      absurd cc

-- the names behind the next one of a run stand behind that run with it
next_from : (r : NameRun) (n : Name) (ns : List Name)
    → is_next r n ≡ true
    → AllFrom n.source (n.id + 1) ns
    → AllFrom r.source (r.last + 1 + 1) ns
next_from r n ns e above =
    let is : named_by r.source (r.last + 1)
    ≡ n = same_name-true (named_by r.source (r.last + 1)) n e in
    subst (λ (x : Name). AllFrom x.source (x.id + 1) ns) (sym is) above

-- the runs that a run and these names make ascend, where it stands behind the one before it
ascends : (ns : List Name) (p : Option NameRun) (r : NameRun)
    → ((k : ℕ) → stands p (record { source = r.source; first = r.first; last = k }) ≡ true)
    → r.first ≤ r.last
    → AllFrom r.source (r.last + 1) ns
    → Rise ns
    → ascend_behind p (runs_from r ns) ≡ true
unfolding ascend_behind runs_from
ascends [] p r behind some above rise =
    and_both (has_name r) (stands p r && true) (le_true r.first r.last some)
    (and_both (stands p r) true (behind r.last) refl)
ascends (n ∷ ns) p r behind some above rise =
    elim (is_next r n) as (λ b. is_next r n ≡ b
    → ascend_behind p (if b then runs_from (longer r) ns else r ∷ runs_from (lone n) ns)
    ≡ true) [
      | true ↦ λ e. ascends ns p (longer r) behind (omega (arith, some))
          (next_from r n ns e rise.0) rise.1
      | false ↦ λ e.
          let later : ascend_behind (Some r) (runs_from (lone n) ns) ≡ true =
          ascends ns (Some r) (lone n)
          (λ k. behind_true r (record { source = n.source; first = n.id; last = k })
          (begins_behind r n above.0 e))
          (omega arith) rise.0 rise.1 in
          and_both (has_name r) (stands p r && ascend_behind (Some r) (runs_from (lone n) ns))
          (le_true r.first r.last some)
          (and_both (stands p r) (ascend_behind (Some r) (runs_from (lone n) ns))
          (behind r.last) later)
    ] refl

rising_ascends : (ns : List Name) → Rise ns → ascend (runs_of_names ns) ≡ true
unfolding ascend_behind runs_of_names
rising_ascends [] rise = refl
rising_ascends (n ∷ ns) rise = ascends ns None (lone n) (λ k. refl) (omega arith) rise.0 rise.1

-- the runs of a ledger ascend
pub runs_ascend : (m : Marks) → ascend (runs_of m) ≡ true
runs_ascend m = rising_ascends (keys m) (keys_rise m)

-- ---- runs that ascend are made again of their names

-- names that follow a run make it longer
taken : (n : ℕ) (r : NameRun) (rest : List Name)
    → runs_from r (some_names n r.source (r.last + 1) ++ rest)
    ≡ runs_from (record r { last = r.last + n }) rest
unfolding runs_from some_names
taken zero r rest =
    let same : r.last ≡ r.last + 0 = omega arith in
    ap (λ (k : ℕ). runs_from (record { source = r.source; first = r.first; last = k }) rest) same
taken (suc n) r rest =
    let same : r.last + 1 + n ≡ r.last + suc n = omega arith in
    let ns : List Name = some_names n r.source (r.last + 1 + 1) ++ rest in
    ap (λ (b : Bool). if b then runs_from (longer r) ns else r ∷
    runs_from (lone (named_by r.source (r.last + 1))) ns)
    (same_name-refl (named_by r.source (r.last + 1)))
    ∙ taken n (longer r) rest
    ∙ ap (λ (k : ℕ). runs_from (record { source = r.source; first = r.first; last = k }) rest) same

-- a run's names are its first one, and those that follow it
names_split : (r : NameRun) → r.first ≤ r.last
    → names_of r ≡ named_by r.source r.first ∷ some_names (r.last - r.first) r.source (r.first + 1)
unfolding some_names
names_split r some =
    let more : r.last + 1 - r.first ≡ suc (r.last - r.first) = omega arith in
    ap (λ (k : ℕ). some_names k r.source r.first) more

-- so a run's names, and others behind them, make it and what those make of it
again : (r : NameRun) (rest : List Name) → r.first ≤ r.last
    → runs_of_names (names_of r ++ rest) ≡ runs_from r rest
unfolding runs_of_names
again r rest some =
    let one : NameRun = lone (named_by r.source r.first) in
    let last : r.first + (r.last - r.first) ≡ r.last = omega arith in
    ap (λ (ns : List Name). runs_of_names (ns ++ rest)) (names_split r some)
    ∙ taken (r.last - r.first) one rest
    ∙ ap (λ (k : ℕ). runs_from (record { source = r.source; first = r.first; last = k }) rest) last

-- a run that stands behind another begins anew
apart : (r s : NameRun) (rest : List Name)
    → Behind r s
    → s.first ≤ s.last
    → runs_from r (names_of s ++ rest) ≡ r ∷ runs_of_names (names_of s ++ rest)
unfolding runs_from runs_of_names
apart r s rest behind some =
    let n : Name = named_by s.source s.first in
    let more : List Name = some_names (s.last - s.first) s.source (s.first + 1) ++ rest in
    let split : names_of s ++ rest
    ≡ n ∷ more = ap (λ (ns : List Name). ns ++ rest) (names_split s some) in
    ap (runs_from r) split
    ∙ ap (λ (b : Bool). if b then runs_from (longer r) more else r ∷ runs_from (lone n) more)
    (not_next (is_next r n) refl)
    ∙ ap (λ (ns : List Name). r ∷ runs_of_names ns) (sym split) where
      not_next : (b : Bool) → is_next r (named_by s.source s.first) ≡ b
          → is_next r (named_by s.source s.first) ≡ false
      not_next false e = e
      not_next true e =
          let is : named_by r.source (r.last + 1)
          ≡ named_by s.source s.first = same_name-true (named_by r.source (r.last + 1))
          (named_by s.source s.first) e in
          absurd (elim behind [
            | inl p ↦ omega (arith, p, ap (λ (x : Name). x.source) is)
            | inr p ↦ omega (arith, p.1, ap (λ (x : Name). x.id) is)
          ])

-- the parts of what ascends
named_first : (p : Option NameRun) (r : NameRun) (rs : List NameRun) → ascend_behind p (r ∷ rs)
    ≡ true
    → r.first ≤ r.last
unfolding ascend_behind
named_first p r rs h =
    true_le r.first r.last (and_left (has_name r) (stands p r && ascend_behind (Some r) rs) h)

behind_first : (r s : NameRun) (rs : List NameRun) → ascend_behind (Some r) (s ∷ rs) ≡ true
    → Behind r s
unfolding ascend_behind
behind_first r s rs h =
    behind_says r s (and_left (is_behind r s) (ascend_behind (Some s) rs)
    (and_right (has_name s) (is_behind r s && ascend_behind (Some s) rs) h))

ascend_rest : (p : Option NameRun) (r : NameRun) (rs : List NameRun) → ascend_behind p (r ∷ rs)
    ≡ true
    → ascend_behind (Some r) rs ≡ true
unfolding ascend_behind
ascend_rest p r rs h =
    and_right (stands p r) (ascend_behind (Some r) rs)
    (and_right (has_name r) (stands p r && ascend_behind (Some r) rs) h)

made_again : (r : NameRun) (rs : List NameRun) → ascend_behind (Some r) rs ≡ true
    → runs_from r (names_in rs) ≡ r ∷ rs
unfolding runs_from names_in
made_again r [] h = refl
made_again r (s ∷ rs) h =
    let some : s.first ≤ s.last = named_first (Some r) s rs h in
    apart r s (names_in rs) (behind_first r s rs h) some
    ∙ ap (λ (xs : List NameRun). r ∷ xs) (again s (names_in rs) some
    ∙ made_again s rs (ascend_rest (Some r) s rs h))

runs_again : (rs : List NameRun) → ascend rs ≡ true → runs_of_names (names_in rs) ≡ rs
unfolding runs_of_names names_in
runs_again [] h = refl
runs_again (r ∷ rs) h = again r (names_in rs) (named_first None r rs h)
    ∙ made_again r rs (ascend_rest None r rs h)

-- ---- their names rise

-- n names before others
some_rise : (n s i : ℕ) (rest : List Name)
    → AllFrom s (i + n) rest
    → Rise rest
    → AllFrom s i (some_names n s i ++ rest) × Rise (some_names n s i ++ rest)
unfolding some_names
some_rise zero s i rest above rise =
    (all_from s i s (i + 0) rest (inr (refl, omega arith)) above, rise)
some_rise (suc n) s i rest above rise =
    let names : List Name = some_names n s (i + 1) ++ rest in
    let more : AllFrom s (i + 1) names × Rise names =
    some_rise n s (i + 1) rest
    (all_from s (i + 1 + n) s (i + suc n) rest (inr (refl, omega arith)) above) rise in
    ((inr (refl, omega arith), all_from s i s (i + 1) names (inr (refl, omega arith)) more.0), more)

by_behind : (r s : NameRun) → Behind r s → IsBy r.source (r.last + 1) s.source s.first
by_behind r s h = elim h [ inl p ↦ inl p | inr p ↦ inr (p.0, omega (arith, p.1)) ]

run_rises : (r : NameRun) (rest : List Name)
    → r.first ≤ r.last
    → AllFrom r.source (r.last + 1) rest
    → Rise rest
    → AllFrom r.source r.first (names_of r ++ rest) × Rise (names_of r ++ rest)
run_rises r rest some above rise =
    some_rise (r.last + 1 - r.first) r.source r.first rest
    (all_from r.source (r.first + (r.last + 1 - r.first)) r.source (r.last + 1) rest
    (inr (refl, omega arith)) above) rise

names_rise : (p : Option NameRun) (r : NameRun) (rs : List NameRun)
    → ascend_behind p (r ∷ rs) ≡ true
    → AllFrom r.source r.first (names_in (r ∷ rs)) × Rise (names_in (r ∷ rs))
unfolding names_in
names_rise p r [] h = run_rises r [] (named_first p r [] h) tt tt
names_rise p r (s ∷ rs) h =
    let rest : ascend_behind (Some r) (s ∷ rs) ≡ true = ascend_rest p r (s ∷ rs) h in
    let later : AllFrom s.source s.first (names_in (s ∷ rs))
    × Rise (names_in (s ∷ rs)) = names_rise (Some r) s rs rest in
    run_rises r (names_in (s ∷ rs)) (named_first p r (s ∷ rs) h)
    (all_from r.source (r.last + 1) s.source s.first (names_in (s ∷ rs))
    (by_behind r s (behind_first r s rs rest)) later.0) later.1

all_rise : (rs : List NameRun) → ascend rs ≡ true → Rise (names_in rs)
unfolding names_in
all_rise [] h = tt
all_rise (r ∷ rs) h = (names_rise None r rs h).1

-- ---- and they are those of the ledger that they close

has_mark : (b : Bool) → is_some (cond b (Some Shut) None) ≡ b
has_mark true = refl
has_mark false = refl

pub closed_keys : (rs : List NameRun) → ascend rs ≡ true → keys (closed_by rs) ≡ names_in rs
closed_keys rs h =
    keys_are (closed_by rs) (names_in rs) (all_rise rs h) (λ q.
    ap is_some (get-shut_names (names_in rs) empty q
    ∙ ap (cond (list_any (eq_by_cmp name_cmp q) (names_in rs)) (Some Shut)) (get-empty name_cmp q))
    ∙ has_mark (list_any (eq_by_cmp name_cmp q) (names_in rs)))

-- runs that ascend are those of the ledger that they close
pub runs_of-closed_by : (rs : List NameRun) → ascend rs ≡ true → runs_of (closed_by rs) ≡ rs
runs_of-closed_by rs h = ap runs_of_names (closed_keys rs h) ∙ runs_again rs h

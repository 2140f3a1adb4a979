-- Runs have the names that they were made of, and closing them closes those.
use Rattle.std.proofs.Common.{◌≡◌, ◌∙◌, refl, sym, ap, ℕ, zero, suc, ◌+◌, ◌-◌, ◌≤◌, Bool, true, false, cond, ◌||◌, if◌then◌else◌, List, [], ◌∷◌, ◌++◌, length, Option, Some, None, is_some, append_assoc, arith}
use Rattle.std.specs.Option.{IfNone, IfSome}
use Rattle.std.specs.FinMap.{get, insert, entries, keys, len, empty, get-insert, get-empty, contains_key-keys, len-entries}
use Rattle.std.specs.List.{list_any}
use Rattle.std.specs.Ordering.{eq_by_cmp}
use Rattle.std.proofs.lemmas.List.{length-map}
use Rattle.lpt_packet.proofs.NameLemmas.{name_cmp_total, same_name-true}
use Rattle.lpt_packet.specs.Names.{Name, name_cmp, named_by}
use Rattle.lpt_ledger.specs.declared.run.NameRun.{NameRun}
use Rattle.lpt_ledger.specs.Marks.{Mark, Shut, Marks, shut_mark, all_closed}
use Rattle.lpt_ledger.specs.Runs.{closed_by, is_next, lone, longer, names_in, names_of, runs_from, runs_of, runs_of_names, shut_names, some_names}
use Rattle.lpt_ledger.specs.RunsInside.{runs_left}
use Rattle.lpt_ledger.proofs.ClosingLemmas.{get-all_closed}
use Rattle.lpt_ledger.proofs.MarksLemmas.{same_marks}

-- ---- name by name

-- what is left behind the first name of all
pub ahead_is : (o : Option Name) (all rest : List Name)
    → IfSome o (λ n. all ≡ n ∷ rest)
    → IfNone o (all ≡ [])
    → runs_left o rest ≡ runs_of_names all
unfolding runs_of_names
ahead_is None all rest some none = ap (λ (ns : List Name). runs_of_names ns) (sym none)
ahead_is (Some n) all rest some none = ap (λ (ns : List Name). runs_of_names ns) (sym some)

-- a name that isn't the next one begins another run
pub run_ends : (r : NameRun) (n : Name) (ns all : List Name)
    → is_next r n ≡ false
    → all ≡ n ∷ ns
    → runs_from r all ≡ r ∷ runs_of_names (n ∷ ns)
unfolding runs_from runs_of_names
run_ends r n ns all other is =
    ap (λ (xs : List Name). runs_from r xs) is
    ∙ ap (λ (b : Bool). if b then runs_from (longer r) ns else r ∷ runs_from (lone n) ns) other

-- the next one lengthens it
pub run_goes_on : (r : NameRun) (n : Name) (ns all : List Name)
    → is_next r n ≡ true
    → all ≡ n ∷ ns
    → runs_from r all ≡ runs_from (record r { last = n.id }) ns
unfolding runs_from
run_goes_on r n ns all next is =
    let same : r.last + 1 ≡ n.id =
    ap (λ (m : Name). m.id) (same_name-true (named_by r.source (r.last + 1)) n next) in
    ap (λ (xs : List Name). runs_from r xs) is
    ∙ ap (λ (b : Bool). if b then runs_from (longer r) ns else r ∷ runs_from (lone n) ns) next
    ∙ ap (λ (k : ℕ). runs_from (record r { last = k }) ns) same

-- it is the last one where no name is left
pub run_is_last : (r : NameRun) (all : List Name) → all ≡ [] → runs_from r all ≡ r ∷ []
unfolding runs_from
run_is_last r all none = ap (λ (xs : List Name). runs_from r xs) none

-- and the first of names begins with the first of them
pub run_begins : (n : Name) (ns : List Name) → runs_from (lone n) ns ≡ runs_of_names (n ∷ ns)
unfolding runs_of_names
run_begins n ns = refl

-- ---- the names of runs

-- one more name stands behind the others
some_names-last : (n s i : ℕ) → some_names (suc n) s i ≡ some_names n s i ++ named_by s (i + n) ∷ []
unfolding some_names
some_names-last zero s i =
    let same : i ≡ i + 0 = omega arith in ap (λ (j : ℕ). named_by s j ∷ []) same
some_names-last (suc n) s i =
    let same : i + 1 + n ≡ i + suc n = omega arith in
    ap (λ (xs : List Name). named_by s i ∷ xs)
    (some_names-last n s (i + 1) ∙ ap (λ (j : ℕ). some_names n s (i + 1) ++ named_by s j ∷ []) same)

-- the name of a run of one
names_of-lone : (n : Name) → names_of (lone n) ≡ n ∷ []
unfolding some_names
names_of-lone n =
    let one : n.id + 1 - n.id ≡ 1 = omega arith in ap (λ (k : ℕ). some_names k n.source n.id) one

-- a longer run has one name more
names_of-longer : (r : NameRun) → r.first ≤ r.last + 1
    → names_of (longer r) ≡ names_of r ++ named_by r.source (r.last + 1) ∷ []
names_of-longer r h =
    let k : ℕ = r.last + 1 - r.first in
    let more : r.last + 1 + 1 - r.first ≡ suc k = omega arith in
    let at : r.first + k ≡ r.last + 1 = omega arith in
    ap (λ (j : ℕ). some_names j r.source r.first) more
    ∙ some_names-last k r.source r.first
    ∙ ap (λ (j : ℕ). some_names k r.source r.first ++ named_by r.source j ∷ []) at

-- runs have the names that they were made of
names_in-runs_from : (ns : List Name) (r : NameRun) → r.first ≤ r.last + 1
    → names_in (runs_from r ns) ≡ names_of r ++ ns
unfolding names_in runs_from
names_in-runs_from [] r h = refl
names_in-runs_from (n ∷ ns) r h =
    elim (is_next r n) as (λ b. is_next r n ≡ b
    → names_in (if b then runs_from (longer r) ns else r ∷ runs_from (lone n) ns)
    ≡ names_of r ++ n ∷ ns) [
      | true ↦ λ e.
          names_in-runs_from ns (longer r) (omega arith)
          ∙ ap (λ (xs : List Name). xs ++ ns) (names_of-longer r h
          ∙ ap (λ (m : Name). names_of r ++ m ∷ [])
          (same_name-true (named_by r.source (r.last + 1)) n e))
          ∙ append_assoc (names_of r) (n ∷ []) ns
      | false ↦ λ e.
          ap (λ (xs : List Name). names_of r ++ xs)
          (names_in-runs_from ns (lone n) (omega arith)
          ∙ ap (λ (xs : List Name). xs ++ ns) (names_of-lone n))
    ] refl

pub names_in-runs_of_names : (ns : List Name) → names_in (runs_of_names ns) ≡ ns
unfolding names_in runs_of_names
names_in-runs_of_names [] = refl
names_in-runs_of_names (n ∷ ns) =
    names_in-runs_from ns (lone n) (omega arith)
    ∙ ap (λ (xs : List Name). xs ++ ns) (names_of-lone n)

-- ---- closed names

either : (a b : Bool) (x : Option Mark)
    → cond b (Some Shut) (cond a (Some Shut) x) ≡ cond (a || b) (Some Shut) x
either true true x = refl
either true false x = refl
either false true x = refl
either false false x = refl

-- the mark of each name once these are closed
pub get-shut_names : (ns : List Name) (m : Marks) (q : Name)
    → get (shut_names m ns) q ≡ cond (list_any (eq_by_cmp name_cmp q) ns) (Some Shut) (get m q)
unfolding shut_names
get-shut_names [] m q = refl
get-shut_names (n ∷ ns) m q =
    get-shut_names ns (insert m n Shut) q
    ∙ ap (cond (list_any (eq_by_cmp name_cmp q) ns) (Some Shut))
    (get-insert name_cmp_total m n Shut q)
    ∙ either (eq_by_cmp name_cmp q n) (list_any (eq_by_cmp name_cmp q) ns) (get m q)

-- names closed one list behind the other
pub shut_names-append : (m : Marks) (xs ys : List Name)
    → shut_names m (xs ++ ys) ≡ shut_names (shut_names m xs) ys
unfolding shut_names
shut_names-append m [] ys = refl
shut_names-append m (x ∷ xs) ys = shut_names-append (insert m x Shut) xs ys

-- no name of a run
pub shut_names-none : (m : Marks) (s i n : ℕ) → n ≡ 0 → m ≡ shut_names m (some_names n s i)
unfolding shut_names some_names
shut_names-none m s i n none = ap (λ (k : ℕ). shut_names m (some_names k s i)) (sym none)

-- one name more of a run
pub shut_names-more : (m : Marks) (n s i : ℕ)
    → shut_names m (some_names (suc n) s i)
    ≡ insert (shut_names m (some_names n s i)) (named_by s (i + n)) Shut
unfolding shut_names
shut_names-more m n s i =
    ap (shut_names m) (some_names-last n s i)
    ∙ shut_names-append m (some_names n s i) (named_by s (i + n) ∷ [])

shut_by : (o : Option Mark) → cond (is_some o) (Some Shut) None ≡ shut_mark o
shut_by None = refl
shut_by (Some x) = refl

-- to close the runs of a ledger is to close each of its names
pub closed_by-runs_of : (m : Marks) → closed_by (runs_of m) ≡ all_closed m
closed_by-runs_of m =
    ap (λ (ns : List Name). shut_names empty ns) (names_in-runs_of_names (keys m))
    ∙ same_marks _ _ (λ q.
    get-shut_names (keys m) empty q
    ∙ ap (cond (list_any (eq_by_cmp name_cmp q) (keys m)) (Some Shut)) (get-empty name_cmp q)
    ∙ ap (λ (b : Bool). cond b (Some Shut) None) (sym (contains_key-keys m q))
    ∙ shut_by (get m q)
    ∙ sym (get-all_closed m q))

-- ---- how many there are

few_from : (ns : List Name) (r : NameRun) → length (runs_from r ns) ≤ suc (length ns)
unfolding runs_from
few_from [] r = omega arith
few_from (n ∷ ns) r =
    elim (is_next r n) as
    (λ b. length (if b then runs_from (longer r) ns else r ∷ runs_from (lone n) ns) ≤ suc
    (suc (length ns))) [
      | true ↦ omega (arith, few_from ns (longer r))
      | false ↦ omega (arith, few_from ns (lone n))
    ]

few : (ns : List Name) → length (runs_of_names ns) ≤ length ns
unfolding runs_of_names
few [] = omega arith
few (n ∷ ns) = few_from ns (lone n)

-- no more runs than names
pub few_runs : (m : Marks) → length (runs_of m) ≤ len m
few_runs m =
    omega (arith, few (keys m), length-map (entries m) (λ (e : Name × Mark). e.0), len-entries m)

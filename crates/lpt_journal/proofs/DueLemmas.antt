-- Which name of a list is the first by its tick, and which receptions are overdue.
use Rattle.std.proofs.Common.{◌≡◌, ◌∙◌, ap, sym, refl, ℕ, ◌≤◌, ◌==◌, nat_lt, Bool, true, false, ◌&&◌, ◌||◌, ◌⊎◌, inl, inr, if◌then◌else◌, List, [], ◌∷◌, Option, Some, None, arith}
use Rattle.std.proofs.lemmas.Bool.Decides.{nat_tests}
use Rattle.std.specs.List.{list_any, filter}
use Rattle.lpt_packet.specs.declared.direction.Direction.{Direction}
use Rattle.lpt_packet.specs.Names.{Name, same_name, name_before}
use Rattle.lpt_packet.proofs.NameLemmas.{same_name-refl, same_name-true, name_before-refl, name_before-chain}
use Rattle.lpt_events.specs.declared.config.Config.{Config}
use Rattle.lpt_journal.specs.Due.{is_overdue, comes_first, first_of_two, earliest, due, given_up}
use Rattle.lpt_journal.specs.Journal.{History}
use Rattle.lpt_journal.specs.Receivers.{heard, has_parts, last_tick, open_names, heard_names}
use Rattle.lpt_journal.specs.Senders.{once}
use Rattle.lpt_journal.proofs.CountLemmas.{any-filter, reception_named}
use Rattle.lpt_journal.proofs.MapLemmas.{among}
use Rattle.lpt_packet.proofs.BoolLemmas.{and_right, or_right}

-- ---- the first of some names

-- what tells which of two comes first, by their ticks and then by whether its name is before
abbrev first_by : (x y : ℕ) (before : Bool) → Bool
first_by x y before = nat_lt x y || ((x == y) && before)

wins_tick : (x y : ℕ) (before : Bool) → first_by x y before ≡ true → x ≤ y
wins_tick x y before h = grind (arith, nat_tests)

wins_name : (x y : ℕ) (before : Bool) → first_by x y before ≡ true → y ≤ x → before ≡ true
wins_name x y true h e = refl
wins_name x y false h e = grind (arith, nat_tests)

loses_tick : (x y : ℕ) (before : Bool) → first_by x y before ≡ false → y ≤ x
loses_tick x y before h = grind (arith, nat_tests)

loses_name : (x y : ℕ) (before : Bool) → first_by x y before ≡ false → x ≡ y → before ≡ false
loses_name x y true h e = grind (arith, nat_tests)
loses_name x y false h e = refl

-- a name of the list before which none comes
pub record IsEarliest (tick : Name → ℕ) (names : List Name) (name : Name) : Type 0 where
  pub is_in : list_any (same_name name) names ≡ true
  pub first : (other : Name) → list_any (same_name other) names ≡ true → tick name ≤ tick other
  pub least : (other : Name)
      → list_any (same_name other) names ≡ true
      → tick other ≡ tick name
      → name_before other name ≡ false

abbrev pub Earliest : (Name → ℕ) → List Name → Option Name → Type 0
Earliest tick names None = (name : Name) → list_any (same_name name) names ≡ false
Earliest tick names (Some name) = IsEarliest tick names name

in_cases : (x name : Name) (names : List Name)
    → (same_name x name || list_any (same_name x) names) ≡ true
    → (x ≡ name) ⊎ (list_any (same_name x) names ≡ true)
in_cases x name names e = go (same_name x name) refl e where
  go : (t : Bool)
      → same_name x name ≡ t
      → (t || list_any (same_name x) names) ≡ true
      → (x ≡ name) ⊎ (list_any (same_name x) names ≡ true)
  go true s k = inl (same_name-true x name s)
  go false s k = inr k

module _ (tick : Name → ℕ) (name : Name) (names : List Name) where
  first_in : list_any (same_name name) (name ∷ names) ≡ true
  first_in = ap (λ t. t || list_any (same_name name) names) (same_name-refl name)

  alone : ((other : Name) → list_any (same_name other) names ≡ false)
      → IsEarliest tick (name ∷ names) name
  alone none = record {
    is_in = first_in;
    first = λ other e. first other (in_cases other name names e);
    least = λ other e same. least other (in_cases other name names e);
  } where
    first : (other : Name)
        → (other ≡ name) ⊎ (list_any (same_name other) names ≡ true)
        → tick name ≤ tick other
    first other (inl s) = let e : tick other ≡ tick name = ap tick s in omega arith
    first other (inr k) = let n : list_any (same_name other) names ≡ false = none other in absurd cc

    least : (other : Name)
        → (other ≡ name) ⊎ (list_any (same_name other) names ≡ true)
        → name_before other name ≡ false
    least other (inl s) = ap (λ q. name_before q name) s ∙ name_before-refl name
    least other (inr k) = let n : list_any (same_name other) names ≡ false = none other in absurd cc

  wins : (b : Name)
      → first_by (tick name) (tick b) (name_before name b) ≡ true
      → IsEarliest tick names b
      → IsEarliest tick (name ∷ names) name
  wins b t rest = record {
    is_in = first_in;
    first = λ other e. first other (in_cases other name names e);
    least = λ other e same. least other same (in_cases other name names e);
  } where
    first : (other : Name)
        → (other ≡ name) ⊎ (list_any (same_name other) names ≡ true)
        → tick name ≤ tick other
    first other (inl s) = let e : tick other ≡ tick name = ap tick s in omega arith
    first other (inr k) = omega (arith, rest.first other k, wins_tick (tick name) (tick b) (name_before name b) t)

    least : (other : Name)
        → tick other ≡ tick name
        → (other ≡ name) ⊎ (list_any (same_name other) names ≡ true)
        → name_before other name ≡ false
    least other same (inl s) = ap (λ q. name_before q name) s ∙ name_before-refl name
    least other same (inr k) =
        let low : tick name ≤ tick b = wins_tick (tick name) (tick b) (name_before name b) t in
        let high : tick b ≤ tick other = rest.first other k in
        name_before-chain name b other
        (wins_name (tick name) (tick b) (name_before name b) t (omega arith))
        (rest.least other k (omega arith))

  loses : (b : Name)
      → first_by (tick name) (tick b) (name_before name b) ≡ false
      → IsEarliest tick names b
      → IsEarliest tick (name ∷ names) b
  loses b t rest = record {
    is_in = or_right (same_name b name) (list_any (same_name b) names) rest.is_in;
    first = λ other e. first other (in_cases other name names e);
    least = λ other e same. least other same (in_cases other name names e);
  } where
    first : (other : Name)
        → (other ≡ name) ⊎ (list_any (same_name other) names ≡ true)
        → tick b ≤ tick other
    first other (inl s) =
        let e : tick other ≡ tick name = ap tick s in
        omega (arith, loses_tick (tick name) (tick b) (name_before name b) t)
    first other (inr k) = rest.first other k

    least : (other : Name)
        → tick other ≡ tick b
        → (other ≡ name) ⊎ (list_any (same_name other) names ≡ true)
        → name_before other b ≡ false
    least other same (inl s) =
        ap (λ q. name_before q b) s
        ∙ loses_name (tick name) (tick b) (name_before name b) t (sym (ap tick s) ∙ same)
    least other same (inr k) = rest.least other k same

  one_more : (o : Option Name)
      → Earliest tick names o
      → Earliest tick (name ∷ names) (first_of_two tick name o)
  one_more None none = alone none
  one_more (Some b) rest = go (comes_first tick name b) refl where
    go : (t : Bool)
        → comes_first tick name b ≡ t
        → Earliest tick (name ∷ names) (if t then Some name else Some b)
    go true e = wins b e rest
    go false e = loses b e rest

-- what is computed of a list is the first of it
pub earliest_is : (tick : Name → ℕ) (ids : List Name) → Earliest tick ids (earliest tick ids)
earliest_is tick [] = λ name. refl
earliest_is tick (name ∷ names) =
    one_more tick name names (earliest tick names) (earliest_is tick names)

-- ---- overdue receptions

any-once : (name : Name) (names : List Name)
    → list_any (same_name name) (once names) ≡ list_any (same_name name) names
any-once name [] = refl
any-once name (k ∷ ks) = go (list_any (same_name k) ks) refl (any-once name ks) where
  go : (t : Bool)
      → list_any (same_name k) ks ≡ t
      → list_any (same_name name) (once ks) ≡ list_any (same_name name) ks
      → list_any (same_name name) (if t then once ks else k ∷ once ks)
      ≡ (same_name name k || list_any (same_name name) ks)
  go true e rest = rest ∙ sym (among name k ks e)
  go false e rest = ap (λ t. same_name name k || t) rest

-- the names with an open reception that is overdue
abbrev pub overdue_names : Config → History → Direction → List Name
overdue_names c h d = filter (is_overdue c h d) (open_names c h d)

pub in_overdue : (c : Config) (h : History) (d : Direction) (name : Name)
    → list_any (same_name name) (overdue_names c h d)
    ≡ (is_overdue c h d name && has_parts (heard c h d name))
in_overdue c h d name =
    any-filter (is_overdue c h d) name (open_names c h d)
    ∙ ap (λ t. is_overdue c h d name && t)
    (any-once name (filter (λ q. has_parts (heard c h d q)) (heard_names h d))
    ∙ reception_named c h d name)

-- what is due is an open reception
pub due_open : (c : Config) (h : History) (d : Direction) (name : Name)
    → due c h d ≡ Some name
    → has_parts (heard c h d name) ≡ true
due_open c h d name e = go (due c h d) (earliest_is (last_tick c h d) (overdue_names c h d)) e where
  go : (o : Option Name)
      → Earliest (last_tick c h d) (overdue_names c h d) o
      → o ≡ Some name
      → has_parts (heard c h d name) ≡ true
  go None it k = absurd cc
  go (Some i) it k =
      let same : i ≡ name = cc in
      ap (λ n. has_parts (heard c h d n)) (sym same)
      ∙ and_right (is_overdue c h d i) (has_parts (heard c h d i)) (sym (in_overdue c h d i) ∙ it.is_in)

-- what is given up is an open reception
pub given_up_open : (c : Config) (h : History) (d : Direction) (which : Option Name) (name : Name)
    → given_up c h d which ≡ Some name
    → has_parts (heard c h d name) ≡ true
given_up_open c h d None name e = due_open c h d name e
given_up_open c h d (Some given) name e = go (has_parts (heard c h d given)) refl e where
  go : (b : Bool)
      → has_parts (heard c h d given) ≡ b
      → ◌≡◌ {A = Option Name} (if b then Some given else None) (Some name)
      → has_parts (heard c h d name) ≡ true
  go true has is =
      let same : given ≡ name = cc in
      ap (λ n. has_parts (heard c h d n)) (sym same) ∙ has
  go false has is = absurd cc

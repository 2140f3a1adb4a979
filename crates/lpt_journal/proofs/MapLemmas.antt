-- Finite maps by name: what they have at a name, and how many names they have.
use Rattle.std.proofs.Common.{◌≡◌, ◌≢◌, ◌∙◌, ap, sym, refl, ℕ, suc, ◌-◌, Bool, true, false, ◌||◌, if◌then◌else◌, cond, List, [], ◌∷◌, length, Option, Some, None, is_some, arith}
use Rattle.std.specs.List.{list_any}
use Rattle.std.specs.FinMap as maps
use Rattle.std.specs.FinMap.{FinMap}
use Rattle.std.specs.declared.cmp.Ordering.{Ordering}
use Rattle.lpt_packet.specs.Names.{Name, same_name, name_cmp}
use Rattle.lpt_packet.proofs.NameLemmas.{same_name-refl, same_name-true, name_cmp_total, name_cmp-IsAntisymmetric, name_tied}
use Rattle.lpt_journal.specs.Senders.{once}

-- ---- at a name

-- what a map has at a name after another was put in
pub get_insert : {X : Type 0} (m : FinMap name_cmp X) (k : Name) (v : X) (q : Name)
    → maps.get (maps.insert m k v) q ≡ (if same_name q k then Some v else maps.get m q)
get_insert m k v q =
    maps.get-insert name_cmp_total m k v q
    ∙ ap (λ b. if b then Some v else maps.get m q) (name_tied q k)

-- what a map has at a name after one was taken out
pub get_remove : {X : Type 0} (m : FinMap name_cmp X) (k q : Name)
    → maps.get (maps.remove m k) q ≡ (if same_name q k then None else maps.get m q)
get_remove m k q =
    maps.get-remove name_cmp_total m k q
    ∙ ap (λ b. if b then None else maps.get m q) (name_tied q k)

-- a map with something at a key isn't empty
pub some_len : {K : Type 0} {R : K → K → Ordering} {X : Type 0} (m : FinMap R X) (k : K)
    → is_some (maps.get m k) ≡ true
    → maps.len m ≢ 0
some_len {R = R} m k h e =
    let none : maps.get m k ≡ None =
    ap (λ n. maps.get n k) (maps.empty_of_len m e) ∙ maps.get-empty R k in
    let t : true ≡ false = sym h ∙ ap is_some none in
    absurd cc

-- one name less
len_without : {X : Type 0} (m : FinMap name_cmp X) (k : Name) → is_some (maps.get m k) ≡ true → maps.len m ≡ suc (maps.len (maps.remove m k))
len_without {X} m k h =
    let less : maps.len (maps.remove m k) ≡ maps.len m - 1 = maps.len-remove name_cmp_total m k ∙ ap (λ b. cond b (maps.len m - 1) (maps.len m)) h in
    let some : maps.len m ≢ 0 = some_len m k h in
    omega arith

-- a name that is among others already
pub among : (name k : Name) (ks : List Name) → list_any (same_name k) ks ≡ true → (same_name name k || list_any (same_name name) ks) ≡ list_any (same_name name) ks
among name k ks h = go (same_name name k) refl where
  go : (t : Bool) → same_name name k ≡ t → (t || list_any (same_name name) ks) ≡ list_any (same_name name) ks
  go false e = refl
  go true e = let same : name ≡ k = same_name-true name k e in sym (ap (λ q. list_any (same_name q) ks) same ∙ h)

-- a map whose names are those of a list has as many as the list has, each once
pub len_once : {X : Type 0} (m : FinMap name_cmp X) (ks : List Name) → ((name : Name) → is_some (maps.get m name) ≡ list_any (same_name name) ks) → maps.len m ≡ length (once ks)
len_once {X} m [] h = go (maps.len m) refl where
  nothing : (o : Option X) → is_some o ≡ false → o ≡ None
  nothing None e = refl
  nothing (Some x) e = absurd cc

  go : (n : ℕ) → maps.len m ≡ n → maps.len m ≡ 0
  go n e = ap maps.len (maps.same_map name_cmp_total name_cmp-IsAntisymmetric m maps.empty (λ q. nothing (maps.get m q) (h q) ∙ sym (maps.get-empty name_cmp q))) ∙ maps.len-empty name_cmp X
len_once {X} m (k ∷ ks) h = go (len_once m ks) (len_once (maps.remove m k) ks) (list_any (same_name k) ks) refl where
  fewer : list_any (same_name k) ks ≡ false → (name : Name) (t : Bool) → same_name name k ≡ t → is_some (if t then None else maps.get m name) ≡ list_any (same_name name) ks
  fewer e name true d = let same : name ≡ k = same_name-true name k d in sym (ap (λ q. list_any (same_name q) ks) same ∙ e)
  fewer e name false d = h name ∙ ap (λ t. t || list_any (same_name name) ks) d

  go : (((name : Name) → is_some (maps.get m name) ≡ list_any (same_name name) ks) → maps.len m ≡ length (once ks))
      → (((name : Name) → is_some (maps.get (maps.remove m k) name) ≡ list_any (same_name name) ks) → maps.len (maps.remove m k) ≡ length (once ks))
      → (t : Bool) → list_any (same_name k) ks ≡ t → maps.len m ≡ length (if t then once ks else k ∷ once ks)
  go all others true e = all (λ name. h name ∙ among name k ks e)
  go all others false e =
      let there : is_some (maps.get m k) ≡ true = h k ∙ ap (λ t. t || list_any (same_name k) ks) (same_name-refl k) in
      len_without m k there ∙ ap suc (others (λ name. ap is_some (get_remove m k name) ∙ fewer e name (same_name name k) refl))

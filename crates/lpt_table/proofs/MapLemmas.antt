-- What is found in a list of entries without one key, and finite maps after several changes.
use Rattle.std.specs.Prelude.{◌≡◌, Bool, true, false, not, List, Some, None, refl, cond}
use Rattle.std.specs.FinMap as map
use Rattle.std.specs.FinMap.{FinMap, IsAntisymmetric, same_map, get-insert, get-remove}
use Rattle.std.specs.FinMap.Entries.{find, where_key, find-where_key}
use Rattle.std.specs.declared.cmp.Ordering.{Ordering}
use Rattle.std.specs.declared.cmp.Ordering.TheVariants.{Less, Equal, Greater}
use Rattle.std.specs.Ordering.{is_eq, eq_by_cmp}
use Rattle.std.specs.Cmp.{IsTotalOrder, alike_right, eq_by_cmp_equiv, tied_itself}
use Rattle.std.proofs.Common.{sym, ◌∙◌, ap}

-- whether a key is another one
abbrev pub is_other : {K : Type 0} → (K → K → Ordering) → K → K → Bool
is_other R k x = not (eq_by_cmp R k x)

turned : {A : Type 0} (b : Bool) (x y : A) → cond (not b) x y ≡ cond b y x
turned true x y = refl
turned false x y = refl

again : {A : Type 0} (b : Bool) (x y z : A) → cond b x (cond b y z) ≡ cond b x z
again true x y z = refl
again false x y z = refl

-- only equal keys tie
pub equal : (r : Ordering) → is_eq r ≡ true → r ≡ Equal
equal Less h = absurd cc
equal Equal h = refl
equal Greater h = absurd cc

module _ {K X : Type 0} {R : K → K → Ordering} (o : IsTotalOrder R) (same : IsAntisymmetric R) where
  -- ---- without one key

  -- what is found where one key's entries are left out
  pub find-others : (k q : K) (es : List (K × X))
      → find R q (where_key R (is_other R k) es) ≡ cond (eq_by_cmp R q k) None (find R q es)
  find-others k q es =
      find-where_key R (is_other R k) q
      (λ x t. ap (λ r. not (is_eq r)) (sym (alike_right o q x k t))) es
      ∙ turned (eq_by_cmp R k q) (find R q es) None
      ∙ ap (λ b. cond b None (find R q es)) ((eq_by_cmp_equiv o).symm k q)

  -- ---- after several changes

  -- an entry that was removed before it is inserted
  pub insert-remove : (m : FinMap R X) (k : K) (v : X)
      → map.insert (map.remove m k) k v ≡ map.insert m k v
  insert-remove m k v =
      same_map o same _ _ (λ q.
      get-insert o (map.remove m k) k v q
      ∙ ap (cond (eq_by_cmp R q k) (Some v)) (get-remove o m k q)
      ∙ again (eq_by_cmp R q k) (Some v) None (map.get m q)
      ∙ sym (get-insert o m k v q))

  -- an entry that is removed once it was inserted
  pub remove-insert : (m : FinMap R X) (k : K) (v : X)
      → map.remove (map.insert m k v) k ≡ map.remove m k
  remove-insert m k v =
      same_map o same _ _ (λ q.
      get-remove o (map.insert m k v) k q
      ∙ ap (cond (eq_by_cmp R q k) None) (get-insert o m k v q)
      ∙ again (eq_by_cmp R q k) None (Some v) (map.get m q)
      ∙ sym (get-remove o m k q))

  -- an inserted key has its entry
  pub get-inserted : (m : FinMap R X) (k : K) (v : X) → map.get (map.insert m k v) k ≡ Some v
  get-inserted m k v =
      get-insert o m k v k ∙ ap (λ r. cond (is_eq r) (Some v) (map.get m k)) (tied_itself o k)

  kept : (m : FinMap R X) (k q : K) (v : X) (b : Bool)
      → eq_by_cmp R q k ≡ b
      → map.get m k ≡ Some v
      → cond b (Some v) (map.get m q) ≡ map.get m q
  kept m k q v true e h = sym h ∙ ap (map.get m) (sym (same q k (equal (R q k) e)))
  kept m k q v false e h = refl

  -- inserting an entry that is there changes nothing
  pub insert-same : (m : FinMap R X) (k : K) (v : X)
      → map.get m k ≡ Some v
      → map.insert m k v ≡ m
  insert-same m k v h =
      same_map o same _ _ (λ q. get-insert o m k v q ∙ kept m k q v (eq_by_cmp R q k) refl h)

  -- a removed key has no entry
  pub get-removed : (m : FinMap R X) (k : K) → map.get (map.remove m k) k ≡ None
  get-removed m k =
      get-remove o m k k ∙ ap (λ r. cond (is_eq r) None (map.get m k)) (tied_itself o k)

  gone : (m : FinMap R X) (k q : K) (b : Bool)
      → eq_by_cmp R q k ≡ b
      → map.get m k ≡ None
      → cond b None (map.get m q) ≡ map.get m q
  gone m k q true e h = sym h ∙ ap (map.get m) (sym (same q k (equal (R q k) e)))
  gone m k q false e h = refl

  -- removing a key that has no entry changes nothing
  pub remove-absent : (m : FinMap R X) (k : K) → map.get m k ≡ None → map.remove m k ≡ m
  remove-absent m k h =
      same_map o same _ _ (λ q. get-remove o m k q ∙ gone m k q (eq_by_cmp R q k) refl h)

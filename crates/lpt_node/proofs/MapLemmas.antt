-- What is under a name in a finite map after a change, by comparison of names.
use Rattle.std.proofs.Common.{◌≡◌, ◌∙◌, ap, sym, cond, Bool, Option, Some, None, true, false, is_some, refl}
use Rattle.lpt_packet.proofs.NameLemmas.{name_cmp_total, name_cmp-IsAntisymmetric, name_tied, same_name-true}
use Rattle.std.specs.FinMap as map
use Rattle.lpt_packet.specs.Names.{Name, same_name, name_cmp}
use Rattle.lpt_table.proofs.MapLemmas.{remove-absent}

-- the value that was put under a name, and each other name's own
pub get_insert : {A : Type 0} (m : map.FinMap name_cmp A) (name : Name) (x : A) (q : Name)
    → map.get (map.insert m name x) q ≡ cond (same_name q name) (Some x) (map.get m q)
get_insert m name x q =
    map.get-insert name_cmp_total m name x q ∙ ap (λ b. cond b (Some x) (map.get m q)) (name_tied q name)

-- nothing under a name that was taken out, and each other name's own
pub get_remove : {A : Type 0} (m : map.FinMap name_cmp A) (name q : Name)
    → map.get (map.remove m name) q ≡ cond (same_name q name) None (map.get m q)
get_remove m name q =
    map.get-remove name_cmp_total m name q ∙ ap (λ b. cond b None (map.get m q)) (name_tied q name)

-- to take out a name under which nothing stands changes nothing
pub remove-none : {A : Type 0} (m : map.FinMap name_cmp A) (name : Name)
    → is_some (map.get m name) ≡ false
    → map.remove m name ≡ m
remove-none m name h =
    remove-absent name_cmp_total name_cmp-IsAntisymmetric m name (none (map.get m name) h)
  where
    none : {A : Type 0} (o : Option A) → is_some o ≡ false → o ≡ None
    none None e = refl
    none (Some x) e = absurd cc

-- to take out what was put under a name under which nothing stood changes nothing
pub remove-insert : {A : Type 0} (m : map.FinMap name_cmp A) (name : Name) (x : A)
    → map.get m name ≡ None
    → map.remove (map.insert m name x) name ≡ m
remove-insert m name x absent =
    map.same_map name_cmp_total name_cmp-IsAntisymmetric _ _ (λ q.
    get_remove (map.insert m name x) name q
    ∙ ap (λ o. cond (same_name q name) None o) (get_insert m name x q)
    ∙ go q (same_name q name) refl)
  where
    go : (q : Name) (b : Bool)
        → same_name q name ≡ b
        → cond b None (cond b (Some x) (map.get m q)) ≡ map.get m q
    go q true same = sym (ap (λ (n : Name). map.get m n) (same_name-true q name same) ∙ absent)
    go q false apart = refl

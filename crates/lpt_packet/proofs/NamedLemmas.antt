-- The entries of an ordered map by names are a finite map, whatever their values are.
use Rattle.std.proofs.Common.{◌≡◌, ◌∙◌, ap, sym, refl, cond, List, [], ◌∷◌, Option, Some, None}
use Rattle.std.specs.BTreeMap.{is_at}
use Rattle.std.specs.Cmp.{eq_by_cmp_equiv}
use Rattle.std.specs.FinMap as map
use Rattle.std.specs.Map.{lookup}
use Rattle.std.specs.Ordering.{eq_by_cmp}
use Rattle.lpt_packet.proofs.NameLemmas.{name_cmp-IsAntisymmetric, name_cmp_total}
use Rattle.lpt_packet.specs.Names.{Name, name_cmp}

module _ {X : Type 0} where
  -- what entries have under a name
  abbrev pub value_of : List (Name × X) → Name → Option X
  value_of es q = lookup (is_at (name_cmp q)) es

  find-value_of : (es : List (Name × X)) (q : Name) → map.find name_cmp q es ≡ value_of es q
  find-value_of [] q = refl
  find-value_of (e ∷ es) q = ap (cond (eq_by_cmp name_cmp q e.0) (Some e.1)) (find-value_of es q)

  -- the finite map of entries
  abbrev pub by_name : List (Name × X) → map.FinMap name_cmp X
  by_name es = map.from_entries es

  -- has the same under it
  pub get-by_name : (es : List (Name × X)) (q : Name) → map.get (by_name es) q ≡ value_of es q
  get-by_name es q = map.get-from_entries name_cmp_total es q ∙ find-value_of es q

  -- the second entries have this under one name, or nothing, and under each other what the first have
  abbrev pub Puts : List (Name × X) → List (Name × X) → Name → Option X → Type 0
  Puts es fs name x = (q : Name) → value_of fs q ≡ cond (is_at (name_cmp name) q) x (value_of es q)

  module _ (es fs : List (Name × X)) (name : Name) where
    -- so have their finite maps
    pub get-put : (x : Option X) (q : Name)
        → Puts es fs name x
        → map.get (by_name fs) q ≡ cond (eq_by_cmp name_cmp q name) x (map.get (by_name es) q)
    get-put x q put =
        get-by_name fs q ∙ put q
        ∙ ap (λ b. cond b x (value_of es q)) ((eq_by_cmp_equiv name_cmp_total).symm name q)
        ∙ ap (cond (eq_by_cmp name_cmp q name) x) (sym (get-by_name es q))

    -- to put a value under a name is to insert it
    pub by_name-insert : (x : X)
        → Puts es fs name (Some x)
        → by_name fs ≡ map.insert (by_name es) name x
    by_name-insert x put =
        map.same_map name_cmp_total name_cmp-IsAntisymmetric _ _ (λ q.
        get-put (Some x) q put ∙ sym (map.get-insert name_cmp_total (by_name es) name x q))

    -- and to put nothing is to remove the name
    pub by_name-remove : Puts es fs name None → by_name fs ≡ map.remove (by_name es) name
    by_name-remove put =
        map.same_map name_cmp_total name_cmp-IsAntisymmetric _ _ (λ q.
        get-put None q put ∙ sym (map.get-remove name_cmp_total (by_name es) name q))

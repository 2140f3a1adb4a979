-- What is left of the names of which nothing was told at the end yet.
use Rattle.std.proofs.Common.{◌≡◌, ◌∙◌, ap, sym, refl, ℕ, Bool, true, false, cond, ◌==◌, List, [], ◌∷◌, ◌++◌, Option, Some, None}
use Rattle.std.specs.List.{flat_map}
use Rattle.std.specs.BTreeMap.{BTreeMap, get, is_at}
use Rattle.std.specs.Map.{keys_of}
use Rattle.lpt_carried.specs.declared.name.Name.{Name}
use Rattle.lpt_carried.specs.declared.reading.Reading.{Reading}
use Rattle.lpt_layout_join.specs.Came.{highest}
use Rattle.lpt_layout_join.specs.Names.{name_cmp}
use Rattle.lpt_layout_each.specs.declared.kept.KeptAs.{KeptAs}
use Rattle.lpt_layout_each.specs.declared.helds.HeldsAs.{HeldsAs}
use Rattle.lpt_layout_each.specs.Eaches.{Course, news_left}
use Rattle.lpt_layout_each.specs.Helds.{HoldsEach}
use Rattle.lpt_layout_each.specs.Lefts.{HoldsYet, left_yet}
use Rattle.lpt_layout_each.specs.News.{parts_dropped}
use Rattle.lpt_layout_each.specs.Streams.{Leaves, left_of, of}
use Rattle.lpt_layout_each.proofs.TellLemmas.{leaves-kept, left-first}

-- where the stream ends, this is so of each name
pub yet-first : (r : Reading) (any : Bool) (bs : List (List ℕ)) (g : HeldsAs)
    → HoldsEach r any bs g
    → HoldsYet r any bs g × Leaves r any bs (left_yet r any bs g)
yet-first r any bs g h = ((left-first r any bs g None h).holds, leaves-kept r any bs g h)

no_some : {A : Type 0} (x : A) → ◌≡◌ {A = Option A} None (Some x) → ⊥
no_some x h = cc

-- and still is without the first name
pub yet-next : (r : Reading) (any : Bool) (bs : List (List ℕ)) (old new : HeldsAs) (n : Name)
    → ((q : Name) → get name_cmp new.kept q
    ≡ cond (is_at (name_cmp n) q) None (get name_cmp old.kept q))
    → HoldsYet r any bs old
    → HoldsYet r any bs new
yet-next r any bs old new n gets h q k is =
    h q k (still (is_at (name_cmp n) q) (sym (gets q) ∙ is)) where
      still : (b : Bool)
          → cond b None (get name_cmp old.kept q) ≡ Some k
          → get name_cmp old.kept q ≡ Some k
      still true e = absurd (no_some k e)
      still false e = e

-- what is left is what is left of that name, and of the others
pub left-split : (r : Reading) (any : Bool) (bs : List (List ℕ)) (old new : HeldsAs) (n : Name)
    (g : KeptAs)
    → old.kept.entries ≡ (n, g) ∷ new.kept.entries
    → left_yet r any bs old ≡ left_of r any bs n ++ left_yet r any bs new
left-split r any bs old new n g pops =
    ap (λ (es : List (Name × KeptAs)). flat_map (left_of r any bs) (keys_of es)) pops

-- nothing is left of a name of which no part is new
pub left-none : (n : Name) (c : Course)
    → (highest c.held.new.parts == 0) ≡ true
    → of n (news_left c) ≡ []
left-none n c none = ap (λ (b : Bool). of n (cond b [] (parts_dropped c.held.new ∷ []))) none

-- nothing is left where no name is
pub left-empty : (r : Reading) (any : Bool) (bs : List (List ℕ)) (g : HeldsAs)
    → g.kept.entries ≡ []
    → left_yet r any bs g ≡ []
left-empty r any bs g none =
    ap (λ (es : List (Name × KeptAs)). flat_map (left_of r any bs) (keys_of es)) none

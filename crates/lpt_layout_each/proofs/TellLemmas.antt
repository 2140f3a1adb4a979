-- What was told, and what is told further.
use Rattle.std.proofs.Common.{◌≡◌, ◌≢◌, ◌∙◌, ap, sym, subst, refl, ℕ, Bool, true, false, cond, ◌||◌, ◌==◌, List, [], ◌∷◌, ◌++◌, Option, Some, None, append-nil, append_assoc}
use Rattle.std.specs.List.{flat_map, list_any}
use Rattle.std.specs.BTreeMap.{BTreeMap, get, is_at, keys}
use Rattle.std.specs.Map.{keys_of, lookup}
use Rattle.std.specs.Ordering.{is_eq}
use Rattle.std.proofs.lemmas.List.Concat.{flat_map-append}
use Rattle.lpt_carried.specs.declared.name.Name.{Name}
use Rattle.lpt_carried.specs.declared.reading.Reading.{Reading}
use Rattle.lpt_layout_join.specs.Came.{highest}
use Rattle.lpt_carried.specs.Carried.{part_carried, same_name}
use Rattle.lpt_layout_each.specs.declared.kept.KeptAs.{KeptAs}
use Rattle.lpt_layout_each.specs.declared.helds.HeldsAs.{HeldsAs}
use Rattle.lpt_layout_each.specs.Eaches.{Course, course_held, news_left, nothing}
use Rattle.lpt_layout_each.specs.Helds.{HoldsEach, IsHeld, IsKept}
use Rattle.lpt_layout_join.specs.Names.{name_cmp}
use Rattle.lpt_layout_each.specs.News.{Event, Hears, HearsPart, News, parts_dropped}
use Rattle.lpt_layout_each.specs.Streams.{Leaves, events_from, left_of, of, told_by}
use Rattle.lpt_layout_join.proofs.NameLemmas.{name_tied}

-- ---- what was heard

pub hears-nothing : (a : Option (List Event)) → Hears a a []
hears-nothing None = tt
hears-nothing (Some xs) = sym (append-nil xs)

pub hears-more : (a b c : Option (List Event)) (xs ys : List Event)
    → Hears a b xs
    → Hears b c ys
    → Hears a c (xs ++ ys)
hears-more None b c xs ys h k = tt
hears-more (Some us) None c xs ys h k = absurd h
hears-more (Some us) (Some vs) None xs ys h k = absurd k
hears-more (Some us) (Some vs) (Some ws) xs ys h k =
    k ∙ ap (λ l. l ++ ys) h ∙ append_assoc us xs ys

-- nothing of these was
pub part-none : (a : Option (List Event)) (es : List Event) → HearsPart a a es
part-none None es = tt
part-none (Some xs) es = ([], es, refl, sym (append-nil xs))

-- all of them were
pub part-all : (a b : Option (List Event)) (es : List Event) → Hears a b es → HearsPart a b es
part-all None b es h = tt
part-all (Some xs) None es h = absurd h
part-all (Some xs) (Some ys) es h = (es, [], sym (append-nil es), h)

-- those before them were, and a front part of these
pub part-more : (a b c : Option (List Event)) (xs ys : List Event)
    → Hears a b xs
    → HearsPart b c ys
    → HearsPart a c (xs ++ ys)
part-more None b c xs ys h k = tt
part-more (Some us) None c xs ys h k = absurd h
part-more (Some us) (Some vs) None xs ys h k = absurd k
part-more (Some us) (Some vs) (Some ws) xs ys h k = (
  xs ++ k.0,
  k.1,
  ap (λ l. xs ++ l) k.2 ∙ sym (append_assoc xs k.0 k.1),
  k.3 ∙ ap (λ l. l ++ k.0) h ∙ append_assoc us xs k.0,
)

-- with others behind them
pub part-front : (a b : Option (List Event)) (xs ys : List Event)
    → HearsPart a b xs
    → HearsPart a b (xs ++ ys)
part-front None b xs ys h = tt
part-front (Some us) None xs ys h = absurd h
part-front (Some us) (Some vs) xs ys h =
    (h.0, h.1 ++ ys, ap (λ l. l ++ ys) h.2 ∙ append_assoc h.0 h.1 ys, h.3)

-- ---- a packet more

pub events-next : (r : Reading) (any : Bool) (before bs : List (List ℕ)) (b : List ℕ)
    → events_from r any before (bs ++ b ∷ [])
    ≡ events_from r any before bs ++ told_by r any (before ++ bs) b (part_carried r b)
events-next r any before [] b =
    append-nil (told_by r any before b (part_carried r b))
    ∙ ap (λ xs. told_by r any xs b (part_carried r b)) (sym (append-nil before))
events-next r any before (x ∷ bs) b =
    ap (λ es. told_by r any before x (part_carried r x) ++ es)
    (events-next r any (before ++ x ∷ []) bs b
    ∙ ap (λ xs. events_from r any (before ++ x ∷ []) bs ++ told_by r any xs b (part_carried r b))
    (append_assoc before (x ∷ []) bs))
    ∙ sym (append_assoc (told_by r any before x (part_carried r x))
    (events_from r any (before ++ x ∷ []) bs)
    (told_by r any (before ++ x ∷ bs) b (part_carried r b)))

-- ---- the end

-- nothing is left where nothing came
left-nothing : news_left nothing ≡ []
left-nothing = refl

no_some : {A : Type 0} (x : A) → ◌≡◌ {A = Option A} None (Some x) → ⊥
no_some x h = cc

-- a name at which something is kept is among the keys
key-there : (n : Name) (es : List (Name × KeptAs)) (g : KeptAs)
    → lookup (is_at (name_cmp n)) es ≡ Some g
    → list_any (same_name n) (keys_of es) ≡ true
key-there n [] g h = absurd (no_some g h)
key-there n (e ∷ es) g h = there (is_eq (name_cmp n e.0)) refl h (key-there n es g) where
  there : (b : Bool)
      → is_eq (name_cmp n e.0) ≡ b
      → cond b (Some e.1) (lookup (is_at (name_cmp n)) es) ≡ Some g
      → (lookup (is_at (name_cmp n)) es ≡ Some g → list_any (same_name n) (keys_of es) ≡ true)
      → list_any (same_name n) (keys_of (e ∷ es)) ≡ true
  there true is k rest =
      ap (λ b. b || list_any (same_name n) (keys_of es)) (sym (name_tied n e.0) ∙ is)
  there false is k rest =
      ap (λ b. b || list_any (same_name n) (keys_of es)) (sym (name_tied n e.0) ∙ is) ∙ rest k

-- these names were told of, and those that are kept still weren't
pub record IsLeft (r : Reading) (any : Bool) (bs : List (List ℕ))
    (first now : BTreeMap Name KeptAs) (heard hears : Option (List Event)) : Type 0 where
  pub names : List Name
  pub keys_are : keys first ≡ names ++ keys now
  pub holds : (n : Name) (g : KeptAs) → get name_cmp now n ≡ Some g
      → IsKept (course_held r any n bs) g
  pub told : Hears heard hears (flat_map (left_of r any bs) names)

pub left-first : (r : Reading) (any : Bool) (bs : List (List ℕ)) (g : HeldsAs)
    (heard : Option (List Event))
    → HoldsEach r any bs g
    → IsLeft r any bs g.kept g.kept heard heard
left-first r any bs g heard h = record {
  names = [];
  keys_are = refl;
  holds =
      λ n k is. subst (λ (o : Option KeptAs). IsHeld (course_held r any n bs) o) is (h.each n);
  told = hears-nothing heard;
}

one_more : (r : Reading) (any : Bool) (bs : List (List ℕ)) (names : List Name) (n : Name)
    → flat_map (left_of r any bs) (names ++ n ∷ [])
    ≡ flat_map (left_of r any bs) names ++ left_of r any bs n
one_more r any bs names n =
    flat_map-append (left_of r any bs) names (n ∷ [])
    ∙ ap (λ es. flat_map (left_of r any bs) names ++ es) (append-nil (left_of r any bs n))

pub left-next : (r : Reading) (any : Bool) (bs : List (List ℕ))
    (first old new : BTreeMap Name KeptAs) (n : Name) (g : KeptAs)
    (heard hear hears : Option (List Event))
    → IsLeft r any bs first old heard hear
    → old.entries ≡ (n, g) ∷ new.entries
    → ((q : Name) → get name_cmp new q ≡ cond (is_at (name_cmp n) q) None (get name_cmp old q))
    → Hears hear hears (left_of r any bs n)
    → IsLeft r any bs first new heard hears
left-next r any bs first old new n g heard hear hears h pops gets told = record {
  names = h.names ++ n ∷ [];
  keys_are =
      h.keys_are ∙ ap (λ (es : List (Name × KeptAs)). h.names ++ keys_of es) pops
      ∙ sym (append_assoc h.names (n ∷ []) (keys new));
  holds = λ q k is. h.holds q k (still q k (is_at (name_cmp n) q) (sym (gets q) ∙ is));
  told = subst (Hears heard hears) (sym (one_more r any bs h.names n))
      (hears-more heard hear hears _ _ h.told told);
} where
  still : (q : Name) (k : KeptAs) (b : Bool)
      → cond b None (get name_cmp old q) ≡ Some k
      → get name_cmp old q ≡ Some k
  still q k true e = absurd (no_some k e)
  still q k false e = e

-- what is left of the names at which something is kept is what is left of each
pub leaves-kept : (r : Reading) (any : Bool) (bs : List (List ℕ)) (g : HeldsAs)
    → HoldsEach r any bs g
    → Leaves r any bs (flat_map (left_of r any bs) (keys g.kept))
leaves-kept r any bs g each = record {
  names = keys g.kept;
  in_order = each.in_order;
  all = λ n some. among n some (get name_cmp g.kept n) refl;
  are = refl;
} where
  among : (n : Name)
      → left_of r any bs n ≢ []
      → (o : Option KeptAs)
      → get name_cmp g.kept n ≡ o
      → list_any (same_name n) (keys g.kept) ≡ true
  among n some None is =
      let nothing_came = subst (λ (o : Option KeptAs). IsHeld (course_held r any n bs) o) is
      (each.each n) in
      absurd (some (ap (λ (k : Course). of n (news_left k)) nothing_came ∙ ap (of n) left-nothing))
  among n some (Some k) is = key-there n g.kept.entries k is

pub left-all : (r : Reading) (any : Bool) (bs : List (List ℕ)) (g : HeldsAs)
    (now : BTreeMap Name KeptAs) (heard hears : Option (List Event))
    → HoldsEach r any bs g
    → IsLeft r any bs g.kept now heard hears
    → now.entries ≡ []
    → (es : List Event) × Leaves r any bs es × Hears heard hears es
left-all r any bs g now heard hears each h none =
    let all : keys g.kept ≡ h.names =
    h.keys_are ∙ ap (λ (es : List (Name × KeptAs)). h.names ++ keys_of es) none
    ∙ append-nil h.names in (
      flat_map (left_of r any bs) (keys g.kept),
      leaves-kept r any bs g each,
      subst (λ (ns : List Name). Hears heard hears (flat_map (left_of r any bs) ns)) (sym all)
          h.told,
    )

-- and where a front part was told of what is left of the next name
pub left-part : (r : Reading) (any : Bool) (bs : List (List ℕ)) (g : HeldsAs)
    (old new : BTreeMap Name KeptAs) (n : Name) (x : KeptAs)
    (heard hear hears : Option (List Event))
    → HoldsEach r any bs g
    → IsLeft r any bs g.kept old heard hear
    → old.entries ≡ (n, x) ∷ new.entries
    → HearsPart hear hears (left_of r any bs n)
    → (es : List Event) × Leaves r any bs es × HearsPart heard hears es
left-part r any bs g old new n x heard hear hears each h pops told =
    let left = left_of r any bs in
    let all : keys g.kept ≡ h.names ++ n ∷ keys new =
    h.keys_are ∙ ap (λ (es : List (Name × KeptAs)). h.names ++ keys_of es) pops in (
      flat_map left (keys g.kept),
      leaves-kept r any bs g each,
      subst (λ (es : List Event). HearsPart heard hears es)
          (sym (ap (flat_map left) all ∙ flat_map-append left h.names (n ∷ keys new)))
          (part-more heard hear hears (flat_map left h.names) _ h.told
          (part-front hear hears (left n) (flat_map left (keys new)) told)),
    )

-- what is left of a name is told
pub left-told : (n : Name) (w : News) (h : Course)
    → w ≡ parts_dropped h.held.new
    → (highest h.held.new.parts == 0) ≡ false
    → ◌≡◌ {A = List Event} ((n, w) ∷ []) (of n (news_left h))
left-told n w h is some =
    ap (λ (x : News). (n, x) ∷ []) is
    ∙ sym (ap (λ (b : Bool). of n (cond b [] (parts_dropped h.held.new ∷ []))) some)

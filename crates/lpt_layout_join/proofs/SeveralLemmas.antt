-- What is kept of each transaction, a piece further.
use Rattle.std.proofs.Common.{◌≡◌, ◌∙◌, ap, sym, subst, refl, inl, inr, ◌⊎◌, ℕ, ◌+◌, ◌≤◌, ◌<◌, Bool, true, false, if◌then◌else◌, ◌||◌, List, [], ◌∷◌, ◌++◌, length, Option, Some, None, is_some, append-nil, append_assoc, arith, cond, Ok}
use Rattle.std.specs.BTreeMap.{is_at}
use Rattle.std.specs.Map.{lookup}
use Rattle.std.specs.Ordering.{is_eq}
use Rattle.std.proofs.lemmas.Bool.{or_parts}
use Rattle.lpt_part.specs.Parts as part
use Rattle.lpt_stream.specs.declared.piece_kind.PieceKind.{PieceKind}
use Rattle.lpt_stream.specs.declared.piece_kind.PieceKind.TheVariants.{Whole, Damaged, Stray}
use Rattle.lpt_stream.specs.Pieces.{Piece, octets_in, packet_before, packets_of, up_to_limit}
use Rattle.lpt_carried.specs.declared.name.Name.{Name}
use Rattle.lpt_carried.specs.declared.reading.Reading.{Reading}
use Rattle.lpt_carried.specs.Carried.{Named, part_carried, name_of, part_of, same_name}
use Rattle.lpt_carried.proofs.NameLemmas.{same_name-refl, same_name-true}
use Rattle.lpt_layout_join.specs.declared.gathering.Gathering.{Gathering}
use Rattle.lpt_layout_join.specs.declared.gatherings.Gatherings.{Gatherings}
use Rattle.lpt_layout_join.specs.Counts.{all_counted, nothing_counted}
use Rattle.lpt_layout_join.specs.Gathered.{carry, part_in}
use Rattle.lpt_layout_join.specs.Gatherings.{Gives, GivesEach, IsKept, IsLone, LoneIs, is_wanted, kept_of}
use Rattle.lpt_layout_join.specs.GatheringsInside.{IsAdded}
use Rattle.lpt_layout_join.specs.Names.{name_cmp}
use Rattle.lpt_layout_join.proofs.GatherLemmas.{any-piece, gives-other}
use Rattle.lpt_layout_join.proofs.NameLemmas.{name_tied}

no_true : true ≡ false → ⊥
no_true e = cc

pub not_some : (o : Option part.Piece) → is_some o ≡ false → o ≡ None
not_some None h = refl
not_some (Some x) h = absurd (no_true h)

-- the packet
abbrev pub packet : List ℕ → Piece
packet b = record { kind = Whole; octets = b }

-- ---- of one name

module _ (r : Reading) (n : Name) where
  carry-front : (k : PieceKind) (b : List ℕ) (bs : List (List ℕ))
      → carry r n (packet_before k b bs) ≡ false
      → (part_in r n k b ≡ None) × (carry r n bs ≡ false)
  carry-front Whole b bs h =
      let parts = or_parts (is_some (part_of n (part_carried r b))) (carry r n bs) h in
      (not_some (part_of n (part_carried r b)) parts.0, parts.1)
  carry-front Damaged b bs h = (refl, h)
  carry-front Stray b bs h = (refl, h)

  gives-run : (ps qs : List Piece) (g : Gathering)
      → Gives r n ps g
      → carry r n (packets_of qs) ≡ false
      → Gives r n (ps ++ qs) g
  gives-run ps [] g h none = subst (λ x. Gives r n x g) (sym (append-nil ps)) h
  gives-run ps (q ∷ qs) g h none =
      let parts = carry-front q.kind q.octets (packets_of qs) none in
      subst (λ x. Gives r n x g) (append_assoc ps (q ∷ []) qs)
      (gives-run (ps ++ q ∷ []) qs g (gives-other r n ps q g h parts.0) parts.1)

  -- pieces that carry no part of a transaction give of it what no piece gives
  pub gives-none : (ps : List Piece) (g : Gathering)
      → Gives r n [] g
      → carry r n (packets_of ps) ≡ false
      → Gives r n ps g
  gives-none ps g h none = gives-run [] ps g h none

  carry-next : (ps : List Piece) (p : Piece)
      → carry r n (packets_of (ps ++ p ∷ []))
      ≡ (is_some (part_in r n p.kind p.octets) || carry r n (packets_of ps))
  carry-next ps p = any-piece r n is_some refl ps p

  -- a piece that carries no part of the transaction leaves what is kept
  pub kept-other : (ps : List Piece) (p : Piece) (more : Bool) (o : Option Gathering)
      → part_in r n p.kind p.octets ≡ None
      → IsKept r n ps more o
      → IsKept r n (ps ++ p ∷ []) more o
  kept-other ps p more None none h = λ few.
      carry-next ps p ∙ ap (λ o. is_some o || carry r n (packets_of ps)) none ∙ h few
  kept-other ps p more (Some g) none h = (
    gives-other r n ps p g h.0 none,
    carry-next ps p ∙ ap (λ o. is_some o || carry r n (packets_of ps)) none ∙ h.1,
  )

  -- one that does
  pub kept-part : (ps : List Piece) (b : List ℕ) (more : Bool) (q : part.Piece) (g : Gathering)
      → part_of n (part_carried r b) ≡ Some q
      → Gives r n (ps ++ packet b ∷ []) g
      → IsKept r n (ps ++ packet b ∷ []) more (Some g)
  kept-part ps b more q g some h =
      (h, carry-next ps (packet b) ∙ ap (λ o. is_some o || carry r n (packets_of ps)) some)

-- ---- of each

-- a piece that carries no part of any that is wanted
pub each-other : (r : Reading) (w : Option Name) (ps : List Piece) (p : Piece) (g : Gatherings)
    → ((n : Name) → is_wanted w n ≡ true → part_in r n p.kind p.octets ≡ None)
    → GivesEach r w ps g
    → GivesEach r w (ps ++ p ∷ []) g
each-other r w ps p g none h = record {
  each = λ n its. kept-other r n ps p g.has_more (kept_of g n) (none n its) (h.each n its);
  lone = h.lone;
  most = h.most;
  full = h.full;
}

-- nothing of a transaction was kept, and there was room for it; or something was
abbrev pub HasPlace : Name → (old new : Gatherings) → Type 0
HasPlace n old new =
    ((x : Gathering) × (kept_of old n ≡ Some x)
    × (length new.kept.entries ≡ length old.kept.entries))
    ⊎ ((kept_of old n ≡ None) × (length new.kept.entries ≡ length old.kept.entries + 1)
    × (old.has_more ≡ false) × (length old.kept.entries < 64))

-- nothing was, and there was no room
abbrev pub IsFull : Gatherings → Type 0
IsFull g = (g.has_more ≡ true) ⊎ (64 ≤ length g.kept.entries)

full_size : (g : Gatherings)
    → IsFull g
    → length g.kept.entries ≤ 64
    → (g.has_more ≡ true → length g.kept.entries ≡ 64)
    → length g.kept.entries ≡ 64
full_size g (inl more) most full = full more
full_size g (inr many) most full = omega arith

module _ (n : Name) (old new : Gatherings) (place : HasPlace n old new) where
  place_most : length old.kept.entries ≤ 64 → length new.kept.entries ≤ 64
  place_most most = elim place [
    | inl h ↦ omega (arith, h.2)
    | inr h ↦ omega (arith, h.1, h.3)
  ]

  place_full : (old.has_more ≡ true → length old.kept.entries ≡ 64)
      → old.has_more ≡ true
      → length new.kept.entries ≡ 64
  place_full full more = elim place [
    | inl h ↦ h.2 ∙ full more
    | inr h ↦ absurd (no_true (sym more ∙ h.2))
  ]

-- ---- where one is wanted

abbrev pub at_name : Name → List (Name × Gathering) → Option Gathering
at_name m es = lookup (is_at (name_cmp m)) es

some_none : (x : Gathering) → ◌≡◌ {A = Option Gathering} (Some x) None → ⊥
some_none x h = cc

pub at-own : (m : Name) (x : Gathering) → at_name m ((m, x) ∷ []) ≡ Some x
at-own m x =
    ap (λ (t : Bool). cond t (Some x) None) (name_tied m m ∙ same_name-refl m)

at-one : (m : Name) (e : Name × Gathering) (g : Gathering)
    → at_name m (e ∷ []) ≡ Some g
    → m ≡ e.0
at-one m e g h = by (is_eq (name_cmp m e.0)) refl where
  by : (t : Bool) → is_eq (name_cmp m e.0) ≡ t → m ≡ e.0
  by true is = same_name-true m e.0 (sym (name_tied m e.0) ∙ is)
  by false is =
      absurd (some_none g (sym h ∙ ap (λ (t : Bool). cond t (Some e.1) None) is))

-- of the one that is wanted something is kept now, and of no other
lone-size : (m : Name) (old new : Gatherings)
    → IsLone m old
    → HasPlace m old new
    → length new.kept.entries ≡ 1
lone-size m old new lone place = elim place [
  | inl h ↦ elim lone.1 [
    | inl empty ↦ absurd (some_none h.0 (sym h.1 ∙ ap (at_name m) empty))
    | inr one ↦ h.2 ∙ ap length one.1
  ]
  | inr h ↦ elim lone.1 [
    | inl empty ↦ h.1 ∙ ap (λ (es : List (Name × Gathering)). length es + 1) empty
    | inr one ↦
        absurd (some_none one.0 (sym (ap (at_name m) one.1 ∙ at-own m one.0) ∙ h.0))
  ]
]

one-entry : (m : Name) (g : Gathering) (es : List (Name × Gathering))
    → length es ≡ 1
    → at_name m es ≡ Some g
    → (x : Gathering) × (es ≡ (m, x) ∷ [])
one-entry m g [] size at = absurd (omega (arith, size))
one-entry m g (e ∷ []) size at = (e.1, λ i. (sym (at-one m e g at) i, e.1) ∷ [])
one-entry m g (e ∷ f ∷ es) size at = absurd (omega (arith, size))

module _ (name : Name) (old new : Gatherings) (g : Gathering)
    (place : HasPlace name old new)
    (some : kept_of new name ≡ Some g)
    (more : new.has_more ≡ old.has_more) where
  lone-own : IsLone name old → IsLone name new
  lone-own lone = (
    more ∙ lone.0,
    inr (one-entry name g new.kept.entries (lone-size name old new lone place) some),
  )

  lone-part : (w : Option Name) → is_wanted w name ≡ true → LoneIs w old → LoneIs w new
  lone-part None its lone = tt
  lone-part (Some m) its lone =
      let same = same_name-true name m its in
      subst (λ (k : Name). IsLone k new) same
      (lone-own (subst (λ (k : Name). IsLone k old) (sym same) lone))

-- there is room for it
lone-room : (w : Option Name) (g : Gatherings)
    → LoneIs w g
    → IsFull g
    → LoneIs w (record g { has_more = true })
lone-room None g lone full = tt
lone-room (Some m) g lone full = absurd (elim full [
  | inl h ↦ no_true (sym h ∙ lone.0)
  | inr many ↦ elim lone.1 [
    | inl empty ↦ let size = ap length empty in omega arith
    | inr one ↦ let size = ap length one.1 in omega arith
  ]
])

-- ---- a packet that carries a part that is wanted

module _ (r : Reading) (w : Option Name) (b : List ℕ) (c : Named)
    (some : part_carried r b ≡ Ok c) (wanted : is_wanted w (name_of c) ≡ true) where
  abbrev name : Name
  name = name_of c

  pub part-its : part_of name (part_carried r b) ≡ Some c.piece
  part-its =
      ap (part_of name) some
      ∙ ap (λ (t : Bool). if t then Some c.piece else None) (same_name-refl name)

  part-other : (n : Name) → same_name name n ≡ false → part_of n (part_carried r b) ≡ None
  part-other n other =
      ap (part_of n) some ∙ ap (λ (t : Bool). if t then Some c.piece else None) other

  module _ (ps : List Piece) (old new : Gatherings)
      (others : (n : Name) → same_name name n ≡ false → kept_of new n ≡ kept_of old n)
      (rises : (n : Name) (o : Option Gathering)
      → IsKept r n (ps ++ packet b ∷ []) old.has_more o
      → IsKept r n (ps ++ packet b ∷ []) new.has_more o)
      (its : IsKept r name (ps ++ packet b ∷ []) new.has_more (kept_of new name))
      (h : GivesEach r w ps old) where
    each-at : (n : Name) (same : Bool) → same_name name n ≡ same → is_wanted w n ≡ true
        → IsKept r n (ps ++ packet b ∷ []) new.has_more (kept_of new n)
    each-at n true is wants =
        subst (λ m. IsKept r m (ps ++ packet b ∷ []) new.has_more (kept_of new m))
        (same_name-true name n is) its
    each-at n false is wants =
        subst (λ o. IsKept r n (ps ++ packet b ∷ []) new.has_more o) (sym (others n is))
        (rises n (kept_of old n) (kept-other r n ps (packet b) old.has_more (kept_of old n)
        (part-other n is) (h.each n wants)))

    each-next : (n : Name) → is_wanted w n ≡ true
        → IsKept r n (ps ++ packet b ∷ []) new.has_more (kept_of new n)
    each-next n wants = each-at n (same_name name n) refl wants

  rises_more : (ps : List Piece) (more : Bool) (n : Name) (o : Option Gathering)
      → IsKept r n ps more o
      → IsKept r n ps true o
  rises_more ps more n None h = λ few. absurd (no_true few)
  rises_more ps more n (Some g) h = h

  -- nothing is kept of it
  pub each-more : (ps : List Piece) (old : Gatherings)
      → kept_of old name ≡ None
      → IsFull old
      → GivesEach r w ps old
      → GivesEach r w (ps ++ packet b ∷ []) (record old { has_more = true })
  each-more ps old none is h =
      let new = record old { has_more = true } in
      let size = full_size old is h.most h.full in record {
        each = each-next ps old new (λ n other. refl)
            (λ n o k. rises_more (ps ++ packet b ∷ []) old.has_more n o k)
            (subst (λ o. IsKept r name (ps ++ packet b ∷ []) true o) (sym none)
            (λ few. absurd (no_true few))) h;
        lone = lone-room w old h.lone is;
        most = omega arith;
        full = λ more. size;
      }

  -- this is
  pub each-part : (ps : List Piece) (old new : Gatherings) (g : Gathering)
      → ((n : Name) → same_name name n ≡ false → kept_of new n ≡ kept_of old n)
      → kept_of new name ≡ Some g
      → new.has_more ≡ old.has_more
      → HasPlace name old new
      → Gives r name (ps ++ packet b ∷ []) g
      → GivesEach r w ps old
      → GivesEach r w (ps ++ packet b ∷ []) new
  each-part ps old new g others its more place gives h = record {
    each = each-next ps old new others
        (λ n o k. subst (λ (m : Bool). IsKept r n (ps ++ packet b ∷ []) m o) (sym more) k)
        (subst (λ o. IsKept r name (ps ++ packet b ∷ []) new.has_more o) (sym its)
        (kept-part r name ps b new.has_more c.piece g part-its gives)) h;
    lone = lone-part name old new g place its more w wanted h.lone;
    most = place_most name old new place h.most;
    full = λ is. place_full name old new place h.full (sym more ∙ is);
  }

  -- it is added to what was kept of it
  pub each-added : (ps : List Piece) (missing place : ℕ) (old new : Gatherings)
      → missing ≡ (all_counted r nothing_counted (packets_of ps ++ b ∷ [])).missing
      → place ≡ up_to_limit (octets_in ps)
      → IsAdded name missing place c.piece old new
      → GivesEach r w ps old
      → GivesEach r w (ps ++ packet b ∷ []) new
  each-added ps missing place old new counts at added h =
      let was : IsKept r name ps old.has_more (Some added.was) =
      subst (λ o. IsKept r name ps old.has_more o) added.there (h.each name wanted) in
      each-part ps old new added.now added.others added.kept added.more
      (inl (added.was, added.there, added.size))
      (added.gains r ps b was.0 counts at part-its) h

  -- nothing was kept of it, and it is added to what nothing gives
  pub each-begun : (ps : List Piece) (old new : Gatherings) (empty g : Gathering)
      → kept_of old name ≡ None
      → (old.has_more ≡ false) × (length old.kept.entries < 64)
      → Gives r name [] empty
      → (Gives r name ps empty → Gives r name (ps ++ packet b ∷ []) g)
      → ((n : Name) → same_name name n ≡ false → kept_of new n ≡ kept_of old n)
      → kept_of new name ≡ Some g
      → new.has_more ≡ old.has_more
      → length new.kept.entries ≡ length old.kept.entries + 1
      → GivesEach r w ps old
      → GivesEach r w (ps ++ packet b ∷ []) new
  each-begun ps old new empty g none room start adds others its more size h =
      let few : IsKept r name ps old.has_more None =
      subst (λ o. IsKept r name ps old.has_more o) none (h.each name wanted) in
      each-part ps old new g others its more (inr (none, size, room.0, room.1))
      (adds (gives-none r name ps empty start (few room.0))) h

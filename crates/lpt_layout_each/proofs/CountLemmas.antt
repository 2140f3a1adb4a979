-- How many messages of a name there are, with one event more.
use Rattle.std.proofs.Common.{◌≡◌, ◌∙◌, ap, sym, subst, refl, arith, ℕ, ◌+◌, Bool, true, false, cond, if◌then◌else◌, List, [], ◌∷◌, ◌++◌, length, Option, Some, None}
use Rattle.std.specs.Prelude.{IfSome, unwrap_or}
use Rattle.std.specs.BTreeMap.{BTreeMap, get, is_at}
use Rattle.lpt_carried.specs.declared.name.Name.{Name}
use Rattle.lpt_carried.specs.Carried.{same_name}
use Rattle.lpt_carried.proofs.NameLemmas.{same_name-refl, same_name-true}
use Rattle.lpt_layout_join.proofs.NameLemmas.{name_tied}
use Rattle.lpt_layout_join.specs.Names.{name_cmp}
use Rattle.lpt_layout_each.specs.News.{Event, News, messages_of}
use Rattle.lpt_layout_each.specs.Files.{count_for, messages_for, with_event}
use Rattle.lpt_layout_each.specs.Filing.{count_at}

count-append : (n : Name) (xs ys : List Event)
    → count_for n (xs ++ ys) ≡ count_for n xs + count_for n ys
count-append n [] ys = omega arith
count-append n (x ∷ xs) ys = omega (arith, count-append n xs ys)

pub count-next : (n : Name) (es : List Event) (e : Event)
    → count_for n (es ++ e ∷ []) ≡ count_for n es + messages_for n e
count-next n es e = omega (arith, count-append n es (e ∷ []))

-- of another name there are as many
for-other : (n : Name) (e : Event) → same_name e.0 n ≡ false → messages_for n e ≡ 0
for-other n e other = ap (λ (b : Bool). if b then length (messages_of e.1) else 0) other

-- of its own as many more as it has
for-own : (e : Event) → messages_for e.0 e ≡ length (messages_of e.1)
for-own e = ap (λ (b : Bool). if b then length (messages_of e.1) else 0) (same_name-refl e.0)

-- these are the counts
abbrev pub Counts : BTreeMap Name ℕ → Option (List Event) → Type 0
Counts counts heard = (n : Name) → IfSome heard (λ es. count_at counts n ≡ count_for n es)

module _ (old new : BTreeMap Name ℕ) (name : Name) (w : News) where
  -- where it has a message, the name's count went up by one
  pub counts-more : (heard hears : Option (List Event)) (before : ℕ)
      → hears ≡ with_event (name, w) heard
      → length (messages_of w) ≡ 1
      → before ≡ count_at old name
      → count_at new name ≡ before + 1
      → ((n : Name) → same_name name n ≡ false → count_at new n ≡ count_at old n)
      → Counts old heard
      → Counts new hears
  counts-more None hears before h one is its others counts n =
      subst (λ (o : Option (List Event)). IfSome o (λ es. count_at new n ≡ count_for n es))
      (sym h) tt
  counts-more (Some es) hears before h one is its others counts n =
      subst (λ (o : Option (List Event)). IfSome o (λ es. count_at new n ≡ count_for n es))
      (sym h) (by_name (same_name name n) refl) where
        by_name : (b : Bool)
            → same_name name n ≡ b
            → count_at new n ≡ count_for n (es ++ (name, w) ∷ [])
        by_name true same =
            subst (λ (m : Name). count_at new m ≡ count_for m (es ++ (name, w) ∷ []))
            (same_name-true name n same)
            (omega (
              arith,
              its,
              is,
              one,
              counts name,
              for-own (name, w),
              count-next name es (name, w),
            ))
        by_name false other =
            omega (
              arith,
              others n other,
              counts n,
              for-other n (name, w) other,
              count-next n es (name, w),
            )

  -- else all are what they were
  pub counts-same : (heard hears : Option (List Event))
      → hears ≡ with_event (name, w) heard
      → length (messages_of w) ≡ 0
      → ((n : Name) → count_at new n ≡ count_at old n)
      → Counts old heard
      → Counts new hears
  counts-same None hears h none same counts n =
      subst (λ (o : Option (List Event)). IfSome o (λ es. count_at new n ≡ count_for n es))
      (sym h) tt
  counts-same (Some es) hears h none same counts n =
      subst (λ (o : Option (List Event)). IfSome o (λ es. count_at new n ≡ count_for n es))
      (sym h) (omega (
        arith,
        same n,
        counts n,
        none_for (same_name name n) refl,
        count-next n es (name, w),
      )) where
        none_for : (b : Bool) → same_name name n ≡ b → messages_for n (name, w) ≡ 0
        none_for true is =
            ap (λ (b : Bool). if b then length (messages_of w) else 0) is ∙ none
        none_for false is = for-other n (name, w) is

-- so many were noted of a name, where this is known of it
pub count-here : (heard : Option (List Event)) (n : Name) (noted before : ℕ)
    → before ≡ noted
    → IfSome heard (λ es. noted ≡ count_for n es)
    → IfSome heard (λ es. before ≡ count_for n es)
count-here None n noted before is h = tt
count-here (Some es) n noted before is h = is ∙ h

-- noted again, the counts stay
pub note-same : (old new : BTreeMap Name ℕ) (name : Name) (count : ℕ)
    → ((q : Name) → get name_cmp new q
    ≡ cond (is_at (name_cmp name) q) (Some count) (get name_cmp old q))
    → count_at old name ≡ count
    → (q : Name) → count_at new q ≡ count_at old q
note-same old new name count gets is q = by_name (is_at (name_cmp name) q) refl where
  by_name : (b : Bool) → is_at (name_cmp name) q ≡ b → count_at new q ≡ count_at old q
  by_name true same =
      ap (λ (o : Option ℕ). unwrap_or o 0) (gets q)
      ∙ ap (λ (b : Bool). unwrap_or (cond b (Some count) (get name_cmp old q)) 0) same
      ∙ sym is
      ∙ ap (λ (n : Name). count_at old n) (same_name-true name q (sym (name_tied name q) ∙ same))
  by_name false other =
      ap (λ (o : Option ℕ). unwrap_or o 0) (gets q)
      ∙ ap (λ (b : Bool). unwrap_or (cond b (Some count) (get name_cmp old q)) 0) other

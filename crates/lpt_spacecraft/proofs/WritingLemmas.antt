-- Packets written one behind the other.
use Rattle.std.proofs.Common.{◌≡◌, ◌∙◌, ap, sym, subst, refl, ℕ, zero, suc, ◌+◌, ◌-◌, ◌<◌, ◌≤◌, arith, List, [], ◌∷◌, ◌++◌, length, drop, get_or, Option, append-nil, append_assoc, add-one, drop-cons, slice_index_or}
use Rattle.std.proofs.lemmas.List.{drop_more}
use Rattle.std.proofs.KnownBytes.{Appends-trans}
use Rattle.std.specs.Io.KnownBytes.{Appends, Consumes}
use Rattle.lpt_text.specs.Streams.{AppendsPart}
use Rattle.lpt_text.proofs.StreamLemmas.{part_after, part_of_front}
use Rattle.lpt_stream.specs.Streams.{all_octets}

-- the octets of packets in two lists
pub octets-append : (xs ys : List (List ℕ))
    → all_octets (xs ++ ys) ≡ all_octets xs ++ all_octets ys
octets-append [] ys = refl
octets-append (x ∷ xs) ys =
    ap (λ z. x ++ z) (octets-append xs ys) ∙ sym (append_assoc x (all_octets xs) (all_octets ys))

-- one packet more
pub appends-one : (a b c : Option (List ℕ)) (xs : List (List ℕ)) (x : List ℕ)
    → Appends a b (all_octets xs)
    → Appends b c x
    → Appends a c (all_octets (xs ++ x ∷ []))
appends-one a b c xs x h k =
    subst (Appends a c)
    (sym (octets-append xs (x ∷ []) ∙ ap (λ z. all_octets xs ++ z) (append-nil x)))
    (Appends-trans a b c (all_octets xs) x h k)

-- packets behind others
pub appends-list : (a b c : Option (List ℕ)) (xs ys : List (List ℕ))
    → Appends a b (all_octets xs)
    → Appends b c (all_octets ys)
    → Appends a c (all_octets (xs ++ ys))
appends-list a b c xs ys h k =
    subst (Appends a c) (sym (octets-append xs ys))
    (Appends-trans a b c (all_octets xs) (all_octets ys) h k)

-- ---- what is written, and what is left

-- octets that were written, which with those that are left are all
abbrev pub Wrote : (old new : Option (List ℕ)) → (left all : List ℕ) → Type 0
Wrote old new left all = (done : List ℕ) × Appends old new done × (done ++ left ≡ all)

-- with more written
pub wrote-more : (old mid new : Option (List ℕ)) (more left rest all : List ℕ)
    → Wrote old mid left all
    → left ≡ more ++ rest
    → Appends mid new more
    → Wrote old new rest all
wrote-more old mid new more left rest all h is step = (
  h.0 ++ more,
  Appends-trans old mid new h.0 more h.1 step,
  append_assoc h.0 more rest ∙ ap (λ x. h.0 ++ x) (sym is) ∙ h.2,
)

-- and with a front part of more
pub wrote-part-more : (old mid new : Option (List ℕ)) (more left rest all : List ℕ)
    → Wrote old mid left all
    → left ≡ more ++ rest
    → AppendsPart mid new more
    → AppendsPart old new all
wrote-part-more old mid new more left rest all h is part =
    subst (AppendsPart old new) h.2
    (part_after old mid new h.0 left h.1
    (subst (AppendsPart mid new) (sym is) (part_of_front mid new more rest part)))

-- the packets from a place on
pub octets-from : (xs : List (List ℕ)) (i : ℕ)
    → i < length xs
    → all_octets (drop i xs) ≡ get_or xs i [] ++ all_octets (drop (i + 1) xs)
octets-from xs i h =
    let cons : drop i xs ≡ get_or xs i [] ∷ drop (i + 1) xs = rw (add-one, drop-cons xs i []) refl
    in
    ap all_octets cons

-- the packet at a place, and those behind it
pub octets-at : (xs : List (List ℕ)) (i : ℕ) (x b : List ℕ)
    → i < length xs
    → x ≡ slice_index_or xs i x
    → b ≡ x
    → all_octets (drop i xs) ≡ b ++ all_octets (drop (i + 1) xs)
octets-at xs i x b h is same =
    ap all_octets (drop_more xs i x h)
    ∙ ap (λ y. y ++ all_octets (drop (i + 1) xs)) (sym is ∙ sym same)

-- ---- front parts

-- a front part of the first packets is one of all
pub part-first : (a b : Option (List ℕ)) (xs ys : List (List ℕ))
    → AppendsPart a b (all_octets xs)
    → AppendsPart a b (all_octets (xs ++ ys))
part-first a b xs ys h =
    subst (AppendsPart a b) (sym (octets-append xs ys))
    (part_of_front a b (all_octets xs) (all_octets ys) h)

-- and so is one of the others, behind the first
pub part-behind : (a b c : Option (List ℕ)) (xs ys : List (List ℕ))
    → Appends a b (all_octets xs)
    → AppendsPart b c (all_octets ys)
    → AppendsPart a c (all_octets (xs ++ ys))
part-behind a b c xs ys h k =
    subst (AppendsPart a c) (sym (octets-append xs ys))
    (part_after a b c (all_octets xs) (all_octets ys) h k)

-- what is made in some steps, each of which makes more behind what is there
abbrev pub Grows : (ℕ → List (List ℕ)) → Type 0
Grows f = (k : ℕ) → (more : List (List ℕ)) × (f (suc k) ≡ f k ++ more)

grown : (f : ℕ → List (List ℕ)) (step : Grows f) (k j : ℕ)
    → (more : List (List ℕ)) × (f (k + j) ≡ f k ++ more)
grown f step k zero =
    let e : k + 0 ≡ k = omega arith in
    ([], ap f e ∙ sym (append-nil (f k)))
grown f step k (suc j) =
    let e : k + suc j ≡ suc (k + j) = omega arith in
    let r = grown f step k j in
    let s = step (k + j) in
    (r.0 ++ s.0, ap f e ∙ s.1 ∙ ap (λ x. x ++ s.0) r.1 ∙ append_assoc (f k) r.0 s.0)

-- a front part of what fewer steps make is one of what more make
pub part-grown : (f : ℕ → List (List ℕ)) (step : Grows f) (a b : Option (List ℕ)) (k n : ℕ)
    → k ≤ n
    → AppendsPart a b (all_octets (f k))
    → AppendsPart a b (all_octets (f n))
part-grown f step a b k n h part =
    let e : k + (n - k) ≡ n = omega arith in
    let r = grown f step k (n - k) in
    subst (λ x. AppendsPart a b (all_octets x)) (sym (ap f (sym e) ∙ r.1))
    (part-first a b (f k) r.0 part)

-- octets that were consumed, with none lost
pub none_lost : (a b : Option (List ℕ)) (stream : List ℕ) → Consumes a b stream → Consumes a b
    (stream ++ [])
none_lost a b stream h = subst (Consumes a b) (sym (append-nil stream)) h

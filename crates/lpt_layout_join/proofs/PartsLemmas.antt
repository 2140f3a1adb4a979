-- Parts of one message agree with one another, and are joined to it.
use Rattle.std.proofs.Common.{◌≡◌, ◌≢◌, ◌∙◌, ap, sym, subst, refl, ℕ, zero, suc, ◌<◌, ◌≤◌, ◌==◌, nat_le, Bool, true, false, not, if◌then◌else◌, List, [], ◌∷◌, ◌++◌, length, arith, eqb-true}
use Rattle.std.specs.Prelude.{Option, Some, None, bytes_eq, ◌||◌}
use Rattle.std.specs.List.{AllByRecursion}
use Rattle.std.specs.Option.{option_or}
use Rattle.std.proofs.lemmas.Bool.Decides.{nat_tests}
use Rattle.std.proofs.lemmas.Grind.{common_steps}
use Rattle.lpt_part.specs.declared.kind.Kind.{Kind}
use Rattle.lpt_part.specs.declared.kind.Kind.TheVariants.{First, Middle, Last}
use Rattle.lpt_part.specs.PartRanges.{LengthFits}
use Rattle.lpt_part.specs.Parts.{Piece, length_test, nth_part}
use Rattle.lpt_part.specs.Splitting.{kind_at, part_count, part_of, parts_joined}
use Rattle.lpt_part.proofs.SplitLemmas.{part_count-two}
use Rattle.lpt_layout.proofs.SplitLemmas.{part_of-fits, parts_joined-all}
use Rattle.lpt_layout_join.specs.declared.last_part.LastPart.{LastPart}
use Rattle.lpt_layout_join.specs.Came.{first_told, octets_told, size_by, size_told, last_by, last_told, octets_of, size_of, last_of, highest, other_octets, other_size, behind_last, other_last, other_end, contradicts, and_more, octets_joined, joined_by, message_of}
use Rattle.lpt_layout_join.specs.Laws.{IsSplit}
use Rattle.lpt_layout_join.proofs.CameLemmas.{first_told-more}

-- ---- of any parts

-- what is told of parts is told by one of them
told-by : {A : Type 0} (P : A → Type 0) (Q : Piece → Type 0) (tell : Piece → Option A)
    → ((q : Piece) (x : A) → Q q → tell q ≡ Some x → P x)
    → (qs : List Piece)
    → AllByRecursion Q qs
    → (x : A)
    → first_told tell qs ≡ Some x
    → P x
told-by P Q tell h [] all x e = absurd cc
told-by {A} P Q tell h (q ∷ qs) all x e =
    by (tell q) refl (told-by P Q tell h qs all.1 x) where
      by : (o : Option A) → tell q ≡ o → (first_told tell qs ≡ Some x → P x) → P x
      by (Some y) is rest =
          let first : Some y ≡ Some x =
          ap (λ (o : Option A). option_or o (first_told tell qs)) (sym is) ∙ e in
          h q x all.0 (is ∙ first)
      by None is rest =
          rest (ap (λ (o : Option A). option_or o (first_told tell qs)) (sym is) ∙ e)

-- a part that came has no greater number than the greatest
octets-highest : (qs : List Piece) (n : ℕ) (x : List ℕ)
    → octets_of qs n ≡ Some x
    → n ≤ highest qs
octets-highest [] n x e = absurd cc
octets-highest (q ∷ qs) n x e = by (q.number == n) refl (octets-highest qs n x) where
  by : (t : Bool) → (q.number == n) ≡ t
      → (octets_of qs n ≡ Some x → n ≤ highest qs)
      → n ≤ highest (q ∷ qs)
  by true is rest = let same : q.number ≡ n = eqb-true q.number n is in omega arith
  by false is rest =
      let below : n ≤ highest qs =
      rest (ap (λ (t : Bool). option_or (if t then Some q.octets else None) (octets_of qs n))
      (sym is) ∙ e) in
      omega arith

-- once a part came, its octets stay
pub octets-kept : (qs : List Piece) (q : Piece) (n : ℕ) (x : List ℕ)
    → octets_of qs n ≡ Some x
    → octets_of (qs ++ q ∷ []) n ≡ Some x
octets-kept qs q n x e =
    first_told-more (octets_told n) qs q ∙ ap (λ o. option_or o (octets_told n q)) e

pub bytes_eq-refl : (b : List ℕ) → bytes_eq b b ≡ true
bytes_eq-refl [] = refl
bytes_eq-refl (x ∷ b) =
    let here : (x == x) ≡ true = grind (arith, nat_tests) in
    let rest : bytes_eq b b ≡ true = bytes_eq-refl b in
    rw here rest

-- a length that fits passes its test
pub length_test-fits : (kind : Kind) (n len p : ℕ)
    → LengthFits kind n len p
    → length_test kind n len p ≡ true
length_test-fits kind n len p h = grind (arith, nat_tests, common_steps)

-- ---- of a message

kind-last : (k n : ℕ) → 2 ≤ n → kind_at k n ≡ Last → k ≡ n
kind-last k n two e = by (k == 1) (k == n) refl refl where
  by : (s t : Bool) → (k == 1) ≡ s → (k == n) ≡ t → k ≡ n
  by s true first last = eqb-true k n last
  by true false first last =
      absurd (cc (ap (λ (b : Bool). if b then First else if k == n then Last else Middle) first, e))
  by false false first last =
      absurd (cc (
        ap (λ (b : Bool). if b then First else if k == n then Last else Middle) first,
        ap (λ (b : Bool). if b then Last else Middle) last,
        e,
      ))

kind-is-last : (k n : ℕ) → 2 ≤ n → k ≡ n → kind_at k n ≡ Last
kind-is-last k n two e =
    let first : (k == 1) ≡ false = grind (arith, nat_tests) in
    let last : (k == n) ≡ true = grind (arith, nat_tests) in
    rw (first, last) refl

module _ (m : List ℕ) (p id : ℕ) (split : IsSplit p m) where
  abbrev total : ℕ
  total = part_count (length m) p

  abbrev last_len : ℕ
  last_len = length (part_of m p total)

  abbrev nth : ℕ → Piece
  nth k = nth_part p id m k

  -- a part of the message
  pub record IsNth (q : Piece) : Type 0 where
    pub number : ℕ
    pub some : 1 ≤ number
    pub within : number ≤ total
    pub is : q ≡ nth number

  abbrev pub AreNth : List Piece → Type 0
  AreNth qs = AllByRecursion IsNth qs

  two : 2 ≤ total
  two = part_count-two (length m) p (omega (arith, split.size.0)) split.long

  fits : (k : ℕ) → 1 ≤ k → k ≤ total → LengthFits (kind_at k total) k (length (part_of m p k)) p
  fits k some within = (part_of-fits m p k split.size split.long split.short some within).1

  -- ---- what its parts tell

  octets-are : (n : ℕ) (qs : List Piece) → AreNth qs → (x : List ℕ)
      → octets_of qs n ≡ Some x
      → x ≡ part_of m p n
  octets-are n = told-by (λ (x : List ℕ). x ≡ part_of m p n) IsNth (octets_told n) one where
    at : (k : ℕ) (x : List ℕ) (t : Bool) → (k == n) ≡ t
        → octets_told n (nth k) ≡ Some x
        → x ≡ part_of m p n
    at k x true is e =
        let same : k ≡ n = eqb-true k n is in
        let it : Some (part_of m p k) ≡ Some x =
        ap (λ (b : Bool). if b then Some (part_of m p k) else None) (sym is) ∙ e in
        let here : part_of m p k ≡ x = cc in
        sym here ∙ ap (part_of m p) same
    at k x false is e =
        absurd (cc (ap (λ (b : Bool). if b then Some (part_of m p k) else None) (sym is) ∙ e))

    one : (q : Piece) (x : List ℕ) → IsNth q → octets_told n q ≡ Some x → x ≡ part_of m p n
    one q x h e =
        at h.number x (h.number == n) refl (ap (octets_told n) (sym h.is) ∙ e)

  size-by : (kind : Kind) (k len s : ℕ)
      → LengthFits kind k len p
      → size_by kind len ≡ Some s
      → s ≡ p
  size-by First k len s h e = let same : len ≡ s = cc in omega arith
  size-by Middle k len s h e = let same : len ≡ s = cc in omega arith
  size-by Last k len s h e = absurd cc

  size-is : (qs : List Piece) → AreNth qs → (s : ℕ) → size_of qs ≡ Some s → s ≡ p
  size-is = told-by (λ (s : ℕ). s ≡ p) IsNth size_told one where
    one : (q : Piece) (s : ℕ) → IsNth q → size_told q ≡ Some s → s ≡ p
    one q s h e =
        size-by (kind_at h.number total) h.number (length (part_of m p h.number)) s
        (fits h.number h.some h.within) (ap size_told (sym h.is) ∙ e)

  abbrev last_part : LastPart
  last_part = record { number = total; len = last_len }

  last-by : (kind : Kind) (k : ℕ) (l : LastPart)
      → (kind ≡ Last → k ≡ total)
      → last_by kind k (length (part_of m p k)) ≡ Some l
      → l ≡ last_part
  last-by First k l h e = absurd cc
  last-by Middle k l h e = absurd cc
  last-by Last k l h e =
      let it : record { number = k; len = length (part_of m p k) } ≡ l = cc in
      sym it ∙ ap (λ (n : ℕ). record { number = n; len = length (part_of m p n) }) (h refl)

  last-is : (qs : List Piece) → AreNth qs → (l : LastPart) → last_of qs ≡ Some l → l ≡ last_part
  last-is = told-by (λ (l : LastPart). l ≡ last_part) IsNth last_told one where
    one : (q : Piece) (l : LastPart) → IsNth q → last_told q ≡ Some l → l ≡ last_part
    one q l h e =
        last-by (kind_at h.number total) h.number l (kind-last h.number total two)
        (ap last_told (sym h.is) ∙ e)

  last-tells : (k : ℕ) → k ≡ total → last_told (nth k) ≡ None → ⊥
  last-tells k same e =
      let kind = kind-is-last k total two same in
      let it : last_by Last k (length (part_of m p k)) ≡ None =
      ap (λ (x : Kind). last_by x k (length (part_of m p k))) (sym kind) ∙ e in
      cc it

  -- none is behind the last one
  below : (qs : List Piece) → AreNth qs → last_of qs ≡ None → highest qs < total
  below [] all e = omega (arith, two)
  below (q ∷ qs) all e = by (last_told q) refl (below qs all.1) where
    by : (o : Option LastPart) → last_told q ≡ o
        → (last_of qs ≡ None → highest qs < total)
        → highest (q ∷ qs) < total
    by (Some l) is rest =
        absurd (cc (ap (λ (o : Option LastPart). option_or o (last_of qs)) (sym is) ∙ e))
    by None is rest =
        let less : highest qs < total =
        rest (ap (λ (o : Option LastPart). option_or o (last_of qs)) (sym is) ∙ e) in
        let number : q.number ≡ all.0.number = ap (λ (x : Piece). x.number) all.0.is in
        let isnt : all.0.number ≢ total = λ same. last-tells all.0.number same
        (ap last_told (sym all.0.is) ∙ is) in
        omega (arith, all.0.within)

  -- ---- a part more

  octets-agree : (k : ℕ) (o : Option (List ℕ))
      → ((x : List ℕ) → o ≡ Some x → x ≡ part_of m p k)
      → other_octets o (part_of m p k) ≡ false
  octets-agree k None h = refl
  octets-agree k (Some x) h =
      ap (λ (b : List ℕ). not (bytes_eq b (part_of m p k))) (h x refl)
      ∙ ap not (bytes_eq-refl (part_of m p k))

  size-agrees : (k : ℕ) (o : Option ℕ)
      → 1 ≤ k
      → k ≤ total
      → ((s : ℕ) → o ≡ Some s → s ≡ p)
      → other_size o (nth k) ≡ false
  size-agrees k None some within h = refl
  size-agrees k (Some s) some within h =
      ap (λ (n : ℕ). not (length_test (kind_at k total) k (length (part_of m p k)) n)) (h s refl)
      ∙ ap not (length_test-fits (kind_at k total) k (length (part_of m p k)) p
      (fits k some within))

  last-fits : LengthFits Last total last_len p
  last-fits =
      subst (λ (kind : Kind). LengthFits kind total last_len p) (kind-is-last total total two refl)
      (fits total (omega (arith, two)) (omega arith))

  before-last : (k len : ℕ) (o : Option LastPart) (q : Piece)
      → q.number ≡ k
      → length q.octets ≡ p
      → k < total
      → ((l : LastPart) → o ≡ Some l → l ≡ last_part)
      → behind_last o q ≡ false
  before-last k len None q is long less h = refl
  before-last k len (Some l) q is long less h =
      let before : nat_le total q.number ≡ false = grind (arith, nat_tests) in
      let passes = length_test-fits Last total last_len p last-fits in
      ap (λ (x : LastPart). behind_last (Some x) q) (h l refl)
      ∙ (λ i. before i || not (length_test Last total last_len (long i))) ∙ ap not passes

  at-last : (o : Option LastPart) (greatest : ℕ) (q : Piece)
      → q.number ≡ total
      → ((l : LastPart) → o ≡ Some l → l ≡ last_part)
      → (o ≡ None → greatest < total)
      → other_last o greatest q ≡ false
  at-last None greatest q is h less =
      let few : greatest < total = less refl in
      grind (arith, nat_tests)
  at-last (Some l) greatest q is h less =
      let same : (total == q.number) ≡ true = grind (arith, nat_tests) in
      ap (λ (x : LastPart). other_last (Some x) greatest q) (h l refl) ∙ ap not same

  end-agrees : (kind : Kind) (k : ℕ) (o : Option LastPart) (greatest : ℕ) (q : Piece)
      → q.number ≡ k
      → k ≤ total
      → LengthFits kind k (length q.octets) p
      → (kind ≡ Last → k ≡ total)
      → (k ≡ total → kind ≡ Last)
      → ((l : LastPart) → o ≡ Some l → l ≡ last_part)
      → (o ≡ None → greatest < total)
      → other_end kind o greatest q ≡ false
  end-agrees First k o greatest q is within fit last only h less =
      let isnt : k ≢ total = λ e. cc (only e) in
      before-last k p o q is (omega (arith, fit.least, fit.greatest)) (omega arith) h
  end-agrees Middle k o greatest q is within fit last only h less =
      let isnt : k ≢ total = λ e. cc (only e) in
      before-last k p o q is (omega (arith, fit.least, fit.greatest)) (omega arith) h
  end-agrees Last k o greatest q is within fit last only h less =
      at-last o greatest q (is ∙ last refl) h less

  -- a part of the message contradicts none of its parts
  pub agrees : (qs : List Piece) (k : ℕ)
      → AreNth qs
      → 1 ≤ k
      → k ≤ total
      → contradicts qs (nth k) ≡ false
  agrees qs k all some within =
      let octets = octets-agree k (octets_of qs k) (octets-are k qs all) in
      let size = size-agrees k (size_of qs) some within (size-is qs all) in
      let end = end-agrees (kind_at k total) k (last_of qs) (highest qs) (nth k) refl within
      (fits k some within) (kind-last k total two) (kind-is-last k total two) (last-is qs all)
      (below qs all) in
      (λ i. octets i || size i || end i)

  -- and stays one of them
  pub nth-more : (qs : List Piece) (k : ℕ)
      → AreNth qs
      → 1 ≤ k
      → k ≤ total
      → AreNth (qs ++ nth k ∷ [])
  nth-more [] k all some within =
      (record { number = k; some = some; within = within; is = refl }, tt)
  nth-more (q ∷ qs) k all some within = (all.0, nth-more qs k all.1 some within)

  -- its octets are there from then on
  pub octets-come : (qs : List Piece) (k : ℕ)
      → AreNth qs
      → octets_of (qs ++ nth k ∷ []) k ≡ Some (part_of m p k)
  octets-come qs k all =
      let same : (k == k) ≡ true = grind (arith, nat_tests) in
      first_told-more (octets_told k) qs (nth k)
      ∙ ap (λ (t : Bool). option_or (octets_of qs k) (if t then Some (part_of m p k) else None))
      same
      ∙ settled (octets_of qs k) (octets-are k qs all) where
        settled : (o : Option (List ℕ))
            → ((x : List ℕ) → o ≡ Some x → x ≡ part_of m p k)
            → option_or o (Some (part_of m p k)) ≡ Some (part_of m p k)
        settled None h = refl
        settled (Some x) h = ap Some (h x refl)

  -- ---- the message

  joined-to : (f : ℕ → Option (List ℕ)) (n : ℕ)
      → n ≤ total
      → ((k : ℕ) → 1 ≤ k → k ≤ total → f k ≡ Some (part_of m p k))
      → octets_joined f n ≡ Some (parts_joined m p n)
  joined-to f zero most h = refl
  joined-to f (suc n) most h =
      let front = joined-to f n (omega arith) h in
      let part : f (suc n) ≡ Some (part_of m p (suc n)) = h (suc n) (omega arith) most in
      λ i. and_more (front i) (part i)

  -- once each part is there, they are joined to the message
  pub joined-all : (qs : List Piece)
      → AreNth qs
      → ((k : ℕ) → 1 ≤ k → k ≤ total → octets_of qs k ≡ Some (part_of m p k))
      → message_of qs ≡ Some m
  joined-all qs all h = by (last_of qs) refl where
    by : (o : Option LastPart) → last_of qs ≡ o → message_of qs ≡ Some m
    by None is =
        let less : highest qs < total = below qs all is in
        let there : total ≤ highest qs =
        octets-highest qs total (part_of m p total) (h total (omega (arith, two)) (omega arith)) in
        absurd (omega arith)
    by (Some l) is =
        ap (joined_by (octets_of qs)) is
        ∙ ap (λ (x : LastPart). octets_joined (octets_of qs) x.number) (last-is qs all l is)
        ∙ joined-to (octets_of qs) total (omega arith) h
        ∙ ap Some (parts_joined-all m p split.size)

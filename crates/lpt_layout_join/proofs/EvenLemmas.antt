-- Parts that agree have one length, but for the last.
use Rattle.std.proofs.Common.{◌≡◌, ◌∙◌, ap, sym, subst, refl, inl, inr, ℕ, ◌==◌, Bool, true, false, if◌then◌else◌, List, [], ◌∷◌, ◌++◌, length, arith, eqb-true}
use Rattle.std.specs.Prelude.{Option, Some, None, is_some, ◌||◌}
use Rattle.std.specs.Option.{option_or}
use Rattle.lpt_packet.proofs.BoolLemmas.{not_false, or_false_left, or_false_right}
use Rattle.lpt_part.specs.declared.kind.Kind.{Kind}
use Rattle.lpt_part.specs.declared.kind.Kind.TheVariants.{First, Middle, Last}
use Rattle.lpt_part.specs.Parts.{Piece, length_test}
use Rattle.lpt_part.proofs.BodyLemmas.{length_test-true}
use Rattle.lpt_layout_join.specs.declared.last_part.LastPart.{LastPart}
use Rattle.lpt_carried.specs.declared.name.Name.{Name}
use Rattle.lpt_carried.specs.declared.reading.Reading.{Reading}
use Rattle.lpt_layout_join.specs.Came.{Came, size_by, size_told, last_by, last_told, octets_told, octets_of, size_of, last_of, highest, other_octets, other_size, other_last, other_end, contradicts, step}
use Rattle.lpt_carried.specs.Carried.{part_carried, part_of}
use Rattle.lpt_layout_join.specs.Gathered.{Gathered, all_gathered, parts_gathered, next, nothing_gathered, with_counts, with_part}
use Rattle.lpt_layout_join.specs.Laws.{HasItsLength}
use Rattle.lpt_layout_join.proofs.CameLemmas.{first_told-more}

-- each part that came has its length
abbrev AreEven : List Piece → Type 0
AreEven qs = (k : ℕ) (x : List ℕ) → octets_of qs k ≡ Some x → HasItsLength qs k x

-- what came keeps its length, with a part more
has-kept : (qs : List Piece) (q : Piece) (k : ℕ) (x : List ℕ)
    → HasItsLength qs k x
    → HasItsLength (qs ++ q ∷ []) k x
has-kept qs q k x (inl h) =
    inl (first_told-more size_told qs q ∙ ap (λ o. option_or o (size_told q)) h)
has-kept qs q k x (inr h) =
    inr (h.0, first_told-more last_told qs q ∙ ap (λ o. option_or o (last_told q)) h.1, h.2)

-- a part that isn't the last has the length that is told
own-size : (kind : Kind) (k len : ℕ) (size : Option ℕ)
    → ((p : ℕ) → size ≡ Some p → length_test kind k len p ≡ true)
    → ¬ (kind ≡ Last)
    → option_or size (size_by kind len) ≡ Some len
own-size First k len None h other = refl
own-size First k len (Some p) h other =
    let fit = length_test-true First k len p (h p refl) in
    let same : p ≡ len = omega (arith, fit.least, fit.greatest) in
    ap Some same
own-size Middle k len None h other = refl
own-size Middle k len (Some p) h other =
    let fit = length_test-true Middle k len p (h p refl) in
    let same : p ≡ len = omega (arith, fit.least, fit.greatest) in
    ap Some same
own-size Last k len size h other = absurd (other refl)

-- a last one is the last
own-last : (last : Option LastPart) (k len : ℕ)
    → ((l : LastPart) → last ≡ Some l → (l.number == k) ≡ true)
    → (l : LastPart) × (option_or last (Some (record { number = k; len = len })) ≡ Some l)
    × (l.number ≡ k)
own-last None k len h = (record { number = k; len = len }, refl, refl)
own-last (Some l) k len h = (l, refl, eqb-true l.number k (h l refl))

-- the part that came has its length
has-own : (qs : List Piece) (q : Piece) (kind : Kind)
    → q.kind ≡ kind
    → other_size (size_of qs) q ≡ false
    → other_end q.kind (last_of qs) (highest qs) q ≡ false
    → HasItsLength (qs ++ q ∷ []) q.number q.octets
has-own qs q kind is size end = by kind is where
  by : (kind : Kind) → q.kind ≡ kind → HasItsLength (qs ++ q ∷ []) q.number q.octets
  by First is' =
      let other : ¬ (q.kind ≡ Last) = λ e. cc (sym is' ∙ e) in
      inl (first_told-more size_told qs q
      ∙ own-size q.kind q.number (length q.octets) (size_of qs) (λ p e.
      not_false (length_test q.kind q.number (length q.octets) p)
      (ap (λ (o : Option ℕ). other_size o q) (sym e) ∙ size)) other)
  by Middle is' =
      let other : ¬ (q.kind ≡ Last) = λ e. cc (sym is' ∙ e) in
      inl (first_told-more size_told qs q
      ∙ own-size q.kind q.number (length q.octets) (size_of qs) (λ p e.
      not_false (length_test q.kind q.number (length q.octets) p)
      (ap (λ (o : Option ℕ). other_size o q) (sym e) ∙ size)) other)
  by Last is' =
      let at = own-last (last_of qs) q.number (length q.octets) (λ l e.
      not_false (l.number == q.number)
      (ap (λ (o : Option LastPart). other_last o (highest qs) q) (sym e)
      ∙ ap (λ (x : Kind). other_end x (last_of qs) (highest qs) q) (sym is') ∙ end)) in
      inr (
        at.0,
        first_told-more last_told qs q
            ∙ ap (λ (x : Kind). option_or (last_of qs) (last_by x q.number (length q.octets))) is'
            ∙ at.1,
        at.2,
      )

-- with a part more that agrees
even-more : (qs : List Piece) (q : Piece)
    → AreEven qs
    → contradicts qs q ≡ false
    → AreEven (qs ++ q ∷ [])
even-more qs q h agree k x e = by (octets_of qs k) refl (q.number == k) refl where
  by : (o : Option (List ℕ)) → octets_of qs k ≡ o
      → (t : Bool) → (q.number == k) ≡ t
      → HasItsLength (qs ++ q ∷ []) k x
  by (Some y) is t same =
      let it : Some y ≡ Some x =
      sym (first_told-more (octets_told k) qs q
      ∙ ap (λ (o : Option (List ℕ)). option_or o (octets_told k q)) is) ∙ e in
      has-kept qs q k x (h k x (is ∙ it))
  by None is true same =
      let it : Some q.octets ≡ Some x =
      sym (first_told-more (octets_told k) qs q
      ∙ (λ i. option_or (is i) (if same i then Some q.octets else None))) ∙ e in
      let octets : q.octets ≡ x = cc in
      let number : q.number ≡ k = eqb-true q.number k same in
      let sizes =
      or_false_left (other_octets (octets_of qs q.number) q.octets || other_size (size_of qs) q)
      (other_end q.kind (last_of qs) (highest qs) q) agree in
      let own = has-own qs q q.kind refl
      (or_false_right (other_octets (octets_of qs q.number) q.octets) (other_size (size_of qs) q)
      sizes)
      (or_false_right (other_octets (octets_of qs q.number) q.octets || other_size (size_of qs) q)
      (other_end q.kind (last_of qs) (highest qs) q) agree) in
      subst (λ (n : ℕ). HasItsLength (qs ++ q ∷ []) n x) number
      (subst (λ (o : List ℕ). HasItsLength (qs ++ q ∷ []) q.number o) octets own)
  by None is false same =
      absurd (cc (sym (first_told-more (octets_told k) qs q
      ∙ (λ i. option_or (is i) (if same i then Some q.octets else None))) ∙ e))

-- ---- of all packets

even-step : (c : Came) (place : ℕ) (q : Piece)
    → AreEven c.parts
    → AreEven (step c place q).parts
even-step c place q h = by (is_some c.against) (contradicts c.parts q) refl where
  by : (s t : Bool) → contradicts c.parts q ≡ t
      → AreEven (if s then c else if t then record c { against = Some place }
      else record c { parts = c.parts ++ q ∷ [] }).parts
  by true t e = h
  by false true e = h
  by false false e = even-more c.parts q h e

even-part : (g : Gathered) (o : Option Piece)
    → AreEven g.came.parts
    → AreEven (with_part g o).came.parts
even-part g None even = even
even-part g (Some q) even = even-step g.came 0 q even

even-all : (r : Reading) (n : Name) (g : Gathered) (bs : List (List ℕ))
    → AreEven g.came.parts
    → AreEven (all_gathered r n g bs).came.parts
even-all r n g [] even = even
even-all r n g (b ∷ bs) even =
    even-all r n (next r n g b) bs
    (even-part (with_counts r g b) (part_of n (part_carried r b)) even)

-- whatever packets came
pub even-gathered : (r : Reading) (n : Name) (bs : List (List ℕ)) (k : ℕ) (x : List ℕ)
    → octets_of (parts_gathered r n bs).came.parts k ≡ Some x
    → HasItsLength (parts_gathered r n bs).came.parts k x
unfolding parts_gathered
even-gathered r n bs = even-all r n nothing_gathered bs (λ k x e. absurd cc)

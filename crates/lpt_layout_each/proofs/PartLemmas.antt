-- Parts of one message: when they are whole, and that each is its own.
use Rattle.std.proofs.Common.{◌≡◌, ◌≢◌, ◌∙◌, ap, sym, refl, inl, inr, ℕ, zero, suc, ◌+◌, ◌-◌, ◌<◌, ◌≤◌, ◌==◌, nat_le, Bool, true, false, not, ◌||◌, ◌&&◌, if◌then◌else◌, List, [], ◌∷◌, ◌++◌, length, arith}
use Rattle.std.specs.Prelude.{Option, Some, None, is_some, bytes_eq}
use Rattle.std.specs.Option.{option_or}
use Rattle.std.proofs.lemmas.Bool.Decides.{eqb_tells, nat_tests}
use Rattle.std.proofs.lemmas.Slice.Eq.{bytes_eq-Decides}
use Rattle.lpt_packet.proofs.BoolLemmas.{lt_true, none_is, not_false, some_is}
use Rattle.lpt_packet.proofs.Readings.{eq_false, eq_true, true_eq}
use Rattle.lpt_part.specs.declared.kind.Kind.{Kind}
use Rattle.lpt_part.specs.declared.kind.Kind.TheVariants.{First, Middle, Last}
use Rattle.lpt_part.specs.Parts.{Piece, nth_part}
use Rattle.lpt_part.specs.Splitting.{kind_at, part_count, part_of}
use Rattle.lpt_part.proofs.SplitLemmas.{part_count-two}
use Rattle.lpt_layout_join.specs.declared.last_part.LastPart.{LastPart}
use Rattle.lpt_layout_join.specs.Came.{Came, and_more, are_of, contradicts, ends_before, ends_in, highest, is_other, joined_by, last_of, message_of, none_other, octets_joined, octets_of, other_end, other_last, other_octets, other_size, size_of}
use Rattle.lpt_layout_join.specs.Laws.{IsSplit}
use Rattle.lpt_layout_join.proofs.CameLemmas.{octets-more}
use Rattle.lpt_layout_join.proofs.PartsLemmas.{AreNth, agrees, bytes_eq-refl, joined-all}
use Rattle.lpt_layout_each.specs.Eaches.{more}

no_true : true ≡ false → ⊥
no_true h = cc

three-false : (a b c : Bool) → (a || b || c) ≡ false → (a ≡ false) × (c ≡ false)
three-false true b c h = absurd cc
three-false false true c h = absurd cc
three-false false false c h = (refl, h)

-- ---- of any parts

-- what came, where nothing contradicts it
abbrev pub only : List Piece → Came
only qs = record { parts = qs; against = None }

pub only-is : (c : Came) → c.against ≡ None → c ≡ only c.parts
only-is c h = λ i. record { parts = c.parts; against = h i }

-- with a part more that contradicts none
pub only-more : (qs : List Piece) (q : Piece)
    → contradicts qs q ≡ false
    → more (only qs) q ≡ only (qs ++ q ∷ [])
only-more qs q h =
    ap (λ (t : Bool). if t then record (only qs) { against = Some 0 }
    else only (qs ++ q ∷ [])) h

-- octets are joined of parts each of which is there
pub joined-there : (f : ℕ → Option (List ℕ)) (n : ℕ) (w : List ℕ)
    → octets_joined f n ≡ Some w
    → (k : ℕ)
    → 1 ≤ k
    → k ≤ n
    → is_some (f k) ≡ true
joined-there f zero w e k some within = absurd (omega arith)
joined-there f (suc n) w e k some within =
    by (octets_joined f n) (f (suc n)) refl refl (joined-there f n) e where
      by : (a b : Option (List ℕ))
          → octets_joined f n ≡ a
          → f (suc n) ≡ b
          → ((x : List ℕ) → octets_joined f n ≡ Some x → (i : ℕ) → 1 ≤ i → i ≤ n
          → is_some (f i) ≡ true)
          → and_more a b ≡ Some w
          → is_some (f k) ≡ true
      by None None front here rest e = absurd cc
      by None (Some y) front here rest e = absurd cc
      by (Some x) None front here rest e = absurd cc
      by (Some x) (Some y) front here rest e = elim (eqb_tells k (suc n)) [
        | inl v ↦ ap (λ (i : ℕ). is_some (f i)) v.1 ∙ ap is_some here
        | inr v ↦ let isnt = v.1 in rest x front k some (omega arith)
      ]

-- and where each is there they are joined
pub joined-some : (f : ℕ → Option (List ℕ)) (n : ℕ)
    → ((k : ℕ) → 1 ≤ k → k ≤ n → is_some (f k) ≡ true)
    → is_some (octets_joined f n) ≡ true
joined-some f zero h = refl
joined-some f (suc n) h =
    let front = some_is (octets_joined f n) (joined-some f n (λ k a b. h k a (omega arith))) in
    let here = some_is (f (suc n)) (h (suc n) (omega arith) (omega arith)) in
    ap is_some (λ i. and_more (front.1 i) (here.1 i))

-- octets that don't contradict others are the same
same-octets : (o : Option (List ℕ)) (x y : List ℕ)
    → other_octets o x ≡ false
    → o ≡ Some y
    → y ≡ x
same-octets o x y h e =
    let test : not (bytes_eq y x) ≡ false = ap (λ (z : Option (List ℕ)). other_octets z x) (sym e)
    ∙ h in
    (bytes_eq-Decides y x).0 (not_false (bytes_eq y x) test)

-- of a message there is a last part
pub message-last : (qs : List Piece) (w : List ℕ)
    → message_of qs ≡ Some w
    → (l : LastPart) × (last_of qs ≡ Some l) × (octets_joined (octets_of qs) l.number ≡ Some w)
message-last qs w e = by (last_of qs) refl where
  by : (o : Option LastPart)
      → last_of qs ≡ o
      → (l : LastPart) × (last_of qs ≡ Some l) × (octets_joined (octets_of qs) l.number ≡ Some w)
  by None is = absurd (cc (sym (ap (joined_by (octets_of qs)) is) ∙ e))
  by (Some l) is = (l, is, sym (ap (joined_by (octets_of qs)) is) ∙ e)

-- ---- of a message

kind-last : (k n : ℕ) → 2 ≤ n → k ≡ n → kind_at k n ≡ Last
kind-last k n two e =
    let first : (k == 1) ≡ false = eq_false k 1 (λ f. omega (arith, e, f, two)) in
    let last : (k == n) ≡ true = eq_true k n e in
    ap (λ (b : Bool). if b then First else if k == n then Last else Middle) first
    ∙ ap (λ (b : Bool). if b then Last else Middle) last

module _ (m : List ℕ) (p id : ℕ) (split : IsSplit p m) where
  abbrev pub total : ℕ
  total = part_count (length m) p

  abbrev pub Are : List Piece → Type 0
  Are qs = AreNth m p id split qs

  abbrev pub nth : ℕ → Piece
  nth k = nth_part p id m k

  pub two : 2 ≤ total
  two = part_count-two (length m) p (omega (arith, split.size.0)) split.long

  -- what doesn't contradict part k
  tests : (qs : List Piece) (k : ℕ)
      → Are qs
      → 1 ≤ k
      → k ≤ total
      → (other_octets (octets_of qs k) (part_of m p k) ≡ false)
      × (other_end (kind_at k total) (last_of qs) (highest qs) (nth k) ≡ false)
  tests qs k all some within =
      three-false (other_octets (octets_of qs k) (part_of m p k)) (other_size (size_of qs) (nth k))
      (other_end (kind_at k total) (last_of qs) (highest qs) (nth k))
      (agrees m p id split qs k all some within)

  -- the octets of a number are its own
  pub octets-own : (qs : List Piece) (k : ℕ) (y : List ℕ)
      → Are qs
      → 1 ≤ k
      → k ≤ total
      → octets_of qs k ≡ Some y
      → y ≡ part_of m p k
  octets-own qs k y all some within e =
      same-octets (octets_of qs k) (part_of m p k) y (tests qs k all some within).0 e

  last-test : (qs : List Piece) → Are qs → other_last (last_of qs) (highest qs) (nth total) ≡ false
  last-test qs all =
      ap (λ (kind : Kind). other_end kind (last_of qs) (highest qs) (nth total))
      (sym (kind-last total total two refl))
      ∙ (tests qs total all (omega (arith, two)) (omega arith)).1

  -- the last part is its own, or none is behind it
  pub last-own : (qs : List Piece) (l : LastPart)
      → Are qs
      → last_of qs ≡ Some l
      → l.number ≡ total
  last-own qs l all e =
      true_eq l.number total
      (not_false (l.number == total)
      (ap (λ (o : Option LastPart). other_last o (highest qs) (nth total)) (sym e)
      ∙ last-test qs all))

  pub none-behind : (qs : List Piece) → Are qs → last_of qs ≡ None → highest qs < total
  none-behind qs all e =
      let test : nat_le total (highest qs) ≡ false =
      ap (λ (o : Option LastPart). other_last o (highest qs) (nth total)) (sym e)
      ∙ last-test qs all in
      grind (arith, nat_tests)

  pub highest-within : (qs : List Piece) → Are qs → highest qs ≤ total
  highest-within [] all = omega arith
  highest-within (q ∷ qs) all =
      let number : q.number ≡ all.0.number = ap (λ (x : Piece). x.number) all.0.is in
      let within = all.0.within in
      let rest = highest-within qs all.1 in
      omega arith

  -- where they are whole, each is there, and they are the message
  pub whole-own : (qs : List Piece) (w : List ℕ)
      → Are qs
      → message_of qs ≡ Some w
      → ((k : ℕ) → 1 ≤ k → k ≤ total → octets_of qs k ≡ Some (part_of m p k)) × (w ≡ m)
  whole-own qs w all e = (each, its (sym e ∙ joined-all m p id split qs all each)) where
    its : ◌≡◌ {A = Option (List ℕ)} (Some w) (Some m) → w ≡ m
    its h = cc

    each : (k : ℕ) → 1 ≤ k → k ≤ total → octets_of qs k ≡ Some (part_of m p k)
    each k some within =
        let l = message-last qs w e in
        let number = last-own qs l.0 all l.1 in
        let there = some_is (octets_of qs k)
        (joined-there (octets_of qs) l.0.number w l.2 k some (omega arith)) in
        there.1 ∙ ap Some (octets-own qs k there.0 all some within there.1)

  -- and where one isn't there, they aren't whole
  pub lacks-none : (qs : List Piece) (k : ℕ)
      → Are qs
      → 1 ≤ k
      → k ≤ total
      → octets_of qs k ≡ None
      → message_of qs ≡ None
  lacks-none qs k all some within lacks = none_is (message_of qs) (isnt (message_of qs) refl) where
    isnt : (o : Option (List ℕ)) → message_of qs ≡ o → is_some (message_of qs) ≡ false
    isnt None e = ap is_some e
    isnt (Some w) e = absurd (cc (sym ((whole-own qs w all e).0 k some within) ∙ lacks))

  -- part k doesn't bring another one
  pub lacks-more : (qs : List Piece) (k number : ℕ)
      → k ≢ number
      → octets_of qs number ≡ None
      → octets_of (qs ++ nth k ∷ []) number ≡ None
  lacks-more qs k number other lacks =
      octets-more qs (nth k) number false (eq_false k number other)
      ∙ ap (λ (o : Option (List ℕ)). option_or o None) lacks

  -- parts of it are all its own
  pub are-own : (qs ds : List Piece) (w : List ℕ)
      → Are qs
      → Are ds
      → message_of ds ≡ Some w
      → are_of qs ds ≡ true
  are-own qs ds w all those e =
      (λ i. ends i && none (highest qs) (highest-within qs all) i) where
        each : (k : ℕ) → 1 ≤ k → k ≤ total → octets_of ds k ≡ Some (part_of m p k)
        each = (whole-own ds w those e).0

        ends : ends_in (last_of qs) (highest qs) (last_of ds) ≡ true
        ends =
            let l = message-last ds w e in
            let number = last-own ds l.0 those l.1 in
            ap (ends_in (last_of qs) (highest qs)) l.1
            ∙ ap (ends_before (last_of qs) (highest qs)) number
            ∙ by (last_of qs) refl where
              by : (o : Option LastPart)
                  → last_of qs ≡ o
                  → ends_before (last_of qs) (highest qs) total ≡ true
              by None is =
                  ap (λ (o : Option LastPart). ends_before o (highest qs) total) is
                  ∙ lt_true (highest qs) total (none-behind qs all is)
              by (Some x) is =
                  ap (λ (o : Option LastPart). ends_before o (highest qs) total) is
                  ∙ eq_true x.number total (last-own qs x all is)

        other : (k : ℕ) → 1 ≤ k → k ≤ total → is_other (octets_of qs k) (octets_of ds k) ≡ false
        other k some within =
            ap (is_other (octets_of qs k)) (each k some within) ∙ by (octets_of qs k) refl where
              by : (o : Option (List ℕ))
                  → octets_of qs k ≡ o
                  → is_other (octets_of qs k) (Some (part_of m p k)) ≡ false
              by None is = ap (λ (o : Option (List ℕ)). is_other o (Some (part_of m p k))) is
              by (Some x) is =
                  ap (λ (o : Option (List ℕ)). is_other o (Some (part_of m p k))) is
                  ∙ ap (λ (y : List ℕ). not (bytes_eq y (part_of m p k)))
                  (octets-own qs k x all some within is)
                  ∙ ap not (bytes_eq-refl (part_of m p k))

        none : (k : ℕ) → k ≤ total → none_other (octets_of qs) (octets_of ds) k ≡ true
        none zero within = refl
        none (suc k) within =
            ap (λ (b : Bool). if b then false else none_other (octets_of qs) (octets_of ds) k)
            (other (suc k) (omega arith) within)
            ∙ none k (omega arith)

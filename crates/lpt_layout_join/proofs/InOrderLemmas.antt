-- Parts that came in their order stand so in the stream.
use Rattle.std.proofs.Common.{◌≡◌, ◌≢◌, ◌∙◌, ap, sym, subst, refl, inl, inr, ℕ, zero, suc, ◌+◌, ◌≤◌, ◌==◌, ◌&&◌, nat_lt, Bool, true, false, if◌then◌else◌, List, [], ◌∷◌, ◌++◌, append-nil, append_assoc, arith}
use Rattle.std.specs.Prelude.{Option, Some, None, bytes_eq, ◌⊎◌, ◌||◌}
use Rattle.std.specs.Option.{option_or}
use Rattle.std.specs.List.{AllByRecursion}
use Rattle.std.proofs.lemmas.Bool.{eqb-true, eqb-false}
use Rattle.std.proofs.lemmas.Bool.Decides.{nat_tests}
use Rattle.std.proofs.lemmas.Slice.Eq.{bytes_eq-Decides}
use Rattle.lpt_packet.proofs.BoolLemmas.{not_false, or_false_left}
use Rattle.lpt_part.specs.Parts.{Piece}
use Rattle.lpt_layout_join.specs.declared.last_part.LastPart.{LastPart}
use Rattle.lpt_carried.specs.declared.name.Name.{Name}
use Rattle.lpt_layout_join.specs.declared.order.Order.{Order}
use Rattle.lpt_carried.specs.declared.reading.Reading.{Reading}
use Rattle.lpt_layout_join.specs.Came.{contradicts, highest, last_of, octets_of, other_end, other_octets, other_size, size_of}
use Rattle.lpt_carried.specs.Carried.{part_carried, part_of}
use Rattle.lpt_layout_join.specs.Counts.{all_counted, missing_in, nothing_counted}
use Rattle.lpt_layout_join.specs.InOrder.{Carries, IsBetween, IsOther, Stands}
use Rattle.lpt_layout_join.specs.Orders.{are_few, is_in_order, no_order, order_after, with_again, with_first, with_next}
use Rattle.lpt_layout_join.proofs.CameLemmas.{octets-more}
use Rattle.lpt_layout_join.proofs.CountLemmas.{few-are, missing-is}
use Rattle.lpt_layout_join.proofs.PartsLemmas.{octets-kept}

and_left : (a b : Bool) → (a && b) ≡ true → a ≡ true
and_left true b h = refl
and_left false b h = absurd cc

and_right : (a b : Bool) → (a && b) ≡ true → b ≡ true
and_right true b h = h
and_right false b h = absurd cc

some_before : (k i : ℕ) → i ≡ k + 1 → (i == 1) ≡ false → 1 ≤ k
some_before k i is other = grind (arith, nat_tests)

not_past : (a b : ℕ) → nat_lt a b ≡ false → b ≤ a
not_past a b h = grind (arith, nat_tests)

all-more : {A : Type 0} → (P : A → Type 0) (xs : List A) (x : A)
    → AllByRecursion P xs
    → P x
    → AllByRecursion P (xs ++ x ∷ [])
all-more P [] x h here = (here, tt)
all-more P (y ∷ xs) x h here = (h.0, all-more P xs x h.1 here)

-- the octets of a part that agrees with others are those of its number
pub octets-own : (qs : List Piece) (q : Piece)
    → contradicts qs q ≡ false
    → octets_of (qs ++ q ∷ []) q.number ≡ Some q.octets
octets-own qs q agree =
    let same : (q.number == q.number) ≡ true = grind (arith, nat_tests) in
    octets-more qs q q.number true same ∙ by (octets_of qs q.number) refl where
      others : other_octets (octets_of qs q.number) q.octets ≡ false
      others =
          or_false_left (other_octets (octets_of qs q.number) q.octets) (other_size (size_of qs) q)
          (or_false_left
          (other_octets (octets_of qs q.number) q.octets || other_size (size_of qs) q)
          (other_end q.kind (last_of qs) (highest qs) q) agree)

      by : (o : Option (List ℕ)) → octets_of qs q.number ≡ o → option_or o (Some q.octets)
          ≡ Some q.octets
      by None is = refl
      by (Some x) is =
          ap Some ((bytes_eq-Decides x q.octets).0
          (not_false (bytes_eq x q.octets)
          (ap (λ (o : Option (List ℕ)). other_octets o q.octets) (sym is) ∙ others)))

module _ (r : Reading) (n : Name) where
  -- with a part more they stand there still
  pub stands-kept : (ps : List Piece) (q : Piece) (k : ℕ) (bs : List (List ℕ))
      → Stands r n ps k bs
      → Stands r n (ps ++ q ∷ []) k bs
  stands-kept ps q zero bs h = tt
  stands-kept ps q (suc k) bs h = (
    h.0,
    h.1,
    h.2,
    h.3,
    stands-kept ps q k h.0 h.4,
    h.5,
    record {
      part = h.6.part;
      carries = h.6.carries;
      number_is = h.6.number_is;
      octets_are = octets-kept ps q (suc k) h.6.part.octets h.6.octets_are;
    },
    h.7,
    h.8,
  )

  -- these parts came in this order, and behind the last of them none but one of them again: then
  -- there is room for fewer than 2
  pub record Comes (bs : List (List ℕ)) (o : Order) (ps : List Piece) : Type 0 where
    pub front : List (List ℕ)
    pub between : List (List ℕ)
    pub are : bs ≡ front ++ between
    pub stand : Stands r n ps o.count front
    pub behind : AllByRecursion (IsBetween r n o.count) between
    pub up_to : o.missing ≡ (all_counted r nothing_counted front).missing
    pub room_is : o.room ≤ o.count
    pub narrow : AllByRecursion (IsOther r n) between ⊎ (o.room ≤ 2)

  abbrev pub CameSo : List (List ℕ) → Order → List Piece → Type 0
  CameSo bs o ps = o.few ≡ true → 1 ≤ o.count → Comes bs o ps

  pub none-came : (bs : List (List ℕ)) (ps : List Piece) → CameSo bs no_order ps
  none-came bs ps few some = absurd (omega (arith, some))

  -- a packet more that carries none of the name
  pub came-other : (bs : List (List ℕ)) (b : List ℕ) (o : Order) (ps : List Piece)
      → part_of n (part_carried r b) ≡ None
      → CameSo bs o ps
      → CameSo (bs ++ b ∷ []) o ps
  came-other bs b o ps none h few some =
      let c = h few some in
      record {
        front = c.front;
        between = c.between ++ b ∷ [];
        are = ap (λ (xs : List (List ℕ)). xs ++ b ∷ []) c.are
            ∙ append_assoc c.front c.between (b ∷ []);
        stand = c.stand;
        behind = all-more (IsBetween r n o.count) c.between b c.behind (inl none);
        up_to = c.up_to;
        room_is = c.room_is;
        narrow = elim c.narrow [
          | inl v ↦ inl (all-more (IsOther r n) c.between b v none)
          | inr v ↦ inr v
        ];
      }

  module _ (bs : List (List ℕ)) (b : List ℕ) (ps : List Piece) (q : Piece)
      (is : part_of n (part_carried r b) ≡ Some q)
      (own : octets_of (ps ++ q ∷ []) q.number ≡ Some q.octets) where
    abbrev qs : List Piece
    qs = ps ++ q ∷ []

    abbrev now : ℕ
    now = (all_counted r nothing_counted (bs ++ b ∷ [])).missing

    carries : (k : ℕ) → q.number ≡ k → Carries r n qs k b
    carries k e = record {
      part = q;
      carries = is;
      number_is = e;
      octets_are = subst (λ (i : ℕ). octets_of qs i ≡ Some q.octets) e own;
    }

    -- one that begins
    first : q.number ≡ 1
        → CameSo (bs ++ b ∷ []) (with_first now) qs
    first e few some' = record {
      front = bs ++ b ∷ [];
      between = [];
      are = sym (append-nil (bs ++ b ∷ []));
      stand = (
        bs,
        [],
        b,
        ap (λ (xs : List (List ℕ)). xs ++ b ∷ []) (sym (append-nil bs)),
        tt,
        tt,
        carries 1 e,
        λ below. absurd (omega (arith, below)),
        inl tt,
      );
      behind = tt;
      up_to = refl;
      room_is = omega arith;
      narrow = inl tt;
    }

    -- the next
    next : (o : Order)
        → CameSo bs o ps
        → 1 ≤ o.count
        → q.number ≡ o.count + 1
        → CameSo (bs ++ b ∷ []) (with_next o q.number now) qs
    next o h before e few some' =
        let c = h (and_left o.few (are_few o.room o.missing now) few) before in
        let fewer =
        few-are o.room (missing_in r c.front) (missing_in r (bs ++ b ∷ [])) o.missing now
        (c.up_to ∙ missing-is r c.front) (missing-is r (bs ++ b ∷ []))
        (and_right o.few (are_few o.room o.missing now) few) in
        let room = c.room_is in
        let k : suc o.count ≡ q.number = omega (arith, e) in
        record {
          front = bs ++ b ∷ [];
          between = [];
          are = sym (append-nil (bs ++ b ∷ []));
          stand = subst (λ (i : ℕ). Stands r n qs i (bs ++ b ∷ [])) k (
            c.front,
            c.between,
            b,
            ap (λ (xs : List (List ℕ)). xs ++ b ∷ []) c.are,
            stands-kept ps q o.count c.front c.stand,
            c.behind,
            carries (suc o.count) (sym k),
            λ _. omega (arith, fewer, room),
            elim c.narrow [
              | inl v ↦ inl v
              | inr v ↦ inr (omega (arith, fewer, v))
            ],
          );
          behind = tt;
          up_to = refl;
          room_is = omega arith;
          narrow = inl tt;
        }

    -- one of them again
    again : (o : Order)
        → CameSo bs o ps
        → q.number ≢ 1
        → q.number ≤ o.count
        → CameSo (bs ++ b ∷ []) (with_again o) qs
    again o h other within few some' =
        let c = h few some' in
        let room = c.room_is in
        record {
          front = c.front;
          between = c.between ++ b ∷ [];
          are = ap (λ (xs : List (List ℕ)). xs ++ b ∷ []) c.are
              ∙ append_assoc c.front c.between (b ∷ []);
          stand = stands-kept ps q o.count c.front c.stand;
          behind = all-more (IsBetween r n o.count) c.between b c.behind
              (inr (q, is, other, within));
          up_to = c.up_to;
          room_is = omega (arith, room);
          narrow = inr (omega arith);
        }

    -- a packet more that carries a part of the name which agrees
    pub came-part : (o : Order) → CameSo bs o ps
        → CameSo (bs ++ b ∷ []) (order_after o q.number now) qs
    came-part o h = one (q.number == 1) refl where
      past : (q.number == 1) ≡ false
          → (t : Bool)
          → nat_lt o.count q.number ≡ t
          → CameSo (bs ++ b ∷ [])
          (if t then
          (if q.number == o.count + 1 then with_next o q.number now else no_order)
          else with_again o) qs
      past other false e = again o h (eqb-false q.number 1 other) (not_past o.count q.number e)
      past other true e = go (q.number == o.count + 1) refl where
        go : (t : Bool)
            → (q.number == o.count + 1) ≡ t
            → CameSo (bs ++ b ∷ []) (if t then with_next o q.number now else no_order) qs
        go true e =
            let at = eqb-true q.number (o.count + 1) e in
            next o h (some_before o.count q.number at other) at
        go false e = none-came (bs ++ b ∷ []) qs

      one : (t : Bool)
          → (q.number == 1) ≡ t
          → CameSo (bs ++ b ∷ []) (if t then with_first now
          else if nat_lt o.count q.number
          then (if q.number == o.count + 1 then with_next o q.number now else no_order)
          else with_again o) qs
      one true e = first (eqb-true q.number 1 e)
      one false e = past e (nat_lt o.count q.number) refl

-- all parts came in their order
pub in_order : (r : Reading) (n : Name) (bs : List (List ℕ)) (o : Order) (ps : List Piece)
    (l : LastPart)
    → CameSo r n bs o ps
    → last_of ps ≡ Some l
    → is_in_order (last_of ps) o ≡ true
    → (front : List (List ℕ)) × (behind : List (List ℕ)) × (bs ≡ front ++ behind)
    × Stands r n ps l.number front
in_order r n bs o ps l h last whole = go o.count refl where
  all : ((o.count == l.number) && o.few) ≡ true
  all = sym (ap (λ (x : Option LastPart). is_in_order x o) last) ∙ whole

  count : o.count ≡ l.number
  count = eqb-true o.count l.number (and_left (o.count == l.number) o.few all)

  go : (k : ℕ) → o.count ≡ k
      → (front : List (List ℕ)) × (behind : List (List ℕ)) × (bs ≡ front ++ behind)
      × Stands r n ps l.number front
  go zero e = (
    bs,
    [],
    sym (append-nil bs),
    subst (λ (i : ℕ). Stands r n ps i bs) (sym e ∙ count) tt,
  )
  go (suc k) e =
      let c = h (and_right (o.count == l.number) o.few all) (omega (arith, e)) in
      (c.front, c.between, c.are, subst (λ (i : ℕ). Stands r n ps i c.front) count c.stand)

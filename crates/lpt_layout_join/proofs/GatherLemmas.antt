-- What a stream's pieces give of a transaction, a piece further.
use Rattle.std.proofs.Common.{◌≡◌, ◌∙◌, ap, sym, subst, refl, ℕ, ◌+◌, ◌==◌, Bool, true, false, ◌||◌, List, [], ◌∷◌, ◌++◌, length, Option, Some, None, is_some, append-nil, arith}
use Rattle.std.specs.Option.{option_map}
use Rattle.std.specs.List.{list_any}
use Rattle.lpt_part.specs.declared.kind.Kind.TheVariants.{Last}
use Rattle.lpt_part.specs.Parts.{same_kind}
use Rattle.lpt_part.specs.Parts as part
use Rattle.lpt_stream.specs.declared.piece_kind.PieceKind.{PieceKind}
use Rattle.lpt_stream.specs.declared.piece_kind.PieceKind.TheVariants.{Whole, Damaged, Stray}
use Rattle.lpt_stream.specs.Pieces.{Piece, packet_before, packets_of, octets_in, up_to_limit}
use Rattle.lpt_stream.proofs.CutLemmas.{packets-next}
use Rattle.lpt_carried.specs.declared.name.Name.{Name}
use Rattle.lpt_carried.specs.declared.reading.Reading.{Reading}
use Rattle.lpt_carried.specs.Carried.{part_carried, part_of}
use Rattle.lpt_layout_join.specs.PartNumbersInside.{has, is_ended}
use Rattle.lpt_layout_join.specs.declared.gathering.Gathering.{Gathering}
use Rattle.lpt_layout_join.specs.declared.order.Order.{Order}
use Rattle.lpt_layout_join.specs.Came.{Came, last_of, nothing_came, step}
use Rattle.lpt_layout_join.specs.CameInside.{Shows}
use Rattle.lpt_layout_join.specs.Counts.{Counted, all_counted, packet_counted, nothing_counted}
use Rattle.lpt_layout_join.specs.Gathered.{Gathered, against_from, all_gathered, breaks, came, came_by, has_ended, first_against, parts_gathered, is_end, is_part, next, nothing_gathered, order_by, part_in, place_if, place_or, with_counts, with_part}
use Rattle.lpt_layout_join.specs.Gatherings.{Gives}
use Rattle.lpt_layout_join.specs.Orders.{is_in_order}
use Rattle.lpt_layout_join.proofs.CountLemmas.{counted-more}

or_front : (a b c : Bool) → (a || (b || c)) ≡ (b || (a || c))
or_front true true c = refl
or_front true false c = refl
or_front false true c = refl
or_front false false c = refl

any-next : (p : List ℕ → Bool) (bs : List (List ℕ)) (b : List ℕ)
    → list_any p (bs ++ b ∷ []) ≡ (p b || list_any p bs)
any-next p [] b = refl
any-next p (x ∷ bs) b =
    ap (λ e. p x || e) (any-next p bs b) ∙ or_front (p x) (p b) (list_any p bs)

module _ (r : Reading) (n : Name) where
  -- ---- a packet more

  all-more : (g : Gathered) (bs : List (List ℕ)) (b : List ℕ)
      → all_gathered r n g (bs ++ b ∷ []) ≡ next r n (all_gathered r n g bs) b
  all-more g [] b = refl
  all-more g (x ∷ bs) b = all-more (next r n g x) bs b

  pub gathered-more : (bs : List (List ℕ)) (b : List ℕ)
      → parts_gathered r n (bs ++ b ∷ []) ≡ next r n (parts_gathered r n bs) b
  unfolding parts_gathered
  gathered-more bs b = all-more nothing_gathered bs b

  counts-part : (g : Gathered) (o : Option part.Piece) → (with_part g o).counts ≡ g.counts
  counts-part g None = refl
  counts-part g (Some q) = refl

  counts-all : (g : Gathered) (bs : List (List ℕ))
      → (all_gathered r n g bs).counts ≡ all_counted r g.counts bs
  counts-all g [] = refl
  counts-all g (b ∷ bs) =
      counts-all (next r n g b) bs
      ∙ ap (λ (k : Counted). all_counted r k bs)
      (counts-part (with_counts r g b) (part_of n (part_carried r b)))

  pub counts-are : (bs : List (List ℕ))
      → (parts_gathered r n bs).counts ≡ all_counted r nothing_counted bs
  unfolding parts_gathered
  counts-are bs = counts-all nothing_gathered bs

  -- ---- a piece more

  abbrev packet : List ℕ → Piece
  packet b = record { kind = Whole; octets = b }

  pub whole-next : (ps : List Piece) (b : List ℕ)
      → parts_gathered r n (packets_of (ps ++ packet b ∷ []))
      ≡ next r n (parts_gathered r n (packets_of ps)) b
  whole-next ps b =
      ap (parts_gathered r n) (packets-next ps (packet b)) ∙ gathered-more (packets_of ps) b

  -- the part of the name that a piece carries
  abbrev in_piece : Piece → Option part.Piece
  in_piece p = part_in r n p.kind p.octets

  module _ (test : Option part.Piece → Bool) (none : test None ≡ false) where
    any-kind : (bs : List (List ℕ)) (k : PieceKind) (b : List ℕ)
        → list_any (λ c. test (part_of n (part_carried r c))) (bs ++ packet_before k b [])
        ≡ (test (part_in r n k b) || list_any (λ c. test (part_of n (part_carried r c))) bs)
    any-kind bs Whole b = any-next (λ c. test (part_of n (part_carried r c))) bs b
    any-kind bs Damaged b =
        ap (list_any (λ c. test (part_of n (part_carried r c)))) (append-nil bs)
        ∙ sym (ap (λ e. e || list_any (λ c. test (part_of n (part_carried r c))) bs) none)
    any-kind bs Stray b =
        ap (list_any (λ c. test (part_of n (part_carried r c)))) (append-nil bs)
        ∙ sym (ap (λ e. e || list_any (λ c. test (part_of n (part_carried r c))) bs) none)

    -- whether a packet of the pieces passes
    pub any-piece : (ps : List Piece) (p : Piece)
        → list_any (λ c. test (part_of n (part_carried r c))) (packets_of (ps ++ p ∷ []))
        ≡ (test (in_piece p) || list_any (λ c. test (part_of n (part_carried r c))) (packets_of ps))
    any-piece ps p =
        ap (list_any (λ c. test (part_of n (part_carried r c)))) (packets-next ps p)
        ∙ any-kind (packets_of ps) p.kind p.octets

  came-piece : (k : ℕ) (ps : List Piece) (p : Piece)
      → came r n k (packets_of (ps ++ p ∷ []))
      ≡ (is_part k (in_piece p) || came r n k (packets_of ps))
  came-piece k ps p = any-piece (is_part k) refl ps p

  ended-piece : (ps : List Piece) (p : Piece)
      → has_ended r n (packets_of (ps ++ p ∷ []))
      ≡ (is_end (in_piece p) || has_ended r n (packets_of ps))
  ended-piece ps p = any-piece is_end refl ps p

  -- ---- where it contradicts those before it

  place_none : (x : Option ℕ) → place_or x None ≡ x
  place_none (Some at) = refl
  place_none None = refl

  place_assoc : (x y z : Option ℕ) → place_or x (place_or y z) ≡ place_or (place_or x y) z
  place_assoc (Some at) y z = refl
  place_assoc None y z = refl

  told_or : (x : Option ℕ) (here : Bool) (at : ℕ)
      → option_map up_to_limit (place_or x (place_if here at))
      ≡ place_or (option_map up_to_limit x) (place_if here (up_to_limit at))
  told_or (Some at) here n = refl
  told_or None true n = refl
  told_or None false n = refl

  -- what came of these pieces
  abbrev pub came_from : Came → List Piece → Came
  came_from c [] = c
  came_from c (p ∷ ps) = came_from (came_by c (in_piece p)) ps

  came-part : (g : Gathered) (b : List ℕ) (o : Option part.Piece)
      → (with_part (with_counts r g b) o).came ≡ came_by g.came o
  came-part g b None = refl
  came-part g b (Some q) = refl

  came-front : (g : Gathered) (k : PieceKind) (b : List ℕ) (ps : List Piece)
      → ((h : Gathered) → came_from h.came ps ≡ (all_gathered r n h (packets_of ps)).came)
      → came_from (came_by g.came (part_in r n k b)) ps
      ≡ (all_gathered r n g (packet_before k b (packets_of ps))).came
  came-front g Whole b ps rest =
      ap (λ (c : Came). came_from c ps) (sym (came-part g b (part_of n (part_carried r b))))
      ∙ rest (next r n g b)
  came-front g Damaged b ps rest = rest g
  came-front g Stray b ps rest = rest g

  came-all : (g : Gathered) (ps : List Piece)
      → came_from g.came ps ≡ (all_gathered r n g (packets_of ps)).came
  came-all g [] = refl
  came-all g (p ∷ ps) = came-front g p.kind p.octets ps (λ h. came-all h ps)

  pub came-pieces : (ps : List Piece)
      → came_from nothing_came ps ≡ (parts_gathered r n (packets_of ps)).came
  unfolding parts_gathered
  came-pieces ps = came-all nothing_gathered ps

  against-next : (c : Came) (at : ℕ) (ps : List Piece) (p : Piece)
      → against_from r n c at (ps ++ p ∷ [])
      ≡ place_or (against_from r n c at ps)
      (place_if (breaks (came_from c ps) (in_piece p)) (at + octets_in ps))
  against-next c at [] p =
      let same : at ≡ at + 0 = omega arith in
      place_none (place_if (breaks c (in_piece p)) at)
      ∙ ap (place_if (breaks c (in_piece p))) same
  against-next c at (q ∷ qs) p =
      let here = place_if (breaks c (in_piece q)) at in
      let k = came_by c (in_piece q) in
      let behind = at + length q.octets in
      let same : behind + octets_in qs ≡ at + (length q.octets + octets_in qs) = omega arith in
      ap (place_or here) (against-next k behind qs p)
      ∙ place_assoc here (against_from r n k behind qs)
      (place_if (breaks (came_from k qs) (in_piece p)) (behind + octets_in qs))
      ∙ ap (λ m. place_or (place_or here (against_from r n k behind qs))
      (place_if (breaks (came_from k qs) (in_piece p)) m)) same

  -- the same as it is told
  pub told-against : (ps : List Piece) (p : Piece)
      → option_map up_to_limit (first_against r n (ps ++ p ∷ []))
      ≡ place_or (option_map up_to_limit (first_against r n ps))
      (place_if (breaks (parts_gathered r n (packets_of ps)).came (in_piece p))
      (up_to_limit (octets_in ps)))
  told-against ps p =
      ap (option_map up_to_limit) (against-next nothing_came 0 ps p)
      ∙ told_or (first_against r n ps) (breaks (came_from nothing_came ps) (in_piece p))
      (0 + octets_in ps)
      ∙ (λ i. place_or (option_map up_to_limit (first_against r n ps))
      (place_if (breaks (came-pieces ps i) (in_piece p))
      (up_to_limit (zero_front (octets_in ps) i))))
    where
      zero_front : (n : ℕ) → 0 + n ≡ n
      zero_front n = omega arith

  -- ---- what is kept

  -- but for the counts
  abbrev View : Type 0
  View = Came × (Order × Bool)

  view : Gathered → View
  view g = (g.came, (g.order, g.sure))

  silent : (k : PieceKind) (b : List ℕ) (ps : List Piece)
      → part_in r n k b ≡ None
      → view (parts_gathered r n (packets_of (ps ++ record { kind = k; octets = b } ∷ [])))
      ≡ view (parts_gathered r n (packets_of ps))
  unfolding view
  silent Whole b ps none =
      let g = parts_gathered r n (packets_of ps) in
      ap view (whole-next ps b ∙ ap (with_part (with_counts r g b)) none)
  silent Damaged b ps none =
      ap (λ bs. view (parts_gathered r n bs))
      (packets-next ps (record { kind = Damaged; octets = b }) ∙ append-nil (packets_of ps))
  silent Stray b ps none =
      ap (λ bs. view (parts_gathered r n bs))
      (packets-next ps (record { kind = Stray; octets = b }) ∙ append-nil (packets_of ps))

  -- a piece that carries no part of the transaction gives nothing
  pub gives-other : (ps : List Piece) (p : Piece) (g : Gathering)
      → Gives r n ps g
      → in_piece p ≡ None
      → Gives r n (ps ++ p ∷ []) g
  unfolding view
  gives-other ps p g h none =
      let same = silent p.kind p.octets ps none in
      let was = parts_gathered r n (packets_of ps) in
      record {
        came_is = subst (λ (c : Came). Shows c g.came) (sym (ap (λ (x : View). x.0) same))
            h.came_is;
        order_is = h.order_is ∙ sym (ap (λ (x : View). x.1.0) same);
        sure_is = h.sure_is ∙ sym (ap (λ (x : View). x.1.1) same);
        numbers_are = λ k. h.numbers_are k
            ∙ sym (ap (λ o. is_part k o || came r n k (packets_of ps)) none)
            ∙ sym (came-piece k ps p);
        ended_is = h.ended_is ∙ sym (ap (λ o. is_end o || has_ended r n (packets_of ps)) none)
            ∙ sym (ended-piece ps p);
        against_is = h.against_is ∙ sym (place_none (option_map up_to_limit (first_against r n ps)))
            ∙ sym (ap (λ o. place_or (option_map up_to_limit (first_against r n ps))
            (place_if (breaks was.came o) (up_to_limit (octets_in ps)))) none)
            ∙ sym (told-against ps p);
      }

  -- a packet that carries a part of it gives that part
  pub gives-part : (ps : List Piece) (b : List ℕ) (g h : Gathering) (q : part.Piece)
      (broken : Bool) (missing place : ℕ)
      → Gives r n ps g
      → part_of n (part_carried r b) ≡ Some q
      → missing ≡ (all_counted r nothing_counted (packets_of ps ++ b ∷ [])).missing
      → ((c : Came) → Shows c g.came → Shows (step c 0 q) h.came)
      → ((c : Came) → Shows c h.came → broken ≡ is_some c.against)
      → h.order ≡ order_by g.order broken q.number missing
      → ((c : Came) → Shows c h.came → h.sure ≡ (g.sure || is_in_order (last_of c.parts) h.order))
      → ((k : ℕ) → has h.numbers k ≡ ((q.number == k) || has g.numbers k))
      → is_ended h.numbers ≡ (same_kind q.kind Last || is_ended g.numbers)
      → place ≡ up_to_limit (octets_in ps)
      → h.against ≡ place_or g.against (place_if broken place)
      → Gives r n (ps ++ packet b ∷ []) h
  gives-part ps b g h q broken missing place was some counts comes breaks_is order sure numbers ends
      at found =
      let before = parts_gathered r n (packets_of ps) in
      let now : parts_gathered r n (packets_of (ps ++ packet b ∷ []))
      ≡ with_part (with_counts r before b) (Some q) =
      whole-next ps b ∙ ap (with_part (with_counts r before b)) some in
      let c : Came = step before.came 0 q in
      let shows : Shows c h.came = comes before.came was.came_is in
      let broke : broken ≡ is_some c.against = breaks_is c shows in
      let missed : missing ≡ (packet_counted r before.counts b).missing =
      counts ∙ ap (λ (k : Counted). k.missing) (counted-more r nothing_counted (packets_of ps) b
      ∙ ap (λ (k : Counted). packet_counted r k b) (sym (counts-are (packets_of ps)))) in
      let ordered : h.order
      ≡ order_by before.order (is_some c.against) q.number
      (packet_counted r before.counts b).missing =
      order ∙ (λ i. order_by (was.order_is i) (broke i) q.number (missed i)) in
      record {
        came_is = subst (λ (x : Gathered). Shows x.came h.came) (sym now) shows;
        order_is = ordered ∙ sym (ap (λ (x : Gathered). x.order) now);
        sure_is = sure c shows
            ∙ (λ i. was.sure_is i || is_in_order (last_of c.parts) (ordered i))
            ∙ sym (ap (λ (x : Gathered). x.sure) now);
        numbers_are = λ k. numbers k ∙ ap (λ e. (q.number == k) || e) (was.numbers_are k)
            ∙ sym (ap (λ o. is_part k o || came r n k (packets_of ps)) some)
            ∙ sym (came-piece k ps (packet b));
        ended_is = ends ∙ ap (λ e. same_kind q.kind Last || e) was.ended_is
            ∙ sym (ap (λ o. is_end o || has_ended r n (packets_of ps)) some)
            ∙ sym (ended-piece ps (packet b));
        against_is = found
            ∙ (λ i. place_or (was.against_is i) (place_if (broke i) (at i)))
            ∙ sym (ap (λ o. place_or (option_map up_to_limit (first_against r n ps))
            (place_if (breaks before.came o) (up_to_limit (octets_in ps)))) some)
            ∙ sym (told-against ps (packet b));
      }

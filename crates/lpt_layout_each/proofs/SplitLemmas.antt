-- Packets of messages that are split are given out as these messages.
use Rattle.std.proofs.Common.{◌≡◌, ◌∙◌, ap, sym, subst, refl, inl, inr, ◌⊎◌, ℕ, ◌==◌, ◌≤◌, Bool, true, false, ◌||◌, cond, if◌then◌else◌, List, [], ◌∷◌, ◌++◌, map, length, append_assoc, Ok}
use Rattle.std.specs.Prelude.{Option, Some, None, is_some}
use Rattle.std.specs.List.{AllByRecursion, flat_map}
use Rattle.lpt_packet.proofs.BoolLemmas.{or_true}
use Rattle.lpt_packet.proofs.Readings.{eq_false, eq_true}
use Rattle.lpt_packet.specs.Sizes.{longest_packet}
use Rattle.lpt_events.specs.Arrivals.{part_subtype}
use Rattle.lpt_layout.specs.Messages.{HeadFits, Said}
use Rattle.lpt_layout.specs.Parts.{PieceFits, body_as}
use Rattle.lpt_layout.specs.Writes.{octets_as}
use Rattle.lpt_part.specs.declared.kind.Kind.TheVariants.{First, Middle, Last}
use Rattle.lpt_part.specs.Parts.{Piece, nth_part, same_kind}
use Rattle.lpt_part.specs.Splitting.{kind_at, part_count}
use Rattle.lpt_carried.specs.declared.name.Name.{Name}
use Rattle.lpt_carried.specs.declared.reading.Reading.{Reading}
use Rattle.lpt_carried.specs.Carried.{part_carried, part_of, kind_to}
use Rattle.lpt_carried.proofs.NameLemmas.{same_name-refl}
use Rattle.lpt_layout_join.specs.Counts.{nothing_counted}
use Rattle.lpt_layout_join.specs.Gathered.{came, carry, is_end, is_part}
use Rattle.lpt_layout_join.specs.Laws.{IsSplit, part_named}
use Rattle.lpt_split.specs.declared.writing.Writing.{Writing}
use Rattle.lpt_split.specs.Packets as split
use Rattle.lpt_split.specs.Packets.{AreMade, IsMade, packet_of, said_of}
use Rattle.lpt_split.specs.Splits.{AreNumbers, IsNumber, next_count}
use Rattle.lpt_layout_each.specs.Eaches.{held_from, news_from, news_left, nothing}
use Rattle.lpt_layout_each.specs.News.{News, Given}
use Rattle.lpt_layout_each.specs.Sends.{AllSplitWhole, Belongs, Carries, FirstBeforeLast, HasNumber, IsSentBy, IsSplitWhole, IsWrittenFor, OneBefore, Sends, Split, carriers, packets_of}
use Rattle.lpt_layout_each.proofs.SentLemmas.{sent_given}

-- the packet that is made of a part carries it
abbrev pub Made : Type 0
Made =
    (r : Reading) (n : Name) (p k : ℕ) (m : List ℕ) (s : Said) → IsSplit p m
    → 1 ≤ k → k ≤ part_count (length m) p → (r.part_size ≡ None) ⊎ (r.part_size ≡ Some p)
    → PieceFits r.parts (nth_part p n.id m k) → HeadFits r.layout s
    → length (octets_as r.layout (kind_to r.direction) s) ≤ longest_packet
    → s.apid ≡ r.apid → s.service ≡ 13
    → s.subtype ≡ part_subtype r.direction (kind_at k (part_count (length m) p))
    → s.user ≡ n.user → s.body ≡ body_as r.parts (nth_part p n.id m k)
    → part_carried r (octets_as r.layout (kind_to r.direction) s) ≡ Ok (part_named n p m k)

-- ---- others in between

module _ (r : Reading) (n : Name) where
  abbrev part : List ℕ → Option Piece
  part b = part_of n (part_carried r b)

  others-out : (b : List ℕ) (bs : List (List ℕ))
      → part b ≡ None
      → carriers r n (b ∷ bs) ≡ carriers r n bs
  others-out b bs e =
      ap (λ (o : Option Piece). cond (is_some o) (b ∷ carriers r n bs) (carriers r n bs)) e

  one-kept : (b : List ℕ) (bs : List (List ℕ)) (q : Piece)
      → part b ≡ Some q
      → carriers r n (b ∷ bs) ≡ b ∷ carriers r n bs
  one-kept b bs q e =
      ap (λ (o : Option Piece). cond (is_some o) (b ∷ carriers r n bs) (carriers r n bs)) e

  came-carriers : (k : ℕ) (bs : List (List ℕ)) → came r n k (carriers r n bs) ≡ came r n k bs
  came-carriers k [] = refl
  came-carriers k (b ∷ bs) = by (part b) refl (came-carriers k bs) where
    by : (o : Option Piece)
        → part b ≡ o
        → came r n k (carriers r n bs) ≡ came r n k bs
        → came r n k (carriers r n (b ∷ bs)) ≡ (is_part k (part b) || came r n k bs)
    by None e rest =
        ap (came r n k) (others-out b bs e) ∙ rest
        ∙ sym (ap (λ (o : Option Piece). is_part k o || came r n k bs) e)
    by (Some q) e rest =
        ap (came r n k) (one-kept b bs q e)
        ∙ ap (λ (t : Bool). is_part k (part b) || t) rest

  none-carry : (bs : List (List ℕ)) → carriers r n bs ≡ [] → carry r n bs ≡ false
  none-carry [] e = refl
  none-carry (b ∷ bs) e = by (part b) refl (none-carry bs) where
    by : (o : Option Piece)
        → part b ≡ o
        → (carriers r n bs ≡ [] → carry r n bs ≡ false)
        → (is_some (part b) || carry r n bs) ≡ false
    by None is rest =
        ap (λ (o : Option Piece). is_some o || carry r n bs) is
        ∙ rest (sym (others-out b bs is) ∙ e)
    by (Some q) is rest = absurd (cc (sym (one-kept b bs q is) ∙ e))

  -- packets whose carriers these are, up to one of them and behind it
  record IsCutAt (bs xs : List (List ℕ)) (x : List ℕ) (ys : List (List ℕ)) : Type 0 where
    pub before : List (List ℕ)
    pub behind : List (List ℕ)
    pub are : bs ≡ before ++ x ∷ behind
    pub carry_before : carriers r n before ≡ xs
    pub carry_behind : carriers r n behind ≡ ys

  cut-at : (bs xs : List (List ℕ)) (x : List ℕ) (ys : List (List ℕ))
      → carriers r n bs ≡ xs ++ x ∷ ys
      → IsCutAt bs xs x ys
  cut-at [] [] x ys e = absurd cc
  cut-at [] (y ∷ xs) x ys e = absurd cc
  cut-at (b ∷ bs) xs x ys e = by (part b) xs refl e (λ zs. cut-at bs zs x ys) where
    heads : (a c : List ℕ) (ds cs : List (List ℕ)) → a ∷ ds ≡ c ∷ cs → (a ≡ c) × (ds ≡ cs)
    heads a c ds cs e = (one cc, rest cc) where
      one : a ≡ c → a ≡ c
      one h = h

      rest : ds ≡ cs → ds ≡ cs
      rest h = h

    by : (o : Option Piece) (xs : List (List ℕ))
        → part b ≡ o
        → carriers r n (b ∷ bs) ≡ xs ++ x ∷ ys
        → ((zs : List (List ℕ)) → carriers r n bs ≡ zs ++ x ∷ ys → IsCutAt bs zs x ys)
        → IsCutAt (b ∷ bs) xs x ys
    by None xs is e rest =
        let w = rest xs (sym (others-out b bs is) ∙ e) in
        record {
          before = b ∷ w.before;
          behind = w.behind;
          are = ap (λ (cs : List (List ℕ)). b ∷ cs) w.are;
          carry_before = others-out b w.before is ∙ w.carry_before;
          carry_behind = w.carry_behind;
        }
    by (Some q) [] is e rest =
        let w = heads b x (carriers r n bs) ys (sym (one-kept b bs q is) ∙ e) in
        record {
          before = [];
          behind = bs;
          are = ap (λ (c : List ℕ). c ∷ bs) w.0;
          carry_before = refl;
          carry_behind = w.1;
        }
    by (Some q) (y ∷ zs) is e rest =
        let w = heads b y (carriers r n bs) (zs ++ x ∷ ys) (sym (one-kept b bs q is) ∙ e) in
        let v = rest zs w.1 in
        record {
          before = b ∷ v.before;
          behind = v.behind;
          are = ap (λ (cs : List (List ℕ)). b ∷ cs) v.are;
          carry_before = one-kept b v.before q is
              ∙ (λ i. w.0 i ∷ v.carry_before i);
          carry_behind = v.carry_behind;
        }

  module _ (p : ℕ) (m : List ℕ) where
    belong-carriers : (bs : List (List ℕ))
        → AllByRecursion (Belongs r n p m) (carriers r n bs)
        → AllByRecursion (Belongs r n p m) bs
    belong-carriers [] h = tt
    belong-carriers (b ∷ bs) h = by (part b) refl (belong-carriers bs) where
      by : (o : Option Piece)
          → part b ≡ o
          → (AllByRecursion (Belongs r n p m) (carriers r n bs)
          → AllByRecursion (Belongs r n p m) bs)
          → Belongs r n p m b × AllByRecursion (Belongs r n p m) bs
      by None is rest = (
        inl is,
        rest (subst (AllByRecursion (Belongs r n p m)) (others-out b bs is) h),
      )
      by (Some q) is rest =
          let w = subst (AllByRecursion (Belongs r n p m)) (one-kept b bs q is) h in
          (w.0, rest w.1)

    order-carriers : (bs : List (List ℕ))
        → FirstBeforeLast r n p m (carriers r n bs)
        → FirstBeforeLast r n p m bs
    order-carriers [] h = tt
    order-carriers (b ∷ bs) h = by (part b) refl (order-carriers bs) where
      by : (o : Option Piece)
          → part b ≡ o
          → (FirstBeforeLast r n p m (carriers r n bs) → FirstBeforeLast r n p m bs)
          → FirstBeforeLast r n p m (b ∷ bs)
      by None is rest =
          inr (
            ap is_end is,
            rest (subst (FirstBeforeLast r n p m) (others-out b bs is) h),
          )
      by (Some q) is rest =
          go (subst (FirstBeforeLast r n p m) (one-kept b bs q is) h) where
            go : FirstBeforeLast r n p m (b ∷ carriers r n bs) → FirstBeforeLast r n p m (b ∷ bs)
            go (inl w) = inl w
            go (inr w) = inr (w.0, rest w.1)

-- ---- numbers

-- the sequence count behind packets of these numbers
abbrev count_behind : ℕ → List ℕ → ℕ
count_behind count [] = count
count_behind count (k ∷ ks) = count_behind (next_count count) ks

numbers-front : (parts : ℕ) (ks : List ℕ) (k : ℕ)
    → AreNumbers parts (ks ++ k ∷ [])
    → AreNumbers parts ks × IsNumber parts k
numbers-front parts [] k h = (tt, h.0)
numbers-front parts (q ∷ ks) k h =
    let rest = numbers-front parts ks k h.1 in
    ((h.0, rest.0), rest.1)

kind-not-last : (k total : ℕ) → (k ≡ total → ⊥) → same_kind (kind_at k total) Last ≡ false
kind-not-last k total isnt =
    ap (λ (b : Bool). same_kind (if k == 1 then First else if b then Last else Middle) Last)
    (eq_false k total isnt)
    ∙ by (k == 1) where
      by : (b : Bool) → same_kind (if b then First else Middle) Last ≡ false
      by true = refl
      by false = refl

-- ---- one message

module _ (made : Made) (r : Reading) (n : Name) (w : Writing) (for : IsWrittenFor r n w)
    (m : List ℕ) (is_split : IsSplit w.part_size m) where
  abbrev total : ℕ
  total = part_count (length m) w.part_size

  abbrev packet : (count k : ℕ) → List ℕ
  packet count k = packet_of w count (split.nth w n.id m k)

  abbrev all : ℕ → List ℕ → List (List ℕ)
  all count ks = split.packets_of w n.id m count ks

  packet-carries : (count k : ℕ)
      → IsMade w count (split.nth w n.id m k)
      → IsNumber total k
      → Carries r n w.part_size m k (packet count k)
  packet-carries count k h number =
      let q = nth_part w.part_size n.id m k in
      let s = said_of w count q.kind (body_as w.parts q) in
      let octets : octets_as w.layout (kind_to w.direction) s
      ≡ octets_as r.layout (kind_to r.direction) s =
      λ i. octets_as (for.layout i) (kind_to (for.direction i)) s in
      let read =
      made r n w.part_size k m s is_split number.some number.within for.size
      (subst (λ (l : _). PieceFits l q) for.parts h.fits.0)
      (subst (λ (l : _). HeadFits l s) for.layout h.fits.1)
      (subst (λ (b : List ℕ). length b ≤ longest_packet) octets h.short)
      for.apid refl
      (ap (λ (d : _). part_subtype d q.kind) for.direction)
      for.user
      (ap (λ (l : _). body_as l q) for.parts) in
      record {
        some = number.some;
        within = number.within;
        is = ap (λ (b : List ℕ). part_of n (part_carried r b)) octets
            ∙ ap (part_of n) read
            ∙ ap (λ (t : Bool). if t then Some q else None) (same_name-refl n);
      }

  all-more : (count : ℕ) (ks : List ℕ) (k : ℕ)
      → all count (ks ++ k ∷ []) ≡ all count ks ++ packet (count_behind count ks) k ∷ []
  all-more count [] k = refl
  all-more count (q ∷ ks) k = ap (λ bs. packet count q ∷ bs) (all-more (next_count count) ks k)

  made-front : (count : ℕ) (ks : List ℕ) (k : ℕ)
      → AreMade w n.id m count (ks ++ k ∷ [])
      → AreMade w n.id m count ks × IsMade w (count_behind count ks) (split.nth w n.id m k)
  made-front count [] k h = (tt, h.0)
  made-front count (q ∷ ks) k h =
      let rest = made-front (next_count count) ks k h.1 in
      ((h.0, rest.0), rest.1)

  all-belong : (count : ℕ) (ks : List ℕ)
      → AreMade w n.id m count ks
      → AreNumbers total ks
      → AllByRecursion (Belongs r n w.part_size m) (all count ks)
  all-belong count [] h numbers = tt
  all-belong count (k ∷ ks) h numbers = (
    inr (k, packet-carries count k h.0 numbers.0),
    all-belong (next_count count) ks h.1 numbers.1,
  )

  not-yet : (number count : ℕ) (ks : List ℕ)
      → AreMade w n.id m count ks
      → AreNumbers total ks
      → (HasNumber number ks → ⊥)
      → came r n number (all count ks) ≡ false
  not-yet number count [] h numbers none = refl
  not-yet number count (k ∷ ks) h numbers none =
      ap (λ (o : Option Piece). is_part number o || came r n number (all (next_count count) ks))
      (packet-carries count k h.0 numbers.0).is
      ∙ ap (λ (b : Bool). b || came r n number (all (next_count count) ks))
      (eq_false k number (λ e. none (inl e)))
      ∙ not-yet number (next_count count) ks h.1 numbers.1 (λ has. none (inr has))

  has-come : (number count : ℕ) (ks : List ℕ)
      → AreMade w n.id m count ks
      → AreNumbers total ks
      → HasNumber number ks
      → came r n number (all count ks) ≡ true
  has-come number count [] h numbers has = absurd has
  has-come number count (k ∷ ks) h numbers (inl e) =
      ap (λ (o : Option Piece). is_part number o || came r n number (all (next_count count) ks))
      (packet-carries count k h.0 numbers.0).is
      ∙ ap (λ (b : Bool). b || came r n number (all (next_count count) ks)) (eq_true k number e)
  has-come number count (k ∷ ks) h numbers (inr has) =
      ap (λ (b : Bool). is_part number (part_of n (part_carried r (packet count k))) || b)
      (has-come number (next_count count) ks h.1 numbers.1 has)
      ∙ or_true (is_part number (part_of n (part_carried r (packet count k))))

  -- as long as number 1 doesn't come, neither does the last one
  calm : (count : ℕ) (ks : List ℕ)
      → AreMade w n.id m count ks
      → AreNumbers total ks
      → OneBefore total ks
      → FirstBeforeLast r n w.part_size m (all count ks)
  calm count [] h numbers one = tt
  calm count (k ∷ ks) h numbers (inl one) =
      inl (subst (λ (q : ℕ). Carries r n w.part_size m q (packet count k)) one
      (packet-carries count k h.0 numbers.0))
  calm count (k ∷ ks) h numbers (inr other) =
      inr (
        ap is_end (packet-carries count k h.0 numbers.0).is ∙ kind-not-last k total other.0,
        calm (next_count count) ks h.1 numbers.1 other.1,
      )

-- its packets with others in between, up to its last one
split_sent : (made : Made) (r : Reading) (any : Bool) (n : Name) (s : Split)
    (before : List (List ℕ))
    → (h : IsSplitWhole r any n s)
    → carriers r n before
    ≡ split.packets_of s.writing n.id s.message s.count h.front
    → IsSentBy r any n s.message
    (before ++ packet_of s.writing (count_behind s.count h.front)
    (split.nth s.writing n.id s.message h.number) ∷ [])
split_sent made r any n s before h carried =
    let p = s.writing.part_size in
    let m = s.message in
    let w = s.writing in
    let of = h.written in
    let total = part_count (length m) p in
    let front = split.packets_of w n.id m s.count h.front in
    let last = packet_of w (count_behind s.count h.front) (split.nth w n.id m h.number) in
    let numbers = subst (AreNumbers total) h.are h.numbers in
    let parts = numbers-front total h.front h.number numbers in
    let mades = subst (AreMade w n.id m s.count) h.are h.made in
    let these = made-front made r n w of m h.split s.count h.front h.number mades in
    let ends = packet-carries made r n w of m h.split (count_behind s.count h.front) h.number
    these.1 parts.1 in
    record {
      size = p;
      split = h.split;
      fit = h.fit;
      front = before;
      last = last;
      number = h.number;
      are = refl;
      belong = belong-carriers r n p m before
          (subst (AllByRecursion (Belongs r n p m)) (sym carried)
          (all-belong made r n w of m h.split s.count h.front these.0 parts.0));
      ends = ends;
      first = sym (came-carriers r n h.number before)
          ∙ ap (came r n h.number) carried
          ∙ not-yet made r n w of m h.split h.number s.count h.front these.0 parts.0 h.first;
      order = order-carriers r n p m before
          (subst (FirstBeforeLast r n p m) (sym carried)
          (calm made r n w of m h.split s.count h.front these.0 parts.0 h.order));
      all = λ k some within.
          sym (came-carriers r n k (before ++ last ∷ []))
          ∙ ap (came r n k)
          (carried-more before last (nth_part p n.id m h.number) ends.is
          ∙ ap (λ (bs : List (List ℕ)). bs ++ last ∷ []) carried
          ∙ sym (all-more made r n w of m h.split s.count h.front h.number))
          ∙ has-come made r n w of m h.split k s.count (h.front ++ h.number ∷ []) mades numbers
          (subst (HasNumber k) h.are (h.each k some within));
    } where
      carried-more : (bs : List (List ℕ)) (b : List ℕ) (q : Piece)
          → part_of n (part_carried r b) ≡ Some q
          → carriers r n (bs ++ b ∷ []) ≡ carriers r n bs ++ b ∷ []
      carried-more [] b q e = one-kept r n b [] q e
      carried-more (x ∷ bs) b q e = by (is_some (part_of n (part_carried r x)))
          (carried-more bs b q e) where
            by : (t : Bool)
                → carriers r n (bs ++ b ∷ []) ≡ carriers r n bs ++ b ∷ []
                → cond t (x ∷ carriers r n (bs ++ b ∷ [])) (carriers r n (bs ++ b ∷ []))
                ≡ cond t (x ∷ carriers r n bs) (carriers r n bs) ++ b ∷ []
            by true rest = ap (λ (cs : List (List ℕ)). x ∷ cs) rest
            by false rest = rest

-- ---- one behind the other

module _ (made : Made) (r : Reading) (any : Bool) (n : Name) where
  splits_sent : (ss : List Split) (bs : List (List ℕ))
      → AllSplitWhole r any n ss
      → carriers r n bs ≡ flat_map (packets_of n) ss
      → Sends r any n (map (λ s. s.message) ss) bs
  splits_sent [] bs h e = none-carry r n bs e
  splits_sent (s ∷ ss) bs h e =
      let one = h.0 in
      let w = s.writing in
      let last = packet_of w (count_behind s.count one.front)
      (split.nth w n.id s.message one.number) in
      let front = split.packets_of w n.id s.message s.count one.front in
      let own : packets_of n s ≡ front ++ last ∷ [] =
      ap (split.packets_of w n.id s.message s.count) one.are
      ∙ all-more made r n w one.written s.message one.split s.count one.front one.number in
      let cut = cut-at r n bs front last (flat_map (packets_of n) ss)
      (e ∙ ap (λ (xs : List (List ℕ)). xs ++ flat_map (packets_of n) ss) own
      ∙ append_assoc front (last ∷ []) (flat_map (packets_of n) ss)) in (
        cut.before ++ last ∷ [],
        cut.behind,
        cut.are ∙ sym (append_assoc cut.before (last ∷ []) cut.behind),
        split_sent made r any n s cut.before one cut.carry_before,
        splits_sent ss cut.behind h.1 cut.carry_behind,
      )

  given_map : (ss : List Split)
      → map Given (map (λ s. s.message) ss) ≡ map (λ s. Given s.message) ss
  given_map [] = refl
  given_map (s ∷ ss) = ap (λ (ws : List News). Given s.message ∷ ws) (given_map ss)

  pub split_given : (ss : List Split) (bs : List (List ℕ))
      → AllSplitWhole r any n ss
      → carriers r n bs ≡ flat_map (packets_of n) ss
      → news_from r any n nothing_counted nothing bs
      ++ news_left (held_from r any n nothing_counted nothing bs)
      ≡ map (λ s. Given s.message) ss
  split_given ss bs h e =
      sent_given r any n (map (λ s. s.message) ss) bs (splits_sent ss bs h e)
      ∙ given_map ss

-- The link shows its packets, marks and hands after each change.
use Rattle.std.proofs.Common.{◌≡◌, ◌∙◌, ap, sym, subst, refl, ℕ, zero, suc, ◌+◌, ◌<◌, ◌≤◌, ◌==◌, nat_lt, Bool, true, false, not, ◌&&◌, ◌||◌, if◌then◌else◌, List, [], ◌∷◌, ◌++◌, length, map, Option, Some, None, arith, length-append, append_assoc}
use Rattle.std.specs.Option.{option_map_or}
use Rattle.std.specs.Prelude.{slice_get}
use Rattle.std.proofs.lemmas.Bool.Decides.{nat_tests}
use Rattle.std.proofs.lemmas.List.{append-nil, length-map, map-append}
use Rattle.lpt_packet.specs.declared.direction.Direction.{Direction}
use Rattle.lpt_packet.specs.Names.{Name}
use Rattle.lpt_events.specs.declared.lane.Lane.{Lane}
use Rattle.lpt_events.specs.declared.lane.Lane.TheVariants.{S1, S2, G1, G2}
use Rattle.lpt_link.specs.declared.packet.LinkPacket.{LinkPacket}
use Rattle.lpt_link.specs.Links.{LinkData, hand_of, with_lost, after_put, after_lose, after_take, after_drop}
use Rattle.lpt_acts.specs.Acts.{Take, Deliver}
use Rattle.lpt_journal.specs.Journal.{SentPacket, with_all}
use Rattle.lpt_journal.specs.Hands.{hand_after}
use Rattle.lpt_refinement.specs.Shows.{ShowsLink, sent_packet}
use Rattle.lpt_model.specs.State.{put_all}
use Rattle.lpt_refinement.specs.Views.{LinkView}
use Rattle.lpt_packet.proofs.BoolLemmas.{same_suc, suc_zero, zero_suc}

-- ---- hands

emptied : (x : LinkData) (l m : Lane) (before : Option ℕ)
    → hand_of x m ≡ before
    → hand_of (after_drop x l) m ≡ hand_after (Deliver l) m before
emptied x S1 S1 before k = refl
emptied x S2 S2 before k = refl
emptied x G1 G1 before k = refl
emptied x G2 G2 before k = refl
emptied x _ _ before k = k

filled : (x : LinkData) (l m : Lane) (n : ℕ) (before : Option ℕ)
    → hand_of x m ≡ before
    → hand_of (after_take x l n) m ≡ hand_after (Take l n) m before
filled x S1 S1 n before k = refl
filled x S2 S2 n before k = refl
filled x G1 G1 n before k = refl
filled x G2 G2 n before k = refl
filled x _ _ n before k = k

-- a lane's hand is emptied
pub link_dropped : {x : LinkData} {y : LinkView} (l : Lane)
    → ShowsLink x y
    → ShowsLink (after_drop x l) (record y { hands = λ m. hand_after (Deliver l) m (y.hands m) })
link_dropped {x = x} {y = y} l k = record {
  packets = k.packets;
  tags = k.tags;
  held = k.held;
  lost_before = k.lost_before;
  hands = λ m. emptied x l m (y.hands m) (k.hands m);
}

-- a lane takes a packet
pub link_taken : {x : LinkData} {y : LinkView} (l : Lane) (n : ℕ)
    → ShowsLink x y
    → ShowsLink (after_take x l n) (record y { hands = λ m. hand_after (Take l n) m (y.hands m) })
link_taken {x = x} {y = y} l n k = record {
  packets = k.packets;
  tags = k.tags;
  held = k.held;
  lost_before = k.lost_before;
  hands = λ m. filled x l m n (y.hands m) (k.hands m);
}

-- ---- packets

-- the link has as many packets as were put
pub as_many_packets : {x : LinkData} {y : LinkView}
    → ShowsLink x y
    → length x.packets ≡ length y.sent
as_many_packets {x = x} k = sym (length-map x.packets sent_packet) ∙ ap length k.packets

-- a list with one more at its end
get_end : {A : Type 0} (xs : List A) (x : A) (n : ℕ)
    → slice_get (xs ++ x ∷ []) n ≡ (if n == length xs then Some x else slice_get xs n)
get_end [] x zero = refl
get_end [] x (suc n) =
    let e : (suc n == 0) ≡ false = grind (arith, nat_tests) in
    sym (ap (λ t. if t then Some x else None) e)
get_end (y ∷ ys) x zero =
    let e : (zero == suc (length ys)) ≡ false = grind (arith, nat_tests) in
    sym (ap (λ t. if t then Some x else Some y) e)
get_end (y ∷ ys) x (suc n) =
    let e : (suc n == suc (length ys)) ≡ (n == length ys) = same_suc n (length ys) in
    get_end ys x n ∙ sym (ap (λ t. if t then Some x else slice_get ys n) e)

at_end : (n m len : ℕ) → (n == m) ≡ true → m ≡ len → nat_lt n (len + 1) ≡ true
at_end n m len d e = grind (arith, nat_tests)

before_end : (n m len : ℕ) → (n == m) ≡ false → m ≡ len → nat_lt n len ≡ nat_lt n (len + 1)
before_end n m len d e = grind (arith, nat_tests)

not_before : (n m len : ℕ) → (n == m) ≡ true → m ≡ len → len ≤ n
not_before n m len d e = grind (arith, nat_tests)

-- the packet behind the others is held, as it can't be lost yet; the others are as they were
held_more : (xs : List LinkPacket) (p : LinkPacket) (n len : ℕ) (lost : Bool)
    → length xs ≡ len
    → p.held ≡ true
    → (len ≤ n → lost ≡ false)
    → option_map_or (λ q. q.held) (slice_get xs n) false ≡ (nat_lt n len && not lost)
    → option_map_or (λ q. q.held) (slice_get (xs ++ p ∷ []) n) false
    ≡ (nat_lt n (len + 1) && not lost)
held_more xs p n len lost e held none k =
    ap (λ o. option_map_or (λ q. q.held) o false) (get_end xs p n) ∙ go (n == length xs) refl where
      go : (t : Bool)
          → (n == length xs) ≡ t
          → option_map_or (λ q. q.held) (if t then Some p else slice_get xs n) false
          ≡ (nat_lt n (len + 1) && not lost)
      go true d =
          let below : nat_lt n (len + 1) ≡ true = at_end n (length xs) len d e in
          let free : lost ≡ false = none (not_before n (length xs) len d e) in
          held ∙ sym (λ i. below i && not (free i))
      go false d = k ∙ ap (λ t. t && not lost) (before_end n (length xs) len d e)

-- a packet is put
pub link_more : {x : LinkData} {y : LinkView} (d : Direction) (tag : Option Name) (b b' : List ℕ)
    → b ≡ b'
    → ShowsLink x y
    → ShowsLink (after_put x d tag b)
    (record y {
      sent = y.sent ++ record { direction = d; octets = b' } ∷ [];
      tags = y.tags ++ tag ∷ [];
    })
link_more {x = x} {y = y} d tag b b' e k =
    let more : length (y.sent ++ record { direction = d; octets = b' } ∷ []) ≡ length y.sent + 1 =
    length-append y.sent (record { direction = d; octets = b' } ∷ []) in
    record {
      packets =
          map-append sent_packet x.packets _
          ∙ (λ i. k.packets i ++ record { direction = d; octets = e i } ∷ []);
      tags =
          map-append (λ (p : LinkPacket). p.tag) x.packets _ ∙ ap (λ ts. ts ++ tag ∷ []) k.tags;
      held = λ n.
          held_more x.packets _ n (length y.sent) (y.lost n) (as_many_packets k) refl
          (k.lost_before n) (k.held n)
          ∙ sym (ap (λ m. nat_lt n m && not (y.lost n)) more);
      lost_before = λ n late. k.lost_before n (omega arith);
      hands = k.hands;
    }

-- ---- a packet that is lost

-- losing a packet changes its mark alone
sent-with_lost : (xs : List LinkPacket) (n : ℕ)
    → map sent_packet (with_lost xs n) ≡ map sent_packet xs
sent-with_lost [] n = refl
sent-with_lost (p ∷ xs) zero = refl
sent-with_lost (p ∷ xs) (suc n) = ap (λ ps. sent_packet p ∷ ps) (sent-with_lost xs n)

tags-with_lost : (xs : List LinkPacket) (n : ℕ)
    → map (λ p. p.tag) (with_lost xs n) ≡ map (λ p. p.tag) xs
tags-with_lost [] n = refl
tags-with_lost (p ∷ xs) zero = refl
tags-with_lost (p ∷ xs) (suc n) = ap (λ ts. p.tag ∷ ts) (tags-with_lost xs n)

-- the lost packet is held no more, and the others as before
held-with_lost : (xs : List LinkPacket) (n m : ℕ)
    → option_map_or (λ q. q.held) (slice_get (with_lost xs n) m) false
    ≡ (not (m == n) && option_map_or (λ q. q.held) (slice_get xs m) false)
held-with_lost [] n m = sym (none (not (m == n))) where
  none : (t : Bool) → (t && false) ≡ false
  none true = refl
  none false = refl
held-with_lost (p ∷ xs) zero zero = refl
held-with_lost (p ∷ xs) zero (suc m) =
    sym (ap (λ t. not t && option_map_or (λ q. q.held) (slice_get xs m) false) (suc_zero m))
held-with_lost (p ∷ xs) (suc n) zero = sym (ap (λ t. not t && p.held) (zero_suc n))
held-with_lost (p ∷ xs) (suc n) (suc m) =
    held-with_lost xs n m
    ∙ sym (ap (λ t. not t && option_map_or (λ q. q.held) (slice_get xs m) false) (same_suc m n))

lost_too : (below now before : Bool)
    → (not now && (below && not before)) ≡ (below && not (now || before))
lost_too true true before = refl
lost_too true false before = refl
lost_too false true before = refl
lost_too false false before = refl

not_there : (m n len : ℕ) → n < len → len ≤ m → (m == n) ≡ false
not_there m n len there late = grind (arith, nat_tests)

-- a packet that was put is lost
pub link_lost : {x : LinkData} {y : LinkView} (n : ℕ)
    → n < length y.sent
    → ShowsLink x y
    → ShowsLink (after_lose x n) (record y { lost = λ m. (m == n) || y.lost m })
link_lost {x = x} {y = y} n there k = record {
  packets = sent-with_lost x.packets n ∙ k.packets;
  tags = tags-with_lost x.packets n ∙ k.tags;
  held = λ m.
      held-with_lost x.packets n m
      ∙ ap (λ t. not (m == n) && t) (k.held m)
      ∙ lost_too (nat_lt m (length y.sent)) (m == n) (y.lost m);
  lost_before = λ m late.
      (λ i. not_there m n (length y.sent) there late i || y.lost m) ∙ k.lost_before m late;
  hands = k.hands;
}

-- ---- lists of packets

pub with_all-append : {A : Type 0} (xs ys : List A) → with_all xs ys ≡ xs ++ ys
with_all-append xs [] = sym (append-nil xs)
with_all-append xs (y ∷ ys) = refl

-- one more at the end of a list, and others behind it, are all of them behind the list
pub with_all-more : {A : Type 0} (xs : List A) (y : A) (ys : List A)
    → with_all (xs ++ y ∷ []) ys ≡ with_all xs (y ∷ ys)
with_all-more xs y ys = with_all-append (xs ++ y ∷ []) ys ∙ append_assoc xs (y ∷ []) ys

-- the packets of these octets in a direction
abbrev pub packets_in : Direction → List (List ℕ) → List SentPacket
packets_in d bs = map (λ b. record { direction = d; octets = b }) bs

-- packets are put in order
pub link_more_all : (d : Direction) (tag : Option Name) (bs : List (List ℕ))
    {x : LinkData} {y : LinkView}
    → ShowsLink x y
    → ShowsLink (put_all x d tag bs)
    (record y {
      sent = with_all y.sent (packets_in d bs);
      tags = with_all y.tags (map (λ p. tag) (packets_in d bs));
    })
link_more_all d tag [] k = k
link_more_all d tag (b ∷ bs) {x = x} {y = y} k =
    let ps = packets_in d bs in
    subst (λ (t : List SentPacket × List (Option Name)).
    ShowsLink (put_all x d tag (b ∷ bs)) (record y { sent = t.0; tags = t.1 }))
    (λ i. (
      with_all-more y.sent (record { direction = d; octets = b }) ps i,
      with_all-more y.tags tag (map (λ p. tag) ps) i,
    ))
    (link_more_all d tag bs (link_more d tag b b refl k))

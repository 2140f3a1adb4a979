-- Octets that are as many as their header says, and no packet, are passed over as one.
use Rattle.std.proofs.Common.{◌≡◌, ◌∙◌, ap, sym, subst, refl, inl, inr, ℕ, suc, ◌+◌, ◌-◌, ◌≤◌, ◌<◌, ◌==◌, Bool, true, false, not, ◌&&◌, ◌||◌, if◌then◌else◌, List, [], ◌∷◌, ◌++◌, length, take, drop, arith, take_all, length-append}
use Rattle.std.proofs.Math.Seq.{drop-append_seam, take-append_seam}
use Rattle.lpt_packet.specs.Numbers.{word_at}
use Rattle.lpt_packet.specs.Packets.{APacket, Fields, IsPacket}
use Rattle.lpt_packet.proofs.Codec.{length-spelling}
use Rattle.lpt_packet.proofs.Found.{again}
use Rattle.lpt_stream.specs.declared.piece_kind.PieceKind.TheVariants.{Whole, Damaged, Stray}
use Rattle.lpt_stream.specs.Pieces.{Piece, lookahead, frame, behind, is_framed, is_passed, ends_in_checksum, ends_in_packet, is_found, is_of_flags, is_taken, begins, kind_in, piece_of, piece_at, piece_by, Leads, Finds}
use Rattle.lpt_stream.specs.Streams.{IsDamaged, IsEndOrPacket, IsFramed}
use Rattle.lpt_stream.proofs.StreamLemmas.{framed_packet, word_at-front}

-- the front of octets that goes beyond the first of them
take_over : (xs ys : List ℕ) (n : ℕ) → take (length xs + n) (xs ++ ys) ≡ xs ++ take n ys
take_over [] ys n = let e : 0 + n ≡ n = omega arith in ap (λ k. take k ys) e
take_over (x ∷ xs) ys n =
    let e : length (x ∷ xs) + n ≡ suc (length xs + n) = omega arith in
    ap (λ k. take k (x ∷ (xs ++ ys))) e ∙ ap (λ l. x ∷ l) (take_over xs ys n)

pub take_past : (xs ys : List ℕ) (n : ℕ)
    → length xs ≤ n
    → take n (xs ++ ys) ≡ xs ++ take (n - length xs) ys
take_past xs ys n h =
    let e : n ≡ length xs + (n - length xs) = omega (arith, h) in
    ap (λ k. take k (xs ++ ys)) e ∙ take_over xs ys (n - length xs)

-- ---- octets as many as their header says, with others behind them

-- the length that the header says
pub size : (b more : List ℕ) → IsFramed b → 7 + word_at (b ++ more) 4 ≡ length b
size b more h = ap (λ w. 7 + w) (word_at-front b more h.headed) ∙ sym h.whole

pub front : (b more : List ℕ) → IsFramed b → frame (b ++ more) ≡ b
front b more h = ap (λ n. take n (b ++ more)) (size b more h) ∙ take-append_seam b more

pub rest_is : (b more : List ℕ) → IsFramed b → behind (b ++ more) ≡ more
rest_is b more h = ap (λ n. drop n (b ++ more)) (size b more h) ∙ drop-append_seam b more

pub framed : (b more : List ℕ) → IsFramed b → is_framed (b ++ more) ≡ true
framed b more h =
    let all = length-append b more in
    let same = size b more h in
    grind (arith, all, same)

-- a packet begins with one, whatever comes behind
pub packet_begins : (p more : List ℕ) (f : Fields) → IsPacket p f → begins false (p ++ more) ≡ true
packet_begins p more f h =
    ap (is_found false) (front p more (framed_packet p f h))
    ∙ ap (is_taken false (ends_in_checksum p)) (again p (APacket f) h)

-- ---- what stands behind

empty : (m : List ℕ) → m ≡ [] → ((length m == 0) || begins false m) ≡ true
empty m none = ap (λ x. (length x == 0) || begins false x) none

or_right : (p q : Bool) → q ≡ true → (p || q) ≡ true
or_right true q h = refl
or_right false q h = h

-- as far as it is looked at, nothing stands there or a packet
pub followed : (n : ℕ) (rest : List ℕ)
    → 65542 ≤ n
    → IsEndOrPacket rest
    → ((length (take n rest) == 0) || begins false (take n rest)) ≡ true
followed n rest room (inl none) =
    empty (take n rest) (ap (take n) none ∙ take_all n [] (omega arith))
followed n rest room (inr w) =
    let p = w.0 in
    let long : length p ≡ length w.2.octets + 8 = ap length w.3.spelled ∙ length-spelling w.2 in
    let fits = w.3.ranges.field_fits in
    let near : take n rest ≡ p ++ take (n - length p) w.1 =
    ap (take n) w.4 ∙ take_past p w.1 n (omega (arith, long, fits, room)) in
    or_right (length (take n rest) == 0) (begins false (take n rest))
    (ap (begins false) near ∙ packet_begins p (take (n - length p) w.1) w.2 w.3)

-- ---- the piece

-- the kind of what is no packet, and is passed over in step
passed_by : (t p : Bool)
    → t ≡ false
    → p ≡ true
    → (if t then Whole else if true && p then Damaged else Stray) ≡ Damaged
passed_by true p h k = absurd cc
passed_by false true h k = refl
passed_by false false h k = absurd cc

untaken : (t c : Bool) → (t ≡ true → c ≡ false) → (t && true && c) ≡ false
untaken true c h = h refl
untaken false c h = refl

abbrev damaged : List ℕ → Piece
damaged b = record { kind = Damaged; octets = b }

near_kind : (b more : List ℕ)
    → IsDamaged b
    → ((length more == 0) || begins false more) ≡ true
    → kind_in true (b ++ more) ≡ Damaged
near_kind b more h next =
    passed_by (begins true (b ++ more)) (is_passed (b ++ more))
    (ap (is_found true) (front b more h.framed)
    ∙ ap (is_taken true (ends_in_checksum b)) h.told
    ∙ untaken (is_of_flags h.fault) (ends_in_checksum b) h.wrong)
    (both (is_framed (b ++ more))
    (((length (behind (b ++ more)) == 0) || begins false (behind (b ++ more)))
    && not (ends_in_packet (frame (b ++ more))))
    (framed b more h.framed)
    (both ((length (behind (b ++ more)) == 0) || begins false (behind (b ++ more)))
    (not (ends_in_packet (frame (b ++ more))))
    (ap (λ x. (length x == 0) || begins false x) (rest_is b more h.framed) ∙ next)
    (ap (λ x. not (ends_in_packet x)) (front b more h.framed) ∙ ap not h.last))) where
      both : (p q : Bool) → p ≡ true → q ≡ true → (p && q) ≡ true
      both true q h k = k
      both false q h k = absurd cc

damaged_piece : (b rest : List ℕ)
    → IsDamaged b
    → IsEndOrPacket rest
    → piece_at true (b ++ rest) ≡ damaged b
unfolding piece_by
damaged_piece b rest h next =
    let short = h.short in
    let more = take (131084 - length b) rest in
    let near : take lookahead (b ++ rest) ≡ b ++ more =
    take_past b rest lookahead (omega (arith, short)) in
    let kind : kind_in true (b ++ more) ≡ Damaged =
    near_kind b more h (followed (131084 - length b) rest (omega (arith, short)) next) in
    ap (λ x. piece_of (kind_in true x) x (b ++ rest)) near
    ∙ ap (λ k. piece_of k (b ++ more) (b ++ rest)) kind
    ∙ ap (λ n. damaged (take n (b ++ rest))) (size b more h.framed)
    ∙ ap damaged (take-append_seam b rest)

pub some : (b rest : List ℕ) → IsFramed b → 0 < length (b ++ rest)
some b rest h =
    let head = h.headed in
    let all = length-append b rest in
    omega (arith, head, all)

-- it costs itself and nothing else
pub damage_found : (b rest : List ℕ) (packets : List (List ℕ))
    → IsDamaged b
    → IsEndOrPacket rest
    → Finds rest packets
    → Finds (b ++ rest) packets
damage_found b rest packets h next found = (
  damaged b ∷ found.0,
  (
    found.1.0,
    (
      some b rest h.framed,
      sym (damaged_piece b rest h next),
      subst (λ x. Leads true x found.0 found.1.0 []) (sym (drop-append_seam b rest)) found.1.1,
    ),
  ),
  found.2,
)

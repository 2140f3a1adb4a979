-- What stands in front of a stream, whatever comes behind.
use Rattle.std.proofs.Common.{◌≡◌, ◌⊎◌, ◌∙◌, ap, sym, subst, refl, inl, inr, ℕ, zero, suc, ◌+◌, ◌*◌, ◌/◌, ◌%◌, ◌≤◌, ◌<◌, ◌==◌, ◌≢◌, nat_lt, nat_le, get_or, Bool, true, false, not, ◌&&◌, ◌||◌, if◌then◌else◌, List, [], ◌∷◌, ◌++◌, length, take, drop, Result, Ok, Err, arith, append-nil, length-append, take_all}
use Rattle.std.proofs.lemmas.List.{drop-append-le, get_or_append_left, take-append-drop, take-append-le}
use Rattle.lpt_packet.specs.declared.fault.PacketFault.{PacketFault}
use Rattle.lpt_packet.specs.declared.fault.PacketFault.TheVariants.{Short, Version, Length}
use Rattle.lpt_packet.specs.Checksums.{checksum}
use Rattle.lpt_packet.specs.Numbers.{IsOctets, word_at}
use Rattle.lpt_packet.specs.Packets.{APacket, Fields, IdlePacket, IsPacket, Sight, header, spelling, verdict}
use Rattle.lpt_packet.proofs.Bursts.{sealed_is_zero}
use Rattle.lpt_packet.proofs.Found.{found}
use Rattle.lpt_packet.proofs.OctetLists.{IsOctets-take}
use Rattle.lpt_packet.proofs.Readings.{eq_false, lt_false, not_lt, tests_passed, true_eq}
use Rattle.lpt_stream.specs.declared.piece_kind.PieceKind.{PieceKind}
use Rattle.lpt_stream.specs.declared.piece_kind.PieceKind.TheVariants.{Whole, Damaged, Stray}
use Rattle.lpt_stream.specs.Pieces.{Piece, lookahead, frame, behind, ends_in_checksum, ends_in_packet, is_of_flags, is_taken, is_found, begins, is_framed, is_passed, first_fits, flags_fit, size_fits, may_begin, is_open, waits, kind_in, size_in, piece_of, piece_at, piece_by}
use Rattle.lpt_stream.specs.Streams.{IsUnfinished}
use Rattle.lpt_stream.proofs.StreamLemmas.{word_at-front}

-- ---- less than a packet

-- octets that are too few, or not as many as their header says, are no packet
faulty : (s c short version fits : Bool) (r : Result Sight PacketFault)
    → (short ≡ true) ⊎ (fits ≡ false)
    → is_taken s c
    (if short then Err Short else if version then
    (if fits then r else Err Length) else Err Version) ≡ false
faulty s c true version fits r h = refl
faulty s c false true true r (inl h) = absurd cc
faulty s c false true true r (inr h) = absurd cc
faulty s c false true false r h = refl
faulty s c false false fits r h = refl

few : (n w : ℕ) → n < (if nat_lt n 6 then 6 else 7 + w) → n ≤ 7 + w
few n w h = grind (arith, h)

differ : (n w : ℕ) → n < (if nat_lt n 6 then 6 else 7 + w) → (nat_lt n 7 ≡ true)
    ⊎ ((n == 7 + w) ≡ false)
differ n w h = go (nat_lt n 7) refl where
  go : (t : Bool) → nat_lt n 7 ≡ t → (nat_lt n 7 ≡ true) ⊎ ((n == 7 + w) ≡ false)
  go true e = inl e
  go false e = inr (grind (arith, h, e))

pub unfinished_begins : (s : Bool) (b : List ℕ) → IsUnfinished b → begins s b ≡ false
unfolding verdict
unfinished_begins s b h =
    ap (is_found s) (take_all (7 + word_at b 4) b (few (length b) (word_at b 4) h))
    ∙ faulty s (ends_in_checksum b) _ _ _ _ (differ (length b) (word_at b 4) h)

-- ---- with more behind

-- the front of octets with more behind them is theirs, and perhaps more
pub take_more : (n : ℕ) (xs ys : List ℕ) → (zs : List ℕ) × (take n (xs ++ ys) ≡ take n xs ++ zs)
take_more zero xs ys = ([], refl)
take_more (suc n) [] ys = (take (suc n) ys, refl)
take_more (suc n) (x ∷ xs) ys =
    let rest = take_more n xs ys in
    (rest.0, ap (λ l. x ∷ l) rest.1)

pub frame-more : (b more : List ℕ) → 7 + word_at b 4 ≤ length b → frame (b ++ more) ≡ frame b
frame-more b more h =
    ap (λ n. take (7 + n) (b ++ more)) (word_at-front b more (omega (arith, h)))
    ∙ take-append-le (7 + word_at b 4) b more h

-- a packet of these octets
abbrev pub whole : List ℕ → Piece
whole b = record { kind = Whole; octets = b }

-- a packet in front stays in front
pub packet_stays : (s : Bool) (b more : List ℕ) (n : ℕ)
    → begins s (take lookahead b) ≡ true
    → n ≡ 7 + word_at (take lookahead b) 4
    → n ≤ length (take lookahead b)
    → n ≤ length b
    → piece_at s (b ++ more) ≡ whole (take n b)
unfolding piece_by
packet_stays s b more n is size near within =
    let m = take_more lookahead b more in
    let fits : 7 + word_at (take lookahead b) 4 ≤ length (take lookahead b) =
    subst (λ k. k ≤ length (take lookahead b)) size near in
    let same : begins s (take lookahead (b ++ more)) ≡ true =
    ap (begins s) m.1 ∙ ap (is_found s) (frame-more (take lookahead b) m.0 fits)
    ∙ is in
    let word : word_at (take lookahead (b ++ more)) 4 ≡ word_at (take lookahead b) 4 =
    ap (λ x. word_at x 4) m.1 ∙ word_at-front (take lookahead b) m.0 (omega (arith, fits)) in
    ap (λ t. piece_of
    (if t then Whole else if s && is_passed
    (take lookahead (b ++ more)) then Damaged else Stray)
    (take lookahead (b ++ more)) (b ++ more)) same
    ∙ ap (λ w. whole (take (7 + w) (b ++ more))) word
    ∙ ap (λ k. whole (take k (b ++ more))) (sym size)
    ∙ ap whole (take-append-le n b more within)

-- ---- what may still come

and_left : (p q : Bool) → (p && q) ≡ true → p ≡ true
and_left true q h = refl
and_left false q h = absurd cc

and_right : (p q : Bool) → (p && q) ≡ true → q ≡ true
and_right true q h = h
and_right false q h = absurd cc

both : (p q : Bool) → p ≡ true → q ≡ true → (p && q) ≡ true
both true q h k = k
both false q h k = absurd cc

pub or_right : (p q : Bool) → q ≡ true → (p || q) ≡ true
or_right true q h = refl
or_right false q h = h

-- a test of what has come is passed, where it is with more behind
kept : (n m a : ℕ) (p q : Bool)
    → n ≤ m
    → (a ≤ n → q ≡ p)
    → (nat_lt m a || q) ≡ true
    → (nat_lt n a || p) ≡ true
kept n m a p q more same h = go (nat_lt n a) refl where
  go : (t : Bool) → nat_lt n a ≡ t → (nat_lt n a || p) ≡ true
  go true e = ap (λ t. t || p) e
  go false e =
      let has : a ≤ n = not_lt n a e in
      or_right (nat_lt n a) p (sym (same has)
      ∙ sym (ap (λ t. t || q) (lt_false m a (omega (arith, has, more)))) ∙ h)

-- a word that has come stays
word_stays : (b more : List ℕ) (k : ℕ) → k + 2 ≤ length b → word_at (b ++ more) k ≡ word_at b k
word_stays b more k h =
    let high = get_or_append_left b more 0 k (omega (arith, h)) in
    let low = get_or_append_left b more 0 (k + 1) (omega (arith, h)) in
    λ i. 256 * high i + low i

pub longer : (b more : List ℕ) → length b ≤ length (b ++ more)
longer b more = let size = length-append b more in omega (arith, size)

first_kept : (b more : List ℕ) → first_fits (b ++ more) ≡ true → first_fits b ≡ true
first_kept [] more h = refl
first_kept (x ∷ []) more h = both _ _ (version x (get_or more 0 0) (and_left _ _ h)) refl where
  version : (x y : ℕ) → ((256 * x + y) / 8192 == 0) ≡ true → ((256 * x + 0) / 8192 == 0) ≡ true
  version x y h = grind (arith, h)
first_kept (x ∷ y ∷ b) more h =
    both _ _ (and_left _ _ h)
    (kept (length (x ∷ y ∷ b)) (length (x ∷ y ∷ b ++ more)) 2 _ _ (longer (x ∷ y ∷ b) more)
    (λ e. refl) (and_right _ _ h))

flags_kept : (b more : List ℕ) → flags_fit (b ++ more) ≡ true → flags_fit b ≡ true
flags_kept b more h =
    kept (length b) (length (b ++ more)) 4 (word_at b 2 / 16384 == 3)
    (word_at (b ++ more) 2 / 16384 == 3) (longer b more)
    (λ e. ap (λ w. w / 16384 == 3) (word_stays b more 2 e)) h

size_kept : (b more : List ℕ) → size_fits (b ++ more) ≡ true → size_fits b ≡ true
size_kept b more h =
    kept (length b) (length (b ++ more)) 6 (not (word_at b 4 == 0))
    (not (word_at (b ++ more) 4 == 0)) (longer b more)
    (λ e. ap (λ w. not (w == 0)) (word_stays b more 4 e)) h

-- a packet may begin with octets with which it may, and others behind them
pub may_kept : (b more : List ℕ) → may_begin (b ++ more) ≡ true → may_begin b ≡ true
may_kept b more h =
    let front = and_left (first_fits (b ++ more) && flags_fit (b ++ more))
    (size_fits (b ++ more)) h in
    both (first_fits b && flags_fit b) (size_fits b)
    (both (first_fits b) (flags_fit b) (first_kept b more (and_left _ _ front))
    (flags_kept b more (and_right _ _ front)))
    (size_kept b more (and_right _ _ h))

taken_busy : (c : Bool) (r : Result Sight PacketFault) → is_taken false c r ≡ true → (f : Fields)
    × (r ≡ Ok (APacket f))
taken_busy c (Ok (APacket f)) h = (f, refl)
taken_busy c (Ok IdlePacket) h = absurd cc
taken_busy c (Err e) h = absurd (none (is_of_flags e) h) where
  none : (t : Bool) → (t && false && c) ≡ true → ⊥
  none true h = cc
  none false h = cc

some_left : (n w : ℕ) → n ≡ 7 + w → 8 ≤ n → w ≢ 0
some_left n w h k e = omega (arith, h, k, e)

-- and it may with those with which it does
pub begins_may : (b : List ℕ) → begins false b ≡ true → may_begin b ≡ true
begins_may b h =
    let x = frame b in
    let rest = drop (7 + word_at b 4) b in
    let seen = taken_busy (ends_in_checksum x) (verdict x) h in
    let passed = tests_passed x seen.0 seen.1 in
    let long : 7 ≤ length x = not_lt (length x) 7 passed.long in
    let all : x ++ rest ≡ b = take-append-drop (7 + word_at b 4) b in
    let word : (k : ℕ) → k + 2 ≤ 7 → word_at x k ≡ word_at b k =
    λ k e. sym (word_stays x rest k (omega (arith, e, long))) ∙ ap (λ l. word_at l k) all in
    both (first_fits b && flags_fit b) (size_fits b)
    (both (first_fits b) (flags_fit b)
    (both _ _ (sym (ap (λ w. w / 8192 == 0) (word 0 (omega arith))) ∙ passed.version_0)
    (or_right (nat_lt (length b) 2) _
    (both _ _ (sym (ap (λ w. w / 2048 % 2 == 1) (word 0 (omega arith))) ∙ passed.has_header)
    (ap not (sym (ap (λ w. w % 2048 == 2047) (word 0 (omega arith))) ∙ passed.not_idle)))))
    (or_right (nat_lt (length b) 4) _ (sym (ap (λ w. w / 16384 == 3) (word 2 (omega arith)))
    ∙ passed.unsegmented)))
    (or_right (nat_lt (length b) 6) _
    (ap not (sym (ap (λ w. w == 0) (word 4 (omega arith)))
    ∙ eq_false (word_at x 4) 0
    (some_left (length x) (word_at x 4) (true_eq _ _ passed.length_fits)
    (not_lt (length x) 8 passed.has_checksum)))))

wanted_more : (n w : ℕ) → nat_le (7 + w) n ≡ false → n < (if nat_lt n 6 then 6 else 7 + w)
wanted_more n w h = grind (arith, h)

-- nor does one of another checksum than 0
pub nonzero_begins : (b : List ℕ)
    → IsOctets b
    → (checksum (frame b) ≡ 0 → ⊥)
    → begins false b ≡ false
unfolding spelling
nonzero_begins b octets other = go (begins false b) refl where
  zero : begins false b ≡ true → checksum (frame b) ≡ 0
  zero h =
      let x = frame b in
      let seen = taken_busy (ends_in_checksum x) (verdict x) h in
      let packet : IsPacket x seen.0 =
      found x (APacket seen.0) (IsOctets-take (7 + word_at b 4) b octets) seen.1 in
      ap checksum packet.spelled ∙ sealed_is_zero (header seen.0 ++ seen.0.octets)

  go : (t : Bool) → begins false b ≡ t → t ≡ false
  go false e = refl
  go true e = absurd (other (zero e))

-- where not all of its octets have come no packet begins
pub unframed_begins : (s : Bool) (b : List ℕ) → is_framed b ≡ false → begins s b ≡ false
unframed_begins s b h = unfinished_begins s b (wanted_more (length b) (word_at b 4) h)

pub framed_fits : (b : List ℕ) → is_framed b ≡ true → 7 + word_at b 4 ≤ length b
framed_fits b h = grind (arith, h)

-- where nothing is open, what comes changes nothing
pub closed : (b more : List ℕ) → is_open b ≡ false → begins false (b ++ more) ≡ begins false b
closed b more h = go (is_framed b) refl where
  none : (t : Bool) → is_framed b ≡ false → begins false (b ++ more) ≡ t → t ≡ false
  none false e k = refl
  none true e k =
      let may = may_kept b more (begins_may (b ++ more) k) in
      absurd cc

  go : (t : Bool) → is_framed b ≡ t → begins false (b ++ more) ≡ begins false b
  go true e = ap (is_found false) (frame-more b more (framed_fits b e))
  go false e = none (begins false (b ++ more)) e refl ∙ sym (unframed_begins false b e)

-- ---- the piece in front

-- a kind, by whether a packet begins, in step, and is passed over
abbrev kind_by : (packet in_step passed : Bool) → PieceKind
kind_by t s p = if t then Whole else if s && p then Damaged else Stray

kind_same : (t s p q : Bool) → (t ≡ false → s ≡ true → p ≡ q) → kind_by t s p ≡ kind_by t s q
kind_same true s p q h = refl
kind_same false false p q h = refl
kind_same false true p q h = ap (kind_by false true) (h refl refl)

unopened : (f t s o m : Bool)
    → (if f then s && not t && o else s || m) ≡ false
    → f ≡ true
    → t ≡ false
    → s ≡ true
    → o ≡ false
unopened true false true o m h e k l = h
unopened false t s o m h e k l = absurd cc
unopened true true s o m h e k l = absurd cc
unopened true false false o m h e k l = absurd cc

unstepped : (f t s o m : Bool)
    → (if f then s && not t && o else s || m) ≡ false
    → f ≡ false
    → (s ≡ false) × (m ≡ false)
unstepped true t s o m h e = absurd cc
unstepped false t true o m h e = absurd cc
unstepped false t false o m h e = (refl, h)

some_behind : (c : List ℕ) → is_open c ≡ false → (length c == 0) ≡ false
some_behind [] h = absurd cc
some_behind (x ∷ c) h = eq_false (length (x ∷ c)) 0 (λ e. omega (arith, e))

passed_kept : (b more : List ℕ)
    → is_framed b ≡ true
    → is_open (behind b) ≡ false
    → is_passed (b ++ more) ≡ is_passed b
passed_kept b more framed closed_behind =
    let fits = framed_fits b framed in
    let word : word_at (b ++ more) 4 ≡ word_at b 4 = word_at-front b more (omega (arith, fits)) in
    let rest : behind (b ++ more) ≡ behind b ++ more =
    ap (λ w. drop (7 + w) (b ++ more)) word ∙ drop-append-le (7 + word_at b 4) b more fits in
    let longer_still : is_framed (b ++ more) ≡ true =
    ap (λ w. nat_le (7 + w) (length (b ++ more))) word
    ∙ enough (7 + word_at b 4) (length b) (length (b ++ more)) fits (longer b more) in
    let some : (length (behind b) == 0) ≡ false = some_behind (behind b) closed_behind in
    let still : (length (behind (b ++ more)) == 0) ≡ false =
    ap (λ l. length l == 0) rest ∙ none_lost (behind b) more some in
    let begun : begins false (behind (b ++ more)) ≡ begins false (behind b) =
    ap (begins false) rest ∙ closed (behind b) more closed_behind in
    let same : ends_in_packet (frame (b ++ more)) ≡ ends_in_packet (frame b) =
    ap ends_in_packet (frame-more b more fits) in
    (λ i. longer_still i && ((still i || begun i) && not (same i)))
    ∙ sym (λ i. framed i
    && ((some i || begins false (behind b)) && not (ends_in_packet (frame b)))) where
      enough : (a n m : ℕ) → a ≤ n → n ≤ m → nat_le a m ≡ true
      enough a n m h k = grind (arith, h, k)

      none_lost : (c more : List ℕ) → (length c == 0) ≡ false → (length (c ++ more) == 0) ≡ false
      none_lost [] more h = absurd cc
      none_lost (x ∷ c) more h = eq_false (length (x ∷ c ++ more)) 0 (λ e. omega (arith, e))

-- what is in front, and its size
record IsKept (s : Bool) (b more : List ℕ) : Type 0 where
  kind : kind_in s (b ++ more) ≡ kind_in s b
  size : size_in (kind_in s b) (b ++ more) ≡ size_in (kind_in s b) b

size_of : (k : PieceKind) (b c : List ℕ) → word_at b 4 ≡ word_at c 4 → size_in k b ≡ size_in k c
size_of Whole b c h = ap (λ w. 7 + w) h
size_of Damaged b c h = ap (λ w. 7 + w) h
size_of Stray b c h = refl

-- is the same with more behind, where it doesn't wait
front_kept : (s : Bool) (b more : List ℕ) → waits s b ≡ false → IsKept s b more
front_kept s b more h = go (is_framed b) refl where
  go : (t : Bool) → is_framed b ≡ t → IsKept s b more
  go true e =
      let fits = framed_fits b e in
      record {
        kind = ap (λ x. kind_by (is_found s x) s (is_passed (b ++ more)))
            (frame-more b more fits)
            ∙ kind_same (begins s b) s (is_passed (b ++ more)) (is_passed b)
            (λ k l. passed_kept b more e
            (unopened (is_framed b) (begins s b) s (is_open (behind b)) (may_begin b) h e k l));
        size = size_of (kind_in s b) (b ++ more) b (word_at-front b more (omega (arith, fits)));
      }
  go false e =
      let out = unstepped (is_framed b) (begins s b) s (is_open (behind b)) (may_begin b) h e in
      let shut : is_open b ≡ false = ap (λ m. m && not (is_framed b)) out.1 in
      let none : begins s b ≡ false = unframed_begins s b e in
      let stray : kind_in s b ≡ Stray = ap (λ t. kind_by t s (is_passed b)) none
      ∙ ap (λ t. kind_by false t (is_passed b)) out.0 in
      let still : begins s (b ++ more) ≡ false =
      ap (λ t. begins t (b ++ more)) out.0 ∙ closed b more shut ∙ ap (λ t. begins t b) (sym out.0)
      ∙ none in
      record {
        kind = ap (λ t. kind_by t s (is_passed (b ++ more))) still
            ∙ ap (λ t. kind_by false t (is_passed (b ++ more))) out.0
            ∙ sym stray;
        size = ap (λ k. size_in k (b ++ more)) stray ∙ sym (ap (λ k. size_in k b) stray);
      }

-- the piece of this kind
abbrev pub of_kind : PieceKind → List ℕ → Piece
of_kind k b = record { kind = k; octets = b }

-- a piece that doesn't wait stays in front
pub piece_stays : (s : Bool) (b more : List ℕ) (k : PieceKind) (n : ℕ)
    → waits s (take lookahead b) ≡ false
    → k ≡ kind_in s (take lookahead b)
    → n ≡ size_in k (take lookahead b)
    → n ≤ length b
    → piece_at s (b ++ more) ≡ of_kind k (take n b)
unfolding piece_by
piece_stays s b more k n known kind size within =
    let m = take_more lookahead b more in
    let stays = front_kept s (take lookahead b) m.0 known in
    ap (λ x. piece_of (kind_in s x) x (b ++ more)) m.1
    ∙ ap (λ k. piece_of k (take lookahead b ++ m.0) (b ++ more)) stays.kind
    ∙ ap (λ n. of_kind (kind_in s (take lookahead b)) (take n (b ++ more))) stays.size
    ∙ ap (λ k. of_kind k (take (size_in k (take lookahead b)) (b ++ more))) (sym kind)
    ∙ ap (λ n. of_kind k (take n (b ++ more))) (sym size)
    ∙ ap (of_kind k) (take-append-le n b more within)

-- so does any where nothing more comes
pub last_stays : (s : Bool) (b more : List ℕ) (k : PieceKind) (n : ℕ)
    → more ≡ []
    → k ≡ kind_in s (take lookahead b)
    → n ≡ size_in k (take lookahead b)
    → n ≤ length b
    → piece_at s (b ++ more) ≡ of_kind k (take n b)
unfolding piece_by
last_stays s b more k n none kind size within =
    ap (λ m. piece_at s (b ++ m)) none
    ∙ ap (piece_at s) (append-nil b)
    ∙ ap (λ k. piece_of k (take lookahead b) b) (sym kind)
    ∙ ap (λ n. of_kind k (take n b)) (sym size)

-- no packet begins where none did, with more behind the header's octets
pub judged_stays : (s : Bool) (b more : List ℕ)
    → is_framed b ≡ true
    → begins s b ≡ false
    → length b < lookahead
    → begins s (take lookahead (b ++ more)) ≡ false
judged_stays s b more framed none few =
    let m = take_more lookahead b more in
    let near : take lookahead b ≡ b = take_all lookahead b (omega (arith, few)) in
    ap (begins s) (m.1 ∙ ap (λ x. x ++ m.0) near)
    ∙ ap (is_found s) (frame-more b m.0 (framed_fits b framed))
    ∙ none

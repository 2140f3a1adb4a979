-- What stands in front of a stream by each cut, whatever comes behind.
use Rattle.std.proofs.Common.{◌≡◌, ◌∙◌, ap, sym, refl, ℕ, suc, ◌+◌, ◌≤◌, ◌<◌, ◌==◌, nat_le, nat_lt, Bool, true, false, not, ◌&&◌, ◌||◌, if◌then◌else◌, List, [], ◌++◌, length, take, arith, append-nil, length-take, take_all}
use Rattle.lpt_packet.specs.Numbers.{word_at}
use Rattle.lpt_packet.proofs.Readings.{eq_false}
use Rattle.lpt_stream.specs.declared.cut.Cut.{Cut}
use Rattle.lpt_stream.specs.declared.cut.Cut.TheVariants.{Sealed, Framed, Resumed}
use Rattle.lpt_stream.specs.declared.piece_kind.PieceKind.{PieceKind}
use Rattle.lpt_stream.specs.declared.piece_kind.PieceKind.TheVariants.{Whole, Damaged, Stray}
use Rattle.lpt_stream.specs.Pieces.{lookahead, begins, begins_by, behind, ends_in_checksum, ends_in_packet, frame, follows, is_all, is_awaited, is_cut_off, is_framed, is_short, is_version, kind_by, len_by, most_damaged, most_in_row, piece_by, piece_of, reach_waits, reaches, size_in, stays_judged, waits_by}
use Rattle.lpt_stream.specs.Streams.{IsUnfinished}
use Rattle.lpt_stream.proofs.PieceLemmas.{judged_stays, of_kind, packet_stays, piece_stays, unframed_begins, whole}
use Rattle.lpt_stream.proofs.BelievedLemmas.{awaited_few, awaited_unfit, awaited_unframed, framed_unawaited, some_there, unframed_fit}
use Rattle.lpt_stream.proofs.FollowLemmas.{not_right, nothing_follows, right}
use Rattle.lpt_stream.proofs.KeptLemmas.{begun_kept, framed_in, judged_frame, kept_stays, kind_framed, none_in, octets_stay, stray_framed}
use Rattle.lpt_stream.proofs.ResumeLemmas.{astray_begun, begun_there, first_framed, none_astray, resumed_front, step_begun, uncut, unfit_begins, unfit_stray}

-- a packet in front stays in front
pub packet_stays_by : (c : Cut) (s : Bool) (b more : List ℕ) (n : ℕ)
    → begins_by c s (take lookahead b) ≡ true
    → n ≡ 7 + word_at (take lookahead b) 4
    → n ≤ length (take lookahead b)
    → n ≤ length b
    → piece_by c s (b ++ more) ≡ whole (take n b)
packet_stays_by Sealed s b more n is size near within = packet_stays s b more n is size near within
packet_stays_by Framed s b more n is size near within =
    let framed = framed_in s (is_version (take lookahead b)) (is_framed (take lookahead b)) is in
    begun_there Framed s b more n (λ m. begun_kept s (take lookahead b) m framed ∙ is)
    framed size within
packet_stays_by (Resumed l) true b more n is size near within =
    begun_there (Resumed l) true b more n (λ m. step_begun l (take lookahead b) m is)
    (first_framed l true (take lookahead b) is) size within
packet_stays_by (Resumed l) false b more n is size near within =
    begun_there (Resumed l) false b more n (λ m. astray_begun l (take lookahead b) m is)
    (first_framed l false (take lookahead b) is) size within

-- a piece that doesn't wait stays in front
pub piece_stays_by : (c : Cut) (s : Bool) (b more : List ℕ) (k : PieceKind) (n : ℕ)
    → waits_by c s (take lookahead b) ≡ false
    → k ≡ kind_by c s (take lookahead b)
    → n ≡ size_in k (take lookahead b)
    → n ≤ length b
    → piece_by c s (b ++ more) ≡ of_kind k (take n b)
piece_stays_by Sealed s b more k n known kind size within =
    piece_stays s b more k n known kind size within
piece_stays_by Framed s b more k n known kind size within =
    octets_stay s b more k n known kind size within
piece_stays_by (Resumed l) s b more k n known kind size within =
    kept_stays (Resumed l) s b more k n (λ m e. resumed_front l s b more m known e) kind size within

-- so does any where nothing more comes
pub last_stays_by : (c : Cut) (s : Bool) (b more : List ℕ) (k : PieceKind) (n : ℕ)
    → more ≡ []
    → k ≡ kind_by c s (take lookahead b)
    → n ≡ size_in k (take lookahead b)
    → n ≤ length b
    → piece_by c s (b ++ more) ≡ of_kind k (take n b)
unfolding piece_by
last_stays_by c s b more k n none kind size within =
    ap (λ m. piece_by c s (b ++ m)) none
    ∙ ap (piece_by c s) (append-nil b)
    ∙ ap (λ k. piece_of k (take lookahead b) b) (sym kind)
    ∙ ap (λ n. of_kind k (take n b)) (sym size)

-- where not all of its octets have come no packet begins
pub unframed_begins_by : (c : Cut) (s : Bool) (b : List ℕ) → is_framed b ≡ false
    → begins_by c s b ≡ false
unframed_begins_by Sealed s b h = unframed_begins s b h
unframed_begins_by Framed s b h =
    ap (λ f. s && (is_version b && f)) h ∙ none_in s (is_version b)
unframed_begins_by (Resumed l) true b h =
    ap (λ t. is_short l b && t) (unframed_begins true b h) ∙ nothing (is_short l b) where
      nothing : (s : Bool) → (s && false) ≡ false
      nothing true = refl
      nothing false = refl
unframed_begins_by (Resumed l) false b h =
    ap (λ t. t && follows false l most_in_row (suc l) b) (unframed_begins false b h)

-- no packet begins where none did, with more behind the header's octets
pub judged_stays_by : (c : Cut) (s : Bool) (b more : List ℕ)
    → stays_judged c b ≡ true
    → begins_by c s b ≡ false
    → length b < lookahead
    → begins_by c s (take lookahead (b ++ more)) ≡ false
judged_stays_by Sealed s b more framed none few = judged_stays s b more framed none few
judged_stays_by Framed s b more framed none few = judged_frame s b more framed none few
judged_stays_by (Resumed l) s b more framed none few = absurd cc

-- nothing shows what comes
pub nothing_shows : (c : Cut) (s : Bool) → waits_by c s [] ≡ true
nothing_shows Sealed true = refl
nothing_shows Sealed false = refl
nothing_shows Framed s = refl
nothing_shows (Resumed l) true =
    ap (λ t. if t then reach_waits l most_damaged [] else true) (none (is_short l [])) where
      none : (s : Bool) → (s && false) ≡ false
      none true = refl
      none false = refl
nothing_shows (Resumed l) false =
    nothing_follows l 8192 (suc l) (eq_false (suc l) 0 (λ e. omega (arith, e)))

-- where not all of its octets have come one octet stands, or what is cut off
abbrev cut_or_stray : Bool → PieceKind
cut_or_stray t = if t then Damaged else Stray

pub unframed_kind : (c : Cut) (s : Bool) (b : List ℕ) → is_framed b ≡ false
    → kind_by c s b ≡ (if is_cut_off c s b then Damaged else Stray)
unframed_kind Sealed true b h =
    λ i. if unframed_begins true b h i then Whole else
    if (h i && (((length (behind b) == 0) || begins false (behind b))
    && not (ends_in_packet (frame b)))) then Damaged else Stray
unframed_kind Sealed false b h =
    ap (λ (t : Bool). if t then Whole else Stray) (unframed_begins false b h)
unframed_kind Framed s b h =
    ap (λ t. kind_framed t s) (unframed_begins_by Framed s b h) ∙ stray_framed s
unframed_kind (Resumed l) true b h =
    let fit = unframed_fit l b h in
    (λ i. if unfit_begins l b fit i then Whole else
    if (is_cut_off (Resumed l) true b
    || (fit i && reaches (is_all b) l most_damaged (behind b))) then Damaged else Stray)
    ∙ ap cut_or_stray (alone (is_cut_off (Resumed l) true b))
  where
    alone : (t : Bool) → (t || false) ≡ t
    alone true = refl
    alone false = refl
unframed_kind (Resumed l) false b h = none_astray l b (unframed_begins false b h)

unframed : (n w : ℕ) → n < (if nat_lt n 6 then 6 else 7 + w) → nat_le (7 + w) n ≡ false
unframed n w h = grind (arith, h)

pub unfinished : (b : List ℕ) → IsUnfinished b → is_framed b ≡ false
unfinished b h = unframed (length b) (word_at b 4) h

-- what has come whole isn't cut off
pub framed_uncut : (c : Cut) (s : Bool) (b : List ℕ) → is_framed b ≡ true
    → is_cut_off c s b ≡ false
framed_uncut Sealed s b h = refl
framed_uncut Framed s b h = refl
framed_uncut (Resumed l) true b h = uncut l b (framed_unawaited l b h)
framed_uncut (Resumed l) false b h = refl

-- what is cut off is awaited
cut_parts : (p q : Bool) → (p && q) ≡ true → (p ≡ true) × (q ≡ true)
cut_parts true q h = (refl, h)
cut_parts false q h = absurd cc

pub cut_waits : (c : Cut) (s : Bool) (b : List ℕ) → waits_by c s b ≡ false
    → is_cut_off c s b ≡ false
cut_waits Sealed s b h = refl
cut_waits Framed s b h = refl
cut_waits (Resumed l) false b h = refl
cut_waits (Resumed l) true b h = go (is_cut_off (Resumed l) true b) refl where
  go : (t : Bool) → is_cut_off (Resumed l) true b ≡ t → t ≡ false
  go false e = refl
  go true e =
      let is = cut_parts (is_all b) (is_awaited l b) e in
      let waits : waits_by (Resumed l) true b ≡ true =
      λ i. is.0 i && (ap (λ t. if t then reach_waits l most_damaged (behind b) else is_awaited l b)
      (awaited_unfit l b is.1) ∙ is.1) i in
      absurd cc

pub cut_awaited : (l : ℕ) (s : Bool) (b : List ℕ) → is_cut_off (Resumed l) s b ≡ true
    → is_awaited l b ≡ true
cut_awaited l s b h =
    (cut_parts (is_all b) (is_awaited l b) (cut_parts s (is_all b && is_awaited l b) h).1).1

-- it is shorter than its header says, and all that there is
pub cut_short : (l : ℕ) (s : Bool) (b : List ℕ) → is_cut_off (Resumed l) s b ≡ true
    → (is_framed b ≡ false) × (length b < lookahead) × (length b < 7 + word_at b 4)
cut_short l s b h =
    let is = cut_parts (is_all b) (is_awaited l b) (cut_parts s (is_all b && is_awaited l b) h).1 in
    let none = awaited_unframed l b is.1 in
    (none, is_lt (length b) lookahead is.0, not_le (7 + word_at b 4) (length b) none)
  where
    is_lt : (n m : ℕ) → nat_lt n m ≡ true → n < m
    is_lt n m h = grind (arith, h)

    not_le : (n m : ℕ) → nat_le n m ≡ false → m < n
    not_le n m h = grind (arith, h)

-- how many octets stand in front, where none is cut off
pub exact : (c : Cut) (s : Bool) (b : List ℕ) (k : PieceKind) (n : ℕ)
    → is_cut_off c s b ≡ false
    → k ≡ kind_by c s b
    → n ≡ len_by c s b
    → n ≡ size_in k b
exact c s b k n none kind size =
    size ∙ ap (λ t. if t then length b else size_in (kind_by c s b) b) none
    ∙ ap (λ k. size_in k b) (sym kind)

-- where one is, all of them do
cut_all : (c : Cut) (s : Bool) (b : List ℕ) (k : PieceKind) (n : ℕ)
    → is_cut_off c s (take lookahead b) ≡ true
    → k ≡ kind_by c s (take lookahead b)
    → n ≡ length (take lookahead b)
    → of_kind k (take (size_in k (take lookahead b)) b) ≡ of_kind k (take n b)
cut_all Sealed s b k n h kind size = absurd cc
cut_all Framed s b k n h kind size = absurd cc
cut_all (Resumed l) s b k n h kind size =
    let near = take lookahead b in
    let is = cut_short l s near h in
    let near_len = length-take lookahead b in
    let few = is.1 in
    let short = is.2 in
    let damaged : k ≡ Damaged =
    kind ∙ unframed_kind (Resumed l) s near is.0 ∙ ap cut_or_stray h in
    let sized : size_in k near ≡ 7 + word_at near 4 = ap (λ k. size_in k near) damaged in
    ap (of_kind k)
    (take_all (size_in k near) b (omega (arith, sized, near_len, few, short))
    ∙ sym (take_all n b (omega (arith, size, near_len, few))))

-- so does one that the end cuts off
pub cut_stays_by : (c : Cut) (s : Bool) (b more : List ℕ) (k : PieceKind) (n : ℕ)
    → more ≡ []
    → k ≡ kind_by c s (take lookahead b)
    → n ≡ len_by c s (take lookahead b)
    → piece_by c s (b ++ more) ≡ of_kind k (take n b)
unfolding piece_by
cut_stays_by c s b more k n none kind size =
    ap (λ m. piece_by c s (b ++ m)) none
    ∙ ap (piece_by c s) (append-nil b)
    ∙ ap (λ k. piece_of k (take lookahead b) b) (sym kind)
    ∙ go (is_cut_off c s (take lookahead b)) refl
  where
    go : (t : Bool) → is_cut_off c s (take lookahead b) ≡ t
        → of_kind k (take (size_in k (take lookahead b)) b) ≡ of_kind k (take n b)
    go false e =
        ap (λ n. of_kind k (take n b)) (sym (exact c s (take lookahead b) k n e kind size))
    go true e =
        cut_all c s b k n e kind
        (size ∙ ap (λ t. if t then length (take lookahead b)
        else size_in (kind_by c s (take lookahead b)) (take lookahead b)) e)

-- ---- no longer than the longest

none_behind : (l : ℕ) (b : List ℕ)
    → follows false l most_in_row (suc l) b ≡ false
    → follows true l most_in_row (suc l) b ≡ false
    → kind_by (Resumed l) false b ≡ Stray
none_behind l b h k = go (begins false b) where
  go : (t : Bool) → (if t && follows false l most_in_row (suc l) b then Whole else
      if t && follows true l most_in_row (suc l) b then Whole else Stray) ≡ Stray
  go true = λ i. if h i then Whole else if k i then Whole else Stray
  go false = refl

-- of a length that isn't believed one octet stands
long_stray : (l : ℕ) (s : Bool) (b : List ℕ) → is_short l b ≡ false
    → is_cut_off (Resumed l) s b ≡ false
    → kind_by (Resumed l) s b ≡ Stray
long_stray l true b h k = unfit_stray l b (ap (λ t. t && is_framed b) h) k
long_stray l false b h k = go (is_framed b) refl where
  go : (t : Bool) → is_framed b ≡ t → kind_by (Resumed l) false b ≡ Stray
  go false e = none_astray l b (unframed_begins false b e)
  go true e =
      let left = eq_false (suc l) 0 (λ e. omega (arith, e)) in
      let wrong : right l b ≡ false =
      ap (λ t. (t && is_framed b) && ends_in_checksum (frame b)) h in
      none_behind l b
      (not_right false l 8192 (suc l) b left refl wrong)
      (not_right true l 8192 (suc l) b left (some_there b e) wrong)

short_size : (l : ℕ) (k : PieceKind) (b : List ℕ) → 7 + word_at b 4 ≤ l → size_in k b ≤ l
short_size l Whole b h = h
short_size l Damaged b h = h
short_size l Stray b h = omega (arith, h)

believed : (l w : ℕ) → nat_le (7 + w) l ≡ true → 7 + w ≤ l
believed l w h = grind (arith, h)

-- a piece isn't longer than the longest packet
pub piece_short : (l : ℕ) (s : Bool) (b : List ℕ) → 5 < l
    → length (piece_by (Resumed l) s b).octets ≤ l
unfolding piece_by
piece_short l s b some =
    go (is_cut_off (Resumed l) s (take lookahead b)) (is_short l (take lookahead b)) refl refl where
      near : List ℕ
      near = take lookahead b

      sized : size_in (kind_by (Resumed l) s near) near ≤ l
          → length (take (size_in (kind_by (Resumed l) s near) near) b) ≤ l
      sized within =
          let all = length-take (size_in (kind_by (Resumed l) s near) near) b in
          omega (arith, within, all)

      few : is_cut_off (Resumed l) s near ≡ true → is_short l near ≡ false → length b ≤ l
      few e long =
          let is = cut_short l s near e in
          let size = length-take lookahead b in
          let none = awaited_few l near (cut_awaited l s near e) long in
          let small = is.1 in
          omega (arith, size, none, small, some)

      go : (t u : Bool) → is_cut_off (Resumed l) s near ≡ t → is_short l near ≡ u
          → length (take (size_in (kind_by (Resumed l) s near) near) b) ≤ l
      go t true e u =
          sized (short_size l (kind_by (Resumed l) s near) near (believed l (word_at near 4) u))
      go false false e u =
          let one = ap (λ k. size_in k near) (long_stray l s near u e) in
          sized (omega (arith, one, some))
      go true false e u =
          let all = length-take (size_in (kind_by (Resumed l) s near) near) b in
          let small = few e u in
          omega (arith, all, small)

-- While lengths are intact, nothing inside a packet is taken for one.
use Rattle.std.proofs.Common.{◌≡◌, ◌⊎◌, ◌∙◌, ap, sym, subst, refl, inl, inr, ℕ, zero, suc, ◌+◌, ◌-◌}
use Rattle.std.proofs.Common.{◌<◌, ◌≤◌, ◌==◌, nat_le, nat_lt, ◌%◌, Bool, true, false, not, ◌&&◌}
use Rattle.std.proofs.Common.{◌||◌, if◌then◌else◌, List, [], ◌∷◌, ◌++◌, length, take, drop, arith}
use Rattle.std.proofs.Common.{append-nil, append_assoc, length-append, length-take, take_all}
use Rattle.std.specs.Prelude.{⊤}
use Rattle.std.proofs.Math.Seq.{drop-append_seam, take-append_seam}
use Rattle.lpt_packet.specs.Numbers.{word_at}
use Rattle.lpt_packet.specs.Packets.{Fields, IsPacket}
use Rattle.lpt_packet.proofs.Readings.{eq_false}
use Rattle.lpt_stream.specs.declared.cut.Cut.TheVariants.{Resumed}
use Rattle.lpt_stream.specs.declared.piece_kind.PieceKind.TheVariants.{Whole, Damaged, Stray}
use Rattle.lpt_stream.specs.Lengths.{AreLed, IsEndOrNext, IsFollowed, cut_whole}
use Rattle.lpt_stream.specs.Pieces.{LeadsBy, Piece, begins, begins_by, first_fits, fits, flags_fit}
use Rattle.lpt_stream.specs.Pieces.{frame, is_all, is_awaited, is_cut_off, is_found, is_framed}
use Rattle.lpt_stream.specs.Pieces.{is_short, is_too_short, keeps_step, leads, kind_by, lookahead}
use Rattle.lpt_stream.specs.Pieces.{most_damaged, passes_by, piece_by, piece_of, reaches, size_fits}
use Rattle.lpt_stream.specs.Pieces.{size_in}
use Rattle.lpt_stream.specs.Streams.{IsFramed, all_octets}
use Rattle.lpt_stream.proofs.ByLemmas.{cut_stays_by, packet_stays_by, unframed_kind}
use Rattle.lpt_stream.proofs.DamageLemmas.{framed, front, packet_begins, rest_is, size, some}
use Rattle.lpt_stream.proofs.DamageLemmas.{take_past}
use Rattle.lpt_stream.proofs.PieceLemmas.{begins_may, framed_fits, of_kind, whole}
use Rattle.lpt_stream.proofs.BelievedLemmas.{awaited_few, awaited_unframed, fits_framed}
use Rattle.lpt_stream.proofs.ReachLemmas.{leads-more, reached, reached-end, reaches-next}
use Rattle.lpt_stream.proofs.StreamLemmas.{framed_packet}

-- each is as many octets as its header says, and is believed
abbrev AreBelieved : (l : ℕ) → List (List ℕ) → Type 0
AreBelieved l [] = ⊤
AreBelieved l (b ∷ bs) =
    IsFramed b × (length b ≤ l) × (is_too_short b ≡ false) × AreBelieved l bs

believed_near : (l : ℕ) (near far : List (List ℕ)) (rest : List ℕ) → AreLed l (near ++ far) rest
    → AreBelieved l near
believed_near l [] far rest h = tt
believed_near l (b ∷ bs) far rest h = (h.0, h.1, h.2, believed_near l bs far rest h.4)

pub fits_there : (l : ℕ) (b more : List ℕ) → IsFramed b → length b ≤ l → fits l (b ++ more) ≡ true
fits_there l b more h short =
    let same = size b more h in
    let is : is_short l (b ++ more) ≡ true = grind (arith, same, short) in
    λ i. is i && framed b more h i

-- and leads on, if it isn't too short
leads_there : (l : ℕ) (b more : List ℕ) → IsFramed b → length b ≤ l → is_too_short b ≡ false
    → leads l (b ++ more) ≡ true
leads_there l b more h short long =
    let fit : fits l b ≡ true = ap (fits l) (sym (append-nil b)) ∙ fits_there l b [] h short in
    leads-more l b more (λ i. fit i && not (long i))

third : (p q r : Bool) → (p && q && r) ≡ true → r ≡ true
third true true r h = h
third true false r h = absurd cc
third false q r h = absurd cc

-- a packet isn't
packet_leads : (l : ℕ) (p more : List ℕ) (f : Fields) → IsPacket p f → length p ≤ l
    → leads l (p ++ more) ≡ true
packet_leads l p more f is short =
    let fit = fits_there l p more (framed_packet p f is) short in
    let may = begins_may (p ++ more) (packet_begins p more f is) in
    let size = third (first_fits (p ++ more)) (flags_fit (p ++ more)) (size_fits (p ++ more)) may in
    let room = framed_fits (p ++ more) (fits_framed l (p ++ more) fit) in
    λ i. fit i && not (long_enough (p ++ more) (omega (arith, room)) size i)
  where
    long_enough : (b : List ℕ) → 6 ≤ length b
        → (nat_lt (length b) 6 || not (word_at b 4 == 0)) ≡ true
        → is_too_short b ≡ false
    long_enough b head h = go (word_at b 4 == 0) refl where
      few : nat_lt (length b) 6 ≡ false
      few = grind (arith, head)

      go : (t : Bool) → (word_at b 4 == 0) ≡ t → is_too_short b ≡ false
      go false e = ap (λ t. t && not (word_at b 0 % 2048 == 2047)) e
      go true e = absurd (let k = sym (λ i. few i || not (e i)) ∙ h in cc)

pub some_there : (b more : List ℕ) → IsFramed b → (length (b ++ more) == 0) ≡ false
some_there [] more h = let head = h.headed in absurd (omega (arith, head))
some_there (x ∷ b) more h = eq_false (length (x ∷ b ++ more)) 0 (λ e. omega (arith, e))

-- ---- where lengths lead

front_near : (b : List ℕ) (bs : List (List ℕ)) (c : List ℕ) (m : ℕ)
    → length b ≤ m
    → take m (all_octets (b ∷ bs) ++ c) ≡ b ++ take (m - length b) (all_octets bs ++ c)
front_near b bs c m h =
    ap (take m) (append_assoc b (all_octets bs) c) ∙ take_past b (all_octets bs ++ c) m h

-- what is awaited is shorter than the longest packet
less : (l : ℕ) (c : List ℕ) → 5 < l → is_awaited l c ≡ true → length c < l
less l c most h = go (is_short l c) refl where
  short : (l n w : ℕ) → nat_le (7 + w) l ≡ true → nat_le (7 + w) n ≡ false → n < l
  short l n w h k = grind (arith, h, k)

  go : (t : Bool) → is_short l c ≡ t → length c < l
  go true e = short l (length c) (word_at c 4) e (awaited_unframed l c h)
  go false e = let few = awaited_few l c h e in omega (arith, few, most)

-- to the end, if that counts, or to a packet
led_there : (e : Bool) (l n : ℕ) (c : List ℕ) (m : ℕ)
    → 5 < l
    → l ≤ m
    → (is_awaited l c ≡ true → e ≡ true)
    → IsEndOrNext l c
    → reaches e l (suc n) (take m c) ≡ true
led_there e l n c m most room counts (inl end) =
    let few = less l c most end in
    ap (reaches e l (suc n)) (take_all m c (omega (arith, few, room)))
    ∙ reached-end e l n c (λ i. counts end i && end i)
led_there e l n c m most room counts (inr w) =
    let p = w.0 in
    let more = take (m - length p) w.1 in
    let packet = framed_packet p w.2 w.3 in
    let near : take m c ≡ p ++ more =
    ap (take m) w.5 ∙ take_past p w.1 m (let short = w.4 in omega (arith, short, room)) in
    ap (reaches e l (suc n)) near
    ∙ reached e l n (p ++ more) (packet_leads l p more w.2 w.3 w.4) (packet_begins p more w.2 w.3)

-- over packets, one behind the other
led : (e : Bool) (l n : ℕ) (bs : List (List ℕ)) (c : List ℕ) (m : ℕ)
    → 5 < l
    → AreBelieved l bs
    → length bs < n
    → length (all_octets bs) + l ≤ m
    → (is_awaited l c ≡ true → e ≡ true)
    → IsEndOrNext l c
    → reaches e l n (take m (all_octets bs ++ c)) ≡ true
led e l zero bs c m most h few room counts next = absurd (omega (arith, few))
led e l (suc n) [] c m most h few room counts next =
    led_there e l n c m most (omega (arith, room)) counts next
led e l (suc n) (b ∷ bs) c m most h few room counts next =
    let sum = length-append b (all_octets bs) in
    let fit : length b ≤ m = omega (arith, room, sum) in
    let more = take (m - length b) (all_octets bs ++ c) in
    let on = led e l n bs c (m - length b) most h.3 (omega (arith, few)) (omega (arith, room, sum))
    counts next in
    ap (reaches e l (suc n)) (front_near b bs c m fit)
    ∙ reaches-next e l n (b ++ more) (leads_there l b more h.0 h.1 h.2)
    ∙ (λ i. begins false (b ++ more)
    || (ap (reaches e l n) (rest_is b more h.0) ∙ on) i)
    ∙ all (begins false (b ++ more)) where
      all : (t : Bool) → (t || true) ≡ true
      all true = refl
      all false = refl

-- ---- the piece in front

kind_there : (r t p : Bool)
    → r ≡ true
    → p ≡ true
    → (if r && t then Whole else if true && p then Damaged else Stray)
    ≡ (if t then Whole else Damaged)
kind_there true true p h k = refl
kind_there true false true h k = refl
kind_there true false false h k = absurd cc
kind_there false t p h k = absurd cc

joined : (near far : List (List ℕ)) (rest : List ℕ)
    → all_octets (near ++ far) ++ rest ≡ all_octets near ++ (all_octets far ++ rest)
joined [] far rest = refl
joined (b ∷ bs) far rest =
    append_assoc b (all_octets (bs ++ far)) rest
    ∙ ap (λ x. b ++ x) (joined bs far rest)
    ∙ sym (append_assoc b (all_octets bs) (all_octets far ++ rest))

parts : (near far : List (List ℕ)) (rest : List ℕ) (bs : List (List ℕ))
    → bs ≡ near ++ far
    → all_octets bs ++ rest ≡ all_octets near ++ (all_octets far ++ rest)
parts near far rest bs is = ap (λ x. all_octets x ++ rest) is ∙ joined near far rest

found_there : (b more : List ℕ) → IsFramed b → begins true (b ++ more) ≡ is_found true b
found_there b more h = ap (is_found true) (front b more h)

abbrev cut_as : Bool → List ℕ → Piece
cut_as v b = of_kind (if v then Whole else Damaged) b

-- one whose length leads on is passed over whole
followed_there : (l : ℕ) (b : List ℕ) (bs : List (List ℕ)) (rest : List ℕ)
    → IsFramed b
    → length b ≤ l
    → AreLed l bs rest
    → IsFollowed l b bs rest
    → piece_by (Resumed l) true (b ++ (all_octets bs ++ rest)) ≡ cut_as (is_found true b) b
unfolding piece_by
followed_there l b bs rest h short leads next =
    let tail = all_octets bs ++ rest in
    let m = lookahead - length b in
    let close = next.close in
    let more = take m tail in
    let near : take lookahead (b ++ tail) ≡ b ++ more =
    take_past b tail lookahead (omega (arith, close)) in
    let are : tail ≡ all_octets next.near ++ (all_octets next.far ++ rest) =
    parts next.near next.far rest bs next.are in
    let e = is_all (b ++ more) in
    let c = all_octets next.far ++ rest in
    let same = h.whole in
    let most : 5 < l = omega (arith, same, short) in
    let ends : is_awaited l c ≡ true → e ≡ true =
    λ end. let few = less l c most end in
    let sum = length-append b more in
    let parts_sum = ap length are ∙ length-append (all_octets next.near) c in
    let taken = length-take m tail in
    lt_true (length (b ++ more)) lookahead
    (omega (arith, sum, parts_sum, taken, few, close)) in
    let led_on : reaches e l most_damaged more ≡ true =
    ap (λ x. reaches e l most_damaged (take m x)) are
    ∙ led e l most_damaged next.near c m most
    (believed_near l next.near next.far rest (subst (λ x. AreLed l x rest) next.are leads))
    next.few (omega (arith, close)) ends next.next in
    let fit = fits_there l b more h short in
    let passes : passes_by (Resumed l) (b ++ more) ≡ true =
    (λ i. is_cut_off (Resumed l) true (b ++ more)
    || (fit i && (ap (reaches e l most_damaged) (rest_is b more h) ∙ led_on) i))
    ∙ any (is_cut_off (Resumed l) true (b ++ more)) in
    let believed : is_short l (b ++ more) ≡ true =
    let same = size b more h in grind (arith, same, short) in
    let kind : kind_by (Resumed l) true (b ++ more) ≡ (if is_found true b then Whole else Damaged) =
    kind_there (is_short l (b ++ more)) (begins true (b ++ more))
    (passes_by (Resumed l) (b ++ more)) believed passes
    ∙ ap (λ (t : Bool). if t then Whole else Damaged) (found_there b more h) in
    ap (λ x. piece_of (kind_by (Resumed l) true x) x (b ++ tail)) near
    ∙ ap (λ k. piece_of k (b ++ more) (b ++ tail)) kind
    ∙ sized (is_found true b) more tail
  where
    any : (t : Bool) → (t || true) ≡ true
    any true = refl
    any false = refl

    lt_true : (n m : ℕ) → n < m → nat_lt n m ≡ true
    lt_true n m h = grind (arith, h)

    sized : (t : Bool) (more tail : List ℕ)
        → piece_of (if t then Whole else Damaged) (b ++ more) (b ++ tail) ≡ cut_as t b
    sized true more tail =
        ap (λ n. of_kind Whole (take n (b ++ tail))) (size b more h)
        ∙ ap (of_kind Whole) (take-append_seam b tail)
    sized false more tail =
        ap (λ n. of_kind Damaged (take n (b ++ tail))) (size b more h)
        ∙ ap (of_kind Damaged) (take-append_seam b tail)

enough : (a l : ℕ) → a ≤ l → nat_le a l ≡ true
enough a l h = grind (arith, h)

-- one that is found in step is a packet
whole_there : (l : ℕ) (b rest : List ℕ)
    → IsFramed b
    → length b ≤ l
    → length b ≤ lookahead
    → is_found true b ≡ true
    → piece_by (Resumed l) true (b ++ rest) ≡ whole b
whole_there l b rest h short close is =
    let near : take lookahead b ≡ b = take_all lookahead b close in
    let same = h.whole in
    let all : frame b ≡ b = take_all (7 + word_at b 4) b (omega (arith, same)) in
    let believed : is_short l b ≡ true = enough (7 + word_at b 4) l (omega (arith, same, short)) in
    packet_stays_by (Resumed l) true b rest (length b)
    (ap (begins_by (Resumed l) true) near
    ∙ (λ i. believed i && (ap (is_found true) all ∙ is) i))
    (same ∙ ap (λ x. 7 + word_at x 4) (sym near))
    (omega (arith, ap length near)) (omega arith)
    ∙ ap whole (take_all (length b) b (omega arith))

-- ---- one behind the other

piece_there : (l : ℕ) (b : List ℕ) (bs : List (List ℕ)) (rest : List ℕ)
    → IsFramed b
    → length b ≤ l
    → AreLed l bs rest
    → ((is_found true b ≡ true) × (length b ≤ lookahead)) ⊎ IsFollowed l b bs rest
    → cut_as (is_found true b) b ≡ piece_by (Resumed l) true (b ++ (all_octets bs ++ rest))
piece_there l b bs rest h short leads (inl is) =
    ap (λ v. cut_as v b) is.0
    ∙ sym (whole_there l b (all_octets bs ++ rest) h short is.1 is.0)
piece_there l b bs rest h short leads (inr next) =
    sym (followed_there l b bs rest h short leads next)

-- each is cut out whole
pub lengths_lead : (l : ℕ) (bs : List (List ℕ)) (rest : List ℕ)
    → AreLed l bs rest
    → LeadsBy (Resumed l) true (all_octets bs ++ rest) (cut_whole bs) true rest
lengths_lead l [] rest h = (refl, refl)
lengths_lead l (b ∷ bs) rest h =
    let tail = all_octets bs ++ rest in
    subst (λ x. LeadsBy (Resumed l) true x (cut_whole (b ∷ bs)) true rest)
    (sym (append_assoc b (all_octets bs) rest)) (
      some b tail h.0,
      piece_there l b bs rest h.0 h.1 h.4 h.3,
      subst (λ (s : Bool).
          LeadsBy (Resumed l) s (drop (length b) (b ++ tail)) (cut_whole bs) true rest)
          (sym (stays (is_found true b)))
          (subst (λ x. LeadsBy (Resumed l) true x (cut_whole bs) true rest)
          (sym (drop-append_seam b tail)) (lengths_lead l bs rest h.4)),
    ) where
      stays : (v : Bool) → keeps_step (if v then Whole else Damaged) ≡ true
      stays true = refl
      stays false = refl

-- what the end cuts off is passed over
pub cut_off_there : (l : ℕ) (b : List ℕ) → is_awaited l b ≡ true → length b < lookahead
    → piece_by (Resumed l) true b ≡ of_kind Damaged b
cut_off_there l b h few =
    let near : take lookahead b ≡ b = take_all lookahead b (omega (arith, few)) in
    let cut : is_cut_off (Resumed l) true (take lookahead b) ≡ true =
    ap (is_cut_off (Resumed l) true) near ∙ (λ i. lt_true (length b) lookahead few i && h i) in
    let kind : kind_by (Resumed l) true (take lookahead b) ≡ Damaged =
    unframed_kind (Resumed l) true (take lookahead b)
    (ap is_framed near ∙ awaited_unframed l b h)
    ∙ ap (λ t. if t then Damaged else Stray) cut in
    ap (piece_by (Resumed l) true) (sym (append-nil b))
    ∙ cut_stays_by (Resumed l) true b [] Damaged (length b) refl (sym kind)
    (ap length (sym near) ∙ sym (ap (λ t. if t then length (take lookahead b)
    else size_in (kind_by (Resumed l) true (take lookahead b)) (take lookahead b)) cut))
    ∙ ap (of_kind Damaged) (take_all (length b) b (omega arith))
  where
    lt_true : (n m : ℕ) → n < m → nat_lt n m ≡ true
    lt_true n m h = grind (arith, h)

-- Where right packets follow one another for more octets than the longest has, one is found.
use Rattle.std.proofs.Common.{◌≡◌, ◌∙◌, ap, sym, refl, ℕ, zero, suc, ◌+◌, ◌-◌, ◌<◌, ◌≤◌, ◌==◌, Bool}
use Rattle.std.proofs.Common.{true, false, ◌&&◌, if◌then◌else◌, List, [], ◌∷◌, ◌++◌, length, take}
use Rattle.std.proofs.Common.{drop, arith, append-nil, append_assoc, length-append, take_all}
use Rattle.std.proofs.Math.Seq.{take-append_seam}
use Rattle.lpt_packet.specs.Numbers.{word_at}
use Rattle.lpt_packet.specs.Packets.{Fields, IsPacket}
use Rattle.lpt_stream.specs.declared.cut.Cut.TheVariants.{Resumed}
use Rattle.lpt_stream.specs.declared.piece_kind.PieceKind.{PieceKind}
use Rattle.lpt_stream.specs.declared.piece_kind.PieceKind.TheVariants.{Whole, Damaged, Stray}
use Rattle.lpt_stream.specs.Lengths.{AreRight, IsFoundBy, IsRight, IsRun}
use Rattle.lpt_stream.specs.Pieces.{begins, begins_by, ends_in_checksum, follows, kind_by}
use Rattle.lpt_stream.specs.Pieces.{lookahead, most_in_row, piece_by, piece_of, size_in}
use Rattle.lpt_stream.specs.Streams.{all_octets}
use Rattle.lpt_stream.proofs.ByLemmas.{packet_stays_by}
use Rattle.lpt_stream.proofs.DamageLemmas.{front, packet_begins, rest_is, size, some}
use Rattle.lpt_stream.proofs.PieceLemmas.{of_kind, whole}
use Rattle.lpt_stream.proofs.FollowLemmas.{follows-all, follows-next, right}
use Rattle.lpt_stream.proofs.LengthLemmas.{fits_there, some_there}

-- each of them follows
right_there : (l : ℕ) (b more : List ℕ) → IsRight l b → right l (b ++ more) ≡ true
right_there l b more h =
    λ i. fits_there l b more h.framed h.short i
    && (ap ends_in_checksum (front b more h.framed) ∙ h.right) i

run_follows : (l n left : ℕ) (bs : List (List ℕ)) (c : List ℕ)
    → AreRight l bs
    → length bs < n
    → left ≤ length (all_octets bs)
    → follows false l n left (all_octets bs ++ c) ≡ true
run_follows l zero left bs c h few enough = absurd (omega (arith, few))
run_follows l (suc n) left [] c h few enough =
    follows-all false l n left c (grind (arith, enough))
run_follows l (suc n) left (b ∷ bs) c h few enough =
    go (left == 0) refl
    (let sum = length-append b (all_octets bs) in
    run_follows l n (left - length b) bs c h.1 (omega (arith, few)) (omega (arith, enough, sum)))
  where
    go : (t : Bool) → (left == 0) ≡ t
        → follows false l n (left - length b) (all_octets bs ++ c) ≡ true
        → follows false l (suc n) left (all_octets (b ∷ bs) ++ c) ≡ true
    go true e next = follows-all false l n left (all_octets (b ∷ bs) ++ c) e
    go false e next =
        let more = all_octets bs ++ c in
        ap (follows false l (suc n) left) (append_assoc b (all_octets bs) c)
        ∙ follows-next false l n left (b ++ more) e (some_there b more h.0.framed)
        ∙ (λ i. right_there l b more h.0 i
        && follows false l n (left - size b more h.0.framed i) (rest_is b more h.0.framed i))
        ∙ next

-- the first is found
pub run_found : (l : ℕ) (p : List ℕ) (bs : List (List ℕ)) (rest : List ℕ) (f : Fields)
    → IsPacket p f
    → IsRun l (p ∷ bs)
    → piece_by (Resumed l) false (all_octets (p ∷ bs) ++ rest) ≡ whole p
run_found l p bs rest f packet h =
    let b = all_octets (p ∷ bs) in
    let sum = length-append p (all_octets bs) in
    let framed = h.right.0.framed in
    let near : take lookahead b ≡ b = take_all lookahead b h.close in
    let run : follows false l most_in_row (suc l) b ≡ true =
    sym (ap (follows false l most_in_row (suc l)) (append-nil b))
    ∙ run_follows l most_in_row (suc l) (p ∷ bs) [] h.right h.few h.long in
    packet_stays_by (Resumed l) false b rest (length p)
    (ap (begins_by (Resumed l) false) near
    ∙ (λ i. packet_begins p (all_octets bs) f packet i && run i))
    (sym (ap (λ x. 7 + word_at x 4) near ∙ size p (all_octets bs) framed))
    (omega (arith, sum, ap length near)) (omega (arith, sum))
    ∙ ap whole (take-append_seam p (all_octets bs))

-- out of step nothing is passed over
never_damaged : (a b : Bool) → (if a then Whole else if b then Whole else Stray) ≡ Damaged → ⊥
never_damaged true b h = cc
never_damaged false true h = cc
never_damaged false false h = cc

piece_is : (l : ℕ) (s : List ℕ) (k : PieceKind)
    → kind_by (Resumed l) false (take lookahead s) ≡ k
    → piece_by (Resumed l) false s ≡ of_kind k (take (size_in k (take lookahead s)) s)
unfolding piece_by
piece_is l s k h = ap (λ k. piece_of k (take lookahead s) s) h

-- behind any octets a packet is found, at the latest where one would be found without them
pub found_by : (l : ℕ) (junk run packet : List ℕ)
    → 0 < length run
    → piece_by (Resumed l) false run ≡ whole packet
    → IsFoundBy l (junk ++ run) (length junk)
found_by l [] run packet some is = record {
  strays = [];
  packet = packet;
  rest = drop (length packet) run;
  early = omega arith;
  leads = (some, sym is, (refl, refl));
}
found_by l (x ∷ junk) run packet some is =
    go (kind_by (Resumed l) false (take lookahead (x ∷ (junk ++ run)))) refl
    (found_by l junk run packet some is) where
      go : (k : PieceKind)
          → kind_by (Resumed l) false (take lookahead (x ∷ (junk ++ run))) ≡ k
          → IsFoundBy l (junk ++ run) (length junk)
          → IsFoundBy l (x ∷ (junk ++ run)) (length (x ∷ junk))
      go Whole e next =
          let n = size_in Whole (take lookahead (x ∷ (junk ++ run))) in
          record {
            strays = [];
            packet = take n (x ∷ (junk ++ run));
            rest = drop (length (take n (x ∷ (junk ++ run)))) (x ∷ (junk ++ run));
            early = omega arith;
            leads = (omega arith, sym (piece_is l (x ∷ (junk ++ run)) Whole e), (refl, refl));
          }
      go Damaged e next =
          absurd (never_damaged
          (begins_by (Resumed l) false (take lookahead (x ∷ (junk ++ run))))
          (begins false (take lookahead (x ∷ (junk ++ run)))
          && follows true l most_in_row (suc l) (take lookahead (x ∷ (junk ++ run)))) e)
      go Stray e next =
          let early = next.early in
          record {
            strays = of_kind Stray (x ∷ []) ∷ next.strays;
            packet = next.packet;
            rest = next.rest;
            early = omega (arith, early);
            leads = (omega arith, sym (piece_is l (x ∷ (junk ++ run)) Stray e), next.leads);
          }

-- so it is in front of a run
pub run_found_by : (l : ℕ) (junk p : List ℕ) (bs : List (List ℕ)) (rest : List ℕ) (f : Fields)
    → IsPacket p f
    → IsRun l (p ∷ bs)
    → IsFoundBy l (junk ++ (all_octets (p ∷ bs) ++ rest)) (length junk)
run_found_by l junk p bs rest f packet h =
    let long = h.long in
    let sum = length-append (all_octets (p ∷ bs)) rest in
    found_by l junk (all_octets (p ∷ bs) ++ rest) p (omega (arith, long, sum))
    (run_found l p bs rest f packet h)

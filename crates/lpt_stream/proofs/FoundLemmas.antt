-- The packets of a stream are found in it.
use Rattle.std.proofs.Common.{◌≡◌, ◌∙◌, ap, sym, subst, refl, inl, inr, ℕ, ◌+◌, ◌/◌, ◌%◌, ◌≤◌, ◌<◌, ◌==◌, ◌&&◌, nat_le, nat_lt, Bool, true, false, List, [], ◌∷◌, ◌++◌, length, take, arith, append-nil, append_assoc, take_all, length-append}
use Rattle.std.proofs.Math.Seq.{drop-append_seam}
use Rattle.lpt_packet.specs.Numbers.{word_at}
use Rattle.lpt_packet.specs.Packets.{Fields, IdlePacket, APacket, fields_at}
use Rattle.lpt_packet.proofs.Codec.{length-spelling}
use Rattle.lpt_packet.proofs.Found.{again}
use Rattle.lpt_packet.proofs.Readings.{chain, eq_false, eq_true, lt_false, verdict_is}
use Rattle.lpt_stream.specs.Pieces.{Piece, lookahead, ends_in_checksum, frame, is_taken, is_found, begins, piece_at, Leads, Finds, packets_of}
use Rattle.lpt_stream.specs.Streams.{AreInStep, IsFramed, IsInStep, IsSound, all_octets}
use Rattle.lpt_stream.proofs.PieceLemmas.{packet_stays, whole}
use Rattle.lpt_stream.proofs.StreamLemmas.{framed_packet, framed_idle}

-- what is found in step
record IsTaken (b : List ℕ) : Type 0 where
  framed : IsFramed b
  short : length b ≤ 65542
  taken : is_found true b ≡ true

-- a right checksum is enough, whatever the flags say
flagged : (flags secondary : Bool) (f : Fields)
    → is_taken true true (chain false true true false flags secondary false true f) ≡ true
flagged false secondary f = refl
flagged true false f = refl
flagged true true f = refl

sound : (b : List ℕ) → IsSound b → is_found true b ≡ true
sound b h =
    let long = h.long in
    let short : nat_lt (length b) 7 ≡ false = lt_false (length b) 7 (omega (arith, long)) in
    let bare : nat_lt (length b) 8 ≡ false = lt_false (length b) 8 long in
    let version = eq_true _ _ h.version in
    let fits = eq_true _ _ h.data_length in
    let busy = eq_false _ _ h.busy in
    let right = eq_true _ _ h.right in
    let least : nat_le 8 (length b) ≡ true = grind (arith, long) in
    ap (is_taken true (ends_in_checksum b)) (verdict_is b)
    ∙ (λ i. is_taken true (least i && right i)
    (chain (short i) (version i) (fits i) (busy i) (word_at b 2 / 16384 == 3)
    (word_at b 0 / 2048 % 2 == 1) (bare i) (right i) (fields_at b)))
    ∙ flagged (word_at b 2 / 16384 == 3) (word_at b 0 / 2048 % 2 == 1) (fields_at b)

taken : (b : List ℕ) → IsInStep b → IsTaken b
taken b (inl (inl w)) =
    let size : length b ≡ length w.0.octets + 8 = ap length w.1.spelled ∙ length-spelling w.0 in
    let fits = w.1.ranges.field_fits in
    record {
      framed = framed_packet b w.0 w.1;
      short = omega (arith, fits);
      taken = ap (is_taken true (ends_in_checksum b)) (again b (APacket w.0) w.1);
    }
taken b (inl (inr h)) = record {
  framed = framed_idle b h.0;
  short = h.1;
  taken = ap (is_taken true (ends_in_checksum b)) (again b IdlePacket h.0);
}
taken b (inr h) =
    let long = h.long in
    record {
      framed = record { headed = omega (arith, long); whole = h.data_length };
      short = h.short;
      taken = sound b h;
    }

-- in front of a stream it is a piece
front_piece : (b rest : List ℕ) → IsTaken b → piece_at true (b ++ rest) ≡ whole b
front_piece b rest h =
    let near : take lookahead b ≡ b = take_all lookahead b (let s = h.short in omega (arith, s)) in
    let size : length b ≡ 7 + word_at b 4 = h.framed.whole in
    let all : frame b ≡ b = take_all (7 + word_at b 4) b (omega (arith, size)) in
    packet_stays true b rest (length b)
    (ap (begins true) near ∙ ap (is_found true) all ∙ h.taken)
    (size ∙ ap (λ x. 7 + word_at x 4) (sym near))
    (omega (arith, ap length near)) (omega arith)
    ∙ ap whole (take_all (length b) b (omega arith))

abbrev wholes : List (List ℕ) → List Piece
wholes [] = []
wholes (b ∷ bs) = whole b ∷ wholes bs

some : (b rest : List ℕ) → IsTaken b → 0 < length (b ++ rest)
some b rest h =
    let head = h.framed.headed in
    let all = length-append b rest in
    omega (arith, head, all)

-- a packet in front of what is cut
lead_one : (b rest : List ℕ) (ps : List Piece) (t : Bool)
    → IsTaken b
    → Leads true rest ps t []
    → Leads true (b ++ rest) (whole b ∷ ps) t []
lead_one b rest ps t h leads = (
  some b rest h,
  sym (front_piece b rest h),
  subst (λ x. Leads true x ps t []) (sym (drop-append_seam b rest)) leads,
)

lead : (bs : List (List ℕ)) (rest : List ℕ) (ps : List Piece) (t : Bool)
    → AreInStep bs
    → Leads true rest ps t []
    → Leads true (all_octets bs ++ rest) (wholes bs ++ ps) t []
lead [] rest ps t h leads = leads
lead (b ∷ bs) rest ps t h leads =
    subst (λ x. Leads true x (whole b ∷ (wholes bs ++ ps)) t [])
    (sym (append_assoc b (all_octets bs) rest))
    (lead_one b (all_octets bs ++ rest) (wholes bs ++ ps) t (taken b h.0)
    (lead bs rest ps t h.1 leads))

same : (bs : List (List ℕ)) (ps : List Piece) → packets_of (wholes bs ++ ps) ≡ bs ++ packets_of ps
same [] ps = refl
same (b ∷ bs) ps = ap (λ x. b ∷ x) (same bs ps)

-- packets are found in front of what is found
pub found_behind : (bs : List (List ℕ)) (rest : List ℕ) (packets : List (List ℕ))
    → AreInStep bs
    → Finds rest packets
    → Finds (all_octets bs ++ rest) (bs ++ packets)
found_behind bs rest packets h found = (
  wholes bs ++ found.0,
  (found.1.0, lead bs rest found.0 found.1.0 h found.1.1),
  same bs found.0 ∙ ap (λ x. bs ++ x) found.2,
)

-- one packet is
pub packet_found : (b rest : List ℕ) (packets : List (List ℕ))
    → IsInStep b
    → Finds rest packets
    → Finds (b ++ rest) (b ∷ packets)
packet_found b rest packets h found = (
  whole b ∷ found.0,
  (found.1.0, lead_one b rest found.0 found.1.0 (taken b h) found.1.1),
  ap (λ x. b ∷ x) found.2,
)

-- in these, one behind the other, just they are found
pub all_found : (bs : List (List ℕ)) → AreInStep bs → Finds (all_octets bs) bs
all_found bs h =
    let nothing : Finds [] [] = ([], (true, (refl, refl)), refl) in
    subst (λ x. Finds x bs) (append-nil (all_octets bs))
    (subst (λ x. Finds (all_octets bs ++ []) x) (append-nil bs) (found_behind bs [] [] h nothing))

-- Octets that end in a packet, and that they aren't passed over.
use Rattle.std.proofs.Common.{◌≡◌, ◌∙◌, ap, sym, refl, ℕ, ◌+◌, ◌<◌, ◌≤◌, ◌==◌, Bool, true, false}
use Rattle.std.proofs.Common.{not, ◌&&◌, ◌||◌, if◌then◌else◌, List, [], ◌∷◌, ◌++◌, length, take}
use Rattle.std.proofs.Common.{drop, get_or, append-nil, length-take, arith}
use Rattle.std.proofs.lemmas.List.{drop_all, take-take}
use Rattle.lpt_packet.specs.Numbers.{word_at}
use Rattle.lpt_packet.specs.Packets.{Fields, IsPacket}
use Rattle.lpt_packet.proofs.Readings.{eq_true}
use Rattle.lpt_stream.specs.declared.piece_kind.PieceKind.{PieceKind}
use Rattle.lpt_stream.specs.declared.piece_kind.PieceKind.TheVariants.{Whole, Damaged, Stray}
use Rattle.lpt_stream.specs.Pieces.{Piece, begins, behind, ends_in_packet, fills, frame}
use Rattle.lpt_stream.specs.Pieces.{is_framed, is_passed, kind_in, lookahead, may_begin, piece_at}
use Rattle.lpt_stream.specs.Pieces.{piece_by, size_in}
use Rattle.lpt_stream.proofs.BelievedLemmas.{and_both}
use Rattle.lpt_stream.proofs.PieceLemmas.{begins_may, framed_fits, or_right}
use Rattle.lpt_stream.proofs.DamageLemmas.{packet_begins}
use Rattle.lpt_stream.proofs.StrayLemmas.{front-is}
use Rattle.lpt_stream.proofs.StreamLemmas.{framed_packet}

-- ---- octet after octet

there : (x : ℕ) (b : List ℕ) → fills b ≡ true → ends_in_packet (x ∷ b) ≡ true
unfolding ends_in_packet
there x b h = ap (λ t. t || ends_in_packet b) h

not_there : (x : ℕ) (b : List ℕ) → fills b ≡ false → ends_in_packet (x ∷ b) ≡ ends_in_packet b
unfolding ends_in_packet
not_there x b h = ap (λ t. t || ends_in_packet b) h

later : (x : ℕ) (b : List ℕ) → ends_in_packet b ≡ true → ends_in_packet (x ∷ b) ≡ true
unfolding ends_in_packet
later x b h = or_right (fills b) (ends_in_packet b) h

-- a packet was found from a place on
pub ending-found : (n : ℕ) (b : List ℕ)
    → n < length b
    → fills (drop (n + 1) b) ≡ true
    → ends_in_packet b ≡ ends_in_packet (drop n b)
    → ends_in_packet b ≡ true
ending-found n b some is so_far =
    so_far ∙ ap ends_in_packet (front-is n b some) ∙ there (get_or b n 0) (drop (n + 1) b) is

-- none was
pub ending-next : (n : ℕ) (b : List ℕ)
    → n < length b
    → fills (drop (n + 1) b) ≡ false
    → ends_in_packet b ≡ ends_in_packet (drop n b)
    → ends_in_packet b ≡ ends_in_packet (drop (n + 1) b)
ending-next n b some none so_far =
    so_far ∙ ap ends_in_packet (front-is n b some)
    ∙ not_there (get_or b n 0) (drop (n + 1) b) none

past : (n : ℕ) (b : List ℕ) → length b ≤ n → ends_in_packet (drop n b) ≡ false
unfolding ends_in_packet
past n b h = rw drop_all refl

-- nor from any
pub ending-none : (n : ℕ) (b : List ℕ)
    → length b ≤ n
    → ends_in_packet b ≡ ends_in_packet (drop n b)
    → ends_in_packet b ≡ false
ending-none n b all so_far = so_far ∙ past n b all

-- ---- one packet

-- no packet begins with octets with which none may
pub not_begun : (b : List ℕ) → may_begin b ≡ false → begins false b ≡ false
not_begun b h = go (begins false b) refl where
  go : (t : Bool) → begins false b ≡ t → t ≡ false
  go false e = refl
  go true e =
      let may = begins_may b e in
      absurd cc

pub unfilled : (b : List ℕ) → begins false b ≡ false → fills b ≡ false
unfilled b h = ap (λ t. (7 + word_at b 4 == length b) && t) h ∙ off (7 + word_at b 4 == length b)
  where
    off : (t : Bool) → (t && false) ≡ false
    off true = refl
    off false = refl

pub filled : (b : List ℕ) → 7 + word_at b 4 ≡ length b → fills b ≡ begins false b
filled b h = ap (λ t. t && begins false b) (eq_true (7 + word_at b 4) (length b) h)

-- octets that are a packet are filled by it
packet_fills : (p : List ℕ) (f : Fields) → IsPacket p f → fills p ≡ true
packet_fills p f h =
    filled p (sym (framed_packet p f h).whole)
    ∙ ap (begins false) (sym (append-nil p)) ∙ packet_begins p [] f h

-- with some in front, they end in it
pub ends_packet : (x : ℕ) (front p : List ℕ) (f : Fields)
    → IsPacket p f
    → ends_in_packet (x ∷ front ++ p) ≡ true
ends_packet x [] p f h = there x p (packet_fills p f h)
ends_packet x (y ∷ front) p f h = later x (y ∷ front ++ p) (ends_packet y front p f h)

-- ---- what is passed over

passed_when : (t s p : Bool)
    → (if t then Whole else if s && p then Damaged else Stray) ≡ Damaged
    → p ≡ true
passed_when true s p h = absurd cc
passed_when false true true h = refl
passed_when false true false h = absurd cc
passed_when false false p h = absurd cc

not_false : (t : Bool) → not t ≡ true → t ≡ false
not_false true h = absurd cc
not_false false h = refl

-- it doesn't end in a packet
pub damaged_unended : (s : Bool) (b z : List ℕ)
    → piece_at s b ≡ record { kind = Damaged; octets = z }
    → ends_in_packet z ≡ false
unfolding piece_by
damaged_unended s b z is =
    let near = take lookahead b in
    let n = 7 + word_at near 4 in
    let kind : kind_in s near ≡ Damaged = ap (λ (p : Piece). p.kind) is in
    let parts = and_both (is_framed near)
    (((length (behind near) == 0) || begins false (behind near))
    && not (ends_in_packet (frame near)))
    (passed_when (begins s near) s (is_passed near) kind) in
    let last = and_both ((length (behind near) == 0) || begins false (behind near))
    (not (ends_in_packet (frame near))) parts.1 in
    let within = framed_fits near parts.0 in
    let most = length-take lookahead b in
    let short : n ≤ lookahead = omega (arith, within, most) in
    let octets : take n b ≡ z =
    ap (λ (k : PieceKind). take (size_in k near) b) (sym kind) ∙ ap (λ (p : Piece). p.octets) is in
    ap ends_in_packet (sym octets ∙ sym (take-take n lookahead b short))
    ∙ not_false (ends_in_packet (frame near)) last.1

-- so no packet is passed over as its end
pub not_passed : (s : Bool) (x : ℕ) (o p rest : List ℕ) (f : Fields)
    → IsPacket p f
    → piece_at s (x ∷ o ++ (p ++ rest)) ≡ record { kind = Damaged; octets = x ∷ o ++ p }
    → ⊥
not_passed s x o p rest f h is =
    let ends = ends_packet x o p f h in
    let none = damaged_unended s (x ∷ o ++ (p ++ rest)) (x ∷ o ++ p) is in
    absurd cc

-- Octets in step that are cut by lengths: a packet, or at the stream's end less than one.
use Rattle.std.proofs.Common.{◌≡◌, ◌∙◌, ap, sym, refl, ℕ, zero, suc, ◌+◌, ◌<◌, ◌≤◌, ◌&&◌, nat_le, nat_lt, Bool, true, false, if◌then◌else◌, List, [], ◌∷◌, ◌++◌, length, take, drop, replicate, arith, append-nil, length-append, take-append-drop}
use Rattle.std.proofs.lemmas.Bool.Decides.{nat_tests}
use Rattle.std.proofs.lemmas.List.{length-replicate, length-take}
use Rattle.lpt_packet.specs.Numbers.{IsOctets, word_at}
use Rattle.lpt_packet.proofs.BoolLemmas.{and_both, le_true}
use Rattle.lpt_stream.specs.declared.cut.Cut.TheVariants.{Framed}
use Rattle.lpt_stream.specs.declared.piece_kind.PieceKind.TheVariants.{Whole, Damaged, Stray}
use Rattle.lpt_stream.specs.Pieces.{begins_by, is_framed, is_version, lookahead, piece_by}
use Rattle.lpt_stream.specs.Streams.{IsUnfinished}
use Rattle.lpt_stream.proofs.StreamLemmas.{word_at-front}
use Rattle.lpt_split.specs.Streams.{IsFront}

-- ---- a packet

-- the version stands in the first octet, whatever comes behind
version-front : (b more : List ℕ) → 0 < length b → is_version (b ++ more) ≡ is_version b
version-front [] more h = absurd (omega arith)
version-front (x ∷ b) more h = refl

-- as many octets as a header of version 0 says are one
frame-front : (b : List ℕ)
    → IsOctets b
    → is_version b ≡ true
    → 7 + word_at b 4 ≤ length b
    → (piece_by Framed true b).kind ≡ Whole
unfolding piece_by
frame-front b octets version fits =
    let near = take lookahead b in
    let rest = drop lookahead b in
    let all : near ++ rest ≡ b = take-append-drop lookahead b in
    let size = length-take lookahead b in
    let high = octets 4 in
    let low = octets (4 + 1) in
    let long : 7 + word_at b 4 ≤ length near = omega (arith, size, high, low, fits) in
    let word : word_at near 4 ≡ word_at b 4 =
    sym (word_at-front near rest (omega (arith, long))) ∙ ap (λ x. word_at x 4) all in
    let begun : begins_by Framed true near ≡ true =
    and_both (is_version near) (is_framed near)
    (sym (version-front near rest (omega (arith, long))) ∙ ap is_version all ∙ version)
    (ap (λ w. nat_le (7 + w) (length near)) word
    ∙ le_true (7 + word_at b 4) (length near) long) in
    ap (λ t. if t then Whole else if true && false then Damaged else Stray) begun

-- ---- less than one

few : (n w : ℕ) (short : Bool) → nat_lt n 6 ≡ short → n < 7 + w → n < (if short then 6 else 7 + w)
few n w true is h = grind (arith, nat_tests)
few n w false is h = h

unfinished : (b : List ℕ) (fits : Bool)
    → nat_le (7 + word_at b 4) (length b) ≡ fits
    → IsOctets b
    → is_version b ≡ true
    → ((piece_by Framed true b).kind ≡ Whole → ⊥)
    → IsUnfinished b
unfinished b true is octets version none =
    absurd (none (frame-front b octets version (grind (arith, nat_tests))))
unfinished b false is octets version none =
    few (length b) (word_at b 4) (nat_lt (length b) 6) refl (grind (arith, nat_tests))

-- zeros may come behind octets
octets-zeros : (b : List ℕ) (n : ℕ) → IsOctets b → IsOctets (b ++ replicate n 0)
octets-zeros [] zero o i = omega arith
octets-zeros [] (suc n) o zero = omega arith
octets-zeros [] (suc n) o (suc i) = octets-zeros [] n o i
octets-zeros (x ∷ b) n o zero = o 0
octets-zeros (x ∷ b) n o (suc i) = octets-zeros b n (λ j. o (suc j)) i

-- and then there is one
none-behind : (b : List ℕ) (n : ℕ) (ended : Bool)
    → n ≡ 65542
    → IsOctets b
    → 0 < length b
    → is_version b ≡ true
    → ((more : List ℕ) → (ended ≡ true → more ≡ [])
    → (piece_by Framed true (b ++ more)).kind ≡ Whole
    → ⊥)
    → ended ≡ true
none-behind b n true many octets some version none = refl
none-behind b n false many octets some version none =
    let zeros : List ℕ = replicate n 0 in
    let all = octets-zeros b n octets in
    let high = all 4 in
    let low = all (4 + 1) in
    let size = length-append b zeros in
    let behind = length-replicate {A = ℕ} n 0 in
    absurd (none zeros (λ e. absurd cc) (frame-front (b ++ zeros) all
    (version-front b zeros some ∙ version) (omega (arith, high, low, size, behind, many))))

-- where the version is right, no packet is there only at the stream's end
pub front-last : (b : List ℕ) (ended : Bool)
    → IsOctets b
    → 0 < length b
    → is_version b ≡ true
    → ((more : List ℕ) → (ended ≡ true → more ≡ [])
    → (piece_by Framed true (b ++ more)).kind ≡ Whole
    → ⊥)
    → IsFront b × (ended ≡ true)
front-last b ended octets some version none = (
  record {
    some = some;
    version = version;
    less = unfinished b (nat_le (7 + word_at b 4) (length b)) refl octets version
        (λ k. none [] (λ e. refl) (ap (λ x. (piece_by Framed true x).kind) (append-nil b) ∙ k));
  },
  none-behind b 65542 ended refl octets some version none,
)

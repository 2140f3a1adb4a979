-- Out of step, where the checksum of what a header announces isn't 0, one octet stands in front.
use Rattle.std.proofs.Common.{◌≡◌, ◌∙◌, ap, sym, refl, inl, ℕ, suc, ◌+◌, ◌-◌, ◌≤◌, ◌==◌, nat_le}
use Rattle.std.proofs.Common.{min, Bool, true, false, not, ◌&&◌, ◌||◌, if◌then◌else◌, List, ◌++◌}
use Rattle.std.proofs.Common.{length, take, drop, arith, length-take}
use Rattle.std.proofs.lemmas.List.{take-append-drop, take-take}
use Rattle.lpt_packet.specs.Checksums.{checksum}
use Rattle.lpt_packet.specs.Numbers.{IsOctets, be, word_at}
use Rattle.lpt_packet.proofs.Bursts.{sealed_is_zero}
use Rattle.lpt_packet.proofs.Codec.{drop-last_word}
use Rattle.lpt_packet.proofs.OctetLists.{IsOctets-take}
use Rattle.lpt_packet.proofs.Readings.{true_eq}
use Rattle.lpt_stream.specs.declared.buffer.PacketBuffer.{PacketBuffer}
use Rattle.lpt_stream.specs.declared.cut.Cut.{Cut}
use Rattle.lpt_stream.specs.declared.cut.Cut.TheVariants.{Sealed, Framed, Resumed}
use Rattle.lpt_stream.specs.declared.piece_kind.PieceKind.TheVariants.{Whole, Stray}
use Rattle.lpt_stream.specs.Buffers.{cut_of, octets_held, is_in_step, IsInFront}
use Rattle.lpt_stream.specs.Pieces.{begins, behind, ends_in_checksum, fits, follow_waits, frame}
use Rattle.lpt_stream.specs.Pieces.{is_all, is_framed, kind_by, len_by, lookahead, may_begin}
use Rattle.lpt_stream.specs.Pieces.{size_in, waits_by}
use Rattle.lpt_stream.proofs.BelievedLemmas.{and_both, framed_unawaited, some_there}
use Rattle.lpt_stream.proofs.BufferLemmas.{near_held, other_settled}
use Rattle.lpt_stream.proofs.PieceLemmas.{framed_fits}
use Rattle.lpt_stream.proofs.ResumeLemmas.{none_astray}

-- ---- the checksum

-- it is 0 over octets that end in theirs
sealed_zero : (x : List ℕ) → IsOctets x → ends_in_checksum x ≡ true → checksum x ≡ 0
sealed_zero x octets h =
    let n = length x - 2 in
    let is = and_both (nat_le 8 (length x)) (checksum (take n x) == word_at x n) h in
    let long = is.0 in
    let same : checksum (take n x) ≡ word_at x n =
    true_eq (checksum (take n x)) (word_at x n) is.1 in
    let last : drop n x ≡ be (checksum (take n x)) 2 =
    drop-last_word x n octets (grind (arith, long)) ∙ ap (λ w. be w 2) (sym same) in
    ap checksum (sym (take-append-drop n x) ∙ ap (λ (y : List ℕ). take n x ++ y) last)
    ∙ sealed_is_zero (take n x)

-- so where it isn't, they don't
pub unsealed : (b : List ℕ) → IsOctets b → (checksum (frame b) ≡ 0 → ⊥)
    → ends_in_checksum (frame b) ≡ false
unsealed b octets other = go (ends_in_checksum (frame b)) refl where
  go : (t : Bool) → ends_in_checksum (frame b) ≡ t → t ≡ false
  go false e = refl
  go true e =
      absurd (other (sealed_zero (frame b) (IsOctets-take (7 + word_at b 4) b octets) e))

-- ---- the piece in front

none : (p q : Bool) → (not p && (if q then false else false)) ≡ false
none true true = refl
none true false = refl
none false true = refl
none false false = refl

off : (p q : Bool) → (p && (q && false)) ≡ false
off true true = refl
off true false = refl
off false q = refl

waits_wrong : (l n left : ℕ) (b : List ℕ)
    → is_framed b ≡ true
    → ends_in_checksum (frame b) ≡ false
    → follow_waits l (suc n) left b ≡ false
unfolding follow_waits
waits_wrong l n left b framed wrong =
    (λ i. not (left == 0) && (if fits l b then
    wrong i && follow_waits l n (left - (7 + word_at b 4)) (behind b)
    else framed_unawaited l b framed i))
    ∙ none (left == 0) (fits l b)

-- nothing that comes changes it
known : (c : Cut) (b : List ℕ)
    → is_framed b ≡ true
    → ends_in_checksum (frame b) ≡ false
    → waits_by c false b ≡ false
known Sealed b framed wrong = ap (λ t. if t then false else may_begin b) framed
known Framed b framed wrong = ap (λ t. t || false) (some_there b framed)
known (Resumed l) b framed wrong =
    ap (λ t. is_all b && (may_begin b && t)) (waits_wrong l 8192 (suc l) b framed wrong)
    ∙ off (is_all b) (may_begin b)

stray : (c : Cut) (b : List ℕ) → begins false b ≡ false → kind_by c false b ≡ Stray
stray Sealed b h = ap (λ (t : Bool). if t then Whole else Stray) h
stray Framed b h = refl
stray (Resumed l) b h = none_astray l b h

single : (c : Cut) (b : List ℕ) → begins false b ≡ false → len_by c false b ≡ 1
single Sealed b h = ap (λ k. size_in k b) (stray Sealed b h)
single Framed b h = refl
single (Resumed l) b h = ap (λ k. size_in k b) (stray (Resumed l) b h)

-- so it is told
stray_settled : (p : PacketBuffer) (near : List ℕ)
    → near ≡ take lookahead (octets_held p)
    → is_in_step p ≡ false
    → is_framed near ≡ true
    → begins false near ≡ false
    → ends_in_checksum (frame near) ≡ false
    → IsInFront p (record { kind = Stray; len = 1 })
stray_settled p near is step framed none wrong =
    let room = framed_fits near framed in
    let held : length near ≡ min lookahead (length (octets_held p)) =
    ap length is ∙ length-take lookahead (octets_held p) in
    other_settled p near Stray 1 is (omega (arith, room, held)) (omega arith)
    (inl (ap (λ s. waits_by (cut_of p) s near) step ∙ known (cut_of p) near framed wrong))
    (sym (ap (λ s. kind_by (cut_of p) s near) step ∙ stray (cut_of p) near none))
    (sym (ap (λ s. len_by (cut_of p) s near) step ∙ single (cut_of p) near none))
    (omega (arith, room))

-- as what is known of what is held shows
pub astray_shown : (p : PacketBuffer) (o : List ℕ) (k n : ℕ) (fit : Bool)
    → o ≡ octets_held p
    → is_in_step p ≡ false
    → k ≡ min lookahead (length o)
    → n ≤ length (take k o)
    → n ≡ 7 + word_at (take k o) 4
    → ((checksum (take n (take k o)) ≡ 0 → ⊥) → begins false (take k o) ≡ false)
    → ((checksum (take n (take k o)) ≡ 0 → ⊥) → ends_in_checksum (frame (take k o)) ≡ false)
    → (fit ≡ false → checksum (take n o) ≡ 0 → ⊥)
    → not fit ≡ true
    → IsInFront p (record { kind = Stray; len = 1 })
astray_shown p o k n true is step size within len none wrong other h = absurd cc
astray_shown p o k n false is step size within len none wrong other h =
    let some : n ≤ k = omega (arith, within, length-take k o) in
    let not_zero : checksum (take n (take k o)) ≡ 0 → ⊥ =
    λ zero. other refl (ap checksum (sym (take-take n k o some)) ∙ zero) in
    stray_settled p (take k o) (near_held (octets_held p) o k is size) step
    (grind (arith, within, len)) (none not_zero) (wrong not_zero)

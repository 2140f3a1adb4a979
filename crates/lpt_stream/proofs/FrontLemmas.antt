-- The piece in front of octets.
use Rattle.std.proofs.Common.{◌≡◌, ◌⊎◌, ◌∙◌, ap, sym, subst, refl, inl, inr, ℕ, ◌+◌, ◌<◌, ◌≤◌, ◌==◌, ◌||◌, ◌&&◌, not, Bool, true, false, if◌then◌else◌, List, [], length, take, Some, None, arith, append-nil}
use Rattle.std.proofs.lemmas.Bool.Decides.{nat_tests}
use Rattle.lpt_packet.specs.Numbers.{word_at}
use Rattle.lpt_stream.specs.declared.found.Found.{Found}
use Rattle.lpt_stream.specs.declared.piece_kind.PieceKind.{PieceKind}
use Rattle.lpt_stream.specs.declared.piece_kind.PieceKind.TheVariants.{Whole}
use Rattle.lpt_stream.specs.Fronts.{found_in, shown_piece, Stays}
use Rattle.lpt_stream.specs.Pieces.{Piece, begins, kind_in, lookahead, piece_at, size_in, waits}
use Rattle.lpt_stream.proofs.BufferLemmas.{near_size}
use Rattle.lpt_stream.proofs.PieceLemmas.{packet_stays, piece_stays, last_stays}

-- a piece that was found
pub record IsThere (s e : Bool) (b : List ℕ) (f : Found) : Type 0 where
  pub piece : Some (found_in b f) ≡ shown_piece s e b
  pub stays : Stays s e b (found_in b f)
  pub within : f.len ≤ length b

shown : (some packet e waiting : Bool) (p : Piece)
    → some ≡ false
    → (packet ≡ true) ⊎ ((e ≡ true) ⊎ (waiting ≡ false))
    → Some p ≡ (if not some && (packet || e || not waiting) then Some p else None)
shown false true e waiting p h k = refl
shown false false true waiting p h k = refl
shown false false false false p h k = refl
shown false false false true p h (inl k) = absurd cc
shown false false false true p h (inr (inl k)) = absurd cc
shown false false false true p h (inr (inr k)) = absurd cc
shown true packet e waiting p h k = absurd cc

some_test : (n : ℕ) → 0 < n → (n == 0) ≡ false
some_test n h = grind (arith, nat_tests)

there : (s e : Bool) (b : List ℕ) (f : Found)
    → 0 < length b
    → f.len ≤ length b
    → Stays s e b (found_in b f)
    → (begins s (take lookahead b) ≡ true)
    ⊎ ((e ≡ true) ⊎ (waits s (take lookahead b) ≡ false))
    → IsThere s e b f
there s e b f some within stays known =
    let is : piece_at s b ≡ found_in b f =
    ap (piece_at s) (sym (append-nil b)) ∙ stays [] (λ end. refl) in
    record {
      piece = ap Some (sym is) ∙ shown (length b == 0) (begins s (take lookahead b)) e
          (waits s (take lookahead b)) (piece_at s b) (some_test (length b) some) known;
      stays = stays;
      within = within;
    }

-- a packet
pub packet_there : (s e : Bool) (b near : List ℕ) (n : ℕ)
    → near ≡ take lookahead b
    → 0 < length b
    → begins s near ≡ true
    → n ≡ 7 + word_at near 4
    → n ≤ length near
    → IsThere s e b (record { kind = Whole; len = n })
packet_there s e b near n is some taken size within =
    let fits = near_size b near n is within in
    let begun : begins s (take lookahead b) ≡ true = ap (begins s) (sym is) ∙ taken in
    there s e b (record { kind = Whole; len = n }) some fits.0
    (λ more end. packet_stays s b more n begun (size ∙ ap (λ x. 7 + word_at x 4) is)
    (subst (λ x. n ≤ length x) is within) fits.0)
    (inl begun)

-- what doesn't wait, or is the last
pub other_there : (s e : Bool) (b near : List ℕ) (k : PieceKind) (n : ℕ)
    → near ≡ take lookahead b
    → 0 < length b
    → (e ≡ true) ⊎ (waits s near ≡ false)
    → k ≡ kind_in s near
    → n ≡ size_in k near
    → n ≤ length near
    → IsThere s e b (record { kind = k; len = n })
other_there s e b near k n is some known kind size within =
    let fits = near_size b near n is within in
    go known (kind ∙ ap (kind_in s) is) (size ∙ ap (size_in k) is) fits.0 where
      go : (e ≡ true) ⊎ (waits s near ≡ false)
          → k ≡ kind_in s (take lookahead b)
          → n ≡ size_in k (take lookahead b)
          → n ≤ length b
          → IsThere s e b (record { kind = k; len = n })
      go (inl end) kind size fits =
          there s e b (record { kind = k; len = n }) some fits
          (λ more none. last_stays s b more k n (none end) kind size fits) (inr (inl end))
      go (inr h) kind size fits =
          let known = sym (ap (waits s) is) ∙ h in
          there s e b (record { kind = k; len = n }) some fits
          (λ more none. piece_stays s b more k n known kind size fits) (inr (inr known))

hidden : (some packet e waiting : Bool) (p : Piece)
    → packet ≡ false
    → e ≡ false
    → waiting ≡ true
    → None ≡ (if not some && (packet || e || not waiting) then Some p else None)
hidden true packet e waiting p h k l = refl
hidden false false false true p h k l = refl
hidden false true e waiting p h k l = absurd cc
hidden false false true waiting p h k l = absurd cc
hidden false false false false p h k l = absurd cc

-- what depends on octets that may come
pub open_there : (s e : Bool) (b near : List ℕ)
    → near ≡ take lookahead b
    → e ≡ false
    → waits s near ≡ true
    → begins s near ≡ false
    → None ≡ shown_piece s e b
open_there s e b near is more waiting none =
    hidden (length b == 0) (begins s (take lookahead b)) e (waits s (take lookahead b))
    (piece_at s b)
    (ap (begins s) (sym is) ∙ none) more (ap (waits s) (sym is) ∙ waiting)

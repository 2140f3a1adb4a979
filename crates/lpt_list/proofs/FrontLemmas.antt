-- The packets in front of octets, one more.
use Rattle.std.proofs.Common.{◌≡◌, ◌∙◌, ap, sym, subst, refl, ℕ, ◌+◌, ◌<◌, ◌≤◌, ◌&&◌, true, false, if◌then◌else◌, List, [], ◌∷◌, length, take, drop, append-nil, arith}
use Rattle.std.proofs.lemmas.List.{length-take-le}
use Rattle.lpt_packet.specs.Numbers.{word_at}
use Rattle.lpt_stream.specs.declared.cut.Cut.TheVariants.{Framed}
use Rattle.lpt_stream.specs.declared.piece_kind.PieceKind.TheVariants.{Whole, Damaged, Stray}
use Rattle.lpt_stream.specs.Pieces.{Piece, CutsBy, LeadsBy, begins_by, lookahead, packets_of, piece_by, piece_of}
use Rattle.lpt_stream.proofs.BufferLemmas.{near_size}
use Rattle.lpt_stream.proofs.ByLemmas.{packet_stays_by}
use Rattle.lpt_stream.proofs.PieceLemmas.{whole}
use Rattle.lpt_carried.specs.declared.layouts.Layouts.{Layouts}
use Rattle.lpt_list.specs.declared.told.Told.{Told}
use Rattle.lpt_list.specs.Told.{told_after, told_none, told_with, IsTold}

-- what is told of the octets is this with what is told of the rest, however that is cut
pub record IsSeen (l : Layouts) (b rest : List ℕ) (told : Told) : Type 0 where
  pub cuts : (ps : List Piece) → CutsBy Framed rest ps
      → (qs : List Piece) × CutsBy Framed b qs
      × (told_after l told_none (packets_of qs) ≡ told_after l told (packets_of ps))

-- nothing yet
pub seen-none : (l : Layouts) (b : List ℕ) (told : Told) → told ≡ told_none → IsSeen l b b told
seen-none l b told is = record {
  cuts = λ ps cut. (ps, cut, ap (λ t. told_after l t (packets_of ps)) (sym is));
}

-- one more
pub seen-next : (l : Layouts) (b rest now near : List ℕ) (len : ℕ) (told after : Told)
    → IsSeen l b rest told
    → near ≡ take lookahead rest
    → begins_by Framed true near ≡ true
    → len ≡ 7 + word_at near 4
    → len ≤ length near
    → now ≡ drop len rest
    → after ≡ told_with l (take len rest) told
    → IsSeen l b now after
seen-next l b rest now near len told after h is begun size within left counted =
    let fits = near_size rest near len is within in
    let f = take len rest in
    let front : piece_by Framed true rest ≡ whole f =
    ap (piece_by Framed true) (sym (append-nil rest))
    ∙ packet_stays_by Framed true rest [] len (ap (begins_by Framed true) (sym is) ∙ begun)
    (size ∙ ap (λ x. 7 + word_at x 4) is) (subst (λ x. len ≤ length x) is within) fits.0 in
    let behind : now ≡ drop (length f) rest =
    left ∙ ap (λ n. drop n rest) (sym (length-take-le len rest fits.0)) in
    let some : 0 < length rest = omega (arith, size, fits.0) in
    record {
      cuts = λ ps cut.
          let all = h.cuts (whole f ∷ ps) (
            cut.0,
            (some, sym front, subst (λ x. LeadsBy Framed true x ps cut.0 []) behind cut.1),
          ) in
          (all.0, all.1, all.2 ∙ ap (λ t. told_after l t (packets_of ps)) (sym counted));
    }

-- ---- where no packet begins

-- octets of no packet, one after the other
abbrev strays : List ℕ → List Piece
strays [] = []
strays (x ∷ b) = record { kind = Stray; octets = x ∷ [] } ∷ strays b

none-among : (b : List ℕ) → packets_of (strays b) ≡ []
none-among [] = refl
none-among (x ∷ b) = none-among b

stray-in : (x : ℕ) (b : List ℕ)
    → begins_by Framed true (take lookahead (x ∷ b)) ≡ false
    → piece_by Framed true (x ∷ b) ≡ record { kind = Stray; octets = x ∷ [] }
unfolding piece_by
stray-in x b none =
    ap (λ t. piece_of (if t then Whole else if true && false then Damaged else Stray)
    (take lookahead (x ∷ b)) (x ∷ b)) none

stray-out : (x : ℕ) (b : List ℕ)
    → piece_by Framed false (x ∷ b) ≡ record { kind = Stray; octets = x ∷ [] }
unfolding piece_by
stray-out x b = refl

-- behind an octet of no packet each is one
cut-out : (b : List ℕ) → LeadsBy Framed false b (strays b) false []
cut-out [] = (refl, refl)
cut-out (x ∷ b) = (omega arith, sym (stray-out x b), cut-out b)

none-cut : (b : List ℕ)
    → begins_by Framed true (take lookahead b) ≡ false
    → CutsBy Framed b (strays b)
none-cut [] none = (true, (refl, refl))
none-cut (x ∷ b) none = (false, (omega arith, sym (stray-in x b none), cut-out b))

-- and that is all
pub seen-all : (l : Layouts) (b rest near : List ℕ) (told : Told)
    → IsSeen l b rest told
    → near ≡ take lookahead rest
    → begins_by Framed true near ≡ false
    → IsTold l b told
seen-all l b rest near told h is none =
    let all =
    h.cuts (strays rest) (none-cut rest (ap (begins_by Framed true) (sym is) ∙ none)) in
    record {
      pieces = all.0;
      cut = all.1;
      counted = sym (all.2 ∙ ap (told_after l told) (none-among rest));
    }

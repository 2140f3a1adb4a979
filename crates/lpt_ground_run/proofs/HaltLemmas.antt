-- Where the packets of a stream end, a piece further.
use Rattle.std.proofs.Common.{arith, ◌≡◌, ◌∙◌, ap, sym, subst, refl, ℕ, ◌+◌, ◌||◌, Bool, true, false, if◌then◌else◌, List, [], ◌∷◌, ◌++◌}
use Rattle.std.proofs.lemmas.Bool.{false≢true}
use Rattle.lpt_stream.specs.Pieces.{Piece, is_framed, is_version, octets_in, up_to_limit}
use Rattle.lpt_stream.specs.Streams.{length_at}
use Rattle.lpt_stream.specs.declared.piece_kind.PieceKind.TheVariants as kinds
use Rattle.lpt_ground_run.specs.declared.halt.Halt.{Halt}
use Rattle.lpt_ground_run.specs.declared.halt.Halt.TheVariants.{End, Closed, Stray, Within}
use Rattle.lpt_ground_run.specs.Halts.{halt_at, halt_damaged, halt_of, is_end, passed_in, stray_of, strays_in, ArePast, EndsAt, HaltsAt, Rises}

-- ---- what is counted

strays-append : (ps : List Piece) (p : Piece)
    → strays_in (ps ++ p ∷ []) ≡ strays_in ps + stray_of p.kind
strays-append [] p = omega arith
strays-append (q ∷ ps) p =
    ap (λ n. stray_of q.kind + n) (strays-append ps p) ∙ omega arith

-- a piece that is a packet, or as long as one
pub strays-same : (ps : List Piece) (p : Piece)
    → stray_of p.kind ≡ 0
    → strays_in (ps ++ p ∷ []) ≡ strays_in ps
strays-same ps p none = strays-append ps p ∙ ap (λ n. strays_in ps + n) none ∙ omega arith

pub passed-same : (r : Bool) (ps : List Piece) (p : Piece)
    → stray_of p.kind ≡ 0
    → passed_in r (ps ++ p ∷ []) ≡ passed_in r ps
passed-same true ps p none = strays-same ps p none
passed-same false ps p none = refl

-- where none is
pub none-passed : (r : Bool) (ps qs : List Piece)
    → r ≡ false
    → passed_in r qs ≡ passed_in r ps
none-passed true ps qs is = absurd (false≢true (sym is))
none-passed false ps qs is = refl

pub rises-more : (a b c n : ℕ) → Rises a b n → Rises b c 1 → Rises a c (n + 1)
rises-more a b c n before more = grind arith

pub rises-same : (a b m n : ℕ) → m ≡ n → Rises a b n → Rises a b m
rises-same a b m n is rises = rises ∙ ap (λ k. up_to_limit (a + k)) (sym is)

pub rises-passed : (r : Bool) (a b c : ℕ) (ps : List Piece) (p : Piece)
    → r ≡ true
    → stray_of p.kind ≡ 1
    → Rises a b (passed_in r ps)
    → Rises b c 1
    → Rises a c (passed_in r (ps ++ p ∷ []))
rises-passed true a b c ps p is one before more =
    rises-same a c (strays_in (ps ++ p ∷ [])) (strays_in ps + 1)
    (strays-append ps p ∙ ap (λ n. strays_in ps + n) one)
    (rises-more a b c (strays_in ps) before more)
rises-passed false a b c ps p is one before more = absurd (false≢true is)

-- ---- where it ends

-- a piece more behind which it goes on
past-more : (r : Bool) (ps : List Piece) (p : Piece)
    → ArePast r ps
    → is_end (halt_at r 0 p.kind p.octets) ≡ true
    → ArePast r (ps ++ p ∷ [])
past-more r [] p h e = (e, tt)
past-more r (q ∷ ps) p h e = (h.0, past-more r ps p h.1 e)

module _ (r : Bool) (from : ℕ) (more : Bool) (ps : List Piece) where
  pub is-open : (h : Halt) → is_end h ≡ true → HaltsAt r from more ps h → more ≡ true
  is-open End e at = at.0
  is-open Closed e at = absurd (false≢true e)
  is-open (Stray n) e at = absurd (false≢true e)
  is-open (Within n o) e at = absurd (false≢true e)

  pub are-past : (h : Halt) → is_end h ≡ true → HaltsAt r from more ps h → ArePast r ps
  are-past End e at = at.1
  are-past Closed e at = absurd (false≢true e)
  are-past (Stray n) e at = absurd (false≢true e)
  are-past (Within n o) e at = absurd (false≢true e)

  -- behind a piece
  goes-on : (p : Piece)
      → ArePast r ps
      → more ≡ true
      → is_end (halt_at r 0 p.kind p.octets) ≡ true
      → HaltsAt r from more (ps ++ p ∷ []) End
  goes-on p past is e = (is, past-more r ps p past e)

  ends : (p : Piece) (n : ℕ) (h : Halt)
      → ArePast r ps
      → n ≡ up_to_limit (from + octets_in ps)
      → h ≡ halt_at r n p.kind p.octets
      → EndsAt r from (ps ++ p ∷ []) h
  ends p n h past at is = record {
    front = ps;
    last = p;
    is = refl;
    past = past;
    place = is ∙ ap (λ k. halt_at r k p.kind p.octets) at;
  }

  -- behind a damaged packet, or at it
  pub at-damaged : (b : List ℕ) (n : ℕ)
      → ArePast r ps
      → more ≡ true
      → n ≡ up_to_limit (from + octets_in ps)
      → HaltsAt r from more (ps ++ record { kind = kinds.Damaged; octets = b } ∷ [])
      (halt_damaged r n b)
  at-damaged b n past is at = go (is_framed b) (r || is_version b) refl refl where
    piece : Piece
    piece = record { kind = kinds.Damaged; octets = b }

    go : (f v : Bool) → is_framed b ≡ f → (r || is_version b) ≡ v
        → HaltsAt r from more (ps ++ piece ∷ []) (halt_damaged r n b)
    go true true f v =
        subst (HaltsAt r from more (ps ++ piece ∷ []))
        (λ i. if sym f i then if sym v i then End else Stray n else Within n (length_at b))
        (goes-on piece past is
        (ap is_end (λ i. if f i then if v i then End else Stray 0 else Within 0 (length_at b))))
    go true false f v =
        subst (HaltsAt r from more (ps ++ piece ∷ []))
        (λ i. if sym f i then if sym v i then End else Stray n else Within n (length_at b))
        (ends piece n (Stray n) past at
        (λ i. if sym f i then if sym v i then End else Stray n else Within n (length_at b)))
    go false v f e =
        subst (HaltsAt r from more (ps ++ piece ∷ []))
        (ap (λ t. if t then if r || is_version b then End else Stray n else Within n (length_at b))
        (sym f))
        (ends piece n (Within n (length_at b)) past at
        (ap (λ t. if t then if r || is_version b then End else Stray n else Within n (length_at b))
        (sym f)))

  -- behind an octet that is passed over
  pub at-passed : (b : List ℕ) (h : Halt)
      → is_end h ≡ true
      → ArePast r ps
      → more ≡ true
      → r ≡ true
      → HaltsAt r from more (ps ++ record { kind = kinds.Stray; octets = b } ∷ []) h
  at-passed b End e past is resumes =
      goes-on (record { kind = kinds.Stray; octets = b }) past is
      (ap (λ t. is_end (if t then End else Stray 0)) resumes)
  at-passed b Closed e past is resumes = absurd (false≢true e)
  at-passed b (Stray n) e past is resumes = absurd (false≢true e)
  at-passed b (Within n o) e past is resumes = absurd (false≢true e)

  -- at one that isn't
  pub at-stray : (b : List ℕ) (n : ℕ)
      → ArePast r ps
      → n ≡ up_to_limit (from + octets_in ps)
      → r ≡ false
      → HaltsAt r from more (ps ++ record { kind = kinds.Stray; octets = b } ∷ []) (Stray n)
  at-stray b n past at none =
      ends (record { kind = kinds.Stray; octets = b }) n (Stray n) past at
      (ap (λ t. if t then End else Stray n) (sym none))

-- behind a packet
pub behind : (r : Bool) (from : ℕ) (more : Bool) (ps : List Piece) (b : List ℕ)
    → ArePast r ps
    → HaltsAt r from more (ps ++ record { kind = kinds.Whole; octets = b } ∷ []) (halt_of more)
behind r from true ps b past =
    (refl, past-more r ps (record { kind = kinds.Whole; octets = b }) past refl)
behind r from false ps b past =
    (refl, past-more r ps (record { kind = kinds.Whole; octets = b }) past refl)

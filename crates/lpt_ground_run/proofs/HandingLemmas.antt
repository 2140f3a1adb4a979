-- What a piece more of a stream hands over.
use Rattle.std.proofs.Common.{◌≡◌, ◌∙◌, ap, sym, refl, subst, arith, ◌+◌, Bool, true, false, ℕ, List, [], ◌∷◌, ◌++◌, length, take, Option, Some, None, append-nil, append_assoc}
use Rattle.std.proofs.Math.Seq.{take-append_seam, take-length}
use Rattle.lpt_stream.specs.declared.piece_kind.PieceKind.{PieceKind}
use Rattle.lpt_stream.specs.declared.piece_kind.PieceKind.TheVariants.{Whole, Damaged, Stray}
use Rattle.std.specs.Io.KnownBytes.{Consumes}
use Rattle.lpt_stream.specs.declared.cut.Cut.TheVariants.{Resumed}
use Rattle.lpt_stream.specs.Pieces.{LeadsBy, Piece, up_to_limit}
use Rattle.lpt_ground_run.specs.declared.cutting.Cutting.{Cutting}
use Rattle.lpt_ground_run.specs.declared.halt.Halt.{Halt}
use Rattle.lpt_ground_run.specs.declared.halt.Halt.TheVariants.{End}
use Rattle.lpt_ground_run.specs.Halts.{passed_in, HaltsAt, HasHanded, Rises}
use Rattle.lpt_ground_run.specs.Handing.{Gains, GainsPart, IsNamed, IsPacketOf, in_front, packets_in}

front-append : (k : PieceKind) (o : List ℕ) (xs ys zs : List (List ℕ))
    → xs ≡ ys ++ zs
    → in_front k o xs ≡ in_front k o ys ++ zs
front-append Whole o xs ys zs is = ap (λ (l : List (List ℕ)). o ∷ l) is
front-append Damaged o xs ys zs is = is
front-append Stray o xs ys zs is = is

packets-append : (ps : List Piece) (p : Piece)
    → packets_in (ps ++ p ∷ []) ≡ packets_in ps ++ in_front p.kind p.octets []
packets-append [] p = refl
packets-append (q ∷ ps) p =
    front-append q.kind q.octets (packets_in (ps ++ p ∷ [])) (packets_in ps)
    (in_front p.kind p.octets []) (packets-append ps p)

gains-more : (a b c : Option (List (List ℕ))) (xs ys : List (List ℕ))
    → Gains a b xs
    → Gains b c ys
    → Gains a c (xs ++ ys)
gains-more None b c xs ys h k = tt
gains-more (Some old) None c xs ys h k = absurd h
gains-more (Some old) (Some mid) None xs ys h k = absurd k
gains-more (Some old) (Some mid) (Some new) xs ys h k =
    k ∙ ap (λ (front : List (List ℕ)). front ++ ys) h ∙ append_assoc old xs ys

-- a piece that is no packet
pub passed-over : (a b : Option (List (List ℕ))) (ps : List Piece) (p : Piece)
    → in_front p.kind p.octets [] ≡ []
    → Gains a b (packets_in ps)
    → Gains a b (packets_in (ps ++ p ∷ []))
passed-over a b ps p none h =
    subst (Gains a b) (sym (packets-append ps p
    ∙ ap (λ (l : List (List ℕ)). packets_in ps ++ l) none ∙ append-nil (packets_in ps))) h

-- one that is, and was handed over
pub handed-more : (a b c : Option (List (List ℕ))) (ps : List Piece) (p : Piece)
    (packet : List ℕ)
    → in_front p.kind p.octets [] ≡ packet ∷ []
    → Gains a b (packets_in ps)
    → Gains b c (packet ∷ [])
    → Gains a c (packets_in (ps ++ p ∷ []))
handed-more a b c ps p packet one h k =
    subst (Gains a c) (sym (packets-append ps p
    ∙ ap (λ (l : List (List ℕ)). packets_in ps ++ l) one))
    (gains-more a b c (packets_in ps) (packet ∷ []) h k)

-- one that couldn't be
pub handed-part : (a b : Option (List (List ℕ))) (ps : List Piece) (p : Piece)
    → Gains a b (packets_in ps)
    → GainsPart a b (packets_in (ps ++ p ∷ []))
handed-part a b ps p h = (
  length (packets_in ps),
  subst (Gains a b) (sym (ap (take (length (packets_in ps))) (packets-append ps p)
      ∙ take-append_seam (packets_in ps) (in_front p.kind p.octets []))) h,
)

-- all of a front part
pub part-of : (a b : Option (List (List ℕ))) (xs : List (List ℕ))
    → Gains a b xs
    → GainsPart a b xs
part-of a b xs h = (length xs, subst (Gains a b) (sym (take-length xs)) h)

-- ---- the first and the next piece

gains-none : (a : Option (List (List ℕ))) → Gains a a []
gains-none None = tt
gains-none (Some xs) = sym (append-nil xs)

rises-none : (r : Bool) (n : ℕ) → Rises n n (passed_in r [])
rises-none true n = ap up_to_limit (let same : n ≡ n + 0 = omega arith in same)
rises-none false n = ap up_to_limit (let same : n ≡ n + 0 = omega arith in same)

-- nothing was handed over yet
pub has-begun : (k : Cutting) (more : Bool) (h : Halt) (a : Option (List (List ℕ))) (n : ℕ)
    → more ≡ true
    → h ≡ End
    → HasHanded 0 k k more h a a n n []
has-begun k more h a n is at = (
  refl,
  record {
    gains = gains-none a;
    rises = rises-none k.resumes n;
    halts = subst (HaltsAt k.resumes 0 more []) (sym at) (is, tt);
  },
)

-- a whole piece behind those that were read is a packet of what comes
pub is-packet : (longest : ℕ) (a d : Option (List ℕ)) (stream : List ℕ) (pieces : List Piece)
    (kind : PieceKind) (o : List ℕ) (t : Bool) (rest : List ℕ)
    → Consumes a d stream
    → LeadsBy (Resumed longest) true stream (pieces ++ record { kind = kind; octets = o } ∷ []) t
    rest
    → kind ≡ Whole
    → IsPacketOf longest a o
is-packet longest None d stream pieces kind o t rest consumed leads whole = tt
is-packet longest (Some all) None stream pieces kind o t rest consumed leads whole = absurd consumed
is-packet longest (Some all) (Some left) stream pieces kind o t rest consumed leads whole = record {
  front = stream;
  others = left;
  are = consumed;
  pieces = pieces;
  in_step = t;
  rest = rest;
  leads =
      subst (λ (k : PieceKind). LeadsBy (Resumed longest) true stream
      (pieces ++ record { kind = k; octets = o } ∷ []) t rest) whole leads;
}

-- what may be handed over is a packet of what was named
pub packet-named : (octets : Option (List ℕ)) (named : ℕ) (remaining : Option (List ℕ))
    (longest : ℕ) (o : List ℕ)
    → IsNamed octets named remaining longest
    → IsPacketOf longest remaining o
    → IsPacketOf named octets o
packet-named None named remaining longest o is h = tt
packet-named (Some all) named remaining longest o is h =
    subst (λ (r : Option (List ℕ)). IsPacketOf named r o) is.0
    (subst (λ (k : ℕ). IsPacketOf k remaining o) is.1 h)

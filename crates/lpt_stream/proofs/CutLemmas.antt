-- A stream is cut into pieces in one way, piece after piece.
use Rattle.std.proofs.Common.{◌≡◌, ◌∙◌, ap, sym, subst, refl, ℕ, ◌+◌, ◌-◌, ◌^◌, ◌<◌, Bool, true, List, [], ◌∷◌, ◌++◌, length, take, drop, Option, arith, append-nil, append_assoc, length-append}
use Rattle.std.specs.Prelude.{min}
use Rattle.std.proofs.lemmas.List.{drop-append-le, length-take-le}
use Rattle.std.specs.Io.KnownBytes.{Consumes}
use Rattle.lpt_stream.specs.declared.cut.Cut.{Cut}
use Rattle.lpt_stream.specs.declared.buffer.PacketBuffer.{PacketBuffer}
use Rattle.lpt_stream.specs.declared.found.Found.{Found}
use Rattle.lpt_stream.specs.Buffers.{cut_of, octets_held, is_in_step, is_ended, found_piece, Goes, IsInFront, IsOpenAt}
use Rattle.lpt_stream.specs.declared.piece_kind.PieceKind.{PieceKind}
use Rattle.lpt_stream.specs.declared.piece_kind.PieceKind.TheVariants.{Whole, Damaged, Stray}
use Rattle.lpt_stream.specs.Pieces.{Piece, piece_by, keeps_step, waits_by, LeadsBy, CutsBy, octets_in, packet_before, packets_of, up_to_limit}
use Rattle.lpt_stream.specs.Reads.{IsEndlessBy}

-- ---- one way

nothing : (b : List ℕ) → b ≡ [] → 0 < length b → ⊥
nothing b e h = let none : 0 < 0 = subst (λ x. 0 < length x) e h in omega (arith, none)

one : (cut : Cut) (s : Bool) (b : List ℕ) (ps qs : List Piece) (t u : Bool)
    → LeadsBy cut s b ps t []
    → LeadsBy cut s b qs u []
    → ps ≡ qs
one cut s b [] [] t u h k = refl
one cut s b [] (q ∷ qs) t u h k = absurd (nothing b h.1 k.0)
one cut s b (p ∷ ps) [] t u h k = absurd (nothing b k.1 h.0)
one cut s b (p ∷ ps) (q ∷ qs) t u h k =
    let same : q ≡ p = k.1 ∙ sym h.1 in
    let rest =
    subst (λ x. LeadsBy cut (keeps_step x.kind) (drop (length x.octets) b) qs u []) same k.2 in
    λ i. sym same i ∷ one cut (keeps_step p.kind) (drop (length p.octets) b) ps qs t u h.2 rest i

-- a stream is cut in one way
pub one_cut : (cut : Cut) (stream : List ℕ) (ps qs : List Piece)
    → CutsBy cut stream ps
    → CutsBy cut stream qs
    → ps ≡ qs
one_cut cut stream ps qs h k = one cut true stream ps qs h.0 k.0 h.1 k.1

-- ---- a piece further

leads-next : (cut : Cut) (s : Bool) (b : List ℕ) (ps : List Piece) (t : Bool) (c : List ℕ)
    (p : Piece)
    → LeadsBy cut s b ps t c
    → 0 < length c
    → p ≡ piece_by cut t c
    → LeadsBy cut s b (ps ++ p ∷ []) (keeps_step p.kind) (drop (length p.octets) c)
leads-next cut s b [] t c p h some is = (
  subst (λ x. 0 < length x) (sym h.1) some,
  is ∙ (λ i. piece_by cut (sym h.0 i) (sym h.1 i)),
  (refl, ap (λ x. drop (length p.octets) x) h.1),
)
leads-next cut s b (q ∷ qs) t c p h some is =
    (h.0, h.1, leads-next cut (keeps_step q.kind) (drop (length q.octets) b) qs t c p h.2 some is)

-- the pieces of what was read, whatever comes behind, what holds of them, and how many they are
pub record IsRead (cut : Cut) (P : List Piece
    → Type 0) (b : PacketBuffer) (stream : List ℕ) (count : ℕ) : Type 0 where
  pub pieces : List Piece
  pub is : cut_of b ≡ cut
  pub leads : (more : List ℕ) → (is_ended b ≡ true → more ≡ [])
      → LeadsBy cut true (stream ++ more) pieces (is_in_step b) (octets_held b ++ more)
  pub gives : P pieces
  pub count_is : length pieces ≡ count

-- of nothing
pub read-none : (cut : Cut) (P : List Piece → Type 0) (b : PacketBuffer)
    → P []
    → octets_held b ≡ []
    → cut_of b ≡ cut
    → is_in_step b ≡ true
    → IsRead cut P b [] 0
read-none cut P b h none by step = record {
  pieces = [];
  is = by;
  leads = λ more e. (sym step, ap (λ x. x ++ more) (sym none));
  gives = h;
  count_is = refl;
}

no_more : (read more : List ℕ) → read ≡ [] → more ≡ [] → read ++ more ≡ []
no_more read more e f = ap (λ x. x ++ more) e ∙ f

-- with more read behind
pub read-more : (cut : Cut) (P : List Piece
    → Type 0) (old new : PacketBuffer) (a c : Option (List ℕ))
    (stream read : List ℕ) (count : ℕ)
    → IsRead cut P old stream count
    → Goes old new a c read
    → IsRead cut P new (stream ++ read) count
read-more cut P old new a c stream read count h goes = record {
  pieces = h.pieces;
  is = goes.added.cut ∙ h.is;
  leads = λ more over.
      let was =
      h.leads (read ++ more)
      (λ e. no_more read more (goes.stays e).1 (over (goes.stays e).0)) in
      subst (λ x. LeadsBy cut true x h.pieces (is_in_step new) (octets_held new ++ more))
      (sym (append_assoc stream read more))
      (subst (λ x. LeadsBy cut true (stream ++ (read ++ more)) h.pieces (is_in_step new) x)
      (sym (ap (λ x. x ++ more) goes.added.behind ∙ append_assoc (octets_held old) read more))
      (subst (λ s. LeadsBy cut true (stream ++ (read ++ more)) h.pieces s
      (octets_held old ++ (read ++ more)))
      (sym goes.added.step) was));
  gives = h.gives;
  count_is = h.count_is;
}

long : (b more : List ℕ) → 0 < length b → 0 < length (b ++ more)
long b more h = let size = length-append b more in omega (arith, h)

-- where a read failed, what is held behind the pieces
pub read-open : (cut : Cut) (P : List Piece → Type 0) (old new : PacketBuffer)
    (a c : Option (List ℕ)) (stream : List ℕ) (count : ℕ)
    → (h : IsRead cut P old stream count)
    → (goes : IsOpenAt old new a c)
    → LeadsBy cut true (stream ++ goes.0) h.pieces (is_in_step new) (octets_held new)
    × (waits_by cut (is_in_step new) (octets_held new) ≡ true)
read-open cut P old new a c stream count h goes = (
  subst (λ x. LeadsBy cut true (stream ++ goes.0) h.pieces (is_in_step new) x)
      (sym goes.1.behind)
      (subst (λ s. LeadsBy cut true (stream ++ goes.0) h.pieces s (octets_held old ++ goes.0))
      (sym goes.1.step) (h.leads goes.0 goes.2)),
  subst (λ x. waits_by x (is_in_step new) (octets_held new) ≡ true) (goes.1.cut ∙ h.is) goes.3,
)

-- with the piece in front taken
pub read-next : (cut : Cut) (P Q : List Piece
    → Type 0) (b new : PacketBuffer) (f : Found) (stream : List ℕ) (count : ℕ)
    → (h : IsRead cut P b stream count)
    → IsInFront b f
    → octets_held new ≡ drop f.len (octets_held b)
    → cut_of new ≡ cut_of b
    → is_in_step new ≡ keeps_step f.kind
    → is_ended new ≡ is_ended b
    → Q (h.pieces ++ found_piece b f ∷ [])
    → IsRead cut Q new stream (count + 1)
read-next cut P Q b new f stream count h front over by step end gives = record {
  pieces = h.pieces ++ found_piece b f ∷ [];
  is = by ∙ h.is;
  leads = λ more none.
      let left : is_ended b ≡ true → more ≡ [] = λ e. none (end ∙ e) in
      let next =
      leads-next cut true (stream ++ more) h.pieces (is_in_step b) (octets_held b ++ more)
      (found_piece b f) (h.leads more left) (long (octets_held b) more front.some)
      (sym (subst (λ x. piece_by x (is_in_step b) (octets_held b ++ more) ≡ found_piece b f) h.is
      (front.is more left))) in
      let size : length (take f.len (octets_held b))
      ≡ f.len = length-take-le f.len (octets_held b) front.within in
      let over_it : drop (length (take f.len (octets_held b))) (octets_held b ++ more)
      ≡ octets_held new ++ more =
      ap (λ n. drop n (octets_held b ++ more)) size
      ∙ drop-append-le f.len (octets_held b) more front.within
      ∙ ap (λ x. x ++ more) (sym over) in
      subst (λ x. LeadsBy cut true (stream ++ more) (h.pieces ++ found_piece b f ∷ [])
      (is_in_step new) x)
      over_it
      (subst (λ s. LeadsBy cut true (stream ++ more) (h.pieces ++ found_piece b f ∷ []) s
      (drop (length (take f.len (octets_held b))) (octets_held b ++ more))) (sym step) next);
  gives = gives;
  count_is = length-append h.pieces (found_piece b f ∷ []) ∙ ap (λ c. c + 1) h.count_is;
}

-- and with nothing left, at the end
pub read-end : (cut : Cut) (P : List Piece
    → Type 0) (b : PacketBuffer) (stream : List ℕ) (count : ℕ)
    → (h : IsRead cut P b stream count)
    → octets_held b ≡ []
    → CutsBy cut stream h.pieces
read-end cut P b stream count h none = (
  is_in_step b,
  subst (λ x. LeadsBy cut true x h.pieces (is_in_step b) []) (append-nil stream)
      (subst (λ x. LeadsBy cut true (stream ++ []) h.pieces (is_in_step b) x)
      (ap (λ x. x ++ []) none)
      (h.leads [] (λ e. refl))),
)

-- the pieces, where nothing more is said to come
pub read-leads : (cut : Cut) (P : List Piece
    → Type 0) (b : PacketBuffer) (stream : List ℕ) (count : ℕ)
    → (h : IsRead cut P b stream count)
    → LeadsBy cut true stream h.pieces (is_in_step b) (octets_held b)
read-leads cut P b stream count h =
    subst (λ x. LeadsBy cut true x h.pieces (is_in_step b) (octets_held b)) (append-nil stream)
    (subst (λ x. LeadsBy cut true (stream ++ []) h.pieces (is_in_step b) x)
    (append-nil (octets_held b))
    (h.leads [] (λ e. refl)))

-- so many pieces were read
pub read-endless : (cut : Cut) (P : List Piece → Type 0) (b : PacketBuffer)
    (before after : Option (List ℕ)) (count : ℕ)
    → (stream : List ℕ) × Consumes before after stream × IsRead cut P b stream count
    → count ≡ 18446744073709551615
    → IsEndlessBy cut before after
read-endless cut P b before after count h most = (
  h.0,
  h.2.pieces,
  is_in_step b,
  octets_held b,
  h.1,
  read-leads cut P b h.0 count h.2,
  h.2.count_is ∙ most,
)

-- and with the one in front
pub read-front : (cut : Cut) (P : List Piece
    → Type 0) (b : PacketBuffer) (f : Found) (stream : List ℕ) (count : ℕ)
    → (h : IsRead cut P b stream count)
    → IsInFront b f
    → LeadsBy cut true stream (h.pieces ++ found_piece b f ∷ []) (keeps_step f.kind)
    (drop (length (take f.len (octets_held b))) (octets_held b))
read-front cut P b f stream count h front =
    leads-next cut true stream h.pieces (is_in_step b) (octets_held b) (found_piece b f)
    (read-leads cut P b stream count h) front.some
    (sym (ap (piece_by cut (is_in_step b)) (sym (append-nil (octets_held b)))
    ∙ subst (λ x. piece_by x (is_in_step b) (octets_held b ++ []) ≡ found_piece b f) h.is
    (front.is [] (λ e. refl))))

-- ---- the packets among the pieces

before-next : (k : PieceKind) (b : List ℕ) (bs cs : List (List ℕ))
    → packet_before k b (bs ++ cs) ≡ packet_before k b bs ++ cs
before-next Whole b bs cs = refl
before-next Damaged b bs cs = refl
before-next Stray b bs cs = refl

-- with one more piece
pub packets-next : (ps : List Piece) (p : Piece)
    → packets_of (ps ++ p ∷ []) ≡ packets_of ps ++ packet_before p.kind p.octets []
packets-next [] p = refl
packets-next (q ∷ qs) p =
    ap (packet_before q.kind q.octets) (packets-next qs p)
    ∙ before-next q.kind q.octets (packets_of qs) (packet_before p.kind p.octets [])

-- ---- the octets of pieces

-- with one more piece
pub octets-next : (ps : List Piece) (p : Piece)
    → octets_in (ps ++ p ∷ []) ≡ octets_in ps + length p.octets
octets-next [] p = omega arith
octets-next (q ∷ qs) p =
    let rest = octets-next qs p in
    ap (λ n. length q.octets + n) rest ∙ omega arith

-- the place behind a piece of a stream that begins at a place
pub told-behind : (from : ℕ) (ps : List Piece) (p : Piece) (at next len : ℕ)
    → at ≡ up_to_limit (from + octets_in ps)
    → length p.octets ≡ len
    → next ≡ min (at + len) (2 ^ 64 - 1)
    → next ≡ up_to_limit (from + octets_in (ps ++ p ∷ []))
told-behind from ps p at next len is size then =
    let sum = octets-next ps p in
    omega arith

-- What is read and told where parts are joined, with a piece more.
use Rattle.std.proofs.Common.{◌≡◌, ◌∙◌, ◌⊎◌, inl, inr, ap, sym, subst, refl, ℕ, ◌+◌, Bool, Result, Ok, Err, List, [], ◌∷◌, ◌++◌, length, Option, append-nil, append_assoc, arith}
use Rattle.std.specs.Io.KnownBytes.{Appends}
use Rattle.std.specs.Prelude.{IfErr, OnOk}
use Rattle.lpt_text.specs.Streams.{failed_write, AppendsPart, WriteEnds}
use Rattle.lpt_text.specs.declared.fault.StreamFault.{StreamFault}
use Rattle.lpt_text.specs.declared.fault.StreamFault.TheVariants as faults
use Rattle.lpt_stream.specs.declared.piece_kind.PieceKind.{PieceKind}
use Rattle.lpt_stream.specs.declared.piece_kind.PieceKind.TheVariants.{Whole, Damaged, Stray}
use Rattle.lpt_stream.specs.Pieces.{Piece, packet_before, packets_of, octets_in, up_to_limit}
use Rattle.lpt_stream.proofs.CutLemmas.{packets-next}
use Rattle.lpt_stream.proofs.EndLemmas.{writer-after}
use Rattle.lpt_extract.specs.declared.extracted.Extracted.{Extracted}
use Rattle.lpt_extract.specs.declared.holding.Holding.{Holding}
use Rattle.lpt_extract.specs.declared.joins.InPlace.{InPlace}
use Rattle.lpt_extract.specs.declared.joins.InPlace.TheVariants.{Itself, Nothing, Message}
use Rattle.lpt_extract.specs.declared.notice.Notice.{Notice}
use Rattle.lpt_extract.specs.declared.wanted.Wanted.{Wanted}
use Rattle.lpt_extract.specs.Extracts.{areas_in, notices_at, notices_of, written_first}
use Rattle.lpt_extract.specs.ExtractsInside.{EndsAs, HeldAreas}
use Rattle.lpt_extract.specs.Joined.{joined_at, joined_in, notices_by, reads, reads_from, ExtractsJoined, Reads}
use Rattle.lpt_extract.specs.JoinedInside.{IsInPlace, IsRead}
use Rattle.lpt_extract.specs.Notices.{Hears}
use Rattle.lpt_extract.specs.Reports.{report_in}
use Rattle.lpt_extract.proofs.GiveLemmas.{areas-append, ends-by, held-as, hears-more, part-more, wrote-more}

-- ---- more

pub reads-next : (r : Reads) (before bs cs : List (List ℕ))
    → reads_from r before (bs ++ cs) ≡ reads_from r before bs ++ reads_from r (before ++ bs) cs
reads-next r before [] cs = ap (λ xs. reads_from r xs cs) (sym (append-nil before))
reads-next r before (b ∷ bs) cs =
    ap (λ ms. r before b ++ ms)
    (reads-next r (before ++ b ∷ []) bs cs
    ∙ ap (λ xs. reads_from r (before ++ b ∷ []) bs ++ reads_from r xs cs)
    (append_assoc before (b ∷ []) bs))
    ∙ sym (append_assoc (r before b) (reads_from r (before ++ b ∷ []) bs)
    (reads_from r (before ++ b ∷ bs) cs))

-- the areas of what is read with a piece more
areas-next : (w : Wanted) (r : Reads) (ps : List Piece) (p : Piece)
    → areas_in w (reads r (packets_of (ps ++ p ∷ [])))
    ≡ areas_in w (reads r (packets_of ps))
    ++ areas_in w (reads_from r (packets_of ps) (packet_before p.kind p.octets []))
areas-next w r ps p =
    ap (λ bs. areas_in w (reads r bs)) (packets-next ps p)
    ∙ ap (areas_in w) (reads-next r [] (packets_of ps) (packet_before p.kind p.octets []))
    ∙ areas-append w (reads r (packets_of ps)) _

before-all : (k : PieceKind) (b : List ℕ) (bs : List (List ℕ))
    → packet_before k b [] ++ bs ≡ packet_before k b bs
before-all Whole b bs = refl
before-all Damaged b bs = refl
before-all Stray b bs = refl

-- and what is told of it
joined-next : (w : Wanted) (r : Reads) (before : List (List ℕ)) (n : ℕ) (ps : List Piece)
    (p : Piece)
    → joined_in w r before n (ps ++ p ∷ [])
    ≡ joined_in w r before n ps
    ++ joined_at w r (before ++ packets_of ps) (up_to_limit (n + octets_in ps)) p.kind p.octets
joined-next w r before n [] p =
    append-nil (joined_at w r before (up_to_limit n) p.kind p.octets)
    ∙ ap (λ bs. joined_at w r bs (up_to_limit n) p.kind p.octets) (sym (append-nil before))
    ∙ ap (λ k. joined_at w r (before ++ []) (up_to_limit k) p.kind p.octets) (omega arith)
joined-next w r before n (q ∷ ps) p =
    let first = joined_at w r before (up_to_limit n) q.kind q.octets in
    let more = before ++ packet_before q.kind q.octets [] in
    let m = n + length q.octets in
    let same : more ++ packets_of ps ≡ before ++ packets_of (q ∷ ps) =
    append_assoc before (packet_before q.kind q.octets []) (packets_of ps)
    ∙ ap (λ bs. before ++ bs) (before-all q.kind q.octets (packets_of ps)) in
    ap (λ ns. first ++ ns) (joined-next w r more m ps p
    ∙ ap (λ bs. joined_in w r more m ps
    ++ joined_at w r bs (up_to_limit (m + octets_in ps)) p.kind p.octets) same
    ∙ ap (λ k. joined_in w r more m ps
    ++ joined_at w r (before ++ packets_of (q ∷ ps)) (up_to_limit k) p.kind p.octets) (omega arith))
    ∙ sym (append_assoc first (joined_in w r more m ps) _)

-- ---- one piece

module _ (r : Reads) (bs : List (List ℕ)) where
  -- one that is read itself
  pub reads-itself : (k : PieceKind) (b : List ℕ)
      → (k ≡ Whole → r bs b ≡ b ∷ [])
      → packet_before k b [] ≡ reads_from r bs (packet_before k b [])
  reads-itself Whole b h = ap (λ ms. ms ++ []) (sym (h refl))
  reads-itself Damaged b h = refl
  reads-itself Stray b h = refl

  pub told-itself : (w : Wanted) (n : ℕ) (k : PieceKind) (b : List ℕ)
      → (k ≡ Whole → r bs b ≡ b ∷ [])
      → notices_at w n k b ≡ joined_at w r bs n k b
  told-itself w n Whole b h =
      sym (append-nil (notices_of w.at n (report_in w b))) ∙ ap (notices_by w n) (sym (h refl))
  told-itself w n Damaged b h = refl
  told-itself w n Stray b h = refl

  -- one in whose place these are read
  pub reads-others : (k : PieceKind) (b : List ℕ) (ms : List (List ℕ))
      → k ≡ Whole
      → r bs b ≡ ms
      → ms ≡ reads_from r bs (packet_before k b [])
  reads-others Whole b ms e h = sym h ∙ sym (append-nil (r bs b))
  reads-others Damaged b ms e h = absurd cc
  reads-others Stray b ms e h = absurd cc

  pub told-others : (w : Wanted) (n : ℕ) (k : PieceKind) (b : List ℕ) (ms : List (List ℕ))
      → k ≡ Whole
      → r bs b ≡ ms
      → notices_by w n ms ≡ joined_at w r bs n k b
  told-others w n Whole b ms e h = ap (notices_by w n) (sym h)
  told-others w n Damaged b ms e h = absurd cc
  told-others w n Stray b ms e h = absurd cc

-- where a packet's place is taken by these, one of them or none is read
pub place-read : (r : Reads) (bs : List (List ℕ)) (b : List ℕ) (ms : List (List ℕ)) (x : InPlace)
    → r bs b ≡ ms
    → IsRead ms x
    → IsInPlace r bs Whole b x
place-read r bs b ms Itself e h = absurd h
place-read r bs b ms Nothing e h = (refl, e ∙ h)
place-read r bs b ms (Message m) e h = (refl, e ∙ h)

-- ---- what is held, written and told

-- with a piece more
module _ (w : Wanted) (r : Reads) (ps : List Piece) (p : Piece) where
  pub wrote-next : (old mid new : Option (List ℕ))
      → Appends old mid (written_first w.at (areas_in w (reads r (packets_of ps))))
      → Appends mid new (written_first w.at
      (areas_in w (reads_from r (packets_of ps) (packet_before p.kind p.octets []))))
      → Appends old new (written_first w.at (areas_in w (reads r (packets_of (ps ++ p ∷ [])))))
  wrote-next old mid new was more =
      subst (λ xs. Appends old new (written_first w.at xs)) (sym (areas-next w r ps p))
      (wrote-more w.at old mid new _ _ was more)

  pub part-next : (old mid new : Option (List ℕ))
      → Appends old mid (written_first w.at (areas_in w (reads r (packets_of ps))))
      → AppendsPart mid new (written_first w.at
      (areas_in w (reads_from r (packets_of ps) (packet_before p.kind p.octets []))))
      → AppendsPart old new (written_first w.at (areas_in w (reads r (packets_of (ps ++ p ∷ [])))))
  part-next old mid new was part =
      subst (λ xs. AppendsPart old new (written_first w.at xs)) (sym (areas-next w r ps p))
      (part-more w.at old mid new _ _ was part)

  -- at a place
  module _ (from place : ℕ) (at : place ≡ up_to_limit (from + octets_in ps)) where
    more_notices : joined_in w r [] from ps ++ joined_at w r (packets_of ps) place p.kind p.octets
        ≡ joined_in w r [] from (ps ++ p ∷ [])
    more_notices =
        ap (λ n. joined_in w r [] from ps ++ joined_at w r (packets_of ps) n p.kind p.octets) at
        ∙ sym (joined-next w r [] from ps p)

    pub held-next : (h : Holding)
        → HeldAreas w.at (areas_in w (reads r (packets_of ps))
        ++ areas_in w (reads_from r (packets_of ps) (packet_before p.kind p.octets [])))
        (joined_in w r [] from ps ++ joined_at w r (packets_of ps) place p.kind p.octets) h
        → HeldAreas w.at (areas_in w (reads r (packets_of (ps ++ p ∷ []))))
        (joined_in w r [] from (ps ++ p ∷ [])) h
    held-next h held = held-as w.at _ _ _ _ h (sym (areas-next w r ps p)) more_notices held

    pub hears-next : (heard hear hears : Option (List Notice))
        → Hears heard hear (joined_in w r [] from ps)
        → Hears hear hears (joined_at w r (packets_of ps) place p.kind p.octets)
        → Hears heard hears (joined_in w r [] from (ps ++ p ∷ []))
    hears-next heard hear hears was more =
        subst (Hears heard hears) more_notices (hears-more heard hear hears _ _ was more)

-- ---- the end

-- what was read to the end
pub joined-ends : (w : Wanted) (r : Reads) (x : Extracted) (ps : List Piece)
    (old mid new : Option (List ℕ)) (heard hears : Option (List Notice))
    → Appends old mid (written_first w.at (areas_in w (reads r (packets_of ps))))
    → Hears heard hears (joined_in w r [] 0 ps)
    → EndsAs w.at (areas_in w (reads r (packets_of ps))) (joined_in w r [] 0 ps) x mid new
    → ExtractsJoined w r x ps old new heard hears
joined-ends w r x ps old mid new heard hears wrote told ends = record {
  ends = ends-by w.at (areas_in w (reads r (packets_of ps))) _ x.end old mid new wrote ends.by;
  missing = ends.missing;
  clashing = ends.clashing;
  told = told;
  counted = ends.counted;
}

-- ---- the writer

-- work that leaves it so, behind work that left it as it was
pub ends-ok : {A : Type 0} (r : Result A StreamFault) (first had failed : Bool)
    → WriteEnds r had failed
    → had ≡ first
    → OnOk r (failed ≡ first)
ends-ok (Ok x) first had failed h same = h ∙ same
ends-ok (Err e) first had failed h same = tt

pub ends-failed : {A : Type 0} (r : Result A StreamFault) (first had failed : Bool)
    → WriteEnds r had failed
    → had ≡ first
    → IfErr r (λ e. (e ≡ faults.Write) ⊎ (failed ≡ failed_write e first))
ends-failed (Ok x) first had failed h same = tt
ends-failed (Err e) first had failed h same = inr (writer-after e first had failed h same)

-- where the taker failed in its place
pub taker-failed : (e : StreamFault) (first now : Bool)
    → (e ≡ faults.Write) ⊎ (e ≡ faults.Memory)
    → now ≡ first
    → (e ≡ faults.Write) ⊎ (now ≡ failed_write e first)
taker-failed e first now (inl h) same = inl h
taker-failed e first now (inr h) same =
    inr (subst (λ (f : StreamFault). now ≡ failed_write f first) (sym h) same)

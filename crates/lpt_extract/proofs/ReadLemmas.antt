-- What is taken of the pieces of a stream.
use Rattle.std.proofs.Common.{◌≡◌, ◌≢◌, ◌∙◌, ap, inl, inr, sym, subst, refl, ℕ, ◌+◌, true, false, List, [], ◌∷◌, ◌++◌, Option, Result, Ok, Err}
use Rattle.std.specs.Prelude.{IfOk, IfErr, OnOk}
use Rattle.std.specs.Io.KnownBytes.{Appends, Consumes, IsAtEnd}
use Rattle.lpt_packet.specs.declared.fault.PacketFault.TheVariants.{Checksum}
use Rattle.lpt_packet.specs.Packets.{verdict}
use Rattle.lpt_stream.specs.declared.cut.Cut.{Cut}
use Rattle.lpt_stream.specs.declared.cut.Cut.TheVariants.{Sealed, Framed, Resumed}
use Rattle.lpt_stream.specs.declared.piece_kind.PieceKind.TheVariants.{Whole}
use Rattle.lpt_stream.specs.Pieces.{CutsBy, IsSealedBy, LeadsBy, Piece, packet_before, packets_of, octets_in, up_to_limit}
use Rattle.lpt_stream.specs.Takes.{ReadsBy}
use Rattle.lpt_stream.proofs.CutLemmas.{packets-next}
use Rattle.lpt_text.specs.declared.fault.StreamFault.{StreamFault}
use Rattle.lpt_text.specs.declared.fault.StreamFault.TheVariants as faults
use Rattle.lpt_text.specs.Streams.{AppendsPart}
use Rattle.lpt_memory.specs.declared.request.Area.{Area}
use Rattle.lpt_extract.specs.declared.holding.Holding.{Holding}
use Rattle.lpt_extract.specs.declared.notice.Notice.{Notice}
use Rattle.lpt_extract.specs.declared.wanted.Wanted.{Wanted}
use Rattle.lpt_extract.specs.Extracts.{areas_in, notices_at, notices_in, written_first}
use Rattle.lpt_extract.specs.ExtractsInside.{is_sealed, HeldAreas}
use Rattle.lpt_extract.specs.Notices.{Hears}
use Rattle.lpt_extract.proofs.GiveLemmas.{areas-append, notices-next, held-as, hears-more, part-more, wrote-more}

-- ---- a piece more

module _ (w : Wanted) (from : ℕ) (ps : List Piece) (p : Piece) where
  -- the areas of it too
  areas-next : areas_in w (packets_of (ps ++ p ∷ []))
      ≡ areas_in w (packets_of ps) ++ areas_in w (packet_before p.kind p.octets [])
  areas-next = ap (areas_in w) (packets-next ps p) ∙ areas-append w (packets_of ps) _

  told : (place : ℕ)
      → place ≡ up_to_limit (from + octets_in ps)
      → notices_in w from ps ++ notices_at w place p.kind p.octets
      ≡ notices_in w from (ps ++ p ∷ [])
  told place at =
      ap (λ n. notices_in w from ps ++ notices_at w n p.kind p.octets) at
      ∙ sym (notices-next w from ps p)

  pub held-next : (h k : Holding) (place : ℕ)
      → place ≡ up_to_limit (from + octets_in ps)
      → HeldAreas w.at (areas_in w (packets_of ps)) (notices_in w from ps) h
      → ((areas : List Area) (ns : List Notice) → HeldAreas w.at areas ns h
      → HeldAreas w.at (areas ++ areas_in w (packet_before p.kind p.octets []))
      (ns ++ notices_at w place p.kind p.octets) k)
      → HeldAreas w.at (areas_in w (packets_of (ps ++ p ∷ []))) (notices_in w from (ps ++ p ∷ [])) k
  held-next h k place at was more =
      held-as w.at _ _ _ _ k (sym areas-next) (told place at) (more _ _ was)

  pub hears-next : (heard hear hears : Option (List Notice)) (place : ℕ)
      → place ≡ up_to_limit (from + octets_in ps)
      → Hears heard hear (notices_in w from ps)
      → Hears hear hears (notices_at w place p.kind p.octets)
      → Hears heard hears (notices_in w from (ps ++ p ∷ []))
  hears-next heard hear hears place at was more =
      subst (Hears heard hears) (told place at) (hears-more heard hear hears _ _ was more)

  pub wrote-next : (old mid new : Option (List ℕ))
      → Appends old mid (written_first w.at (areas_in w (packets_of ps)))
      → Appends mid new (written_first w.at (areas_in w (packet_before p.kind p.octets [])))
      → Appends old new (written_first w.at (areas_in w (packets_of (ps ++ p ∷ []))))
  wrote-next old mid new was more =
      subst (λ areas. Appends old new (written_first w.at areas)) (sym areas-next)
      (wrote-more w.at old mid new _ _ was more)

  -- a front part of what it gives
  pub part-next : (old mid new : Option (List ℕ))
      → Appends old mid (written_first w.at (areas_in w (packets_of ps)))
      → AppendsPart mid new (written_first w.at (areas_in w (packet_before p.kind p.octets [])))
      → AppendsPart old new (written_first w.at (areas_in w (packets_of (ps ++ p ∷ []))))
  part-next old mid new was part =
      subst (λ areas. AppendsPart old new (written_first w.at areas)) (sym areas-next)
      (part-more w.at old mid new _ _ was part)

-- ---- results

pub if-ok : {A E : Type 0} (P Q : A → Type 0) (r : Result A E)
    → ((x : A) → P x → Q x)
    → IfOk r P
    → IfOk r Q
if-ok P Q (Ok x) f h = f x h
if-ok P Q (Err e) f h = h

-- what holds anyway holds where work went well
pub any-ok : {A E : Type 0} (P : Type 0) (r : Result A E) → P → OnOk r P
any-ok P (Ok x) p = p
any-ok P (Err e) p = tt

pub if-on : {A E : Type 0} (P Q : Type 0) (r : Result A E)
    → (P → Q)
    → OnOk r P
    → IfOk r (λ _. Q)
if-on P Q (Ok x) f h = f h
if-on P Q (Err e) f h = tt

pub on-ok : {A E : Type 0} (P Q : Type 0) (r : Result A E)
    → (P → Q)
    → OnOk r P
    → OnOk r Q
on-ok P Q (Ok x) f h = f h
on-ok P Q (Err e) f h = h

pub if-err : {A E : Type 0} (P Q R : E → Type 0) (r : Result A E)
    → ((e : E) → P e → Q e → R e)
    → IfErr r P
    → IfErr r Q
    → IfErr r R
if-err P Q R (Ok x) f h k = h
if-err P Q R (Err e) f h k = f e h k

-- what only a write ends doesn't end by a read's fault
pub no-read : {A : Type 0} (r : Result A StreamFault)
    → IfErr r (λ e. e ≡ faults.Write)
    → r ≡ Err faults.Read
    → ⊥
no-read r h is =
    let same : faults.Read ≡ faults.Write = subst (λ x. IfErr x (λ e. e ≡ faults.Write)) is h in
    cc

-- ---- the stream

open_still : ◌≡◌ true false → ⊥
open_still h = cc

-- a taker that always takes more has taken all
pub reads-whole : (cut : Cut) (a b : Option (List ℕ)) (P : List Piece → Type 0)
    → ReadsBy cut a b true P
    → (stream : List ℕ) × (ps : List Piece)
    × Consumes a b stream × IsAtEnd b × CutsBy cut stream ps × P ps
reads-whole cut a b P h = elim h.ends [
  | inl e ↦ (
    h.stream,
    h.pieces,
    h.consumed,
    e.1,
    (h.in_step, subst (LeadsBy cut true h.stream h.pieces h.in_step) e.0 h.leads),
    h.gives,
  )
  | inr e ↦ absurd (open_still e)
]

-- where a cut looks at checksums, that of a whole piece isn't at fault
pub whole-sealed : (cut : Cut) (b : List ℕ)
    → IsSealedBy cut Whole b
    → is_sealed cut ≡ true
    → verdict b ≢ Err Checksum
whole-sealed Sealed b h e = h refl
whole-sealed Framed b h e = absurd cc
whole-sealed (Resumed l) b h e = absurd cc

-- The pieces of a stream, one after the other.
use Rattle.std.proofs.Common.{◌≡◌, ◌∙◌, ap, sym, subst, refl, inl, inr, Bool, true, false, List, ℕ, [], ◌∷◌, ◌++◌, Option, None, Ok, Err, Result, append-nil}
use Rattle.std.specs.Prelude.{IfOk}
use Rattle.lpt_carried.specs.declared.skips.Skips.{Skips}
use Rattle.lpt_carried.specs.declared.wanted.Wanted.{Wanted}
use Rattle.lpt_carried.specs.Tallies.{piece_noted, nothing_noted, skips_of}
use Rattle.lpt_carried.proofs.TallyLemmas.{noted-append}
use Rattle.lpt_stream.specs.declared.piece_kind.PieceKind.{PieceKind}
use Rattle.lpt_stream.specs.declared.piece_kind.PieceKind.TheVariants.{Whole, Damaged, Stray}
use Rattle.lpt_stream.specs.declared.cut.Cut.{Cut}
use Rattle.lpt_stream.specs.Pieces.{LeadsBy, Piece, packets_of}
use Rattle.lpt_stream.specs.Takes.{ReadsBy}
use Rattle.lpt_stream.proofs.CutLemmas.{packets-next}
use Rattle.lpt_carried.specs.declared.name.Name.{Name}
use Rattle.lpt_carried.specs.declared.reading.Reading.{Reading}
use Rattle.lpt_carried.specs.Carried.{part_carried}
use Rattle.lpt_layout_join.specs.Gatherings.{is_wanted}
use Rattle.lpt_layout_join.specs.Writes.{ReadsCut}
use Rattle.lpt_layout_each.specs.declared.each.Teller.{Teller}
use Rattle.lpt_layout_each.specs.declared.helds.HeldsAs.{HeldsAs}
use Rattle.lpt_layout_each.specs.Helds.{HoldsEach}
use Rattle.lpt_layout_each.specs.News.{Event, Hears, HearsPart}
use Rattle.lpt_layout_each.specs.Streams.{Leaves, Tells, events, told_by}
use Rattle.lpt_layout_each.specs.Tellers.{IsTold}
use Rattle.lpt_layout_each.proofs.TellLemmas.{events-next, hears-more, part-more}

open_still : ◌≡◌ true false → ⊥
open_still h = cc

-- a taker that always takes more has taken all
pub reads-cut : (cut : Cut) (a b : Option (List ℕ)) (P : List Piece → Type 0)
    → ReadsBy cut a b true P
    → ReadsCut cut a b P
reads-cut cut a b P h = elim h.ends [
  | inl e ↦ (
    h.stream,
    h.pieces,
    h.consumed,
    e.1,
    (h.in_step, subst (LeadsBy cut true h.stream h.pieces h.in_step) e.0 h.leads),
    h.gives,
  )
  | inr e ↦ absurd (open_still e)
]

-- of a stream that begins at 0
pub from-zero : {A E : Type 0} (from : ℕ) (P : A → Type 0) (r : Result A E)
    → from ≡ 0
    → IfOk r P
    → IfOk r (λ x. (from ≡ 0) × P x)
from-zero from P (Ok x) h k = (h, k)
from-zero from P (Err e) h k = tt

-- at the end
pub told-all : (r : Reading) (any : Bool) (heard hear hears : Option (List Event))
    (bs : List (List ℕ))
    → Hears heard hear (events r any bs)
    → (es : List Event) × Leaves r any bs es × Hears hear hears es
    → Tells r any bs heard hears
told-all r any heard hear hears bs was left = (
  left.0,
  left.1,
  hears-more heard hear hears (events r any bs) left.0 was left.2,
)

-- where any name is wanted each is
pub all-wanted : (w : Option Name) (n : Name) → w ≡ None → is_wanted w n ≡ true
all-wanted w n e = ap (λ (w : Option Name). is_wanted w n) e

-- what was told is of the reading with which it began
pub told-first : (first now : Teller) (heard hears : Option (List Event)) (ps : List Piece)
    → IsTold first now heard hears ps
    → Hears heard hears (events first.wanted.reading first.any (packets_of ps))
told-first first now heard hears ps h =
    subst (λ (w : Wanted). Hears heard hears (events w.reading first.any (packets_of ps))) h.same
    (subst (λ (any : Bool). Hears heard hears (events now.wanted.reading any (packets_of ps)))
    h.same_any h.told)

-- ---- a piece further

module _ (first was : Teller) (heard hear : Option (List Event)) (ps : List Piece)
    (h : IsTold first was heard hear ps) where
  abbrev w : Wanted
  w = was.wanted

  abbrev r : Reading
  r = w.reading

  abbrev bs : List (List ℕ)
  bs = packets_of ps

  abbrev whole : List ℕ → Piece
  whole b = record { kind = Whole; octets = b }

  skips-next : (p : Piece) (s : Skips) → s ≡ piece_noted w was.skips p → s
      ≡ skips_of w (ps ++ p ∷ [])
  skips-next p s notes =
      notes ∙ ap (λ (k : Skips). piece_noted w k p) h.skips_are
      ∙ sym (noted-append w nothing_noted ps (p ∷ []))

  events-packet : (b : List ℕ)
      → events r was.any (packets_of (ps ++ whole b ∷ []))
      ≡ events r was.any bs ++ told_by r was.any bs b (part_carried r b)
  events-packet b =
      ap (events r was.any) (packets-next ps (whole b)) ∙ events-next r was.any [] bs b

  -- a packet
  pub told-packet : (b : List ℕ) (g : HeldsAs) (s : Skips) (hears : Option (List Event))
      → HoldsEach r was.any (bs ++ b ∷ []) g
      → Hears hear hears (told_by r was.any bs b (part_carried r b))
      → s ≡ piece_noted w was.skips (whole b)
      → IsTold first (record { wanted = w; any = was.any; helds = g; skips = s }) heard hears
      (ps ++ whole b ∷ [])
  told-packet b g s hears held told notes = record {
    same = h.same;
    same_any = h.same_any;
    all = h.all;
    held = subst (λ (bs : List (List ℕ)). HoldsEach r was.any bs g)
        (sym (packets-next ps (whole b))) held;
    told = subst (Hears heard hears) (sym (events-packet b))
        (hears-more heard hear hears (events r was.any bs) _ h.told told);
    skips_are = skips-next (whole b) s notes;
  }

  -- of which a front part was told
  pub part-packet : (b : List ℕ) (hears : Option (List Event))
      → HearsPart hear hears (told_by r was.any bs b (part_carried r b))
      → HearsPart heard hears
      (events first.wanted.reading first.any (packets_of (ps ++ whole b ∷ [])))
  part-packet b hears told =
      let all = packets_of (ps ++ whole b ∷ []) in
      subst (λ (w : Wanted). HearsPart heard hears (events w.reading first.any all)) h.same
      (subst (λ (any : Bool). HearsPart heard hears (events r any all)) h.same_any
      (subst (HearsPart heard hears) (sym (events-packet b))
      (part-more heard hear hears (events r was.any bs) _ h.told told)))

  -- another piece
  none-more : (k : PieceKind) (b : List ℕ)
      → (k ≡ Whole → ⊥)
      → packets_of (ps ++ record { kind = k; octets = b } ∷ []) ≡ bs
  none-more Whole b other = absurd (other refl)
  none-more Damaged b other =
      packets-next ps (record { kind = Damaged; octets = b }) ∙ append-nil bs
  none-more Stray b other =
      packets-next ps (record { kind = Stray; octets = b }) ∙ append-nil bs

  pub told-other : (k : PieceKind) (b : List ℕ) (s : Skips)
      → (k ≡ Whole → ⊥)
      → s ≡ piece_noted w was.skips (record { kind = k; octets = b })
      → IsTold first (record { wanted = w; any = was.any; helds = was.helds; skips = s }) heard
      hear (ps ++ record { kind = k; octets = b } ∷ [])
  told-other k b s other notes =
      let same = sym (none-more k b other) in
      record {
        same = h.same;
        same_any = h.same_any;
        all = h.all;
        held = subst (λ (bs : List (List ℕ)). HoldsEach r was.any bs was.helds) same h.held;
        told = subst (λ (bs : List (List ℕ)). Hears heard hear (events r was.any bs)) same h.told;
        skips_are = skips-next (record { kind = k; octets = b }) s notes;
      }

-- What follows of what was taken of a stream.
use Rattle.std.proofs.Common.{◌≡◌, sym, subst, inl, inr, true, false, List, [], ℕ, Option, append-nil}
use Rattle.std.specs.Io.KnownBytes.{Consumes}
use Rattle.lpt_stream.specs.declared.cut.Cut.{Cut}
use Rattle.lpt_stream.specs.declared.cut.Cut.TheVariants.{Sealed}
use Rattle.lpt_stream.specs.Pieces.{Piece, CutsBy, Leads}
use Rattle.lpt_stream.specs.Reads.{ReadsPieces}
use Rattle.lpt_stream.specs.Takes.{LeavesBy, ReadsBy, TakenAll}

open_still : ◌≡◌ true false → ⊥
open_still h = cc

-- a taker that always takes more has taken all
pub reads-all : (a b : Option (List ℕ)) (P : List Piece → Type 0)
    → ReadsBy Sealed a b true P
    → ReadsPieces a b P
reads-all a b P h = elim h.ends [
  | inl e ↦ (
    h.stream,
    h.pieces,
    h.consumed,
    e.1,
    (h.in_step, subst (Leads true h.stream h.pieces h.in_step) e.0 h.leads),
    h.gives,
  )
  | inr e ↦ absurd (open_still e)
]

-- what follows of the pieces that were found before a fault
pub leave-as : (cut : Cut) (a b : Option (List ℕ)) (P Q : List Piece → Type 0)
    → ((ps : List Piece) → P ps → Q ps)
    → LeavesBy cut a b P
    → LeavesBy cut a b Q
leave-as cut a b P Q f h = record {
  stream = h.stream;
  others = h.others;
  pieces = h.pieces;
  in_step = h.in_step;
  rest = h.rest;
  consumed = h.consumed;
  leads = h.leads;
  front = f h.pieces h.front;
}

-- and of those behind which a read failed
pub all-as : (cut : Cut) (a b : Option (List ℕ)) (P Q : List Piece → Type 0)
    → ((ps : List Piece) → P ps → Q ps)
    → TakenAll cut a b P
    → TakenAll cut a b Q
all-as cut a b P Q f h = record {
  stream = h.stream;
  pieces = h.pieces;
  in_step = h.in_step;
  rest = h.rest;
  consumed = h.consumed;
  leads = h.leads;
  waits = h.waits;
  gives = f h.pieces h.gives;
}

-- what follows of all pieces of a stream
pub leave-all : (cut : Cut) (a b : Option (List ℕ)) (P : List Piece → Type 0) (stream : List ℕ)
    (ps : List Piece)
    → Consumes a b stream
    → CutsBy cut stream ps
    → P ps
    → LeavesBy cut a b P
leave-all cut a b P stream ps consumed cuts front = record {
  stream = stream;
  others = [];
  pieces = ps;
  in_step = cuts.0;
  rest = [];
  consumed = subst (Consumes a b) (sym (append-nil stream)) consumed;
  leads = cuts.1;
  front = front;
}

-- A list, a piece further.
use Rattle.std.proofs.Common.{◌≡◌, ◌∙◌, ap, sym, subst, refl, ℕ, ◌+◌, Bool, true, List, [], ◌∷◌, ◌++◌, length, Option, Some, None, append-nil, append_assoc, arith}
use Rattle.std.specs.Prelude.{is_none}
use Rattle.std.specs.Io.KnownBytes.{Appends, Consumes}
use Rattle.std.proofs.KnownBytes.{Appends-trans}
use Rattle.lpt_text.specs.Streams.{AppendsPart}
use Rattle.lpt_text.proofs.StreamLemmas.{part_after}
use Rattle.lpt_stream.specs.declared.cut.Cut.{Cut}
use Rattle.lpt_stream.specs.declared.piece_kind.PieceKind.{PieceKind}
use Rattle.lpt_stream.specs.Pieces.{Piece, keeps_step, octets_in, up_to_limit}
use Rattle.lpt_stream.specs.Takes.{LeavesBy, ReadsBy, TakenAll}
use Rattle.lpt_carried.specs.Layouts.{SizesFit}
use Rattle.lpt_carried.specs.declared.layouts.Layouts.{Layouts}
use Rattle.lpt_list.specs.declared.form.Form.{Form}
use Rattle.lpt_list.specs.declared.list_end.Tally.{Tally}
use Rattle.lpt_list.specs.declared.lister.Lister.{Lister}
use Rattle.lpt_list.specs.Listers.{HasListed, lines, step_behind}
use Rattle.lpt_list.specs.Lists.{end_of, is_whole, kind_as, line_for, listing, no_tally, stopped_behind, stopped_with, tally_behind, tally_with}

listing-next : (form : Form) (l : Layouts) (place : ℕ) (s : Bool) (xs : List Piece) (x : Piece)
    → listing form l place s (xs ++ x ∷ [])
    ≡ listing form l place s xs
    ++ line_for form l (up_to_limit (place + octets_in xs)) (step_behind s xs) x.kind x.octets
listing-next form l place s [] x =
    let same : place ≡ place + 0 = omega arith in
    append-nil (line_for form l (up_to_limit place) s x.kind x.octets)
    ∙ ap (λ n. line_for form l (up_to_limit n) s x.kind x.octets) same
listing-next form l place s (y ∷ ys) x =
    let line = line_for form l (up_to_limit place) s y.kind y.octets in
    let rest = listing form l (place + length y.octets) (keeps_step y.kind) ys in
    let same : (place + length y.octets) + octets_in ys ≡ place + (length y.octets + octets_in ys)
    = omega arith in
    ap (λ t. line ++ t) (listing-next form l (place + length y.octets) (keeps_step y.kind) ys x)
    ∙ sym (append_assoc line rest _)
    ∙ ap (λ n. (line ++ rest) ++ line_for form l (up_to_limit n)
    (step_behind (keeps_step y.kind) ys) x.kind x.octets) same

step-next : (s : Bool) (xs : List Piece) (x : Piece)
    → step_behind s (xs ++ x ∷ []) ≡ keeps_step x.kind
step-next s [] x = refl
step-next s (y ∷ ys) x = step-next (keeps_step y.kind) ys x

tally-next : (l : Layouts) (n : Tally) (xs : List Piece) (x : Piece)
    → tally_behind l n (xs ++ x ∷ [])
    ≡ tally_with (kind_as l x.kind x.octets) (tally_behind l n xs)
tally-next l n [] x = refl
tally-next l n (y ∷ ys) x = tally-next l (tally_with (kind_as l y.kind y.octets) n) ys x

stopped-next : (l : Layouts) (strict : Bool) (place : ℕ) (at : Option ℕ) (xs : List Piece)
    (x : Piece)
    → stopped_behind l strict place at (xs ++ x ∷ [])
    ≡ stopped_with strict (up_to_limit (place + octets_in xs)) (kind_as l x.kind x.octets)
    (stopped_behind l strict place at xs)
stopped-next l strict place at [] x =
    let same : place ≡ place + 0 = omega arith in
    ap (λ n. stopped_with strict (up_to_limit n) (kind_as l x.kind x.octets) at) same
stopped-next l strict place at (y ∷ ys) x =
    let same : (place + length y.octets) + octets_in ys ≡ place + (length y.octets + octets_in ys)
    = omega arith in
    let next = stopped_with strict (up_to_limit place) (kind_as l y.kind y.octets) at in
    stopped-next l strict (place + length y.octets) next ys x
    ∙ ap (λ n. stopped_with strict (up_to_limit n) (kind_as l x.kind x.octets)
    (stopped_behind l strict (place + length y.octets) next ys)) same

-- with a piece more
module _ (from place : ℕ) (first was : Lister) (pieces : List Piece) (x : Piece)
    (h : HasListed from first was pieces) (at : place ≡ up_to_limit (from + octets_in pieces)) where
  pub next_line : lines from first (pieces ++ x ∷ [])
      ≡ lines from first pieces
      ++ line_for was.form was.layouts.now place was.in_step x.kind x.octets
  next_line =
      listing-next first.form first.layouts.now from true pieces x
      ∙ (λ i. lines from first pieces ++ line_for (sym h.form_is i) (sym h.layouts_are i) (sym at i)
      (sym h.step_is i) x.kind x.octets)

  pub wrote_next : (start old new : Option (List ℕ))
      → Appends start old (lines from first pieces)
      → Appends old new (line_for was.form was.layouts.now place was.in_step x.kind x.octets)
      → Appends start new (lines from first (pieces ++ x ∷ []))
  wrote_next start old new before more =
      subst (Appends start new) (sym next_line)
      (Appends-trans start old new (lines from first pieces) _ before more)

  pub part_next : (start old new : Option (List ℕ))
      → Appends start old (lines from first pieces)
      → AppendsPart old new (line_for was.form was.layouts.now place was.in_step x.kind x.octets)
      → AppendsPart start new (lines from first (pieces ++ x ∷ []))
  part_next start old new before more =
      subst (AppendsPart start new) (sym next_line)
      (part_after start old new (lines from first pieces) _ before more)

  pub listed_next : (now : Lister) (found : PieceKind)
      → now.form ≡ was.form
      → now.layouts.now ≡ was.layouts.now
      → now.strict ≡ was.strict
      → now.cut ≡ was.cut
      → now.in_step ≡ keeps_step x.kind
      → found ≡ kind_as was.layouts.now x.kind x.octets
      → now.tally ≡ tally_with found was.tally
      → now.stopped ≡ stopped_with was.strict place found was.stopped
      → HasListed from first now (pieces ++ x ∷ [])
  listed_next now found form layouts strict cut step kind tally stopped =
      let l = first.layouts.now in
      let is : found ≡ kind_as l x.kind x.octets =
      kind ∙ ap (λ (m : Layouts). kind_as m x.kind x.octets) h.layouts_are in
      record {
        sizes = subst SizesFit (sym layouts) h.sizes;
        form_is = form ∙ h.form_is;
        layouts_are = layouts ∙ h.layouts_are;
        strict_is = strict ∙ h.strict_is;
        cut_is = cut ∙ h.cut_is;
        step_is = step ∙ sym (step-next true pieces x);
        counted = tally ∙ (λ i. tally_with (is i) (h.counted i))
            ∙ sym (tally-next l no_tally pieces x);
        stopped_is = stopped
            ∙ (λ i. stopped_with (h.strict_is i) (at i) (is i) (h.stopped_is i))
            ∙ sym (stopped-next l first.strict from None pieces x);
      }

-- whether a list goes on that ends there
pub whole_end : (at : Option ℕ) → is_whole (end_of at) ≡ is_none at
whole_end None = refl
whole_end (Some n) = refl

-- what was read leaves as much, where a fault comes then
pub read_leaves : (cut : Cut) (before after : Option (List ℕ)) (is_open : Bool)
    (P Q : List Piece → Type 0)
    → ReadsBy cut before after is_open P
    → ((pieces : List Piece) → P pieces → Q pieces)
    → LeavesBy cut before after Q
read_leaves cut before after is_open P Q h next = record {
  stream = h.stream;
  others = [];
  pieces = h.pieces;
  in_step = h.in_step;
  rest = h.rest;
  consumed = subst (Consumes before after) (sym (append-nil h.stream)) h.consumed;
  leads = h.leads;
  front = next h.pieces h.gives;
}

pub leaves_as : (cut : Cut) (before after : Option (List ℕ)) (P Q : List Piece → Type 0)
    → LeavesBy cut before after P
    → ((pieces : List Piece) → P pieces → Q pieces)
    → LeavesBy cut before after Q
leaves_as cut before after P Q h next = record {
  stream = h.stream;
  others = h.others;
  pieces = h.pieces;
  in_step = h.in_step;
  rest = h.rest;
  consumed = h.consumed;
  leads = h.leads;
  front = next h.pieces h.front;
}

pub taken_as : (cut : Cut) (before after : Option (List ℕ)) (P Q : List Piece → Type 0)
    → TakenAll cut before after P
    → ((pieces : List Piece) → P pieces → Q pieces)
    → TakenAll cut before after Q
taken_as cut before after P Q h next = record {
  stream = h.stream;
  pieces = h.pieces;
  in_step = h.in_step;
  rest = h.rest;
  consumed = h.consumed;
  leads = h.leads;
  waits = h.waits;
  gives = next h.pieces h.gives;
}

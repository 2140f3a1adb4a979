-- What one more piece of a stream leaves of its requests, and what is written of it.
use Rattle.std.proofs.Common.{◌≡◌, ◌∙◌, ap, sym, refl, subst, ℕ, List, [], ◌∷◌, ◌++◌, Option, append-nil, append_assoc}
use Rattle.std.specs.Io.KnownBytes.{Appends}
use Rattle.std.proofs.KnownBytes.{Appends-trans}
use Rattle.lpt_text.specs.Streams.{AppendsPart}
use Rattle.lpt_text.proofs.StreamLemmas.{part_after}
use Rattle.lpt_layout.specs.declared.layout.Layout.{Layout}
use Rattle.lpt_stream.specs.Pieces.{Piece}
use Rattle.lpt_outcomes.specs.declared.asked.Asked.{Asked}
use Rattle.lpt_outcomes.specs.Passing.{in_piece}
use Rattle.lpt_outcomes.specs.Requests.{request_in}
use Rattle.lpt_outcomes.specs.Opened.{left_behind, left_by, open_in, open_octets}

left-next : (l : Layout) (asked : List Asked) (ps : List Piece) (p : Piece)
    → left_behind l asked (ps ++ p ∷ [])
    ≡ left_by (left_behind l asked ps) (in_piece (request_in l) p.kind p.octets)
left-next l asked [] p = refl
left-next l asked (q ∷ ps) p =
    left-next l (left_by asked (in_piece (request_in l) q.kind q.octets)) ps p

open-next : (l : Layout) (asked : List Asked) (ps : List Piece) (p : Piece)
    → open_octets l asked (ps ++ p ∷ [])
    ≡ open_octets l asked ps
    ++ open_in (left_behind l asked ps) (in_piece (request_in l) p.kind p.octets) p.octets
open-next l asked [] p =
    append-nil (open_in asked (in_piece (request_in l) p.kind p.octets) p.octets)
open-next l asked (q ∷ ps) p =
    let here = open_in asked (in_piece (request_in l) q.kind q.octets) q.octets in
    let rest = left_by asked (in_piece (request_in l) q.kind q.octets) in
    ap (λ (more : List ℕ). here ++ more) (open-next l rest ps p)
    ∙ sym (append_assoc here (open_octets l rest ps)
    (open_in (left_behind l rest ps) (in_piece (request_in l) p.kind p.octets) p.octets))

-- where the requests are left that are left behind pieces, with one more
module _ (l : Layout) (asked left : List Asked) (ps : List Piece) (p : Piece)
    (h : left ≡ left_behind l asked ps) where
  next : open_octets l asked (ps ++ p ∷ [])
      ≡ open_octets l asked ps ++ open_in left (in_piece (request_in l) p.kind p.octets) p.octets
  next = open-next l asked ps p
      ∙ ap (λ (left : List Asked). open_octets l asked ps
      ++ open_in left (in_piece (request_in l) p.kind p.octets) p.octets) (sym h)

  pub left-more : left_by left (in_piece (request_in l) p.kind p.octets)
      ≡ left_behind l asked (ps ++ p ∷ [])
  left-more =
      ap (λ (left : List Asked). left_by left (in_piece (request_in l) p.kind p.octets)) h
      ∙ sym (left-next l asked ps p)

  pub wrote-more : (start old new : Option (List ℕ)) (text : List ℕ)
      → Appends start old (open_octets l asked ps)
      → text ≡ open_in left (in_piece (request_in l) p.kind p.octets) p.octets
      → Appends old new text
      → Appends start new (open_octets l asked (ps ++ p ∷ []))
  wrote-more start old new text before is more =
      subst (Appends start new) (sym next)
      (Appends-trans start old new (open_octets l asked ps) _ before
      (subst (Appends old new) is more))

  pub part-more : (start old new : Option (List ℕ)) (text : List ℕ)
      → Appends start old (open_octets l asked ps)
      → text ≡ open_in left (in_piece (request_in l) p.kind p.octets) p.octets
      → AppendsPart old new text
      → AppendsPart start new (open_octets l asked (ps ++ p ∷ []))
  part-more start old new text before is more =
      subst (AppendsPart start new) (sym next)
      (part_after start old new (open_octets l asked ps) _ before
      (subst (AppendsPart old new) is more))

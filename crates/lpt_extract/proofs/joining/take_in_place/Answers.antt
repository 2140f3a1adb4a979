-- What is read in place of a piece gives what the piece gives.
use Rattle.std.proofs.Common.{◌≡◌, ◌∙◌, ap, sym, subst, ℕ, List, [], ◌∷◌, ◌++◌, append-nil}
use Rattle.std.specs.Prelude.{IfErr, OnOk}
use Rattle.std.specs.Io.KnownBytes.{Appends}
use Rattle.lpt_text.specs.Streams.{AppendsPart}
use Rattle.lpt_extract.specs.declared.notice.Notice.{Notice}
use Rattle.lpt_extract.specs.Extracts.{areas_in, written_first}
use Rattle.lpt_extract.specs.JoinedInside.{IsInPlace}
use Rattle.lpt_extract.specs.Notices.{Hears}
use Rattle.lpt_extract.proofs.GiveLemmas.{held-as, hears-nothing, on-held, wrote-none}
use Rattle.lpt_extract.proofs.JoinedLemmas.{reads-itself, reads-others, told-itself, told-others}
use Rattle.lpt_extract.proofs.joining.take_in_place.Goals as goal

-- it itself
pub returns-in-Itself-clause-held : goal.returns-in-Itself-clause-held
returns-in-Itself-clause-held g c = λ r bs h areas ns held.
    let w = c.args.wanted.now in
    let k = c.args.kind in
    let b = c.args.octets.now in
    let is = subst (IsInPlace r bs k b) c.in-Itself.is h in
    on-held c.take_piece.result w.at areas _ _ ns _ _ c.take_piece.new.holding
    (ap (areas_in w) (reads-itself r bs k b is)) (told-itself r bs w c.args.place k b is)
    (c.take_piece.ensures.held areas ns held)

pub returns-in-Itself-clause-wrote : goal.returns-in-Itself-clause-wrote
returns-in-Itself-clause-wrote g c = λ r bs h.
    let w = c.args.wanted.now in
    let k = c.args.kind in
    let b = c.args.octets.now in
    let is = subst (IsInPlace r bs k b) c.in-Itself.is h in
    subst (λ (ms : List (List ℕ)). OnOk c.take_piece.result
    (Appends (g.K.Sink.contents c.args.out.now) (g.K.Sink.contents c.take_piece.new.out)
    (written_first w.at (areas_in w ms))))
    (reads-itself r bs k b is) c.take_piece.ensures.wrote

pub returns-in-Itself-clause-heard : goal.returns-in-Itself-clause-heard
returns-in-Itself-clause-heard g c = λ r bs h.
    let w = c.args.wanted.now in
    let k = c.args.kind in
    let b = c.args.octets.now in
    let is = subst (IsInPlace r bs k b) c.in-Itself.is h in
    subst (λ (ns : List Notice). OnOk c.take_piece.result
    (Hears (g.L.Listener.heard c.args.listener.now)
    (g.L.Listener.heard c.take_piece.new.listener) ns))
    (told-itself r bs w c.args.place k b is) c.take_piece.ensures.heard

pub returns-in-Itself-clause-part : goal.returns-in-Itself-clause-part
returns-in-Itself-clause-part g c = λ r bs h.
    let w = c.args.wanted.now in
    let k = c.args.kind in
    let b = c.args.octets.now in
    let is = subst (IsInPlace r bs k b) c.in-Itself.is h in
    subst (λ (ms : List (List ℕ)). IfErr c.take_piece.result (λ _.
    AppendsPart (g.K.Sink.contents c.args.out.now) (g.K.Sink.contents c.take_piece.new.out)
    (written_first w.at (areas_in w ms))))
    (reads-itself r bs k b is) c.take_piece.ensures.part

-- the message that became whole
pub returns-in-Message-clause-held : goal.returns-in-Message-clause-held
returns-in-Message-clause-held g c = λ r bs h areas ns held.
    let w = c.args.wanted.now in
    let k = c.args.kind in
    let b = c.args.octets.now in
    let is = subst (IsInPlace r bs k b) c.in-Message.is h in
    let there : r bs b ≡ c.as_slice-octets.result.now ∷ [] =
    is.1 ∙ ap (λ (m : List ℕ). m ∷ []) (sym c.as_slice-octets.ensures.same) in
    on-held c.take_packet.result w.at areas _ _ ns _ _ c.take_packet.new.holding
    (ap (areas_in w) (reads-others r bs k b _ is.0 there)) (told-others r bs w c.args.place k b _ is.0 there)
    (c.take_packet.ensures.held areas ns held)

pub returns-in-Message-clause-wrote : goal.returns-in-Message-clause-wrote
returns-in-Message-clause-wrote g c = λ r bs h.
    let w = c.args.wanted.now in
    let k = c.args.kind in
    let b = c.args.octets.now in
    let is = subst (IsInPlace r bs k b) c.in-Message.is h in
    let there : r bs b ≡ c.as_slice-octets.result.now ∷ [] =
    is.1 ∙ ap (λ (m : List ℕ). m ∷ []) (sym c.as_slice-octets.ensures.same) in
    subst (λ (ms : List (List ℕ)). OnOk c.take_packet.result
    (Appends (g.K.Sink.contents c.args.out.now) (g.K.Sink.contents c.take_packet.new.out)
    (written_first w.at (areas_in w ms))))
    (reads-others r bs k b _ is.0 there) c.take_packet.ensures.wrote

pub returns-in-Message-clause-heard : goal.returns-in-Message-clause-heard
returns-in-Message-clause-heard g c = λ r bs h.
    let w = c.args.wanted.now in
    let k = c.args.kind in
    let b = c.args.octets.now in
    let is = subst (IsInPlace r bs k b) c.in-Message.is h in
    let there : r bs b ≡ c.as_slice-octets.result.now ∷ [] =
    is.1 ∙ ap (λ (m : List ℕ). m ∷ []) (sym c.as_slice-octets.ensures.same) in
    subst (λ (ns : List Notice). OnOk c.take_packet.result
    (Hears (g.L.Listener.heard c.args.listener.now)
    (g.L.Listener.heard c.take_packet.new.listener) ns))
    (told-others r bs w c.args.place k b _ is.0 there) c.take_packet.ensures.heard

pub returns-in-Message-clause-part : goal.returns-in-Message-clause-part
returns-in-Message-clause-part g c = λ r bs h.
    let w = c.args.wanted.now in
    let k = c.args.kind in
    let b = c.args.octets.now in
    let is = subst (IsInPlace r bs k b) c.in-Message.is h in
    let there : r bs b ≡ c.as_slice-octets.result.now ∷ [] =
    is.1 ∙ ap (λ (m : List ℕ). m ∷ []) (sym c.as_slice-octets.ensures.same) in
    subst (λ (ms : List (List ℕ)). IfErr c.take_packet.result (λ _.
    AppendsPart (g.K.Sink.contents c.args.out.now) (g.K.Sink.contents c.take_packet.new.out)
    (written_first w.at (areas_in w ms))))
    (reads-others r bs k b _ is.0 there) c.take_packet.ensures.part

-- nothing
pub returns-in-Nothing-clause-held : goal.returns-in-Nothing-clause-held
returns-in-Nothing-clause-held g c = λ r bs h areas ns held.
    let w = c.args.wanted.now in
    let k = c.args.kind in
    let b = c.args.octets.now in
    let is = subst (IsInPlace r bs k b) c.in-Nothing.is h in
    held-as w.at areas _ ns _ c.args.holding.now
    (sym (append-nil areas) ∙ ap (λ ms. areas ++ areas_in w ms) (reads-others r bs k b [] is.0 is.1))
    (sym (append-nil ns)
    ∙ ap (λ ms. ns ++ ms) (told-others r bs w c.args.place k b [] is.0 is.1)) held

pub returns-in-Nothing-clause-wrote : goal.returns-in-Nothing-clause-wrote
returns-in-Nothing-clause-wrote g c = λ r bs h.
    let w = c.args.wanted.now in
    let k = c.args.kind in
    let b = c.args.octets.now in
    let is = subst (IsInPlace r bs k b) c.in-Nothing.is h in
    let out = g.K.Sink.contents c.args.out.now in
    subst (λ (ms : List (List ℕ)). Appends out out (written_first w.at (areas_in w ms)))
    (reads-others r bs k b [] is.0 is.1) (wrote-none w.at out)

pub returns-in-Nothing-clause-heard : goal.returns-in-Nothing-clause-heard
returns-in-Nothing-clause-heard g c = λ r bs h.
    let w = c.args.wanted.now in
    let k = c.args.kind in
    let b = c.args.octets.now in
    let is = subst (IsInPlace r bs k b) c.in-Nothing.is h in
    let heard = g.L.Listener.heard c.args.listener.now in
    subst (Hears heard heard) (told-others r bs w c.args.place k b [] is.0 is.1)
    (hears-nothing heard)

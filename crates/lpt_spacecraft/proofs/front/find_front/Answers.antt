-- What the piece in front is.
use Rattle.std.proofs.Common.{◌≡◌, ◌∙◌, ap, sym, true, false}
use Rattle.std.proofs.KnownBytes.{Keeps-trans}
use Rattle.std.proofs.lemmas.Result.{err_from_is_err_and}
use Rattle.lpt_stream.specs.Streams.{length_at}
use Rattle.lpt_stream.proofs.BufferLemmas.{finds_as}
use Rattle.lpt_stream.proofs.EndLemmas.{writer-after}
use Rattle.lpt_spacecraft.proofs.FrontLemmas.{front-cut, front-damaged, front-end, front-packet, front-stray, front-strays, taken-as}
use Rattle.lpt_spacecraft.proofs.SearchLemmas.{search-behind, search-piece}
use Rattle.lpt_spacecraft.proofs.front.find_front.Goals as goal

-- a search for it failed
pub returns-in_err-found-clause-finds : goal.returns-in_err-found-clause-finds
returns-in_err-found-clause-finds g c =
    let p = err_from_is_err_and c.from_residual.result c.from_residual.ensures.1 in
    rw (p.1, p.2)
    (search-piece c.in_err-found.field-0.0 _ _ _ _ _ _ c.in_err-found.ensures.finds)

-- none is left
pub returns-in_default-clause-finds : goal.returns-in_default-clause-finds
returns-in_default-clause-finds g c =
    front-end c.args.passing c.args.place _ _ _ _ _ _ c.requires.cutting
    (finds_as _ _ _ _ _ _ _ _ c.in_default.is c.in_ok-found.ensures.finds)

-- a packet
pub returns-then-is_taken-clause-finds : goal.returns-then-is_taken-clause-finds
returns-then-is_taken-clause-finds g c =
    front-packet c.args.passing c.args.place c.in-Some.found _ _ _ _ _ _ c.requires.cutting
    (finds_as _ _ _ _ _ _ _ _ c.in-Some.is c.in_ok-found.ensures.finds)
    (taken-as c.args.passing c.in-Some.found.kind c.in-Some.found.len _ _ _ true
    c.is_taken.ensures c.octets_held-octets.ensures c.if-is_taken.true)

-- one that is cut off
pub returns-then-is_cut_off-clause-finds : goal.returns-then-is_cut_off-clause-finds
returns-then-is_cut_off-clause-finds g c =
    front-cut c.args.passing c.args.place _ c.in-Some.found _ _ _ _ _ _ c.requires.cutting
    (finds_as _ _ _ _ _ _ _ _ c.in-Some.is c.in_ok-found.ensures.finds)
    (c.packet_length-said.ensures.value ∙ ap length_at c.octets_held-octets.ensures)
    (sym c.is_cut_off.ensures ∙ c.if-is_cut_off.true)

-- what is no packet
pub returns-then-not-is_on-clause-finds : goal.returns-then-not-is_on-clause-finds
returns-then-not-is_on-clause-finds g c =
    front-stray c.args.passing c.args.place _ c.in-Some.found _ _ _ _ _ _ c.requires.cutting
    (finds_as _ _ _ _ _ _ _ _ c.in-Some.is c.in_ok-found.ensures.finds)
    (c.packet_length-said.ensures.value ∙ ap length_at c.octets_held-octets.ensures)
    (taken-as c.args.passing c.in-Some.found.kind c.in-Some.found.len _ _ _ false
    c.is_taken.ensures c.octets_held-octets.ensures c.if-is_taken.false)
    c.if-not-is_on.true

-- a damaged packet, which was passed over
pub skip-requires : goal.skip-requires
skip-requires g c =
    let found = finds_as _ _ _ _ _ _ _ _ c.in-Some.is c.in_ok-found.ensures.finds in
    found.2.within

pub returns-then-not-is_stray-clause-finds : goal.returns-then-not-is_stray-clause-finds
returns-then-not-is_stray-clause-finds g c =
    front-damaged c.args.passing c.args.place c.in-Some.found _ _ _ _ _ _ _ c.requires.cutting
    (finds_as _ _ _ _ _ _ _ _ c.in-Some.is c.in_ok-found.ensures.finds)
    (taken-as c.args.passing c.in-Some.found.kind c.in-Some.found.len _ _ _ false
    c.is_taken.ensures c.octets_held-octets.ensures c.if-is_taken.false)
    c.if-not-is_on.false
    (sym c.is_stray.ensures ∙ c.if-not-is_stray.true)
    c.skip.ensures.held c.skip.ensures.cut c.skip.ensures.step c.skip.ensures.end

-- octets astray
pub pass_over-requires-clause-front : goal.pass_over-requires-clause-front
pass_over-requires-clause-front g c =
    let found = finds_as _ _ _ _ _ _ _ _ c.in-Some.is c.in_ok-found.ensures.finds in
    found.2

pub pass_over-requires-clause-stray : goal.pass_over-requires-clause-stray
pass_over-requires-clause-stray g c = sym c.is_stray.ensures ∙ c.if-not-is_stray.false

pub pass_over-requires-clause-cut : goal.pass_over-requires-clause-cut
pass_over-requires-clause-cut g c =
    let found = finds_as _ _ _ _ _ _ _ _ c.in-Some.is c.in_ok-found.ensures.finds in
    found.1.added.cut ∙ c.requires.cutting.cut_is

-- which were passed over
pub returns-clause-finds : goal.returns-clause-finds
returns-clause-finds g c =
    front-strays c.args.passing c.args.place c.in_ok-len.len c.in-Some.found _ _ _ _ _ _ _ _ _
    c.requires.cutting
    (finds_as _ _ _ _ _ _ _ _ c.in-Some.is c.in_ok-found.ensures.finds)
    c.if-not-is_on.false c.in_ok-len.ensures.passes

-- or a fault ended that
pub returns-in_err-len-clause-finds : goal.returns-in_err-len-clause-finds
returns-in_err-len-clause-finds g c =
    let found = finds_as _ _ _ _ _ _ _ _ c.in-Some.is c.in_ok-found.ensures.finds in
    let p = err_from_is_err_and c.from_residual-in_err-len.result
    c.from_residual-in_err-len.ensures.1 in
    rw (p.1, p.2)
    (search-behind c.in_err-len.field-0.0 _ _ _ _ _ _ _ found.0 _ _ _ found.1.added.consumed
    found.1.added.behind found.1.stays found.3 c.in_err-len.ensures.passes)

pub returns-clause-same : goal.returns-clause-same
returns-clause-same g c =
    Keeps-trans (g.K.Sink.contents c.args.out.now)
    (g.K.Sink.contents c.find_piece_passing.new.out) (g.K.Sink.contents c.pass_over.new.out)
    c.in_ok-found.ensures.same c.in_ok-len.ensures.same

pub returns-clause-writer : goal.returns-clause-writer
returns-clause-writer g c = c.in_ok-len.ensures.writer ∙ c.in_ok-found.ensures.writer

pub returns-in_err-len-clause-same : goal.returns-in_err-len-clause-same
returns-in_err-len-clause-same g c =
    Keeps-trans (g.K.Sink.contents c.args.out.now)
    (g.K.Sink.contents c.find_piece_passing.new.out) (g.K.Sink.contents c.pass_over.new.out)
    c.in_ok-found.ensures.same c.in_err-len.ensures.same

pub returns-in_err-len-clause-writer : goal.returns-in_err-len-clause-writer
returns-in_err-len-clause-writer g c =
    let p = err_from_is_err_and c.from_residual-in_err-len.result
    c.from_residual-in_err-len.ensures.1 in
    rw (p.1, p.2)
    (writer-after c.in_err-len.field-0.0 _ _ _ c.in_err-len.ensures.writer
    c.in_ok-found.ensures.writer)

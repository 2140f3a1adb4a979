-- What is known of the octets rules a packet out.
use Rattle.std.proofs.Common.{◌∙◌, ◌-◌, ap, sym, List, ℕ, drop, take, length}
use Rattle.lpt_packet.specs.Checksums.{checksum}
use Rattle.lpt_stream.proofs.KnownLemmas.{none_shown}
use Rattle.lpt_stream.proofs.StrayLemmas.{rest-is}
use Rattle.lpt_stream.proofs.strays.shows_none.Goals as goal

pub returns-in-Some-clause-none : goal.returns-in-Some-clause-none
returns-in-Some-clause-none c = λ shown.
    let b = c.args.octets.now in
    let at = c.args.at in
    none_shown (drop at b) (take (length b - at) (drop at b)) c.min.result c.in-Some.len
    c.may_fit.result (rest-is at b) c.min.ensures
    c.in-Some.ensures.within c.in-Some.ensures.none
    (λ other none. c.may_fit.ensures.never other
    (ap (λ (o : List ℕ). checksum (take c.in-Some.len o)) (sym (rest-is at b)) ∙ none))
    shown

-- The octets of a whole are its message.
use Rattle.std.proofs.Common.{◌∙◌, ap, sym, subst, ℕ, List}
use Rattle.lpt_reception.specs.PartsOf.{IsMessageOf}
use Rattle.lpt_reception.specs.Received.{Received, is_whole, spelled}
use Rattle.lpt_reception.specs.Stored.{parts_stored}
use Rattle.lpt_reception.proofs.WholeStoreLemmas.{spelled_whole, message_whole}
use Rattle.lpt_reception.proofs.filling.Filling.message_joined.Goals as goal

pub returns-clause-message : goal.returns-clause-message
returns-clause-message c =
    let k = c.self.inside in
    let s = k.store in
    let whole = ap (λ (r : Received). is_whole r.parts) c.self.view_is ∙ c.requires in
    c.from_vec.ensures ∙ c.in_ok-copy.ensures
    ∙ spelled_whole k.p s.ended s.marks.words.items s.octets s.so_many c.self.invariant whole
    ∙ ap (λ (r : Received). spelled r.parts) c.self.view_is

pub returns-clause-split : goal.returns-clause-split
returns-clause-split c =
    let k = c.self.inside in
    let s = k.store in
    let whole = ap (λ (r : Received). is_whole r.parts) c.self.view_is ∙ c.requires in
    subst (λ (r : Received). IsMessageOf r.parts r.p c.from_vec.result) c.self.view_is
    (subst (λ (m : List ℕ). IsMessageOf (parts_stored k.p s) k.p m)
    (sym (c.from_vec.ensures ∙ c.in_ok-copy.ensures))
    (message_whole k.p s.ended s.marks.words.items s.octets s.so_many c.self.invariant whole))

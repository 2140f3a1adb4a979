-- The reception was given up: the parts go under the next name, and the request's pass has heard.
use Rattle.std.proofs.Common.{◌∙◌, List, ap, sym, ℕ}
use Rattle.lpt_ground.specs.declared.asked.Terms.{Terms}
use Rattle.lpt_ground.specs.Passes.{PassState, state_of}
use Rattle.lpt_ground.specs.Parts.{id_of}
use Rattle.lpt_ground.specs.Uplinks.{is_abort, under_next_name, way_of}
use Rattle.lpt_ground.proofs.UplinkLemmas.{heard-abort}
use Rattle.lpt_ground.proofs.uplink.Uplink.hear.Goals as goal

pub returns-then-is_abort-clause-way : goal.returns-then-is_abort-clause-way
returns-then-is_abort-clause-way c =
    let l = c.args.self.now.large in
    let w = way_of c.args.self.now (state_of c.args.pass.now) in
    let terms = c.args.pass.now.terms in
    c.rename.ensures.way (state_of c.hear.new.self)
    ∙ ap (λ (s : PassState). under_next_name l (way_of c.args.self.now s)) c.hear.ensures.state
    ∙ sym (heard-abort l terms w c.args.octets
    (ap (λ (t : Terms). is_abort t (id_of l w.used) c.args.octets) (sym c.terms.ensures)
    ∙ ap (λ (o : List ℕ). is_abort c.terms.result (id_of l w.used) o) (sym c.as_slice.ensures.same)
    ∙ sym c.is_abort-is_abort.ensures
    ∙ c.if-is_abort.true))

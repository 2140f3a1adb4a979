-- The name is used up: the parts go under the next one.
use Rattle.std.proofs.Common.{◌∙◌, ◌+◌, ap, sym}
use Rattle.std.proofs.lemmas.Bool.{le-ltb}
use Rattle.lpt_ground.specs.Passes.{PassState, state_of}
use Rattle.lpt_ground.specs.Parts.{patience}
use Rattle.lpt_ground.specs.Uplinks.{under_next_name, way_of}
use Rattle.lpt_ground.proofs.UplinkLemmas.{waited-out}
use Rattle.lpt_ground.proofs.uplink.Uplink.quiet.Goals as goal

pub returns-else-self-clause-way : goal.returns-else-self-clause-way
returns-else-self-clause-way c =
    let l = c.args.self.now.large in
    let w = way_of c.args.self.now (state_of c.args.pass.now) in
    c.rename.ensures.way (state_of c.quiet.new.self)
    ∙ ap (λ (s : PassState). under_next_name l (way_of c.args.self.now s)) c.quiet.ensures.state
    ∙ sym (waited-out l c.args.pass.now.terms w
    (le-ltb (c.args.self.now.rounds + 1) (patience c.args.self.now.used) c.if-self.false))

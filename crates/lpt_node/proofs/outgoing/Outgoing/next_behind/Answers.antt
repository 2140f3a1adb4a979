-- The first name behind another is the least of those.
use Rattle.std.proofs.Common.{sym, subst, Option, Some, None, is_some}
use Rattle.std.specs.FinMap as map
use Rattle.lpt_packet.specs.Names.{Name}
use Rattle.lpt_table.specs.Walking.{IsNext}
use Rattle.lpt_node.specs.NodeInside.{OpenMessages}
use Rattle.lpt_node.proofs.BehindLemmas.{next_next, none_next}
use Rattle.lpt_node.proofs.outgoing.Outgoing.next_behind.Goals as goal

-- this is the next name with a message
abbrev IsBehind : OpenMessages → Name → Option Name → Type 0
IsBehind o after r = IsNext (λ (name : Name). is_some (map.get o.messages name)) (Some after) r

pub returns-in_err-name : goal.returns-in_err-name
returns-in_err-name c =
    subst (λ (r : Option Name). IsBehind c.args.self.now c.args.after r)
    (sym c.from_residual.ensures)
    (subst (λ (o : OpenMessages). IsBehind o c.args.after None) c.self.view_is
    (none_next c.self.inside.messages c.args.after c.range.result (c.range.ensures.in_range tt)
    c.in_err-name.ensures.steps.0))

pub returns : goal.returns
returns c =
    subst (λ (o : OpenMessages). IsBehind o c.args.after (Some c.in_ok-name.name.now))
    c.self.view_is
    (next_next c.self.inside.messages c.args.after c.range.result (c.range.ensures.in_range tt)
    (c.in_ok-name.name.now, c.in_ok-name.field-0-1.now) _ c.in_ok-name.ensures.steps)

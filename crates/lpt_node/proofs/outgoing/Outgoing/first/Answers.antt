-- The first name of the map is the least of all.
use Rattle.std.proofs.Common.{sym, subst, Option, Some, None, is_some}
use Rattle.std.specs.FinMap as map
use Rattle.std.proofs.lemmas.Bool.{true≢false}
use Rattle.lpt_packet.specs.Names.{Name}
use Rattle.lpt_table.specs.Walking.{IsNext}
use Rattle.lpt_node.specs.NodeInside.{OpenMessages}
use Rattle.lpt_node.proofs.BehindLemmas.{first_next, none_first}
use Rattle.lpt_node.proofs.outgoing.Outgoing.first.Goals as goal

-- this is the first name with a message
abbrev IsFirst : OpenMessages → Option Name → Type 0
IsFirst o r = IsNext (λ (name : Name). is_some (map.get o.messages name)) None r

pub returns-in_err-name : goal.returns-in_err-name
returns-in_err-name c =
    subst (λ (r : Option Name). IsFirst c.args.self.now r) (sym c.from_residual.ensures)
    (subst (λ (o : OpenMessages). IsFirst o None) c.self.view_is
    (none_first c.self.inside.messages
    (λ some. true≢false (sym (c.in_err-name.ensures.variant.1 some)))))

pub returns : goal.returns
returns c =
    subst (λ (o : OpenMessages). IsFirst o (Some c.in_ok-name.name.now)) c.self.view_is
    (first_next c.self.inside.messages c.in_ok-name.name.now c.in_ok-name.field-0-1.now
    c.in_ok-name.ensures.value c.in_ok-name.ensures.least)

-- The reception that is due is given up, and where none is the call is refused.
use Rattle.std.proofs.Common.{◌≡◌, ◌∙◌, ap, sym, subst, refl, Option, None, Result, Ok, Err}
use Rattle.std.specs.Result.{IfOk, IfErr, OnOk}
use Rattle.lpt_packet.specs.Names.{Name}
use Rattle.lpt_table.specs.Deadlines.{due_of}
use Rattle.lpt_node.specs.declared.expired.Expired.{Expired}
use Rattle.lpt_node.specs.declared.fault.NodeFault.{NodeFault}
use Rattle.lpt_node.specs.declared.fault.NodeFault.TheVariants.{NothingDue}
use Rattle.lpt_node.specs.NodeInside.{IsConfigured}
use Rattle.lpt_node.specs.Nodes.{NodeView, Receiving}
use Rattle.lpt_node.specs.Receivers.{ReceiverState, table_in}
use Rattle.lpt_node.specs.Receiving.{receiver_of}
use Rattle.lpt_node.specs.Sending.{RefusedBy}
use Rattle.lpt_node.specs.Times.{due, expired_of, refusal_expire_of}
use Rattle.lpt_node.proofs.node.Node.expire.Goals as goal

-- what is due at an end is what is due of its receiver
due_is : (seen n : NodeView) (r : ReceiverState) (o : Option Name)
    → IsConfigured seen.config r
    → seen.at.receiving
    ≡ record {
      ledger = r.ledger;
      entries = r.entries;
      limit = seen.config.receptions;
      timeout = seen.config.timeout;
    }
    → seen ≡ n
    → o ≡ due_of (table_in r) seen.at.clock
    → due n.config n.at ≡ o
due_is seen n r o same of is at =
    ap (λ (n : NodeView). due n.config n.at) (sym is)
    ∙ ap (λ (x : Receiving). due_of (table_in (receiver_of seen.config x)) seen.at.clock) of
    ∙ (λ i. due_of (record {
      limit = sym same.limit i;
      timeout = sym same.timeout i;
      p = sym same.p i;
      mode = sym same.mode i;
      entries = r.entries;
      out = None;
    }) seen.at.clock)
    ∙ sym at

-- what holds of a fault holds where the call ended well too
enabled_any : (r : Result Expired NodeFault) (o : Option NodeFault) → o ≡ None → OnOk r (o ≡ None)
enabled_any (Ok x) o is = is
enabled_any (Err e) o is = tt

pub returns-in_default-clause-refused : goal.returns-in_default-clause-refused
returns-in_default-clause-refused c =
    subst (λ (o : Option Name). RefusedBy (refusal_expire_of o) NothingDue)
    (sym (due_is _ c.args.self.now c.self.inside.receiver c.due.result c.self.invariant.receiver
    refl c.self.view_is c.due.ensures.due ∙ c.in_default.is)) refl

pub returns-clause-enabled : goal.returns-clause-enabled
returns-clause-enabled c =
    enabled_any c.end_reception.result _
    (ap (λ (o : Option Name). refusal_expire_of o)
    (due_is _ c.args.self.now c.self.inside.receiver c.due.result c.self.invariant.receiver refl
    c.self.view_is c.due.ensures.due ∙ c.in-Some.is))

pub returns-clause-ok : goal.returns-clause-ok
returns-clause-ok c =
    subst (λ (o : Option Name). IfOk c.end_reception.result (λ r. (c.end_reception.new.self.at, r)
    ≡ expired_of c.args.self.now.side c.args.self.now.config c.args.self.now.at o))
    (sym (due_is _ c.args.self.now c.self.inside.receiver c.due.result c.self.invariant.receiver
    refl c.self.view_is c.due.ensures.due ∙ c.in-Some.is))
    c.end_reception.ensures.ok

pub returns-clause-refused : goal.returns-clause-refused
returns-clause-refused c =
    subst (λ (o : Option Name).
    IfErr c.end_reception.result (λ e. RefusedBy (refusal_expire_of o) e))
    (sym (due_is _ c.args.self.now c.self.inside.receiver c.due.result c.self.invariant.receiver
    refl c.self.view_is c.due.ensures.due ∙ c.in-Some.is))
    c.end_reception.ensures.refused

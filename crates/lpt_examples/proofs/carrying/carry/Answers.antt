use Rattle.std.proofs.Common.{◌∙◌, ap, sym, arith}
use Rattle.lpt_node.specs.Nodes.{NodeView}
use Rattle.lpt_examples.proofs.CarryLemmas.{only_it, by_node, same_craft, same_sender, fewer, opens, sends, takes}
use Rattle.lpt_examples.proofs.carrying.carry.Goals.{else-loop-number-test, then-loop-number-test+in-Err-NoSuchPart}
use Rattle.lpt_examples.proofs.carrying.carry.Goals as goal

-- the message was opened
pub loop-init : goal.loop-init
loop-init g c =
    opens c.args.name c.args.message c.args.ground.now c.begin.new.ground c.args.craft.now
    (g.N.Network.may_come c.args.network.now) c.requires.stands c.begin.ensures.range
    c.in_ok-begin.ensures.enabled c.in_ok-begin.ensures.ok c.begin.ensures.side
    c.begin.ensures.config

pub loop-number-init : goal.loop-number-init
loop-number-init g c = c.loop.invariant

pub loop-preserved : goal.loop-preserved
loop-preserved g c =
    elim c.loop-number-test.branch [
      | else-loop-number-test w ↦
          same_sender c.args.name c.args.message c.loop-number.ground c.loop-number-test.ground
          c.loop-number.craft (g.N.Network.may_come c.loop-number.network)
          c.loop-number.invariant (ap (λ (n : NodeView). n.at) w.ground-is)
          (ap (λ (n : NodeView). n.side) w.ground-is)
          (ap (λ (n : NodeView). n.config) w.ground-is)
      | then-loop-number-test+in-Err-NoSuchPart w ↦
          same_sender c.args.name c.args.message c.loop-number.ground c.loop-number-test.ground
          c.loop-number.craft (g.N.Network.may_come c.loop-number.network)
          c.loop-number.invariant
          (ap (λ (n : NodeView). n.at) w.ground-is ∙ w.in-Err-NoSuchPart.ensures.err)
          (ap (λ (n : NodeView). n.side) w.ground-is ∙ w.send_part.ensures.side)
          (ap (λ (n : NodeView). n.config) w.ground-is ∙ w.send_part.ensures.config)
    ]

pub returns-clause-stands : goal.returns-clause-stands
returns-clause-stands g c = c.loop.invariant.stands

-- the packet is on the way, whether or not the network took it
pub returns-in_err-put-in-Ok-clause-stands : goal.returns-in_err-put-in-Ok-clause-stands
returns-in_err-put-in-Ok-clause-stands g c =
    (sends c.args.name c.args.message c.loop-number.number c.loop-number.ground
    c.send_part.new.self c.loop-number.craft c.in-Ok.packet
    (g.N.Network.may_come c.loop-number.network) (g.N.Network.may_come c.put.new.self)
    c.loop-number.invariant c.begin.ensures.range.0 (omega (arith, c.loop-number-test.true))
    c.in-Ok.ensures.enabled c.in-Ok.ensures.ok c.send_part.ensures.side
    c.send_part.ensures.config c.put.ensures).stands

pub loop-number-preserved-in_default : goal.loop-number-preserved-in_default
loop-number-preserved-in_default g c =
    fewer c.args.name c.args.message c.send_part.new.self c.loop-number.craft
    (g.N.Network.may_come c.put.new.self) (g.N.Network.may_come c.next.new.self)
    (sends c.args.name c.args.message c.loop-number.number c.loop-number.ground
    c.send_part.new.self c.loop-number.craft c.in-Ok.packet
    (g.N.Network.may_come c.loop-number.network) (g.N.Network.may_come c.put.new.self)
    c.loop-number.invariant c.begin.ensures.range.0 (omega (arith, c.loop-number-test.true))
    c.in-Ok.ensures.enabled c.in-Ok.ensures.ok c.send_part.ensures.side
    c.send_part.ensures.config c.put.ensures)
    c.next.ensures.rest

pub returns-in_err-accepted-clause-stands : goal.returns-in_err-accepted-clause-stands
returns-in_err-accepted-clause-stands g c =
    same_craft c.send_part.new.self c.loop-number.craft c.take.new.craft
    (g.N.Network.may_come c.put.new.self) (g.N.Network.may_come c.next.new.self)
    (sends c.args.name c.args.message c.loop-number.number c.loop-number.ground
    c.send_part.new.self c.loop-number.craft c.in-Ok.packet
    (g.N.Network.may_come c.loop-number.network) (g.N.Network.may_come c.put.new.self)
    c.loop-number.invariant c.begin.ensures.range.0 (omega (arith, c.loop-number-test.true))
    c.in-Ok.ensures.enabled c.in-Ok.ensures.ok c.send_part.ensures.side
    c.send_part.ensures.config c.put.ensures).stands
    c.in_err-accepted.ensures.err c.take.ensures.side c.take.ensures.config c.next.ensures.rest

pub returns-then-is_whole-clause-stands : goal.returns-then-is_whole-clause-stands
returns-then-is_whole-clause-stands g c =
    (takes c.args.name c.args.message c.send_part.new.self c.loop-number.craft
    c.take.new.craft c.in-Some.packet c.in_ok-accepted.accepted
    (g.N.Network.may_come c.put.new.self) (g.N.Network.may_come c.next.new.self)
    (sends c.args.name c.args.message c.loop-number.number c.loop-number.ground
    c.send_part.new.self c.loop-number.craft c.in-Ok.packet
    (g.N.Network.may_come c.loop-number.network) (g.N.Network.may_come c.put.new.self)
    c.loop-number.invariant c.begin.ensures.range.0 (omega (arith, c.loop-number-test.true))
    c.in-Ok.ensures.enabled c.in-Ok.ensures.ok c.send_part.ensures.side
    c.send_part.ensures.config c.put.ensures)
    c.in-Some.ensures.came c.in_ok-accepted.ensures.ok c.take.ensures.side c.take.ensures.config
    c.next.ensures.rest).stands

pub returns-then-is_whole-clause-whole : goal.returns-then-is_whole-clause-whole
returns-then-is_whole-clause-whole g c =
    only_it c.in_ok-accepted.accepted.released c.args.message
    ((takes c.args.name c.args.message c.send_part.new.self c.loop-number.craft
    c.take.new.craft c.in-Some.packet c.in_ok-accepted.accepted
    (g.N.Network.may_come c.put.new.self) (g.N.Network.may_come c.next.new.self)
    (sends c.args.name c.args.message c.loop-number.number c.loop-number.ground
    c.send_part.new.self c.loop-number.craft c.in-Ok.packet
    (g.N.Network.may_come c.loop-number.network) (g.N.Network.may_come c.put.new.self)
    c.loop-number.invariant c.begin.ensures.range.0 (omega (arith, c.loop-number-test.true))
    c.in-Ok.ensures.enabled c.in-Ok.ensures.ok c.send_part.ensures.side
    c.send_part.ensures.config c.put.ensures)
    c.in-Some.ensures.came c.in_ok-accepted.ensures.ok c.take.ensures.side c.take.ensures.config
    c.next.ensures.rest).whole (sym c.is_whole.ensures ∙ c.if-is_whole.true))

pub returns-then-is_whole-clause-released : goal.returns-then-is_whole-clause-released
returns-then-is_whole-clause-released g c =
    by_node c.args.name c.loop-number.craft c.take.new.craft c.in-Some.packet
    c.in_ok-accepted.accepted c.in_ok-accepted.ensures.ok
    (sym c.is_whole.ensures ∙ c.if-is_whole.true)

pub returns-then-is_broken-clause-stands : goal.returns-then-is_broken-clause-stands
returns-then-is_broken-clause-stands g c =
    (takes c.args.name c.args.message c.send_part.new.self c.loop-number.craft
    c.take.new.craft c.in-Some.packet c.in_ok-accepted.accepted
    (g.N.Network.may_come c.put.new.self) (g.N.Network.may_come c.next.new.self)
    (sends c.args.name c.args.message c.loop-number.number c.loop-number.ground
    c.send_part.new.self c.loop-number.craft c.in-Ok.packet
    (g.N.Network.may_come c.loop-number.network) (g.N.Network.may_come c.put.new.self)
    c.loop-number.invariant c.begin.ensures.range.0 (omega (arith, c.loop-number-test.true))
    c.in-Ok.ensures.enabled c.in-Ok.ensures.ok c.send_part.ensures.side
    c.send_part.ensures.config c.put.ensures)
    c.in-Some.ensures.came c.in_ok-accepted.ensures.ok c.take.ensures.side c.take.ensures.config
    c.next.ensures.rest).stands

pub loop-number-preserved : goal.loop-number-preserved
loop-number-preserved g c =
    (takes c.args.name c.args.message c.send_part.new.self c.loop-number.craft
    c.take.new.craft c.in-Some.packet c.in_ok-accepted.accepted
    (g.N.Network.may_come c.put.new.self) (g.N.Network.may_come c.next.new.self)
    (sends c.args.name c.args.message c.loop-number.number c.loop-number.ground
    c.send_part.new.self c.loop-number.craft c.in-Ok.packet
    (g.N.Network.may_come c.loop-number.network) (g.N.Network.may_come c.put.new.self)
    c.loop-number.invariant c.begin.ensures.range.0 (omega (arith, c.loop-number-test.true))
    c.in-Ok.ensures.enabled c.in-Ok.ensures.ok c.send_part.ensures.side
    c.send_part.ensures.config c.put.ensures)
    c.in-Some.ensures.came c.in_ok-accepted.ensures.ok c.take.ensures.side c.take.ensures.config
    c.next.ensures.rest).going (sym c.is_whole.ensures ∙ c.if-is_whole.false)
    (sym c.is_broken.ensures ∙ c.if-is_broken.false)

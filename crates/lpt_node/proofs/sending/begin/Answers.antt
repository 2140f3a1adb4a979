-- Where the name isn't opened, the message is taken out again, and the messages are as before.
use Rattle.std.proofs.Common.{◌≡◌, ◌∙◌, ap, sym, cond, Some, Option, List, ℕ, is_some}
use Rattle.lpt_packet.specs.Names.{Name}
use Rattle.std.specs.FinMap as map
use Rattle.lpt_node.specs.NodeInside.{OpenMessages}
use Rattle.lpt_node.specs.Nodes.{Messages}
use Rattle.lpt_packet.proofs.NameLemmas.{same_name-refl}
use Rattle.lpt_node.proofs.MapLemmas.{get_insert, remove-insert}
use Rattle.lpt_node.proofs.sending.begin.Goals as goal

-- what was put under a name is there
there : (m : Messages) (name : Name) (x : List ℕ) → map.get (map.insert m name x) name ≡ Some x
there m name x =
    get_insert m name x name ∙ ap (λ b. cond b (Some x) (map.get m name)) (same_name-refl name)

pub returns-in-Err-clause-unkept : goal.returns-in-Err-clause-unkept
returns-in-Err-clause-unkept c =
    let o = c.args.outgoing.now in
    c.take.ensures.rest
    ∙ ap (λ (n : OpenMessages). record n { messages = map.remove n.messages c.args.name }) c.in_ok-insert.ensures.ok
    ∙ ap (λ (m : Messages). record o { messages = m })
    (remove-insert o.messages c.args.name c.args.message c.requires.absent)

-- it is there
pub take-requires : goal.take-requires
take-requires c =
    ap (λ (n : OpenMessages). is_some (map.get n.messages c.args.name)) c.in_ok-insert.ensures.ok
    ∙ ap (λ (o : Option (List ℕ)). is_some o) (there c.args.outgoing.now.messages c.args.name c.args.message)

-- and the same
pub returns-in-Err-clause-back : goal.returns-in-Err-clause-back
returns-in-Err-clause-back c =
    let both : Some c.take.result ≡ Some c.args.message =
    sym c.take.ensures.message
    ∙ ap (λ (n : OpenMessages). map.get n.messages c.args.name) c.in_ok-insert.ensures.ok
    ∙ there c.args.outgoing.now.messages c.args.name c.args.message in
    cc

-- An end that is restored from what was kept of it has the node that a restart leaves, within the
-- limits of the configuration in which it is restored.
use Rattle.std.proofs.Common.{◌≡◌, ◌∙◌, ap, sym, refl, ℕ, List, Result, Ok, Err}
use Rattle.lpt_acts.specs.Acts.{Limits, limits_of}
use Rattle.lpt_apart.specs.TwoEnds.{Own, own_config}
use Rattle.lpt_c_end.specs.Keeping.{IsResumedWith}
use Rattle.lpt_c_end.specs.declared.end.End.{End}
use Rattle.lpt_c_end.specs.declared.kept.Kept.{Kept}
use Rattle.lpt_c_pair.specs.Pairs.{IsEndOf, IsKept}
use Rattle.lpt_events.specs.declared.config.Config.{Config}
use Rattle.lpt_events.specs.declared.side.Side.{Side}
use Rattle.lpt_node.specs.Nodes.{NodeData, NodeView}
use Rattle.lpt_node.specs.Restarts.{node_within, node_restarted}
use Rattle.lpt_state.specs.declared.fault.StateFault.{StateFault}
use Rattle.lpt_state.specs.Lastings.{Lasting}
use Rattle.lpt_state.specs.Spellings.{state_spelled}
use Rattle.lpt_state.specs.Verdicts.{reading, verdict_told, verdict}

-- the node of an end that was read, or else this
node_of : NodeData → Result NodeView StateFault → NodeData
node_of d (Ok v) = v.at
node_of d (Err fault) = d

-- the limits of a configuration are those of an end that is read in it, and nothing else is
same_node : (d : NodeData) (s : Side) (c e : Config) (r : Result Lasting StateFault)
    → node_of (node_within (limits_of c) d) (verdict_told s c r)
    ≡ node_within (limits_of c) (node_of d (verdict_told s e r))
unfolding node_of
same_node d s c e (Ok x) = refl
same_node d s c e (Err fault) = refl

-- no first clock and no limits change what octets say
clockless : (s : Side) (a b : Own) (c : Config) (octets : List ℕ)
    → verdict s (own_config a c) octets ≡ verdict s (own_config b c) octets
unfolding verdict
clockless s a b c octets = refl

pub resumed_node : (c : Config) (s : Side) (n : NodeData) (o : Kept) (e new : End)
    (config : Config) (state : List ℕ) (own : Kept)
    → IsEndOf c s n o e
    → IsKept c e config state own
    → IsResumedWith e.side config state own new
    → new.node.at ≡ node_within (limits_of config) (node_restarted n)
unfolding node_of
resumed_node c s n o e new config state own is kept done =
    let l : Limits = kept.own.limits in
    let d : NodeData = node_within l n in
    let octets : List ℕ = state_spelled e.node in
    let others : Config = own_config kept.own c in
    ap (node_of d) (sym done.node)
    ∙ (λ i. node_of d (reading e.side (kept.configured i) (kept.state_is i)))
    ∙ ap (λ (r : Result Lasting StateFault). node_of d (verdict_told e.side others r))
    (clockless e.side kept.own is.own c octets)
    ∙ same_node n e.side others (own_config is.own c)
    (verdict e.side (own_config is.own c) octets)
    ∙ ap (λ (x : Config). node_within l (node_of n (reading e.side x octets))) (sym is.config)
    ∙ ap (λ (r : Result NodeView StateFault). node_within l (node_of n r))
    (kept.reads kept.number_left)
    ∙ ap (λ (x : NodeData). node_within l (node_restarted x)) is.node
    ∙ ap (λ (x : Config). node_within (limits_of x) (node_restarted n)) (sym kept.configured)

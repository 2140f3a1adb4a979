-- Ends behind handles can be made of what they have.
use denote.RawPtr.{null_ptr}
use Rattle.std.proofs.Common.{refl, ℕ, ◌<◌, List, [], length, Option, arith}
use Rattle.std.specs.VecDeque.Ownership.{in_place}
use Rattle.lpt_c_end.specs.Kept.{sizes_in}
use Rattle.lpt_c_end.specs.Ready.{IsReady}
use Rattle.lpt_c_end.specs.declared.end.End.{End}
use Rattle.lpt_c_end.specs.declared.kept.Kept.{Kept}
use Rattle.lpt_node.specs.Nodes.{NodeData}

-- an end with this node, this message that was released, and these packets that wait; all else is
-- that of another end
abbrev pub made : (e : End) (d : NodeData) (released : Option (List ℕ)) (out : List (List ℕ))
    → length out < 1000
    → IsReady (record e.node { at = d }) (sizes_in e.memories)
    → End
made e d released out few ready = record e {
  node = record e.node { at = d };
  released = released;
  outbox = record e.outbox {
    items = out;
    ptr = null_ptr;
    len = length out;
    cap = length out;
    head = 0;
    wrapped = 0;
    ok = (refl, omega arith);
    small = omega (arith, few);
    ring_fits =
        in_place (length out) (length out) 0 0 (omega arith, (omega arith, omega arith));
  };
  ready = ready;
}

-- the same with these memories
abbrev pub made_over : (e : End) (d : NodeData) (memories : Kept) (released : Option (List ℕ))
    → IsReady (record e.node { at = d }) (sizes_in memories)
    → End
made_over e d memories released ready = record e {
  node = record e.node { at = d };
  memories = memories;
  released = released;
  outbox = record e.outbox {
    items = [];
    ptr = null_ptr;
    len = 0;
    cap = 0;
    head = 0;
    wrapped = 0;
    ok = (refl, omega arith);
    small = omega arith;
    ring_fits = in_place 0 0 0 0 (omega arith, (omega arith, omega arith));
  };
  ready = ready;
}

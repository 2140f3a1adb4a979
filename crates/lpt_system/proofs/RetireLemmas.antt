-- Where a transaction may be retired, each end may free its name.
use Rattle.std.proofs.Common.{◌≡◌, refl, Bool, true, false, not, ◌&&◌, IsTrue, is_some, None}
use Rattle.std.specs.FinMap as map
use Rattle.lpt_packet.specs.declared.direction.Direction.{Direction}
use Rattle.lpt_packet.specs.declared.direction.Direction.TheVariants.{Up, Down}
use Rattle.lpt_packet.specs.Names.{Name}
use Rattle.lpt_events.specs.declared.side.Side.TheVariants.{Ground, Craft}
use Rattle.lpt_ledger.specs.declared.state.State.{State as Known}
use Rattle.lpt_ledger.specs.declared.state.State.TheVariants.{Free, Open, Closed}
use Rattle.lpt_ledger.specs.States.{state_at}
use Rattle.lpt_link.specs.Links.{holds}
use Rattle.lpt_node.specs.Restarts.{may_retire}
use Rattle.lpt_node.specs.Nodes.{is_open}
use Rattle.lpt_model.specs.State.{State, refusal_retire, refusal_retire_by}

-- its sender is closed, and no reception of it is open
neither : (k : Known) (held receives : Bool)
    → refusal_retire_by k (not held && not receives) ≡ None
    → (not (is_open k) ≡ true) × (not receives ≡ true)
neither Free held receives e = absurd cc
neither Open held receives e = absurd cc
neither Closed true receives e = absurd cc
neither Closed false true e = absurd cc
neither Closed false false e = (refl, refl)

pub both_may : (s : State) (d : Direction) (name : Name)
    → refusal_retire s d name ≡ None
    → IsTrue (may_retire Ground s.on_ground d name) × IsTrue (may_retire Craft s.on_craft d name)
both_may s Up name free =
    neither (state_at s.on_ground.sending.ledger name) (holds s.link Up name)
    (is_some (map.get s.on_craft.receiving.entries name)) free
both_may s Down name free =
    let it =
    neither (state_at s.on_craft.sending.ledger name) (holds s.link Down name)
    (is_some (map.get s.on_ground.receiving.entries name)) free in
    (it.1, it.0)

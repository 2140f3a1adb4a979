-- What parts are on the way behind a step were there before it.
use Rattle.std.proofs.Common.{◌≡◌, ◌∙◌, ap, sym, subst, refl, ℕ, zero, suc, Bool, true, false, not, ◌&&◌, List, [], ◌∷◌, Option, Some, None}
use Rattle.std.specs.Option.{option_eq}
use Rattle.std.specs.Prelude.{cond, slice_get}
use Rattle.lpt_packet.specs.declared.direction.Direction.{Direction}
use Rattle.lpt_packet.specs.declared.direction.Direction.TheVariants.{Down}
use Rattle.lpt_packet.specs.Names.{Name, same_name}
use Rattle.lpt_memory.specs.Readings.{Job}
use Rattle.lpt_events.specs.Lanes.{same_direction}
use Rattle.lpt_events.specs.Sides.{sender_side}
use Rattle.lpt_events.specs.declared.config.Config.{Config}
use Rattle.lpt_events.specs.declared.side.Side.{Side}
use Rattle.lpt_node.specs.Nodes.{NodeData}
use Rattle.lpt_node.specs.Requests.{plain_made}
use Rattle.lpt_node.specs.Times.{expired_of, which_ends}
use Rattle.lpt_journal.proofs.CountLemmas.{same_name-comm}
use Rattle.lpt_model.specs.State.{as_list, job_left}
use Rattle.lpt_model.specs.Tickets.{ticket_of}
use Rattle.lpt_apart.specs.Ends.{Ends, PutOut, is_part, node_at, put_out, with_node, without, is_same, Accept, Apply, Claim, Commit, Expire, Finish, Open, Plain, Restart, Retire, Send, Step, Tick, after, committed_on}
use Rattle.lpt_apart.specs.Freeing.{IsOwn}
use Rattle.lpt_apart.proofs.Ways.{There, same_direction-comm, same_ways}

same_there : (e : Ends) (side : Side) (n : NodeData) (p : PutOut)
    → There (with_node e side n).on_the_way p
    → There e.on_the_way p
same_there e side n p at = subst (λ (ps : List PutOut). There ps p) (same_ways e side n) at

-- a part isn't what was put out as none
pub put_before : (ps : List PutOut) (p : PutOut) (name : Name) (d : Direction) (bs : List (List ℕ))
    → p.part_of ≡ Some name
    → There (put_out ps d None bs) p
    → There ps p
put_before ps p name d [] tagged at = at
put_before ps p name d (b ∷ bs) tagged at =
    let q : PutOut = record { direction = d; part_of = None; octets = b } in
    let it = put_before (q ∷ ps) p name d bs tagged at in
    go q it.0 it.1 refl where
      go : (q : PutOut) (k : ℕ)
          → slice_get (q ∷ ps) k ≡ Some p
          → q.part_of ≡ None
          → There ps p
      go q zero at none =
          let same : q ≡ p = cc in
          absurd (let both : None ≡ Some name =
          sym none ∙ ap (λ (r : PutOut). r.part_of) same ∙ tagged in cc)
      go q (suc k) at none = (k, at)

-- what stays when a name is freed was there, and is no part of it
pub left_before : (d : Direction) (name : Name) (p : PutOut) (ps : List PutOut) (k : ℕ)
    → slice_get (without d name ps) k ≡ Some p
    → There ps p × (is_part d name p ≡ false)
left_before d name p [] k at = absurd cc
left_before d name p (q ∷ ps) k at =
    go (is_part d name q) refl k at (left_before d name p ps) where
      go : (t : Bool)
          → is_part d name q ≡ t
          → (k : ℕ)
          → slice_get (cond (not t) (q ∷ without d name ps) (without d name ps)) k ≡ Some p
          → ((k : ℕ) → slice_get (without d name ps) k ≡ Some p
          → There ps p × (is_part d name p ≡ false))
          → There (q ∷ ps) p × (is_part d name p ≡ false)
      go true is k at rest = let r = rest k at in ((suc r.0.0, r.0.1), r.1)
      go false is zero at rest =
          let same : q ≡ p = cc in ((zero, at), ap (is_part d name) (sym same) ∙ is)
      go false is (suc k) at rest = let r = rest k at in ((suc r.0.0, r.0.1), r.1)

-- a part is on the way behind a step of an end's own only if it was before
pub part_before : (c : Config) (e : Ends) (x : Step) (p : PutOut) (name : Name)
    → IsOwn x
    → p.part_of ≡ Some name
    → There (after c e x).on_the_way p
    → There e.on_the_way p
part_before c e (Open way i m) p name own tagged at = same_there e (sender_side way) _ p at
part_before c e (Send way i k) p name own tagged at = absurd own
part_before c e (Plain source flags service subtype body) p name own tagged at =
    put_before e.on_the_way p name _
    ((plain_made c e.on_ground source flags service subtype body).1 ∷ []) tagged at
part_before c e (Finish way i) p name own tagged at = same_there e (sender_side way) _ p at
part_before c e (Accept way b) p name own tagged at = absurd own
part_before c e (Tick side turn) p name own tagged at = same_there e side _ p at
part_before c e (Expire side which) p name own tagged at =
    put_before e.on_the_way p name Down
    (as_list (expired_of side c (node_at e side)
    (which_ends c (node_at e side) which)).1.packet) tagged at
part_before c e (Claim w) p name own tagged at = at
part_before c e (Commit w) p name own tagged at = go (ticket_of e.tickets w) at where
  go : (o : Option Job) → There (committed_on c e w o).on_the_way p → There e.on_the_way p
  go None at = at
  go (Some t) at = at
part_before c e (Apply how) p name own tagged at =
    put_before e.on_the_way p name Down (job_left how c e.on_craft e.memories).0.1.packets tagged at
part_before c e (Retire way i) p name own tagged at = absurd own
part_before c e (Restart side) p name own tagged at = same_there e side _ p at

-- a part that isn't of a transaction is of another
pub apart : (d : Direction) (name : Name) (p : PutOut) (i : Name)
    → p.part_of ≡ Some i
    → is_part d name p ≡ false
    → is_same d name p.direction i ≡ false
apart d name p i tagged isnt =
    (λ j. same_direction-comm d p.direction j && same_name-comm name i j)
    ∙ (λ j. same_direction p.direction d && option_eq same_name (sym tagged j) (Some name))
    ∙ isnt

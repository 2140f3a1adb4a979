-- Of what is on the way, the packets that are no part: those of a direction are put out by its
-- sender alone, and stay.
use Rattle.std.proofs.Common.{◌≡◌, ◌∙◌, ap, sym, subst, refl, ℕ, zero, suc, Bool, true, false, not, ◌&&◌, List, [], ◌∷◌, Option, Some, None, is_some}
use Rattle.std.specs.List.{filter}
use Rattle.std.specs.Option.{option_eq}
use Rattle.std.specs.Prelude.{slice_get, cond}
use Rattle.lpt_packet.specs.declared.direction.Direction.{Direction}
use Rattle.lpt_packet.specs.declared.direction.Direction.TheVariants.{Up, Down}
use Rattle.lpt_packet.specs.Names.{Name, same_name}
use Rattle.lpt_packet.proofs.BoolLemmas.{and_false, and_right}
use Rattle.lpt_memory.specs.Readings.{Job}
use Rattle.lpt_events.specs.Arrivals.{Arrival, arrival_in}
use Rattle.lpt_events.specs.Lanes.{same_direction}
use Rattle.lpt_events.specs.declared.config.Config.{Config}
use Rattle.lpt_events.specs.declared.side.Side.TheVariants.{Ground, Craft}
use Rattle.lpt_events.specs.declared.worker.Worker.{Worker}
use Rattle.lpt_node.specs.Accepting.{packet_accepted}
use Rattle.lpt_node.specs.Requests.{plain_made}
use Rattle.lpt_node.specs.Times.{expired_of, which_ends}
use Rattle.lpt_model.specs.State.{as_list, job_left}
use Rattle.lpt_model.specs.Tickets.{ticket_of}
use Rattle.lpt_apart.specs.Ends.{Ends, PutOut, put_out, is_part, without, Do, Free, Move, Pair, pair_after, Accept, Apply, Claim, Commit, Expire, Finish, Open, Plain, Restart, Retire, Send, Tick, committed_on}
use Rattle.lpt_apart.specs.Resets.{side_of}
use Rattle.lpt_apart.proofs.GroundReports.{none_of_delivery, none_of_expiry}
use Rattle.lpt_apart.proofs.Local.{aboard}
use Rattle.lpt_apart.proofs.Ways.{There}

-- ---- lists

-- whether a packet goes in a direction and is no part
abbrev pub is_loose : Direction → PutOut → Bool
is_loose d p = same_direction p.direction d && not (is_some p.part_of)

-- those of these that are so
abbrev pub loose_in : Direction → List PutOut → List PutOut
loose_in d ps = filter (is_loose d) ps

loose_at : (d : Direction) (p : PutOut) (ps : List PutOut) (k : ℕ)
    → is_loose d p ≡ true
    → slice_get ps k ≡ Some p
    → There (loose_in d ps) p
loose_at d p [] k is at = absurd cc
loose_at d p (q ∷ ps) zero is at =
    let same : q ≡ p = cc in
    subst (λ (t : Bool). There (cond t (q ∷ loose_in d ps) (loose_in d ps)) p)
    (sym (ap (is_loose d) same ∙ is)) (zero, at)
loose_at d p (q ∷ ps) (suc k) is at = go (is_loose d q) (loose_at d p ps k is at) where
  go : (t : Bool)
      → There (loose_in d ps) p
      → There (cond t (q ∷ loose_in d ps) (loose_in d ps)) p
  go true rest = (suc rest.0, rest.1)
  go false rest = rest

-- one of them is among them
pub to_loose : (d : Direction) (p : PutOut) (ps : List PutOut)
    → is_loose d p ≡ true
    → There ps p
    → There (loose_in d ps) p
to_loose d p ps is at = loose_at d p ps at.0 is at.1

from_at : (d : Direction) (p : PutOut) (ps : List PutOut) (k : ℕ)
    → slice_get (loose_in d ps) k ≡ Some p
    → There ps p
from_at d p [] k at = absurd cc
from_at d p (q ∷ ps) k at = go (is_loose d q) k (from_at d p ps) at where
  go : (t : Bool) (k : ℕ)
      → ((k : ℕ) → slice_get (loose_in d ps) k ≡ Some p → There ps p)
      → slice_get (cond t (q ∷ loose_in d ps) (loose_in d ps)) k ≡ Some p
      → There (q ∷ ps) p
  go true zero rest at = (zero, at)
  go true (suc k) rest at = let r = rest k at in (suc r.0, r.1)
  go false k rest at = let r = rest k at in (suc r.0, r.1)

-- and those among them are of these
pub from_loose : (d : Direction) (p : PutOut) (ps : List PutOut)
    → There (loose_in d ps) p
    → There ps p
from_loose d p ps at = from_at d p ps at.0 at.1

-- what goes down isn't among what goes up
put_down : (ps : List PutOut) (bs : List (List ℕ))
    → loose_in Up (put_out ps Down None bs) ≡ loose_in Up ps
put_down ps [] = refl
put_down ps (b ∷ bs) =
    put_down (record { direction = Down; part_of = None; octets = b } ∷ ps) bs

put_own : (ps : List PutOut) (bs : List (List ℕ))
    → loose_in Down (put_out ps Down None bs) ≡ put_out (loose_in Down ps) Down None bs
put_own ps [] = refl
put_own ps (b ∷ bs) =
    put_own (record { direction = Down; part_of = None; octets = b } ∷ ps) bs

not_loose : (d e : Direction) (i : Name) (p : PutOut)
    → is_part e i p ≡ true
    → is_loose d p ≡ false
not_loose d e i p is =
    go p.part_of
    (and_right (same_direction p.direction e) (option_eq same_name p.part_of (Some i)) is) where
      go : (o : Option Name)
          → option_eq same_name o (Some i) ≡ true
          → (same_direction p.direction d && not (is_some o)) ≡ false
      go None is = absurd cc
      go (Some n) is = and_false (same_direction p.direction d)

-- to free a name takes none of them
left_loose : (d e : Direction) (i : Name) (ps : List PutOut)
    → loose_in d (without e i ps) ≡ loose_in d ps
left_loose d e i [] = refl
left_loose d e i (p ∷ ps) = go (is_part e i p) refl (left_loose d e i ps) where
  go : (t : Bool)
      → is_part e i p ≡ t
      → loose_in d (without e i ps) ≡ loose_in d ps
      → loose_in d (cond (not t) (p ∷ without e i ps) (without e i ps))
      ≡ cond (is_loose d p) (p ∷ loose_in d ps) (loose_in d ps)
  go true is rest =
      rest
      ∙ ap (λ (t : Bool). cond t (p ∷ loose_in d ps) (loose_in d ps))
      (sym (not_loose d e i p is))
  go false is rest = ap (λ (qs : List PutOut). cond (is_loose d p) (p ∷ qs) qs) rest

-- ---- moves

-- a move of ground comes to the same of what goes up
pub ground_ways : (c : Config) (x : Move) (p q : Pair)
    → side_of x ≡ Ground
    → p.ends.on_ground ≡ q.ends.on_ground
    → loose_in Up p.ends.on_the_way ≡ loose_in Up q.ends.on_the_way
    → loose_in Up (pair_after c p x).ends.on_the_way
    ≡ loose_in Up (pair_after c q x).ends.on_the_way
ground_ways c (Do (Open Up name m)) p q of node same = same
ground_ways c (Do (Open Down name m)) p q of node same = absurd cc
ground_ways c (Do (Send Up name k)) p q of node same = same
ground_ways c (Do (Send Down name k)) p q of node same = absurd cc
ground_ways c (Do (Plain source flags service subtype body)) p q of node same = λ i.
    record {
      direction = Up;
      part_of = None;
      octets = (plain_made c (node i) source flags service subtype body).1;
    } ∷ same i
ground_ways c (Do (Finish Up name)) p q of node same = same
ground_ways c (Do (Finish Down name)) p q of node same = absurd cc
ground_ways c (Do (Accept Up b)) p q of node same = absurd cc
ground_ways c (Do (Accept Down b)) p q of node same =
    let a : Arrival = arrival_in c Down b in
    put_down p.ends.on_the_way (as_list (packet_accepted Ground c p.ends.on_ground a).1.packet)
    ∙ same
    ∙ sym (put_down q.ends.on_the_way
    (as_list (packet_accepted Ground c q.ends.on_ground a).1.packet))
ground_ways c (Do (Tick Ground turn)) p q of node same = same
ground_ways c (Do (Tick Craft turn)) p q of node same = absurd cc
ground_ways c (Do (Expire Ground which)) p q of node same =
    put_down p.ends.on_the_way
    (as_list (expired_of Ground c p.ends.on_ground
    (which_ends c p.ends.on_ground which)).1.packet)
    ∙ same
    ∙ sym (put_down q.ends.on_the_way
    (as_list (expired_of Ground c q.ends.on_ground
    (which_ends c q.ends.on_ground which)).1.packet))
ground_ways c (Do (Expire Craft which)) p q of node same = absurd cc
ground_ways c (Do (Claim w)) p q of node same = absurd cc
ground_ways c (Do (Commit w)) p q of node same = absurd cc
ground_ways c (Do (Apply how)) p q of node same = absurd cc
ground_ways c (Do (Retire Up name)) p q of node same =
    left_loose Up Up name p.ends.on_the_way ∙ same
    ∙ sym (left_loose Up Up name q.ends.on_the_way)
ground_ways c (Do (Retire Down name)) p q of node same = absurd cc
ground_ways c (Do (Restart Ground)) p q of node same = same
ground_ways c (Do (Restart Craft)) p q of node same = absurd cc
ground_ways c (Free Up name) p q of node same = absurd cc
ground_ways c (Free Down name) p q of node same =
    left_loose Up Down name p.ends.on_the_way ∙ same
    ∙ sym (left_loose Up Down name q.ends.on_the_way)

-- a move of the spacecraft leaves them
pub ground_left : (c : Config) (x : Move) (p : Pair)
    → side_of x ≡ Craft
    → loose_in Up (pair_after c p x).ends.on_the_way ≡ loose_in Up p.ends.on_the_way
ground_left c (Do (Open Up name m)) p of = absurd cc
ground_left c (Do (Open Down name m)) p of = refl
ground_left c (Do (Send Up name k)) p of = absurd cc
ground_left c (Do (Send Down name k)) p of = refl
ground_left c (Do (Plain source flags service subtype body)) p of = absurd cc
ground_left c (Do (Finish Up name)) p of = absurd cc
ground_left c (Do (Finish Down name)) p of = refl
ground_left c (Do (Accept Up b)) p of =
    put_down p.ends.on_the_way
    (as_list (packet_accepted Craft c p.ends.on_craft (arrival_in c Up b)).1.packet)
ground_left c (Do (Accept Down b)) p of = absurd cc
ground_left c (Do (Tick Ground turn)) p of = absurd cc
ground_left c (Do (Tick Craft turn)) p of = refl
ground_left c (Do (Expire Ground which)) p of = absurd cc
ground_left c (Do (Expire Craft which)) p of =
    put_down p.ends.on_the_way
    (as_list (expired_of Craft c p.ends.on_craft
    (which_ends c p.ends.on_craft which)).1.packet)
ground_left c (Do (Claim w)) p of = refl
ground_left c (Do (Commit w)) p of = go (ticket_of p.ends.tickets w) where
  go : (o : Option Job)
      → loose_in Up (committed_on c p.ends w o).on_the_way ≡ loose_in Up p.ends.on_the_way
  go None = refl
  go (Some t) = refl
ground_left c (Do (Apply how)) p of =
    put_down p.ends.on_the_way (job_left how c p.ends.on_craft p.ends.memories).0.1.packets
ground_left c (Do (Retire Up name)) p of = absurd cc
ground_left c (Do (Retire Down name)) p of = left_loose Up Down name p.ends.on_the_way
ground_left c (Do (Restart Ground)) p of = absurd cc
ground_left c (Do (Restart Craft)) p of = refl
ground_left c (Free Up name) p of = left_loose Up Up name p.ends.on_the_way
ground_left c (Free Down name) p of = absurd cc

-- what was committed puts nothing out
commits_nothing : (c : Config) (e : Ends) (o : Option Job) (w : Worker)
    → (committed_on c e w o).on_the_way ≡ e.on_the_way
commits_nothing c e None w = refl
commits_nothing c e (Some t) w = refl

-- a move of the spacecraft comes to the same of what goes down
pub craft_ways : (c : Config) (x : Move) (p q : Pair)
    → side_of x ≡ Craft
    → aboard p.ends ≡ aboard q.ends
    → loose_in Down p.ends.on_the_way ≡ loose_in Down q.ends.on_the_way
    → loose_in Down (pair_after c p x).ends.on_the_way
    ≡ loose_in Down (pair_after c q x).ends.on_the_way
craft_ways c (Do (Open Up name m)) p q of node same = absurd cc
craft_ways c (Do (Open Down name m)) p q of node same = same
craft_ways c (Do (Send Up name k)) p q of node same = absurd cc
craft_ways c (Do (Send Down name k)) p q of node same = same
craft_ways c (Do (Plain source flags service subtype body)) p q of node same = absurd cc
craft_ways c (Do (Finish Up name)) p q of node same = absurd cc
craft_ways c (Do (Finish Down name)) p q of node same = same
craft_ways c (Do (Accept Up b)) p q of node same =
    let a : Arrival = arrival_in c Up b in
    put_own p.ends.on_the_way (as_list (packet_accepted Craft c p.ends.on_craft a).1.packet)
    ∙ (λ i. put_out (same i) Down None
    (as_list (packet_accepted Craft c ((node i).node) a).1.packet))
    ∙ sym (put_own q.ends.on_the_way (as_list (packet_accepted Craft c q.ends.on_craft a).1.packet))
craft_ways c (Do (Accept Down b)) p q of node same = absurd cc
craft_ways c (Do (Tick Ground turn)) p q of node same = absurd cc
craft_ways c (Do (Tick Craft turn)) p q of node same = same
craft_ways c (Do (Expire Ground which)) p q of node same = absurd cc
craft_ways c (Do (Expire Craft which)) p q of node same =
    put_own p.ends.on_the_way
    (as_list (expired_of Craft c p.ends.on_craft
    (which_ends c p.ends.on_craft which)).1.packet)
    ∙ (λ i. put_out (same i) Down None
    (as_list (expired_of Craft c (node i).node (which_ends c (node i).node which)).1.packet))
    ∙ sym (put_own q.ends.on_the_way
    (as_list (expired_of Craft c q.ends.on_craft
    (which_ends c q.ends.on_craft which)).1.packet))
craft_ways c (Do (Claim w)) p q of node same = same
craft_ways c (Do (Commit w)) p q of node same =
    ap (loose_in Down) (commits_nothing c p.ends (ticket_of p.ends.tickets w) w) ∙ same
    ∙ ap (loose_in Down) (sym (commits_nothing c q.ends (ticket_of q.ends.tickets w) w))
craft_ways c (Do (Apply how)) p q of node same =
    put_own p.ends.on_the_way (job_left how c p.ends.on_craft p.ends.memories).0.1.packets
    ∙ (λ i. put_out (same i) Down None
    (job_left how c ((node i).node) ((node i).memories)).0.1.packets)
    ∙ sym (put_own q.ends.on_the_way (job_left how c q.ends.on_craft q.ends.memories).0.1.packets)
craft_ways c (Do (Retire Up name)) p q of node same = absurd cc
craft_ways c (Do (Retire Down name)) p q of node same =
    left_loose Down Down name p.ends.on_the_way ∙ same
    ∙ sym (left_loose Down Down name q.ends.on_the_way)
craft_ways c (Do (Restart Ground)) p q of node same = absurd cc
craft_ways c (Do (Restart Craft)) p q of node same = same
craft_ways c (Free Up name) p q of node same =
    left_loose Down Up name p.ends.on_the_way ∙ same
    ∙ sym (left_loose Down Up name q.ends.on_the_way)
craft_ways c (Free Down name) p q of node same = absurd cc

-- a move of ground leaves them
pub craft_left : (c : Config) (x : Move) (p : Pair)
    → side_of x ≡ Ground
    → loose_in Down (pair_after c p x).ends.on_the_way ≡ loose_in Down p.ends.on_the_way
craft_left c (Do (Open Up name m)) p of = refl
craft_left c (Do (Open Down name m)) p of = absurd cc
craft_left c (Do (Send Up name k)) p of = refl
craft_left c (Do (Send Down name k)) p of = absurd cc
craft_left c (Do (Plain source flags service subtype body)) p of = refl
craft_left c (Do (Finish Up name)) p of = refl
craft_left c (Do (Finish Down name)) p of = absurd cc
craft_left c (Do (Accept Up b)) p of = absurd cc
craft_left c (Do (Accept Down b)) p of =
    ap (λ (o : Option (List ℕ)). loose_in Down (put_out p.ends.on_the_way Down None (as_list o)))
    (none_of_delivery c p.ends.on_ground (arrival_in c Down b))
craft_left c (Do (Tick Ground turn)) p of = refl
craft_left c (Do (Tick Craft turn)) p of = absurd cc
craft_left c (Do (Expire Ground which)) p of =
    ap (λ (o : Option (List ℕ)). loose_in Down (put_out p.ends.on_the_way Down None (as_list o)))
    (none_of_expiry c p.ends.on_ground (which_ends c p.ends.on_ground which))
craft_left c (Do (Expire Craft which)) p of = absurd cc
craft_left c (Do (Claim w)) p of = absurd cc
craft_left c (Do (Commit w)) p of = absurd cc
craft_left c (Do (Apply how)) p of = absurd cc
craft_left c (Do (Retire Up name)) p of = left_loose Down Up name p.ends.on_the_way
craft_left c (Do (Retire Down name)) p of = absurd cc
craft_left c (Do (Restart Ground)) p of = refl
craft_left c (Do (Restart Craft)) p of = absurd cc
craft_left c (Free Up name) p of = absurd cc
craft_left c (Free Down name) p of = left_loose Down Down name p.ends.on_the_way

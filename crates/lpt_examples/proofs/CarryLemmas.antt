-- What the calls of two nodes make of two ends apart that carry a message up.
use Rattle.std.proofs.Common.{◌≡◌, ◌∙◌, ◌⊎◌, inl, inr, ap, sym, subst, refl, ℕ, zero, suc, ◌<◌, Bool, true, false, if◌then◌else◌, List, [], ◌∷◌, length, Option, Some, None}
use Rattle.std.specs.Prelude.{slice_get, IfSome}
use Rattle.lpt_packet.specs.declared.direction.Direction.TheVariants.{Up, Down}
use Rattle.lpt_packet.specs.Names.{Name, IsName, same_name}
use Rattle.lpt_packet.proofs.NameLemmas as names
use Rattle.lpt_events.specs.Configs.{IsConfig}
use Rattle.lpt_events.specs.Events.{IsEvent}
use Rattle.lpt_events.specs.declared.config.Config.{Config}
use Rattle.lpt_events.specs.Arrivals.{arrival, arrival_in}
use Rattle.lpt_events.specs.declared.event.Event.TheVariants as event
use Rattle.lpt_events.specs.declared.outcome.Outcome.{Outcome}
use Rattle.lpt_events.specs.declared.outcome.Outcome.TheVariants as outcome
use Rattle.lpt_events.specs.declared.side.Side.TheVariants.{Ground, Craft}
use Rattle.lpt_node.specs.declared.accepted.Accepted.{Accepted}
use Rattle.lpt_node.specs.Accepting.{packet_accepted}
use Rattle.lpt_node.specs.Nodes.{NodeData, NodeView, new_node}
use Rattle.lpt_node.specs.ParsedViews.{arrival_at}
use Rattle.lpt_node.specs.Sending.{refusal_open, message_opened, refusal_send, part_sent}
use Rattle.lpt_model.specs.State.{as_list, released_of}
use Rattle.lpt_apart.specs.Ends.{Ends, put_out, Log, with_abortion, Do, Open, Send, Accept, accepted_on, with_release}
use Rattle.lpt_apart.specs.TwoEnds.{AllDue, message_awaited, IsOnTheWay}
use Rattle.lpt_apart.specs.Moves.{came_to}
use Rattle.lpt_apart.proofs.Moving.{ends_apart_keep_the_promise}
use Rattle.lpt_examples.specs.Carrying.{Stands, Carries, HasReleased, is_whole, is_broken}

-- ---- new ends

pub anew : (c : Config) (g k : NodeView) (w : List ℕ → Type 0)
    → IsConfig c
    → g ≡ new_node Ground c
    → k ≡ new_node Craft c
    → ((b : List ℕ) → ¬ w b)
    → Stands g k w
anew c g k w good is_g is_k empty = record {
  config = c;
  first = [];
  moves = [];
  good = good;
  can = tt;
  ground_side = ap (λ (n : NodeView). n.side) is_g;
  ground_config = ap (λ (n : NodeView). n.config) is_g;
  ground_at = ap (λ (n : NodeView). n.at) is_g;
  craft_side = ap (λ (n : NodeView). n.side) is_k;
  craft_config = ap (λ (n : NodeView). n.config) is_k;
  craft_at = ap (λ (n : NodeView). n.at) is_k;
  on_the_way = λ b may. absurd (empty b may);
}

-- ---- what changes nothing

pub same_ground : (g new k : NodeView) (w : List ℕ → Type 0)
    → Stands g k w
    → new.at ≡ g.at
    → new.side ≡ g.side
    → new.config ≡ g.config
    → Stands new k w
same_ground g new k w s at side config = record {
  config = s.config;
  first = s.first;
  moves = s.moves;
  good = s.good;
  can = s.can;
  ground_side = side ∙ s.ground_side;
  ground_config = config ∙ s.ground_config;
  ground_at = at ∙ s.ground_at;
  craft_side = s.craft_side;
  craft_config = s.craft_config;
  craft_at = s.craft_at;
  on_the_way = s.on_the_way;
}

pub same_craft : (g k new : NodeView) (w v : List ℕ → Type 0)
    → Stands g k w
    → new.at ≡ k.at
    → new.side ≡ k.side
    → new.config ≡ k.config
    → ((b : List ℕ) → v b → w b)
    → Stands g new v
same_craft g k new w v s at side config rest = record {
  config = s.config;
  first = s.first;
  moves = s.moves;
  good = s.good;
  can = s.can;
  ground_side = s.ground_side;
  ground_config = s.ground_config;
  ground_at = s.ground_at;
  craft_side = side ∙ s.craft_side;
  craft_config = config ∙ s.craft_config;
  craft_at = at ∙ s.craft_at;
  on_the_way = λ b may. s.on_the_way b (rest b may);
}

pub fewer : (name : Name) (m : List ℕ) (g k : NodeView) (w v : List ℕ → Type 0)
    → Carries name m g k w
    → ((b : List ℕ) → v b → w b)
    → Carries name m g k v
unfolding same_craft
fewer name m g k w v carries rest = record {
  stands = same_craft g k k w v carries.stands refl refl refl rest;
  awaits = carries.awaits;
}

pub same_sender : (name : Name) (m : List ℕ) (g new k : NodeView) (w : List ℕ → Type 0)
    → Carries name m g k w
    → new.at ≡ g.at
    → new.side ≡ g.side
    → new.config ≡ g.config
    → Carries name m new k w
unfolding same_ground
same_sender name m g new k w carries at side config = record {
  stands = same_ground g new k w carries.stands at side config;
  awaits = carries.awaits;
}

-- ---- opening

pub opens : (name : Name) (m : List ℕ) (g new k : NodeView) (w : List ℕ → Type 0)
    → Stands g k w
    → IsEvent (event.Open Up name m)
    → refusal_open g.config g.at name (length m) ≡ None
    → new.at ≡ message_opened g.at name m
    → new.side ≡ g.side
    → new.config ≡ g.config
    → Carries name m new k w
opens name m g new k w s vow none at side config = record {
  stands = record {
    config = s.config;
    first = s.first;
    moves = Do (Open Up name m) ∷ s.moves;
    good = s.good;
    can = (
      s.can,
      (vow, sym (λ i. refusal_open (s.ground_config i) (s.ground_at i) name (length m)) ∙ none),
    );
    ground_side = side ∙ s.ground_side;
    ground_config = config ∙ s.ground_config;
    ground_at = at ∙ ap (λ (n : NodeData). message_opened n name m) s.ground_at;
    craft_side = s.craft_side;
    craft_config = s.craft_config;
    craft_at = s.craft_at;
    on_the_way = λ b may. same_way (s.on_the_way b may);
  };
  awaits =
      ap (λ (t : Bool).
      if t then Some m else message_awaited (came_to s.config s.first s.moves).ends.log Up name)
      (names.same_name-refl name);
} where
  same_way : {b : List ℕ} → IsOnTheWay (came_to s.config s.first s.moves).ends Up b
      → IsOnTheWay (came_to s.config s.first (Do (Open Up name m) ∷ s.moves)).ends Up b
  same_way it = record {
    place = it.place;
    packet = it.packet;
    there = it.there;
    goes = it.goes;
    octets = it.octets;
  }

-- ---- sending

pub sends : (name : Name) (m : List ℕ) (n : ℕ) (g new k : NodeView) (o : List ℕ)
    (w v : List ℕ → Type 0)
    → Carries name m g k w
    → IsName name
    → n < 65536
    → refusal_send g.config g.at name n ≡ None
    → (new.at, o) ≡ part_sent g.side g.config g.at name n
    → new.side ≡ g.side
    → new.config ≡ g.config
    → ((b : List ℕ) → v b → (b ≡ o) ⊎ w b)
    → Carries name m new k v
sends name m n g new k o w v carries named fits none is side config more = record {
  stands = record {
    config = s.config;
    first = s.first;
    moves = Do (Send Up name n) ∷ s.moves;
    good = s.good;
    can = (
      s.can,
      ((named, fits), sym (λ i. refusal_send (s.ground_config i) (s.ground_at i) name n) ∙ none),
    );
    ground_side = side ∙ s.ground_side;
    ground_config = config ∙ s.ground_config;
    ground_at = ap (λ (x : NodeData × List ℕ). x.0) made;
    craft_side = s.craft_side;
    craft_config = s.craft_config;
    craft_at = s.craft_at;
    on_the_way = λ b may. way b (more b may);
  };
  awaits = carries.awaits;
} where
  s : Stands g k w
  s = carries.stands

  made : (new.at, o) ≡ part_sent Ground s.config (came_to s.config s.first s.moves).ends.on_ground
      name n
  made = is ∙ (λ i. part_sent (s.ground_side i) (s.ground_config i) (s.ground_at i) name n)

  way : (b : List ℕ) → (b ≡ o) ⊎ w b
      → IsOnTheWay (came_to s.config s.first (Do (Send Up name n) ∷ s.moves)).ends Up b
  way b (inl same) = record {
    place = zero;
    packet = record {
      direction = Up;
      part_of = Some name;
      octets =
          (part_sent Ground s.config (came_to s.config s.first s.moves).ends.on_ground name n).1;
    };
    there = refl;
    goes = refl;
    octets = sym (ap (λ (x : NodeData × List ℕ). x.1) made) ∙ sym same;
  }
  way b (inr may) =
      let it : IsOnTheWay (came_to s.config s.first s.moves).ends Up b = s.on_the_way b may in
      record {
        place = suc it.place;
        packet = it.packet;
        there = it.there;
        goes = it.goes;
        octets = it.octets;
      }

-- ---- taking

-- what may be handed over still is on the way behind a report
behind : (e : Ends) (x : NodeData × Accepted) (b : List ℕ)
    → IsOnTheWay e Up b
    → IsOnTheWay (accepted_on e Up x) Up b
behind e x b it = by x.1.packet refl where
  by : (o : Option (List ℕ)) → x.1.packet ≡ o → IsOnTheWay (accepted_on e Up x) Up b
  by None is = record {
    place = it.place;
    packet = it.packet;
    there =
        ap (λ (p : Option (List ℕ)).
        slice_get (put_out e.on_the_way Down None (as_list p)) it.place)
        is
        ∙ it.there;
    goes = it.goes;
    octets = it.octets;
  }
  by (Some r) is = record {
    place = suc it.place;
    packet = it.packet;
    there =
        ap (λ (p : Option (List ℕ)).
        slice_get (put_out e.on_the_way Down None (as_list p)) (suc it.place)) is
        ∙ it.there;
    goes = it.goes;
    octets = it.octets;
  }

-- the log once a packet going up was taken, which had this outcome
abbrev told : Log → Outcome → Option (List ℕ) → Log
told log o released = with_abortion Up o (with_release log (released_of Up o) released)

-- a message is awaited still where its reception was neither ended nor broken off
still : (name : Name) (m : List ℕ) (log : Log) (o : Outcome) (released : Option (List ℕ))
    → message_awaited log Up name ≡ Some m
    → is_whole name o ≡ false
    → is_broken name o ≡ false
    → message_awaited (told log o released) Up name ≡ Some m
still name m log (outcome.Released n len) None awaits whole broken = awaits
still name m log (outcome.Released n len) (Some x) awaits whole broken =
    ap (λ (t : Bool). if t then None else message_awaited log Up name) whole ∙ awaits
still name m log (outcome.Broken n reason) None awaits whole broken =
    ap (λ (t : Bool). if t then None else message_awaited log Up name) broken ∙ awaits
still name m log (outcome.Broken n reason) (Some x) awaits whole broken =
    ap (λ (t : Bool). if t then None else message_awaited log Up name) broken ∙ awaits
still name m log (outcome.Kept n k) None awaits whole broken = awaits
still name m log (outcome.Kept n k) (Some x) awaits whole broken = awaits
still name m log (outcome.Again n k) None awaits whole broken = awaits
still name m log (outcome.Again n k) (Some x) awaits whole broken = awaits
still name m log (outcome.PlainReleased len) None awaits whole broken = awaits
still name m log (outcome.PlainReleased len) (Some x) awaits whole broken = awaits
still name m log (outcome.ReportNoted a b) None awaits whole broken = awaits
still name m log (outcome.ReportNoted a b) (Some x) awaits whole broken = awaits
still name m log (outcome.AbortNoted n reason) None awaits whole broken = awaits
still name m log (outcome.AbortNoted n reason) (Some x) awaits whole broken = awaits
still name m log (outcome.Ignored w) None awaits whole broken = awaits
still name m log (outcome.Ignored w) (Some x) awaits whole broken = awaits

-- what was released of a name is what was awaited of it
is_it : (name : Name) (m x : List ℕ) (log : Log) (o : Outcome) (released : Option (List ℕ))
    → message_awaited log Up name ≡ Some m
    → AllDue (told log o released)
    → is_whole name o ≡ true
    → released ≡ Some x
    → x ≡ m
is_it name m x log (outcome.Released n len) None awaits due whole is = absurd cc
is_it name m x log (outcome.Released n len) (Some y) awaits due whole is =
    let same : message_awaited log Up name ≡ Some y =
    subst (λ (q : Name). message_awaited log Up q ≡ Some y) (names.same_name-true n name whole)
    due.1 in
    cc
is_it name m x log (outcome.Broken n reason) r awaits due whole is = absurd cc
is_it name m x log (outcome.Kept n k) r awaits due whole is = absurd cc
is_it name m x log (outcome.Again n k) r awaits due whole is = absurd cc
is_it name m x log (outcome.PlainReleased len) r awaits due whole is = absurd cc
is_it name m x log (outcome.ReportNoted a b) r awaits due whole is = absurd cc
is_it name m x log (outcome.AbortNoted n reason) r awaits due whole is = absurd cc
is_it name m x log (outcome.Ignored w) r awaits due whole is = absurd cc

-- where what was released can only be this message
pub only_it : (o : Option (List ℕ)) (m : List ℕ)
    → ((x : List ℕ) → o ≡ Some x → x ≡ m)
    → IfSome o (λ x. x ≡ m)
only_it None m is = tt
only_it (Some x) m is = is x refl

-- what was released was released by the node that took this packet
pub by_node : (name : Name) (k new : NodeView) (b : List ℕ) (r : Accepted)
    → (new.at, r) ≡ packet_accepted k.side k.config k.at (arrival_at k b)
    → is_whole name r.outcome ≡ true
    → IfSome r.released (λ m. HasReleased name m new)
by_node name k new b r took whole = of r.released refl where
  of : (o : Option (List ℕ)) → r.released ≡ o → IfSome o (λ m. HasReleased name m new)
  of None is = tt
  of (Some m) is = record {
    before = k;
    packet = b;
    answer = r;
    took = took;
    of_name = whole;
    released = is;
  }

-- a packet was taken: the ends stand, and what was released of the name is its message; where
-- nothing ended, the message is awaited still
pub record Takes (name : Name) (m : List ℕ) (g new : NodeView) (r : Accepted)
    (w : List ℕ → Type 0) : Type 0 where
  pub stands : Stands g new w
  pub whole : is_whole name r.outcome ≡ true → (x : List ℕ) → r.released ≡ Some x → x ≡ m
  pub going : is_whole name r.outcome ≡ false → is_broken name r.outcome ≡ false
      → Carries name m g new w

module _ (name : Name) (m : List ℕ) (g k new : NodeView) (b : List ℕ) (r : Accepted)
    (w v : List ℕ → Type 0) (carries : Carries name m g k w) where
  abbrev s : Stands g k w
  s = carries.stands

  abbrev e : Ends
  e = (came_to s.config s.first s.moves).ends

  abbrev x : NodeData × Accepted
  x = packet_accepted Craft s.config e.on_craft (arrival_in s.config Up b)

  taken : (new.at, r) ≡ packet_accepted k.side k.config k.at (arrival_at k b) → (new.at, r) ≡ x
  taken is =
      is
      ∙ (λ i. packet_accepted (s.craft_side i) (s.craft_config i) (s.craft_at i)
      (arrival (s.craft_side i) (s.craft_config i).apid (s.craft_config i).part_size b))

  accepts : w b
      → (new.at, r) ≡ x
      → new.side ≡ k.side
      → new.config ≡ k.config
      → ((o : List ℕ) → v o → w o)
      → Stands g new v
  accepts may made side config rest = record {
    config = s.config;
    first = s.first;
    moves = Do (Accept Up b) ∷ s.moves;
    good = s.good;
    can = (s.can, inl (s.on_the_way b may));
    ground_side = s.ground_side;
    ground_config = s.ground_config;
    ground_at = s.ground_at;
    craft_side = side ∙ s.craft_side;
    craft_config = config ∙ s.craft_config;
    craft_at = ap (λ (y : NodeData × Accepted). y.0) made;
    on_the_way = λ o goes. behind e x o (s.on_the_way o (rest o goes));
  }

  pub takes : w b
      → (new.at, r) ≡ packet_accepted k.side k.config k.at (arrival_at k b)
      → new.side ≡ k.side
      → new.config ≡ k.config
      → ((o : List ℕ) → v o → w o)
      → Takes name m g new r v
  unfolding accepts arrival
  takes may is side config rest = record {
    stands = accepts may made side config rest;
    whole = λ whole y released.
        is_it name m y e.log r.outcome r.released carries.awaits due whole released;
    going = λ whole broken. record {
      stands = accepts may made side config rest;
      awaits =
          subst (λ (a : Accepted). message_awaited (told e.log a.outcome a.released) Up name
          ≡ Some m)
          (ap (λ (y : NodeData × Accepted). y.1) made)
          (still name m e.log r.outcome r.released carries.awaits whole broken);
    };
  } where
    made : (new.at, r) ≡ x
    made = taken is

    due : AllDue (told e.log r.outcome r.released)
    due =
        subst (λ (a : Accepted). AllDue (told e.log a.outcome a.released))
        (sym (ap (λ (y : NodeData × Accepted). y.1) made))
        (ends_apart_keep_the_promise s.config s.first (Do (Accept Up b) ∷ s.moves) s.good
        (s.can, inl (s.on_the_way b may))).due

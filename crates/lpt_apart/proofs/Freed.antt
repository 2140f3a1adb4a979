-- What holds of two ends of which receivers have freed some names, and what freeing one changes.
use Rattle.std.proofs.Common.{◌≡◌, ◌∙◌, ap, sym, refl, Bool, true, false, not, ◌&&◌, ◌||◌, if◌then◌else◌, Option, None}
use Rattle.std.specs.FinMap as maps
use Rattle.lpt_packet.specs.declared.direction.Direction.{Direction}
use Rattle.lpt_packet.specs.declared.direction.Direction.TheVariants.{Up, Down}
use Rattle.lpt_packet.specs.Names.{Name, same_name}
use Rattle.lpt_packet.proofs.NameLemmas.{same_name-true}
use Rattle.lpt_memory.specs.Memories.{Contents}
use Rattle.lpt_events.specs.declared.config.Config.{Config}
use Rattle.lpt_ledger.specs.Marks.{Mark, Marks}
use Rattle.lpt_node.specs.Nodes.{NodeData}
use Rattle.lpt_journal.proofs.MapLemmas.{get_remove}
use Rattle.lpt_journal.proofs.CountLemmas.{same_name-comm}
use Rattle.lpt_apart.specs.Ends.{Ends, without}
use Rattle.lpt_apart.specs.Moves.{with_ledgers, KnowsLess}
use Rattle.lpt_apart.proofs.Links.{held_without}
use Rattle.lpt_apart.proofs.Ties.{Came, Follows, Leads}

-- ---- what holds of them

-- no reception of these names is open
abbrev pub AreUnheard : NodeData → (Name → Bool) → Type 0
AreUnheard n freed = (name : Name) → freed name ≡ true → maps.get n.receiving.entries name ≡ None

-- Two ends follow a world, to which these parts came, and receivers that know these names know less
-- by the freed ones, of which no reception is open.
pub record IsLess (c : Config) (first : Contents) (usual : Type 0)
    (freed : Direction → Name → Bool) (w : Ends)
    (parts : Came) (g k : Marks) : Type 0 where
  pub leads : Leads c first usual w parts
  pub on_ground : KnowsLess g (freed Down) w.on_ground.receiving.ledger
  pub on_craft : KnowsLess k (freed Up) w.on_craft.receiving.ledger
  pub no_down : AreUnheard w.on_ground (freed Down)
  pub no_up : AreUnheard w.on_craft (freed Up)

-- two ends are some that follow a world, but for the freed names
pub record IsBut (c : Config) (first : Contents) (usual : Type 0)
    (freed : Direction → Name → Bool)
    (e : Ends) (parts : Came) : Type 0 where
  pub whole : Ends
  pub on_ground : Marks
  pub on_craft : Marks
  pub less : IsLess c first usual freed whole parts on_ground on_craft
  pub is : with_ledgers on_ground on_craft whole ≡ e

-- ---- what freeing changes

-- a receiver has freed a name
pub less_removed : (less m : Marks) (freed : Name → Bool) (name : Name)
    → KnowsLess less freed m
    → KnowsLess (maps.remove less name) (λ q. (true && same_name name q) || freed q) m
less_removed less m freed name knows q =
    get_remove less name q
    ∙ (λ i. if same_name-comm q name i then None else knows q i)
    ∙ go (same_name name q) (freed q) where
      go : (a b : Bool)
          → (if a then None else (if b then None else maps.get m q))
          ≡ (if ((true && a) || b) then None else maps.get m q)
      go true b = refl
      go false b = refl

-- a sender has freed a name that its receiver had freed
pub less_retired : (less m : Marks) (freed : Name → Bool) (name : Name)
    → freed name ≡ true
    → KnowsLess less freed m
    → KnowsLess less (λ q. not (true && same_name name q) && freed q) (maps.remove m name)
less_retired less m freed name gone knows q =
    knows q
    ∙ go (same_name name q) refl
    ∙ sym (ap (λ (o : Option Mark). if (not (true && same_name name q) && freed q) then None else o)
    (get_remove m name q
    ∙ ap (λ (b : Bool). if b then None else maps.get m q) (same_name-comm q name)))
  where
    go : (a : Bool)
        → same_name name q ≡ a
        → (if freed q then None else maps.get m q)
        ≡ (if (not (true && a) && freed q) then None else (if a then None else maps.get m q))
    go true e =
        let same : freed q ≡ true = ap freed (sym (same_name-true name q e)) ∙ gone in
        ap (λ (b : Bool). if b then None else maps.get m q) same
    go false e = refl

-- no reception of a freed name is open
pub removed_unheard : (n : NodeData) (freed : Name → Bool) (name : Name)
    → AreUnheard n freed
    → maps.get n.receiving.entries name ≡ None
    → AreUnheard n (λ q. (true && same_name name q) || freed q)
removed_unheard n freed name none here q gone = go (same_name name q) refl gone where
  go : (a : Bool)
      → same_name name q ≡ a
      → ((true && a) || freed q) ≡ true
      → maps.get n.receiving.entries q ≡ None
  go true e gone = ap (λ (i : Name). maps.get n.receiving.entries i) (sym (same_name-true name q e))
      ∙ here
  go false e gone = none q gone

-- two ends of which a name's parts are handed over no more
abbrev pub forgetting : Direction → Name → Ends → Ends
forgetting d name e = record e { on_the_way = without d name e.on_the_way }

-- they follow a world still
pub forget : (c : Config) (first : Contents) (usual : Type 0) (d : Direction) (name : Name)
    (e : Ends)
    (parts : Came)
    → Leads c first usual e parts
    → Leads c first usual (forgetting d name e) parts
forget c first usual d name e parts l =
    let f : Follows c first usual e = l.follows in
    record {
      follows = record {
        state = f.state;
        events = f.events;
        tied = record {
          legal = f.tied.legal;
          shown = f.tied.shown;
          hands = f.tied.hands;
          held =
              held_without f.state.link.packets f.state.link.packets d name e.on_the_way
              (λ k p there other. there) f.tied.held;
          tells = f.tied.tells;
          alone = f.tied.alone;
        };
        is = ap (λ (y : Ends). record y { on_the_way = without d name e.on_the_way }) f.is;
      };
      comes = l.comes;
    }

-- The names that are freed.
use Rattle.std.proofs.Common.{◌≡◌, ◌∙◌, ap, refl, ℕ, Bool, true, false, if◌then◌else◌, List, [], ◌∷◌, ◌++◌}
use Rattle.std.specs.List.{AllByRecursion}
use Rattle.lpt_packet.specs.Names.{Name}
use Rattle.lpt_packet.specs.declared.direction.Direction.{Direction}
use Rattle.lpt_packet.specs.declared.direction.Direction.TheVariants.{Up, Down}
use Rattle.lpt_events.specs.declared.config.Config.{Config}
use Rattle.lpt_events.specs.declared.side.Side.TheVariants.{Craft}
use Rattle.lpt_ledger.specs.declared.state.State.{State}
use Rattle.lpt_ledger.specs.declared.state.State.TheVariants.{Free, Open, Closed}
use Rattle.lpt_node.specs.Nodes.{NodeData}
use Rattle.lpt_node.specs.Restarts.{name_retired}
use Rattle.lpt_apart.specs.Ends.{Pair, Do, pair_after, Free as FreeUp, Retire}
use Rattle.lpt_spacecraft.specs.Flights.{names_cleared, freed_as, is_closed, is_due, state_of, told_first}
use Rattle.lpt_spacecraft.specs.Uses.{NameUse}
use Rattle.lpt_spacecraft.specs.declared.told.Told.{Told}
use Rattle.lpt_spacecraft.specs.declared.told.Told.TheVariants.{Freed}
use Rattle.lpt_spacecraft_moves.specs.Moves.{after_moves, all_still_there, free_moves, CanMakeAll, IsOfCraft}

-- names were freed by moves of the spacecraft alone, and nothing else changed
pub record Clears (c : Config) (p : Pair) (x : NodeData × List NameUse × List Told) : Type 0 where
  pub own : AllByRecursion IsOfCraft (free_moves x.2)
  pub node : (after_moves c p (free_moves x.2)).ends.on_craft ≡ x.0
  pub memories : (after_moves c p (free_moves x.2)).ends.memories ≡ p.ends.memories
  pub tickets : (after_moves c p (free_moves x.2)).ends.tickets ≡ p.ends.tickets
  pub way : (after_moves c p (free_moves x.2)).ends.on_the_way
      ≡ all_still_there x.2 p.ends.on_the_way

-- the same, where the names may be freed
abbrev MayClear : Config → Pair → NodeData × List NameUse × List Told → Type 0
MayClear c p x = CanMakeAll c p (free_moves x.2) → Clears c p x

none : (c : Config) (p : Pair) (d : NodeData) (us : List NameUse)
    → p.ends.on_craft ≡ d
    → Clears c p (d, us, [])
none c p d us is =
    record { own = tt; node = is; memories = refl; tickets = refl; way = refl }

-- one name, and those behind it
one : (c : Config) (p : Pair) (d : NodeData) (way : Direction) (name : Name)
    (f : NodeData → NodeData × List NameUse × List Told)
    → p.ends.on_craft ≡ d
    → ((q : Pair) (e : NodeData) → q.ends.on_craft ≡ e → MayClear c q (f e))
    → MayClear c p (told_first (Freed way name ∷ []) (f (name_retired Craft d way name)))
one c p d Up name f is more can =
    let r = more (pair_after c p (FreeUp Up name)) (name_retired Craft d Up name)
    (ap (λ (e : NodeData). name_retired Craft e Up name) is) can.1 in
    record {
      own = (tt, r.own);
      node = r.node;
      memories = r.memories;
      tickets = r.tickets;
      way = r.way;
    }
one c p d Down name f is more can =
    let r = more (pair_after c p (Do (Retire Down name))) (name_retired Craft d Down name)
    (ap (λ (e : NodeData). name_retired Craft e Down name) is) can.1 in
    record {
      own = (tt, r.own);
      node = r.node;
      memories = r.memories;
      tickets = r.tickets;
      way = r.way;
    }

-- a name that is due, by its state
by_state : (c : Config) (p : Pair) (d : NodeData) (u : NameUse)
    (f : NodeData → NodeData × List NameUse × List Told) (s : State)
    → p.ends.on_craft ≡ d
    → ((q : Pair) (e : NodeData) → q.ends.on_craft ≡ e → MayClear c q (f e))
    → MayClear c p (told_first
    (if is_closed s then Freed u.direction u.name ∷ [] else [])
    (f (freed_as s d u.direction u.name)))
by_state c p d u f Closed is more = one c p d u.direction u.name f is more
by_state c p d u f Free is more = more p d is
by_state c p d u f Open is more = more p d is

-- a name, where it is due
by_due : (c : Config) (p : Pair) (d : NodeData) (u : NameUse) (us : List NameUse)
    (f : NodeData → NodeData × List NameUse × List Told) (due : Bool)
    → p.ends.on_craft ≡ d
    → ((q : Pair) (e : NodeData) → q.ends.on_craft ≡ e → MayClear c q (f e))
    → MayClear c p (if due then told_first
    (if is_closed (state_of d u) then Freed u.direction u.name ∷ [] else [])
    (f (freed_as (state_of d u) d u.direction u.name)) else (d, u ∷ us, []))
by_due c p d u us f true is more = by_state c p d u f (state_of d u) is more
by_due c p d u us f false is more = λ can. none c p d (u ∷ us) is

-- the names in front that are due
pub clear-run : (c : Config) (reuse : ℕ) (p : Pair) (d : NodeData) (us : List NameUse)
    → p.ends.on_craft ≡ d
    → MayClear c p (names_cleared reuse d us)
clear-run c reuse p d [] is = λ can. none c p d [] is
clear-run c reuse p d (u ∷ us) is =
    by_due c p d u us (λ e. names_cleared reuse e us) (is_due reuse d.clock u) is
    (λ q e same. clear-run c reuse q e us same)

-- ---- no job changes

retired_jobs : (d : NodeData) (way : Direction) (name : Name)
    → (name_retired Craft d way name).jobs ≡ d.jobs
retired_jobs d Up name = refl
retired_jobs d Down name = refl

freed_jobs : (d : NodeData) (s : State) (way : Direction) (name : Name)
    → (freed_as s d way name).jobs ≡ d.jobs
freed_jobs d Closed way name = retired_jobs d way name
freed_jobs d Free way name = refl
freed_jobs d Open way name = refl

jobs_if : (d : NodeData) (u : NameUse) (us : List NameUse) (x : NodeData × List NameUse × List Told)
    (ts : List Told) (due : Bool)
    → x.0.jobs ≡ d.jobs
    → (if due then told_first ts x else (d, u ∷ us, [])).0.jobs ≡ d.jobs
jobs_if d u us x ts true is = is
jobs_if d u us x ts false is = refl

pub clear-jobs : (reuse : ℕ) (d : NodeData) (us : List NameUse)
    → (names_cleared reuse d us).0.jobs ≡ d.jobs
clear-jobs reuse d [] = refl
clear-jobs reuse d (u ∷ us) =
    let s = state_of d u in
    jobs_if d u us (names_cleared reuse (freed_as s d u.direction u.name) us)
    (if is_closed s then Freed u.direction u.name ∷ [] else []) (is_due reuse d.clock u)
    (clear-jobs reuse (freed_as s d u.direction u.name) us ∙ freed_jobs d s u.direction u.name)

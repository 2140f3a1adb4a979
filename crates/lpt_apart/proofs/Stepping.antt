-- Two ends follow a world, whatever steps they do.
use Rattle.std.proofs.Common.{◌≡◌, ap, subst, refl, false, List, [], ◌∷◌, None}
use Rattle.lpt_memory.specs.Memories.{Contents}
use Rattle.lpt_events.specs.Configs.{IsConfig}
use Rattle.lpt_events.specs.declared.config.Config.{Config}
use Rattle.lpt_acts.specs.Acts.{Act}
use Rattle.lpt_events.specs.declared.lane.Lane.{Lane}
use Rattle.lpt_events.specs.declared.lane.Lane.TheVariants.{S1, S2, G1, G2}
use Rattle.lpt_link.specs.Links.{hand_of, empty_link}
use Rattle.lpt_model.specs.State.{State, no_state}
use Rattle.lpt_journal.specs.Replies.{history_after}
use Rattle.lpt_journal.specs.Whole as journal
use Rattle.lpt_refinement.proofs.Follows.{follows}
use Rattle.lpt_apart.specs.Ends.{PutOut, Ends, no_ends, Log, Step, Open, Send, Plain, Finish, Accept, Tick, Expire, Claim, Commit, Apply, Retire, Restart, after}
use Rattle.lpt_apart.specs.TwoEnds.{CanHappen, came_after}
use Rattle.lpt_apart.specs.Worlds.{CanRun, ends_reached, AreEventSteps, IsEventStep, IsReadyNode, IsAWorld, EndsAreAWorld}
use Rattle.lpt_apart.specs.Whole.{came}
use Rattle.lpt_apart.proofs.Accepting.{accept}
use Rattle.lpt_apart.proofs.Events.{open_step, send, plain, finish, tick, expire, claim, commit, apply, restart, ready}
use Rattle.lpt_apart.proofs.Retiring.{retire}
use Rattle.lpt_apart.proofs.Ties.{ends_of, IsTied, Came, Follows, Leads}

-- two ends that are tied to a world follow one after a step
step : (c : Config) (first : Contents) (usual : Type 0) (s : State) (ways : List PutOut)
    (log : Log)
    (es : List Act) (x : Step)
    → IsConfig c
    → IsTied c first usual s ways log es
    → (usual → IsEventStep x)
    → CanHappen c (ends_of s ways log) x
    → Leads c first usual (after c (ends_of s ways log) x)
    (λ d name k.
    came_after c (ends_of s ways log) x d name k
    (journal.came c (history_after c first es) d name k))
step c first usual s ways log es (Open d name m) good t of_events can =
    open_step c first usual s ways log es good t d name m can
step c first usual s ways log es (Send d name k) good t of_events can =
    send c first usual s ways log es good t d name k can
step c first usual s ways log es (Plain source flags service subtype body) good t of_events can =
    plain c first usual s ways log es good t source flags service subtype body can
step c first usual s ways log es (Finish d name) good t of_events can =
    finish c first usual s ways log es good t d name can
step c first usual s ways log es (Accept d b) good t of_events can =
    accept c first usual s ways log es good t d b can
step c first usual s ways log es (Tick side turn) good t of_events can =
    tick c first usual s ways log es good t side turn of_events can
step c first usual s ways log es (Expire side which) good t of_events can =
    expire c first usual s ways log es good t side which of_events can
step c first usual s ways log es (Claim w) good t of_events can =
    claim c first usual s ways log es good t w can
step c first usual s ways log es (Commit w) good t of_events can =
    commit c first usual s ways log es good t w can
step c first usual s ways log es (Apply how) good t of_events can =
    apply c first usual s ways log es good t how of_events can
step c first usual s ways log es (Retire d name) good t of_events can =
    retire c first usual s ways log es d name good t can
step c first usual s ways log es (Restart side) good t of_events can =
    restart c first usual s ways log es good t side can

no_hand : (l : Lane) → hand_of empty_link l ≡ None
no_hand S1 = refl
no_hand S2 = refl
no_hand G1 = refl
no_hand G2 = refl

-- two new ends follow a new world, to which nothing came
pub leads_off : (c : Config) (first : Contents) (usual : Type 0)
    → Leads c first usual (no_ends c first) (λ d name k. false)
leads_off c first usual = record {
  follows = record {
    state = no_state c first;
    events = [];
    tied = record {
      legal = tt;
      shown = follows.begins c first;
      hands = no_hand;
      held = tt;
      tells = refl;
      alone = λ u. tt;
    };
    is = refl;
  };
  comes = λ d name k. refl;
}

-- a step leads on, and what came with it came to the world
pub lead_on : (c : Config) (first : Contents) (usual : Type 0)
    → IsConfig c
    → (e : Ends) (x : Step) (parts : Came)
    → Leads c first usual e parts
    → (usual → IsEventStep x)
    → CanHappen c e x
    → Leads c first usual (after c e x) (λ d name k. came_after c e x d name k (parts d name k))
lead_on c first usual good e x parts l of_events can =
    let f : Follows c first usual e = l.follows in
    let before : Came = journal.came c (history_after c first f.events) in
    let same : before ≡ parts = (λ i d name k. l.comes d name k i) in
    subst (λ (p : Came). Leads c first usual (after c e x)
    (λ d name k. came_after c e x d name k (p d name k))) same
    (subst (λ (y : Ends). CanHappen c y x → Leads c first usual (after c y x)
    (λ d name k. came_after c y x d name k (before d name k))) f.is
    (step c first usual f.state e.on_the_way e.log f.events x good f.tied of_events) can)

-- two ends follow a world to which the same parts came, whatever steps they do
pub lead : (c : Config) (first : Contents) (usual : Type 0) (xs : List Step)
    → IsConfig c
    → (usual → AreEventSteps xs)
    → CanRun c first xs
    → Leads c first usual (ends_reached c first xs) (came c first xs)
lead c first usual [] good of_events can = leads_off c first usual
lead c first usual (x ∷ xs) good of_events can =
    lead_on c first usual good (ends_reached c first xs) x (came c first xs)
    (lead c first usual xs good (λ u. (of_events u).0) can.0) (λ u. (of_events u).1) can.1

-- what follows a world is one
pub is_a_world : (c : Config) (first : Contents) (usual : Type 0) (e : Ends)
    → IsConfig c
    → Follows c first usual e
    → IsAWorld c first usual e
is_a_world c first usual e good f = record {
  events = f.events;
  world = f.state;
  legal = f.tied.legal;
  shown = f.tied.shown;
  ground = ap (λ (y : Ends). y.on_ground) f.is;
  craft = ap (λ (y : Ends). y.on_craft) f.is;
  tickets = ap (λ (y : Ends). y.tickets) f.is;
  memories = ap (λ (y : Ends). y.memories) f.is;
  log = f.tied.tells;
  ready =
      subst (λ (y : Ends). IsReadyNode c y) f.is
      (ready c first usual f.state e.on_the_way e.log f.events good f.tied);
  alone = f.tied.alone;
}

pub ends_are_a_world : EndsAreAWorld
ends_are_a_world c first xs good can =
    is_a_world c first (AreEventSteps xs) (ends_reached c first xs) good
    (lead c first (AreEventSteps xs) xs good (λ u. u) can).follows

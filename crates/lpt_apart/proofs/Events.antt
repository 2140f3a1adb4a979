-- Each step but handing over and retiring is one event.
use Rattle.std.proofs.Common.{◌≡◌, ◌∙◌, ap, subst, refl, ℕ, Bool, true, false, if◌then◌else◌, List, [], ◌∷◌, length, Option, Some, None, is_some}
use Rattle.std.specs.Option.{option_map}
use Rattle.std.specs.Prelude.{IfSome, IsTrue, cond}
use Rattle.lpt_packet.specs.declared.direction.Direction.{Direction}
use Rattle.lpt_packet.specs.declared.direction.Direction.TheVariants.{Up, Down}
use Rattle.lpt_packet.specs.Names.{Name}
use Rattle.lpt_memory.specs.Memories.{Contents}
use Rattle.lpt_memory.specs.Readings.{Job}
use Rattle.lpt_events.specs.Configs.{IsConfig}
use Rattle.lpt_acts.specs.Acts.{IsAct, Act, act_of, Open, Send, Plain, Finish, Tick, Expire, Claim, Commit, Apply, Restart, Leaving, Execute, Refuse, Drop, Setting, On, Back, Within}
use Rattle.lpt_events.specs.Sides.{direction_to}
use Rattle.lpt_events.specs.declared.config.Config.{Config}
use Rattle.lpt_events.specs.declared.event.Event.{Event}
use Rattle.lpt_events.specs.declared.event.Event.TheVariants as event
use Rattle.lpt_events.specs.declared.lane.Lane.{Lane}
use Rattle.lpt_events.specs.declared.side.Side.{Side}
use Rattle.lpt_events.specs.declared.side.Side.TheVariants.{Ground, Craft}
use Rattle.lpt_events.specs.declared.worker.Worker.{Worker}
use Rattle.lpt_jobs.specs.Jobs.{Head, NoJob, NotReady, Ready, head_of, is_claimed}
use Rattle.lpt_link.specs.Links.{hand_of}
use Rattle.lpt_node.specs.Faults.{node_fault}
use Rattle.lpt_node.specs.Jobs.{FrontIsFor, refusal_apply_of}
use Rattle.lpt_node.specs.Requests.{plain_made}
use Rattle.lpt_node.specs.Sending.{part_sent}
use Rattle.lpt_node.specs.Nodes.{NodeData}
use Rattle.lpt_node.specs.Times.{expired_of, which_ends}
use Rattle.lpt_node.specs.declared.expired.Expired.{Expired as Ended}
use Rattle.lpt_model.specs.State.{State, after, as_list, committed_on, job_left, refusal_of, refusal_claim_by, refusal_commit_of}
use Rattle.lpt_model.specs.Tickets.{ticket_of}
use Rattle.lpt_refinement.specs.Shows.{Shows}
use Rattle.lpt_refinement.specs.Views.{views}
use Rattle.lpt_events.specs.declared.entry.Opening.{Opening}
use Rattle.lpt_journal.specs.Replies.{history_after}
use Rattle.lpt_journal.specs.Whole.{came}
use Rattle.lpt_apart.specs.Ends.{PutOut, put_out, Opened, Asked, Aborted, Left, Restarted, Log, is_same, with_report}
use Rattle.lpt_apart.specs.TwoEnds.{CanHappen, came_after}
use Rattle.lpt_apart.specs.Worlds.{IsEventStep, IsOfAnEvent, IsReadyNode}
use Rattle.lpt_apart.specs.Ends as steps
use Rattle.lpt_apart.specs.Told.{log_told}
use Rattle.lpt_apart.proofs.Links.{AllHeld, put_held, put_hands}
use Rattle.lpt_apart.proofs.Telling.{plain_told, expiry_told, leaving_told, leaving_opens}
use Rattle.lpt_apart.proofs.Ties.{ends_of, IsTied, Came, Leads, longer}

-- nothing came of what is opened now
pub open_came : (b : Bool) (o : Opening) (before : Bool)
    → (if is_some (cond b (Some o) None) then false else before) ≡ (if b then false else before)
open_came true o before = refl
open_came false o before = refl

module _ (c : Config) (first : Contents) (usual : Type 0) (s : State) (ways : List PutOut)
    (log : Log)
    (es : List Act)
    (good : IsConfig c) (t : IsTied c first usual s ways log es) where
  -- the world after an event
  abbrev state_after : Act → State
  state_after e = (after c (length (history_after c first es)) s e).0

  -- the parts that came with a step
  abbrev pub came_on : steps.Step → Came
  came_on x d name k =
      came_after c (ends_of s ways log) x d name k (came c (history_after c first es) d name k)

  -- an event is done: it leaves no hand full, what may be handed over is held, and the log is told
  once : (e : Act)
      → (usual → IsOfAnEvent e)
      → (ways' : List PutOut) (log' : Log)
      → IsAct e
      → refusal_of c s e ≡ None
      → ((l : Lane) → hand_of (state_after e).link l ≡ None)
      → AllHeld (state_after e).link.packets ways'
      → log_told c (history_after c first (e ∷ es)) ≡ log'
      → {parts : Came}
      → ((d : Direction) (name : Name) (k : ℕ)
      → came c (history_after c first (e ∷ es)) d name k ≡ parts d name k)
      → Leads c first usual (ends_of (state_after e) ways' log') parts
  once e alone ways' log' ranged free hands held tells comes =
      let more = longer c first s es e good t.legal t.shown ranged free in
      record {
        follows = record {
          state = state_after e;
          events = e ∷ es;
          tied = record {
            legal = more.legal;
            shown = more.shown;
            hands = hands;
            held = held;
            tells = tells;
            alone = λ u. (t.alone u, alone u);
          };
          is = refl;
        };
        comes = comes;
      }

  of : (x : Event) → usual → IsOfAnEvent (act_of x)
  of x u = record { event = x; is = refl }

  -- ---- sending

  pub open_step : (d : Direction) (name : Name) (m : List ℕ)
      → CanHappen c (ends_of s ways log) (steps.Open d name m)
      → Leads c first usual (steps.after c (ends_of s ways log) (steps.Open d name m))
      (came_on (steps.Open d name m))
  open_step Up name m can =
      once (Open Up name m) (of (event.Open Up name m)) ways (Opened Up name m ∷ log) can.0
      (ap (option_map node_fault) can.1)
      t.hands t.held
      (ap (λ (l : Log). Opened Up name m ∷ l) t.tells)
      (λ e i k. open_came (is_same Up name e i) _ (came c (history_after c first es) e i k))
  open_step Down name m can =
      once (Open Down name m) (of (event.Open Down name m)) ways (Opened Down name m ∷ log) can.0
      (ap (option_map node_fault) can.1)
      t.hands t.held
      (ap (λ (l : Log). Opened Down name m ∷ l) t.tells)
      (λ e i k. open_came (is_same Down name e i) _ (came c (history_after c first es) e i k))

  pub send : (d : Direction) (name : Name) (k : ℕ)
      → CanHappen c (ends_of s ways log) (steps.Send d name k)
      → Leads c first usual (steps.after c (ends_of s ways log) (steps.Send d name k))
      (came_on (steps.Send d name k))
  send Up name k can =
      let b : List ℕ = (part_sent Ground c s.on_ground name k).1 in
      once (Send Up name k) (of (event.Send Up name k)) (put_out ways Up (Some name) (b ∷ [])) log
      can.0
      (ap (option_map node_fault) can.1) t.hands
      (put_held s.link ways Up (Some name) (b ∷ []) t.held) t.tells (λ e i k. refl)
  send Down name k can =
      let b : List ℕ = (part_sent Craft c s.on_craft name k).1 in
      once (Send Down name k) (of (event.Send Down name k))
      (put_out ways Down (Some name) (b ∷ [])) log can.0
      (ap (option_map node_fault) can.1) t.hands
      (put_held s.link ways Down (Some name) (b ∷ []) t.held) t.tells (λ e i k. refl)

  pub plain : (source flags service subtype : ℕ) (body : List ℕ)
      → CanHappen c (ends_of s ways log) (steps.Plain source flags service subtype body)
      → Leads c first usual (steps.after c (ends_of s ways log)
      (steps.Plain source flags service subtype body))
      (came_on (steps.Plain source flags service subtype body))
  plain source flags service subtype body can =
      let b : List ℕ = (plain_made c s.on_ground source flags service subtype body).1 in
      once (Plain source flags service subtype body)
      (of (event.Plain source flags service subtype body)) (put_out ways Up None (b ∷ []))
      (Asked b ∷ log) can.0
      (ap (option_map node_fault) can.1) t.hands
      (put_held s.link ways Up None (b ∷ []) t.held)
      (plain_told c first s log es t.shown t.tells source flags service subtype body)
      (λ e i k. refl)

  pub finish : (d : Direction) (name : Name)
      → CanHappen c (ends_of s ways log) (steps.Finish d name)
      → Leads c first usual (steps.after c (ends_of s ways log) (steps.Finish d name))
      (came_on (steps.Finish d name))
  finish Up name can =
      once (Finish Up name) (of (event.Finish Up name)) ways log can.0
      (ap (option_map node_fault) can.1) t.hands t.held t.tells
      (λ e i k. refl)
  finish Down name can =
      once (Finish Down name) (of (event.Finish Down name)) ways log can.0
      (ap (option_map node_fault) can.1) t.hands
      t.held t.tells (λ e i k. refl)

  -- ---- time and restarts

  pub tick : (side : Side) (turn : Setting)
      → (usual → IsEventStep (steps.Tick side turn))
      → CanHappen c (ends_of s ways log) (steps.Tick side turn)
      → Leads c first usual (steps.after c (ends_of s ways log) (steps.Tick side turn))
      (came_on (steps.Tick side turn))
  tick Ground On of_events can =
      once (Tick Ground On) (of (event.Tick Ground)) ways log tt (ap (option_map node_fault) can)
      t.hands t.held t.tells
      (λ e i k. refl)
  tick Craft On of_events can =
      once (Tick Craft On) (of (event.Tick Craft)) ways log tt (ap (option_map node_fault) can)
      t.hands t.held t.tells
      (λ e i k. refl)
  tick Ground (Within l) of_events can =
      once (Tick Ground (Within l)) (λ u. absurd (of_events u)) ways log tt refl t.hands t.held
      t.tells (λ e i k. refl)
  tick Craft (Within l) of_events can =
      once (Tick Craft (Within l)) (λ u. absurd (of_events u)) ways log tt refl t.hands t.held
      t.tells (λ e i k. refl)
  tick Ground (Back n) of_events can =
      once (Tick Ground (Back n)) (λ u. absurd (of_events u)) ways log tt refl t.hands t.held
      t.tells (λ e i k. refl)
  tick Craft (Back n) of_events can =
      once (Tick Craft (Back n)) (λ u. absurd (of_events u)) ways log tt refl t.hands t.held
      t.tells (λ e i k. refl)

  expiry : (side : Side) (which : Option Name)
      → (usual → IsEventStep (steps.Expire side which))
      → usual
      → IsOfAnEvent (Expire side which)
  expiry side None of_events u = of (event.Expire side) u
  expiry side (Some name) of_events u = absurd (of_events u)

  pub expire : (side : Side) (which : Option Name)
      → (usual → IsEventStep (steps.Expire side which))
      → CanHappen c (ends_of s ways log) (steps.Expire side which)
      → Leads c first usual (steps.after c (ends_of s ways log) (steps.Expire side which))
      (came_on (steps.Expire side which))
  expire Ground which of_events can =
      let x : NodeData × Ended =
      expired_of Ground c s.on_ground (which_ends c s.on_ground which) in
      let bs : List (List ℕ) = as_list x.1.packet in
      let free : refusal_of c s (Expire Ground which) ≡ None = ap (option_map node_fault) can in
      once (Expire Ground which) (expiry Ground which of_events) (put_out ways Down None bs)
      (Aborted (direction_to Ground) x.1.name ∷ log) tt free
      (λ l. put_hands s.link Down None bs l ∙ t.hands l)
      (put_held s.link ways Down None bs t.held)
      (expiry_told c first s log es t.shown t.tells Ground which
      (longer c first s es (Expire Ground which) good t.legal t.shown tt free)) (λ e i k. refl)
  expire Craft which of_events can =
      let x : NodeData × Ended = expired_of Craft c s.on_craft (which_ends c s.on_craft which) in
      let bs : List (List ℕ) = as_list x.1.packet in
      let free : refusal_of c s (Expire Craft which) ≡ None = ap (option_map node_fault) can in
      once (Expire Craft which) (expiry Craft which of_events) (put_out ways Down None bs)
      (Aborted (direction_to Craft) x.1.name ∷ log) tt free
      (λ l. put_hands s.link Down None bs l ∙ t.hands l)
      (put_held s.link ways Down None bs t.held)
      (expiry_told c first s log es t.shown t.tells Craft which
      (longer c first s es (Expire Craft which) good t.legal t.shown tt free)) (λ e i k. refl)

  pub restart : (side : Side)
      → CanHappen c (ends_of s ways log) (steps.Restart side)
      → Leads c first usual (steps.after c (ends_of s ways log) (steps.Restart side))
      (came_on (steps.Restart side))
  restart Ground can =
      once (Restart Ground) (of (event.Restart Ground)) ways (Restarted Ground ∷ log) tt refl
      t.hands t.held
      (ap (λ (l : Log). Restarted Ground ∷ l) t.tells) (λ e i k. refl)
  restart Craft can =
      once (Restart Craft) (of (event.Restart Craft)) ways (Restarted Craft ∷ log) tt refl t.hands
      t.held
      (ap (λ (l : Log). Restarted Craft ∷ l) t.tells) (λ e i k. refl)

  -- ---- jobs

  pub claim : (w : Worker)
      → CanHappen c (ends_of s ways log) (steps.Claim w)
      → Leads c first usual (steps.after c (ends_of s ways log) (steps.Claim w))
      (came_on (steps.Claim w))
  claim w can =
      once (Claim w) (of (event.Claim w)) ways log tt
      (ap (refusal_claim_by s.on_craft) can.0 ∙ ap (option_map node_fault) can.1) t.hands t.held
      t.tells (λ e i k. refl)

  pub commit : (w : Worker)
      → CanHappen c (ends_of s ways log) (steps.Commit w)
      → Leads c first usual (steps.after c (ends_of s ways log) (steps.Commit w))
      (came_on (steps.Commit w))
  commit w can = go (ticket_of s.tickets w) refl can where
    go : (o : Option Job)
        → ticket_of s.tickets w ≡ o
        → is_some o ≡ true
        → Leads c first usual (steps.committed_on c (ends_of s ways log) w o)
        (came c (history_after c first es))
    go None e some = absurd cc
    go (Some j) e some =
        let free : refusal_of c s (Commit w) ≡ None = ap refusal_commit_of e in
        let more = longer c first s es (Commit w) good t.legal t.shown tt free in
        record {
          follows = record {
            state = (committed_on c s w (Some j)).0;
            events = Commit w ∷ es;
            tied = record {
              legal = more.legal;
              shown =
                  subst (λ (o : Option Job). Shows (committed_on c s w o).0
                  (views c first (history_after c first (Commit w ∷ es))))
                  e more.shown;
              hands = t.hands;
              held = t.held;
              tells = t.tells;
              alone = λ u. (t.alone u, of (event.Commit w) u);
            };
            is = refl;
          };
          comes = λ d name k. refl;
        }

  leaving : (how : Leaving)
      → (usual → IsEventStep (steps.Apply how))
      → usual
      → IsOfAnEvent (Apply how)
  leaving Execute h u = of event.Apply u
  leaving (Refuse code) h u = absurd (h u)
  leaving Drop h u = absurd (h u)

  pub apply : (how : Leaving)
      → (usual → IsEventStep (steps.Apply how))
      → CanHappen c (ends_of s ways log) (steps.Apply how)
      → Leads c first usual (steps.after c (ends_of s ways log) (steps.Apply how))
      (came_on (steps.Apply how))
  apply how of_events can =
      let free : refusal_of c s (Apply how) ≡ None = ap (option_map node_fault) can in
      let x = job_left how c s.on_craft s.memories in
      once (Apply how) (leaving how of_events) (put_out ways Down None x.0.1.packets)
      (Left how ∷ with_report log x.0.1.opened) tt free
      (λ l. put_hands s.link Down None x.0.1.packets l ∙ t.hands l)
      (put_held s.link ways Down None x.0.1.packets t.held)
      (leaving_told c first s log es t.shown t.tells how
      (longer c first s es (Apply how) good t.legal t.shown tt free))
      (λ e i k. ap (λ (b : Bool). if b then false else came c (history_after c first es) e i k)
      (leaving_opens c first s log es t.shown t.tells how
      (longer c first s es (Apply how) good t.legal t.shown tt free) e i))

  -- ---- what the node asks for besides

  commits : (w : Worker) (j : Job)
      → ticket_of s.tickets w ≡ Some j
      → j.boot ≡ s.on_craft.boot
      → IsTrue (is_claimed s.on_craft.jobs j.job)
  commits w j is =
      let free : refusal_of c s (Commit w) ≡ None = ap refusal_commit_of is in
      subst (λ (o : Option Job). IfSome o
      (λ j. j.boot ≡ s.on_craft.boot → IsTrue (is_claimed s.on_craft.jobs j.job)))
      is (longer c first s es (Commit w) good t.legal t.shown tt free).ready

  executes : FrontIsFor (head_of s.on_craft.jobs.jobs) c.apid s.memories
  executes = go (head_of s.on_craft.jobs.jobs) refl where
    go : (x : Head)
        → head_of s.on_craft.jobs.jobs ≡ x
        → FrontIsFor x c.apid s.memories
    go NoJob is = tt
    go NotReady is = tt
    go (Ready r) is =
        let free : refusal_of c s (Apply Execute) ≡ None =
        ap (λ (x : Head). option_map node_fault (refusal_apply_of x)) is in
        subst (λ (x : Head). FrontIsFor x c.apid s.memories) is
        (longer c first s es (Apply Execute) good t.legal t.shown tt free).ready

  pub ready : IsReadyNode c (ends_of s ways log)
  ready = record { commits = commits; executes = executes }

-- A large message that came down and reads as a dump report was opened by an execution.
use Rattle.std.proofs.Common.{◌≡◌, ◌∙◌, ap, sym, subst, refl, ℕ, zero, suc, ◌⊎◌, inl, inr, List, [], ◌∷◌, length, take, Option, Some, None}
use Rattle.std.specs.List.{slice_get}
use Rattle.std.specs.Option.{option_map}
use Rattle.lpt_packet.specs.declared.direction.Direction.{Direction}
use Rattle.lpt_packet.specs.declared.direction.Direction.TheVariants.{Up, Down}
use Rattle.lpt_packet.specs.Names.{Name}
use Rattle.lpt_ledger.specs.Marks.{Marks}
use Rattle.lpt_memory.specs.Effects.{dump_body}
use Rattle.lpt_memory.specs.Memories.{Contents}
use Rattle.lpt_memory.specs.Readings.{Job}
use Rattle.lpt_events.specs.Arrivals.{arrival_in}
use Rattle.lpt_events.specs.Configs.{IsConfig}
use Rattle.lpt_events.specs.Sides.{receiver_side}
use Rattle.lpt_events.specs.declared.config.Config.{Config}
use Rattle.lpt_events.specs.declared.entry.Opening.{Opening}
use Rattle.lpt_acts.specs.Acts.{Act}
use Rattle.lpt_acts.specs.Acts as act
use Rattle.lpt_events.specs.declared.outcome.Outcome.{Outcome}
use Rattle.lpt_events.specs.declared.outcome.Outcome.TheVariants.{Broken}
use Rattle.lpt_events.specs.declared.side.Side.TheVariants.{Ground, Craft}
use Rattle.lpt_events.specs.declared.worker.Worker.{Worker}
use Rattle.lpt_node.specs.declared.accepted.Accepted.{Accepted}
use Rattle.lpt_node.specs.Accepting.{packet_accepted}
use Rattle.lpt_node.specs.Faults.{node_fault}
use Rattle.lpt_node.specs.Jobs.{Execution, refusal_apply}
use Rattle.lpt_node.specs.Nodes.{NodeData}
use Rattle.lpt_node.specs.Requests.{plain_made}
use Rattle.lpt_model.specs.State.{State, add_opening, job_left, refusal_of, released_of}
use Rattle.lpt_model.specs.Tickets.{ticket_of}
use Rattle.lpt_journal.specs.Executions.{front_opens}
use Rattle.lpt_journal.specs.Jobs.{left_by}
use Rattle.lpt_journal.specs.Journal.{History}
use Rattle.lpt_journal.specs.Replies.{entry, history_after}
use Rattle.lpt_journal.specs.Senders.{opened}
use Rattle.lpt_journal.proofs.TestLemmas.{no_place}
use Rattle.lpt_apart.specs.Ends.{Ends, node_at, Fact, Opened, Asked, Released, Aborted, Left, Retired, Restarted, Log, with_abortion, Pair, Move, Do, Free, pair_after, Open, Send, Plain, Finish, Accept, Tick, Expire, Claim, Commit, Apply, Retire, Restart, with_release, with_report, committed_on}
use Rattle.lpt_apart.specs.TwoEnds.{requests_executed, AllDue, IsDue, CanMove}
use Rattle.lpt_apart.specs.Moves.{came_to, CanMoveAll}
use Rattle.lpt_apart.specs.Told.{with_openings}
use Rattle.lpt_apart.proofs.Lessening.{left_less}
use Rattle.lpt_apart.proofs.Logs.{opened_told}
use Rattle.lpt_apart.proofs.Moving.{apart, ends_apart_keep_the_promise}
use Rattle.lpt_apart.proofs.Queues.{executed_told}
use Rattle.lpt_apart.proofs.Telling.{leaving_told}
use Rattle.lpt_apart.proofs.Ties.{IsLonger, longer}
use Rattle.lpt_passes.specs.Reported.{IsTelemetryDown, WasOpened}
use Rattle.lpt_passes.proofs.CarriedLemmas.{opened_dump_is_memory}
use Rattle.lpt_passes.proofs.AskedLemmas.{awaited_opened}
use Rattle.lpt_passes.proofs.GrowthLemmas.{Grows, move_grows}
use Rattle.lpt_passes.proofs.PassLemmas.{of_journal}
use Rattle.lpt_passes.specs.Passes.{IsDumpedIn, OpensNoDump, JoinedDumpIsMemory}

-- ---- what an execution opens

-- the message of a fact, where it is an opening
abbrev of_fact : Fact → List ℕ
of_fact (Opened d name m) = m
of_fact x = []

abbrev of_log : Log → List ℕ
of_log [] = []
of_log (x ∷ log) = of_fact x

-- an opening that is told as this one has its message
told_so : (new : List Opening) (name : Name) (m : List ℕ)
    → with_openings new [] ≡ Opened Down name m ∷ []
    → (o : Opening) × (slice_get new 0 ≡ Some o) × (o.message ≡ m)
told_so [] name m e = absurd cc
told_so (o ∷ rest) name m e = (o, refl, ap of_log e)

-- the dump that an execution opened the report of
opened_dump : (c : Config) (first : Contents) (xs : List Move) (how : act.Leaving) (name : Name)
    (m : List ℕ) (to : ℕ) (body : List ℕ)
    → IsConfig c
    → CanMoveAll c first (Do (Apply how) ∷ xs)
    → (job_left how c (came_to c first xs).ends.on_craft
    (came_to c first xs).ends.memories).0.1.opened ≡ Some (name, m)
    → IsTelemetryDown c (record { direction = Down; octets = m }) to 6 6 body
    → IsDumpedIn c first (pair_after c (came_to c first xs) (Do (Apply how))).ends.log to body
opened_dump c first xs how name m to body good can opens is =
    let p : Pair = came_to c first xs in
    let but = (apart c first ⊥ xs good (λ u. absurd u) can.0).but in
    let w : Ends = but.whole in
    let k : Marks = but.on_craft in
    let f = but.less.leads.follows in
    let s : State = f.state in
    let es : List Act = f.events in
    let h : History = history_after c first es in
    let opened_by : Ends → Option (Name × List ℕ) =
    λ e. (job_left how c e.on_craft e.memories).0.1.opened in
    let can_whole : refusal_apply w.on_craft ≡ None =
    subst (λ (e : Ends). refusal_apply e.on_craft ≡ None) (sym but.is) can.1 in
    let free : refusal_of c s (act.Apply how) ≡ None =
    ap (option_map node_fault) (ap (λ (e : Ends). refusal_apply e.on_craft) f.is ∙ can_whole) in
    let more : IsLonger c first s es (act.Apply how) =
    longer c first s es (act.Apply how) good f.tied.legal f.tied.shown tt free in
    let o = (job_left how c s.on_craft s.memories).0.1.opened in
    let same : o ≡ Some (name, m) =
    ap opened_by f.is
    ∙ sym (ap (λ (x : (NodeData × Execution) × Contents). x.0.1.opened)
    (left_less how c k w.on_craft w.memories))
    ∙ ap opened_by but.is
    ∙ opens in
    let made : add_opening (opened h) (length h) o ≡ opened (entry c first h (act.Apply how) ∷ h) =
    ap (λ (os : List Opening). add_opening os (length h) o) (sym f.tied.shown.opened)
    ∙ more.shown.opened in
    let it =
    told_so (front_opens c first h how) name m
    (opened_told (opened h) (length h) o (front_opens c first h how) [] made
    ∙ ap (λ (x : Option (Name × List ℕ)). with_report [] x) same) in
    let was : WasOpened c first (act.Apply how ∷ es) m = record {
      number = 0;
      entry = entry c first h (act.Apply how);
      is_there = refl;
      how = how;
      applies = refl;
      place = 0;
      opening = it.0;
      opens = it.1;
      is = it.2;
    } in
    of_journal c first (history_after c first (act.Apply how ∷ es)) _ to body
    ((λ i. requests_executed (Left how ∷ with_report ((sym (ap (λ (e : Ends). e.log) but.is)) i)
    ((opens ∙ sym same) i)))
    ∙ sym (ap requests_executed
    (leaving_told c first s w.log es f.tied.shown f.tied.tells how more))
    ∙ executed_told c first (act.Apply how ∷ es) more.legal)
    (opened_dump_is_memory c first (act.Apply how ∷ es) m to body good more.legal was is)

-- ---- what was dumped stays so

take_same : {A : Type 0} (xs ys : List A) (n : ℕ) (y : A)
    → slice_get xs n ≡ Some y
    → ((k : ℕ) (m : A) → slice_get xs k ≡ Some m → slice_get ys k ≡ Some m)
    → take n xs ≡ take n ys
take_same [] ys n y e all = absurd (no_place n y e)
take_same (x ∷ xs) ys zero y e all = refl
take_same (x ∷ xs) [] (suc n) y e all = absurd (no_place 0 x (all 0 x refl))
take_same (x ∷ xs) (z ∷ ys) (suc n) y e all =
    let first : Some z ≡ Some x = all 0 x refl in
    let same : x ≡ z = cc in
    λ i. same i ∷ take_same xs ys n y e (λ k m f. all (suc k) m f) i

dumped_grows : (c : Config) (first : Contents) (old new : Log) (to : ℕ) (body : List ℕ)
    → Grows old new
    → IsDumpedIn c first old to body
    → IsDumpedIn c first new to body
dumped_grows c first old new to body grows it = record {
  place = it.place;
  message = it.message;
  is_executed = grows it.place it.message it.is_executed;
  of_source = it.of_source;
  memory = it.memory;
  ranges = it.ranges;
  is_dump = it.is_dump;
  is_body =
      it.is_body
      ∙ ap (λ ms. dump_body it.memory it.ranges (left_by c.apid ms first))
      (take_same (requests_executed old) (requests_executed new) it.place it.message it.is_executed
      grows);
}

-- ---- where an opening comes from

-- it stood in the log
abbrev Stood : Log → Name → List ℕ → Type 0
Stood log name m = (k : ℕ) × (slice_get log k ≡ Some (Opened Down name m))

-- or this move made it
abbrev IsMade : Config → Pair → Move → Name → List ℕ → Type 0
IsMade c p x name m =
    (x ≡ Do (Open Down name m))
    ⊎ ((how : act.Leaving) × (x ≡ Do (Apply how))
    × ((job_left how c p.ends.on_craft p.ends.memories).0.1.opened ≡ Some (name, m)))

-- what isn't the newest fact stood there
stood : (y z : Fact) (log : Log) (k : ℕ)
    → (y ≡ z → ⊥)
    → slice_get (y ∷ log) k ≡ Some z
    → (j : ℕ) × (slice_get log j ≡ Some z)
stood y z log zero differs e = absurd (differs (let same : y ≡ z = cc in same))
stood y z log (suc k) differs e = (k, e)

released_stood : (log : Log) (of : Option (Direction × Name)) (o : Option (List ℕ)) (name : Name)
    (m : List ℕ) (k : ℕ)
    → slice_get (with_release log of o) k ≡ Some (Opened Down name m)
    → Stood log name m
released_stood log of None name m k e = (k, e)
released_stood log of (Some b) name m k e =
    stood (Released of b) (Opened Down name m) log k (λ same. cc) e

aborted_stood : (log : Log) (d : Direction) (o : Outcome) (name : Name) (m : List ℕ) (k : ℕ)
    → slice_get (with_abortion d o log) k ≡ Some (Opened Down name m)
    → Stood log name m
aborted_stood log d (Broken i why) name m k e =
    stood (Aborted d i) (Opened Down name m) log k (λ same. cc) e
aborted_stood log d o name m k e = (k, e)

committed_stood : (c : Config) (e : Ends) (w : Worker) (o : Option Job) (name : Name) (m : List ℕ)
    (k : ℕ)
    → slice_get (committed_on c e w o).log k ≡ Some (Opened Down name m)
    → Stood e.log name m
committed_stood c e w None name m k f = (k, f)
committed_stood c e w (Some t) name m k f = (k, f)

-- of an execution
reported_is : (log : Log) (o : Option (Name × List ℕ)) (name : Name) (m : List ℕ) (k : ℕ)
    → slice_get (with_report log o) k ≡ Some (Opened Down name m)
    → Stood log name m ⊎ (o ≡ Some (name, m))
reported_is log None name m k e = inl (k, e)
reported_is log (Some x) name m zero e =
    let fact : Opened Down x.0 x.1 ≡ Opened Down name m = cc in
    let a : x.0 ≡ name = cc in
    let b : x.1 ≡ m = cc in
    inr (λ i. Some (a i, b i))
reported_is log (Some x) name m (suc k) e = inl (k, e)

opened_is : (d : Direction) (i : Name) (b : List ℕ) (name : Name) (m : List ℕ)
    → Opened d i b ≡ Opened Down name m
    → Do (Open d i b) ≡ Do (Open Down name m)
opened_is d i b name m e =
    let x : d ≡ Down = cc in
    let y : i ≡ name = cc in
    let z : b ≡ m = cc in
    λ j. Do (Open (x j) (y j) (z j))

new_opening : (c : Config) (p : Pair) (x : Move) (name : Name) (m : List ℕ) (k : ℕ)
    → slice_get (pair_after c p x).ends.log k ≡ Some (Opened Down name m)
    → Stood p.ends.log name m ⊎ IsMade c p x name m
new_opening c p (Do (Open d i b)) name m zero e =
    let fact : Opened d i b ≡ Opened Down name m = cc in
    inr (inl (opened_is d i b name m fact))
new_opening c p (Do (Open d i b)) name m (suc k) e = inl (k, e)
new_opening c p (Do (Send Up i n)) name m k e = inl (k, e)
new_opening c p (Do (Send Down i n)) name m k e = inl (k, e)
new_opening c p (Do (Plain source flags service subtype body)) name m k e =
    inl (stood (Asked (plain_made c p.ends.on_ground source flags service subtype body).1)
    (Opened Down name m) p.ends.log k (λ same. cc) e)
new_opening c p (Do (Finish Up i)) name m k e = inl (k, e)
new_opening c p (Do (Finish Down i)) name m k e = inl (k, e)
new_opening c p (Do (Accept d b)) name m k e =
    let x : NodeData × Accepted =
    packet_accepted (receiver_side d) c (node_at p.ends (receiver_side d)) (arrival_in c d b) in
    let before =
    aborted_stood (with_release p.ends.log (released_of d x.1.outcome) x.1.released) d x.1.outcome
    name m k e in
    inl
    (released_stood p.ends.log (released_of d x.1.outcome) x.1.released name m before.0 before.1)
new_opening c p (Do (Tick Ground turn)) name m k e = inl (k, e)
new_opening c p (Do (Tick Craft turn)) name m k e = inl (k, e)
new_opening c p (Do (Expire side which)) name m k e =
    inl (stood _ (Opened Down name m) p.ends.log k (λ same. cc) e)
new_opening c p (Do (Claim w)) name m k e = inl (k, e)
new_opening c p (Do (Commit w)) name m k e =
    inl (committed_stood c p.ends w (ticket_of p.ends.tickets w) name m k e)
new_opening c p (Do (Apply how)) name m k e =
    let o = (job_left how c p.ends.on_craft p.ends.memories).0.1.opened in
    let before =
    stood (Left how) (Opened Down name m) (with_report p.ends.log o) k (λ same. cc) e in
    elim (reported_is p.ends.log o name m before.0 before.1) [
      | inl old ↦ inl old
      | inr new ↦ inr (inr (how, refl, new))
    ]
new_opening c p (Do (Retire d i)) name m k e =
    inl (stood (Retired d i) (Opened Down name m) p.ends.log k (λ same. cc) e)
new_opening c p (Do (Restart side)) name m k e =
    inl (stood (Restarted side) (Opened Down name m) p.ends.log k (λ same. cc) e)
new_opening c p (Free Up i) name m k e = inl (k, e)
new_opening c p (Free Down i) name m k e = inl (k, e)

-- ---- each dump that was opened

all_opened_dump : (c : Config) (first : Contents) (xs : List Move) (to : ℕ) (name : Name)
    (m body : List ℕ) (k : ℕ)
    → IsConfig c
    → CanMoveAll c first xs
    → OpensNoDump c xs to
    → slice_get (came_to c first xs).ends.log k ≡ Some (Opened Down name m)
    → IsTelemetryDown c (record { direction = Down; octets = m }) to 6 6 body
    → IsDumpedIn c first (came_to c first xs).ends.log to body
all_opened_dump c first [] to name m body k good can none f is =
    absurd (no_place k (Opened Down name m) f)
all_opened_dump c first (x ∷ xs) to name m body k good can none f is =
    let p : Pair = came_to c first xs in
    elim (new_opening c p x name m k f) [
      | inl old ↦
          dumped_grows c first p.ends.log (pair_after c p x).ends.log to body (move_grows c p x)
          (all_opened_dump c first xs to name m body old.0 good can.0
          (λ j i b s. none (suc j) i b s) old.1 is)
      | inr made ↦ elim made [
        | inl opens ↦ absurd (none 0 name m body (ap Some opens) is)
        | inr runs ↦
            subst (λ (y : Move). IsDumpedIn c first (pair_after c p y).ends.log to body)
            (sym runs.1)
            (opened_dump c first xs runs.0 name m to body good
            (can.0, subst (λ (y : Move). CanMove c p y) runs.1 can.1) runs.2 is)
      ]
    ]

-- ---- what came down

-- a message that was released to ground was opened
released_opened : (log : Log) (k : ℕ) (name : Name) (m : List ℕ)
    → AllDue log
    → slice_get log k ≡ Some (Released (Some (Down, name)) m)
    → (j : ℕ) × (name : Name) × (slice_get log j ≡ Some (Opened Down name m))
released_opened [] k name m all e = absurd (no_place k (Released (Some (Down, name)) m) e)
released_opened (x ∷ log) zero name m all e =
    let same : x ≡ Released (Some (Down, name)) m = cc in
    let it =
    awaited_opened Down log name m (subst (λ (y : Fact). IsDue y log) same all.1) in
    (suc it.0, it.1, it.2)
released_opened (x ∷ log) (suc k) name m all e =
    let it = released_opened log k name m all.0 e in (suc it.0, it.1, it.2)

pub joined_dump_is_memory : JoinedDumpIsMemory
joined_dump_is_memory c first xs to m body good can none came is =
    let log : Log = (came_to c first xs).ends.log in
    let promised = ends_apart_keep_the_promise c first xs good can in
    let it = released_opened log came.place came.name m promised.due came.is_there in
    all_opened_dump c first xs to it.1 m body it.0 good can none it.2 is

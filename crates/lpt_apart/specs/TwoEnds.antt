-- What two ends apart keep: what they assume, the promise, and that nothing that came whole is
-- withheld. Each has a clock and limits of its own; all else of their configurations is the same.
use Rattle.std.specs.Prelude.{ℕ, Bool, not, ◌&&◌, List, [], ◌∷◌, Option, Some, ◌≡◌, ◌<◌, true, false, if◌then◌else◌, ◌++◌, length, take, drop, None, is_some, Contains, ⊤, ◌⊎◌, slice_get, ◌||◌, ◌+◌, ◌≤◌}
use Rattle.lpt_packet.specs.declared.direction.Direction.{Direction}
use Rattle.lpt_packet.specs.Names.{Name}
use Rattle.lpt_memory.specs.Memories.{Contents}
use Rattle.lpt_events.specs.declared.config.Config.{Config}
use Rattle.lpt_events.specs.declared.side.Side.TheVariants.{Craft}
use Rattle.lpt_events.specs.Lanes.{same_direction}
use Rattle.lpt_node.specs.Nodes.{NodeData, no_data}
use Rattle.lpt_model.specs.Tickets.{ticket_of}
use Rattle.lpt_acts.specs.Acts.{Execute, IsAct, Setting, On, Back, Within, Limits, with_limits}
use Rattle.lpt_events.specs.declared.outcome.Outcome.{Outcome}
use Rattle.lpt_journal.specs.Jobs.{went_up, left_by}
use Rattle.std.specs.FinMap as maps
use Rattle.lpt_packet.specs.declared.direction.Direction.TheVariants.{Down}
use Rattle.lpt_memory.specs.Readings.{Source}
use Rattle.lpt_events.specs.Arrivals.{Arrival, ARequest, APart, arrival_in}
use Rattle.lpt_events.specs.Sides.{sender_side, receiver_side, same_side}
use Rattle.lpt_acts.specs.Acts as act
use Rattle.lpt_ledger.specs.States.{state_at}
use Rattle.lpt_ledger.specs.declared.state.State.TheVariants.{Closed}
use Rattle.lpt_node.specs.Accepting.{packet_accepted}
use Rattle.lpt_node.specs.Jobs.{refusal_claim, refusal_apply}
use Rattle.lpt_node.specs.Requests.{refusal_plain}
use Rattle.lpt_node.specs.Sending.{refusal_open, refusal_send, refusal_finish}
use Rattle.lpt_node.specs.Times.{refusal_tick, can_set_back, refusal_end}
use Rattle.lpt_model.specs.State.{job_left}
use Rattle.lpt_events.specs.Configs.{IsConfig}
use Rattle.lpt_jobs.specs.Jobs.{head_of, Ready}
use Rattle.lpt_part.specs.Splitting.{part_count}
use Rattle.lpt_events.specs.declared.reply.Answer.TheVariants.{Delivered}
use Rattle.lpt_journal.specs.Whole as journal
use Rattle.lpt_apart.specs.Ends.{Fact, Log, is_same, PutOut, Ends, no_ends, node_at, Step, Pair, no_pair, Move, after_all, Opened, Asked, Released, Aborted, Left, Retired, Restarted, Open, Send, Plain, Finish, Accept, Tick, Expire, Claim, Commit, Apply, Retire, Restart, Do, Free}

-- ---- what is assumed

-- a configuration whose clock begins so many ticks later
abbrev pub later : (ticks : ℕ) → Config → Config
later ticks c = record c { clock = ticks + c.clock }

-- what an end has of its own: by how many ticks its clock begins later, and its limits
pub record Own : Type 0 where
  pub ticks : ℕ
  pub limits : Limits

-- the configuration of an end that has this of its own
--
-- Assumed: Both ends have the same APID, part size and mode.
abbrev pub own_config : Own → Config → Config
own_config o c = with_limits o.limits (later o.ticks c)

-- two new ends: ground's clock begins so many ticks later; the spacecraft has this of its own
abbrev pub no_pair_later : Config → Contents → (on_ground : ℕ) → (on_craft : Own) → Pair
no_pair_later c first g k =
    record (no_pair c first) {
      ends = record (no_ends c first) {
        on_ground = no_data (later g c);
        on_craft = no_data (own_config k c);
      };
    }

-- the octets are of what was put out in this direction and may be handed over still
pub record IsOnTheWay (e : Ends) (d : Direction) (b : List ℕ) : Type 0 where
  pub place : ℕ
  pub packet : PutOut
  pub there : slice_get e.on_the_way place ≡ Some packet
  pub goes : packet.direction ≡ d
  pub octets : packet.octets ≡ b

-- whether what comes to a node is neither a part nor a plain request
abbrev pub is_harmless : Arrival → Bool
is_harmless (ARequest b) = false
is_harmless (APart q) = false
is_harmless _ = true

-- the network may hand octets to the node that receives in this direction
--
-- Assumed: Each plain request or part that comes was sent by the other end, and each part was
-- sent after its receiver last freed its name: no damage passes the 16-bit checksum, no octets
-- inside a packet are taken for one, nobody forges.
abbrev pub MayCome : Config → Ends → Direction → List ℕ → Type 0
MayCome c e d b = IsOnTheWay e d b ⊎ (is_harmless (arrival_in c d b) ≡ true)

-- a name can be retired: its sender is closed, and no reception of it is open
pub record IsOver (e : Ends) (d : Direction) (name : Name) : Type 0 where
  pub closed : state_at (node_at e (sender_side d)).sending.ledger name ≡ Closed
  pub unheard : is_some (maps.get (node_at e (receiver_side d)).receiving.entries name) ≡ false

-- a clock can turn so: it isn't at its end; or it can be set back
abbrev pub CanTurn : Setting → NodeData → Type 0
CanTurn On d = refusal_tick d ≡ None
CanTurn (Back n) d = can_set_back n d ≡ true
CanTurn (Within l) d = ⊤

-- a step can happen: its numbers are of their types, and the node doesn't refuse it
abbrev pub CanHappen : Config → Ends → Step → Type 0
CanHappen c e (Open d name m) =
    IsAct (act.Open d name m)
    × (refusal_open c (node_at e (sender_side d)) name (length m) ≡ None)
CanHappen c e (Send d name k) =
    IsAct (act.Send d name k) × (refusal_send c (node_at e (sender_side d)) name k ≡ None)
CanHappen c e (Plain source flags service subtype body) =
    IsAct (act.Plain source flags service subtype body)
    × (refusal_plain c service subtype (length body) ≡ None)
CanHappen c e (Finish d name) =
    IsAct (act.Finish d name) × (refusal_finish (node_at e (sender_side d)) name ≡ None)
CanHappen c e (Accept d b) = MayCome c e d b
CanHappen c e (Tick side turn) = CanTurn turn (node_at e side)
CanHappen c e (Expire side which) = refusal_end c (node_at e side) which ≡ None
CanHappen c e (Claim w) = (ticket_of e.tickets w ≡ None) × (refusal_claim e.on_craft ≡ None)
CanHappen c e (Commit w) = is_some (ticket_of e.tickets w) ≡ true
CanHappen c e (Apply how) = refusal_apply e.on_craft ≡ None
CanHappen c e (Retire d name) = IsAct (act.Retire d name) × IsOver e d name
CanHappen c e (Restart side) = ⊤

-- A step can happen as before, but a name is retired if its receiver has freed it. A receiver
-- frees a name if it is over.
--
-- Assumed: A name is freed first at its receiver, later at its sender, and only when its message is
-- closed, no reception of it is open and no part of it comes any more.
abbrev pub CanMove : Config → Pair → Move → Type 0
CanMove c p (Do (Retire d name)) = IsAct (act.Retire d name) × (p.freed d name ≡ true)
CanMove c p (Do x) = CanHappen c p.ends x
CanMove c p (Free d name) = IsAct (act.Retire d name) × IsOver p.ends d name

-- each of these moves can happen after those before it
abbrev pub CanAll : Config → Pair → List Move → Type 0
CanAll c p [] = ⊤
CanAll c p (x ∷ xs) = CanAll c p xs × CanMove c (after_all c p xs) x

-- ---- the promise

-- whether what was released is of this transaction
abbrev pub is_of_it : Option (Direction × Name) → Direction → Name → Bool
is_of_it None d name = false
is_of_it (Some t) d name = is_same t.0 t.1 d name

-- the awaited message of a transaction after a fact
abbrev pub awaited_after : Fact → Direction → Name → Option (List ℕ) → Option (List ℕ)
awaited_after (Opened e i m) d name before = if is_same e i d name then Some m else before
awaited_after (Released of m) d name before = if is_of_it of d name then None else before
awaited_after (Aborted e i) d name before = if is_same e i d name then None else before
awaited_after (Retired e i) d name before = if is_same e i d name then None else before
awaited_after _ d name before = before

-- the message last opened under a name, unless it was released, retired or aborted since then
abbrev pub message_awaited : Log → Direction → Name → Option (List ℕ)
message_awaited [] d name = None
message_awaited (x ∷ log) d name = awaited_after x d name (message_awaited log d name)

-- the requests that wait after a fact
abbrev pub waiting_after : Fact → List (List ℕ) → List (List ℕ)
waiting_after (Released of m) before = if went_up of then before ++ m ∷ [] else before
waiting_after (Left how) before = drop 1 before
waiting_after (Restarted Craft) before = []
waiting_after _ before = before

-- what the spacecraft released since its last restart and hasn't left its queue, oldest first
abbrev pub waiting : Log → List (List ℕ)
waiting [] = []
waiting (x ∷ log) = waiting_after x (waiting log)

-- the requests that were executed after a fact, if these wait
abbrev pub executed_after : Fact → (waits : List (List ℕ)) → List (List ℕ) → List (List ℕ)
executed_after (Left Execute) waits before = before ++ take 1 waits
executed_after _ waits before = before

-- the requests that were executed, in their order
abbrev pub requests_executed : Log → List (List ℕ)
requests_executed [] = []
requests_executed (x ∷ log) = executed_after x (waiting log) (requests_executed log)

-- A plain request that is released is one that ground asked. What is released of a transaction is
-- its awaited message, and a reception that expires or is broken off is of an awaited one. What
-- leaves the queue waits.
abbrev pub IsDue : Fact → Log → Type 0
IsDue (Released None m) log = Contains log (Asked m)
IsDue (Released (Some t) m) log = message_awaited log t.0 t.1 ≡ Some m
IsDue (Aborted d name) log = is_some (message_awaited log d name) ≡ true
IsDue (Left how) log = 0 < length (waiting log)
IsDue _ log = ⊤

-- each fact is due after those before it
abbrev pub AllDue : Log → Type 0
AllDue [] = ⊤
AllDue (x ∷ log) = AllDue log × IsDue x log

-- Each fact of the log was due: a message that was released under a name was the awaited one, and
-- a plain request one that ground asked. The memories are their first content, changed by the
-- executed requests in order of release. What the spacecraft's node executes next, once it was
-- read, is the oldest request that waits.
pub record IsPromised (c : Config) (first : Contents) (e : Ends) : Type 0 where
  pub due : AllDue e.log
  pub memories : e.memories ≡ left_by c.apid (requests_executed e.log) first
  pub next : (r : Source)
      → head_of e.on_craft.jobs.jobs ≡ Ready r
      → slice_get (waiting e.log) 0 ≡ Some r.message

-- whatever two ends did that have clocks and limits of their own, they keep the promise
abbrev pub EndsWithClocksKeepThePromise : Type 0
EndsWithClocksKeepThePromise =
    (c : Config) (first : Contents) (g : ℕ) (k : Own) (xs : List Move)
    → IsConfig (later g c)
    → IsConfig (own_config k c)
    → CanAll c (no_pair_later c first g k) xs
    → IsPromised c first (after_all c (no_pair_later c first g k) xs).ends

-- ---- what came whole

-- whether part k came once this was handed over in a direction, with this outcome; one for which
-- there was no room didn't
abbrev pub came_by : Direction → Arrival → Outcome → Direction → Name → (k : ℕ) → Bool → Bool
came_by e a o d name k before =
    (same_direction e d && journal.brings a (Delivered o) name k) || before

-- whether a report of data was opened as this transaction
abbrev pub is_reported : Option (Name × List ℕ) → Direction → Name → Bool
is_reported None d name = false
is_reported (Some x) d name = is_same Down x.0 d name

-- whether part k came after a step of these ends; what a restarted receiver had is lost
abbrev pub came_after : Config → Ends → Step → Direction → Name → (k : ℕ) → Bool → Bool
came_after c e (Open i named m) d name k before = if is_same i named d name then false else before
came_after c e (Accept i b) d name k before =
    came_by i (arrival_in c i b)
    (packet_accepted (receiver_side i) c (node_at e (receiver_side i)) (arrival_in c i b)).1.outcome
    d name k before
came_after c e (Apply how) d name k before =
    if is_reported (job_left how c e.on_craft e.memories).0.1.opened d name then false else before
came_after c e (Restart side) d name k before = not (same_side side (receiver_side d)) && before
came_after c e _ d name k before = before

-- the same of a move of these ends
abbrev pub came_moved : Config → Pair → Move → Direction → Name → (k : ℕ) → Bool → Bool
came_moved c p (Do x) d name k before = came_after c p.ends x d name k before
came_moved c p (Free i named) d name k before = before

-- and of moves of these ends
abbrev pub came_since : Config → Pair → List Move → Direction → Name → (k : ℕ) → Bool
came_since c p [] d name k = false
came_since c p (x ∷ xs) d name k =
    came_moved c (after_all c p xs) x d name k (came_since c p xs d name k)

-- the message last opened under a name after a fact
abbrev pub opened_after : Fact → Direction → Name → Option (List ℕ) → Option (List ℕ)
opened_after (Opened e i m) d name before = if is_same e i d name then Some m else before
opened_after (Retired e i) d name before = if is_same e i d name then None else before
opened_after _ d name before = before

-- the message last opened under a name, if that wasn't retired since
abbrev pub last_opened : Log → Direction → Name → Option (List ℕ)
last_opened [] d name = None
last_opened (x ∷ log) d name = opened_after x d name (last_opened log d name)

-- whether a reception was aborted after a fact
abbrev pub aborted_after : Fact → Direction → Name → Bool → Bool
aborted_after (Opened e i m) d name before = if is_same e i d name then false else before
aborted_after (Aborted e i) d name before = if is_same e i d name then true else before
aborted_after _ d name before = before

-- whether the reception of a transaction expired or was broken off since it was last opened
abbrev pub is_aborted : Log → Direction → Name → Bool
is_aborted [] d name = false
is_aborted (x ∷ log) d name = aborted_after x d name (is_aborted log d name)

-- the released message of a transaction after a fact
abbrev pub released_after : Fact → Direction → Name → Option (List ℕ) → Option (List ℕ)
released_after (Opened e i m) d name before = if is_same e i d name then None else before
released_after (Released of m) d name before = if is_of_it of d name then Some m else before
released_after _ d name before = before

-- what was released of a transaction since it was last opened
abbrev pub last_released : Log → Direction → Name → Option (List ℕ)
last_released [] d name = None
last_released (x ∷ log) d name = released_after x d name (last_released log d name)

-- each part of a message came
abbrev pub CameWhole : Config → (came : ℕ → Bool) → (message : List ℕ) → Type 0
CameWhole c came m = (k : ℕ) → 1 ≤ k → k ≤ part_count (length m) c.part_size → came k ≡ true

-- By this log, what was last opened under a name, and each part of which came since, was released
-- since, unless its reception expired or was broken off since.
abbrev pub WithholdsNothing : Config → Log → (came : Direction → Name → ℕ → Bool) → Type 0
WithholdsNothing c log came =
    (d : Direction) (name : Name) (m : List ℕ)
    → last_opened log d name ≡ Some m
    → CameWhole c (came d name) m
    → is_aborted log d name ≡ false
    → last_released log d name ≡ Some m

-- whatever two ends did that have clocks and limits of their own
abbrev pub EndsWithClocksWithholdNothing : Type 0
EndsWithClocksWithholdNothing =
    (c : Config) (first : Contents) (g : ℕ) (k : Own) (xs : List Move)
    → IsConfig (later g c)
    → IsConfig (own_config k c)
    → CanAll c (no_pair_later c first g k) xs
    → WithholdsNothing c (after_all c (no_pair_later c first g k) xs).ends.log
    (came_since c (no_pair_later c first g k) xs)

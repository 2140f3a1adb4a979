-- A transaction awaits the message last opened, where its reception hasn't ended, by the log of
-- every legal journal.
use Rattle.std.proofs.Common.{◌≡◌, ◌∙◌, ap, sym, refl, ℕ, zero, suc, Bool, true, false, ◌&&◌, ◌||◌, if◌then◌else◌, List, [], ◌∷◌, Option, Some, None, not, length}
use Rattle.std.specs.List.{find}
use Rattle.std.specs.Option.{option_map, option_or}
use Rattle.std.specs.Prelude.{slice_get, cond}
use Rattle.lpt_packet.specs.declared.direction.Direction.{Direction}
use Rattle.lpt_packet.specs.declared.direction.Direction.TheVariants.{Up, Down}
use Rattle.lpt_packet.specs.Names.{Name, same_name, no_name}
use Rattle.lpt_packet.proofs.NameLemmas.{same_name-true}
use Rattle.lpt_memory.specs.Memories.{Contents}
use Rattle.lpt_events.specs.Configs.{IsConfig}
use Rattle.lpt_events.specs.Lanes.{lane_direction, same_direction}
use Rattle.lpt_events.specs.Sides.{same_side, receiver_side, direction_to}
use Rattle.lpt_events.specs.declared.config.Config.{Config}
use Rattle.lpt_events.specs.declared.entry.Opening.{Opening}
use Rattle.lpt_events.specs.declared.entry.Release.{Release}
use Rattle.lpt_acts.specs.Acts.{Act, Plain, Deliver, Expire, Apply, Retire, Open}
use Rattle.lpt_events.specs.declared.outcome.Outcome.{Outcome}
use Rattle.lpt_events.specs.declared.outcome.Outcome.TheVariants.{Broken, Released, PlainReleased}
use Rattle.lpt_events.specs.declared.reply.Answer.TheVariants.{Delivered}
use Rattle.lpt_events.specs.declared.side.Side.{Side}
use Rattle.lpt_events.specs.declared.side.Side.TheVariants.{Ground, Craft}
use Rattle.lpt_journal.specs.Delivery.{outcome}
use Rattle.lpt_journal.specs.Due.{given_up}
use Rattle.lpt_journal.specs.Journal.{SentPacket, History}
use Rattle.lpt_journal.specs.Legal.{Legal}
use Rattle.lpt_journal.specs.Receivers.{ends, is_closed, heard}
use Rattle.lpt_journal.specs.Releases.{released_now}
use Rattle.lpt_journal.specs.Replies.{expired_now, history_after, entry, opens, puts}
use Rattle.lpt_journal.specs.Senders.{is_opening_of, current}
use Rattle.lpt_journal.proofs.HeadlineLemmas.{every, owes}
use Rattle.lpt_packet.proofs.BoolLemmas.{and_left, and_right}
use Rattle.lpt_apart.specs.Ends.{Asked, Released, Log, with_abortion}
use Rattle.lpt_apart.specs.TwoEnds.{is_of_it, message_awaited}
use Rattle.lpt_apart.specs.Told.{with_openings, with_releases, with_ended, with_asked, log_told}
use Rattle.lpt_events.proofs.LaneLemmas.{same_direction-true}
use Rattle.lpt_reception.specs.Received.{Parts}
use Rattle.lpt_events.specs.Arrivals.{Arrival, ARequest}
use Rattle.lpt_journal.specs.Hands.{in_hand}
use Rattle.lpt_journal.proofs.EndedLemmas.{every_ended}
use Rattle.lpt_journal.proofs.OutcomeLemmas.{TellsOf, judged_tells}

-- ---- what is awaited after an entry

abbrev pub message_of : Opening → List ℕ
message_of o = o.message

pub awaited_asked : (ps : List SentPacket) (log : Log) (d : Direction) (name : Name)
    → message_awaited (with_asked ps log) d name ≡ message_awaited log d name
awaited_asked [] log d name = refl
awaited_asked (p ∷ ps) log d name = awaited_asked ps (Asked p.octets ∷ log) d name

pub awaited_openings : (os : List Opening) (log : Log) (d : Direction) (name : Name)
    → message_awaited (with_openings os log) d name
    ≡ option_or (option_map message_of (find (is_opening_of d name) os))
    (message_awaited log d name)
awaited_openings [] log d name = refl
awaited_openings (o ∷ os) log d name = go (is_opening_of d name o)
    (awaited_openings os log d name) where
      go : (b : Bool)
          → message_awaited (with_openings os log) d name
          ≡ option_or (option_map message_of (find (is_opening_of d name) os))
          (message_awaited log d name)
          → ◌≡◌ {A = Option (List ℕ)}
          (if b then Some o.message else message_awaited (with_openings os log) d name)
          (option_or (option_map message_of (cond b (Some o) (find (is_opening_of d name) os)))
          (message_awaited log d name))
      go true rest = refl
      go false rest = rest

-- what is released of other transactions leaves what is awaited
pub awaited_releases : (rs : List Release) (log : Log) (d : Direction) (name : Name)
    → ((k : ℕ) (r : Release) → slice_get rs k ≡ Some r → is_of_it r.of d name ≡ false)
    → message_awaited (with_releases rs log) d name ≡ message_awaited log d name
awaited_releases [] log d name none = refl
awaited_releases (r ∷ rs) log d name none =
    awaited_releases rs (Released r.of r.message ∷ log) d name (λ k s e. none (suc k) s e)
    ∙ ap (λ (b : Bool). if b then None else message_awaited log d name) (none zero r refl)

-- a side receives in its direction
pub receives_in : (side : Side) (d : Direction)
    → same_direction (direction_to side) d ≡ same_side side (receiver_side d)
receives_in Ground Up = refl
receives_in Ground Down = refl
receives_in Craft Up = refl
receives_in Craft Down = refl

-- ---- names

-- what was released is of this transaction
pub of_it : (o : Option (Direction × Name)) (d : Direction) (name : Name)
    → is_of_it o d name ≡ true
    → (t : Direction × Name) × (o ≡ Some t) × (t.0 ≡ d) × (t.1 ≡ name)
of_it None d name e = absurd cc
of_it (Some t) d name e = (
  t,
  refl,
  same_direction-true t.0 d (and_left (same_direction t.0 d) (same_name t.1 name) e),
  same_name-true t.1 name (and_right (same_direction t.0 d) (same_name t.1 name) e),
)

-- ---- what is awaited

-- what the log awaits where this was last opened
abbrev pub awaits : (ended : Bool) → Option Opening → Option (List ℕ)
awaits ended o = if ended then None else option_map message_of o

-- a plain request that is released leaves what is awaited
plain_leaves : (place : ℕ) (e : Direction) (len : ℕ) (s : Name → Parts) (a : Arrival) (log : Log)
    (d : Direction) (name : Name)
    → message_awaited (with_releases (released_now place e (Delivered (PlainReleased len)) s a) log)
    d name
    ≡ message_awaited log d name
plain_leaves place e len s (ARequest b) log d name = refl
plain_leaves place e len s a log d name = refl

module _ (c : Config) (first : Contents) (h : History) (d : Direction) (name : Name)
    (had : message_awaited (log_told c h) d name
    ≡ awaits (is_closed h d name) (current h d name)) where
  abbrev log : Log
  log = log_told c h

  -- what ends ends alike
  over : (b : Bool)
      → ◌≡◌ {A = Option (List ℕ)} (if b then None else message_awaited log d name)
      (awaits (b || is_closed h d name) (current h d name))
  over true = refl
  over false = had

  -- what is no end leaves it
  quiet : (b : Bool)
      → message_awaited log d name ≡ awaits ((b && false) || is_closed h d name) (current h d name)
  quiet true = had
  quiet false = had

  -- a delivery releases or breaks off what it ends
  delivered : (e : Direction) (a : Arrival) (o : Outcome)
      → TellsOf c h e a o
      → message_awaited (with_abortion e o
      (with_releases (released_now (length h) e (Delivered o) (heard c h e) a) log)) d name
      ≡ awaits ((same_direction e d && ends (Delivered o) name) || is_closed h d name)
      (current h d name)
  delivered e a (Released i len) t =
      ap (λ (a : Arrival). message_awaited (with_releases
      (released_now (length h) e (Delivered (Released i len)) (heard c h e) a) log) d name) t.1
      ∙ over (same_direction e d && same_name i name)
  delivered e a (Broken i why) t = over (same_direction e d && same_name i name)
  delivered e a (PlainReleased len) t =
      plain_leaves (length h) e len (heard c h e) a log d name ∙ quiet (same_direction e d)
  delivered e a o t = quiet (same_direction e d)

  -- what is given up is aborted
  ended : (side : Side) (which o : Option Name)
      → message_awaited (with_ended (Expire side which) (expired_now (direction_to side) o) log) d
      name
      ≡ awaits ((same_side side (receiver_side d) && ends (expired_now (direction_to side) o) name)
      || is_closed h d name) (current h d name)
  ended side which None =
      ap (λ (b : Bool). if b && same_name no_name name then None else message_awaited log d name)
      (receives_in side d)
      ∙ over (same_side side (receiver_side d) && same_name no_name name)
  ended side which (Some i) =
      ap (λ (b : Bool). if b && same_name i name then None else message_awaited log d name)
      (receives_in side d)
      ∙ over (same_side side (receiver_side d) && same_name i name)

  -- what is opened is awaited
  opened : (os : List Opening)
      → ((o : Opening) → find (is_opening_of d name) os ≡ Some o → is_closed h d name ≡ false)
      → message_awaited (with_openings os log) d name
      ≡ awaits (is_closed h d name) (option_or (find (is_opening_of d name) os) (current h d name))
  opened os free = awaited_openings os log d name ∙ go (find (is_opening_of d name) os) free where
    go : (f : Option Opening)
        → ((o : Opening) → f ≡ Some o → is_closed h d name ≡ false)
        → option_or (option_map message_of f) (message_awaited log d name)
        ≡ awaits (is_closed h d name) (option_or f (current h d name))
    go None free = had
    go (Some o) free =
        sym (ap (λ (b : Bool). awaits b (Some o)) (free o refl))

  -- an event
  event_awaits : (e : Act)
      → ((o : Opening) → find (is_opening_of d name) (opens c first h e) ≡ Some o
      → is_closed h d name ≡ false)
      → message_awaited (log_told c (entry c first h e ∷ h)) d name
      ≡ awaits (is_closed (entry c first h e ∷ h) d name) (current (entry c first h e ∷ h) d name)
  event_awaits (Open e i m) free = opened (opens c first h (Open e i m)) free
  event_awaits (Plain source flags service subtype body) free =
      awaited_asked (puts c first h (Plain source flags service subtype body)) log d name ∙ had
  event_awaits (Deliver l) free =
      delivered (lane_direction l) (in_hand c h l) (outcome c h l)
      (judged_tells c h (lane_direction l) (in_hand c h l))
  event_awaits (Expire side which) free =
      ended side which (given_up c h (direction_to side) which)
  event_awaits (Apply how) free = opened (opens c first h (Apply how)) free
  event_awaits (Retire e i) free = go (same_direction e d && same_name i name) where
    go : (b : Bool)
        → ◌≡◌ {A = Option (List ℕ)} (if b then None else message_awaited log d name)
        (awaits (not b && is_closed h d name) (if b then None else current h d name))
    go true = refl
    go false = had
  event_awaits e free = had

-- what is awaited is what was last opened, where its reception hasn't ended
pub awaited_is : (c : Config) (first : Contents) (es : List Act)
    → IsConfig c
    → Legal c first es
    → (d : Direction) (name : Name)
    → message_awaited (log_told c (history_after c first es)) d name
    ≡ awaits (is_closed (history_after c first es) d name)
    (current (history_after c first es) d name)
awaited_is c first [] good legal d name = refl
awaited_is c first (e ∷ es) good legal d name =
    let h : History = history_after c first es in
    let sound = every c first es good legal.0 in
    event_awaits c first h d name (awaited_is c first es good legal.0 d name) e
    (λ o is. (every_ended c first es good legal.0).free d name
    ((owes c first h e good sound.0 sound.2 legal.1).opens d name o is).free)

-- a transaction whose reception hasn't ended awaits the message last opened
pub is_awaited : (c : Config) (first : Contents)
    → IsConfig c
    → (es : List Act)
    → Legal c first es
    → (d : Direction) (name : Name) (o : Opening)
    → current (history_after c first es) d name ≡ Some o
    → is_closed (history_after c first es) d name ≡ false
    → message_awaited (log_told c (history_after c first es)) d name ≡ Some o.message
is_awaited c first good es legal d name o now still =
    awaited_is c first es good legal d name ∙ (λ i. awaits (still i) (now i))

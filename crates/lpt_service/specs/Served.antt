-- How a journal is a run of the service: what users see of it, and which steps each event makes.
use Rattle.std.specs.Prelude.{◌≡◌, ℕ, Bool, true, false, if◌then◌else◌, List, [], ◌∷◌, ◌++◌, length, drop, map, Option, Some, None}
use Rattle.lpt_packet.specs.declared.direction.Direction.{Direction}
use Rattle.lpt_packet.specs.Names.{Name}
use Rattle.lpt_acts.specs.Acts.{Act, Plain, Retire, Restart}
use Rattle.lpt_memory.specs.Memories.{Contents}
use Rattle.lpt_events.specs.Configs.{IsConfig}
use Rattle.lpt_events.specs.Sides.{same_side}
use Rattle.lpt_events.specs.declared.config.Config.{Config}
use Rattle.lpt_events.specs.declared.entry.Opening.{Opening}
use Rattle.lpt_events.specs.declared.side.Side.TheVariants.{Craft}
use Rattle.lpt_journal.specs.Abortions.{Abortion, abortion_at}
use Rattle.lpt_journal.specs.Jobs.{jobs, jobs_applied, front_job, left_now, memories}
use Rattle.lpt_journal.specs.Journal.{Recorded, History, with_all}
use Rattle.lpt_journal.specs.Legal.{Legal}
use Rattle.lpt_journal.specs.Receivers.{is_closed}
use Rattle.lpt_journal.specs.Releases.{released_by, releases}
use Rattle.lpt_journal.specs.Replies.{plain_packet, entry, history_after}
use Rattle.lpt_journal.specs.Senders.{current}
use Rattle.lpt_service.specs.Service as service

-- ---- what users see of a history

-- what stands under a name: its last opening that wasn't freed, unless its reception has ended
abbrev pub slot_of : Option Opening → (ended : Bool) → service.Slot
slot_of None ended = service.Free
slot_of (Some o) true = service.Over
slot_of (Some o) false = service.Opened o.message

-- a release, of a transaction or of none
abbrev pub released_of : Option (Direction × Name) → (message : List ℕ) → service.Released
released_of None message = service.Request message
released_of (Some t) message = service.Large t.0 t.1 message

-- the plain request that an event sends after this history: the packet that ground makes of it
abbrev pub asked_now : Config → History → Act → List (List ℕ)
asked_now c h (Plain source flags kind subtype body) =
    plain_packet c h source flags kind subtype body ∷ []
asked_now c h _ = []

-- the plain requests that ground sent
abbrev pub requests_asked : Config → History → List (List ℕ)
requests_asked c [] = []
requests_asked c (x ∷ h) = with_all (requests_asked c h) (asked_now c h x.event)

-- what users see now
abbrev pub view : Config → Contents → History → service.Service
view c first h = record {
  names = λ d name. slot_of (current h d name) (is_closed h d name);
  sent = requests_asked c h;
  released = map (λ r. released_of r.of r.message) (releases c h);
  waiting = map (λ r. r.message) (drop (jobs_applied h) (jobs c h));
  memories = memories c first h;
}

-- ---- the steps of an event

-- the step of a release
abbrev pub release_step : Option (Direction × Name) → (message : List ℕ) → service.Step
release_step None message = service.ReleaseRequest message
release_step (Some t) message = service.Release t.0 t.1 message

-- the steps of an event alone: a freed name, or a restart of the spacecraft
abbrev pub plain_steps : Act → List service.Step
plain_steps (Retire d name) = service.FreeName d name ∷ []
plain_steps (Restart side) = if same_side side Craft then service.Restart ∷ [] else []
plain_steps _ = []

-- The steps that an entry makes after this history. Most make none, since no user sees them; one
-- makes two, an execution whose answer is opened.
abbrev pub steps : Config → Recorded → History → List service.Step
steps c x h =
    plain_steps x.event
    ++ map service.Send (asked_now c h x.event)
    ++ map (λ r. release_step r.of r.message) (released_by c x h)
    ++ map (λ (e : Abortion). service.GiveUp e.direction e.name)
    (abortion_at (length h) x.event x.reply.answer)
    ++ map (λ y. service.Leave y.0 y.1.message) (left_now x.event (front_job c h))
    ++ map (λ (o : Opening). service.Open o.direction o.name o.message) x.opens

-- ---- the law

-- a journal is a run of the service: it starts with the first memories, and each event makes steps
-- that lead from what was seen to what is
abbrev pub IsServed : Config → Contents → List Act → Type 0
IsServed c first [] = view c first [] ≡ service.start first
IsServed c first (e ∷ es) =
    let h = history_after c first es in
    let x = entry c first h e in
    IsServed c first es × service.IsRun c.apid (view c first h) (steps c x h) (view c first (x ∷ h))

-- it holds of every legal journal
abbrev pub EachJournalIsARun : Type 0
EachJournalIsARun =
    (c : Config) (first : Contents) (es : List Act)
    → IsConfig c
    → Legal c first es
    → IsServed c first es

-- ---- the whole run

-- all steps of a history, in order
abbrev pub all_steps : Config → History → List service.Step
all_steps c [] = []
all_steps c (x ∷ h) = all_steps c h ++ steps c x h

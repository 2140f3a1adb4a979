-- What is kept of an end stays as it is where nothing that is told changes it.
use Rattle.std.proofs.Common.{◌≡◌, ◌∙◌, ap, sym, subst, refl, true≢false, ℕ, zero, suc, ◌==◌, ◌||◌, nat_lt, Bool, true, false, if◌then◌else◌, List, [], ◌∷◌, ◌++◌, Option, Some, None, arith}
use Rattle.std.proofs.lemmas.Bool.Decides.{nat_tests}
use Rattle.std.specs.Prelude.{is_some}
use Rattle.lpt_events.specs.Arrivals.{Arrival, NotRead, AnIdle, Foreign, ARequest, AReport, NoPart, APart, AnAbort, arrival}
use Rattle.lpt_events.specs.NamedParts.{NamedPart}
use Rattle.lpt_events.specs.declared.config.Config.{Config}
use Rattle.lpt_events.specs.declared.side.Side.TheVariants.{Craft}
use Rattle.lpt_execution.specs.Reporting.{message_reports}
use Rattle.lpt_execution.specs.declared.ending.Report.{Report}
use Rattle.lpt_jobs.specs.Jobs.{Head, Jobs, NoJob, NotReady, Ready, after_commit, head_of, oldest_unclaimed, without_front}
use Rattle.lpt_ledger.specs.Runs.{runs_of}
use Rattle.lpt_ledger.specs.States.{state_at}
use Rattle.lpt_ledger.specs.declared.state.State.{State}
use Rattle.lpt_ledger.specs.declared.state.State.TheVariants.{Free, Open, Closed}
use Rattle.lpt_memory.specs.Meanings.{Meaning, Silent, Fault, Load, Dump, Check}
use Rattle.lpt_memory.specs.Memories.{Contents, effect, sizes_of}
use Rattle.lpt_memory.specs.Readings.{Source, source_meaning}
use Rattle.lpt_memory.proofs.GivenLemmas.{written-effect}
use Rattle.lpt_node.specs.Accepting.{packet_accepted}
use Rattle.lpt_node.specs.Jobs.{job_claimed, claimed_of, job_committed, ending_at, executed_of, reports_made, with_opened}
use Rattle.lpt_node.specs.Nodes.{NodeData, Sending}
use Rattle.lpt_node.specs.Receivers.{after_offer, if_free, kept_of, parts_with, part_received, received_from, table_in}
use Rattle.lpt_node.specs.Receiving.{abort_head, after_received, part_accepted, receiver_of}
use Rattle.lpt_node.specs.Sending.{counted_kind}
use Rattle.lpt_node.specs.declared.accepted.Accepted.{Accepted}
use Rattle.lpt_packet.specs.Names.{Name}
use Rattle.lpt_state.specs.Lastings.{lasting_of}
use Rattle.lpt_state.specs.Spellings.{spelling}
use Rattle.lpt_table.specs.Offering as offering
use Rattle.lpt_table.specs.Offering.{OfferKind, part_offered}
use Rattle.lpt_table.specs.Tables.{Entries, TableState}
use Rattle.lpt_spacecraft.specs.Changes.{any_changes, changes, ticks_with, uses_name}
use Rattle.lpt_spacecraft.specs.Flights.{Flight, Input, Made, Came, came_with, clock_ticks, inputs_served, step}
use Rattle.lpt_spacecraft.specs.Keeping.{IsKeptAs, kept_octets}
use Rattle.lpt_spacecraft.specs.Serving.{Onboard, all_sent, read_over, packet_taken, request_worked, worked_if}
use Rattle.lpt_spacecraft.specs.Streams.{flight_of, onboard, Flies}
use Rattle.lpt_spacecraft.specs.Telling.{all_noted, did, done_if, name_used, sent_in, taken_in, took, used_up, work_done, written_at, written_by}
use Rattle.lpt_spacecraft.specs.declared.pace.PaceCourse.{PaceCourse}
use Rattle.lpt_spacecraft.specs.declared.spacecraft.Spacecraft.{Spacecraft}
use Rattle.lpt_spacecraft.specs.declared.told.Told.{Told}
use Rattle.lpt_spacecraft.specs.declared.told.Told.TheVariants.{Did}
use Rattle.lpt_spacecraft.proofs.FoldLemmas.{no-tick}

none-left : (a b : Bool) → (a || b) ≡ false → a ≡ false
none-left true b h = h
none-left false b h = refl

none-right : (a b : Bool) → (a || b) ≡ false → b ≡ false
none-right true b h = absurd (true≢false h)
none-right false b h = h

none-both : (a b : Bool) → a ≡ false → b ≡ false → (a || b) ≡ false
none-both true b h k = h
none-both false b h k = k

-- what is kept of an end is what was kept of another
abbrev pub SameEnd : (s t : Onboard) → Type 0
SameEnd s t = (lasting_of t.node ≡ lasting_of s.node) × (t.memories ≡ s.memories)

-- ---- a request

-- what writes to no memory leaves them as they are
unwritten : (m : Meaning) (ms : Contents) → is_some (written_by m) ≡ false → effect m ms ≡ ms
unwritten Silent ms h = refl
unwritten (Fault code) ms h = refl
unwritten (Load id []) ms h = sym (written-effect (Load id []) ms)
unwritten (Load id (a ∷ areas)) ms h = absurd (true≢false h)
unwritten (Dump id ranges) ms h = refl
unwritten (Check id ranges) ms h = refl

claimed-same : (d : NodeData) (o : Option (ℕ × List ℕ))
    → lasting_of (claimed_of d o).0 ≡ lasting_of d
claimed-same d None = refl
claimed-same d (Some x) = refl

committed-same : (d : NodeData) (boot job : ℕ) (r : Source)
    → lasting_of (job_committed d boot job r).0 ≡ lasting_of d
committed-same d boot job r = at (boot == d.boot)
  where
    handed : Bool → NodeData × Bool
    handed b = if b then (record d { jobs = after_commit d.jobs job r }, true) else (d, false)

    at : (b : Bool) → lasting_of (handed b).0 ≡ lasting_of d
    at true = refl
    at false = refl

read-same : (c : Config) (ms : Contents) (d : NodeData)
    → lasting_of (read_over c ms d) ≡ lasting_of d
read-same c ms d =
    committed-same (job_claimed d).0 (job_claimed d).1.boot (job_claimed d).1.job (record {
      apid = c.apid;
      sizes = sizes_of ms;
      message = (job_claimed d).1.message;
    })
    ∙ claimed-same d (oldest_unclaimed d.jobs)

reported-same : (s : Sending) (rs : List Report) → (reports_made s rs).ledger ≡ s.ledger
reported-same s [] = refl
reported-same s (r ∷ rs) = reported-same (counted_kind s r.kind) rs

sent-same : (c : Config) (d : NodeData) (rs : List Report) (js : Jobs) (o : Option (Name × List ℕ))
    → is_some (sent_in c o) ≡ false
    → lasting_of (all_sent c
    (with_opened (record d { sending = reports_made d.sending rs; jobs = js }) o) o).0
    ≡ lasting_of d
sent-same c d rs js None h =
    λ i. record {
      boot = d.boot;
      clock = d.clock;
      sent = runs_of (reported-same d.sending rs i);
      received = runs_of d.receiving.ledger;
    }
sent-same c d rs js (Some x) h = absurd (true≢false h)

-- what stands at the front is executed
front-same : (c : Config) (d : NodeData) (ms : Contents) (h : Head)
    → is_some (written_at h) ≡ false
    → is_some (sent_in c (executed_of c d ms h).0.1.opened) ≡ false
    → (lasting_of (all_sent c (executed_of c d ms h).0.0 (executed_of c d ms h).0.1.opened).0
    ≡ lasting_of d)
    × ((executed_of c d ms h).1 ≡ ms)
front-same c d ms NoJob w s = (refl, refl)
front-same c d ms NotReady w s = (refl, refl)
front-same c d ms (Ready r) w s = (
  sent-same c d (message_reports r.apid r.message (ending_at c d ms r)) (without_front d.jobs)
      (executed_of c d ms (Ready r)).0.1.opened s,
  unwritten (source_meaning r) ms w,
)

worked-same : (c : Config) (s : Onboard)
    → changes (Did (work_done c s)) ≡ false
    → SameEnd s (request_worked c s).0
worked-same c s h =
    let d = read_over c s.memories s.node in
    let x = front-same c d s.memories (head_of d.jobs.jobs) (none-left _ _ h) (none-right _ _ h) in
    (x.0 ∙ read-same c s.memories s.node, x.1)

worked_if-same : (c : Config) (s : Onboard) (o : Option (List ℕ))
    → any_changes (did (done_if c s o)) ≡ false
    → SameEnd s (worked_if c s o).0
worked_if-same c s None h = (refl, refl)
worked_if-same c s (Some m) h = worked-same c s (none-left _ _ h)

-- ---- a packet

-- what lasts of a node is as it was, unless a name was used up
abbrev pub KeepsNames : NodeData → NodeData × Accepted → Type 0
KeepsNames d x = uses_name x.1.outcome ≡ false → lasting_of x.0 ≡ lasting_of d

module _ (c : Config) (d : NodeData) (q : NamedPart) where
  -- what an offer of the part comes to
  abbrev offer : OfferKind × TableState
  offer = part_offered (table_in (receiver_of c d.receiving)) q.name q.number (kept_of q) d.clock

  -- what the node makes of it, where it knows its name so
  abbrev made_by : State → NodeData × Accepted
  made_by s =
      after_received Craft d q
      (if_free s (receiver_of c d.receiving)
      (received_from (abort_head Craft c d q.name.source) (receiver_of c d.receiving) q.name
      (parts_with (table_in (receiver_of c d.receiving)) q) offer))

  parted-is : part_accepted Craft c d q ≡ made_by (state_at d.receiving.ledger q.name)
  unfolding part_received
  parted-is = refl

  offer-keeps : (kind : OfferKind) (es : Entries)
      → KeepsNames d (after_received Craft d q
      (after_offer (abort_head Craft c d q.name.source) (receiver_of c d.receiving) q.name
      (parts_with (table_in (receiver_of c d.receiving)) q) kind es))
  offer-keeps offering.Kept es h = refl
  offer-keeps offering.Again es h = refl
  offer-keeps offering.Gap es h = absurd (true≢false h)
  offer-keeps offering.NoRoom es h = refl
  offer-keeps offering.Whole es h = absurd (true≢false h)
  offer-keeps (offering.Conflict reason) es h = absurd (true≢false h)

  known-keeps : (s : State) → KeepsNames d (made_by s)
  known-keeps Free h = offer-keeps offer.0 offer.1.entries h
  known-keeps Open h = refl
  known-keeps Closed h = refl

  parted-keeps : KeepsNames d (part_accepted Craft c d q)
  parted-keeps =
      subst (KeepsNames d) (sym parted-is) (known-keeps (state_at d.receiving.ledger q.name))

accepted-keeps : (c : Config) (d : NodeData) (a : Arrival)
    → KeepsNames d (packet_accepted Craft c d a)
accepted-keeps c d NotRead h = refl
accepted-keeps c d AnIdle h = refl
accepted-keeps c d Foreign h = refl
accepted-keeps c d (ARequest b) h = refl
accepted-keeps c d (AReport service subtype) h = refl
accepted-keeps c d NoPart h = refl
accepted-keeps c d (APart q) h = parted-keeps c d q h
accepted-keeps c d (AnAbort name reason) h = absurd (true≢false h)

taken-same : (c : Config) (s : Onboard) (b : List ℕ)
    → any_changes (took (taken_in c s b)) ≡ false
    → SameEnd s (packet_taken c s b).0
taken-same c s b h =
    let a = arrival Craft c.apid c.part_size b in
    let x = packet_accepted Craft c s.node a in
    let done = worked_if-same c (record { node = x.0; memories = s.memories }) x.1.released
    (none-right _ _ h) in
    (done.0 ∙ accepted-keeps c s.node a (none-left _ _ h), done.1)

-- ---- what is told

any-behind : (xs ys : List Told) → any_changes (xs ++ ys) ≡ false → any_changes ys ≡ false
any-behind [] ys h = h
any-behind (x ∷ xs) ys h = any-behind xs ys (none-right (changes x) _ h)

-- what has happened is among what is told of it
any-noted : (d : NodeData) (ts : List Told)
    → any_changes (all_noted d ts) ≡ false
    → any_changes ts ≡ false
any-noted d [] h = refl
any-noted d (t ∷ ts) h =
    none-both (changes t) _ (none-left _ _ h)
    (any-noted d ts
    (any-behind (used_up d (name_used t)) (all_noted d ts) (none-right (changes t) _ h)))

some-due : (n : ℕ) → nat_lt 0 (suc n) ≡ true
some-due n = grind (arith, nat_tests)

-- no tick is due
no-ticks : (due : ℕ) → nat_lt 0 due ≡ false → clock_ticks due ≡ []
no-ticks zero h = refl
no-ticks (suc n) h = absurd (true≢false (sym (some-due n) ∙ h))

-- nothing that comes with a packet changes what is kept, by what is told
pub made-same : (c : Config) (f : Flight) (due every since : ℕ) (b : List ℕ)
    → (ticks_with due every since
    || any_changes (inputs_served c f (clock_ticks due ++ came_with every since b)).told) ≡ false
    → SameEnd f.end (inputs_served c f (clock_ticks due ++ came_with every since b)).flight.end
made-same c f due every since b h =
    let ticks = none-left (ticks_with due every since) _ h in
    let is : inputs_served c f (clock_ticks due ++ came_with every since b) ≡ step c f (Came b) =
    ap (λ (l : List Input). inputs_served c f (l ++ came_with every since b))
    (no-ticks due (none-left (nat_lt 0 due) _ ticks))
    ∙ no-tick c f b every since (none-right (nat_lt 0 due) _ ticks) in
    subst (λ (x : Made). SameEnd f.end x.flight.end) (sym is)
    (taken-same c f.end b (any-noted (packet_taken c f.end b).0.node (took (taken_in c f.end b))
    (subst (λ (x : Made). any_changes x.told ≡ false) is
    (none-right (ticks_with due every since) _ h))))

-- ---- what is kept

kept-still : (k : Option (List ℕ)) (s t : Spacecraft)
    → t.config ≡ s.config
    → SameEnd (onboard s) (onboard t)
    → IsKeptAs k s
    → IsKeptAs k t
kept-still None s t same end h = tt
kept-still (Some x) s t same end h =
    let side = s.same_side ∙ sym t.same_side in
    let config = s.same_config ∙ sym same ∙ sym t.same_config in
    let lasting = sym end.0 in
    h ∙ (λ i. kept_octets (spelling (side i) (config i) (lasting i)) (sym end.1 i))

-- a spacecraft that was kept is kept still, where nothing that came with a packet changes that
pub still-kept : (k : Option (List ℕ)) (s t : Spacecraft) (q r : PaceCourse) (due : ℕ)
    (b : List ℕ) (old new : Option (List ℕ)) (none told : List Told)
    → t.config ≡ s.config
    → none ≡ []
    → Flies (inputs_served s.config (flight_of s q)
    (clock_ticks due ++ came_with q.pace.every q.since b)) t r old new (Some none) (Some told)
    → IsKeptAs k s
    → (ticked : Bool) (shown : List Told)
    → ticked ≡ ticks_with due q.pace.every q.since
    → shown ≡ told
    → (ticked || any_changes shown) ≡ false
    → IsKeptAs k t
still-kept k s t q r due b old new none told same nothing flies h ticked shown ticks is still =
    let x =
    inputs_served s.config (flight_of s q) (clock_ticks due ++ came_with q.pace.every q.since b) in
    let all : told ≡ x.told = flies.told ∙ ap (λ (l : List Told). l ++ x.told) nothing in
    kept-still k s t same
    (subst (λ (f : Flight). SameEnd (onboard s) f.end) (sym flies.flight)
    (made-same s.config (flight_of s q) due q.pace.every q.since b
    (sym (λ i. ticks i || any_changes ((is ∙ all) i)) ∙ still)))
    h

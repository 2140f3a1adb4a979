-- Every legal journal is a run of the service: each event makes steps that can happen then.
use Rattle.std.proofs.Common.{◌≡◌, ◌∙◌, ap, sym, subst, refl, ℕ, ◌+◌, true, false, not, ◌&&◌, ◌||◌, List, [], ◌∷◌, ◌++◌, length, drop, map, Option, Some, None, arith}
use Rattle.std.specs.List.{slice_get, filter, find, Contains}
use Rattle.std.specs.Option.{is_some, option_or}
use Rattle.std.proofs.lemmas.List.{map-append}
use Rattle.lpt_packet.specs.declared.direction.Direction.{Direction}
use Rattle.lpt_packet.specs.declared.direction.Direction.TheVariants.{Up, Down}
use Rattle.lpt_packet.specs.Names.{Name}
use Rattle.lpt_packet.proofs.BoolLemmas.{and_false, not_false}
use Rattle.lpt_memory.specs.Memories.{Contents, sizes_of}
use Rattle.lpt_memory.specs.Meanings.{meaning}
use Rattle.lpt_reception.specs.Received.{spelled}
use Rattle.lpt_events.specs.Arrivals.{Arrival, ARequest, APart}
use Rattle.lpt_events.specs.Configs.{IsConfig}
use Rattle.lpt_events.specs.Lanes.{lane_direction, same_direction}
use Rattle.lpt_events.specs.declared.config.Config.{Config}
use Rattle.lpt_events.specs.declared.entry.Opening.{Opening}
use Rattle.lpt_events.specs.declared.entry.Release.{Release}
use Rattle.lpt_events.specs.declared.fault.StepFault.TheVariants.{NoJob, NotReady}
use Rattle.lpt_events.specs.declared.lane.Lane.{Lane}
use Rattle.lpt_events.specs.declared.outcome.Outcome.{Outcome}
use Rattle.lpt_events.specs.declared.outcome.Outcome.TheVariants.{Released, PlainReleased, Broken}
use Rattle.lpt_events.specs.declared.reply.Answer.TheVariants.{Delivered}
use Rattle.lpt_events.specs.declared.side.Side.TheVariants.{Ground, Craft}
use Rattle.lpt_acts.specs.Acts.{Leaving, Execute, Refuse, Drop, Act, Open, Plain, Deliver, Expire, Commit, Apply, Retire, Restart}
use Rattle.lpt_journal.specs.Abortions.{Abortion, abortion_at}
use Rattle.lpt_journal.specs.Delivery.{outcome}
use Rattle.lpt_journal.specs.Executions.{front_opened, opened_down}
use Rattle.lpt_journal.specs.Hands.{in_hand}
use Rattle.lpt_journal.specs.Headline.{WasAsked}
use Rattle.lpt_journal.specs.Jobs.{is_committed, boot, ticket, went_up, jobs, jobs_applied, front_job, executed_now, executed, left_now, left_by, memories}
use Rattle.lpt_journal.specs.Journal.{History, with_all}
use Rattle.lpt_journal.specs.Legal.{Legal}
use Rattle.lpt_journal.specs.Receivers.{with_piece, heard, ends, is_closed}
use Rattle.lpt_journal.specs.Releases.{released_now, released_by, releases}
use Rattle.lpt_journal.specs.Replies.{entry, history_after}
use Rattle.lpt_journal.specs.Senders.{is_opening_of, current}
use Rattle.lpt_service.specs.Served.{slot_of, released_of, requests_asked, view, release_step, EachJournalIsARun}
use Rattle.lpt_service.specs.Service as service
use Rattle.lpt_journal.proofs.AbortionLemmas.{every_aborted}
use Rattle.lpt_journal.proofs.AbortionOwed.{owes_abortion}
use Rattle.lpt_journal.proofs.CommitLemmas.{commit_says}
use Rattle.lpt_journal.proofs.EndedLemmas.{every_ended}
use Rattle.lpt_journal.proofs.HeadlineLemmas.{owes, owes_releases, every}
use Rattle.lpt_journal.proofs.OutcomeLemmas.{TellsOf, judged_tells}
use Rattle.lpt_journal.proofs.Releasing.{before_new}
use Rattle.lpt_journal.proofs.TestLemmas.{two_pass, get-behind}
use Rattle.lpt_journal.proofs.TicketSteps.{jobs_sound}
use Rattle.lpt_service.proofs.SeenLemmas.{left_one_more, messages, front_waits, more_wait, was_sent}
use Rattle.lpt_service.proofs.ServedEvents.{IsKnown, Serves, opened_slot, found_itself, serves_open, serves_retire, ended_slot, can_release, serves_expire}

-- ---- deliveries

-- the large message of a release waits, if it went up
waits_up : (place : ℕ) (d : Direction) (name : Name) (m : List ℕ)
    → messages (filter (λ (r : Release). went_up r.of)
    (record { place = place; of = Some (d, name); message = m } ∷ []))
    ≡ service.to_execute d m
waits_up place Up name m = refl
waits_up place Down name m = refl

module _ (c : Config) (first : Contents) (h : History) (l : Lane)
    (known : IsKnown c first h (Deliver l)) where
  -- what is seen after a delivery, if it releases these and comes to this
  abbrev then_seen : List Release → Outcome → service.Service
  then_seen rs o = record {
    names = λ e other. slot_of (current h e other)
        ((same_direction (lane_direction l) e && ends (Delivered o) other) || is_closed h e other);
    sent = requests_asked c h;
    released = map (λ r. released_of r.of r.message) (with_all (releases c h) rs);
    waiting =
        map (λ r. r.message)
        (drop (jobs_applied h) (with_all (jobs c h) (filter (λ r. went_up r.of) rs)));
    memories = memories c first h;
  }

  abbrev then_steps : List Release → Outcome → List service.Step
  then_steps rs o =
      map (λ r. release_step r.of r.message) rs
      ++ map (λ (e : Abortion). service.GiveUp e.direction e.name)
      (abortion_at (length h) (Deliver l) (Delivered o)) ++ [] ++ []

  abbrev releases_now : Outcome → Arrival → List Release
  releases_now o a =
      released_now (length h) (lane_direction l) (Delivered o) (heard c h (lane_direction l)) a

  unchanged : (e : Direction) (other : Name)
      → slot_of (current h e other)
      ((same_direction (lane_direction l) e && false) || is_closed h e other)
      ≡ slot_of (current h e other) (is_closed h e other)
  unchanged e other =
      ap (λ b. slot_of (current h e other) (b || is_closed h e other))
      (and_false (same_direction (lane_direction l) e))

  -- what was in hand was ground's, if it was a plain request
  was_asked : (r : Release)
      → slice_get (released_by c (entry c first h (Deliver l)) h) 0 ≡ Some r
      → r.of ≡ None
      → Contains (requests_asked c h) r.message
  was_asked r there plain =
      was_sent c h r.message (known.asked 0 r there plain)

  serves_outcome : (o : Outcome) (a : Arrival)
      → outcome c h l ≡ o
      → in_hand c h l ≡ a
      → TellsOf c h (lane_direction l) a o
      → service.IsRun c.apid (view c first h) (then_steps (releases_now o a) o)
      (then_seen (releases_now o a) o)
  serves_outcome (Released name len) (APart q) is arrives tells =
      let d = lane_direction l in
      let m = spelled (with_piece (heard c h d name) q) in
      let r : Release = record { place = length h; of = Some (d, name); message = m } in
      let there : slice_get (released_by c (entry c first h (Deliver l)) h) 0 ≡ Some r =
      λ j. slice_get (releases_now (is j) (arrives j)) 0 in
      let of = known.frees.large 0 r (d, name) there refl in (
        can_release h (entry c first h (Deliver l)) r d name of
            ∙ ap service.Opened (sym of.is_message),
        λ j. record (view c first h) {
          names = λ e other. ended_slot h d name of.opening of.is_current e other j;
          released =
              map-append (λ (w : Release). released_of w.of w.message) (releases c h) (r ∷ []) j;
          waiting = (
              more_wait (jobs_applied h) (jobs c h) (filter (λ w. went_up w.of) (r ∷ []))
              known.applied_fits
              ∙ ap (λ ms. messages (drop (jobs_applied h) (jobs c h)) ++ ms)
              (waits_up (length h) d name m)) j;
        },
      )
  serves_outcome (Released name len) a is arrives tells =
      absurd (let same : a ≡ APart tells.0 = tells.1 in cc)
  serves_outcome (PlainReleased len) (ARequest b) is arrives tells =
      let r : Release = record { place = length h; of = None; message = b } in
      let there : slice_get (released_by c (entry c first h (Deliver l)) h) 0 ≡ Some r =
      λ j. slice_get (releases_now (is j) (arrives j)) 0 in (
        was_asked r there refl,
        λ j. record (view c first h) {
          names = λ e other. unchanged e other j;
          released =
              map-append (λ (w : Release). released_of w.of w.message) (releases c h) (r ∷ []) j;
          waiting = more_wait (jobs_applied h) (jobs c h) (r ∷ []) known.applied_fits j;
        },
      )
  serves_outcome (Broken name reason) a is arrives tells =
      let d = lane_direction l in
      let gone : Abortion = record { place = length h; direction = d; name = name } in
      let it =
      known.aborts 0 gone
      (λ j. slice_get (abortion_at (length h) (Deliver l) (Delivered (is j))) 0) in
      let of = it.ends_it in (
        (of.opening.message, can_release h _ _ d name of),
        λ j. record (view c first h) {
          names = λ e other. ended_slot h d name of.opening of.is_current e other j;
        },
      )
  serves_outcome o a is arrives tells =
      λ j. record (view c first h) { names = λ e other. unchanged e other j }

serves_deliver : (c : Config) (first : Contents) (h : History) (l : Lane)
    → IsKnown c first h (Deliver l)
    → Serves c first h (Deliver l)
serves_deliver c first h l known =
    serves_outcome c first h l known (outcome c h l) (in_hand c h l) refl refl
    (judged_tells c h (lane_direction l) (in_hand c h l))

-- ---- requests that leave

-- what they leave of the memories
changes : (c : Config) (first : Contents) (h : History) (how : Leaving) (r : Release)
    → left_by c.apid (messages (with_all (executed c h) (executed_now (Apply how) (Some r)))) first
    ≡ service.memories_after how (meaning c.apid (sizes_of (memories c first h)) r.message)
    (memories c first h)
changes c first h Execute r =
    ap (λ ms. left_by c.apid ms first)
    (map-append (λ (w : Release). w.message) (executed c h) (r ∷ []))
    ∙ left_one_more c.apid (messages (executed c h)) r.message first
changes c first h (Refuse code) r = refl
changes c first h Drop r = refl

module _ (c : Config) (first : Contents) (h : History) (how : Leaving)
    (known : IsKnown c first h (Apply how)) where
  -- what is seen after it, if this was the oldest request and this is opened
  abbrev seen_then : Option Release → Option (Name × List ℕ) → service.Service
  seen_then front o = record {
    names = λ e other. slot_of
        (option_or (find (is_opening_of e other) (opened_down (length h) o)) (current h e other))
        (is_closed h e other);
    sent = requests_asked c h;
    released = map (λ r. released_of r.of r.message) (releases c h);
    waiting = map (λ r. r.message) (drop (jobs_applied h + 1) (jobs c h));
    memories =
        left_by c.apid
        (map (λ r. r.message) (with_all (executed c h) (executed_now (Apply how) front))) first;
  }

  waits_no_more : (r : Release)
      → front_job c h ≡ Some r
      → messages (drop (jobs_applied h + 1) (jobs c h))
      ≡ drop 1 (messages (drop (jobs_applied h) (jobs c h)))
  waits_no_more r is = ap (drop 1) (sym (front_waits (jobs_applied h) (jobs c h) r is))

  serves_leaving : (front : Option Release)
      → front_job c h ≡ front
      → (o : Option (Name × List ℕ))
      → front_opened c first h how ≡ o
      → is_some front ≡ true
      → service.IsRun c.apid (view c first h)
      (map (λ y. service.Leave y.0 y.1.message) (left_now (Apply how) front)
      ++ map (λ (o : Opening). service.Open o.direction o.name o.message)
      (opened_down (length h) o))
      (seen_then front o)
  serves_leaving None is o opens some = absurd cc
  serves_leaving (Some r) is None opens some = (
    (
      messages (drop (jobs_applied h + 1) (jobs c h)),
      front_waits (jobs_applied h) (jobs c h) r is,
    ),
    λ j. record (view c first h) {
      waiting = waits_no_more r is j;
      memories = changes c first h how r j;
    },
  )
  serves_leaving (Some r) is (Some y) opens some =
      let o : Opening = record { place = length h; direction = Down; name = y.0; message = y.1 } in
      let none =
      known.opens Down y.0 o
      (ap (λ w. find (is_opening_of Down y.0) (opened_down (length h) w)) opens
      ∙ found_itself o) in (
        (
          messages (drop (jobs_applied h + 1) (jobs c h)),
          front_waits (jobs_applied h) (jobs c h) r is,
        ),
        (
          ap (λ w. slot_of w (is_closed h Down y.0)) none,
          λ j. record (view c first h) {
            names = λ e other. opened_slot h o (known.free Down y.0 none) e other j;
            waiting = waits_no_more r is j;
            memories = changes c first h how r j;
          },
        ),
      )

serves_apply : (c : Config) (first : Contents) (h : History) (how : Leaving)
    → IsKnown c first h (Apply how)
    → Serves c first h (Apply how)
serves_apply c first h how known =
    let t =
    two_pass (not (is_some (front_job c h))) (not (is_committed h (jobs_applied h))) NoJob NotReady
    known.can in
    serves_leaving c first h how known (front_job c h) refl (front_opened c first h how) refl
    (not_false (is_some (front_job c h)) t.0)

-- ---- every journal

serves : (c : Config) (first : Contents) (h : History) (e : Act)
    → IsKnown c first h e
    → Serves c first h e
serves c first h (Open d name m) known = serves_open c first h d name m known
serves c first h (Plain source flags kind subtype body) known = (tt, refl)
serves c first h (Deliver l) known = serves_deliver c first h l known
serves c first h (Expire side which) known = serves_expire c first h side which known
serves c first h (Commit w) known =
    commit_says (λ a. service.IsRun c.apid (view c first h)
    (map (λ (e : Abortion). service.GiveUp e.direction e.name) (abortion_at (length h) (Commit w) a)
    ++ [] ++ []) (view c first h)) (boot h Craft) (ticket c h w) (λ b n. refl) (λ b n. refl)
serves c first h (Apply how) known = serves_apply c first h how known
serves c first h (Retire d name) known = serves_retire c first h d name known
serves c first h (Restart Ground) known = refl
serves c first h (Restart Craft) known = (tt, refl)
serves c first h e known = refl

-- what is known of an event of a legal journal
known_of : (c : Config) (first : Contents) (e : Act) (es : List Act)
    → IsConfig c
    → Legal c first (e ∷ es)
    → IsKnown c first (history_after c first es) e
known_of c first e es good legal =
    let h = history_after c first es in
    let had = every c first es good legal.0 in
    let gone = every_aborted c first es good legal.0 in
    let after = every c first (e ∷ es) good legal in
    let x = entry c first h e in
    let pays = owes c first h e good had.0 had.2 legal.1 in
    let frees = owes_releases c first h e good had.0 legal.1 in
    let work = jobs_sound c first es legal.0 in
    record {
      can = legal.1.accepted;
      sound = had.0;
      free = (every_ended c first es good legal.0).free;
      opens = λ d name o f. (pays.opens d name o f).free;
      frees = frees;
      aborts = owes_abortion c first h e had.0 gone.1 legal.1.accepted;
      asked = λ k r there of.
          subst (λ g. WasAsked c g r.message) (before_new h x r.place (frees.place k r there))
          (after.3.released (length (releases c h) + k) r
          (get-behind (releases c h) (released_by c x h) k r there) of);
      applied_fits = omega (arith, work.applied_fits, work.claimed_fits);
    }

-- every legal journal is a run of the service
pub each_journal_is_a_run : EachJournalIsARun
each_journal_is_a_run c first [] good legal = refl
each_journal_is_a_run c first (e ∷ es) good legal = (
  each_journal_is_a_run c first es good legal.0,
  serves c first (history_after c first es) e (known_of c first e es good legal),
)

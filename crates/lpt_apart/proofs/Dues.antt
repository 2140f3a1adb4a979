-- Each fact is due, in the log of every legal journal: what is released was awaited or asked, what
-- is aborted was awaited, and what is executed waits.
use Rattle.std.proofs.Common.{◌≡◌, ◌∙◌, ap, sym, refl, ℕ, ◌<◌, ◌-◌, not, List, [], ◌∷◌, length, drop, Option, Some, None, is_some, arith}
use Rattle.std.specs.Prelude.{slice_get}
use Rattle.std.proofs.lemmas.List.{length-map, length-drop}
use Rattle.std.proofs.lemmas.Option.{slice_get_within}
use Rattle.lpt_packet.specs.declared.direction.Direction.{Direction}
use Rattle.lpt_packet.specs.Names.{Name}
use Rattle.lpt_memory.specs.Memories.{Contents}
use Rattle.lpt_events.specs.Configs.{IsConfig}
use Rattle.lpt_events.specs.declared.config.Config.{Config}
use Rattle.lpt_events.specs.declared.entry.Opening.{Opening}
use Rattle.lpt_events.specs.declared.entry.Release.{Release}
use Rattle.lpt_acts.specs.Acts.{Leaving, Act, Plain, Deliver, Expire, Apply, Retire, Restart}
use Rattle.lpt_events.specs.declared.fault.StepFault.TheVariants.{NoJob, NotReady}
use Rattle.lpt_events.specs.declared.outcome.Outcome.TheVariants.{Broken}
use Rattle.lpt_events.specs.declared.reply.Answer.{Answer}
use Rattle.lpt_events.specs.declared.reply.Answer.TheVariants.{Delivered, Expired}
use Rattle.lpt_journal.specs.Abortions.{Abortion, abortion_at}
use Rattle.lpt_journal.specs.Due.{due}
use Rattle.lpt_journal.specs.Executions.{front_opens}
use Rattle.lpt_journal.specs.Jobs.{jobs, jobs_applied, front_job, is_committed}
use Rattle.lpt_journal.specs.Journal.{SentPacket, Recorded, History}
use Rattle.lpt_journal.specs.Legal.{Legal}
use Rattle.lpt_journal.specs.Releases.{released_by}
use Rattle.lpt_journal.specs.Replies.{answer, opens, history_after, entry}
use Rattle.lpt_journal.proofs.AbortionLemmas.{abortion_is_final}
use Rattle.lpt_journal.proofs.AbortionOwed.{owes_abortion}
use Rattle.lpt_journal.proofs.HeadlineLemmas.{every, owes_releases}
use Rattle.lpt_journal.proofs.Releasing.{OwesReleases}
use Rattle.lpt_journal.proofs.TestLemmas.{two_pass}
use Rattle.lpt_apart.specs.Ends.{Asked, Released, Aborted, Left, Log}
use Rattle.lpt_apart.specs.TwoEnds.{waiting, IsDue, AllDue}
use Rattle.lpt_apart.specs.Told.{with_openings, with_releases, with_ended, with_asked, with_event, log_told}
use Rattle.lpt_apart.proofs.Asking.{release_asked}
use Rattle.lpt_apart.proofs.Awaiting.{awaited_releases, is_awaited}
use Rattle.lpt_apart.proofs.Queues.{waiting_openings, waiting_told}
use Rattle.lpt_packet.proofs.BoolLemmas.{some_is, not_false}

module _ (c : Config) (first : Contents) (good : IsConfig c) where
  asked_due : (ps : List SentPacket) (log : Log) → AllDue log → AllDue (with_asked ps log)
  asked_due [] log all = all
  asked_due (p ∷ ps) log all = asked_due ps (Asked p.octets ∷ log) (all, tt)

  event_due : (e : Act) (ps : List SentPacket) (log : Log)
      → AllDue log
      → ((how : Leaving) → e ≡ Apply how → IsDue (Left how) log)
      → AllDue (with_event e ps log)
  event_due (Plain source flags service subtype body) ps log all waits = asked_due ps log all
  event_due (Apply how) ps log all waits = (all, waits how refl)
  event_due (Retire d name) ps log all waits = (all, tt)
  event_due (Restart side) ps log all waits = (all, tt)
  event_due e ps log all waits = all

  openings_due : (os : List Opening) (log : Log) → AllDue log → AllDue (with_openings os log)
  openings_due [] log all = all
  openings_due (o ∷ os) log all = (openings_due os log all, tt)

  -- the abortion of an entry is due where it is of an awaited reception
  ended_due : (place : ℕ) (e : Act) (a : Answer) (log : Log)
      → AllDue log
      → ((j : ℕ) (b : Abortion)
      → slice_get (abortion_at place e a) j ≡ Some b
      → IsDue (Aborted b.direction b.name) log)
      → AllDue (with_ended e a log)
  ended_due place (Deliver l) (Delivered (Broken name why)) log all due = (all, due 0 _ refl)
  ended_due place (Deliver l) (Delivered o) log all due = all
  ended_due place (Deliver l) a log all due = all
  ended_due place (Expire side which) (Expired d name) log all due = (all, due 0 _ refl)
  ended_due place (Expire side which) a log all due = all
  ended_due place e a log all due = all

  -- at most one release is due where it is the awaited one
  releases_due : (rs : List Release) (log : Log)
      → AllDue log
      → ((k : ℕ) (r : Release) → slice_get rs k ≡ Some r → k ≡ 0)
      → ((r : Release) → slice_get rs 0 ≡ Some r → IsDue (Released r.of r.message) log)
      → AllDue (with_releases rs log)
  releases_due [] log all one due = all
  releases_due (r ∷ []) log all one due = (all, due r refl)
  releases_due (r ∷ s ∷ rs) log all one due = absurd (omega (arith, one 1 s refl))

  -- a request that an event lets leave waits
  leaving_due : (e : Act) (es : List Act)
      → Legal c first (e ∷ es)
      → (how : Leaving)
      → e ≡ Apply how
      → 0 < length (waiting (with_openings (opens c first (history_after c first es) e)
      (with_ended e (answer c first (history_after c first es) e)
      (with_releases
      (released_by c (entry c first (history_after c first es) e) (history_after c first es))
      (log_told c (history_after c first es))))))
  leaving_due (Apply how) es legal other is =
      let h : History = history_after c first es in
      let passed =
      two_pass (not (is_some (front_job c h))) (not (is_committed h (jobs_applied h))) NoJob
      NotReady
      legal.1.accepted in
      let front = some_is (front_job c h) (not_false (is_some (front_job c h)) passed.0) in
      let within : jobs_applied h < length (jobs c h) =
      slice_get_within (jobs c h) (jobs_applied h) front.0 front.1 in
      let many : length (waiting (with_openings (front_opens c first h how) (log_told c h)))
      ≡ length (jobs c h) - jobs_applied h =
      ap (λ (ws : List (List ℕ)). length ws)
      (waiting_openings (front_opens c first h how) (log_told c h)
      ∙ waiting_told c first es legal.0)
      ∙ length-map (drop (jobs_applied h) (jobs c h)) (λ (r : Release). r.message)
      ∙ length-drop (jobs_applied h) (jobs c h) in
      omega (arith, within, many)
  leaving_due e es legal other is = absurd cc

  -- the log of a legal journal is due
  pub all_due : (es : List Act) → Legal c first es → AllDue (log_told c (history_after c first es))
  all_due [] legal = tt
  all_due (e ∷ es) legal =
      event_due e x.puts (with_openings x.opens over)
      (openings_due x.opens over
      (ended_due (length h) e x.reply.answer released
      (releases_due (released_by c x h) (log_told c h) (all_due es legal.0) owes.one release)
      abortion)) (leaving_due e es legal) where
        h : History
        h = history_after c first es

        x : Recorded
        x = entry c first h e

        released : Log
        released = with_releases (released_by c x h) (log_told c h)

        over : Log
        over = with_ended e x.reply.answer released

        owes : OwesReleases c h x
        owes = owes_releases c first h e good (every c first es good legal.0).0 legal.1

        release : (r : Release)
            → slice_get (released_by c x h) 0 ≡ Some r
            → IsDue (Released r.of r.message) (log_told c h)
        release r at = go r.of refl where
          go : (o : Option (Direction × Name)) → r.of ≡ o
              → IsDue (Released o r.message) (log_told c h)
          go None of = release_asked c first good e es legal r at of
          go (Some t) of =
              let p = owes.large 0 r t at of in
              is_awaited c first good es legal.0 t.0 t.1 p.opening p.is_current p.was_open
              ∙ ap Some (sym p.is_message)

        abortion : (j : ℕ) (b : Abortion)
            → slice_get (abortion_at (length h) e x.reply.answer) j ≡ Some b
            → IsDue (Aborted b.direction b.name) released
        abortion j b at =
            let p =
            owes_abortion c first h e (every c first es good legal.0).0
            (abortion_is_final c first es good legal.0).unheard legal.1.accepted j b at in
            ap is_some
            (awaited_releases (released_by c x h) (log_told c h) b.direction b.name
            (λ k r f. absurd (p.releases_none k r f))
            ∙ is_awaited c first good es legal.0 b.direction b.name p.ends_it.opening
            p.ends_it.is_current
            p.ends_it.was_open)

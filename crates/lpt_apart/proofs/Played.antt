-- Whatever a world does, two ends can do.
use Rattle.std.proofs.Common.{◌≡◌, ◌∙◌, ap, sym, subst, refl, false, not, List, [], ◌∷◌, length, Option, Some, None, is_some}
use Rattle.std.specs.FinMap as maps
use Rattle.lpt_packet.specs.declared.direction.Direction.{Direction}
use Rattle.lpt_packet.specs.declared.direction.Direction.TheVariants.{Up, Down}
use Rattle.lpt_packet.specs.Names.{Name}
use Rattle.lpt_memory.specs.Memories.{Contents}
use Rattle.lpt_memory.specs.Readings.{Job}
use Rattle.lpt_events.specs.Configs.{IsConfig}
use Rattle.lpt_events.specs.Sides.{direction_to}
use Rattle.lpt_events.specs.declared.config.Config.{Config}
use Rattle.lpt_acts.specs.Acts.{Act}
use Rattle.lpt_acts.specs.Acts as act
use Rattle.lpt_events.specs.declared.side.Side.{Side}
use Rattle.lpt_events.specs.declared.side.Side.TheVariants.{Ground, Craft}
use Rattle.lpt_ledger.specs.States.{state_at}
use Rattle.lpt_events.specs.declared.worker.Worker.{Worker}
use Rattle.lpt_link.specs.Links.{holds}
use Rattle.lpt_node.specs.Faults.{node_fault}
use Rattle.lpt_node.specs.Times.{expired_of, which_ends}
use Rattle.lpt_model.specs.State.{State, no_state, after, as_list, is_gone, refusal_of, refusal_claim_by, committed_on, job_left}
use Rattle.lpt_model.specs.Tickets.{ticket_of}
use Rattle.lpt_journal.specs.Legal.{Legal}
use Rattle.lpt_journal.specs.Replies.{history_after}
use Rattle.lpt_refinement.proofs.Follows.{follows}
use Rattle.lpt_journal.proofs.TestLemmas.{no_place}
use Rattle.lpt_packet.proofs.BoolLemmas.{and_left, and_right, not_true}
use Rattle.lpt_apart.specs.Ends.{PutOut, Ends, put_out, without, Aborted, Left, Retired, Restarted, Log, Step, with_report}
use Rattle.lpt_apart.specs.Worlds.{ends_reached, CanRun}
use Rattle.lpt_apart.specs.Plays.{step_of, with_step, steps_of, WorldsAreEnds, AllForward, IsForward}
use Rattle.lpt_apart.specs.Ends as steps
use Rattle.lpt_apart.specs.Told.{log_told}
use Rattle.lpt_apart.proofs.Leaving.{AllHad, had_put, had_lost, had_retired}
use Rattle.lpt_apart.proofs.Telling.{expiry_told, leaving_told}
use Rattle.lpt_apart.proofs.Ties.{ends_of, IsLonger, not_refused}
use Rattle.lpt_apart.proofs.Players.{Plays, Goes, CanPlay, unmapped, no_ticket, some_ticket, retires_closed}
use Rattle.lpt_apart.proofs.Playing as play

module _ (c : Config) (first : Contents) (s : State) (ways : List PutOut) (log : Log)
    (es : List Act) (good : IsConfig c) (t : CanPlay c first s ways log es) where
  -- what two ends that play this are
  abbrev ends : Ends
  ends = ends_of s ways log

  -- an event goes on in two ends
  abbrev GoesOn : Act → Type 0
  GoesOn e =
      Legal c first (e ∷ es) → Goes c first (e ∷ es) ends (step_of (history_after c first es) e)

  -- the world after an event
  abbrev state_after : Act → State
  state_after e = (after c (length (history_after c first es)) s e).0

  free : (e : Act) → Legal c first (e ∷ es) → refusal_of c s e ≡ None
  free e legal = not_refused c first s es e good t.shown legal

  more : (e : Act) → Legal c first (e ∷ es) → IsLonger c first s es e
  more e legal = play.more c first s ways log es good t e legal

  plays : (e : Act) (new : List PutOut) (now : Log)
      → Legal c first (e ∷ es)
      → AllHad c (state_after e).link new
      → log_told c (history_after c first (e ∷ es)) ≡ now
      → Plays c first (e ∷ es) (ends_of (state_after e) new now)
  plays e new now legal all tells =
      play.plays c first s ways log es good t e new now legal all tells

  -- ---- time, jobs and names

  within : (side : Side) (l : act.Limits) → GoesOn (act.Tick side (act.Within l))
  within Ground l legal =
      (tt, plays (act.Tick Ground (act.Within l)) ways log legal t.had t.tells)
  within Craft l legal =
      (tt, plays (act.Tick Craft (act.Within l)) ways log legal t.had t.tells)

  ticks : (side : Side) → GoesOn (act.Tick side act.On)
  ticks Ground legal = (
    unmapped node_fault _ (free (act.Tick Ground act.On) legal),
    plays (act.Tick Ground act.On) ways log legal t.had t.tells,
  )
  ticks Craft legal = (
    unmapped node_fault _ (free (act.Tick Craft act.On) legal),
    plays (act.Tick Craft act.On) ways log legal t.had t.tells,
  )

  expires : (side : Side) (which : Option Name) → GoesOn (act.Expire side which)
  expires Ground which legal =
      let x = expired_of Ground c s.on_ground (which_ends c s.on_ground which) in (
        unmapped node_fault _ (free (act.Expire Ground which) legal),
        plays (act.Expire Ground which) (put_out ways Down None (as_list x.1.packet))
            (Aborted (direction_to Ground) x.1.name ∷ log) legal
            (had_put c s.link ways Down None (as_list x.1.packet) t.had)
            (expiry_told c first s log es t.shown t.tells Ground which
            (more (act.Expire Ground which) legal)),
      )
  expires Craft which legal =
      let x = expired_of Craft c s.on_craft (which_ends c s.on_craft which) in (
        unmapped node_fault _ (free (act.Expire Craft which) legal),
        plays (act.Expire Craft which) (put_out ways Down None (as_list x.1.packet))
            (Aborted (direction_to Craft) x.1.name ∷ log) legal
            (had_put c s.link ways Down None (as_list x.1.packet) t.had)
            (expiry_told c first s log es t.shown t.tells Craft which
            (more (act.Expire Craft which) legal)),
      )

  claims : (w : Worker) → GoesOn (act.Claim w)
  claims w legal =
      let none : ticket_of s.tickets w ≡ None =
      no_ticket s.on_craft (ticket_of s.tickets w) (free (act.Claim w) legal) in (
        (
          none,
          unmapped node_fault _
              (ap (refusal_claim_by s.on_craft) (sym none) ∙ free (act.Claim w) legal),
        ),
        plays (act.Claim w) ways log legal t.had t.tells,
      )

  commits : (w : Worker) → GoesOn (act.Commit w)
  commits w legal = (
    some_ticket (ticket_of s.tickets w) (free (act.Commit w) legal),
    record {
      state = state_after (act.Commit w);
      shown = (more (act.Commit w) legal).shown;
      had = link (ticket_of s.tickets w);
      tells = t.tells ∙ logs (ticket_of s.tickets w);
      is = same (ticket_of s.tickets w);
    },
  ) where
    link : (o : Option Job) → AllHad c (committed_on c s w o).0.link
        (steps.committed_on c ends w o).on_the_way
    link None = t.had
    link (Some j) = t.had

    logs : (o : Option Job) → log ≡ (steps.committed_on c ends w o).log
    logs None = refl
    logs (Some j) = refl

    same : (o : Option Job)
        → ends_of (committed_on c s w o).0 (steps.committed_on c ends w o).on_the_way
        (steps.committed_on c ends w o).log
        ≡ steps.committed_on c ends w o
    same None = refl
    same (Some j) = refl

  applies : (how : act.Leaving) → GoesOn (act.Apply how)
  applies how legal =
      let x = job_left how c s.on_craft s.memories in (
        unmapped node_fault _ (free (act.Apply how) legal),
        plays (act.Apply how) (put_out ways Down None x.0.1.packets)
            (Left how ∷ with_report log x.0.1.opened) legal
            (had_put c s.link ways Down None x.0.1.packets t.had)
            (leaving_told c first s log es t.shown t.tells how (more (act.Apply how) legal)),
      )

  retires : (d : Direction) (name : Name) → GoesOn (act.Retire d name)
  retires Up name legal =
      let over =
      retires_closed (state_at s.on_ground.sending.ledger name) (is_gone s Up name)
      (free (act.Retire Up name) legal) in
      let none : holds s.link Up name ≡ false =
      not_true (holds s.link Up name)
      (and_left (not (holds s.link Up name)) (not (is_some (maps.get s.on_craft.receiving.entries name)))
      over.1) in
      let unheard : is_some (maps.get s.on_craft.receiving.entries name) ≡ false =
      not_true (is_some (maps.get s.on_craft.receiving.entries name))
      (and_right (not (holds s.link Up name)) (not (is_some (maps.get s.on_craft.receiving.entries name)))
      over.1) in (
        (legal.1.in_range, record { closed = over.0; unheard = unheard }),
        plays (act.Retire Up name) (without Up name ways) (Retired Up name ∷ log) legal
            (had_retired c s.link ways Up name none t.had)
            (ap (λ (l : Log). Retired Up name ∷ l) t.tells),
      )
  retires Down name legal =
      let over =
      retires_closed (state_at s.on_craft.sending.ledger name) (is_gone s Down name)
      (free (act.Retire Down name) legal) in
      let none : holds s.link Down name ≡ false =
      not_true (holds s.link Down name)
      (and_left (not (holds s.link Down name))
      (not (is_some (maps.get s.on_ground.receiving.entries name)))
      over.1) in
      let unheard : is_some (maps.get s.on_ground.receiving.entries name) ≡ false =
      not_true (is_some (maps.get s.on_ground.receiving.entries name))
      (and_right (not (holds s.link Down name))
      (not (is_some (maps.get s.on_ground.receiving.entries name)))
      over.1) in (
        (legal.1.in_range, record { closed = over.0; unheard = unheard }),
        plays (act.Retire Down name) (without Down name ways) (Retired Down name ∷ log) legal
            (had_retired c s.link ways Down name none t.had)
            (ap (λ (l : Log). Retired Down name ∷ l) t.tells),
      )

  restarts : (side : Side) → GoesOn (act.Restart side)
  restarts Ground legal = (
    tt,
    plays (act.Restart Ground) ways (Restarted Ground ∷ log) legal t.had
        (ap (λ (l : Log). Restarted Ground ∷ l) t.tells),
  )
  restarts Craft legal = (
    tt,
    plays (act.Restart Craft) ways (Restarted Craft ∷ log) legal t.had
        (ap (λ (l : Log). Restarted Craft ∷ l) t.tells),
  )

  -- ---- all of them

  goes_on : (e : Act) → IsForward e → GoesOn e
  goes_on (act.Open d name m) on legal =
      play.opens c first s ways log es good t d name m legal
  goes_on (act.Send d name k) on legal =
      play.sends c first s ways log es good t d name k legal
  goes_on (act.Plain source flags service subtype body) on legal =
      play.plain c first s ways log es good t source flags service subtype body legal
  goes_on (act.Finish d name) on legal =
      play.finishes c first s ways log es good t d name legal
  goes_on (act.Lose n) on legal =
      plays (act.Lose n) ways log legal (had_lost c s.link ways n t.had) t.tells
  goes_on (act.Damage d b) on legal =
      play.damages c first s ways log es good t d b legal
  goes_on (act.Take l n) on legal =
      play.takes c first s ways log es good t l n legal
  goes_on (act.Deliver l) on legal =
      play.delivers c first s ways log es good t l legal
  goes_on (act.Tick side act.On) on legal = ticks side legal
  goes_on (act.Tick side (act.Within l)) on legal = within side l legal
  goes_on (act.Tick side (act.Back n)) on legal = absurd on
  goes_on (act.Expire side which) on legal = expires side which legal
  goes_on (act.Claim w) on legal = claims w legal
  goes_on (act.Commit w) on legal = commits w legal
  goes_on (act.Apply how) on legal = applies how legal
  goes_on (act.Retire d name) on legal = retires d name legal
  goes_on (act.Restart side) on legal = restarts side legal

-- two ends play a journal
record ArePlayed (c : Config) (first : Contents) (es : List Act) (xs : List Step) : Type 0 where
  can : CanRun c first xs
  plays : Plays c first es (ends_reached c first xs)

-- with one step more, or none, they play the longer one
with_one : (c : Config) (first : Contents) (es all : List Act) (xs : List Step) (o : Option Step)
    → ArePlayed c first es xs
    → Goes c first all (ends_reached c first xs) o
    → ArePlayed c first all (with_step o xs)
with_one c first es all xs None had goes = record { can = had.can; plays = goes }
with_one c first es all xs (Some x) had goes = record { can = (had.can, goes.0); plays = goes.1 }

are_played : (c : Config) (first : Contents) (es : List Act)
    → IsConfig c
    → AllForward es
    → Legal c first es
    → ArePlayed c first es (steps_of c first es)
are_played c first [] good on legal = record {
  can = tt;
  plays = record {
    state = no_state c first;
    shown = follows.begins c first;
    had = λ n p at. absurd (no_place n p at);
    tells = refl;
    is = refl;
  };
}
are_played c first (e ∷ es) good on legal =
    let had = are_played c first es good on.1 legal.0 in
    let p = had.plays in
    with_one c first es (e ∷ es) (steps_of c first es) (step_of (history_after c first es) e) had
    (subst (λ (y : Ends). Goes c first (e ∷ es) y (step_of (history_after c first es) e)) p.is
    (goes_on c first p.state _ _ es good
    (record { shown = p.shown; had = p.had; tells = p.tells }) e on.0 legal))

pub worlds_are_ends : WorldsAreEnds
worlds_are_ends c first es good on legal =
    let it = are_played c first es good on legal in
    record {
      can = it.can;
      are = record {
        world = it.plays.state;
        shown = it.plays.shown;
        ground = ap (λ (y : Ends). y.on_ground) it.plays.is;
        craft = ap (λ (y : Ends). y.on_craft) it.plays.is;
        tickets = ap (λ (y : Ends). y.tickets) it.plays.is;
        memories = ap (λ (y : Ends). y.memories) it.plays.is;
        log = it.plays.tells;
      };
    }

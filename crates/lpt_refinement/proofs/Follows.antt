-- What shows a journal refuses, answers and goes on as the journal says.
use Rattle.lpt_events.specs.declared.config.Config.{Config}
use Rattle.lpt_acts.specs.Acts.{Act, Open, Send, Plain, Finish, Lose, Damage, Take, Deliver, Tick, Expire, Claim, Commit, Apply, Retire, Restart}
use Rattle.lpt_memory.specs.Memories.{Contents}
use Rattle.lpt_journal.specs.Journal.{History}
use Rattle.lpt_journal.specs.Jobs.{ticket}
use Rattle.lpt_refinement.specs.GoesOn.{FollowsJournal}
use Rattle.lpt_refinement.specs.Shows.{Shows, JobsFit}
use Rattle.lpt_model.specs.State.{State, IsReady}
use Rattle.lpt_refinement.specs.Views.{views, jobs_view}
use Rattle.lpt_refinement.proofs.Beginning.{shows_none}
use Rattle.lpt_refinement.proofs.EventsShown.{event_shown}
use Rattle.lpt_refinement.proofs.FrontShown.{apply_ready}
use Rattle.lpt_refinement.proofs.Refusals.{refusal_shown}
use Rattle.lpt_refinement.proofs.Replies.{reply_shown}
use Rattle.lpt_refinement.proofs.CommitsShown.{commit_ready}

-- what the nodes ask for besides is so
ready_shown : (c : Config) (first : Contents) (s : State) (h : History) (e : Act)
    → Shows s (views c first h)
    → JobsFit (jobs_view c first h) (ticket c h)
    → IsReady c s e
ready_shown c first s h (Open d name m) k fits = tt
ready_shown c first s h (Send d name n) k fits = tt
ready_shown c first s h (Plain source flags service subtype body) k fits = tt
ready_shown c first s h (Finish d name) k fits = tt
ready_shown c first s h (Lose n) k fits = tt
ready_shown c first s h (Damage d b) k fits = tt
ready_shown c first s h (Take l n) k fits = tt
ready_shown c first s h (Deliver l) k fits = tt
ready_shown c first s h (Tick side turn) k fits = tt
ready_shown c first s h (Expire side which) k fits = tt
ready_shown c first s h (Claim w) k fits = tt
ready_shown c first s h (Commit w) k fits = commit_ready c first s h w k fits
ready_shown c first s h (Apply how) k fits = apply_ready c first s h how k fits
ready_shown c first s h (Retire d name) k fits = tt
ready_shown c first s h (Restart side) k fits = tt

pub follows : FollowsJournal
follows = record {
  begins = shows_none;
  refuses = refusal_shown;
  goes_on = λ c first s h e in_range k fits free.
      record {
        ready = ready_shown c first s h e k fits.jobs;
        answered = reply_shown c first s h e k fits.jobs free;
        shown = event_shown c first s h e in_range k fits.jobs free;
      };
}

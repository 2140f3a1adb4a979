-- When a run is whole, and what follows.
use Rattle.std.proofs.Common.{◌≡◌, ◌≢◌, ◌↔◌, sym, subst, ℕ, Bool, true, List, length, Result, Ok, Err, IfOk, IfErr, IsTrue}
use Rattle.lpt_share.specs.Agreeing.{Agree}
use Rattle.lpt_share.specs.Finished.{IsFinished, owed_of}
use Rattle.lpt_share.specs.Kinds.{are_of_seats}
use Rattle.lpt_events.specs.declared.log.SeatLog.{SeatLog}
use Rattle.lpt_events.specs.declared.turns.Turns.{Turns}
use Rattle.lpt_world.specs.Worlds.{Shown}
use Rattle.lpt_share.specs.Runs.{IsInOrder}
use Rattle.lpt_share.specs.Settled.{IsSettled}
use Rattle.lpt_share.specs.declared.owed.Owed.{Owed}
use Rattle.lpt_share.proofs.SettledLemmas.{finished}
use Rattle.lpt_share.specs.WholeRuns.{IsWholeRun}
use Rattle.lpt_share.specs.declared.fault.ShareFault.{ShareFault}
use Rattle.lpt_share.specs.declared.fault.ShareFault.TheVariants.{Torn}

-- it has finished
pub whole_finished : (turns : Turns) (from : ℕ) (owed : List Owed) (given w : Shown)
    (logs : List SeatLog)
    → IsWholeRun turns from owed w logs
    → from ≡ length given.journal
    → owed ≡ owed_of given
    → IsFinished turns given w logs
whole_finished turns from owed given w logs whole place same =
    finished turns from owed given w logs whole.1 place same

-- where the logs are those of the run, it is whole exactly where it is settled
pub whole_if : {E : Type 0} (turns : Turns) (from : ℕ) (owed : List Owed) (w : Shown)
    (logs : List SeatLog) (r : Result Bool E)
    → IsInOrder 1 logs × (are_of_seats logs ≡ true) × Agree w from logs
    → IfOk r (λ done. IsTrue done ↔ IsSettled turns from owed w logs)
    → IfOk r (λ whole. IsTrue whole ↔ IsWholeRun turns from owed w logs)
whole_if turns from owed w logs (Ok b) of_run done =
    (λ is. (of_run, done.0 is), λ whole. done.1 whole.1)
whole_if turns from owed w logs (Err e) of_run done = tt

-- what holds anyway holds where there is an error
pub anyway : {A E P : Type 0} (r : Result A E) → P → IfErr r (λ e. P)
anyway (Ok a) p = tt
anyway (Err e) p = p

-- logs that agree from where a run began agree from the end of the given journal
pub agree_shown : (from : ℕ) (given w : Shown) (logs : List SeatLog) (fault : ShareFault)
    → (fault ≢ Torn → Agree w from logs)
    → from ≡ length given.journal
    → fault ≢ Torn
    → Agree w (length given.journal) logs
agree_shown from given w logs fault agree place other =
    subst (λ n. Agree w n logs) place (agree other)

-- where it was found torn, it isn't whole
pub torn_shown : (turns : Turns) (from : ℕ) (owed : List Owed) (given w : Shown)
    (logs : List SeatLog) (fault : ShareFault)
    → (fault ≡ Torn → ¬ (IsWholeRun turns from owed w logs))
    → from ≡ length given.journal
    → owed ≡ owed_of given
    → fault ≡ Torn
    → ¬ (IsWholeRun turns (length given.journal) (owed_of given) w logs)
torn_shown turns from owed given w logs fault torn place same is whole =
    torn is
    (subst (λ n. IsWholeRun turns n owed w logs) (sym place)
    (subst (λ o. IsWholeRun turns (length given.journal) o w logs) (sym same) whole))

-- A large message on its way up: what is next, and what becomes of it.
use Rattle.std.specs.Prelude.{ℕ, ◌+◌, ◌==◌, ◌&&◌, nat_lt, min, Bool, false, if◌then◌else◌, List, Option, Some, None}
use Rattle.lpt_pus.specs.Telemetry.{Telemetry}
use Rattle.lpt_part.specs.declared.reason.Reason.{Reason}
use Rattle.lpt_part.specs.Aborts.{abort_in}
use Rattle.lpt_ground.specs.declared.asked.Terms.{Terms}
use Rattle.lpt_ground.specs.declared.pass.End.TheVariants as ends
use Rattle.lpt_ground.specs.declared.pass.Step.{Step}
use Rattle.lpt_ground.specs.declared.pass.Step.TheVariants.{Put, Listen, Stop}
use Rattle.lpt_ground.specs.Passes as pass
use Rattle.lpt_ground.specs.Passes.{PassState, next_step}
use Rattle.lpt_ground.specs.Telling.{report_of}
use Rattle.lpt_ground.specs.declared.large.Large.{Large}
use Rattle.lpt_ground.specs.declared.uplink.Uplink.{Uplink}
use Rattle.lpt_ground.specs.Parts.{behind, id_of, parts_of, patience}

-- ---- its state

-- The pass of its request; how many names are used up; the sequence count of the first packet under
-- the name behind them; how many of its parts were put in this round; and how many rounds under it
-- settled nothing.
pub record Way : Type 0 where
  pub of_request : PassState
  pub used : ℕ
  pub count : ℕ
  pub at : ℕ
  pub rounds : ℕ

-- that of an uplink, beside the pass of its request
abbrev pub way_of : Uplink → PassState → Way
way_of u s = record {
  of_request = s;
  used = u.used;
  count = u.count;
  at = u.at;
  rounds = u.rounds;
}

-- that of one that begins
abbrev pub way_at_first : Large → PassState → Way
way_at_first l s = record { of_request = s; used = 0; count = l.count; at = 0; rounds = 0 }

-- ---- what it does next

-- the next part of this round is put; behind the last it listens; without a name it is given up
abbrev pub next_part : Large → Way → Step
next_part l w =
    if nat_lt w.used l.names.many then
    (if nat_lt w.at (parts_of l) then Put w.at else Listen)
    else Stop ends.Given

-- the same, unless its request's pass stops
abbrev pub next_by : Large → Way → Step → Step
next_by l w (Put k) = next_part l w
next_by l w Listen = next_part l w
next_by l w (Stop e) = Stop e

-- what it does next
unfoldable pub next_way : Large → Way → Step
next_way l w = next_by l w (next_step w.of_request)

-- ---- what becomes of it

-- once a part was put
abbrev pub with_part_put : Way → (k : ℕ) → Way
with_part_put w k = record w { at = k + 1 }

-- once it goes under the next name, which is none behind the last
abbrev pub under_next_name : Large → Way → Way
under_next_name l w = record w {
  used = min (w.used + 1) l.names.many;
  count = behind w.count (parts_of l);
  at = 0;
  rounds = 0;
}

-- an abortion report's body is of this transaction
abbrev pub is_of : (id : ℕ) → Option (ℕ × Reason) → Bool
is_of id None = false
is_of id (Some x) = x.0 == id

-- telemetry reports that the reception of this transaction was given up
abbrev pub aborts : (id : ℕ) → Option Telemetry → Bool
aborts id None = false
aborts id (Some t) = (t.service == 13) && (t.subtype == 16) && is_of id (abort_in t.body)

-- the same of octets that were heard, to the pass's source
unfoldable pub is_abort : Terms → (id : ℕ) → List ℕ → Bool
is_abort terms id o = aborts id (report_of terms o)

-- once octets were heard
abbrev pub with_packet : Large → Terms → Way → List ℕ → Way
with_packet l terms w o =
    if is_abort terms (id_of l w.used) o then
    under_next_name l (record w { of_request = pass.octets_heard terms w.of_request o })
    else record w { of_request = pass.octets_heard terms w.of_request o }

-- once nothing was heard for the wait: a new round begins
abbrev pub with_round : Large → Terms → Way → Way
with_round l terms w =
    if nat_lt (w.rounds + 1) (patience w.used) then
    record w {
      of_request = pass.pass_waited terms w.of_request;
      at = 0;
      rounds = w.rounds + 1;
    }
    else under_next_name l (record w { of_request = pass.pass_waited terms w.of_request })

-- once nothing more will be heard
abbrev pub at_end : Way → Way
at_end w = record w { of_request = pass.pass_closed w.of_request }

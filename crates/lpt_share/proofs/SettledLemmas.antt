-- What was found at the end of a run.
use Rattle.std.proofs.Common.{◌≡◌, ◌≤◌, ◌+◌, ◌-◌, ℕ, ap, refl, subst, inl, inr, false, List, [], ◌∷◌, length, drop, replicate, None, arith}
use Rattle.lpt_packet.specs.declared.direction.Direction.{Direction}
use Rattle.lpt_packet.specs.declared.direction.Direction.TheVariants.{Up, Down}
use Rattle.lpt_packet.specs.Names.{Name}
use Rattle.lpt_part.specs.Splitting.{part_count}
use Rattle.lpt_events.specs.declared.entry.Entry.{Entry}
use Rattle.lpt_events.specs.declared.entry.Opening.{Opening}
use Rattle.lpt_events.specs.declared.log.SeatLog.{SeatLog}
use Rattle.lpt_events.specs.declared.turns.Turns.{Turns}
use Rattle.lpt_journal.specs.Link.{sent}
use Rattle.lpt_journal.specs.Senders.{opened}
use Rattle.lpt_world.specs.Worlds.{Shown, history}
use Rattle.lpt_share.specs.declared.owed.Owed.{Owed}
use Rattle.lpt_share.specs.Finished.{AreOwedCarried, AreCarried, IsCarried, IsFinished, owed_of}
use Rattle.lpt_share.specs.Settled.{AreCarriedInOrder, AreOwedInOrder, IsCarriedInOrder, IsSettled}
use Rattle.lpt_packet.proofs.BoolLemmas.{and_left, and_right}
use Rattle.lpt_share.specs.Turn.{are_in_turn}
use Rattle.lpt_share.proofs.FinishLemmas.{sent_before, taken_once}
use Rattle.lpt_share.proofs.TurnLemmasAudit.{sent_once}

-- what was sent part after part was sent whole
carried : (xs : List Entry) (d : Direction) (name : Name) (parts : ℕ)
    → IsCarriedInOrder xs d name parts
    → IsCarried xs d name parts
carried xs d name parts (inl aborted) = inl aborted
carried xs d name parts (inr sent) =
    inr ((λ k least most. sent_before xs d name 1 k least (omega (arith, sent.0))), sent.1)

all_carried : (limit : ℕ) (logs : List SeatLog) (p from : ℕ) (xs : List Entry) (os : List Opening)
    → AreCarriedInOrder limit logs p from xs os
    → AreCarried limit logs p from xs os
all_carried limit logs p from xs [] all = tt
all_carried limit logs p from xs (o ∷ os) all = (
  λ since short. carried (drop (o.place - from) xs) o.direction o.name
      (part_count (length o.message) p) (all.0 since short),
  all_carried limit logs p from xs os all.1,
)

all_owed : (limit : ℕ) (logs : List SeatLog) (p : ℕ) (xs : List Entry) (os : List Owed)
    → AreOwedInOrder limit logs p xs os
    → AreOwedCarried limit logs p xs os
all_owed limit logs p xs [] all = tt
all_owed limit logs p xs (o ∷ os) all = (
  λ short. carried xs o.direction o.name (part_count o.length p) (all.0 short),
  all_owed limit logs p xs os all.1,
)

-- a run that is settled has finished
pub finished : (turns : Turns) (from : ℕ) (owed : List Owed) (given w : Shown) (logs : List SeatLog)
    → IsSettled turns from owed w logs
    → from ≡ length given.journal
    → owed ≡ owed_of given
    → IsFinished turns given w logs
finished turns from owed given w logs settled place same =
    let at : IsSettled turns (length given.journal) (owed_of given) w logs =
    subst (λ n. IsSettled turns n (owed_of given) w logs) place
    (subst (λ o. IsSettled turns from o w logs) same settled) in
    let xs = drop (length given.journal) w.journal in
    let through = at.0 in
    record {
      at_start = all_owed turns.per_seat logs w.config.part_size xs (owed_of given) through.5;
      since = all_carried turns.per_seat logs w.config.part_size (length given.journal) xs
          (opened (history w)) through.6;
      taken = at.1.1;
      once = taken_once xs (replicate (length (sent (history w))) false) at.1.0;
      up_once =
          sent_once Up xs (and_left (are_in_turn Up None xs) (are_in_turn Down None xs) through.1);
      down_once =
          sent_once Down xs
          (and_right (are_in_turn Up None xs) (are_in_turn Down None xs) through.1);
      idle = through.0;
      executed = through.2;
      craft_ticked = through.3;
      ground_ticked = through.4;
    }

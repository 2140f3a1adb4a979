-- What is told of a request that is refused or dropped.
use Rattle.std.proofs.Common.{◌≡◌, ◌∙◌, ap, sym, subst, refl, ℕ, zero, suc, false, not, List, [], ◌∷◌, length, drop, map, Option, Some, None}
use Rattle.std.specs.List.{slice_get}
use Rattle.std.specs.Option.{is_some, option_map_or}
use Rattle.lpt_packet.specs.declared.direction.Direction.TheVariants.{Down}
use Rattle.lpt_packet.specs.Names.{Name}
use Rattle.lpt_pus.specs.Commands.{Command, command_in}
use Rattle.lpt_pus.specs.Numbers.{long_at}
use Rattle.lpt_pus.specs.declared.failure_code.FailureCode.{FailureCode}
use Rattle.lpt_memory.specs.Memories.{Contents}
use Rattle.lpt_acts.specs.Acts.{Leaving, Execute, Refuse, Drop, Act, Apply}
use Rattle.lpt_events.specs.declared.config.Config.{Config}
use Rattle.lpt_events.specs.declared.entry.Release.{Release}
use Rattle.lpt_events.specs.declared.fault.StepFault.TheVariants.{NoJob, NotReady}
use Rattle.lpt_events.specs.declared.reply.Answer.TheVariants.{Applied}
use Rattle.lpt_events.specs.declared.side.Side.TheVariants.{Craft}
use Rattle.lpt_execution.specs.declared.ending.Ending.TheVariants.{Silent, Refused}
use Rattle.lpt_execution.specs.declared.ending.Report.{Report}
use Rattle.lpt_execution.specs.Reporting.{reports_of, message_reports, request_source, link_packets, large_packets, opened_of, applied_of}
use Rattle.lpt_journal.specs.Executions.{front_opened, front_reports, front_source, opened_down, reports_after}
use Rattle.lpt_journal.specs.Jobs.{front_job, jobs_applied, is_committed}
use Rattle.lpt_journal.specs.Journal.{SentPacket, Recorded, History}
use Rattle.lpt_journal.specs.Leavings.{IsToldRefused, IsDroppedSilently, IsTold, LeavingsAreTold}
use Rattle.lpt_journal.specs.Receivers.{clock}
use Rattle.lpt_journal.specs.Refusals.{refusal}
use Rattle.lpt_journal.specs.Replies.{entry, history_after}
use Rattle.lpt_journal.specs.Senders.{least_free, packets_made}
use Rattle.lpt_journal.proofs.TestLemmas.{two_pass, no_place}

-- ---- one that ends silently

-- has no reports
pub silent_reports : (apid : ℕ) (m : List ℕ) → message_reports apid m Silent ≡ []
silent_reports apid m = go (command_in apid m) where
  go : (o : Option Command)
      → option_map_or (λ (c : Command). reports_of (long_at m 0) c.flags Silent) o [] ≡ []
  go None = refl
  go (Some c) = refl

-- and opens nothing
pub none_opened : (o : Option Name) → opened_of o [] ≡ None
none_opened None = refl
none_opened (Some name) = refl

-- ---- entries

some_front : (o : Option Release) → not (is_some o) ≡ false → (r : Release) × (o ≡ Some r)
some_front None e = absurd cc
some_front (Some r) e = (r, refl)

-- what leaves is the oldest
oldest_is : (c : Config) (h : History) (how : Leaving)
    → refusal c h (Apply how) ≡ None
    → (r : Release) × (front_job c h ≡ Some r)
oldest_is c h how can =
    some_front (front_job c h)
    (two_pass (not (is_some (front_job c h))) (not (is_committed h (jobs_applied h))) NoJob NotReady
    can).0

refused_is_told : (c : Config) (first : Contents) (h : History) (code : FailureCode)
    → refusal c h (Apply (Refuse code)) ≡ None
    → IsToldRefused c first code (entry c first h (Apply (Refuse code))) h
refused_is_told c first h code can =
    let it = oldest_is c h (Refuse code) can in
    record {
      request = it.0;
      was_oldest = it.1;
      answers =
          ap (λ (o : Option Release). Applied (applied_of
          (option_map_or (λ (r : Release). Refused code) o Silent)
          (front_opened c first h (Refuse code)))) it.1;
      puts =
          ap (λ (o : Option Release). map {B = SentPacket}
          (λ b. record { direction = Down; octets = b })
          (link_packets c.part_size
          (reports_after c
          (option_map_or (λ (r : Release). request_source c.apid r.message) o 0)
          (packets_made h Down)
          (clock c h Craft)
          (option_map_or (λ (r : Release). message_reports c.apid r.message (Refused code)) o []))))
          it.1;
      unchanged = refl;
    }

none_reported : (c : Config) (first : Contents) (h : History) → front_reports c first h Drop ≡ []
none_reported c first h = go (front_job c h) where
  go : (o : Option Release)
      → option_map_or (λ (r : Release). message_reports c.apid r.message Silent) o [] ≡ []
  go None = refl
  go (Some r) = silent_reports c.apid r.message

dropped_is_silent : (c : Config) (first : Contents) (h : History)
    → refusal c h (Apply Drop) ≡ None
    → IsDroppedSilently c first (entry c first h (Apply Drop)) h
dropped_is_silent c first h can =
    let it = oldest_is c h Drop can in
    let none : front_reports c first h Drop ≡ [] = none_reported c first h in
    let free : Option Name = least_free h Down (front_source c h) in
    record {
      request = it.0;
      was_oldest = it.1;
      answers =
          ap (λ (o : Option Release). Applied (applied_of
          (option_map_or (λ (r : Release). Silent) o Silent) (front_opened c first h Drop))) it.1;
      puts =
          ap (λ (rs : List Report). map {B = SentPacket}
          (λ b. record { direction = Down; octets = b })
          (link_packets c.part_size
          (reports_after c (front_source c h) (packets_made h Down) (clock c h Craft) rs))) none;
      opens =
          ap (λ (rs : List Report). opened_down (length h) (opened_of free
          (large_packets c.part_size
          (reports_after c (front_source c h) (packets_made h Down) (clock c h Craft) rs)))) none
          ∙ ap (opened_down (length h)) (none_opened free);
      unchanged = refl;
    }

entry_is_told : (c : Config) (first : Contents) (h : History) (how : Leaving)
    → refusal c h (Apply how) ≡ None
    → IsTold c first how (entry c first h (Apply how)) h
entry_is_told c first h Execute can = tt
entry_is_told c first h (Refuse code) can = refused_is_told c first h code can
entry_is_told c first h Drop can = dropped_is_silent c first h can

pub leavings_are_told : LeavingsAreTold
leavings_are_told c first [] k x how legal f is = absurd (no_place k x f)
leavings_are_told c first (e ∷ es) zero x how legal f is =
    let h = history_after c first es in
    let same : entry c first h e ≡ x = cc in
    let event : e ≡ Apply how = ap (λ (y : Recorded). y.event) same ∙ is in
    subst (λ (y : Recorded). IsTold c first how y h) (ap (entry c first h) (sym event) ∙ same)
    (entry_is_told c first h how (ap (refusal c h) (sym event) ∙ legal.1.accepted))
leavings_are_told c first (e ∷ es) (suc k) x how legal f is =
    leavings_are_told c first es k x how legal.0 f is

-- The worked runs whose program has the memory, computed by the definitions.
use Rattle.std.proofs.Common.{◌≡◌, ◌∙◌, ap, sym, refl, ℕ, ◌+◌, ◌==◌, if◌then◌else◌, List, [], ◌∷◌, Some, None, Err, inl, arith}
use Rattle.std.specs.Prelude.{slice_get}
use Rattle.std.specs.Option.{option_map}
use Rattle.lpt_c_pair.specs.Called.{usual_own}
use Rattle.lpt_packet.specs.Checksums.{checksum, octets_in, shift_all}
use Rattle.lpt_packet.specs.Packets.{packet_seen, spelling}
use Rattle.lpt_packet.specs.declared.direction.Direction.TheVariants.{Up}
use Rattle.lpt_pus.specs.Commands.{tc_field, tc_verdict, command_in}
use Rattle.lpt_pus.specs.Telemetry.{tm_field, tm_verdict}
use Rattle.lpt_part.specs.Parts.{body_of, part_verdict}
use Rattle.lpt_ledger.specs.LeastFree.{first_of_numbers, least_free_in}
use Rattle.lpt_memory.specs.Given.{accesses, octets_read, read_length, octets_written}
use Rattle.lpt_memory.specs.Meanings.{Meaning, body_meaning, meaning}
use Rattle.lpt_memory.specs.Readings.{source_meaning}
use Rattle.lpt_memory.specs.Requests.{front_load_area, front_head, request_in}
use Rattle.lpt_events.specs.Arrivals.{arrival}
use Rattle.lpt_events.specs.declared.side.Side.TheVariants.{Ground, Craft}
use Rattle.lpt_execution.specs.Reporting.{request_source}
use Rattle.lpt_jobs.specs.declared.job.Job.{Job}
use Rattle.lpt_jobs.specs.declared.job.Job.TheVariants.{Waiting, Committed}
use Rattle.lpt_node.specs.Jobs.{executed_given}
use Rattle.lpt_node.specs.Nodes.{NodeData, no_data}
use Rattle.lpt_state.specs.Spellings.{state_spelled}
use Rattle.lpt_acts.specs.Acts as act
use Rattle.lpt_apart.specs.Ends.{Asked, Left, Released, Restarted, with_report}
use Rattle.lpt_c_end.specs.Accesses.{access_word, written_by}
use Rattle.lpt_c_end.specs.Changes.{IsNew}
use Rattle.lpt_c_end.specs.Codes.{nothing, read_length_fault}
use Rattle.lpt_c_end.specs.Kept.{elsewhere_refusal, text_or_nothing}
use Rattle.lpt_c_end.specs.Refusals.{sending_refusal}
use Rattle.lpt_c_end.specs.Sizes.{IsNewSized, kept_as}
use Rattle.lpt_c_end.specs.declared.end.End.{End}
use Rattle.lpt_c_pair.specs.Pairs.{ExecuteGiven, IsDone, IsKept, ResumeSized}
use Rattle.lpt_c_pair.specs.Programs.{CanActAll, Gives, IsTold, Program, Calls, program_started}
use Rattle.lpt_c_pair.specs.Pairs.{Packet, Plain, Read}
use Rattle.lpt_c_pair.specs.Resets.{AreCareful, CanLiveAll, just_begun}
use Rattle.lpt_c_pair.specs.Runs.{CanStand}
use Rattle.lpt_c_pair.specs.Withheld.{turns_of}
use Rattle.lpt_c_pair.proofs.Careful.{careful_machines_may_be_reset}
use Rattle.lpt_c_pair.specs.Worked.{TornCanBeRedone, WorkedCanBe, WrittenCanBePutBack, load_told, sizes, torn_and_redone, worked_acts, written_and_put_back}
use Rattle.lpt_c_pair.proofs.Computed.{asked, gives, gives_quietly, means, octets, opens_nothing, packet_is, source, with_jobs}
use Rattle.lpt_c_pair.proofs.Stages.{AreRead, again_end, asked_end, asks, craft_end, is_kept, none_read, one_read, one_waits, reads, resumes, takes}
use Rattle.lpt_journal_examples.specs.Passes.{load, load_packet, usual, usual_memories}

-- ---- requests

abbrev pub one_waiting : AreRead (Waiting load_packet ∷ [])
one_waiting = one_waits load_packet [] none_read

abbrev pub one_done : AreRead (Committed source ∷ [])
one_done = one_read source [] refl refl none_read

-- ---- the spacecraft

module _ (k : End) (new_k : IsNewSized usual sizes k) where
  abbrev pub craft : (first : ℕ) (jobs : List Job) → AreRead jobs → End
  craft first jobs all = craft_end (kept_as sizes) refl (λ code. refl) k new_k first jobs all

  abbrev pub craft_again : (first : ℕ) (jobs : List Job) → AreRead jobs → End
  craft_again first jobs all =
      again_end (kept_as sizes) refl (λ code. refl) k new_k first jobs all

  -- the load is executed, of which nothing is read
  pub gives_it : (first : ℕ)
      → IsDone (ExecuteGiven []) (craft first (Committed source ∷ []) one_done)
      (craft (first + 1) [] none_read)
  gives_it first =
      let d : NodeData = with_jobs first (Committed source ∷ []) in (
        (λ i. elsewhere_refusal (new_k.memories i) (sending_refusal
            (if 0 == read_length (means i) then None else Some read_length_fault) [])),
        record {
          node = sym (gives first) ∙ (λ i. (executed_given (sym new_k.config i) d []).0);
          outbox =
              sym (gives_quietly first)
              ∙ (λ i. (executed_given (sym new_k.config i) d []).1.packets);
          released = refl;
          fixed = record { side = refl; config = refl; memories = refl };
        },
      )

  -- what the calls tell of it
  pub told : (first : ℕ) → IsTold 0 load_told (craft first (Committed source ∷ []) one_done)
  told first = record {
    access =
        ap (λ (m : Meaning). option_map access_word (slice_get (accesses m) 0)) means;
    octets = ap (λ (m : Meaning). text_or_nothing (slice_get (octets_written m) 0)) means;
  }

  pub no_more : (first : ℕ)
      → written_by 1 (Some (craft first (Committed source ∷ []) one_done)) ≡ Err nothing
  no_more first = ap (λ (m : Meaning). text_or_nothing (slice_get (octets_written m) 1)) means

  -- it is restored from its state
  pub resumes_it : (first : ℕ) (jobs : List Job) (all : AreRead jobs)
      → let e = craft first jobs all in
      IsDone (ResumeSized e.config (state_spelled e.node) sizes) e (craft_again first jobs all)
      × IsKept usual e e.config (state_spelled e.node) (kept_as sizes)
  resumes_it first jobs all =
      let e : End = craft first jobs all in (
        resumes e first jobs refl new_k.config (craft_again first jobs all) (kept_as sizes) new_k.side
            new_k.side refl refl new_k.memories refl refl,
        is_kept e first jobs refl new_k.config (kept_as sizes) (sym new_k.memories),
      )

-- what the load reads of memories
pub reads_nothing : octets_read (source_meaning source) usual_memories ≡ []
reads_nothing = ap (λ (m : Meaning). octets_read m usual_memories) means

-- ---- the runs

module _ (g k : End) (new_g : IsNew Ground usual [] [] g) (new_k : IsNewSized usual sizes k) where
  abbrev asked_for : End
  asked_for = asked_end g new_g

  abbrev taken : End
  taken = craft k new_k 0 (Waiting load_packet ∷ []) one_waiting

  abbrev read : End
  read = craft k new_k 0 (Committed source ∷ []) one_done

  abbrev given : End
  given = craft k new_k 1 [] none_read

  abbrev again : End
  again = craft_again k new_k 1 [] none_read

  abbrev again_before : End
  again_before = craft_again k new_k 0 (Committed source ∷ []) one_done

  abbrev start : Program
  start = program_started usual usual_memories 0 usual_own g k

  -- up to the execution
  can_give : CanActAll usual start (Gives [] (load_told ∷ []) given
      ∷ Calls (record { side = Craft; call = Read; new = read })
      ∷ Calls (record { side = Craft; call = Packet load_packet; new = taken })
      ∷ Calls (record { side = Ground; call = Plain 1 0 6 2 load; new = asked_for }) ∷ [])
  can_give = (
    (
      (
        (
          tt,
          ((asks g new_g, (omega arith, omega arith, omega arith, omega arith, octets)), tt),
        ),
        (
          (
            takes (kept_as sizes) refl (λ code. refl) k new_k one_waiting,
            inl (record {
              place = 0;
              packet = record { direction = Up; part_of = None; octets = asked.1 };
              there = refl;
              goes = refl;
              octets = packet_is;
            }),
          ),
          tt,
        ),
      ),
      (
        (
          reads (kept_as sizes) refl (λ code. refl) k new_k 0 (Waiting load_packet ∷ [])
              one_waiting 0 (Committed source ∷ []) one_done refl refl,
          tt,
        ),
        tt,
      ),
    ),
    (
      gives_it k new_k 0,
      record {
        settled = refl;
        told = (told k new_k 0, no_more k new_k 0);
        held = reads_nothing;
      },
    ),
  )

  can : CanActAll usual start (worked_acts asked_for taken read given again)
  can = ((can_give, tt), (resumes_it k new_k 1 [] none_read, refl))

  -- the calls alone
  stands : CanStand usual start.ends (turns_of (worked_acts asked_for taken read given again))
  stands = (
    (
      (
        ((tt, can_give.0.0.0.1.0), can_give.0.0.1.0),
        can_give.0.1.0,
      ),
      (gives_it k new_k 0, reads_nothing),
    ),
    resumes_it k new_k 1 [] none_read,
  )

  careful : AreCareful usual start (just_begun start)
      (torn_and_redone asked_for taken read given again)
  careful = (
    (
      (
        (
          (
            (
              (
                ((tt, (can_give.0.0.0.1, can_give.0.0.0.1)), tt),
                (can_give.0.0.1, can_give.0.0.1),
              ),
              (can_give.0.1, can_give.0.1),
            ),
            (can_give.1, can_give.1),
          ),
          tt,
        ),
        (refl, refl),
      ),
      (refl, (resumes_it k new_k 1 [] none_read, refl)),
    ),
    (tt, tt),
  )

  -- ---- the same before the execution

  can_put_back : CanLiveAll usual start (just_begun start)
      (written_and_put_back asked_for taken read again_before)
  can_put_back = (
    (
      (
        (((tt, can_give.0.0.0.1), can_give.0.0.1), can_give.0.1),
        tt,
      ),
      (refl, told k new_k 0),
    ),
    (
      (can_give.0, refl),
      (resumes_it k new_k 0 (Committed source ∷ []) one_done, refl),
    ),
  )

pub worked_can_be : WorkedCanBe
unfolding packet_seen spelling checksum octets_in shift_all tc_field tc_verdict command_in tm_field
    tm_verdict body_of part_verdict arrival first_of_numbers front_load_area front_head request_in
    body_meaning meaning
worked_can_be g k new_g new_k = record {
  asked = asked_for g k new_g new_k;
  taken = taken g k new_g new_k;
  read = read g k new_g new_k;
  given = given g k new_g new_k;
  again = again g k new_g new_k;
  can = can g k new_g new_k;
  log = λ i.
      Restarted Craft ∷ Left act.Execute
      ∷ with_report (Released None load_packet ∷ Asked load_packet ∷ [])
      (opens_nothing (least_free_in (no_data usual).sending.ledger
      (request_source 100 load_packet)) i);
  left = refl;
  stands = stands g k new_g new_k;
}

pub torn_can_be_redone : TornCanBeRedone
torn_can_be_redone g k new_g new_k = record {
  asked = asked_for g k new_g new_k;
  taken = taken g k new_g new_k;
  read = read g k new_g new_k;
  given = given g k new_g new_k;
  again = again g k new_g new_k;
  careful = careful g k new_g new_k;
  can =
      careful_machines_may_be_reset usual (start g k new_g new_k)
      (torn_and_redone (asked_for g k new_g new_k) (taken g k new_g new_k) (read g k new_g new_k)
      (given g k new_g new_k) (again g k new_g new_k)) (careful g k new_g new_k);
  left = refl;
}

pub written_can_be_put_back : WrittenCanBePutBack
written_can_be_put_back g k new_g new_k = record {
  asked = asked_for g k new_g new_k;
  taken = taken g k new_g new_k;
  read = read g k new_g new_k;
  again = again_before g k new_g new_k;
  can = can_put_back g k new_g new_k;
}

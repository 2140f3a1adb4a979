-- The worked pass, computed by the definitions.
use Rattle.std.proofs.Common.{◌≡◌, ◌∙◌, ap, sym, subst, refl, ℕ, List, [], ◌∷◌, ◌++◌, length, drop, map, reverse}
use Rattle.lpt_packet.specs.Checksums.{checksum, octets_in, shift_all}
use Rattle.lpt_packet.specs.Packets.{packet_seen, spelling}
use Rattle.lpt_pus.specs.Commands.{tc_field, tc_verdict, command_in}
use Rattle.lpt_pus.specs.Telemetry.{tm_field, tm_verdict}
use Rattle.lpt_part.specs.Parts.{body_of, part_verdict}
use Rattle.lpt_ledger.specs.LeastFree.{first_of_numbers}
use Rattle.lpt_memory.specs.Meanings.{body_meaning, meaning}
use Rattle.lpt_memory.specs.Memories.{Contents}
use Rattle.lpt_memory.specs.Requests.{front_load_area, front_head, request_in}
use Rattle.lpt_acts.specs.Acts.{Act}
use Rattle.lpt_events.specs.Arrivals.{arrival}
use Rattle.lpt_events.specs.declared.config.Config.{Config}
use Rattle.lpt_events.specs.declared.entry.Opening.{Opening}
use Rattle.lpt_events.specs.declared.entry.Release.{Release}
use Rattle.lpt_journal.specs.Abortions.{Abortion, abortion_at}
use Rattle.lpt_journal.specs.Jobs.{front_job, left_now, memories}
use Rattle.lpt_journal.specs.Journal.{Recorded, History, with_all}
use Rattle.lpt_journal.specs.Releases.{released_by, releases}
use Rattle.lpt_journal.specs.Replies.{entry, history_after}
use Rattle.lpt_journal_examples.proofs.LegalRows.{usual_pass}
use Rattle.lpt_journal_examples.proofs.Listed.{recorded_listed, recorded_is}
use Rattle.lpt_journal_examples.proofs.ListedReleases.{releases_listed, releases_is}
use Rattle.lpt_journal_examples.specs.Passes.{IsPass, pass_history, usual, usual_memories, loaded_memories}
use Rattle.lpt_service.specs.Served.{view, release_step, plain_steps, asked_now, steps, all_steps, IsServed}
use Rattle.lpt_service.specs.Service as service
use Rattle.lpt_service.specs.Worked.{full_pass, full_steps}
use Rattle.lpt_service.proofs.ServedLemmas.{each_journal_is_a_run}

-- ---- a run of several events

joined : (apid : ℕ) (s t u : service.Service) (xs ys : List service.Step)
    → service.IsRun apid s xs t
    → service.IsRun apid t ys u
    → service.IsRun apid s (xs ++ ys) u
joined apid s t u [] ys run more = subst (λ v. service.IsRun apid v ys u) run more
joined apid s t u (x ∷ xs) ys run more =
    (run.0, joined apid (service.after apid s x) t u xs ys run.1 more)

-- all steps of a journal that is served lead from the first memories to what is seen at its end
all_run : (c : Config) (first : Contents) (es : List Act)
    → IsServed c first es
    → service.IsRun c.apid (service.start first) (all_steps c (history_after c first es))
    (view c first (history_after c first es))
all_run c first [] served = served
all_run c first (e ∷ es) served =
    let h = history_after c first es in
    joined c.apid (service.start first) (view c first h)
    (view c first (history_after c first (e ∷ es))) (all_steps c h) (steps c (entry c first h e) h)
    (all_run c first es served.0) served.1

-- ---- steps that compute

behind : {A : Type 0} (xs ys : List A) → drop (length xs) (with_all xs ys) ≡ ys
behind {A = A} xs [] = go xs where
  go : (xs : List A) → drop (length xs) xs ≡ []
  go [] = refl
  go (x ∷ xs) = go xs
behind {A = A} xs (y ∷ ys) = go xs where
  go : (xs : List A) → drop (length xs) (xs ++ y ∷ ys) ≡ y ∷ ys
  go [] = refl
  go (x ∷ xs) = go xs

-- what an entry releases, by the lists
abbrev released_listed : Config → Recorded → History → List Release
released_listed c x h = drop (length (releases_listed c h)) (releases_listed c (x ∷ h))

released_is : (c : Config) (x : Recorded) (h : History)
    → released_by c x h ≡ released_listed c x h
released_is c x h =
    sym (behind (releases c h) (released_by c x h))
    ∙ (λ j. drop (length (releases_is c h j)) (releases_is c (x ∷ h) j))

abbrev steps_of : Config → Recorded → History → List Release → List service.Step
steps_of c x h rs =
    plain_steps x.event
    ++ map service.Send (asked_now c h x.event)
    ++ map (λ r. release_step r.of r.message) rs
    ++ map (λ (e : Abortion). service.GiveUp e.direction e.name)
    (abortion_at (length h) x.event x.reply.answer)
    ++ map (λ y. service.Leave y.0 y.1.message) (left_now x.event (front_job c h))
    ++ map (λ (o : Opening). service.Open o.direction o.name o.message) x.opens

-- all steps of a history, by the lists
abbrev all_listed : Config → History → List service.Step
all_listed c [] = []
all_listed c (x ∷ h) = all_listed c h ++ steps_of c x h (released_listed c x h)

all_is : (c : Config) (h : History) → all_steps c h ≡ all_listed c h
all_is c [] = refl
all_is c (x ∷ h) = λ j. all_is c h j ++ steps_of c x h (released_is c x h j)

-- ---- the pass

pub full_passes : IsPass usual full_pass
unfolding packet_seen spelling checksum octets_in shift_all tc_field tc_verdict command_in tm_field
    tm_verdict body_of part_verdict first_of_numbers front_load_area front_head request_in
    body_meaning meaning arrival
full_passes = usual_pass full_pass refl

pub full_makes : all_steps usual (pass_history usual full_pass) ≡ full_steps
unfolding packet_seen spelling checksum octets_in shift_all tc_field tc_verdict command_in tm_field
    tm_verdict body_of part_verdict first_of_numbers front_load_area front_head request_in
    body_meaning meaning arrival
full_makes =
    ap (all_steps usual) (recorded_is usual (reverse full_pass))
    ∙ all_is usual (recorded_listed usual (reverse full_pass))

pub full_leaves : memories usual usual_memories (pass_history usual full_pass) ≡ loaded_memories
unfolding packet_seen spelling checksum octets_in shift_all tc_field tc_verdict command_in tm_field
    tm_verdict body_of part_verdict first_of_numbers front_load_area front_head request_in
    body_meaning meaning arrival
full_leaves = ap (memories usual usual_memories) (recorded_is usual (reverse full_pass))

-- the steps are a run of the service
pub full_runs : service.IsRun 100 (service.start usual_memories) full_steps
    (view usual usual_memories (pass_history usual full_pass))
full_runs =
    subst (λ ss. service.IsRun 100 (service.start usual_memories) ss
    (view usual usual_memories (pass_history usual full_pass))) full_makes
    (all_run usual usual_memories (reverse full_pass)
    (each_journal_is_a_run usual usual_memories (reverse full_pass) full_passes.configured
    full_passes.legal))

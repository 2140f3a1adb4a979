-- The worked pass, computed by the definitions.
use Rattle.std.proofs.Common.{◌≡◌, ap, sym, subst, refl, ℕ, zero, suc, ◌<◌, ◌≤◌, List, [], ◌∷◌, ◌++◌, map, replicate, reverse, Some, None, arith}
use Rattle.std.specs.List.{slice_get}
use Rattle.lpt_packet.specs.declared.direction.Direction.TheVariants.{Down}
use Rattle.lpt_packet.specs.Checksums.{checksum, octets_in, shift_all}
use Rattle.lpt_packet.specs.Packets.{packet_seen, spelling}
use Rattle.lpt_pus.specs.Commands.{tc_field, tc_verdict, command_in}
use Rattle.lpt_pus.specs.Telemetry.{tm_field, tm_verdict, telemetry_in}
use Rattle.lpt_ledger.specs.LeastFree.{first_of_numbers}
use Rattle.lpt_memory.specs.declared.request.Area.{Area}
use Rattle.lpt_memory.specs.Meanings.{Load, body_meaning, meaning}
use Rattle.lpt_memory.specs.Memories.{content_of, sizes_of}
use Rattle.lpt_memory.specs.Requests.{front_load_area, front_head, request_in}
use Rattle.lpt_verify.specs.Reading.{report_in}
use Rattle.lpt_events.specs.Arrivals.{arrival}
use Rattle.lpt_journal.specs.Jobs.{executed, memories}
use Rattle.lpt_journal.specs.Journal.{SentPacket}
use Rattle.lpt_journal.specs.Link.{sent}
use Rattle.lpt_journal_examples.proofs.LegalRows.{usual_pass}
use Rattle.lpt_journal_examples.proofs.Listed.{recorded_is}
use Rattle.lpt_journal_examples.specs.Passes.{IsPass, pass_history, usual, usual_memories}
use Rattle.lpt_passes.specs.Images.{Agrees, IsLoaded, IsTrueTo, LoadsOctet, Stands}
use Rattle.lpt_reported_examples.specs.Worked.{first_load, image, next_load, load_twice, AreItsLoads, IsReported}

-- none of its events is refused
pub passes : IsPass usual load_twice
unfolding packet_seen spelling checksum octets_in shift_all tc_field tc_verdict command_in tm_field
    tm_verdict first_of_numbers front_load_area front_head request_in body_meaning meaning arrival
passes = usual_pass load_twice refl

-- the first load is executed twice
pub were_executed : map (λ r. r.message) (executed usual (pass_history usual load_twice))
    ≡ first_load ∷ first_load ∷ next_load ∷ []
unfolding packet_seen spelling checksum octets_in shift_all tc_field tc_verdict command_in tm_field
    tm_verdict first_of_numbers front_load_area front_head request_in body_meaning meaning arrival
were_executed =
    ap (λ h. map (λ r. r.message) (executed usual h)) (recorded_is usual (reverse load_twice))

-- ---- reports

-- the reports of completion of the two
abbrev first_report : List ℕ
first_report =
    8 ∷ 100 ∷ 192 ∷ 0 ∷ 0 ∷ 16 ∷ 32 ∷ 1 ∷ 7 ∷ 0 ∷ 0 ∷ 0 ∷ 7 ∷ 0 ∷ 0 ∷ 0 ∷ 0 ∷ 24 ∷ 100 ∷ 192 ∷ 0
    ∷ 103 ∷ 82 ∷ []

abbrev next_report : List ℕ
next_report =
    8 ∷ 100 ∷ 192 ∷ 1 ∷ 0 ∷ 16 ∷ 32 ∷ 1 ∷ 7 ∷ 0 ∷ 1 ∷ 0 ∷ 7 ∷ 0 ∷ 0 ∷ 0 ∷ 0 ∷ 24 ∷ 100 ∷ 192 ∷ 1
    ∷ 95 ∷ 11 ∷ []

abbrev down : List ℕ → SentPacket
down b = record { direction = Down; octets = b }

first_there : slice_get (sent (pass_history usual load_twice)) 3 ≡ Some (down first_report)
unfolding packet_seen spelling checksum octets_in shift_all tc_field tc_verdict command_in tm_field
    tm_verdict first_of_numbers front_load_area front_head request_in body_meaning meaning arrival
first_there = ap (λ h. slice_get (sent h) 3) (recorded_is usual (reverse load_twice))

next_there : slice_get (sent (pass_history usual load_twice)) 4 ≡ Some (down next_report)
unfolding packet_seen spelling checksum octets_in shift_all tc_field tc_verdict command_in tm_field
    tm_verdict first_of_numbers front_load_area front_head request_in body_meaning meaning arrival
next_there = ap (λ h. slice_get (sent h) 4) (recorded_is usual (reverse load_twice))

pub first_reported : IsReported first_load
unfolding packet_seen spelling checksum octets_in shift_all tm_field tm_verdict telemetry_in report_in
first_reported = record {
  number = 3;
  packet = down first_report;
  is_there = first_there;
  said = record { request = record { value = 409255936 }; code = None };
  is = record {
    body = 24 ∷ 100 ∷ 192 ∷ 0 ∷ [];
    is_down = record {
      goes_down = refl;
      telemetry = record {
        apid = 100;
        count = 0;
        status = 0;
        service = 1;
        subtype = 7;
        counter = 0;
        destination = 7;
        time = 0;
        body = 24 ∷ 100 ∷ 192 ∷ 0 ∷ [];
      };
      is_read = refl;
      goes_to = refl;
      of_service = refl;
      of_subtype = refl;
      of_body = refl;
    };
    says = refl;
  };
  of_request = refl;
}

pub next_reported : IsReported next_load
unfolding packet_seen spelling checksum octets_in shift_all tm_field tm_verdict telemetry_in report_in
next_reported = record {
  number = 4;
  packet = down next_report;
  is_there = next_there;
  said = record { request = record { value = 409255937 }; code = None };
  is = record {
    body = 24 ∷ 100 ∷ 192 ∷ 1 ∷ [];
    is_down = record {
      goes_down = refl;
      telemetry = record {
        apid = 100;
        count = 1;
        status = 0;
        service = 1;
        subtype = 7;
        counter = 1;
        destination = 7;
        time = 0;
        body = 24 ∷ 100 ∷ 192 ∷ 1 ∷ [];
      };
      is_read = refl;
      goes_to = refl;
      of_service = refl;
      of_subtype = refl;
      of_body = refl;
    };
    says = refl;
  };
  of_request = refl;
}

-- ---- loads

-- what each of them loads
abbrev first_area : Area
first_area = record { address = 16; octets = 171 ∷ 205 ∷ 239 ∷ 1 ∷ [] }

abbrev next_area : Area
next_area = record { address = 20; octets = 1 ∷ 2 ∷ 3 ∷ 4 ∷ [] }

first_means : meaning 100 (sizes_of usual_memories) first_load ≡ Load 1 (first_area ∷ [])
unfolding packet_seen spelling checksum octets_in shift_all tc_field tc_verdict command_in
    front_load_area front_head request_in body_meaning meaning
first_means = refl

next_means : meaning 100 (sizes_of usual_memories) next_load ≡ Load 1 (next_area ∷ [])
unfolding packet_seen spelling checksum octets_in shift_all tc_field tc_verdict command_in
    front_load_area front_head request_in body_meaning meaning
next_means = refl

first_agrees : Agrees image first_area
first_agrees zero within covers = refl
first_agrees (suc zero) within covers = refl
first_agrees (suc (suc zero)) within covers = refl
first_agrees (suc (suc (suc zero))) within covers = refl
first_agrees (suc (suc (suc (suc i)))) within covers =
    absurd (let to = covers.to in omega (arith, to))

next_agrees : Agrees image next_area
next_agrees zero within covers = absurd (let from = covers.from in omega (arith, from))
next_agrees (suc zero) within covers = absurd (let from = covers.from in omega (arith, from))
next_agrees (suc (suc zero)) within covers = absurd (let from = covers.from in omega (arith, from))
next_agrees (suc (suc (suc zero))) within covers =
    absurd (let from = covers.from in omega (arith, from))
next_agrees (suc (suc (suc (suc zero)))) within covers = refl
next_agrees (suc (suc (suc (suc (suc zero))))) within covers = refl
next_agrees (suc (suc (suc (suc (suc (suc zero)))))) within covers = refl
next_agrees (suc (suc (suc (suc (suc (suc (suc zero))))))) within covers = refl
next_agrees (suc (suc (suc (suc (suc (suc (suc (suc i)))))))) within covers =
    absurd (omega (arith, within))

-- the packets that were executed
abbrev loads : List (List ℕ)
loads = first_load ∷ first_load ∷ next_load ∷ []

first_true : IsTrueTo image (meaning 100 (sizes_of usual_memories) first_load)
first_true = subst (λ m. IsTrueTo image m) (sym first_means) (λ same. (first_agrees, tt))

next_true : IsTrueTo image (meaning 100 (sizes_of usual_memories) next_load)
next_true = subst (λ m. IsTrueTo image m) (sym next_means) (λ same. (next_agrees, tt))

first_loaded : (i : ℕ) → i < 4 → IsLoaded image i 100 (sizes_of usual_memories) loads
first_loaded i low = record {
  number = 0;
  request = first_load;
  is_there = refl;
  loads = subst (λ m. LoadsOctet image i m) (sym first_means) (
    refl,
    record {
      number = 0;
      area = first_area;
      is_there = refl;
      covers = record { from = omega arith; to = omega arith };
    },
  );
}

next_loaded : (i : ℕ)
    → 4 ≤ i
    → i < 8
    → IsLoaded image i 100 (sizes_of usual_memories) loads
next_loaded i low high = record {
  number = 2;
  request = next_load;
  is_there = refl;
  loads = subst (λ m. LoadsOctet image i m) (sym next_means) (
    refl,
    record {
      number = 0;
      area = next_area;
      is_there = refl;
      covers = record { from = omega arith; to = omega arith };
    },
  );
}

each_loaded : (i : ℕ) → i < 8 → IsLoaded image i 100 (sizes_of usual_memories) loads
each_loaded zero within = first_loaded 0 (omega arith)
each_loaded (suc zero) within = first_loaded 1 (omega arith)
each_loaded (suc (suc zero)) within = first_loaded 2 (omega arith)
each_loaded (suc (suc (suc zero))) within = first_loaded 3 (omega arith)
each_loaded (suc (suc (suc (suc i)))) within =
    next_loaded (suc (suc (suc (suc i)))) (omega arith) within

pub are_its_loads : AreItsLoads loads
are_its_loads = record {
  only = (first_true, (first_true, (next_true, tt)));
  each = each_loaded;
}

-- the image is there
pub stands : Stands image (memories usual usual_memories (pass_history usual load_twice))
unfolding packet_seen spelling checksum octets_in shift_all tc_field tc_verdict command_in tm_field
    tm_verdict first_of_numbers front_load_area front_head request_in body_meaning meaning arrival
stands = record {
  content =
      replicate 16 0 ++ 171 ∷ 205 ∷ 239 ∷ 1 ∷ 1 ∷ 2 ∷ 3 ∷ 4 ∷ replicate 232 0;
  is_content =
      ap (λ h. content_of 1 (memories usual usual_memories h))
      (recorded_is usual (reverse load_twice));
  is_image = refl;
}

-- What the packet of the worked run is, what the nodes make of it, and what it means.
use Rattle.std.proofs.Common.{◌≡◌, ◌∙◌, sym, subst, refl, ℕ, zero, suc, ◌+◌, ◌<◌, List, [], ◌∷◌, length, map, Option, Some, None, arith}
use Rattle.std.specs.Prelude.{⊤}
use Rattle.std.specs.FinMap as maps
use Rattle.std.proofs.lemmas.List.Elements.{All-nil}
use Rattle.lpt_ledger.specs.Runs.{runs_of, runs_of_names, IsRun}
use Rattle.lpt_ledger.specs.Marks.{Mark}
use Rattle.lpt_packet.specs.Names.{name_cmp}
use Rattle.lpt_packet.specs.Numbers.{IsOctets}
use Rattle.lpt_state.specs.Lastings.{AreRuns}
use Rattle.lpt_packet.specs.Checksums.{checksum, octets_in, shift_all}
use Rattle.lpt_packet.specs.Packets.{packet_seen, spelling}
use Rattle.lpt_pus.specs.Commands.{tc_field, tc_verdict, command_in}
use Rattle.lpt_pus.specs.Telemetry.{tm_field, tm_verdict}
use Rattle.lpt_pus.specs.declared.failure_code.FailureCode.TheVariants.{OutOfRange}
use Rattle.lpt_part.specs.Parts.{body_of, part_verdict}
use Rattle.lpt_memory.specs.Meanings.{Load, body_meaning, meaning}
use Rattle.lpt_memory.specs.Readings.{Source, source_meaning}
use Rattle.lpt_memory.specs.Requests.{front_load_area, front_head, request_in}
use Rattle.lpt_ledger.specs.LeastFree.{first_of_numbers, least_free_in}
use Rattle.lpt_events.specs.Arrivals.{ARequest, arrival}
use Rattle.lpt_events.specs.declared.side.Side.TheVariants.{Craft}
use Rattle.lpt_jobs.specs.declared.job.Job.{Job}
use Rattle.lpt_jobs.specs.declared.job.Job.TheVariants.{Committed}
use Rattle.lpt_execution.specs.Reporting.{message_reports, opened_of, request_source}
use Rattle.lpt_execution.specs.declared.ending.Ending.TheVariants.{Refused}
use Rattle.lpt_node.specs.Jobs.{Execution, job_executed, executed_given, refused_front, reports_made, with_opened}
use Rattle.lpt_packet.specs.Names.{Name}
use Rattle.lpt_node.specs.Nodes.{NodeData, no_data}
use Rattle.lpt_node.specs.Requests.{plain_made}
use Rattle.lpt_journal_examples.specs.Passes.{load, load_packet, loaded_memories, usual, usual_memories}

abbrev pub asked : NodeData × List ℕ
asked = plain_made usual (no_data usual) 1 0 6 2 load

-- the packet of the request
pub packet_is : asked.1 ≡ load_packet
unfolding packet_seen spelling checksum octets_in shift_all tc_field tc_verdict command_in body_of
packet_is = refl

-- it comes as a request
pub arrives : arrival Craft 100 8 load_packet ≡ ARequest load_packet
unfolding packet_seen spelling checksum octets_in shift_all tc_field tc_verdict command_in tm_field
    tm_verdict body_of part_verdict arrival
arrives = refl

-- the spacecraft's node with these requests, of which the first has this number
abbrev pub with_jobs : ℕ → List Job → NodeData
with_jobs first jobs = record (no_data usual) { jobs = record { first = first; jobs = jobs } }

-- the request, once it was read
abbrev pub source : Source
source = record { apid = 100; sizes = (1, 256) ∷ []; message = load_packet }

pub means : source_meaning source
    ≡ Load 1 (record { address = 16; octets = 171 ∷ 205 ∷ 239 ∷ 1 ∷ [] } ∷ [])
unfolding packet_seen spelling checksum octets_in shift_all tc_field tc_verdict command_in
    front_load_area front_head request_in body_meaning meaning
means = refl

-- ---- executions

-- no report of data is opened, whatever name is free
pub opens_nothing : (o : Option Name) → opened_of o [] ≡ None
opens_nothing None = refl
opens_nothing (Some name) = refl

opens_none : (d : NodeData) (o : Option Name) → with_opened d (opened_of o []) ≡ d
opens_none d None = refl
opens_none d (Some name) = refl

-- the load is executed where the program has the memory
pub gives : (first : ℕ)
    → (executed_given usual (with_jobs first (Committed source ∷ [])) []).0
    ≡ with_jobs (first + 1) []
unfolding packet_seen spelling checksum octets_in shift_all tc_field tc_verdict command_in first_of_numbers
    front_load_area front_head request_in body_meaning meaning
gives first =
    opens_none (with_jobs (first + 1) [])
    (least_free_in (with_jobs first (Committed source ∷ [])).sending.ledger
    (request_source 100 load_packet))

pub gives_quietly : (first : ℕ)
    → (executed_given usual (with_jobs first (Committed source ∷ [])) []).1.packets ≡ []
unfolding packet_seen spelling checksum octets_in shift_all tc_field tc_verdict command_in first_of_numbers
    front_load_area front_head request_in body_meaning meaning
gives_quietly first = refl

-- and where the end has it
pub executes : (first : ℕ)
    → (job_executed usual (with_jobs first (Committed source ∷ [])) usual_memories).0.0
    ≡ with_jobs (first + 1) []
unfolding packet_seen spelling checksum octets_in shift_all tc_field tc_verdict command_in first_of_numbers
    front_load_area front_head request_in body_meaning meaning
executes first =
    opens_none (with_jobs (first + 1) [])
    (least_free_in (with_jobs first (Committed source ∷ [])).sending.ledger
    (request_source 100 load_packet))

pub executes_quietly : (first : ℕ)
    → (job_executed usual (with_jobs first (Committed source ∷ [])) usual_memories).0.1.packets ≡ []
unfolding packet_seen spelling checksum octets_in shift_all tc_field tc_verdict command_in first_of_numbers
    front_load_area front_head request_in body_meaning meaning
executes_quietly first = refl

pub loads : (first : ℕ)
    → (job_executed usual (with_jobs first (Committed source ∷ [])) usual_memories).1
    ≡ loaded_memories
unfolding packet_seen spelling checksum octets_in shift_all tc_field tc_verdict command_in
    front_load_area front_head request_in body_meaning meaning
loads first = refl

-- it is refused
abbrev pub refusal : (first : ℕ) → NodeData × Execution
refusal first = refused_front usual (with_jobs first (Committed source ∷ [])) OutOfRange

-- the node then, whose report was counted
abbrev pub behind_refusal : (first : ℕ) → NodeData
behind_refusal first =
    record (with_jobs first []) {
      sending =
          reports_made (no_data usual).sending
          (message_reports 100 load_packet (Refused OutOfRange));
    }

pub refuses : (first : ℕ) → (refusal first).0 ≡ behind_refusal (first + 1)
unfolding packet_seen spelling checksum octets_in shift_all tc_field tc_verdict command_in first_of_numbers
refuses first =
    opens_none (behind_refusal (first + 1))
    (least_free_in (with_jobs first (Committed source ∷ [])).sending.ledger
    (request_source 100 load_packet))

-- it makes one report
pub refuses_loudly : (first : ℕ) → length (refusal first).1.packets ≡ 1
unfolding packet_seen spelling checksum octets_in shift_all tc_field tc_verdict command_in first_of_numbers
refuses_loudly first = refl

-- ---- states

-- the names in use of an end that uses none
no_items : {A : Type 0} (xs : List A) → length xs ≡ 0 → xs ≡ []
no_items [] none = refl
no_items (x ∷ xs) none = absurd (omega (arith, none))

-- no name is in use
none_used : maps.entries {X = Mark} {R = name_cmp} maps.empty ≡ []
none_used =
    no_items (maps.entries maps.empty) (sym (maps.len-entries maps.empty)
    ∙ maps.len-empty name_cmp Mark)

pub no_runs : AreRuns (runs_of maps.empty)
unfolding runs_of_names
no_runs =
    subst (λ (es : List (Name × Mark)). AreRuns (runs_of_names (map (λ e. e.0) es)))
    (sym none_used) (record { fit = All-nil IsRun; few = omega arith })

-- octets one by one
Below : List ℕ → Type 0
Below [] = ⊤
Below (x ∷ b) = (x < 256) × Below b

below : (b : List ℕ) → Below b → IsOctets b
unfolding Below
below [] h i = omega arith
below (x ∷ b) h zero = h.0
below (x ∷ b) h (suc i) = below b h.1 i

pub octets : IsOctets load
unfolding Below
octets = below load (
  omega arith,
  (
    omega arith,
    (
      omega arith,
      (
        omega arith,
        (
          omega arith,
          (
            omega arith,
            (
              omega arith,
              (
                omega arith,
                (
                  omega arith,
                  (
                    omega arith,
                    (
                      omega arith,
                      (omega arith, (omega arith, (omega arith, tt))),
                    ),
                  ),
                ),
              ),
            ),
          ),
        ),
      ),
    ),
  ),
)

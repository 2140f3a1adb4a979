-- The worked job, computed by the definitions.
use Rattle.std.proofs.Common.{◌≡◌, ◌∙◌, ap, sym, subst, refl, ℕ, zero, suc, ◌<◌, ◌≤◌, ◌⊎◌, List, [], ◌∷◌, ◌++◌, map, replicate, Option, Some, None, inl, arith}
use Rattle.std.specs.Prelude.{⊤}
use Rattle.std.specs.List.{slice_get}
use Rattle.lpt_packet.specs.declared.direction.Direction.TheVariants.{Up, Down}
use Rattle.lpt_packet.specs.Checksums.{checksum, octets_in, shift_all}
use Rattle.lpt_packet.specs.Names.{Name}
use Rattle.lpt_packet.specs.Numbers.{IsOctets}
use Rattle.lpt_packet.specs.Packets.{packet_seen, spelling}
use Rattle.lpt_pus.specs.Commands.{command_in, packet_of, tc_field, tc_verdict}
use Rattle.lpt_pus.specs.Numbers.{long_at}
use Rattle.lpt_pus.specs.Telemetry.{telemetry_in, tm_field, tm_verdict}
use Rattle.lpt_part.specs.Parts.{body_of, part_verdict}
use Rattle.lpt_ledger.specs.LeastFree.{first_of_numbers, least_free_in}
use Rattle.lpt_memory.specs.declared.request.Area.{Area}
use Rattle.lpt_memory.specs.Meanings.{body_meaning, meaning}
use Rattle.lpt_memory.specs.Memories.{sizes_of}
use Rattle.lpt_memory.specs.Requests.{front_head, front_load_area, request_in}
use Rattle.lpt_memory.specs.Spellings.{load_text}
use Rattle.lpt_requests.specs.declared.request.Request.{Request}
use Rattle.lpt_requests.specs.declared.request.Request.TheVariants.{Load, Dump, Check}
use Rattle.lpt_requests.specs.Cuts.{AreCut, AreasCut, as_load, view}
use Rattle.lpt_verify.specs.Reading.{report_in}
use Rattle.lpt_requests.specs.Failures.{any_report_in}
use Rattle.lpt_events.specs.Arrivals.{arrival}
use Rattle.lpt_events.specs.Configs.{IsConfig}
use Rattle.lpt_execution.specs.Reporting.{opened_of, request_source}
use Rattle.lpt_node.specs.Nodes.{no_data}
use Rattle.lpt_acts.specs.Acts.{Execute}
use Rattle.lpt_apart.specs.Ends.{Asked as AskedFor, Left, Log, Opened, Released, with_report}
use Rattle.lpt_apart.specs.TwoEnds.{IsOnTheWay}
use Rattle.lpt_apart.specs.Moves.{came_to, CanMoveAll}
use Rattle.lpt_passes.specs.Passes.{IsAloneIn}
use Rattle.lpt_ground.specs.declared.asked.Asked.{Asked}
use Rattle.lpt_ground.specs.declared.asked.Awaits.TheVariants.{Completion}
use Rattle.lpt_ground.specs.declared.asked.Fate.TheVariants.{Waiting}
use Rattle.lpt_ground.specs.declared.asked.Terms.{Terms}
use Rattle.lpt_ground.specs.declared.pass.End.TheVariants.{Done}
use Rattle.lpt_ground.specs.declared.pass.Step.TheVariants.{Stop}
use Rattle.lpt_ground.specs.Carrying.{come_to, packets_of}
use Rattle.lpt_ground.specs.Passes.{PassState, pass_begun, octets_heard, next_step, state_of}
use Rattle.lpt_ground.specs.Plans.{requests_planned}
use Rattle.lpt_ground.specs.Telling.{report_of, said_in, said_of}
use Rattle.lpt_passes.specs.Chains.{WerePutOut, messages_of}
use Rattle.lpt_c_ground.specs.Calls.{CallsCarryAPass, step_word}
use Rattle.lpt_c_ground.specs.Jobs.{terms_of}
use Rattle.lpt_c_ground.specs.Plans.{IsNew}
use Rattle.lpt_c_ground.specs.declared.grounds.Ground.{Ground}
use Rattle.lpt_journal_examples.specs.Passes.{load, usual, usual_memories}
use Rattle.lpt_journal_examples.proofs.LegalRows.{usual_pass}
use Rattle.lpt_passes.specs.Alone.{IsNamed}
use Rattle.lpt_passes.specs.Images.{Image, IsTrueTo}
use Rattle.lpt_passes.specs.AloneJobs.{AreAlone, IsAmong}
use Rattle.lpt_passes.specs.Places.{image_at, requests_of}
use Rattle.lpt_passes.specs.Worked.{JobsCanBeCompleted, answers, content, job, place, report, request, run}

-- ---- its request

abbrev area : Area
area = record { address = 16; octets = content }

one-cut : (front : List Area) → AreCut 8 16 content front → front ≡ area ∷ []
one-cut [] cut = absurd cc
one-cut (a ∷ []) cut = ap (λ (b : Area). b ∷ []) cut.1
one-cut (a ∷ b ∷ rest) cut = absurd (omega (arith, cut.2.0))

one-piece : (pieces : List Area) → AreasCut 8 (area ∷ []) pieces → pieces ≡ area ∷ []
one-piece pieces cut =
    cut.2 ∙ (λ i. one-cut cut.0 cut.3 i ++ cut.4 i)

-- the request of this packet
abbrev asked-by : List ℕ → Asked
asked-by octets = record {
  octets = octets;
  id = long_at octets 0;
  awaits = Completion;
  fate = Waiting;
}

-- the octets of a load
abbrev packet-of : (memory : ℕ) → List Area → List ℕ
packet-of memory areas = spelling (packet_of (record {
  apid = 100;
  count = 0;
  flags = 8;
  service = 6;
  subtype = 2;
  source = 7;
  body = load_text memory areas;
}))

packet-is : packet-of 1 (area ∷ []) ≡ request
unfolding packet_seen spelling checksum octets_in shift_all tc_field tc_verdict command_in body_of
packet-is = refl

one-load : (r : Request) → view r ≡ as_load 1 area
    → requests_planned 100 7 0 8 (r ∷ []) ≡ asked-by request ∷ []
one-load (Load memory areas) asks =
    let same : memory ≡ 1 = cc in
    let one : areas.items ≡ area ∷ [] = cc in
    ap (λ (o : List ℕ). asked-by o ∷ [])
    (ap (λ (m : ℕ). packet-of m areas.items) same ∙ ap (packet-of 1) one ∙ packet-is)
one-load (Dump memory ranges) asks = absurd cc
one-load (Check memory ranges) asks = absurd cc

one-asked : (rs : List Request) → map view rs ≡ as_load 1 area ∷ []
    → requests_planned 100 7 0 8 rs ≡ asked-by request ∷ []
one-asked [] asks = absurd cc
one-asked (r ∷ []) asks = one-load r cc
one-asked (r ∷ s ∷ rs) asks = absurd cc

-- its pass, as it begins
begins : (g : Ground) → IsNew job (place ∷ []) content g
    → state_of g.pass ≡ pass_begun (terms_of job) (asked-by request ∷ [])
begins g made =
    let cut : AreasCut 8 (area ∷ []) made.are.pieces = made.are.cut in
    let asks : map view made.requests ≡ as_load 1 area ∷ [] =
    made.are.ask ∙ ap (map (as_load 1)) (one-piece made.are.pieces cut) in
    made.state ∙ ap (pass_begun (terms_of job)) (one-asked made.requests asks)

-- and once it heard the report
hears : next_step
    (come_to (terms_of job) (pass_begun (terms_of job) (asked-by request ∷ [])) answers)
    ≡ Stop Done
unfolding packet_seen spelling checksum octets_in shift_all telemetry_in tm_field tm_verdict next_step
    octets_heard said_in said_of report_of any_report_in report_in
hears = refl

-- ---- two ends

-- octets one by one
Below : List ℕ → Type 0
Below [] = ⊤
Below (x ∷ b) = (x < 256) × Below b

below : (b : List ℕ) → Below b → IsOctets b
unfolding Below
below [] h i = omega arith
below (x ∷ b) h zero = h.0
below (x ∷ b) h (suc i) = below b h.1 i

octets : IsOctets load
unfolding Below
octets =
    let last : Below (1 ∷ 4 ∷ 162 ∷ []) = (omega arith, (omega arith, (omega arith, tt))) in
    let load_end : Below (4 ∷ 171 ∷ 205 ∷ 239 ∷ 1 ∷ 4 ∷ 162 ∷ []) =
    (omega arith, (omega arith, (omega arith, (omega arith, last)))) in
    let load_front : Below (0 ∷ 0 ∷ 16 ∷ 0 ∷ 4 ∷ 171 ∷ 205 ∷ 239 ∷ 1 ∷ 4 ∷ 162 ∷ []) =
    (omega arith, (omega arith, (omega arith, (omega arith, load_end)))) in
    below load (omega arith, (omega arith, (omega arith, load_front)))

configured : IsConfig usual
configured = (usual_pass [] refl).configured

-- no report of data is opened, whatever name is free
opens-nothing : (o : Option Name) → opened_of o [] ≡ None
opens-nothing None = refl
opens-nothing (Some name) = refl

-- what happens of which the promise speaks
abbrev log : Log
log = Left Execute ∷ Released None request ∷ AskedFor request ∷ []

logged : (came_to usual usual_memories run).ends.log ≡ log
unfolding packet_seen spelling checksum octets_in shift_all tc_field tc_verdict command_in tm_field
    tm_verdict body_of part_verdict arrival first_of_numbers front_load_area front_head request_in
    body_meaning meaning
logged = λ i. Left Execute ∷ with_report (Released None request ∷ AskedFor request ∷ [])
    (opens-nothing (least_free_in (no_data usual).sending.ledger (request_source 100 request)) i)

on-the-way : IsOnTheWay (came_to usual usual_memories run).ends Down report
unfolding packet_seen spelling checksum octets_in shift_all tc_field tc_verdict command_in tm_field
    tm_verdict body_of part_verdict arrival first_of_numbers front_load_area front_head request_in
    body_meaning meaning
on-the-way = record {
  place = 0;
  packet = record { direction = Down; part_of = None; octets = report };
  there = refl;
  goes = refl;
  octets = refl;
}

put-out : WerePutOut usual usual_memories run (terms_of job) (packets_of answers)
put-out zero o t there is =
    let same : report ≡ o = cc in
    record {
      later = [];
      earlier = run;
      are = refl;
      on_the_way =
          subst (IsOnTheWay (came_to usual usual_memories run).ends Down) same on-the-way;
    }
put-out (suc k) o t there is = absurd cc

can : CanMoveAll usual usual_memories run
unfolding packet_seen spelling checksum octets_in shift_all tc_field tc_verdict command_in tm_field
    tm_verdict body_of part_verdict arrival first_of_numbers front_load_area front_head request_in
    body_meaning meaning Below
can = (
  (
    (
      (
        (tt, ((omega arith, omega arith, omega arith, omega arith, octets), refl)),
        inl (record {
          place = 0;
          packet = record { direction = Up; part_of = None; octets = request };
          there = refl;
          goes = refl;
          octets = refl;
        }),
      ),
      (refl, refl),
    ),
    refl,
  ),
  refl,
)

-- ---- nothing else was asked

alone-log : IsAloneIn usual log 7 (long_at request 0) request
alone-log = record { plain = plain; large = large } where
  plain : (k : ℕ) (b : List ℕ) → slice_get log k ≡ Some (AskedFor b)
      → IsNamed usual 7 (long_at request 0) b → b ≡ request
  plain zero b there named = absurd cc
  plain (suc zero) b there named = absurd cc
  plain (suc (suc zero)) b there named = cc
  plain (suc (suc (suc k))) b there named = absurd cc

  large : (k : ℕ) (name : Name) (b : List ℕ) → slice_get log k ≡ Some (Opened Up name b)
      → IsNamed usual 7 (long_at request 0) b → b ≡ request
  large zero name b there named = absurd cc
  large (suc zero) name b there named = absurd cc
  large (suc (suc zero)) name b there named = absurd cc
  large (suc (suc (suc k))) name b there named = absurd cc

alone-all : (x : Image) → AreAlone usual usual_memories log x 7 0 (request ∷ [])
alone-all x = record {
  alone = alone;
  is_new = λ k b there from. omega arith;
  others = others;
} where
  alone : (k : ℕ) (m : List ℕ) → slice_get (request ∷ []) k ≡ Some m
      → IsAloneIn usual log 7 (long_at m 0) m
  alone zero m there =
      let same : request ≡ m = cc in
      subst (λ (o : List ℕ). IsAloneIn usual log 7 (long_at o 0) o) same alone-log
  alone (suc k) m there = absurd cc

  others : (k : ℕ) (b : List ℕ) → slice_get (request ∷ []) k ≡ Some b → 0 ≤ k
      → IsAmong b (request ∷ []) ⊎ IsTrueTo x (meaning 100 (sizes_of usual_memories) b)
  others zero b there from = inl (0, there)
  others (suc k) b there from = absurd cc

pub completed-can-be : CallsCarryAPass → JobsCanBeCompleted
completed-can-be carry g new made goes =
    let came = carry answers g new goes in
    let first = begins g made in
    let x : Image = image_at job (place ∷ []) content 0 place in
    let ended : next_step (state_of new.pass) ≡ Stop Done =
    ap next_step (came.0 ∙ ap (λ (t : Terms). come_to t (state_of g.pass) answers) made.terms
    ∙ ap (λ (s : PassState). come_to (terms_of job) s answers) first) ∙ hears in
    let asked : requests_of g ≡ request ∷ [] = ap (λ (s : PassState). messages_of s.asked) first in
    record {
      configured = configured;
      can = can;
      for_memory = record {
        loads = refl;
        of_apid = refl;
        source_fits = omega arith;
        before = replicate 256 0;
        is_known = refl;
        fit = (omega arith, tt);
      };
      says = ap step_word ended;
      put_out = put-out;
      alone =
          subst (λ (l : Log). AreAlone usual usual_memories l x 7 0 (requests_of g)) (sym logged)
          (subst (AreAlone usual usual_memories log x 7 0) (sym asked) (alone-all x));
    }

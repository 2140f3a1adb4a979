-- No refusal has the number 0.
use Rattle.std.proofs.Common.{◌≡◌, ap, sym, refl, ℕ, ◌+◌, nat_lt, nat_le, ◌==◌, ◌&&◌, Bool, true, false, if◌then◌else◌, List, length, Option, Some, None, arith}
use Rattle.lpt_c_end.specs.Accesses.{drop_read_refusal, first_read, given_refusal, length_refusal, unready}
use Rattle.lpt_c_end.specs.Codes.{already_read, node_code, clock_end, clock_start, IsAnswer, answer, range, nothing}
use Rattle.lpt_c_end.specs.Refusals.{open_refusal, part_refusal, plain_refusal, finish_refusal, sent_refusal, expire_refusal, give_up_refusal, tick_refusal, ticks_refusal, rebase_refusal, read_refusal, drop_refusal, execute_refusal, ground_refusal, sending_refusal}
use Rattle.lpt_jobs.specs.Jobs.{claimed_in}
use Rattle.lpt_c_end.specs.Refusing.{refuse_as_refusal, refuse_refusal}
use Rattle.lpt_c_end.specs.Kept.{elsewhere_refusal, here_refusal, memories_refusal}
use Rattle.lpt_c_end.specs.declared.kept.Kept.{Kept}
use Rattle.lpt_c_end.specs.declared.kept.Kept.TheVariants.{Nowhere, Here, Elsewhere}
use Rattle.lpt_c_pair.specs.Answers.{ZeroIsAlwaysDone}
use Rattle.lpt_events.specs.Counts.{greatest_clock}
use Rattle.lpt_events.specs.FaultNames.{code_of}
use Rattle.lpt_events.specs.declared.side.Side.{Side}
use Rattle.lpt_events.specs.declared.side.Side.TheVariants.{Ground, Craft}
use Rattle.lpt_memory.specs.Given.{read_length}
use Rattle.lpt_memory.specs.Readings.{Source, source_meaning}
use Rattle.lpt_node.specs.Faults.{node_fault}
use Rattle.lpt_node.specs.Jobs.{refusal_claim, refusal_apply}
use Rattle.lpt_node.specs.Requests.{refusal_plain}
use Rattle.lpt_node.specs.Sending.{refusal_open, refusal_send, refusal_finish}
use Rattle.lpt_node.specs.Times.{can_set_back, refusal_tick, refusal_expire, refusal_give_up}
use Rattle.lpt_node.specs.declared.fault.NodeFault.{NodeFault}
use Rattle.lpt_node.specs.declared.fault.NodeFault.TheVariants.{InUse, Short, Long, TooMany, NotOpen, NoSuchPart, NothingDue, NoJob, NotReady, ClockEnd, Memory, PartRequest}

-- ---- numbers

not_zero : (f : NodeFault) → code_of (node_fault f) ≡ 0 → ⊥
not_zero InUse e = omega arith
not_zero Short e = omega arith
not_zero Long e = omega arith
not_zero TooMany e = omega arith
not_zero NotOpen e = omega arith
not_zero NoSuchPart e = omega arith
not_zero NothingDue e = omega arith
not_zero NoJob e = omega arith
not_zero NotReady e = omega arith
not_zero ClockEnd e = omega arith
not_zero Memory e = omega arith
not_zero PartRequest e = omega arith

-- a refusal's number isn't 0
abbrev IsNoZero : Option ℕ → Type 0
IsNoZero r = r ≡ Some 0 → ⊥

of_node : (o : Option NodeFault) → IsNoZero (node_code o)
of_node None e = cc
of_node (Some f) e = let zero_code : code_of (node_fault f) ≡ 0 = cc in not_zero f zero_code

of_number : (n : ℕ) → (n ≡ 0 → ⊥) → IsNoZero (Some n)
of_number n never e = let zero_number : n ≡ 0 = cc in never zero_number

of_test : (b : Bool) (n : ℕ) (r : Option ℕ) → (n ≡ 0 → ⊥) → IsNoZero r
    → IsNoZero (if b then Some n else r)
of_test true n r never rest = of_number n never
of_test false n r never rest = rest

of_lack : (b : Bool) (n : ℕ) → (n ≡ 0 → ⊥) → IsNoZero (if b then None else Some n)
of_lack true n never e = cc
of_lack false n never e = of_number n never e

of_range : (b : Bool) (r : Option ℕ) → IsNoZero r → IsNoZero (if b then r else Some range)
of_range true r rest = rest
of_range false r rest = of_number range (λ e. omega arith)

of_unread : (b : Bool) (r : Option ℕ)
    → IsNoZero r
    → IsNoZero (if b then r else Some already_read)
of_unread true r rest = rest
of_unread false r rest = of_number already_read (λ e. omega arith)

of_side : (s : Side) (r : Option ℕ) → IsNoZero r → IsNoZero (ground_refusal s r)
of_side Ground r rest = rest
of_side Craft r rest = of_number range (λ e. omega arith)

of_memories : (kept : Kept) (r : Option ℕ) → IsNoZero r → IsNoZero (memories_refusal kept r)
of_memories Nowhere r rest = of_number (code_of (node_fault NoJob)) (λ e. omega arith)
of_memories (Here ms) r rest = rest
of_memories (Elsewhere sizes) r rest = rest

of_here : (kept : Kept) (r : Option ℕ) → IsNoZero r → IsNoZero (here_refusal kept r)
of_here Nowhere r rest = of_number (code_of (node_fault NoJob)) (λ e. omega arith)
of_here (Here ms) r rest = rest
of_here (Elsewhere sizes) r rest = of_number 119 (λ e. omega arith)

of_elsewhere : (kept : Kept) (r : Option ℕ) → IsNoZero r → IsNoZero (elsewhere_refusal kept r)
of_elsewhere Nowhere r rest = of_number (code_of (node_fault NoJob)) (λ e. omega arith)
of_elsewhere (Here ms) r rest = of_number 119 (λ e. omega arith)
of_elsewhere (Elsewhere sizes) r rest = rest

of_length : (r : Option ℕ) (first : Option Source) (octets : List ℕ)
    → IsNoZero r
    → IsNoZero (length_refusal r first octets)
of_length (Some n) first octets rest = rest
of_length None None octets rest = rest
of_length None (Some s) octets rest =
    of_read (length octets == read_length (source_meaning s)) where
      of_read : (b : Bool) → IsNoZero (if b then None else Some 120)
      of_read true e = cc
      of_read false e = of_number 120 (λ k. omega arith) e

of_sending : (r : Option ℕ) (packets : List (List ℕ)) → IsNoZero r
    → IsNoZero (sending_refusal r packets)
of_sending (Some n) packets rest = rest
of_sending None packets rest = of_empty (length packets == 0) where
  of_empty : (b : Bool) → IsNoZero (if b then None else Some 110)
  of_empty true e = cc
  of_empty false e = of_number 110 (λ k. omega arith) e

-- ---- answers

answered : (r : Option ℕ) → IsNoZero r → IsAnswer r 0 → r ≡ None
answered None never a = refl
answered (Some n) never a = absurd (never (ap (λ (k : ℕ). Some k) (sym a)))

answered_by : (r : Option ℕ) → IsNoZero r → 0 ≡ answer r → r ≡ None
answered_by None never a = refl
answered_by (Some n) never a = absurd (never (ap (λ (k : ℕ). Some k) (sym a)))

pub zero_is_done : ZeroIsAlwaysDone
zero_is_done e = record {
  opened = λ name m. answered (open_refusal name m e) (of_node
      (refusal_open e.config e.node.at name (length m)));
  part = λ name k. answered (part_refusal name k e) (of_node
      (refusal_send e.config e.node.at name k));
  plain = λ flags service subtype body.
      answered (plain_refusal flags service subtype body e)
      (of_test (nat_lt 15 flags) range (ground_refusal e.side (node_code
      (refusal_plain e.config service subtype (length body))))
      (λ z. omega arith)
      (of_side e.side (node_code (refusal_plain e.config service subtype (length body)))
      (of_node (refusal_plain e.config service subtype (length body)))));
  finished = λ name. answered_by (finish_refusal name e) (of_node (refusal_finish e.node.at name));
  let_go =
      answered_by (sent_refusal e)
      (of_test (length e.outbox.items == 0) nothing None (λ z. omega arith) (λ z. cc));
  expired = answered (expire_refusal e) (of_node (refusal_expire e.config e.node.at));
  given_up = λ name.
      answered (give_up_refusal name e) (of_node (refusal_give_up e.node.at name));
  ticked = answered_by (tick_refusal e) (of_node (refusal_tick e.node.at));
  ticked_many = λ ticks. answered_by (ticks_refusal ticks e)
      (of_test (nat_lt greatest_clock (e.node.at.clock + ticks)) clock_end None (λ z. omega arith)
      (λ z. cc));
  clock_back = λ ticks. answered_by (rebase_refusal ticks e)
      (of_lack (can_set_back ticks e.node.at) clock_start (λ z. omega arith));
  read = answered (read_refusal e) (of_memories e.memories (node_code (refusal_claim e.node.at))
      (of_node (refusal_claim e.node.at)));
  dropped = answered (drop_refusal e)
      (of_unread (claimed_in e.node.at.jobs.jobs == 0) (read_refusal e)
      (of_memories e.memories (node_code (refusal_claim e.node.at))
      (of_node (refusal_claim e.node.at))));
  executed =
      answered (execute_refusal e)
      (of_here e.memories (sending_refusal (node_code (refusal_apply e.node.at)) e.outbox.items)
      (of_sending (node_code (refusal_apply e.node.at)) e.outbox.items (of_node
      (refusal_apply e.node.at))));
  given = λ octets.
      let read : Option ℕ = length_refusal (unready e) (first_read e) octets in
      answered (given_refusal octets e)
      (of_elsewhere e.memories (sending_refusal read e.outbox.items)
      (of_sending read e.outbox.items (of_length (unready e) (first_read e) octets
      (of_node (refusal_apply e.node.at)))));
  read_dropped = answered_by (drop_read_refusal e)
      (of_memories e.memories (unready e) (of_node (refusal_apply e.node.at)));
  refused = λ number. answered (refuse_refusal number e)
      (of_range (nat_le 1 number && nat_le number 8)
      (refuse_as_refusal e)
      (of_memories e.memories (sending_refusal (unready e) e.outbox.items)
      (of_sending (unready e) e.outbox.items (of_node (refusal_apply e.node.at)))));
}

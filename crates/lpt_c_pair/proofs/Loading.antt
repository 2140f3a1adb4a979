-- A load that is executed writes its areas, or nothing.
use Rattle.std.proofs.Common.{◌≡◌, ◌∙◌, ◌⊎◌, inl, inr, refl, sym, subst, ap, ℕ, ◌==◌, Bool, true, false, if◌then◌else◌, List, map, Option, Some, None, is_some, nat_lt}
use Rattle.std.specs.Option.{option_and_then}
use Rattle.std.specs.FinMap as map
use Rattle.std.proofs.lemmas.Bool.{eqb-true}
use Rattle.lpt_c_end.specs.Areas.{body_of_load, load_in}
use Rattle.lpt_c_end.specs.Changes.{execution_by, execution_of, IsExecuted}
use Rattle.lpt_c_end.specs.declared.end.End.{End}
use Rattle.lpt_c_end.specs.declared.kept.Kept.{Kept}
use Rattle.lpt_c_end.specs.declared.kept.Kept.TheVariants.{Here}
use Rattle.lpt_c_pair.specs.Loads.{IsCarriedOut, IsRefused, LoadsGoWhereTheySay, read_for}
use Rattle.lpt_jobs.specs.Jobs.{Head, Ready, head_of}
use Rattle.lpt_memory.specs.Effects.{answer}
use Rattle.lpt_memory.specs.Meanings.{Meaning, Fault, Load, Sizes, area, body_meaning, command_meaning, if_formed, in_memory, load_fault, load_meaning, meaning, size_of, unless}
use Rattle.lpt_memory.specs.Memories.{Contents, effect, sizes_of}
use Rattle.lpt_memory.specs.Readings.{Source, source_meaning}
use Rattle.lpt_memory.specs.Requests.{LoadArea, Request, front_load_area, request_in}
use Rattle.lpt_execution.specs.Endings.{ending}
use Rattle.lpt_execution.specs.Reporting.{request_source}
use Rattle.lpt_ledger.specs.LeastFree.{least_free_in}
use Rattle.lpt_node.specs.Jobs.{Execution, executed_ending, executed_of}
use Rattle.lpt_node.specs.Nodes.{NodeData}
use Rattle.lpt_pus.specs.Commands.{Command, command_in}
use Rattle.lpt_pus.specs.declared.failure_code.FailureCode.{FailureCode}

-- ---- what it means

-- its areas, or a fault
pub data Comes (r : Request LoadArea) (m : Meaning) : Type 0 where
  Writes : m ≡ Load r.memory (map area r.areas) → Comes r m
  Fails : (code : FailureCode) → m ≡ Fault code → Comes r m

by_fault : (r : Request LoadArea) (f : Option FailureCode)
    → Comes r (unless f (Load r.memory (map area r.areas)))
by_fault r None = Writes refl
by_fault r (Some code) = Fails code refl

by_size : (r : Request LoadArea) (size : Option ℕ) → Comes r (in_memory load_meaning r size)
by_size r None = Fails _ refl
by_size r (Some size) = by_fault r (load_fault size r.areas)

body_comes : (sizes : Sizes) (body : List ℕ) (r : Request LoadArea)
    → request_in front_load_area body ≡ Some r
    → Comes r (body_meaning sizes 6 2 body)
unfolding body_meaning
body_comes sizes body r is =
    subst (λ (q : Option (Request LoadArea)). Comes r (if_formed sizes load_meaning q)) (sym is)
    (by_size r (size_of r.memory sizes))

-- a telecommand that is a load has the types of one
by_types : (sizes : Sizes) (c : Command) (service subtype : Bool) (body : List ℕ)
    (r : Request LoadArea)
    → (service ≡ true → c.service ≡ 6)
    → (subtype ≡ true → c.subtype ≡ 2)
    → (if service then (if subtype then Some c.body else None) else None) ≡ Some body
    → request_in front_load_area body ≡ Some r
    → Comes r (body_meaning sizes c.service c.subtype c.body)
by_types sizes c true true body r is_6 is_2 same is =
    let of_body : c.body ≡ body = cc in
    subst (Comes r)
    (λ i. body_meaning sizes (sym (is_6 refl) i) (sym (is_2 refl) i) (sym of_body i))
    (body_comes sizes body r is)
by_types sizes c true false body r is_6 is_2 same is = absurd cc
by_types sizes c false subtype body r is_6 is_2 same is = absurd cc

by_command : (sizes : Sizes) (o : Option Command) (body : List ℕ) (r : Request LoadArea)
    → option_and_then body_of_load o ≡ Some body
    → request_in front_load_area body ≡ Some r
    → Comes r (command_meaning sizes o)
by_command sizes None body r same is = absurd cc
by_command sizes (Some c) body r same is =
    by_types sizes c (c.service == 6) (c.subtype == 2) body r (eqb-true c.service 6)
    (eqb-true c.subtype 2) same is

comes : (apid : ℕ) (ms : Contents) (message body : List ℕ) (r : Request LoadArea)
    → load_in apid message ≡ Some body
    → request_in front_load_area body ≡ Some r
    → Comes r (source_meaning (read_for apid ms message))
unfolding meaning
comes apid ms message body r = by_command (sizes_of ms) (command_in apid message) body r

-- ---- its execution

module _ (e new : End) (ms : Contents) (message : List ℕ) where
  abbrev s : Source
  s = read_for e.config.apid ms message

  abbrev d : NodeData
  d = e.node.at

  -- what is made of a request that means this
  abbrev out_of : Meaning → (NodeData × Execution) × Kept
  out_of m = (
    executed_ending e.config d s
        (ending e.config.part_size
        (is_some (least_free_in d.sending.ledger (request_source s.apid s.message)))
        (nat_lt (map.len d.sending.messages) d.outgoing) (answer m ms)),
    Here (effect m ms),
  )

  executes : e.memories ≡ Here ms
      → head_of d.jobs.jobs ≡ Ready s
      → execution_of e ≡ out_of (source_meaning s)
  executes some front =
      ap (λ (o : Kept). execution_by e.config o d) some
      ∙ ap (λ (x : (NodeData × Execution) × Contents). (x.0, Here x.1))
      (ap (λ (h : Head). executed_of e.config d ms h) front)

  settled : (r : Request LoadArea)
      → Comes r (source_meaning s)
      → execution_of e ≡ out_of (source_meaning s)
      → IsExecuted e new
      → IsCarriedOut r ms e new ⊎ IsRefused ms e new
  settled r (Writes is) out done =
      let all = out ∙ ap out_of is in
      inl (record {
        opened = _;
        applied = ap (λ (x : (NodeData × Execution) × Kept). x.0.1.applied) all;
        memories = done.memories ∙ ap (λ (x : (NodeData × Execution) × Kept). x.1) all;
      })
  settled r (Fails code is) out done =
      let all = out ∙ ap out_of is in
      inr (record {
        code = code;
        applied = ap (λ (x : (NodeData × Execution) × Kept). x.0.1.applied) all;
        memories = done.memories ∙ ap (λ (x : (NodeData × Execution) × Kept). x.1) all;
      })

pub loads_go : LoadsGoWhereTheySay
loads_go e new ms message body r some front load areas done =
    settled e new ms message r (comes e.config.apid ms message body r load areas)
    (executes e new ms message some front) done

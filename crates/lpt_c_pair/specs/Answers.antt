-- A call that answers 0 was refused by nothing.
use Rattle.std.specs.Prelude.{◌≡◌, ℕ, List, None}
use Rattle.lpt_c_end.specs.Accesses.{drop_read_refusal, given_refusal}
use Rattle.lpt_c_end.specs.Codes.{IsAnswer, answer}
use Rattle.lpt_c_end.specs.Refusals.{open_refusal, part_refusal, plain_refusal, finish_refusal, sent_refusal, expire_refusal, give_up_refusal, tick_refusal, ticks_refusal, rebase_refusal, read_refusal, drop_refusal, execute_refusal}
use Rattle.lpt_c_end.specs.Refusing.{refuse_refusal}
use Rattle.lpt_c_end.specs.declared.end.End.{End}
use Rattle.lpt_packet.specs.Names.{Name}

-- what the clauses `code` of the calls say of an answer of 0
pub record ZeroIsDone (e : End) : Type 0 where
  pub opened : (name : Name) (m : List ℕ)
      → IsAnswer (open_refusal name m e) 0
      → open_refusal name m e ≡ None
  pub part : (name : Name) (k : ℕ) → IsAnswer (part_refusal name k e) 0
      → part_refusal name k e ≡ None
  pub plain : (flags service subtype : ℕ) (body : List ℕ)
      → IsAnswer (plain_refusal flags service subtype body e) 0
      → plain_refusal flags service subtype body e ≡ None
  pub finished : (name : Name)
      → 0 ≡ answer (finish_refusal name e)
      → finish_refusal name e ≡ None
  pub let_go : 0 ≡ answer (sent_refusal e) → sent_refusal e ≡ None
  pub expired : IsAnswer (expire_refusal e) 0 → expire_refusal e ≡ None
  pub given_up : (name : Name)
      → IsAnswer (give_up_refusal name e) 0
      → give_up_refusal name e ≡ None
  pub ticked : 0 ≡ answer (tick_refusal e) → tick_refusal e ≡ None
  pub ticked_many : (ticks : ℕ)
      → 0 ≡ answer (ticks_refusal ticks e)
      → ticks_refusal ticks e ≡ None
  pub clock_back : (ticks : ℕ)
      → 0 ≡ answer (rebase_refusal ticks e)
      → rebase_refusal ticks e ≡ None
  pub read : IsAnswer (read_refusal e) 0 → read_refusal e ≡ None
  pub dropped : IsAnswer (drop_refusal e) 0 → drop_refusal e ≡ None
  pub executed : IsAnswer (execute_refusal e) 0 → execute_refusal e ≡ None
  pub given : (octets : List ℕ) → IsAnswer (given_refusal octets e) 0
      → given_refusal octets e ≡ None
  pub read_dropped : 0 ≡ answer (drop_read_refusal e) → drop_read_refusal e ≡ None
  pub refused : (number : ℕ)
      → IsAnswer (refuse_refusal number e) 0
      → refuse_refusal number e ≡ None

-- of whatever end
abbrev pub ZeroIsAlwaysDone : Type 0
ZeroIsAlwaysDone = (e : End) → ZeroIsDone e

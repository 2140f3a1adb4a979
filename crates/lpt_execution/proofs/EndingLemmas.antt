-- How a request ends, by whether its reply is sent.
use Rattle.std.proofs.Common.{◌≡◌, ◌≢◌, ◌∙◌, ap, sym, refl, ℕ, Bool, true, false, List, [], ◌∷◌, ◌++◌, length, map, Option, Some, None}
use Rattle.std.specs.Prelude.{is_some}
use Rattle.std.specs.Option.{option_map_or}
use Rattle.lpt_pus.specs.declared.failure_code.FailureCode.{FailureCode}
use Rattle.lpt_memory.specs.declared.reply_kind.ReplyKind.{ReplyKind}
use Rattle.lpt_memory.specs.declared.effect.Effect.{Effect}
use Rattle.lpt_memory.specs.declared.effect.Effect.TheVariants as effect
use Rattle.lpt_memory.specs.Effects.{answer, HasNoReply, length_replied}
use Rattle.lpt_memory.specs.Given.{answer_of}
use Rattle.lpt_pus.specs.Commands.{Command, command_in}
use Rattle.lpt_pus.specs.Numbers.{long_at}
use Rattle.lpt_memory.specs.Meanings.{Meaning, Silent, Fault, Load, Dump, Check, command_meaning, meaning}
use Rattle.lpt_memory.specs.Memories.{Contents}
use Rattle.lpt_memory.specs.Readings.{Source, source_meaning}
use Rattle.lpt_verify.specs.Reports.{reports_before, reports_after}
use Rattle.lpt_execution.specs.declared.ending.Ending.{Ending}
use Rattle.lpt_execution.specs.declared.ending.Ending.TheVariants.{Silent as EndsSilent, Refused, Carried}
use Rattle.lpt_execution.specs.declared.ending.Report.{Report}
use Rattle.lpt_execution.specs.Reporting.{message_reports, reports_of, verification}
use Rattle.lpt_execution.specs.Endings.{ending, has_data, reply_ending, reply_fault, reply_refusal, reply_report}

module _ (p : ℕ) (free room : Bool) where
  -- a reply of this length is refused as one of its length is
  pub refusal-replied : (e : Effect) (len : ℕ)
      → length_replied e ≡ Some len
      → reply_fault p len free room ≡ reply_refusal p free room e
  refusal-replied effect.Silent len is = absurd cc
  refusal-replied (effect.Code code) len is = absurd cc
  refusal-replied effect.Done len is = absurd cc
  refusal-replied (effect.Reply k body) len is =
      let same : length body ≡ len = cc in
      ap (λ n. reply_fault p n free room) (sym same)

  -- what has no reply is refused by none
  pub refusal-none : (e : Effect)
      → length_replied e ≡ None
      → None ≡ reply_refusal p free room e
  refusal-none effect.Silent is = refl
  refusal-none (effect.Code code) is = refl
  refusal-none effect.Done is = refl
  refusal-none (effect.Reply k body) is = absurd cc

  -- where a reply isn't sent, the request is refused
  pub ending-refused : (e : Effect) (code : FailureCode)
      → Some code ≡ reply_refusal p free room e
      → Refused code ≡ ending p free room e
  ending-refused effect.Silent code is = absurd cc
  ending-refused (effect.Code c) code is = absurd cc
  ending-refused effect.Done code is = absurd cc
  ending-refused (effect.Reply k body) code is = ap (λ o. reply_ending o k body) is

  -- a reply that is sent is the report of data
  pub ending-sent : (k : ReplyKind) (body : List ℕ) (e : Effect)
      → effect.Reply k body ≡ e
      → None ≡ reply_refusal p free room e
      → Carried (Some (record { kind = reply_report k; body = body })) ≡ ending p free room e
  ending-sent k body e is none =
      ap (λ o. reply_ending o k body) (none ∙ ap (reply_refusal p free room) (sym is))
      ∙ ap (ending p free room) is

  -- what has a reply that is sent has a report of data
  has_data-replied : (e : Effect)
      → is_some (length_replied e) ≡ true
      → None ≡ reply_refusal p free room e
      → has_data (ending p free room e) ≡ true
  has_data-replied effect.Silent some none = absurd cc
  has_data-replied (effect.Code code) some none = absurd cc
  has_data-replied effect.Done some none = absurd cc
  has_data-replied (effect.Reply k body) some none =
      ap (λ o. has_data (reply_ending o k body)) (sym none)

  -- the same, of what isn't without a reply
  pub has_data-sent : (m : Meaning) (ms : Contents)
      → (HasNoReply m → ⊥)
      → None ≡ reply_refusal p free room (answer m ms)
      → has_data (ending p free room (answer m ms)) ≡ true
  has_data-sent m ms some = has_data-replied (answer m ms) (has_reply m ms some) where
    has_reply : (m : Meaning) (ms : Contents)
        → (HasNoReply m → ⊥)
        → is_some (length_replied (answer m ms)) ≡ true
    has_reply Silent ms some = absurd (some tt)
    has_reply (Fault code) ms some = absurd (some tt)
    has_reply (Load id areas) ms some = absurd (some tt)
    has_reply (Dump id ranges) ms some = refl
    has_reply (Check id ranges) ms some = refl

  -- the same, by the octets that are read
  pub has_data-given : (m : Meaning) (octets : List ℕ)
      → (HasNoReply m → ⊥)
      → None ≡ reply_refusal p free room (answer_of m octets)
      → has_data (ending p free room (answer_of m octets)) ≡ true
  has_data-given m octets some = has_data-replied (answer_of m octets) (has_reply m octets some) where
    has_reply : (m : Meaning) (octets : List ℕ)
        → (HasNoReply m → ⊥)
        → is_some (length_replied (answer_of m octets)) ≡ true
    has_reply Silent octets some = absurd (some tt)
    has_reply (Fault code) octets some = absurd (some tt)
    has_reply (Load id areas) octets some = absurd (some tt)
    has_reply (Dump id ranges) octets some = refl
    has_reply (Check id ranges) octets some = refl

-- ---- reports of data are reports

not_empty : (before after : List Report) (r : Report) → before ++ (r ∷ []) ++ after ≢ []
not_empty [] after r is = absurd cc
not_empty (b ∷ before) after r is = absurd cc

data-reported : (request flags : ℕ) (e : Ending) → has_data e ≡ true → reports_of request flags e ≢ []
data-reported request flags EndsSilent has = absurd cc
data-reported request flags (Refused code) has = absurd cc
data-reported request flags (Carried None) has = absurd cc
data-reported request flags (Carried (Some r)) has =
    not_empty (map verification (reports_before request flags None))
    (map verification (reports_after request flags None)) r

-- a message that has a report of data has a report
reports-some : (p : ℕ) (free room : Bool) (answers : Meaning → Effect) (r : Source)
    → has_data (ending p free room (answers Silent)) ≡ false
    → has_data (ending p free room (answers (source_meaning r))) ≡ true
    → message_reports r.apid r.message (ending p free room (answers (source_meaning r))) ≢ []
unfolding meaning
reports-some p free room answers r silent has = go (command_in r.apid r.message) has where
  go : (o : Option Command)
      → has_data (ending p free room (answers (command_meaning r.sizes o))) ≡ true
      → option_map_or (λ (c : Command). reports_of (long_at r.message 0) c.flags
      (ending p free room (answers (command_meaning r.sizes o)))) o []
      ≢ []
  go None has = absurd cc
  go (Some c) has =
      data-reported (long_at r.message 0) c.flags
      (ending p free room (answers (command_meaning r.sizes (Some c)))) has

-- the same over memories
pub data-made : (p : ℕ) (free room : Bool) (ms : Contents) (r : Source)
    → has_data (ending p free room (answer (source_meaning r) ms)) ≡ true
    → message_reports r.apid r.message (ending p free room (answer (source_meaning r) ms)) ≢ []
data-made p free room ms r = reports-some p free room (λ m. answer m ms) r refl

-- the same by the octets that are read
pub data-given : (p : ℕ) (free room : Bool) (octets : List ℕ) (r : Source)
    → has_data (ending p free room (answer_of (source_meaning r) octets)) ≡ true
    → message_reports r.apid r.message (ending p free room (answer_of (source_meaning r) octets))
    ≢ []
data-given p free room octets r = reports-some p free room (λ m. answer_of m octets) r refl

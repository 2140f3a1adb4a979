-- What stands at the places of a report is the report that is read. It is written out so that a
-- wrong body is refused at once.
use Rattle.std.proofs.Common.{◌≡◌, ◌∙◌, sym, Some, None, IsTrue, arith, rules}
use Rattle.lpt_packet.specs.Numbers.{IsOctets, word_at}
use Rattle.lpt_pus.specs.Numbers.{long_at}
use Rattle.lpt_verify.specs.declared.report.Report.{Report}
use Rattle.lpt_verify.specs.Reading.{is_success, is_failure}
use Rattle.lpt_verify.proofs.ReadingLemmas.{success-read, failure-read, report_in-found, IsReport-read}
use Rattle.lpt_verify.proofs.reading.read_report.Goals as goal

-- ---- of success

pub returns-in-1-len4-clause-value : goal.returns-in-1-len4-clause-value
returns-in-1-len4-clause-value c =
    let b = c.args.body.now in
    let success : IsTrue (is_success c.args.subtype) = search rules in
    let request : long_at b 0 ≡ c.from_be_bytes.result = omega arith in
    sym (success-read c.args.subtype b success (omega arith)
    ∙ (λ i. Some (record { request = record { value = request i }; code = None })))

pub returns-in-1-len4-clause-found : goal.returns-in-1-len4-clause-found
returns-in-1-len4-clause-found c =
    let octets : IsOctets c.args.body.now = λ i. omega (arith, c.type_inv.body i) in
    let read : Report =
    record { request = record { value = c.from_be_bytes.result }; code = None } in
    report_in-found c.args.subtype c.args.body.now read octets
    (sym (returns-in-1-len4-clause-value c))

pub returns-in-1-len4-clause-report : goal.returns-in-1-len4-clause-report
returns-in-1-len4-clause-report c r h =
    returns-in-1-len4-clause-value c ∙ IsReport-read c.args.subtype c.args.body.now r h

-- ---- of failure

pub returns-in-2-len6-clause-value : goal.returns-in-2-len6-clause-value
returns-in-2-len6-clause-value c =
    let b = c.args.body.now in
    let failure : IsTrue (is_failure c.args.subtype) = search rules in
    let request : long_at b 0 ≡ c.from_be_bytes-in-2-len6.result = omega arith in
    let code : word_at b 4 ≡ c.from_be_bytes-in-2-len6-2.result = omega arith in
    sym (failure-read c.args.subtype b failure (omega arith)
    ∙ (λ i. Some (record { request = record { value = request i }; code = Some (code i) })))

pub returns-in-2-len6-clause-found : goal.returns-in-2-len6-clause-found
returns-in-2-len6-clause-found c =
    let octets : IsOctets c.args.body.now = λ i. omega (arith, c.type_inv.body i) in
    let read : Report = record {
      request = record { value = c.from_be_bytes-in-2-len6.result };
      code = Some c.from_be_bytes-in-2-len6-2.result;
    } in
    report_in-found c.args.subtype c.args.body.now read octets
    (sym (returns-in-2-len6-clause-value c))

pub returns-in-2-len6-clause-report : goal.returns-in-2-len6-clause-report
returns-in-2-len6-clause-report c r h =
    returns-in-2-len6-clause-value c ∙ IsReport-read c.args.subtype c.args.body.now r h

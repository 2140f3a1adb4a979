-- The three ways in which a header is read.
use Rattle.std.proofs.Common.{◌∙◌, ap, sym, [], arith}
use Rattle.lpt_capture.specs.declared.fault.CaptureFault.TheVariants.{LinkType}
use Rattle.lpt_capture.specs.Captured.{broken_finding}
use Rattle.lpt_capture.proofs.CaptureLemmas.{capture_short, capture_other, capture_records}
use Rattle.lpt_capture.proofs.place.behind_file_header.Goals as goal

pub returns-then-head-lt-FILE_HEADER-clause-found :
    goal.returns-then-head-lt-FILE_HEADER-clause-found
returns-then-head-lt-FILE_HEADER-clause-found c = λ b end.
    capture_short c.args.turned c.args.head.now b c.requires c.if-head-lt-FILE_HEADER.true
    (end c.if-head-lt-FILE_HEADER.true)

pub returns-then-link_type-ne-LINK_TYPE-clause-found :
    goal.returns-then-link_type-ne-LINK_TYPE-clause-found
returns-then-link_type-ne-LINK_TYPE-clause-found c = λ b end.
    let said = c.number_in-link_type.ensures in
    capture_other c.args.turned c.args.head.now b c.requires
    (omega (arith, c.if-head-lt-FILE_HEADER.false))
    (λ e. c.if-link_type-ne-LINK_TYPE.true (said ∙ e))
    ∙ ap (λ n. broken_finding [] (LinkType n)) (sym said)

pub returns-clause-found : goal.returns-clause-found
returns-clause-found c = λ b end.
    let said = c.number_in-link_type.ensures in
    capture_records c.args.turned c.args.head.now b c.requires
    (omega (arith, c.if-head-lt-FILE_HEADER.false))
    (sym said ∙ c.if-link_type-ne-LINK_TYPE.false)

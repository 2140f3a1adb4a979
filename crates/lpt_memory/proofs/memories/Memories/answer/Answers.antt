-- The areas of a dump or a check are within the memory, and the answer fits a packet.
use Rattle.std.proofs.Common.{ap, ℕ, ◌<◌, List, length, arith, rules}
use Rattle.lpt_memory.specs.Meanings.{Sizes}
use Rattle.lpt_memory.specs.Ranges.{ReadFits}
use Rattle.lpt_memory.proofs.AnswerLemmas.{length-check_body}
use Rattle.lpt_memory.proofs.FittingLemmas.{fits_memories, seen_fits, dump_short}
use Rattle.lpt_memory.proofs.memories.Memories.answer.Goals as goal

pub dump-requires-clause-fit : goal.dump-requires-clause-fit
dump-requires-clause-fit c =
    let r = c.args.reading.now in
    let i = c.in-Dump in
    let fits = seen_fits r i.is c.plan.ensures.seen in
    fits_memories (λ (s : Sizes). ReadFits s i.id) r.sizes c.deref.result.now
    i.ranges.items c.deref-in-Dump.result.now (cc) c.deref-in-Dump.ensures.value fits.0

pub check-requires-clause-fit : goal.check-requires-clause-fit
check-requires-clause-fit c =
    let r = c.args.reading.now in
    let i = c.in-Check in
    fits_memories (λ (s : Sizes). ReadFits s i.id) r.sizes c.deref-in-Check.result.now
    i.ranges.items c.deref-in-Check-2.result.now (cc) c.deref-in-Check-2.ensures.value
    (seen_fits r i.is c.plan.ensures.seen)

pub returns-in-Code-clause-fits : goal.returns-in-Code-clause-fits
returns-in-Code-clause-fits c =
    seen_fits c.args.reading.now c.in-Code.is c.plan.ensures.seen

pub returns-in_ok-body-in-Dump-clause-fits : goal.returns-in_ok-body-in-Dump-clause-fits
returns-in_ok-body-in-Dump-clause-fits c =
    let r = c.args.reading.now in
    let i = c.in-Dump in
    dump_short r.sizes c.deref.result.now i.id i.ranges.items c.deref-in-Dump.result.now
    c.in_ok-body-in-Dump.body (cc) c.deref-in-Dump.ensures.value
    (seen_fits r i.is c.plan.ensures.seen) c.in_ok-body-in-Dump.ensures

pub returns-in_ok-body-in-Check-clause-fits : goal.returns-in_ok-body-in-Check-clause-fits
returns-in_ok-body-in-Check-clause-fits c =
    let ms = c.deref-in-Check.result.now in
    let ranges = c.deref-in-Check-2.result.now in
    let few : length ranges < 256 = search rules in
    let long = length-check_body c.in-Check.id ranges ms in
    omega (arith, few, long, ap (λ (b : List ℕ). length b) c.in_ok-body-in-Check.ensures)

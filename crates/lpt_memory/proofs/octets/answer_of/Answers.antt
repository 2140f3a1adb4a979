-- The octets are those of the ranges.
use Rattle.std.proofs.Common.{◌∙◌, ap, sym, [], List}
use Rattle.lpt_memory.specs.declared.request.AreaRange.{AreaRange}
use Rattle.lpt_memory.specs.declared.request.Plan.{Plan}
use Rattle.lpt_memory.specs.Given.{all_length, read_length}
use Rattle.lpt_memory.specs.Seen.{plan_meaning}
use Rattle.lpt_memory.proofs.octets.answer_of.Goals as goal

pub body_given-requires-clause-whole : goal.body_given-requires-clause-whole
body_given-requires-clause-whole c =
    c.requires.whole [] ∙ ap (λ (p : Plan). read_length (plan_meaning [] p)) c.in-Dump.is
    ∙ ap (λ (ranges : List AreaRange). all_length ranges) (sym c.deref.ensures.value)

pub body_given-requires-in-Check-clause-whole : goal.body_given-requires-in-Check-clause-whole
body_given-requires-in-Check-clause-whole c =
    c.requires.whole [] ∙ ap (λ (p : Plan). read_length (plan_meaning [] p)) c.in-Check.is
    ∙ ap (λ (ranges : List AreaRange). all_length ranges) (sym c.deref-in-Check.ensures.value)

-- What the areas of a report give is what it gives.
use Rattle.std.proofs.Common.{◌≡◌, ◌∙◌, ap, sym, subst, rules, true, false, List, ◌++◌}
use Rattle.std.specs.Prelude.{IfErr}
use Rattle.lpt_memory.specs.declared.request.Area.{Area}
use Rattle.lpt_text.specs.Streams.{AppendsPart}
use Rattle.lpt_extract.specs.Extracts.{is_of, areas_of, notices_of, written_first}
use Rattle.lpt_extract.specs.ExtractsInside.{HeldAreas}
use Rattle.lpt_extract.specs.Reports.{said_in}
use Rattle.lpt_extract.specs.ReportsInside.{dump_found, report_said}
use Rattle.lpt_extract.proofs.GiveLemmas.{areas-said, held-other, held-same}
use Rattle.lpt_extract.proofs.taking.take_dump.Goals as goal

-- it is a part of a message
pub returns-in-OfPart-clause-held : goal.returns-in-OfPart-clause-held
returns-in-OfPart-clause-held g c = λ areas ns h.
    let at = c.args.wanted.now.at in
    subst (λ r. HeldAreas at (areas ++ areas_of at r) (ns ++ notices_of at c.args.place r)
    c.tell.new.self)
    (ap report_said (sym c.in-OfPart.is) ∙ c.in-Ok.ensures)
    (held-same at areas _ c.tell.new.self (c.tell.ensures.held at areas ns h))

-- it is of another application process
pub returns-in-Foreign-clause-held : goal.returns-in-Foreign-clause-held
returns-in-Foreign-clause-held g c = λ areas ns h.
    let at = c.args.wanted.now.at in
    subst (λ r. HeldAreas at (areas ++ areas_of at r) (ns ++ notices_of at c.args.place r)
    c.tell-in-Foreign.new.self)
    (ap report_said (sym c.in-Foreign.is) ∙ c.in-Ok.ensures)
    (held-same at areas _ c.tell-in-Foreign.new.self (c.tell-in-Foreign.ensures.held at areas ns h))

-- its body isn't read
pub returns-in-Unread-clause-held : goal.returns-in-Unread-clause-held
returns-in-Unread-clause-held g c = λ areas ns h.
    let at = c.args.wanted.now.at in
    subst (λ r. HeldAreas at (areas ++ areas_of at r) (ns ++ notices_of at c.args.place r)
    c.tell-in-Unread.new.self)
    (ap report_said (sym c.in-Unread.is) ∙ c.in-Ok.ensures)
    (held-same at areas _ c.tell-in-Unread.new.self (c.tell-in-Unread.ensures.held at areas ns h))

-- it is of another memory
pub returns-then-not-is_of-clause-held : goal.returns-then-not-is_of-clause-held
returns-then-not-is_of-clause-held g c = λ areas ns h.
    let at = c.args.wanted.now.at in
    let other : is_of at c.in-Areas.memory ≡ false = search rules in
    subst (λ r. HeldAreas at (areas ++ areas_of at r) (ns ++ notices_of at c.args.place r)
    c.tell-then-not-is_of.new.self)
    (ap report_said (sym c.in-Areas.is) ∙ c.in-Ok.ensures)
    (held-other at _ c.args.place areas ns c.tell-then-not-is_of.new.self other (c.tell-then-not-is_of.ensures.held at areas ns h))

-- its areas were taken

pub returns-else-not-is_of-clause-part : goal.returns-else-not-is_of-clause-part
returns-else-not-is_of-clause-part g c =
    let at = c.args.wanted.now.at in
    let old = g.K.Sink.contents c.args.out.now in
    let new = g.K.Sink.contents c.take_areas.new.out in
    let mine : is_of at c.in-Areas.memory ≡ true = search rules in
    subst (λ (areas : List Area). IfErr c.take_areas.result (λ e. AppendsPart old new (written_first at areas)))
    (areas-said at c.in-Areas.memory c.in-Areas.areas.items c.deref.result.now
    (said_in c.args.wanted.now.apid (dump_found c.args.dump))
    (ap report_said (sym c.in-Areas.is) ∙ c.in-Ok.ensures) mine c.deref.ensures.value)
    c.take_areas.ensures.part

-- By the name of which it is a part.
use Rattle.std.proofs.Common.{◌∙◌, ap, sym, refl, Some, None}
use Rattle.std.specs.Option.{option_map}
use Rattle.lpt_carried.specs.declared.name.Name.{Name}
use Rattle.lpt_carried.specs.Carried.{name_of, part_named}
use Rattle.lpt_layout_join.specs.Counts.{Counted, packet_counted}
use Rattle.lpt_layout_join.specs.CountsInside.{counts_shown}
use Rattle.lpt_layout_each.specs.Eaches.{course_held, news_listed}
use Rattle.lpt_layout_each.specs.Streams.{of}
use Rattle.lpt_layout_each.specs.Told.{news_of}
use Rattle.lpt_layout_each.proofs.HeldsLemmas.{each-part, told-part}
use Rattle.lpt_layout_each.proofs.helds.HeldsAs.take.Goals as goal

pub returns-in-None-clause-held : goal.returns-in-None-clause-held
returns-in-None-clause-held c = λ bs h is.
    let r = c.args.reading.now in
    let any = c.args.any in
    let n = name_of (part_named c.args.part.now) in
    let b = c.args.octets.now in
    let up_to = c.missing-missing.ensures
    ∙ ap (λ (k : Counted). k.missing)
    (c.in_ok-take.ensures ∙ ap (λ (k : Counted). packet_counted r k b) h.counts) in
    let made = c.in_ok-news.ensures.steps (course_held r any n bs) (h.each n) in
    each-part r any bs b (part_named c.args.part.now) is n refl
    c.args.self c.step.new.self made.0 c.missing-missing.result
    c.in_ok-news.ensures.others made.1 c.in_ok-news.ensures.in_order up_to made.2.keeps
    (ap counts_shown c.in_ok-news.ensures.counts ∙ c.in_ok-take.ensures) h

pub returns-in-Some-clause-held : goal.returns-in-Some-clause-held
returns-in-Some-clause-held c = λ bs h is.
    let r = c.args.reading.now in
    let any = c.args.any in
    let n = name_of (part_named c.args.part.now) in
    let b = c.args.octets.now in
    let up_to = c.missing-missing.ensures
    ∙ ap (λ (k : Counted). k.missing)
    (c.in_ok-take.ensures ∙ ap (λ (k : Counted). packet_counted r k b) h.counts) in
    let made = c.in_ok-news.ensures.steps (course_held r any n bs) (h.each n) in
    each-part r any bs b (part_named c.args.part.now) is n refl
    c.args.self c.step.new.self made.0 c.missing-missing.result
    c.in_ok-news.ensures.others made.1 c.in_ok-news.ensures.in_order up_to made.2.keeps
    (ap counts_shown c.in_ok-news.ensures.counts ∙ c.in_ok-take.ensures) h

-- nothing is told, or something
pub returns-in-None-clause-told : goal.returns-in-None-clause-told
returns-in-None-clause-told c = λ bs h is.
    let r = c.args.reading.now in
    let any = c.args.any in
    let n = name_of (part_named c.args.part.now) in
    let b = c.args.octets.now in
    let up_to = c.missing-missing.ensures
    ∙ ap (λ (k : Counted). k.missing)
    (c.in_ok-take.ensures ∙ ap (λ (k : Counted). packet_counted r k b) h.counts) in
    let made = c.in_ok-news.ensures.steps (course_held r any n bs) (h.each n) in
    told-part r any bs b (part_named c.args.part.now) is n refl None c.missing-missing.result up_to
    (sym (ap (option_map news_of) c.in-None.is) ∙ made.2.tells)

pub returns-in-Some-clause-told : goal.returns-in-Some-clause-told
returns-in-Some-clause-told c = λ bs h is.
    let r = c.args.reading.now in
    let any = c.args.any in
    let n = name_of (part_named c.args.part.now) in
    let b = c.args.octets.now in
    let up_to = c.missing-missing.ensures
    ∙ ap (λ (k : Counted). k.missing)
    (c.in_ok-take.ensures ∙ ap (λ (k : Counted). packet_counted r k b) h.counts) in
    let made = c.in_ok-news.ensures.steps (course_held r any n bs) (h.each n) in
    ap (λ (m : Name). of m (news_listed (Some (news_of c.in-Some.news)))) c.name-name.ensures
    ∙ told-part r any bs b (part_named c.args.part.now) is n refl (Some c.in-Some.news)
    c.missing-missing.result up_to
    (sym (ap (option_map news_of) c.in-Some.is) ∙ made.2.tells)

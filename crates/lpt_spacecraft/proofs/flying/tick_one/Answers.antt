-- A tick, and the names that are freed.
use Rattle.std.proofs.Common.{◌≡◌, ◌∙◌, ap, sym, subst, List, [], ◌∷◌, ◌++◌, Some}
use Rattle.lpt_stream.specs.Streams.{all_octets}
use Rattle.lpt_text.proofs.StreamLemmas.{part_whole}
use Rattle.lpt_spacecraft.specs.Flights.{Made, Cleared, Ticked, names_cleared, inputs_served, step}
use Rattle.lpt_spacecraft.specs.Serving.{beaten}
use Rattle.lpt_spacecraft.specs.Streams.{flight_of, onboard, Flies}
use Rattle.lpt_spacecraft.specs.Telling.{given_up}
use Rattle.lpt_spacecraft.specs.declared.told.Told.{Told}
use Rattle.lpt_spacecraft.proofs.FlightLemmas.{clearing-flies, noting-flies}
use Rattle.lpt_spacecraft.proofs.FoldLemmas.{flies-then, served-one}
use Rattle.lpt_spacecraft.proofs.flying.tick_one.Goals as goal

pub returns-in-Ok-clear-clause-ok : goal.returns-in-Ok-clear-clause-ok
returns-in-Ok-clear-clause-ok g c =
    let s = c.args.craft.now in
    let q = c.args.course.now in
    let mid = c.tick.new.self in
    let r = c.note_all.new.self in
    let old = g.K.Sink.contents c.args.out.now in
    let new = g.K.Sink.contents c.tick.new.out in
    let same : c.deref.result.now ≡ given_up s.config (onboard s) =
    c.deref.ensures.value ∙ c.in-Ok.ensures.told
    ∙ ap (λ (l : List Told). l ++ given_up s.config (onboard s)) c.new-given_up.ensures.items in
    let ticks = noting-flies s mid q r (beaten s.config (onboard s)) c.deref.result.now
    (given_up s.config (onboard s)) old new c.args.told.now.items c.note_all.new.told.items
    c.in-Ok-note_all.ensures.pace c.in-Ok.ensures.ok.0 c.in-Ok.ensures.ok.1 same
    c.in-Ok-note_all.ensures.uses c.in-Ok-note_all.ensures.told in
    let frees = clearing-flies mid c.clear.new.craft r c.clear.new.self
    (names_cleared r.pace.reuse mid.node.at r.uses.items) new c.note_all.new.told.items
    c.clear.new.told.items c.in-Ok-clear.ensures.pace c.in-Ok-clear.ensures.memories
    c.in-Ok-clear.ensures.node c.in-Ok-clear.ensures.uses c.in-Ok-clear.ensures.told in
    flies-then (step s.config (flight_of s q) Ticked) (λ f. inputs_served s.config f (Cleared ∷ []))
    mid
    c.clear.new.craft r c.clear.new.self old new new (Some c.args.told.now.items)
    (Some c.note_all.new.told.items) (Some c.clear.new.told.items) ticks
    (subst (λ (x : Made). Flies x c.clear.new.craft c.clear.new.self new new
    (Some c.note_all.new.told.items) (Some c.clear.new.told.items))
    (sym (served-one s.config (flight_of mid r) Cleared)) frees)

-- what was given up couldn't be noted
pub returns-in-Err-note_all-clause-part : goal.returns-in-Err-note_all-clause-part
returns-in-Err-note_all-clause-part g c =
    let s = c.args.craft.now in
    part_whole (g.K.Sink.contents c.args.out.now) (g.K.Sink.contents c.tick.new.out)
    (all_octets (beaten s.config (onboard s)).1) c.in-Ok.ensures.ok.1

-- nor what was freed
pub returns-clause-part : goal.returns-clause-part
returns-clause-part g c =
    let s = c.args.craft.now in
    part_whole (g.K.Sink.contents c.args.out.now) (g.K.Sink.contents c.tick.new.out)
    (all_octets (beaten s.config (onboard s)).1) c.in-Ok.ensures.ok.1

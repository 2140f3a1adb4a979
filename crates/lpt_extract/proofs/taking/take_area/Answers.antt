-- An area isn't taken, or it is.
use Rattle.std.proofs.Common.{◌≡◌, ap, sym, subst, rules, true, false, List, [], ◌∷◌, ◌++◌, append-nil, ◌∙◌}
use Rattle.std.specs.Prelude.{IfErr}
use Rattle.lpt_memory.specs.declared.request.Area.{Area}
use Rattle.lpt_text.specs.Streams.{AppendsPart}
use Rattle.lpt_extract.specs.Extracts.{written_first}
use Rattle.lpt_extract.specs.Notices.{is_taken}
use Rattle.lpt_extract.specs.ReportsInside.{load_area}
use Rattle.lpt_extract.proofs.GiveLemmas.{given-wrong, given-right, told-wrong, held-as}
use Rattle.lpt_extract.proofs.taking.take_area.Goals as goal

pub returns-then-not-is_taken-clause-held : goal.returns-then-not-is_taken-clause-held
returns-then-not-is_taken-clause-held g c = λ before ns h.
    let s = c.args.seen.now in
    let wrong : is_taken (load_area s) ≡ false = search rules in
    held-as c.args.wanted.now.at before _ _ _ c.tell.new.self
    (sym (append-nil before) ∙ ap (λ xs. before ++ xs) (sym (given-wrong s wrong)))
    (ap (λ ms. ns ++ ms) (ap (λ n. n ∷ []) c.untaken.ensures
    ∙ sym (told-wrong c.args.memory c.args.place s wrong)))
    (c.tell.ensures.held c.args.wanted.now.at before ns h)

pub returns-clause-part : goal.returns-clause-part
returns-clause-part g c =
    let s = c.args.seen.now in
    let right : is_taken (load_area s) ≡ true = search rules in
    subst (λ (areas : List Area). IfErr c.keep_area.result
    (λ e. AppendsPart (g.K.Sink.contents c.args.out.now) (g.K.Sink.contents c.keep_area.new.out)
    (written_first c.args.wanted.now.at areas)))
    (sym (given-right s right)) c.keep_area.ensures.part

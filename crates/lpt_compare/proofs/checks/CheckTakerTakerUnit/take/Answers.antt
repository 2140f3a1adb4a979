-- A piece more.
use Rattle.std.proofs.Common.{◌∙◌, ap, sym, subst, refl, ℕ, List, [], ◌∷◌, ◌++◌, flat_map}
use Rattle.lpt_stream.specs.Pieces.{Piece}
use Rattle.lpt_compare.specs.Checks.{areas_in, checks_of, piece_said}
use Rattle.lpt_compare.specs.Read.{apid_of, AreOthers}
use Rattle.lpt_compare.specs.Sayings.{saying_of}
use Rattle.lpt_compare.proofs.CheckLemmas.{checks-next}
use Rattle.lpt_compare.proofs.checks.CheckTakerTakerUnit.take.Goals as goal

pub returns-in-Ok-keep-clause-taken : goal.returns-in-Ok-keep-clause-taken
returns-in-Ok-keep-clause-taken g c = λ from first old pieces h at.
    let was = c.args.self in
    let p : Piece = record { kind = c.args.kind; octets = c.args.octets.now } in
    let apids : List Piece → List ℕ
    = flat_map (λ (q : Piece). apid_of
    (piece_said was.layout was.apid was.memory q.kind q.octets)) in
    let counted = c.count.ensures.counted pieces p refl h.checks_are.counted in
    let passed = c.pass.ensures.passed was.layout was.apid was.memory pieces p c.in-Ok.ensures
    record {
      unread_are = c.count.ensures.unread ∙ h.checks_are.passed.unread_are;
      parts_are = c.count.ensures.parts ∙ h.checks_are.passed.parts_are;
      others_are = subst (AreOthers (apids pieces)) (sym c.count.ensures.others)
          h.checks_are.passed.others_are;
    } in
    record {
      same_layout = h.same_layout;
      same_apid = h.same_apid;
      same_memory = h.same_memory;
      checks_are = record {
        areas_are =
            c.in-Ok-keep.ensures.areas
            ∙ ap (λ xs. xs ++ areas_in (saying_of c.in-Ok.said))
            ((λ i. (c.pass.ensures.areas i).items) ∙ (λ i. (c.count.ensures.areas i).items)
            ∙ h.checks_are.areas_are)
            ∙ ap (λ s. checks_of was.layout was.apid was.memory pieces ++ areas_in s)
            c.in-Ok.ensures
            ∙ sym (checks-next was.layout was.apid was.memory pieces p);
        counted = record {
          damaged_are = c.keep.ensures.damaged ∙ c.pass.ensures.damaged ∙ counted.damaged_are;
          stray_are = c.keep.ensures.stray ∙ c.pass.ensures.stray ∙ counted.stray_are;
        };
        passed = record {
          unread_are = c.keep.ensures.unread ∙ passed.unread_are;
          parts_are = c.keep.ensures.parts ∙ passed.parts_are;
          others_are = subst (AreOthers (apids (pieces ++ p ∷ []))) (sym c.keep.ensures.others)
              passed.others_are;
        };
      };
    }

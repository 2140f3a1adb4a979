-- Identifier by identifier.
use Rattle.std.proofs.Common.{◌≡◌, ◌∙◌, ap, sym, subst, inl, inr, ℕ, ◌++◌, append-nil, append_assoc, arith}
use Rattle.std.proofs.lemmas.Bool.Decides.{eqb_tells}
use Rattle.lpt_memory.specs.Memories.{content_of}
use Rattle.lpt_spacecraft.specs.Keeping.{kept_memories, kept_memory, HasLength}
use Rattle.lpt_spacecraft.proofs.KeepingLemmas.{kept_next, kept_none}
use Rattle.lpt_spacecraft.proofs.kept_file.add_memories.Goals as goal

pub loop-id-init : goal.loop-id-init
loop-id-init c = (
  sym (ap (λ x. c.args.octets.now.items ++ x) (kept_none c.args.memories.now)
      ∙ append-nil c.args.octets.now.items),
  λ j within. absurd (omega (arith, within)),
)

pub loop-id-preserved : goal.loop-id-preserved
loop-id-preserved c =
    let ms = c.args.memories.now in
    let id : ℕ = c.loop-id.id in
    let old = c.args.octets.now.items in
    let this : HasLength (content_of id ms) =
    subst HasLength c.content.ensures c.in_ok-add_memory.ensures.length in (
      c.in_ok-add_memory.ensures.octets
          ∙ ap (λ o. c.loop-id.octets.items ++ kept_memory id o) c.content.ensures
          ∙ ap (λ x. x ++ kept_memory id (content_of id ms)) c.loop-id.invariant.0
          ∙ append_assoc old (kept_memories id ms) (kept_memory id (content_of id ms))
          ∙ ap (λ x. old ++ x) (sym (kept_next id ms)),
      λ j within.
          elim (eqb_tells j id) [
            | inl t ↦ subst (λ (i : ℕ). HasLength (content_of i ms)) (sym t.1) this
            | inr t ↦ c.loop-id.invariant.1 j (omega (arith, within, t.1))
          ],
    )

pub returns-clause-octets : goal.returns-clause-octets
returns-clause-octets c =
    let all : c.loop-id.id ≡ 256 = omega (arith, c.loop-id-test.false, c.loop-id.auto.id-end) in
    c.loop-id.invariant.0
    ∙ ap (λ n. c.args.octets.now.items ++ kept_memories n c.args.memories.now) all

pub returns-clause-lengths : goal.returns-clause-lengths
returns-clause-lengths c =
    let all : c.loop-id.id ≡ 256 = omega (arith, c.loop-id-test.false, c.loop-id.auto.id-end) in
    λ id within. c.loop-id.invariant.1 id (omega (arith, within, all))

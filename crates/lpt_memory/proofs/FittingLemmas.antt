-- What the content stands for is what the message means, which is within the memories.
use Rattle.std.proofs.Common.{◌≡◌, ◌∙◌, ap, sym, subst, ℕ, ◌≤◌, List, length, arith}
use Rattle.lpt_memory.specs.declared.request.AreaRange.{AreaRange}
use Rattle.lpt_memory.specs.declared.request.Plan.{Plan}
use Rattle.lpt_memory.specs.Effects.{dump_body}
use Rattle.lpt_memory.specs.Meanings.{Sizes, Dump, dump_length}
use Rattle.lpt_memory.specs.Memories.{Contents, sizes_of}
use Rattle.lpt_memory.specs.Ranges.{ReadFits, MeaningFits}
use Rattle.lpt_memory.specs.Readings.{Source, source_meaning}
use Rattle.lpt_memory.specs.Seen.{body_of, plan_meaning}
use Rattle.lpt_memory.proofs.AnswerLemmas.{length-dump_body}
use Rattle.lpt_memory.proofs.MeaningLemmas.{meaning-fits}

-- what fits the sizes fits the memories that have them
pub fits_memories : {A : Type 0} (Fits : Sizes → List A → Type 0) (sizes : Sizes) (ms : Contents)
    (items xs : List A)
    → sizes ≡ sizes_of ms
    → xs ≡ items
    → Fits sizes items
    → Fits (sizes_of ms) xs
fits_memories {A} Fits sizes ms items xs same is fits =
    subst (Fits (sizes_of ms)) (sym is)
    (subst (λ (s : Sizes). Fits s items) same fits)

-- what the content stands for fits the sizes that it was read for
pub seen_fits : (r : Source) {x y : Plan}
    → x ≡ y
    → plan_meaning (body_of r.message) x ≡ source_meaning r
    → MeaningFits r.sizes (plan_meaning (body_of r.message) y)
seen_fits r is same =
    subst (MeaningFits r.sizes) (sym same ∙ ap (plan_meaning (body_of r.message)) is)
    (meaning-fits r.apid r.sizes r.message)

-- the answer to a dump within the sizes fits a packet
pub dump_short : (sizes : Sizes) (ms : Contents) (id : ℕ) (items ranges : List AreaRange)
    (body : List ℕ)
    → sizes ≡ sizes_of ms
    → ranges ≡ items
    → MeaningFits sizes (Dump id items)
    → body ≡ dump_body id ranges ms
    → length body ≤ 65523
dump_short sizes ms id items ranges body same is fits made =
    let within = fits_memories (λ (s : Sizes). ReadFits s id) sizes ms items ranges same is fits.0 in
    let long = length-dump_body id ranges ms within in
    let short : dump_length ranges ≤ 65542 =
    subst (λ (xs : List AreaRange). dump_length xs ≤ 65542) (sym is) fits.1
    in
    omega (arith, long, short, ap (λ (b : List ℕ). length b) made)

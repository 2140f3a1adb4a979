-- Where an end's memories are.
use Rattle.std.specs.Prelude.{ℕ, Option, Some, None, List, Ok, Err}
use Rattle.lpt_memory.specs.Meanings.{Sizes}
use Rattle.lpt_memory.specs.Memories.{content_of, sizes_of}
use Rattle.lpt_c_end.specs.Codes.{elsewhere, no_job, nothing}
use Rattle.lpt_c_end.specs.Copies.{Text}
use Rattle.lpt_c_end.specs.declared.kept.Kept.{Kept}
use Rattle.lpt_c_end.specs.declared.kept.Kept.TheVariants.{Nowhere, Here, Elsewhere}

-- the identifiers and sizes of an end's memories, if it has some
abbrev pub sizes_in : Kept → Option Sizes
sizes_in Nowhere = None
sizes_in (Here ms) = Some (sizes_of ms)
sizes_in (Elsewhere sizes) = Some sizes

-- octets, or that there are none
abbrev pub text_or_nothing : Option (List ℕ) → Text
text_or_nothing None = Err nothing
text_or_nothing (Some b) = Ok b

-- the octets of a memory, or why they aren't told
abbrev pub content_by : ℕ → Kept → Text
content_by id Nowhere = Err nothing
content_by id (Here ms) = text_or_nothing (content_of id ms)
content_by id (Elsewhere sizes) = Err elsewhere

-- ---- refusals

-- of what is done over memories, wherever they are
abbrev pub memories_refusal : Kept → Option ℕ → Option ℕ
memories_refusal Nowhere refusal = Some no_job
memories_refusal (Here ms) refusal = refusal
memories_refusal (Elsewhere sizes) refusal = refusal

-- of what is done over those that are in the end
abbrev pub here_refusal : Kept → Option ℕ → Option ℕ
here_refusal Nowhere refusal = Some no_job
here_refusal (Here ms) refusal = refusal
here_refusal (Elsewhere sizes) refusal = Some elsewhere

-- of what is done over those that are with the caller
abbrev pub elsewhere_refusal : Kept → Option ℕ → Option ℕ
elsewhere_refusal Nowhere refusal = Some no_job
elsewhere_refusal (Here ms) refusal = Some elsewhere
elsewhere_refusal (Elsewhere sizes) refusal = refusal

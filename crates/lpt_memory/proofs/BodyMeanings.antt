-- What a body means, by its spelling.
use Rattle.std.proofs.Common.{◌≡◌, ◌∙◌, ap, refl, ℕ, List, Option, Some, None}
use Rattle.lpt_packet.specs.Numbers.{IsOctets}
use Rattle.lpt_pus.specs.declared.failure_code.FailureCode.TheVariants.{MalformedBody, UnknownMemory}
use Rattle.lpt_memory.specs.Requests.{Request, request_in}
use Rattle.lpt_memory.specs.Spellings.{body_text, AreAreas}
use Rattle.lpt_memory.specs.Meanings.{Meaning, Fault, Sizes, size_of, in_memory, if_formed}

-- a body without a spelling is malformed
pub if_formed-malformed : {A : Type 0} (one : List ℕ → Option (A × List ℕ)) (text : A → List ℕ)
    (Fits : A → Type 0)
    → (means : ℕ → Request A → Meaning)
    → ((body : List ℕ) (r : Request A) → IsOctets body → request_in one body ≡ Some r
    → (body ≡ body_text text r.memory r.areas) × AreAreas Fits r.areas)
    → (sizes : Sizes) (body : List ℕ)
    → IsOctets body
    → ((memory : ℕ) (areas : List A) → AreAreas Fits areas → ¬ (body ≡ body_text text memory areas))
    → if_formed sizes means (request_in one body) ≡ Fault MalformedBody
if_formed-malformed {A} one text Fits means only sizes body o none =
    go (request_in one body) refl where
      go : (read : Option (Request A)) → request_in one body ≡ read → if_formed sizes means read
          ≡ Fault MalformedBody
      go None e = refl
      go (Some r) e =
          let is = only body r o e in
          absurd (none r.memory r.areas is.1 is.0)

-- a body with a spelling means a fault where its memory is unknown
pub if_formed-unknown : {A : Type 0} (means : ℕ → Request A → Meaning) (sizes : Sizes)
    (read : Option (Request A)) (r : Request A)
    → read ≡ Some r
    → size_of r.memory sizes ≡ None
    → if_formed sizes means read ≡ Fault UnknownMemory
if_formed-unknown means sizes read r is unknown =
    ap (if_formed sizes means) is ∙ ap (in_memory means r) unknown

-- a body with a spelling means what it means in its memory
pub if_formed-known : {A : Type 0} (means : ℕ → Request A → Meaning) (sizes : Sizes)
    (read : Option (Request A)) (r : Request A) (size : ℕ)
    → read ≡ Some r
    → size_of r.memory sizes ≡ Some size
    → if_formed sizes means read ≡ means size r
if_formed-known means sizes read r size is known =
    ap (if_formed sizes means) is ∙ ap (in_memory means r) known

-- What was moved to the front is what was held.
use Rattle.std.proofs.Common.{◌∙◌, ◌-◌, ap, sym, subst, take, List, ℕ}
use Rattle.lpt_stream.specs.Searches.{Knows}
use Rattle.lpt_stream.proofs.BufferLemmas.{moved}
use Rattle.lpt_stream.proofs.buffer.PacketBuffer.compact.Goals as goal

pub returns-clause-held : goal.returns-clause-held
returns-clause-held c =
    let b = c.args.self.now in
    ap (λ (o : List ℕ). take (b.end - b.start) o) c.copy_within.ensures.items
    ∙ moved b.start b.end b.octets.items b.ordered b.within

pub invariant_of-self-clause-known : goal.invariant_of-self-clause-known
invariant_of-self-clause-known c =
    let b = c.args.self.now in
    subst (Knows b.search)
    (sym (ap (λ (o : List ℕ). take (b.end - b.start) o) c.copy_within.ensures.items
    ∙ moved b.start b.end b.octets.items b.ordered b.within))
    b.known

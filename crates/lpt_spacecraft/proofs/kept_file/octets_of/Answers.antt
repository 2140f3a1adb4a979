-- The pieces stand one behind the other, and their checksum behind them.
use Rattle.std.proofs.Common.{◌≡◌, ◌∙◌, ap, rules, ℕ, List, ◌++◌, length}
use Rattle.lpt_packet.specs.Checksums.{checksum}
use Rattle.lpt_packet.specs.Numbers.{be}
use Rattle.lpt_spacecraft.specs.Keeping.{kept_head, kept_memories, kept_octets}
use Rattle.lpt_spacecraft.proofs.kept_file.octets_of.Goals as goal

pub returns-clause-octets : goal.returns-clause-octets
unfolding kept_octets
returns-clause-octets c =
    let head : List ℕ = kept_head (length c.args.state.now) in
    let state : List ℕ = c.args.state.now in
    let memories : List ℕ = kept_memories 256 c.args.memories.now in
    let all : c.add_memories.new.octets.items ≡ head ++ state ++ memories =
    c.in_ok-add_memories.ensures.octets
    ∙ ap (λ (xs : List ℕ). xs ++ memories) (c.in_ok-extend_from_slice.ensures.items
    ∙ ap (λ (xs : List ℕ). xs ++ state) (c.in_ok-add_head.ensures
    ∙ ap (λ (xs : List ℕ). xs ++ head) c.new-octets.ensures.items)) in
    let last : c.extend_from_slice-2.new.self.items ≡ c.add_memories.new.octets.items
    ++ c.to_be_bytes.result =
    search rules in
    let sum : c.to_be_bytes.result ≡ be (checksum (head ++ state ++ memories)) 2 =
    c.to_be_bytes.ensures
    ∙ ap (λ (n : ℕ). be n 2) (c.crc16-checksum.ensures ∙ ap checksum (c.deref.ensures.value ∙ all))
    in
    last ∙ (λ i. all i ++ sum i)

-- The checksum stands behind all else.
use Rattle.std.proofs.Common.{◌≡◌, ◌∙◌, ap, sym, ℕ, ◌+◌, ◌≤◌, List, ◌++◌, length, take, drop, append_assoc, arith}
use Rattle.std.proofs.lemmas.List.{drop-drop}
use Rattle.lpt_packet.specs.Checksums.{checksum}
use Rattle.lpt_packet.specs.Numbers.{be}
use Rattle.lpt_state.specs.Lastings.{lasting_of}
use Rattle.lpt_state.specs.Spellings.{state_spelled, spelling, state_unsealed}
use Rattle.lpt_state.proofs.LawLemmas.{length_of}
use Rattle.lpt_state.proofs.PuttingLemmas.{back_of, front_of, length-put}
use Rattle.lpt_state.proofs.SpellingLemmas.{length-front}
use Rattle.lpt_state.proofs.writing.write_state_into.Goals as goal

pub put_unsealed-end-requires : goal.put_unsealed-end-requires
put_unsealed-end-requires c =
    let v = c.args.node.now in
    omega (arith, c.requires, length_of v, length-front v.side v.config (lasting_of v.at))

pub split_at_mut-seal-requires : goal.split_at_mut-seal-requires
split_at_mut-seal-requires c =
    let v = c.args.node.now in
    let out : List ℕ = c.args.out.now in
    let fits : length (state_unsealed v) ≤ length out =
    omega (arith, c.requires, length_of v, length-front v.side v.config (lasting_of v.at)) in
    let long : length c.put_unsealed-end.new.out ≡ length out =
    ap length c.put_unsealed-end.ensures.octets ∙ length-put (state_unsealed v) out fits in
    omega (
      arith,
      c.requires,
      length_of v,
      length-front v.side v.config (lasting_of v.at),
      c.put_unsealed-end.ensures.len,
      c.split_at_mut-before.ensures.back_len,
      long,
    )

pub returns : goal.returns
unfolding spelling
returns c =
    let v = c.args.node.now in
    let out : List ℕ = c.args.out.now in
    let u : List ℕ = state_unsealed v in
    let end : ℕ = c.put_unsealed-end.result in
    let front : c.split_at_mut-before.result.0.now ≡ u =
    c.split_at_mut-before.ensures.front
    ∙ ap (λ (xs : List ℕ). take end xs) c.put_unsealed-end.ensures.octets
    ∙ front_of end u out c.put_unsealed-end.ensures.len in
    let seal : c.copy_from_slice.new.self ≡ be (checksum u) 2 =
    c.copy_from_slice.ensures.after ∙ c.to_be_bytes.ensures
    ∙ ap (λ (n : ℕ). be n 2) (c.crc16.ensures ∙ ap checksum front) in
    let size : end + 2 ≡ length (state_spelled v) =
    omega (
      arith,
      length_of v,
      length-front v.side v.config (lasting_of v.at),
      c.put_unsealed-end.ensures.len,
    ) in
    let behind : c.split_at_mut-seal.result.1.now ≡ drop (length (state_spelled v)) out =
    c.split_at_mut-seal.ensures.back
    ∙ ap (λ (xs : List ℕ). drop 2 xs) (c.split_at_mut-before.ensures.back
    ∙ ap (λ (xs : List ℕ). drop end xs) c.put_unsealed-end.ensures.octets
    ∙ back_of end u out c.put_unsealed-end.ensures.len)
    ∙ drop-drop 2 end out
    ∙ ap (λ (k : ℕ). drop k out) size in
    (λ i. front i ++ (seal i ++ behind i))
    ∙ sym (append_assoc u (be (checksum u) 2) (drop (length (state_spelled v)) out))

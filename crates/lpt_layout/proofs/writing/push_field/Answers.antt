-- The pieces stand one behind the other.
use Rattle.std.proofs.Common.{◌≡◌, ◌∙◌, ap, ℕ, ◌+◌, ◌*◌, List, [], ◌∷◌, ◌++◌}
use Rattle.lpt_packet.specs.Numbers.{be}
use Rattle.lpt_layout.specs.Layouts.{version_number}
use Rattle.lpt_layout.specs.Messages.{message_said}
use Rattle.lpt_layout.specs.Numbers.{octets_of}
use Rattle.lpt_layout.proofs.MessageLemmas.{field_of-behind}
use Rattle.lpt_layout.proofs.writing.push_field.Goals as goal

pub returns : goal.returns
returns c =
    let l = c.args.layout.now in
    let m = message_said c.args.message.now in
    let old : List ℕ = c.args.octets.now.items in
    let head : List ℕ =
    (16 * version_number l.version + m.flags) ∷ m.service ∷ m.subtype ∷ [] in
    let counter : c.octets_of.result.now ≡ be m.counter (octets_of l.counter) =
    c.octets_of.ensures m.counter c.to_be_bytes-counter.ensures in
    let user : c.octets_of-2.result.now ≡ be m.user (octets_of l.user) =
    c.octets_of-2.ensures m.user c.to_be_bytes-user.ensures in
    let one : c.extend_from_slice.new.self.items ≡ old ++ head =
    c.in_ok-extend_from_slice.ensures.items
    ∙ ap (λ (n : ℕ). old ++ ((16 * n + m.flags) ∷ m.service ∷ m.subtype ∷ [])) c.number.ensures in
    let two : c.extend_from_slice-2.new.self.items
    ≡ (old ++ head) ++ be m.counter (octets_of l.counter) =
    c.in_ok-extend_from_slice-2.ensures.items ∙ (λ i. one i ++ counter i) in
    let three : c.extend_from_slice-3.new.self.items
    ≡ ((old ++ head) ++ be m.counter (octets_of l.counter)) ++ be m.user (octets_of l.user) =
    c.in_ok-extend_from_slice-3.ensures.items ∙ (λ i. two i ++ user i) in
    c.in_ok-extend_from_slice-6.ensures.items
    ∙ ap (λ (xs : List ℕ). xs ++ m.body) (c.in_ok-extend_from_slice-5.ensures.items
    ∙ ap (λ (xs : List ℕ). xs ++ m.spare) (c.in_ok-extend_from_slice-4.ensures.items
    ∙ ap (λ (xs : List ℕ). xs ++ m.time) three))
    ∙ field_of-behind l m old

-- A part of this kind, number and length has a body, or not.
use Rattle.std.proofs.Common.{◌≡◌, ◌∙◌, ap, sym, rules, arith, ℕ, ◌==◌, true, false, length, Some}
use Rattle.std.proofs.lemmas.Bool.Decides.{nat_tests}
use Rattle.lpt_part.specs.Parts.{length_test, number_test}
use Rattle.lpt_c.specs.Buffers.{BufferText, code_for, left_by, needed_by}
use Rattle.lpt_c.specs.Parts.{is_part_size, kind_named}
use Rattle.lpt_c.specs.Standing.{rest_in}
use Rattle.lpt_c.proofs.PartLemmas.{part_with}
use Rattle.lpt_c.proofs.RestLemmas.{length_rest}
use Rattle.lpt_c.proofs.parts.write_part.Goals as goal

pub returns-then-not-length_fits-clause-code : goal.returns-then-not-length_fits-clause-code
returns-then-not-length_fits-clause-code c =
    let old = c.args.out.now in
    let o = rest_in c.args.octets 4 old in
    let k = c.in-Some.of_kind in
    let named : kind_named c.args.kind ≡ Some k = search rules in
    let size : is_part_size c.args.part_size ≡ true =
    grind (arith, nat_tests, c.if-part_size-lt4.false, c.if-part_size-gt1024.false) in
    let some : (c.args.number == 0) ≡ false = grind (arith, nat_tests, c.if-number-eq0.false) in
    let tested : number_test k c.args.number ≡ true = search rules in
    let len : length o ≡ c.len.result = length_rest c.args.octets 4 old ∙ sym c.len.ensures in
    let short : length_test k c.args.number c.len.result c.args.part_size ≡ false = search rules in
    sym (ap (λ (t : BufferText). code_for t old)
    (part_with (kind_named c.args.kind) k c.args.id c.args.number c.args.part_size o false named
    size some tested
    (ap (λ (n : ℕ). length_test k c.args.number n c.args.part_size) len ∙ short)))

pub returns-clause-code : goal.returns-clause-code
returns-clause-code c =
    let old = c.args.out.now in
    let o = rest_in c.args.octets 4 old in
    let k = c.in-Some.of_kind in
    let named : kind_named c.args.kind ≡ Some k = search rules in
    let size : is_part_size c.args.part_size ≡ true =
    grind (arith, nat_tests, c.if-part_size-lt4.false, c.if-part_size-gt1024.false) in
    let some : (c.args.number == 0) ≡ false = grind (arith, nat_tests, c.if-number-eq0.false) in
    let tested : number_test k c.args.number ≡ true = search rules in
    let len : length o ≡ c.len.result = length_rest c.args.octets 4 old ∙ sym c.len.ensures in
    let fits : length_test k c.args.number c.len.result c.args.part_size ≡ true = search rules in
    c.fill_part.ensures.code
    ∙ sym (ap (λ (t : BufferText). code_for t old)
    (part_with (kind_named c.args.kind) k c.args.id c.args.number c.args.part_size o true named
    size some tested
    (ap (λ (n : ℕ). length_test k c.args.number n c.args.part_size) len ∙ fits)))

pub returns-clause-buffer : goal.returns-clause-buffer
returns-clause-buffer c =
    let old = c.args.out.now in
    let o = rest_in c.args.octets 4 old in
    let k = c.in-Some.of_kind in
    let named : kind_named c.args.kind ≡ Some k = search rules in
    let size : is_part_size c.args.part_size ≡ true =
    grind (arith, nat_tests, c.if-part_size-lt4.false, c.if-part_size-gt1024.false) in
    let some : (c.args.number == 0) ≡ false = grind (arith, nat_tests, c.if-number-eq0.false) in
    let tested : number_test k c.args.number ≡ true = search rules in
    let len : length o ≡ c.len.result = length_rest c.args.octets 4 old ∙ sym c.len.ensures in
    let fits : length_test k c.args.number c.len.result c.args.part_size ≡ true = search rules in
    c.fill_part.ensures.buffer
    ∙ sym (ap (λ (t : BufferText). left_by t old)
    (part_with (kind_named c.args.kind) k c.args.id c.args.number c.args.part_size o true named
    size some tested
    (ap (λ (n : ℕ). length_test k c.args.number n c.args.part_size) len ∙ fits)))

pub returns-clause-needed : goal.returns-clause-needed
returns-clause-needed c =
    let o = rest_in c.args.octets 4 c.args.out.now in
    let k = c.in-Some.of_kind in
    let named : kind_named c.args.kind ≡ Some k = search rules in
    let size : is_part_size c.args.part_size ≡ true =
    grind (arith, nat_tests, c.if-part_size-lt4.false, c.if-part_size-gt1024.false) in
    let some : (c.args.number == 0) ≡ false = grind (arith, nat_tests, c.if-number-eq0.false) in
    let tested : number_test k c.args.number ≡ true = search rules in
    let len : length o ≡ c.len.result =
    length_rest c.args.octets 4 c.args.out.now ∙ sym c.len.ensures in
    let fits : length_test k c.args.number c.len.result c.args.part_size ≡ true = search rules in
    c.fill_part.ensures.needed
    ∙ sym (ap (λ (t : BufferText). needed_by t c.args.needed.now)
    (part_with (kind_named c.args.kind) k c.args.id c.args.number c.args.part_size o true named
    size some tested
    (ap (λ (n : ℕ). length_test k c.args.number n c.args.part_size) len ∙ fits)))

-- The body of a part whose kind, number and size are right.
use Rattle.std.proofs.Common.{◌≡◌, ◌∙◌, ap, ℕ, ◌==◌, Bool, true, false, if◌then◌else◌, List, length, Option, Some, Ok, Err}
use Rattle.lpt_part.specs.declared.kind.Kind.{Kind}
use Rattle.lpt_part.specs.Parts.{body_of, length_test, number_test}
use Rattle.lpt_c.specs.Buffers.{BufferText}
use Rattle.lpt_c.specs.Codes.{kind_number_fault, part_length, range, zero_number}
use Rattle.lpt_c.specs.Parts.{is_part_size, part_text, piece_of}

-- its length is left to be looked at
pub part_with : (k : Option Kind) (kind : Kind) (id number p : ℕ) (o : List ℕ) (fits : Bool)
    → k ≡ Some kind
    → is_part_size p ≡ true
    → (number == 0) ≡ false
    → number_test kind number ≡ true
    → length_test kind number (length o) p ≡ fits
    → part_text k id number p o
    ≡ (if fits then Ok (body_of (piece_of id number kind o)) else Err part_length)
part_with k kind id number p o fits named size some tested is =
    let text : BufferText = Ok (body_of (piece_of id number kind o)) in
    let long : BufferText
    = if length_test kind number (length o) p then text else Err part_length in
    let right : BufferText = if number_test kind number then long else Err kind_number_fault in
    ap (λ (n : Option Kind). part_text n id number p o) named
    ∙ ap (λ (b : Bool). if b then (if number == 0 then Err zero_number else right) else Err range)
    size
    ∙ ap (λ (b : Bool). if b then Err zero_number else right) some
    ∙ ap (λ (b : Bool). if b then long else Err kind_number_fault) tested
    ∙ ap (λ (b : Bool). if b then text else Err part_length) is

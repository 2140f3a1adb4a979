-- The order of identifiers is one.
use Rattle.std.proofs.Common.{◌∙◌, ap, sym, ◌&&◌, nat_le, length, map}
use Rattle.std.proofs.lemmas.Bool.{and_parts}
use Rattle.lpt_c_end.specs.Contents.{memory_told}
use Rattle.lpt_c_end.specs.InOrder.{by_id}
use Rattle.lpt_c_end.specs.Sizes.{are_apart, size_said}
use Rattle.lpt_c_end.specs.declared.kept.Kept.TheVariants.{Elsewhere}
use Rattle.lpt_c_end.proofs.AnyOrder.{in-order-by_id, in-order-loaded, once-apart, same-in-order}
use Rattle.lpt_c_end.proofs.InOrder.{found-by_id}
use Rattle.lpt_c_end.proofs.MemoryLemmas.{once-told}
use Rattle.lpt_c_end.proofs.laws.memories_come_in_any_order.Goals as goal

pub returns-clause-has : goal.returns-clause-has
returns-clause-has c = λ content ms id. found-by_id id (map (memory_told content) ms)

pub returns-clause-again : goal.returns-clause-again
returns-clause-again c = λ content ms held can ordered same.
    let told = map (memory_told content) ms in
    same-in-order (by_id told) held (in-order-by_id told (once-told content ms can)) ordered
    (λ id. found-by_id id told ∙ same id)

pub returns-clause-sized : goal.returns-clause-sized
returns-clause-sized c = λ sizes again are also same.
    let before = map size_said sizes in
    let now = map size_said again in
    let one = once-apart before
    (and_parts (nat_le 1 (length before) && nat_le (length before) 16) (are_apart before) are).1 in
    let two = once-apart now
    (and_parts (nat_le 1 (length now) && nat_le (length now) 16) (are_apart now) also).1 in
    ap Elsewhere
    (same-in-order (by_id now) (by_id before) (in-order-by_id now two) (in-order-by_id before one)
    (λ id. found-by_id id now ∙ same id ∙ sym (found-by_id id before)))

pub returns-clause-begins : goal.returns-clause-begins
returns-clause-begins c = λ content ms can.
    in-order-by_id (map (memory_told content) ms) (once-told content ms can)

pub returns-clause-loaded : goal.returns-clause-loaded
returns-clause-loaded c = λ id areas held ordered. in-order-loaded id areas held ordered

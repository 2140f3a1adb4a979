-- A map with one entry has no other than its first.
use Rattle.std.proofs.Common.{◌≡◌, ◌∷◌, [], List, length, Some, arith}
use Rattle.std.specs.Prelude.{slice_get}
use Rattle.lpt_layout_join.proofs.writing.only.Goals as goal

one_entry : {A : Type 0} (xs : List A) (x : A)
    → slice_get xs 0 ≡ Some x
    → length xs ≡ 1
    → xs ≡ x ∷ []
one_entry [] x first one = cc
one_entry (y ∷ []) x first one = cc
one_entry (y ∷ z ∷ xs) x first one = cc

pub returns-in-Some-clause-some : goal.returns-in-Some-clause-some
returns-in-Some-clause-some c =
    let one : length c.args.gatherings.now.kept.entries ≡ 1 =
    grind (arith, c.len.ensures, c.if-len-ne1) in (
      c.in-Some.field-0-0.now,
      record {
        is = one_entry c.args.gatherings.now.kept.entries
            (c.in-Some.field-0-0.now, c.in-Some.gathering.now) c.in-Some.ensures.first one;
        all = c.if-gatherings.false;
      },
    )

-- The path at which a file is written first is another than its own.
use Rattle.std.proofs.Common.{◌≡◌, ◌≢◌, ◌∙◌, ap, sym, refl, arith, ℕ, List, length, length-append, Result, Ok, Err}
use Rattle.std.specs.Prelude.{IfOk, codes}
use Rattle.lpt_io.specs.Disks.{part_path}

part-beside : (path text : List ℕ) → text ≡ part_path path → text ≢ path
part-beside path text is same =
    omega (
      arith,
      ap length (sym is ∙ same),
      length-append path (codes ".part"),
      the_five,
    ) where
      the_five : length (codes ".part") ≡ 5
      the_five = refl

pub part-beside-ok : {T E : Type 0} (bytes : T → List ℕ) (path : List ℕ) (r : Result T E)
    → IfOk r (λ t. bytes t ≡ part_path path)
    → IfOk r (λ t. bytes t ≢ path)
part-beside-ok bytes path (Ok t) is = part-beside path (bytes t) is
part-beside-ok bytes path (Err e) is = tt

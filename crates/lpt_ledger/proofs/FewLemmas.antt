-- Runs that ascend are few: each has a name of its own, of 65,536 for each of 65,536 sources.
use Rattle.std.proofs.Common.{◌≡◌, refl, inl, inr, ℕ, suc, ◌+◌, ◌*◌, ◌<◌, ◌≤◌, ◌^◌, true, ◌&&◌, List, [], ◌∷◌, ◌++◌, length, Option, Some, None, arith}
use Rattle.std.specs.List.{All}
use Rattle.lpt_packet.proofs.BoolLemmas.{and_left, and_right, true_le}
use Rattle.lpt_ledger.specs.declared.run.NameRun.{NameRun}
use Rattle.lpt_ledger.specs.Runs.{ascend, ascend_behind, has_name, stands, IsRun}
use Rattle.lpt_ledger.proofs.AscendLemmas.{behind_says}

-- how many names stand before the end of a run
before : Option NameRun → ℕ
before None = 0
before (Some r) = 65536 * r.source + r.last + 1

-- the numbers of the run before have 16 bits
Fits : Option NameRun → Type 0
Fits None = Unit {0}
Fits (Some r) = IsRun r

-- a run has a name more
further : (p : Option NameRun) (r : NameRun)
    → Fits p
    → r.first ≤ r.last
    → stands p r ≡ true
    → before p + 1 ≤ before (Some r)
unfolding before Fits
further None r fits some behind = omega arith
further (Some p) r fits some behind = elim (behind_says p r behind) [
  | inl less ↦ omega (arith, less, fits.last_fits)
  | inr same ↦ omega (arith, same.0, same.1, some)
]

all : (p : Option NameRun) → Fits p → before p ≤ 2 ^ 32
unfolding before Fits
all None fits = omega arith
all (Some r) fits = omega (arith, fits.source_fits, fits.last_fits)

-- so many stand behind it
few_behind : (p : Option NameRun) (rs left : List NameRun)
    → Fits p
    → All IsRun rs
    → ascend_behind p (rs ++ left) ≡ true
    → length rs + before p ≤ 2 ^ 32
unfolding ascend_behind Fits
few_behind p [] left fits are rise = omega (arith, all p fits)
few_behind p (r ∷ rs) left fits are rise =
    let this : IsRun r = are 0 r (omega arith) in
    let more = and_right (has_name r) (stands p r && ascend_behind (Some r) (rs ++ left)) rise in
    let some : r.first ≤ r.last =
    true_le r.first r.last
    (and_left (has_name r) (stands p r && ascend_behind (Some r) (rs ++ left)) rise) in
    let behind : stands p r ≡ true =
    and_left (stands p r) (ascend_behind (Some r) (rs ++ left)) more in
    let rest : length rs + before (Some r) ≤ 2 ^ 32 =
    few_behind (Some r) rs left this (λ k d within. are (suc k) d (omega (arith, within)))
    (and_right (stands p r) (ascend_behind (Some r) (rs ++ left)) more) in
    omega (arith, rest, further p r fits some behind)

-- of runs that ascend the first are no more than there are names
pub few_first : (rs left : List NameRun)
    → All IsRun rs
    → ascend (rs ++ left) ≡ true
    → length rs ≤ 2 ^ 32
unfolding before Fits
few_first rs left are rise = omega (arith, few_behind None rs left tt are rise)

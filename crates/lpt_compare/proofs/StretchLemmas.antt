-- Stretches, one block after the other.
use Rattle.std.proofs.Common.{◌≡◌, sym, refl, subst, ℕ, ◌+◌, ◌<◌, ◌≤◌, List, [], ◌∷◌, ◌++◌, length, append_assoc, inl, inr, arith}
use Rattle.std.proofs.lemmas.Bool.{cases_lt}
use Rattle.lpt_compare.specs.declared.differing.Stretch.{Stretch}
use Rattle.lpt_compare.specs.Differences.{AreSame, AreStretches, Differs, IsStretch, block}

-- a block of an image has its place
pub block-has : (align size i : ℕ)
    → 0 < align
    → i < size
    → i < (block align size i).end
block-has align size i a h = omega arith

module _ (old new : List ℕ) (gap align : ℕ) (some : 0 < align) where
  -- the block of a place at which they differ is a stretch
  pub block-stretch : (i : ℕ)
      → Differs old new i
      → IsStretch old new gap align (block align (length old) i)
  block-stretch i d =
      let has = block-has align (length old) i some d.0 in record {
        some = omega (arith, has);
        begins = (i, d, refl);
        ends = (i, d, refl);
        holds = λ at lo hi. (i, d, omega (arith, lo), omega (arith, hi));
      }

  -- a stretch goes on up to the end of a block that begins no more octets behind it than the gap
  pub longer-stretch : (s : Stretch) (i : ℕ)
      → IsStretch old new gap align s
      → Differs old new i
      → s.end ≤ i
      → (block align (length old) i).from ≤ s.end + gap
      → IsStretch old new gap align
      (record { from = s.from; end = (block align (length old) i).end })
  longer-stretch s i was d behind near =
      let has = block-has align (length old) i some d.0 in
      let begins = was.some in
      let final = was.ends in
      let size = block-has align (length old) final.0 some final.1.0 in
      record {
        some = omega (arith, has, begins, behind);
        begins = was.begins;
        ends = (i, d, refl);
        holds = λ at lo hi. elim (cases_lt (at + gap) s.end) [
          | inl short ↦ was.holds at lo short
          | inr long ↦ elim (cases_lt at s.end) [
            | inl inside ↦ (
              final.0,
              final.1,
              omega (arith, size, final.2, long),
              omega (arith, final.2, inside),
            )
            | inr outside ↦ (i, d, omega (arith, near, outside), omega (arith, hi))
          ]
        ];
      }

  -- a stretch behind another
  pub next-stretch : (stretches more : List Stretch) (was s : Stretch) (i : ℕ)
      → IsStretch old new gap align was
      → ((more : List Stretch) (s : Stretch) → s.from ≡ was.from
      → IsStretch old new gap align s
      → AreStretches old new gap align s.end (s.end + gap + 1) more
      → AreStretches old new gap align 0 0 (stretches ++ s ∷ more))
      → AreSame old new was.end i
      → was.end + gap < (block align (length old) i).from
      → s.from ≡ (block align (length old) i).from
      → IsStretch old new gap align s
      → AreStretches old new gap align s.end (s.end + gap + 1) more
      → AreStretches old new gap align 0 0 ((stretches ++ was ∷ []) ++ s ∷ more)
  next-stretch stretches more was s i is told same apart from next rest =
      subst (AreStretches old new gap align 0 0)
      (sym (append_assoc stretches (was ∷ []) (s ∷ more)))
      (told (s ∷ more) was refl is (
        omega (arith, apart, from),
        (λ k lo hi. same k lo (omega (arith, hi, from))),
        next,
        rest,
      ))

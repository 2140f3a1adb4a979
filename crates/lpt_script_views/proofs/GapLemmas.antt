-- Which numbers are marked, and that those that aren't are missing.
use Rattle.std.proofs.Common.{◌≡◌, ◌≢◌, ◌∙◌, ap, sym, refl, ℕ, ◌+◌, ◌-◌, ◌<◌, ◌≤◌, ◌==◌, nat_le, Bool, true, false, not, ◌||◌, ◌&&◌, List, [], ◌∷◌, ◌++◌, flat_map, length, get_or, set, arith}
use Rattle.std.specs.List.{range_with_len}
use Rattle.std.proofs.lemmas.Bool.Decides.{nat_tests}
use Rattle.std.proofs.lemmas.Grind.{get_or-set_at}
use Rattle.std.proofs.lemmas.List.{get_or-set_other}
use Rattle.lpt_script_views.specs.Gaps.{gap_text, gaps_text, is_missing, is_unmarked, part_gap}
use Rattle.lpt_script_views.specs.Kept.{has_number}

-- ---- marks

or-true : (b : Bool) → (b || true) ≡ true
or-true true = refl
or-true false = refl

or-false : (b : Bool) → (b || false) ≡ b
or-false true = refl
or-false false = refl

-- where the number of a place was marked, each is that was marked before, or is that one
pub marked-next : (xs : List Bool) (place k : ℕ) (b : Bool)
    → k < length xs
    → get_or xs k false ≡ b
    → get_or (set xs place true) k false ≡ (b || (place == k))
marked-next xs place k b within had = go (place == k) refl where
  go : (same : Bool) → (place == k) ≡ same
      → get_or (set xs place true) k false ≡ (b || same)
  go true is =
      let e : k ≡ place = grind arith in
      get_or-set_at xs place k true false e (grind (arith, within, e)) ∙ sym (or-true b)
  go false is =
      let e : k ≢ place = grind arith in
      get_or-set_other xs place k true false e ∙ had ∙ sym (or-false b)

-- ---- gaps

-- what is missing by marks is what is missing
same_missing : (kept : List ℕ) (marks : List Bool) (parts k : ℕ)
    → ((k : ℕ) → k < parts + 1 → get_or marks k false ≡ has_number kept k)
    → is_unmarked marks parts k ≡ is_missing kept parts k
same_missing kept marks parts k marked = go (nat_le k parts) refl
  where
    off : (a x y : Bool) → (a && false && x) ≡ (a && false && y)
    off true x y = refl
    off false x y = refl

    go : (b : Bool) → nat_le k parts ≡ b
        → (nat_le 1 k && b && not (get_or marks k false))
        ≡ (nat_le 1 k && b && not (has_number kept k))
    go true is =
        let within : k < parts + 1 = grind (arith, nat_tests) in
        ap (λ x. nat_le 1 k && true && not x) (marked k within)
    go false is = off (nat_le 1 k) (not (get_or marks k false)) (not (has_number kept k))

same_gap : (f g : ℕ → Bool) (k : ℕ) → ((n : ℕ) → f n ≡ g n) → part_gap f k ≡ part_gap g k
same_gap f g k same =
    ap (λ a. gap_text a (f (k - 1)) (f (k + 1)) k) (same k)
    ∙ ap (λ b. gap_text (g k) b (f (k + 1)) k) (same (k - 1))
    ∙ ap (λ c. gap_text (g k) (g (k - 1)) c k) (same (k + 1))

same_all : (f g : ℕ → Bool) (ns : List ℕ) → ((n : ℕ) → f n ≡ g n)
    → flat_map (part_gap f) ns ≡ flat_map (part_gap g) ns
same_all f g [] same = refl
same_all f g (n ∷ ns) same =
    ap (λ x. x ++ flat_map (part_gap f) ns) (same_gap f g n same)
    ∙ ap (λ x. part_gap g n ++ x) (same_all f g ns same)

pub same_gaps : (kept : List ℕ) (marks : List Bool) (parts many : ℕ)
    → many ≡ parts + 1
    → ((k : ℕ) → k < many → get_or marks k false ≡ has_number kept k)
    → gaps_text (is_unmarked marks parts) parts ≡ gaps_text (is_missing kept parts) parts
same_gaps kept marks parts many is marked =
    same_all (is_unmarked marks parts) (is_missing kept parts) (range_with_len 1 parts)
    (λ k. same_missing kept marks parts k
    (λ n within. marked n (let e : n < many = grind (arith, is, within) in e)))

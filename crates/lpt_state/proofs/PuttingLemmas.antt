-- Octets written to the front of a buffer, and others behind them.
use Rattle.std.proofs.Common.{◌≡◌, ◌∙◌, ap, sym, refl, ℕ, ◌+◌, ◌-◌, ◌*◌, ◌≤◌, List, [], ◌∷◌, ◌++◌, length, take, drop, append_assoc, append-nil, length-append, length-drop, arith}
use Rattle.std.proofs.lemmas.List.{drop-drop}
use Rattle.std.proofs.lemmas.List.Concat.{flat_map-append}
use Rattle.std.proofs.Math.Seq.{drop-append_seam, take-append_seam}
use borrow.Rule.Slice.PartMut.{put_mid}
use Rattle.lpt_ledger.specs.declared.run.NameRun.{NameRun}
use Rattle.lpt_state.specs.Spellings.{run_octets, runs_octets}
use Rattle.lpt_state.proofs.RunLemmas.{length-runs_octets}

-- a buffer with these octets at its front
abbrev pub put : List ℕ → List ℕ → List ℕ
put xs old = xs ++ drop (length xs) old

pub length-put : (xs old : List ℕ) → length xs ≤ length old → length (put xs old) ≡ length old
length-put xs old fits =
    omega (arith, fits, length-append xs (drop (length xs) old), length-drop (length xs) old)

-- what stands in front of a place, and behind it
pub front_of : (n : ℕ) (xs old : List ℕ) → n ≡ length xs → take n (put xs old) ≡ xs
front_of n xs old is =
    ap (λ (k : ℕ). take k (put xs old)) is ∙ take-append_seam xs (drop (length xs) old)

pub back_of : (n : ℕ) (xs old : List ℕ) → n ≡ length xs → drop n (put xs old) ≡ drop n old
back_of n xs old is =
    ap (λ (k : ℕ). drop k (put xs old)) is ∙ drop-append_seam xs (drop (length xs) old)
    ∙ ap (λ (k : ℕ). drop k old) (sym is)

-- others are written behind them
pub put_both : (xs ys old : List ℕ) → xs ++ put ys (drop (length xs) old) ≡ put (xs ++ ys) old
put_both xs ys old =
    let n : ℕ = length ys in
    let m : ℕ = length xs in
    let size : m + n ≡ length (xs ++ ys) = sym (length-append xs ys) in
    ap (λ (zs : List ℕ). xs ++ (ys ++ zs)) (drop-drop n m old)
    ∙ sym (append_assoc xs ys (drop (m + n) old))
    ∙ ap (λ (k : ℕ). (xs ++ ys) ++ drop k old) size

-- a run more
pub more_octets : (seen : List NameRun) (r : NameRun)
    → runs_octets (seen ++ r ∷ []) ≡ runs_octets seen ++ run_octets r
more_octets seen r =
    flat_map-append run_octets seen (r ∷ [])
    ∙ ap (λ (zs : List ℕ). runs_octets seen ++ zs) (append-nil (run_octets r))

-- one is written behind those before
pub next_put : (seen : List NameRun) (r : NameRun) (old out six : List ℕ) (count k : ℕ)
    → count ≡ length seen
    → k ≡ 6
    → out ≡ runs_octets seen ++ drop (6 * length seen) old
    → six ≡ run_octets r
    → put_mid (6 * count) k out six
    ≡ runs_octets (seen ++ r ∷ []) ++ drop (6 * length (seen ++ r ∷ [])) old
next_put seen r old out six count k counted six_long is six_is =
    let s : List ℕ = runs_octets seen in
    let n : ℕ = 6 * length seen in
    let rest : List ℕ = drop n old in
    let all : List ℕ = drop (6 * length (seen ++ r ∷ [])) old in
    let at : 6 * count ≡ length s = omega (arith, counted, length-runs_octets seen) in
    let more : n + 6 ≡ 6 * length (seen ++ r ∷ []) = omega (arith, length-append seen (r ∷ [])) in
    let front : take (6 * count) out ≡ s =
    (λ i. take (at i) (is i)) ∙ take-append_seam s rest in
    let back : drop k (drop (6 * count) out) ≡ all =
    (λ i. drop (six_long i) (drop (at i) (is i)))
    ∙ ap (λ (xs : List ℕ). drop 6 xs) (drop-append_seam s rest)
    ∙ drop-drop 6 n old
    ∙ ap (λ (j : ℕ). drop j old) more in
    (λ i. front i ++ (six_is i ++ back i))
    ∙ sym (append_assoc s (run_octets r) all)
    ∙ ap (λ (xs : List ℕ). xs ++ all) (sym (more_octets seen r))

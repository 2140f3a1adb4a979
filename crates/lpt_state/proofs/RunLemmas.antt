-- Runs and the octets that say them.
use Rattle.std.proofs.Common.{◌≡◌, ◌∙◌, refl, ap, sym, ℕ, suc, ◌+◌, ◌-◌, ◌*◌, ◌<◌, ◌≤◌, Bool, true, false, ◌&&◌, Option, Some, List, [], ◌∷◌, ◌++◌, length, take, drop, arith}
use Rattle.std.specs.List.{All}
use Rattle.lpt_packet.proofs.Codec.{word_cells, word_of_be}
use Rattle.lpt_packet.specs.Numbers.{IsOctets}
use Rattle.lpt_ledger.specs.declared.run.NameRun.{NameRun}
use Rattle.lpt_ledger.specs.Marks.{Marks}
use Rattle.lpt_ledger.specs.Runs.{ascend_behind, has_name, names_in, names_of, shut_names, stands, IsRun}
use Rattle.lpt_ledger.proofs.RunsLemmas.{shut_names-append}
use Rattle.lpt_state.specs.Spellings.{runs_octets}
use Rattle.lpt_state.specs.Verdicts.{run_at, runs_in}

-- six octets a run
pub length-runs_octets : (rs : List NameRun) → length (runs_octets rs) ≡ 6 * length rs
length-runs_octets [] = refl
length-runs_octets (r ∷ rs) = omega (arith, length-runs_octets rs)

-- runs are read off their octets
pub runs_again : (rs : List NameRun) → All IsRun rs → runs_in (runs_octets rs) ≡ rs
unfolding runs_in
runs_again [] fit = refl
runs_again (r ∷ rs) fit =
    let this : IsRun r = fit 0 r (omega arith) in
    λ i. record {
      source = word_of_be r.source [] this.source_fits i;
      first = word_of_be r.first [] this.first_fits i;
      last = word_of_be r.last [] this.last_fits i;
    } ∷ runs_again rs (λ k d within. fit (suc k) d (omega arith)) i

-- so many sixes of octets are as many runs, and their spelling
pub sixes_again : (b : List ℕ) (n : ℕ) → length b ≡ 6 * n → IsOctets b
    → (runs_octets (runs_in b) ≡ b) × (length (runs_in b) ≡ n)
unfolding runs_in
sixes_again [] n long o = (refl, omega arith)
sixes_again (a ∷ []) n long o = absurd (omega arith)
sixes_again (a ∷ b ∷ []) n long o = absurd (omega arith)
sixes_again (a ∷ b ∷ c ∷ []) n long o = absurd (omega arith)
sixes_again (a ∷ b ∷ c ∷ d ∷ []) n long o = absurd (omega arith)
sixes_again (a ∷ b ∷ c ∷ d ∷ e ∷ []) n long o = absurd (omega arith)
sixes_again (a ∷ b ∷ c ∷ d ∷ e ∷ f ∷ rest) n long o =
    let later : (runs_octets (runs_in rest) ≡ rest) × (length (runs_in rest) ≡ n - 1) =
    sixes_again rest (n - 1) (omega arith) (λ i. o (suc (suc (suc (suc (suc (suc i))))))) in (
      λ i. (word_cells a b (o 0) (o 1) i ++ word_cells c d (o 2) (o 3) i
          ++ word_cells e f (o 4) (o 5) i) ++ later.0 i,
      omega (arith, later.1),
    )

-- the run of the first six octets is the first run
pub next_run : (b : List ℕ) (r : NameRun) → 6 ≤ length b → r ≡ run_at (take 6 b) → runs_in b ≡ r
    ∷ runs_in (drop 6 b)
unfolding runs_in
next_run [] r long is = absurd (omega arith)
next_run (a ∷ []) r long is = absurd (omega arith)
next_run (a ∷ b ∷ []) r long is = absurd (omega arith)
next_run (a ∷ b ∷ c ∷ []) r long is = absurd (omega arith)
next_run (a ∷ b ∷ c ∷ d ∷ []) r long is = absurd (omega arith)
next_run (a ∷ b ∷ c ∷ d ∷ e ∷ []) r long is = absurd (omega arith)
next_run (a ∷ b ∷ c ∷ d ∷ e ∷ f ∷ rest) r long is = ap (λ (x : NameRun). x ∷ runs_in rest) (sym is)

-- fewer octets are none
pub no_run : (b : List ℕ) → length b < 6 → runs_in b ≡ []
unfolding runs_in
no_run [] h = refl
no_run (a ∷ []) h = refl
no_run (a ∷ b ∷ []) h = refl
no_run (a ∷ b ∷ c ∷ []) h = refl
no_run (a ∷ b ∷ c ∷ d ∷ []) h = refl
no_run (a ∷ b ∷ c ∷ d ∷ e ∷ []) h = refl
no_run (a ∷ b ∷ c ∷ d ∷ e ∷ f ∷ rest) h = absurd (omega arith)

-- ---- runs that ascend

and_again : (a b t : Bool) → (a && (b && t)) ≡ ((a && b) && t)
and_again true b t = refl
and_again false b t = refl

-- runs ascend where the first goes on, and the others do behind it
pub ascend_step : (p : Option NameRun) (b : List ℕ) (r : NameRun) (rest : List ℕ) (t : Bool)
    → runs_in b ≡ r ∷ runs_in rest
    → (has_name r && stands p r) ≡ t
    → ascend_behind p (runs_in b) ≡ (t && ascend_behind (Some r) (runs_in rest))
unfolding ascend_behind
ascend_step p b r rest t is goes =
    ap (ascend_behind p) is
    ∙ and_again (has_name r) (stands p r) (ascend_behind (Some r) (runs_in rest))
    ∙ ap (λ (x : Bool). x && ascend_behind (Some r) (runs_in rest)) goes

-- where none is left, they do
pub ascend_end : (p : Option NameRun) (b : List ℕ) → runs_in b ≡ [] → ascend_behind p (runs_in b)
    ≡ true
unfolding ascend_behind
ascend_end p b none = ap (ascend_behind p) none

-- ---- runs of names that are closed

-- the names of one run are closed, and then those of the others
pub shut_step : (m n : Marks) (b : List ℕ) (r : NameRun) (rest : List ℕ)
    → runs_in b ≡ r ∷ runs_in rest
    → n ≡ shut_names m (names_of r)
    → shut_names n (names_in (runs_in rest)) ≡ shut_names m (names_in (runs_in b))
unfolding names_in
shut_step m n b r rest is shut =
    ap (λ (x : Marks). shut_names x (names_in (runs_in rest))) shut
    ∙ sym (shut_names-append m (names_of r) (names_in (runs_in rest)))
    ∙ ap (λ (rs : List NameRun). shut_names m (names_in rs)) (sym is)

-- where none is left, all are closed
pub shut_end : (m : Marks) (b : List ℕ) → runs_in b ≡ [] → m ≡ shut_names m (names_in (runs_in b))
unfolding names_in shut_names
shut_end m b none = ap (λ (rs : List NameRun). shut_names m (names_in rs)) (sym none)

-- Octets that are made of packets of one kind, one behind the other.
use Rattle.std.proofs.Common.{◌≡◌, ◌∙◌, ap, sym, refl, ℕ, zero, suc, ◌+◌, ◌==◌, Bool, true, false, if◌then◌else◌, List, [], ◌∷◌, ◌++◌, length, map, replicate, append-nil, arith}
use Rattle.std.specs.List.{concat, AllByRecursion}
use Rattle.std.proofs.lemmas.List.{length-append, map-append}
use Rattle.std.proofs.lemmas.List.Concat.{flat_map-append}
use Rattle.lpt_stream.specs.Streams.{all_octets}
use Rattle.lpt_lossy.specs.declared.fate.Fate.{Fate}
use Rattle.lpt_lossy.specs.Bursts.{with_burst}
use Rattle.lpt_lossy.specs.TurnsInside.{behind_turn, carried_now, carried_turns, first_octets, handed_now, handed_turns, next_octets, octets_repeated, passed_octets}
use Rattle.lpt_lossy.proofs.PartLemmas.{length-handed}

-- ---- lists

all-append : (P : List ℕ → Type 0) (ps qs : List (List ℕ))
    → AllByRecursion P ps
    → AllByRecursion P qs
    → AllByRecursion P (ps ++ qs)
all-append P [] qs p q = q
all-append P (b ∷ ps) qs p q = (p.0, all-append P ps qs p.1 q)

pub all-more : (P : List ℕ → Type 0) (ps : List (List ℕ)) (b : List ℕ)
    → AllByRecursion P ps
    → P b
    → AllByRecursion P (ps ++ b ∷ [])
all-more P ps b all one = all-append P ps (b ∷ []) all (one, tt)

all-weaker : (P Q : List ℕ → Type 0) (ps : List (List ℕ))
    → ((b : List ℕ) → P b → Q b)
    → AllByRecursion P ps
    → AllByRecursion Q ps
all-weaker P Q [] f all = tt
all-weaker P Q (b ∷ ps) f all = (f b all.0, all-weaker P Q ps f all.1)

-- ---- octets

-- the octets of such packets
abbrev pub Made : (List ℕ → Type 0) → List ℕ → Type 0
Made P o = (ps : List (List ℕ)) × AllByRecursion P ps × (o ≡ all_octets ps)

pub made-none : (P : List ℕ → Type 0) → Made P []
made-none P = ([], tt, refl)

made-one : (P : List ℕ → Type 0) (b : List ℕ) → P b → Made P b
made-one P b p = (b ∷ [], (p, tt), sym (append-nil b))

pub made-append : (P : List ℕ → Type 0) (a b : List ℕ) → Made P a → Made P b → Made P (a ++ b)
made-append P a b m n = (
  m.0 ++ n.0,
  all-append P m.0 n.0 m.1 n.1,
  ap (λ (o : List ℕ). o ++ b) m.2 ∙ ap (λ (o : List ℕ). all_octets m.0 ++ o) n.2
      ∙ sym (flat_map-append (λ (b : List ℕ). b) m.0 n.0),
)

pub made-weaker : (P Q : List ℕ → Type 0) (o : List ℕ)
    → ((b : List ℕ) → P b → Q b)
    → Made P o
    → Made Q o
made-weaker P Q o f m = (m.0, all-weaker P Q m.0 f m.1, m.2)

made-repeated : (P : List ℕ → Type 0) (twice : Bool) (b : List ℕ) → P b
    → Made P (octets_repeated twice b)
made-repeated P true b p = made-append P b b (made-one P b p) (made-one P b p)
made-repeated P false b p = made-one P b p

made-if : (P : List ℕ → Type 0) (c : Bool) (a b : List ℕ) → Made P a → Made P b
    → Made P (if c then a else b)
made-if P true a b m n = m
made-if P false a b m n = n

made-passed : (P : List ℕ → Type 0) (w : Fate) (b : List ℕ) → P b → Made P (passed_octets w b)
made-passed P w b p =
    made-if P w.is_lost [] (octets_repeated w.is_twice b) (made-none P)
    (made-repeated P w.is_twice b p)

-- ---- turns

abbrev pub AllMade : (List ℕ → Type 0) → List (List ℕ) → Type 0
AllMade P os = AllByRecursion (Made P) os

pub all_made-weaker : (P Q : List ℕ → Type 0) (os : List (List ℕ))
    → ((b : List ℕ) → P b → Q b)
    → AllMade P os
    → AllMade Q os
all_made-weaker P Q os f all = all-weaker (Made P) (Made Q) os (λ o m. made-weaker P Q o f m) all

pub all_made-none : (P : List ℕ → Type 0) (n : ℕ) → AllMade P (replicate n [])
all_made-none P zero = tt
all_made-none P (suc n) = (made-none P, all_made-none P n)

pub made-concat : (P : List ℕ → Type 0) (os : List (List ℕ)) → AllMade P os → Made P (concat os)
made-concat P [] all = made-none P
made-concat P (o ∷ os) all = made-append P o (concat os) all.0 (made-concat P os all.1)

made-first : (P : List ℕ → Type 0) (os : List (List ℕ)) → AllMade P os → Made P (first_octets os)
made-first P [] all = made-none P
made-first P (o ∷ os) all = all.0

made-next : (P : List ℕ → Type 0) (os : List (List ℕ)) → AllMade P os → AllMade P (next_octets os)
made-next P [] all = tt
made-next P (o ∷ os) all = all-more (Made P) os [] all.1 (made-none P)

made-behind : (P : List ℕ → Type 0) (k : ℕ) (b : List ℕ) (os : List (List ℕ))
    → Made P b
    → AllMade P os
    → AllMade P (behind_turn k b os)
made-behind P zero b [] m all = tt
made-behind P (suc k) b [] m all = tt
made-behind P zero b (o ∷ os) m all = (made-append P o b all.0 m, all.1)
made-behind P (suc k) b (o ∷ os) m all = (all.0, made-behind P k b os m all.1)

made-if_behind : (P : List ℕ → Type 0) (now : Bool) (k : ℕ) (b : List ℕ) (os : List (List ℕ))
    → Made P b
    → AllMade P os
    → AllMade P (if now then os else behind_turn k b os)
made-if_behind P true k b os m all = all
made-if_behind P false k b os m all = made-behind P k b os m all

made-handed : (P : List ℕ → Type 0) (w : Fate) (b : List ℕ) (os : List (List ℕ))
    → P b
    → AllMade P os
    → AllMade P (handed_turns w b os)
made-handed P w b os p all =
    made-if_behind P (w.later == 0) w.later (passed_octets w b) os (made-passed P w b p) all

-- what is written with a packet
pub made-now : (P : List ℕ → Type 0) (w : Fate) (b : List ℕ) (os : List (List ℕ))
    → P (with_burst w.burst b)
    → AllMade P os
    → Made P (carried_now w b os)
made-now P w b os p all =
    let q = with_burst w.burst b in
    made-append P (handed_now w q) (first_octets (handed_turns w q os))
    (made-if P (w.later == 0) (passed_octets w q) [] (made-passed P w q p) (made-none P))
    (made-first P (handed_turns w q os) (made-handed P w q os p all))

-- and what is held then
pub made-then : (P : List ℕ → Type 0) (w : Fate) (b : List ℕ) (os : List (List ℕ))
    → P (with_burst w.burst b)
    → AllMade P os
    → AllMade P (carried_turns w b os)
made-then P w b os p all =
    let q = with_burst w.burst b in
    made-next P (handed_turns w q os) (made-handed P w q os p all)

-- ---- how many turns there are

length-next : (os : List (List ℕ)) → length (next_octets os) ≡ length os
length-next [] = refl
length-next (o ∷ os) = omega (arith, length-append {A = List ℕ} os ([] ∷ []))

pub length-carried : (w : Fate) (b : List ℕ) (os : List (List ℕ))
    → length (carried_turns w b os) ≡ length os
length-carried w b os =
    let q = with_burst w.burst b in
    length-next (handed_turns w q os) ∙ length-handed w q os

-- so many turns of nothing
abbrev nothings : ℕ → List (List ℕ)
nothings n = replicate n []

nothing-behind : (n : ℕ) → nothings n ++ [] ∷ [] ≡ [] ∷ nothings n
nothing-behind zero = refl
nothing-behind (suc n) = ap (λ (os : List (List ℕ)). [] ∷ os) (nothing-behind n)

nothing-more : (n : ℕ) → nothings n ++ [] ∷ [] ≡ nothings (n + 1)
nothing-more n =
    let one : suc n ≡ n + 1 = omega arith in
    nothing-behind n ∙ ap nothings one

-- an empty turn more
pub turn-more : {V : Type 0} (items : V → List ℕ) (vs ws : List V) (v : V) (k : ℕ)
    → map items vs ≡ nothings (k + 1)
    → ws ≡ vs ++ v ∷ []
    → items v ≡ []
    → map items ws ≡ nothings (k + 1 + 1)
turn-more items vs ws v k were e none =
    ap (map items) e
    ∙ map-append items vs (v ∷ [])
    ∙ ap (λ (os : List (List ℕ)). os ++ items v ∷ []) were
    ∙ ap (λ (o : List ℕ). nothings (k + 1) ++ o ∷ []) none
    ∙ nothing-more (k + 1)

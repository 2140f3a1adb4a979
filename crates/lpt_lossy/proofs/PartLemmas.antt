-- Front parts of what is written, and what is held.
use Rattle.std.proofs.Common.{◌≡◌, ◌∙◌, ap, sym, refl, subst, ℕ, zero, suc, ◌+◌, ◌<◌, ◌==◌, Bool, true, false, if◌then◌else◌, List, [], ◌∷◌, ◌++◌, length, map, take, drop, get_or, set, Option, append-nil, append_assoc, arith}
use Rattle.std.specs.List.{concat}
use Rattle.std.specs.Io.KnownBytes.{Appends}
use Rattle.std.proofs.KnownBytes.{Appends-trans}
use Rattle.lpt_text.specs.Streams.{AppendsPart}
use Rattle.lpt_text.proofs.StreamLemmas.{part_after, part_of_front}
use Rattle.lpt_lossy.specs.declared.fate.Fate.{Fate}
use Rattle.lpt_lossy.specs.TurnsInside.{behind_turn, handed_turns, passed_octets, octets_repeated}

-- a front part of octets is one of them once or twice
pub part-repeated : (twice : Bool) (a b : Option (List ℕ)) (o : List ℕ)
    → AppendsPart a b o
    → AppendsPart a b (octets_repeated twice o)
part-repeated true a b o part = part_of_front a b o o part
part-repeated false a b o part = part

-- ---- turns

length-behind : (k : ℕ) (b : List ℕ) (os : List (List ℕ)) → length (behind_turn k b os) ≡ length os
length-behind zero b [] = refl
length-behind (suc k) b [] = refl
length-behind zero b (o ∷ os) = refl
length-behind (suc k) b (o ∷ os) = omega (arith, length-behind k b os)

length-if_behind : (now : Bool) (k : ℕ) (b : List ℕ) (os : List (List ℕ))
    → length (if now then os else behind_turn k b os) ≡ length os
length-if_behind true k b os = refl
length-if_behind false k b os = length-behind k b os

-- as many turns are left
pub length-handed : (w : Fate) (b : List ℕ) (os : List (List ℕ)) → length (handed_turns w b os)
    ≡ length os
length-handed w b os = length-if_behind (w.later == 0) w.later (passed_octets w b) os

-- octets are held behind those of a turn
pub held-set : {V : Type 0} (items : V → List ℕ) (vs : List V) (i : ℕ) (v d : V) (b : List ℕ)
    → i < length vs
    → items v ≡ items (get_or vs i d) ++ b
    → map items (set vs i v) ≡ behind_turn i b (map items vs)
held-set items [] i v d b h e = absurd (omega arith)
held-set items (x ∷ vs) zero v d b h e = ap (λ (o : List ℕ). o ∷ map items vs) e
held-set items (x ∷ vs) (suc i) v d b h e =
    ap (λ (os : List (List ℕ)). items x ∷ os) (held-set items vs i v d b (omega arith) e)

-- the octets of all turns, those up to one, and the others
pub concat-at : {V : Type 0} (items : V → List ℕ) (vs : List V) (i : ℕ) (d : V)
    → i < length vs
    → concat (map items vs)
    ≡ (concat (map items (take i vs)) ++ items (get_or vs i d)) ++ concat
    (map items (drop (suc i) vs))
concat-at items [] i d h = absurd (omega arith)
concat-at items (x ∷ vs) zero d h = refl
concat-at items (x ∷ vs) (suc i) d h =
    let front = concat (map items (take i vs)) in
    let turn = items (get_or vs i d) in
    let back = concat (map items (drop (suc i) vs)) in
    ap (λ (o : List ℕ). items x ++ o) (concat-at items vs i d (omega arith))
    ∙ sym (append_assoc (items x) (front ++ turn) back)
    ∙ ap (λ (o : List ℕ). o ++ back) (sym (append_assoc (items x) front turn))

-- ---- turn after turn

take-next : {V : Type 0} (items : V → List ℕ) (vs : List V) (i : ℕ) (v : V)
    → i < length vs
    → v ≡ get_or vs i v
    → concat (map items (take (suc i) vs)) ≡ concat (map items (take i vs)) ++ items v
take-next items [] i v h e = absurd (omega arith)
take-next items (x ∷ vs) zero v h e = append-nil (items x) ∙ ap items (sym e)
take-next items (x ∷ vs) (suc i) v h e =
    ap (λ (o : List ℕ). items x ++ o) (take-next items vs i v (omega arith) e)
    ∙ sym (append_assoc (items x) (concat (map items (take i vs))) (items v))

-- a turn was written
pub turn-all : {V : Type 0} (items : V → List ℕ) (xs vs : List V) (i : ℕ) (v : V) (o : List ℕ)
    (before mid after : Option (List ℕ))
    → xs ≡ vs
    → i < length xs
    → v ≡ get_or xs i v
    → o ≡ items v
    → Appends before mid (concat (map items (take i vs)))
    → Appends mid after o
    → Appends before after (concat (map items (take (i + 1) vs)))
turn-all items xs vs i v o before mid after same h e oe front last =
    let one : suc i ≡ i + 1 = omega arith in
    let within : i < length vs = subst (λ ys. i < length ys) same h in
    let is = e ∙ ap (λ ys. get_or ys i v) same in
    subst (Appends before after)
    (ap (λ (q : List ℕ). concat (map items (take i vs)) ++ q) oe
    ∙ sym (take-next items vs i v within is)
    ∙ ap (λ (k : ℕ). concat (map items (take k vs))) one)
    (Appends-trans before mid after _ _ front last)

-- a turn was written in part
pub turn-part : {V : Type 0} (items : V → List ℕ) (xs vs : List V) (i : ℕ) (v : V) (o : List ℕ)
    (before mid after : Option (List ℕ))
    → xs ≡ vs
    → i < length xs
    → v ≡ get_or xs i v
    → o ≡ items v
    → Appends before mid (concat (map items (take i vs)))
    → AppendsPart mid after o
    → AppendsPart before after (concat (map items vs))
turn-part items xs vs i v o before mid after same h e oe front part =
    let within : i < length vs = subst (λ ys. i < length ys) same h in
    let is = e ∙ ap (λ ys. get_or ys i v) same in
    let back = concat (map items (drop (suc i) vs)) in
    subst (AppendsPart before after)
    (ap (λ (q : List ℕ). (concat (map items (take i vs)) ++ q) ++ back) (oe ∙ ap items is)
    ∙ sym (concat-at items vs i v within))
    (part_of_front before after _ back (part_after before mid after _ o front part))

-- Octets that are kept of a spacecraft say its state and its memories, and nothing else says them.
use Rattle.std.proofs.Common.{◌≡◌, ◌∙◌, ap, sym, refl, subst, inl, inr, ℕ, zero, suc, ◌+◌, ◌<◌, ◌≤◌, ◌^◌, List, [], ◌∷◌, ◌++◌, length, take, drop, Option, Some, None, append_assoc, append-nil, length-append, arith, Result, Ok}
use Rattle.std.specs.Prelude.{⊤}
use Rattle.std.proofs.lemmas.Bool.Decides.{eqb_tells}
use Rattle.std.proofs.Math.Seq.{drop-append_seam, take-append_seam}
use Rattle.lpt_memory.specs.Memories.{content_of, Contents}
use Rattle.lpt_packet.specs.Checksums.{checksum}
use Rattle.lpt_packet.specs.Numbers.{be}
use Rattle.lpt_spacecraft.specs.Keeping.{kept_head, kept_memories, kept_memory, kept_octets, HasLength, HaveLengths, KeptIsRead}
use Rattle.lpt_node.specs.Nodes.{NodeView}
use Rattle.lpt_state.proofs.LawLemmas.{written_is_read}
use Rattle.lpt_state.proofs.NumberLemmas.{great_back}
use Rattle.lpt_state.specs.Lastings.{restarted_node}
use Rattle.lpt_state.specs.Spellings.{state_spelled}
use Rattle.lpt_state.specs.Verdicts.{great_at, reading}
use Rattle.lpt_state.specs.declared.fault.StateFault.{StateFault}

-- ---- lists that are the same

-- lists of one length that are followed by others
same_front : (x y a b : List ℕ) → length x ≡ length y → x ++ a ≡ y ++ b → x ≡ y
same_front x y a b long same =
    sym (take-append_seam x a) ∙ (λ i. take (long i) (same i)) ∙ take-append_seam y b

same_back : (x y a b : List ℕ) → length x ≡ length y → x ++ a ≡ y ++ b → a ≡ b
same_back x y a b long same =
    sym (drop-append_seam x a) ∙ (λ i. drop (long i) (same i)) ∙ drop-append_seam y b

-- numbers of 64 bits with one spelling
same_number : (n m : ℕ) → n < 2 ^ 64 → m < 2 ^ 64 → be n 8 ≡ be m 8 → n ≡ m
same_number n m a b same =
    sym (great_back n a) ∙ ap (λ (x : List ℕ). great_at x 0) same ∙ great_back m b

-- ---- the memories of n identifiers from one on

from : (n k : ℕ) → Contents → List ℕ
from zero k ms = []
from (suc n) k ms = kept_memory k (content_of k ms) ++ from n (suc k) ms

first_from : (n k : ℕ) (ms : Contents)
    → kept_memories k ms ++ from n k ms ≡ kept_memories (n + k) ms
unfolding from kept_memories
first_from zero k ms =
    let same : k ≡ 0 + k = omega arith in
    append-nil (kept_memories k ms) ∙ ap (λ (j : ℕ). kept_memories j ms) same
first_from (suc n) k ms =
    let more : n + suc k ≡ suc n + k = omega arith in
    sym (append_assoc (kept_memories k ms) (kept_memory k (content_of k ms)) (from n (suc k) ms))
    ∙ first_from n (suc k) ms
    ∙ ap (λ (j : ℕ). kept_memories j ms) more

-- octets begin with an identifier above this, where there are some
Above : ℕ → List ℕ → Type 0
Above k [] = ⊤
Above k (x ∷ xs) = k < x

above_by : (k id : ℕ) (o : Option (List ℕ)) (rest : List ℕ) → k < id → Above k rest
    → Above k (kept_memory id o ++ rest)
unfolding Above
above_by k id None rest less above = above
above_by k id (Some m) rest less above = less

above : (k n id : ℕ) (ms : Contents) → k < id → Above k (from n id ms)
unfolding Above from
above k zero id ms less = tt
above k (suc n) id ms less =
    above_by k id (content_of id ms) (from n (suc id) ms) less
    (above k n (suc id) ms (omega (arith, less)))

-- one memory, and the octets behind it
one : (k : ℕ) (o p : Option (List ℕ)) (x y : List ℕ)
    → HasLength o
    → HasLength p
    → Above k x
    → Above k y
    → kept_memory k o ++ x ≡ kept_memory k p ++ y
    → (o ≡ p) × (x ≡ y)
unfolding Above
one k None None x y f g a b same = (refl, same)
one k (Some m) None x y f g a b same =
    let less : k < k = subst (Above k) (sym same) b in absurd (omega (arith, less))
one k None (Some m) x y f g a b same =
    let less : k < k = subst (Above k) same a in absurd (omega (arith, less))
one k (Some m) (Some n) x y f g a b same =
    let long : length m ≡ length n =
    same_number (length m) (length n) f g (ap (λ (z : List ℕ). take 8 (drop 1 z)) same) in
    let rest : m ++ x ≡ n ++ y = ap (λ (z : List ℕ). drop 9 z) same in (
      ap (λ (z : List ℕ). Some z) (same_front m n x y long rest),
      same_back m n x y long rest,
    )

-- the lengths of the memories of these identifiers
abbrev Long : (n k : ℕ) → Contents → Type 0
Long n k ms = (id : ℕ) → k ≤ id → id < n + k → HasLength (content_of id ms)

same_from : (n k : ℕ) (ms ns : Contents)
    → Long n k ms
    → Long n k ns
    → from n k ms ≡ from n k ns
    → (id : ℕ)
    → k ≤ id
    → id < n + k
    → content_of id ms ≡ content_of id ns
unfolding from
same_from zero k ms ns f g same id least most = absurd (omega (arith, least, most))
same_from (suc n) k ms ns f g same id least most =
    let both = one k (content_of k ms) (content_of k ns) (from n (suc k) ms) (from n (suc k) ns)
    (f k (omega arith) (omega arith)) (g k (omega arith) (omega arith))
    (above k n (suc k) ms (omega arith)) (above k n (suc k) ns (omega arith)) same in
    elim (eqb_tells id k) [
      | inl t ↦
          ap (λ (j : ℕ). content_of j ms) t.1 ∙ both.0 ∙ ap (λ (j : ℕ). content_of j ns) (sym t.1)
      | inr t ↦
          same_from n (suc k) ms ns
          (λ j from_here to. f j (omega (arith, from_here)) (omega (arith, to)))
          (λ j from_here to. g j (omega (arith, from_here)) (omega (arith, to))) both.1 id
          (omega (arith, least, t.1)) (omega (arith, most))
    ]

start : (n : ℕ) (ms : Contents) → from n 0 ms ≡ kept_memories n ms
unfolding kept_memories
start n ms =
    let same : n + 0 ≡ n = omega arith in
    first_from n 0 ms ∙ ap (λ (j : ℕ). kept_memories j ms) same

same_memories : (n : ℕ) (ms ns : Contents)
    → ((id : ℕ) → id < n → HasLength (content_of id ms))
    → ((id : ℕ) → id < n → HasLength (content_of id ns))
    → kept_memories n ms ≡ kept_memories n ns
    → (id : ℕ)
    → id < n
    → content_of id ms ≡ content_of id ns
same_memories n ms ns f g same id most =
    same_from n 0 ms ns (λ j least to. f j (omega (arith, to)))
    (λ j least to. g j (omega (arith, to))) (start n ms ∙ same ∙ sym (start n ns)) id
    (omega arith) (omega (arith, most))

-- ---- all of it

-- what stands behind the head
abbrev body : List ℕ → Contents → List ℕ
body state ms = state ++ kept_memories 256 ms

pub record IsSame (a b : List ℕ) (ms ns : Contents) : Type 0 where
  pub state : a ≡ b
  pub memories : (id : ℕ) → id < 256 → content_of id ms ≡ content_of id ns

pub one_kept : (a b : List ℕ) (ms ns : Contents)
    → HaveLengths a ms
    → HaveLengths b ns
    → kept_octets a ms ≡ kept_octets b ns
    → IsSame a b ms ns
unfolding kept_head kept_octets
one_kept a b ms ns f g same =
    let x : List ℕ = kept_head (length a) ++ body a ms in
    let y : List ℕ = kept_head (length b) ++ body b ns in
    let all : length (x ++ be (checksum x) 2) ≡ length (y ++ be (checksum y) 2) = ap length same in
    let long : length x ≡ length y =
    omega (
      arith,
      all,
      length-append x (be (checksum x) 2),
      length-append y (be (checksum y) 2),
    ) in
    let unsealed : x ≡ y = same_front x y (be (checksum x) 2) (be (checksum y) 2) long same in
    let number : length a ≡ length b =
    same_number (length a) (length b) f.state g.state
    (ap (λ (z : List ℕ). take 8 (drop 5 z)) unsealed) in
    let bodies : body a ms ≡ body b ns = ap (λ (z : List ℕ). drop 13 z) unsealed in
    record {
      state = same_front a b (kept_memories 256 ms) (kept_memories 256 ns) number bodies;
      memories = same_memories 256 ms ns f.memories g.memories
          (same_back a b (kept_memories 256 ms) (kept_memories 256 ns) number bodies);
    }

-- ---- what is read back

ok_same : (v w : NodeView) → ◌≡◌ {A = Result NodeView StateFault} (Ok v) (Ok w) → v ≡ w
ok_same v w h = cc

pub kept_is_read : KeptIsRead
kept_is_read s t kept left config read =
    let same : IsSame (state_spelled s.node) read.state s.memories t.memories =
    one_kept (state_spelled s.node) read.state s.memories t.memories kept.lengths read.lengths
    read.kept
    in
    record {
      node = ok_same t.node (restarted_node s.node)
          (sym read.node
          ∙ (λ i. reading (sym s.same_side i) ((config ∙ sym s.same_config) i) (sym same.state i))
          ∙ written_is_read s.node kept.is_end left);
      memories = λ id within. sym (same.memories id within);
    }

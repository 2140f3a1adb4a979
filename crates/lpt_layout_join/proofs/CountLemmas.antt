-- How many counts are missing in packets, as they are counted.
use Rattle.std.proofs.Common.{◌≡◌, ◌∙◌, ap, refl, ℕ, ◌+◌, ◌≤◌, ◌<◌, true, List, [], ◌∷◌, ◌++◌, arith}
use Rattle.std.specs.Prelude.{Option, Some, None}
use Rattle.lpt_packet.proofs.BoolLemmas.{true_lt}
use Rattle.lpt_stream.specs.Pieces.{up_to_limit}
use Rattle.lpt_carried.specs.declared.reading.Reading.{Reading}
use Rattle.lpt_layout_join.specs.Counts.{Counted, Latest, all_counted, count_of, packet_counted, counted_by, gap_by, latest, latest_by, missing_from, missing_in, nothing_counted}
use Rattle.lpt_layout_join.specs.Orders.{are_few}

pub counted-more : (r : Reading) (k : Counted) (bs : List (List ℕ)) (b : List ℕ)
    → all_counted r k (bs ++ b ∷ []) ≡ packet_counted r (all_counted r k bs) b
counted-more r k [] b = refl
counted-more r k (x ∷ bs) b = counted-more r (packet_counted r k x) bs b

same-limit : (n : ℕ) → n ≤ 18446744073709551615 → n ≡ up_to_limit (n + 0)
same-limit n h = omega (arith, h)

step-missing : (k : Counted) (o : Option ℕ) (b : List ℕ)
    → k.missing ≤ 18446744073709551615
    → (counted_by k o b).missing ≡ up_to_limit (k.missing + gap_by k.latest o b)
step-missing k None b small = same-limit k.missing small
step-missing k (Some n) b small = refl

step-latest : (k : Counted) (o : Option ℕ) (b : List ℕ)
    → (counted_by k o b).latest ≡ latest_by k.latest o b
step-latest k None b = refl
step-latest k (Some n) b = refl

limits : (m g x now : ℕ)
    → now ≡ up_to_limit (m + g)
    → up_to_limit (now + x) ≡ up_to_limit (m + (g + x))
limits m g x now h = omega (arith, h)

small-limit : (n now : ℕ) → now ≡ up_to_limit n → now ≤ 18446744073709551615
small-limit n now h = omega (arith, h)

missing-from : (r : Reading) (k : Counted) (bs : List (List ℕ))
    → k.missing ≤ 18446744073709551615
    → (all_counted r k bs).missing ≡ up_to_limit (k.missing + missing_from r k.latest bs)
missing-from r k [] small = same-limit k.missing small
missing-from r k (b ∷ bs) small =
    let o = count_of r b in
    let now = step-missing k o b small in
    missing-from r (packet_counted r k b) bs (small-limit _ _ now)
    ∙ ap (λ (l : Latest). up_to_limit ((packet_counted r k b).missing + missing_from r l bs))
    (step-latest k o b)
    ∙ limits k.missing (gap_by k.latest o b) (missing_from r (latest r k.latest b) bs)
    (packet_counted r k b).missing now

-- all that are missing are counted, up to the limit
pub missing-is : (r : Reading) (bs : List (List ℕ))
    → (all_counted r nothing_counted bs).missing ≡ up_to_limit (missing_in r bs)
missing-is r bs =
    let all = missing-from r nothing_counted bs (omega arith) in
    all ∙ same (missing_in r bs) where
      same : (n : ℕ) → up_to_limit (0 + n) ≡ up_to_limit n
      same n = omega arith

-- few of them are missing between two places
pub few-are : (k t u before now : ℕ)
    → before ≡ up_to_limit t
    → now ≡ up_to_limit u
    → are_few k before now ≡ true
    → u < t + k
few-are k t u before now first then few =
    let below = true_lt now (up_to_limit (before + k)) few in
    omega (arith, below, first, then)

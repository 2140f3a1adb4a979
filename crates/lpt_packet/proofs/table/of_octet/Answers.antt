-- The tables' values are computed from the definition of the register.
use Rattle.std.proofs.Common.{◌≡◌, ◌∙◌, ap, refl, ℕ, zero, suc, ◌<◌, List, [], ◌∷◌, length, get_or, map, replicate, arith}
use Rattle.std.specs.List.{range_with_len}
use Rattle.std.proofs.lemmas.List.{get_or-map, length-map}
use Rattle.std.proofs.lemmas.List.FromFn.{get_or-map-range_with_len}
use Rattle.lpt_packet.specs.Checksums.{bits, shift_all, octets_in}
use Rattle.lpt_packet.specs.declared.table.TheConstants.{TABLES}
use Rattle.lpt_packet.proofs.table.of_octet.Goals as goal

-- a register of zeros after an octet
abbrev after : ℕ → ℕ
after octet = shift_all 0 (bits octet)

-- the registers in a row after an octet of zeros
abbrev next : List ℕ → List ℕ
next row = map (λ r. shift_all r (bits 0)) row

-- so many rows, each but the first made of the one before it
abbrev rows : ℕ → List ℕ → List (List ℕ)
rows zero row = []
rows (suc n) row = row ∷ rows n (next row)

-- all 2,048 at once
tables_are : TABLES ≡ rows 8 (map after (range_with_len 0 256))
unfolding shift_all
tables_are = refl

-- in the row k stands what k octets of zeros make of the first row
row_is : (n k octet : ℕ) (row : List ℕ)
    → k < n
    → octet < length row
    → get_or (get_or (rows n row) k []) octet 0 ≡ octets_in (get_or row octet 0) (replicate k 0)
unfolding octets_in
row_is zero k octet row h l = absurd (omega arith)
row_is (suc n) zero octet row h l = refl
row_is (suc n) (suc k) octet row h l =
    row_is n k octet (next row) (omega arith) (rw length-map l)
    ∙ ap (λ (r : ℕ). octets_in r (replicate k 0))
    (get_or-map (λ r. shift_all r (bits 0)) row octet 0 0 l)

value_is : (k octet : ℕ)
    → k < 8
    → octet < 256
    → get_or (get_or TABLES k []) octet 0 ≡ octets_in 0 (octet ∷ replicate k 0)
unfolding octets_in
value_is k octet h l =
    ap (λ (tables : List (List ℕ)). get_or (get_or tables k []) octet 0) tables_are
    ∙ row_is 8 k octet (map after (range_with_len 0 256)) h l
    ∙ ap (λ (r : ℕ). octets_in r (replicate k 0))
    (get_or-map-range_with_len after 0 256 octet octet 0 l (omega arith))

pub returns : goal.returns
returns c = rw c.from.ensures (value_is c.args.behind c.args.octet c.requires c.ranges.octet.fits)

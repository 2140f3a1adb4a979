-- What is held stays so while octets are read behind it, and what is known of it rules out a packet.
use Rattle.std.proofs.Common.{◌≡◌, ◌∙◌, ap, sym, subst, refl, ℕ, ◌+◌, ◌-◌, ◌≤◌, min, Bool, true, false, not, if◌then◌else◌, List, ◌++◌, length, take, drop, arith, append-nil, length-append, length-drop, take_all}
use Rattle.std.proofs.lemmas.List.{drop-take, length-take, length-take-le, take-append-le, take-take}
use Rattle.lpt_packet.specs.Checksums.{checksum}
use Rattle.lpt_stream.specs.Pieces.{lookahead, begins}
use Rattle.lpt_stream.proofs.BufferLemmas.{filled, near_held}

-- ---- octets are read

-- of what was held nothing changes
pub unread : (s e len : ℕ) (items slice buf post more : List ℕ)
    → s ≡ 0
    → slice ≡ items
    → e ≤ length items
    → e ≤ len
    → drop s (take e (take len ((take e slice ++ (buf ++ post)) ++ more)))
    ≡ drop s (take e items)
unread s e len items slice buf post more none same within fits =
    let all : e ≡ e + 0 = omega arith in
    ap (λ (k : ℕ). drop s (take k (take len ((take e slice ++ (buf ++ post)) ++ more)))) all
    ∙ filled s e 0 len items slice buf post more none same within
    (omega arith) (omega (arith, fits))
    ∙ append-nil (drop s (take e items))

-- nor how many octets there are in all
pub refilled : (e m len : ℕ) (items slice buf : List ℕ)
    → slice ≡ items
    → e + m ≤ length items
    → length buf ≡ m
    → len ≡ length items
    → length (take len ((take e slice ++ (buf ++ drop (e + m - e) (drop e slice)))
    ++ drop (length (take e slice ++ (buf ++ drop (e + m - e) (drop e slice)))) items))
    ≡ length items
refilled e m len items slice buf same room size all =
    let post = drop (e + m - e) (drop e slice) in
    let inner = take e slice ++ (buf ++ post) in
    let slices = ap (λ (o : List ℕ). length o) same in
    let one = length-take-le e slice (omega (arith, slices, room)) in
    let two = length-append (take e slice) (buf ++ post) in
    let three = length-append buf post in
    let four = length-drop (e + m - e) (drop e slice) in
    let five = length-drop e slice in
    let six = length-append inner (drop (length inner) items) in
    let seven = length-drop (length inner) items in
    let whole : length inner
    ≡ length items = omega (arith, slices, one, two, three, four, five, size, room) in
    let most : len ≤ length (inner ++ drop (length inner) items) =
    omega (arith, whole, six, seven, all) in
    length-take-le len (inner ++ drop (length inner) items) most ∙ all

-- what there is room for behind it changes nothing of it
pub roomed : (s e n : ℕ) (was now more : List ℕ)
    → e ≤ length was
    → length was ≤ n
    → now ≡ take n was ++ more
    → drop s (take e now) ≡ drop s (take e was)
roomed s e n was now more within all is =
    ap (λ (o : List ℕ). drop s (take e o))
    (is ∙ ap (λ (o : List ℕ). o ++ more) (take_all n was all))
    ∙ ap (λ (o : List ℕ). drop s o) (take-append-le e was more within)

-- and where it isn't made
pub resized : (ok : Bool) (s e n : ℕ) (was more now : List ℕ)
    → now ≡ (if ok then take n was ++ more else was)
    → e ≤ length was
    → length was ≤ n
    → drop s (take e was) ≡ drop s (take e now)
resized true s e n was more now is within all = sym (roomed s e n was now more within all is)
resized false s e n was more now is within all = ap (λ (o : List ℕ). drop s (take e o)) (sym is)

-- ---- no packet

-- what is looked at of what is held, as a part of all octets
pub sliced : (s e : ℕ) (items o : List ℕ)
    → s ≤ e
    → o ≡ items
    → take (e - s) (drop s o) ≡ drop s (take e items)
sliced s e items o h is =
    let all : s + (e - s) ≡ e = omega arith in
    ap (λ (x : List ℕ). take (e - s) (drop s x)) is
    ∙ sym (drop-take s (e - s) items)
    ∙ ap (λ (n : ℕ). drop s (take n items)) all

-- no packet begins there: the checksum of what is announced isn't 0
pub none_shown : (b o : List ℕ) (k n : ℕ) (fits : Bool)
    → o ≡ b
    → k ≡ min lookahead (length o)
    → n ≤ length (take k o)
    → ((checksum (take n (take k o)) ≡ 0 → ⊥) → begins false (take k o) ≡ false)
    → (fits ≡ false → checksum (take n o) ≡ 0 → ⊥)
    → not fits ≡ true
    → begins false (take lookahead b) ≡ false
none_shown b o k n true is size within none other h = absurd cc
none_shown b o k n false is size within none other h =
    let some : n ≤ k = omega (arith, within, length-take k o) in
    subst (λ x. begins false x ≡ false) (near_held b o k is size)
    (none (λ zero. other refl (ap checksum (sym (take-take n k o some)) ∙ zero)))

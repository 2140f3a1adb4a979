-- The areas of the rest are judged with what the areas so far have left.
use Rattle.std.proofs.Common.{◌≡◌, ◌<◌, ◌≤◌, ◌+◌, ◌-◌, ◌⊎◌, ◌∷◌, [], ◌∙◌, nat_lt, true, false, sym, ap, inl, inr, arith}
use Rattle.std.proofs.lemmas.Bool.Decides.{nat_tests}
use Rattle.lpt_script_words.specs.Grammar.{areas_of}
use Rattle.lpt_script_words.specs.Words.{words}
use Rattle.lpt_script_words.proofs.LoadLemmas.{fits-one, fits-no_area, fits-no_room, fits-area, fits-end, fits-told}
use Rattle.lpt_script_words.proofs.load.are_areas.Goals as goal
use Rattle.lpt_script_words.proofs.load.are_areas.Goals.{then-len-eq0-via-then-len-eq0, then-len-eq0-via-else-len-eq0+then-left-eq0, then-len-eq0-via-else-len-eq0+else-left-eq0+then-room-len}

-- an address without octets
pub returns-in_default-split_word : goal.returns-in_default-split_word
returns-in_default-split_word c =
    let l = c.loop-address in
    let rest = words l.rest.now in
    let alone : words c.in-Some.more.now ≡ [] = c.in_default-split_word.ensures.words in
    let is : rest ≡ c.in-Some.address.now ∷ [] =
    c.in-Some.ensures.words ∙ ap (λ ws. c.in-Some.address.now ∷ ws) alone in
    fits-told l.room l.left (nat_lt l.left 255) false (areas_of rest)
    (areas_of (words c.args.line.now)) l.invariant.0
    (fits-one l.room l.left (nat_lt l.left 255) rest c.in-Some.address.now is)

-- words that are no area
pub returns-in_default-area_len : goal.returns-in_default-area_len
returns-in_default-area_len c =
    let l = c.loop-address in
    let rest = words l.rest.now in
    let address = c.in-Some.address.now in
    let octets = c.in-Some-split_word.octets.now in
    let more = words c.in-Some-split_word.more.now in
    let is : rest ≡ address ∷ octets ∷ more =
    c.in-Some.ensures.words ∙ ap (λ ws. address ∷ ws) c.in-Some-split_word.ensures.words in
    fits-told l.room l.left (nat_lt l.left 255) false (areas_of rest)
    (areas_of (words c.args.line.now)) l.invariant.0
    (fits-no_area l.room l.left (nat_lt l.left 255) rest address octets more is
    c.in_default-area_len.ensures.len)

-- an area for which there is no room
pub returns-then-len-eq0 : goal.returns-then-len-eq0
returns-then-len-eq0 c =
    let l = c.loop-address in
    let rest = words l.rest.now in
    let address = c.in-Some.address.now in
    let octets = c.in-Some-split_word.octets.now in
    let more = words c.in-Some-split_word.more.now in
    let is : rest ≡ address ∷ octets ∷ more =
    c.in-Some.ensures.words ∙ ap (λ ws. address ∷ ws) c.in-Some-split_word.ensures.words in
    let n = c.in-Some-area_len.len in
    let over : (n ≡ 0) ⊎ (l.left ≡ 0) ⊎ (l.room < 8 + n) =
    elim c.then-len-eq0.branch [
      | then-len-eq0-via-then-len-eq0 w ↦ inl w.if-len-eq0.true
      | then-len-eq0-via-else-len-eq0+then-left-eq0 w ↦ inr (inl w.if-left-eq0.true)
      | then-len-eq0-via-else-len-eq0+else-left-eq0+then-room-len w ↦ inr (inr w.if-room-len.true)
    ] in
    fits-told l.room l.left (nat_lt l.left 255) false (areas_of rest)
    (areas_of (words c.args.line.now)) l.invariant.0
    (fits-no_room l.room l.left n (nat_lt l.left 255) rest address octets more is
    c.in-Some-area_len.ensures.len over)

-- an area for which there is room
pub loop-address-preserved : goal.loop-address-preserved
loop-address-preserved c =
    let l = c.loop-address in
    let rest = words l.rest.now in
    let address = c.in-Some.address.now in
    let octets = c.in-Some-split_word.octets.now in
    let more = words c.in-Some-split_word.more.now in
    let is : rest ≡ address ∷ octets ∷ more =
    c.in-Some.ensures.words ∙ ap (λ ws. address ∷ ws) c.in-Some-split_word.ensures.words in
    let n = c.in-Some-area_len.len in
    let few : l.left ≤ 255 = l.invariant.1 in
    let last : 0 < l.left = omega arith in
    let some : nat_lt (l.left - 1) 255 ≡ true = grind (arith, nat_tests) in
    let next =
    fits-area l.room l.left n (nat_lt l.left 255) rest address octets more is
    c.in-Some-area_len.ensures.len (omega arith) (omega arith) last in
    (rw some (sym next ∙ l.invariant.0), omega arith)

-- no more words
pub returns : goal.returns
returns c =
    let l = c.loop-address in
    let rest = words l.rest.now in
    fits-told l.room l.left (nat_lt l.left 255) (nat_lt l.left 255) (areas_of rest)
    (areas_of (words c.args.line.now)) l.invariant.0
    (fits-end l.room l.left (nat_lt l.left 255) rest c.in_default.ensures.words)

-- The first free one of the first page that has one is the least free name.
use Rattle.std.proofs.Common.{◌≡◌, ◌∙◌, sym, ap, subst, ℕ, ◌+◌, ◌*◌, ◌%◌, ◌^◌, ◌<◌, ◌≤◌, true, bit_or, is_some, Option, Some, None, arith, w64}
use Rattle.std.proofs.lemmas.Nat.{le_or_l}
use Rattle.std.proofs.lemmas.Nat.Bits.{bit_at_set_other, bit_at_set_same}
use Rattle.lpt_packet.specs.Names.{named_by}
use Rattle.lpt_ledger.specs.LeastFree.{name_count}
use Rattle.lpt_ledger.specs.LedgerInside.{mark_on, page_in}
use Rattle.lpt_ledger.specs.Marks.{Marks}
use Rattle.lpt_ledger.proofs.FirstLemmas.{AreTaken, IsFirst, IsLeastFree-first, first_in_page, least_free_in-first, none_free, tested}
use Rattle.lpt_ledger.proofs.FullLemmas.{told_below, told_first, told_more, word_grows}
use Rattle.lpt_ledger.proofs.ledger.Ledger.least_free.Goals as goal

abbrev Tested : Marks → ℕ → Option ℕ → Type 0
Tested m source o = IsFirst name_count 0 (tested m source) o

-- where the page of a bit begins
begins : (number bit : ℕ) → number * 4096 + bit * 64 ≡ (number * 64 + bit) * 64
begins number bit = omega arith

-- ---- what is passed over is taken

pub loop-bit-init : goal.loop-bit-init
loop-bit-init c =
    told_first c.self.inside.pages.entries c.args.source c.loop-number.number
    c.self.inside.full.entries c.word_of-word.result c.self.invariant.tells
    c.word_of-word.ensures

pub loop-bit-preserved : goal.loop-bit-preserved
loop-bit-preserved c =
    told_more c.self.inside.pages.entries c.args.source c.loop-number.number c.loop-bit.word
    (bit_or c.loop-bit.word (1 * 2 ^ c.in-Some.bit % 2 ^ 64)) c.in-Some.bit
    c.loop-bit.invariant c.in-Some.ensures.within
    (bit_at_set_other w64 c.loop-bit.word c.in-Some.bit c.in-Some.ensures.within)
    c.in_default-first_free.ensures.none

pub loop-bit-smaller : goal.loop-bit-smaller
loop-bit-smaller c =
    let more = bit_or c.loop-bit.word (1 * 2 ^ c.in-Some.bit % 2 ^ 64) in
    let grows : c.loop-bit.word < more =
    word_grows c.loop-bit.word more c.in-Some.bit c.in-Some.ensures.clear
    (bit_at_set_same w64 c.loop-bit.word c.in-Some.bit c.in-Some.ensures.within)
    (le_or_l c.loop-bit.word (1 * 2 ^ c.in-Some.bit % 2 ^ 64))
    in
    omega (arith, grows)

pub loop-number-preserved : goal.loop-number-preserved
loop-number-preserved c = λ i below.
    told_below c.self.inside.pages.entries c.args.source c.loop-number.number c.loop-bit.word 64
    c.loop-number.invariant c.loop-bit.invariant (omega arith) c.in_default.ensures.full
    i (omega (arith, below))

-- ---- a page has one

is_first : (c : goal.In-Some-first_free)
    → Tested c.args.self.now c.args.source
    (Some (c.loop-number.number * 4096 + c.in-Some.bit * 64 + c.in-Some-first_free.place))
is_first c =
    let es = c.self.inside.pages.entries in
    let at = c.loop-number.number * 64 + c.in-Some.bit in
    let within : c.in-Some.bit ≤ 64 = omega (arith, c.in-Some.ensures.within) in
    let begin = begins c.loop-number.number c.in-Some.bit in
    subst (λ (p : ℕ). Tested c.args.self.now c.args.source (Some (p + c.in-Some-first_free.place)))
    (sym begin)
    (subst (λ (m : Marks). Tested m c.args.source (Some (at * 64 + c.in-Some-first_free.place)))
    c.self.view_is
    (first_in_page es c.args.source at
    (told_below es c.args.source c.loop-number.number c.loop-bit.word c.in-Some.bit
    c.loop-number.invariant c.loop-bit.invariant within c.in-Some.ensures.first)
    c.in-Some-first_free.place (omega (arith, c.in-Some.ensures.within))
    c.in-Some-first_free.ensures.within
    (ap (λ (p : ℕ).
    mark_on (page_in es (named_by c.args.source p)) c.in-Some-first_free.place)
    (sym begin) ∙ c.in-Some-first_free.ensures.free)
    (subst (λ (p : ℕ). (k : ℕ) → k < c.in-Some-first_free.place
    → is_some (mark_on (page_in es (named_by c.args.source p)) k) ≡ true)
    begin c.in-Some-first_free.ensures.first)))

pub returns-in-Some-first_free-clause-least : goal.returns-in-Some-first_free-clause-least
returns-in-Some-first_free-clause-least c =
    IsLeastFree-first c.args.self.now c.args.source
    (Some (c.loop-number.number * 4096 + c.in-Some.bit * 64 + c.in-Some-first_free.place))
    (is_first c)

pub returns-in-Some-first_free-clause-value : goal.returns-in-Some-first_free-clause-value
returns-in-Some-first_free-clause-value c =
    least_free_in-first c.args.self.now c.args.source
    (Some (c.loop-number.number * 4096 + c.in-Some.bit * 64 + c.in-Some-first_free.place))
    (is_first c)

-- ---- none has

none_is : (c : goal.After-loop-number) → Tested c.args.self.now c.args.source None
none_is c =
    let taken : AreTaken c.self.inside.pages.entries c.args.source name_count =
    λ i below. c.loop-number.invariant i (omega (arith, below, c.loop-number-test.false)) in
    subst (λ (m : Marks). Tested m c.args.source None) c.self.view_is
    (none_free c.self.inside.pages.entries c.args.source taken)

pub returns-clause-least : goal.returns-clause-least
returns-clause-least c = IsLeastFree-first c.args.self.now c.args.source None (none_is c)

pub returns-clause-value : goal.returns-clause-value
returns-clause-value c = least_free_in-first c.args.self.now c.args.source None (none_is c)

-- What the bits of full pages tell.
use Rattle.std.proofs.Common.{◌≡◌, ◌≢◌, ◌∙◌, refl, sym, ap, rules, ℕ, ◌+◌, ◌*◌, ◌/◌, ◌%◌, ◌<◌, ◌≤◌, Bool, true, false, cond, List, [], Option, Some, None, is_some, unwrap_or, inl, inr, arith}
use Rattle.std.proofs.lemmas.Bool.{cases_lt}
use Rattle.std.proofs.lemmas.Bool.Decides.{eqb_tells}
use Rattle.std.specs.BTreeMap.{is_at}
use Rattle.std.specs.Int.{bit_at}
use Rattle.std.specs.Map.{lookup}
use Rattle.lpt_packet.proofs.KeyLemmas as keys
use Rattle.lpt_packet.proofs.NameLemmas.{name_cmp-IsAntisymmetric, name_cmp_total}
use Rattle.lpt_packet.specs.Names.{Name, name_cmp, named_by}
use Rattle.lpt_ledger.specs.declared.page.Page.{Page}
use Rattle.lpt_ledger.specs.Bits.{bit_for}
use Rattle.lpt_ledger.specs.LedgerInside.{full_bit, mark_at, mark_on, page_first, page_in, page_mark, IsKept, Tells, word_first, word_in}
use Rattle.lpt_ledger.proofs.FirstLemmas.{AreTaken}

-- in 0 no bit is set
no_bit : (b : ℕ) → bit_at 0 b ≡ 0
no_bit b = search rules

-- nor where there is no word
pub none_set : (ws : List (Name × ℕ)) (q : Name)
    → is_some (lookup (is_at (name_cmp (word_first q))) ws) ≡ false
    → full_bit ws q ≡ 0
none_set ws q none = go (lookup (is_at (name_cmp (word_first q))) ws) none where
  go : (o : Option ℕ) → is_some o ≡ false → bit_at (unwrap_or o 0) (q.id / 64 % 64) ≡ 0
  go None h = no_bit (q.id / 64 % 64)
  go (Some w) h = absurd cc

-- a word of 0 says what no word says
pub zero_word : (ws : List (Name × ℕ)) (first q : Name)
    → is_some (lookup (is_at (name_cmp first)) ws) ≡ false
    → cond (is_at (name_cmp first) q) 0 (word_in ws q) ≡ word_in ws q
zero_word ws first q none =
    elim (keys.same_or_not name_cmp_total name_cmp-IsAntisymmetric first q) [
      | inl t ↦
          ap (λ b. cond b 0 (word_in ws q)) t.0
          ∙ sym (go (lookup (is_at (name_cmp first)) ws) none)
          ∙ ap (word_in ws) t.1
      | inr t ↦ ap (λ b. cond b 0 (word_in ws q)) t.0
    ]
  where
    go : (o : Option ℕ) → is_some o ≡ false → unwrap_or o 0 ≡ 0
    go None h = refl
    go (Some w) h = absurd cc

-- the same words tell the same
pub Tells-words : (es : List (Name × Page)) (ws vs : List (Name × ℕ))
    → Tells es ws
    → ((q : Name) → word_in vs q ≡ word_in ws q)
    → Tells es vs
Tells-words es ws vs tells same q one =
    tells q (ap (λ (w : ℕ). bit_at w (q.id / 64 % 64)) (sym (same (word_first q))) ∙ one)

-- ---- one bit is put

-- a page's first name is its own first one
pub first_first : (n : Name) → page_first (page_first n) ≡ page_first n
first_first n =
    let same : n.id / 64 * 64 / 64 * 64 ≡ n.id / 64 * 64 = omega arith in
    ap (λ (i : ℕ). named_by n.source i) same

-- names of one page have one word
pub one_word : (q name : Name) → page_first q ≡ page_first name → word_first name ≡ word_first q
one_word q name same =
    let pages : q.id / 64 * 64 ≡ name.id / 64 * 64 = ap (λ (x : Name). x.id) same in
    let ids : name.id / 4096 * 4096 ≡ q.id / 4096 * 4096 = omega (arith, pages) in
    let sources : name.source ≡ q.source = ap (λ (x : Name). x.source) (sym same) in
    λ i. record { source = sources i; id = ids i }

-- and one bit
one_bit : (q name : Name) → page_first q ≡ page_first name → q.id / 64 % 64 ≡ name.id / 64 % 64
one_bit q name same =
    let pages : q.id / 64 * 64 ≡ name.id / 64 * 64 = ap (λ (x : Name). x.id) same in
    omega (arith, pages)

-- so they have this bit
pub page_bit : (ws : List (Name × ℕ)) (q name : Name)
    → page_first q ≡ page_first name
    → full_bit ws q ≡ bit_at (word_in ws (word_first name)) (name.id / 64 % 64)
page_bit ws q name same =
    ap (λ (x : Name). bit_at (word_in ws x) (q.id / 64 % 64)) (sym (one_word q name same))
    ∙ ap (bit_at (word_in ws (word_first name))) (one_bit q name same)

module _ (ws vs : List (Name × ℕ)) (name : Name) (word : ℕ) (is_full : Bool)
    (bit : bit_at word (name.id / 64 % 64) ≡ bit_for is_full)
    (rest : (i : ℕ) → i < 64 → i ≢ name.id / 64 % 64 → bit_at word i
    ≡ bit_at (word_in ws (word_first name)) i)
    (put : (q : Name) → word_in vs q
    ≡ cond (is_at (name_cmp (word_first name)) q) word (word_in ws q)) where
  -- those of one word and one bit are of one page
  one_page : (q : Name) → word_first name ≡ word_first q → q.id / 64 % 64 ≡ name.id / 64 % 64
      → page_first q ≡ page_first name
  one_page q words bits =
      let firsts : name.id / 4096 * 4096 ≡ q.id / 4096 * 4096 = ap (λ (x : Name). x.id) words in
      let ids : q.id / 64 * 64 ≡ name.id / 64 * 64 = omega (arith, firsts, bits) in
      let sources : q.source ≡ name.source = ap (λ (x : Name). x.source) (sym words) in
      λ i. record { source = sources i; id = ids i }

  was_on : (b : Bool) → bit_for b ≡ 1 → b ≡ true
  was_on true h = refl
  was_on false h = absurd (omega (arith, h))

  -- the bit of the page is set only where it is full
  pub bit-this : (q : Name) → page_first q ≡ page_first name → full_bit vs q ≡ 1 → is_full ≡ true
  bit-this q same one =
      elim (keys.same_or_not name_cmp_total name_cmp-IsAntisymmetric (word_first name)
      (word_first q)) [
        | inl t ↦
            let is : word_in vs (word_first q) ≡ word =
            put (word_first q) ∙ ap (λ b. cond b word (word_in ws (word_first q))) t.0 in
            was_on is_full
            (sym bit ∙ ap (bit_at word) (sym (one_bit q name same))
            ∙ ap (λ (w : ℕ). bit_at w (q.id / 64 % 64)) (sym is) ∙ one)
        | inr t ↦ absurd (t.1 (one_word q name same))
      ]

  -- the bits of the others stay
  pub bit-others : (q : Name) → page_first q ≢ page_first name → full_bit vs q ≡ full_bit ws q
  bit-others q other =
      elim (keys.same_or_not name_cmp_total name_cmp-IsAntisymmetric (word_first name)
      (word_first q)) [
        | inl t ↦
            ap (λ (w : ℕ). bit_at w (q.id / 64 % 64))
            (put (word_first q) ∙ ap (λ b. cond b word (word_in ws (word_first q))) t.0)
            ∙ rest (q.id / 64 % 64) (omega arith) (λ bits. other (one_page q t.1 bits))
            ∙ ap (λ (x : Name). bit_at (word_in ws x) (q.id / 64 % 64)) t.1
        | inr t ↦
            ap (λ (w : ℕ). bit_at w (q.id / 64 % 64))
            (put (word_first q) ∙ ap (λ b. cond b word (word_in ws (word_first q))) t.0)
      ]

-- ---- one page is put, with its bit

-- a page that one name makes full had that one free
pub was_free : (before page : Page) (place : ℕ)
    → ((b : ℕ) → b < 64 → b ≢ place → page_mark page b ≡ page_mark before b)
    → (b : ℕ) × (b < 64) × (page_mark before b ≡ None)
    → ((b : ℕ) → b < 64 → is_some (page_mark page b) ≡ true)
    → page_mark before place ≡ None
was_free before page place others free full = elim (eqb_tells free.0 place) [
  | inl t ↦ ap (page_mark before) (sym t.1) ∙ free.2
  | inr t ↦
      let never : false ≡ true =
      sym (ap is_some (others free.0 free.1 t.1 ∙ free.2)) ∙ full free.0 free.1 in absurd cc
]

module _ (es fs : List (Name × Page)) (ws vs : List (Name
    × ℕ)) (name : Name) (page : Page) (is_full : Bool)
    (tells : Tells es ws)
    (put : (q : Name) (b : ℕ) → mark_on (page_in fs q) b
    ≡ cond (is_at (name_cmp (page_first name)) q) (page_mark page b) (mark_on (page_in es q) b))
    (full : is_full ≡ true → (b : ℕ) → b < 64 → is_some (page_mark page b) ≡ true)
    (this : (q : Name) → page_first q ≡ page_first name → full_bit vs q ≡ 1 → is_full ≡ true)
    (others : (q : Name) → page_first q ≢ page_first name → full_bit vs q ≡ full_bit ws q) where
  pub Tells-put : Tells fs vs
  Tells-put q one =
      ap is_some (put (page_first q) (q.id % 64))
      ∙ elim (keys.same_or_not name_cmp_total name_cmp-IsAntisymmetric (page_first name)
      (page_first q)) [
        | inl t ↦
            ap (λ b. is_some (cond b (page_mark page (q.id % 64)) (mark_at es q))) t.0
            ∙ full (this q (sym t.1) one) (q.id % 64) (omega arith)
        | inr t ↦
            ap (λ b. is_some (cond b (page_mark page (q.id % 64)) (mark_at es q))) t.0
            ∙ tells q (sym (others q (λ same. t.1 (sym same))) ∙ one)
      ]

-- ---- what is passed over is taken

-- the names of this number's word whose pages have their bits set in a word are taken
abbrev pub AreTold : List (Name × Page) → (source number word : ℕ) → Type 0
AreTold es source number word = (i : ℕ) → i / 4096 ≡ number → bit_at word (i / 64 % 64) ≡ 1
    → is_some (mark_at es (named_by source i)) ≡ true

module _ (es : List (Name × Page)) (source number : ℕ) where
  -- what the word of full pages tells
  pub told_first : (ws : List (Name × ℕ)) (word : ℕ)
      → Tells es ws
      → word ≡ word_in ws (named_by source (number * 4096))
      → AreTold es source number word
  told_first ws word tells is i of one =
      let first : i / 4096 * 4096 ≡ number * 4096 = omega (arith, of) in
      tells (named_by source i)
      (ap (λ (n : ℕ). bit_at (word_in ws (named_by source n)) (i / 64 % 64)) first
      ∙ ap (λ (w : ℕ). bit_at w (i / 64 % 64)) (sym is) ∙ one)

  -- and the bit of a page that was found full
  pub told_more : (word more bit : ℕ)
      → AreTold es source number word
      → bit < 64
      → ((i : ℕ) → i ≢ bit → bit_at more i ≡ bit_at word i)
      → ((k : ℕ) → k < 64
      → is_some (mark_on (page_in es (named_by source (number * 4096 + bit * 64))) k) ≡ true)
      → AreTold es source number more
  told_more word more bit told within others taken i of one = elim (eqb_tells (i / 64 % 64) bit) [
    | inl t ↦
        let page : i / 64 * 64 ≡ number * 4096 + bit * 64 = omega (arith, of, t.1) in
        ap (λ (p : ℕ). is_some (mark_on (page_in es (named_by source p)) (i % 64))) page
        ∙ taken (i % 64) (omega arith)
    | inr t ↦ told i of (sym (others (i / 64 % 64) t.1) ∙ one)
  ]

  -- where the lowest bits are set, the names of their pages are taken
  pub told_below : (word bit : ℕ)
      → AreTaken es source (number * 4096)
      → AreTold es source number word
      → bit ≤ 64
      → ((i : ℕ) → i < bit → bit_at word i ≡ 1)
      → AreTaken es source ((number * 64 + bit) * 64)
  told_below word bit before told within ones i below = elim (cases_lt i (number * 4096)) [
    | inl low ↦ before i low
    | inr high ↦
        let of : i / 4096 ≡ number = omega (arith, below, high, within) in
        told i of (ones (i / 64 % 64) (omega (arith, below, high, within)))
  ]

-- a word grows by a bit that was clear
pub word_grows : (word more bit : ℕ)
    → bit_at word bit ≡ 0
    → bit_at more bit ≡ 1
    → word ≤ more
    → word < more
word_grows word more bit clear set least =
    elim (eqb_tells word more) [
      | inl t ↦
          let same : bit_at word bit ≡ bit_at more bit = ap (λ (w : ℕ). bit_at w bit) t.1 in
          absurd (omega (arith, clear, set, same))
      | inr t ↦ apart t.1 least
    ]
  where
    apart : word ≢ more → word ≤ more → word < more
    apart other h = omega (arith, other, h)

-- no pages and no words are as they are to be
pub IsKept-none : (es : List (Name × Page)) (ws : List (Name × ℕ)) → es ≡ [] → ws ≡ []
    → IsKept es ws
IsKept-none es ws no_pages no_words = record {
  tells = λ q one.
      let clear : full_bit ws q ≡ 0 =
      none_set ws q
      (ap (λ (x : List (Name × ℕ)). is_some (lookup (is_at (name_cmp (word_first q))) x))
      no_words) in
      absurd (omega (arith, one, clear));
  paged = λ q some.
      let none : true ≡ false = sym some
      ∙ ap (λ (x : List (Name × Page)). is_some (page_in x q)) no_pages in
      absurd cc;
}

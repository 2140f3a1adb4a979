-- What is as long as its header says, if that is believed, and what is awaited.
use Rattle.std.proofs.Common.{◌≡◌, ◌⊎◌, ◌∙◌, ap, sym, refl, inl, inr, ℕ, ◌+◌, ◌<◌, ◌≤◌, ◌==◌, nat_lt, nat_le, Bool, true, false, not, ◌&&◌, ◌||◌, List, [], ◌∷◌, ◌++◌, length, drop, arith}
use Rattle.std.proofs.lemmas.List.{drop-append-le}
use Rattle.lpt_packet.specs.Numbers.{word_at}
use Rattle.lpt_packet.proofs.Readings.{eq_false, not_lt}
use Rattle.lpt_stream.specs.Pieces.{begins, behind, fits, is_awaited, is_found, is_framed, is_short}
use Rattle.lpt_stream.proofs.PieceLemmas.{frame-more, framed_fits, longer}
use Rattle.lpt_stream.proofs.StreamLemmas.{word_at-front}

-- ---- more behind a frame

enough : (a n m : ℕ) → a ≤ n → n ≤ m → nat_le a m ≡ true
enough a n m h k = grind (arith, h, k)

-- it has come with more behind it
pub framed-more : (b more : List ℕ) → is_framed b ≡ true → is_framed (b ++ more) ≡ true
framed-more b more h =
    let fits = framed_fits b h in
    ap (λ w. nat_le (7 + w) (length (b ++ more))) (word_at-front b more (omega (arith, fits)))
    ∙ enough (7 + word_at b 4) (length b) (length (b ++ more)) fits (longer b more)

-- what stands behind it then
pub behind-more : (b more : List ℕ) → is_framed b ≡ true → behind (b ++ more) ≡ behind b ++ more
behind-more b more h =
    let fits = framed_fits b h in
    ap (λ w. drop (7 + w) (b ++ more)) (word_at-front b more (omega (arith, fits)))
    ∙ drop-append-le (7 + word_at b 4) b more fits

pub begins-more : (s : Bool) (b more : List ℕ) → is_framed b ≡ true
    → begins s (b ++ more) ≡ begins s b
begins-more s b more h = ap (is_found s) (frame-more b more (framed_fits b h))

pub some_there : (b : List ℕ) → is_framed b ≡ true → (length b == 0) ≡ false
some_there [] h = absurd cc
some_there (x ∷ b) h = eq_false (length (x ∷ b)) 0 (λ e. omega (arith, e))

-- ---- lengths that are believed

pub and_both : (p q : Bool) → (p && q) ≡ true → (p ≡ true) × (q ≡ true)
and_both true q h = (refl, h)
and_both false q h = absurd cc

pub fits_framed : (l : ℕ) (b : List ℕ) → fits l b ≡ true → is_framed b ≡ true
fits_framed l b h = (and_both (is_short l b) (is_framed b) h).1

short-more : (l : ℕ) (b more : List ℕ) → 6 ≤ length b → is_short l (b ++ more) ≡ is_short l b
short-more l b more h = ap (λ w. nat_le (7 + w) l) (word_at-front b more h)

pub fits-more : (l : ℕ) (b more : List ℕ) → fits l b ≡ true → fits l (b ++ more) ≡ true
fits-more l b more h =
    let framed = fits_framed l b h in
    let room = framed_fits b framed in
    (λ i. short-more l b more (omega (arith, room)) i
    && (framed-more b more framed ∙ sym framed) i)
    ∙ h

settled : (f few short : Bool) → (short && f) ≡ false → (not f && (few || short)) ≡ false
    → (short ≡ false) × ((f ≡ true) ⊎ (few ≡ false))
settled true few true h k = absurd cc
settled true few false h k = (refl, inl refl)
settled false true short h k = absurd cc
settled false false true h k = absurd cc
settled false false false h k = (refl, inr refl)

pub unframed_fit : (l : ℕ) (b : List ℕ) → is_framed b ≡ false → fits l b ≡ false
unframed_fit l b h = ap (λ f. is_short l b && f) h ∙ none (is_short l b) where
  none : (s : Bool) → (s && false) ≡ false
  none true = refl
  none false = refl

headed : (b : List ℕ) → (is_framed b ≡ true) ⊎ (nat_lt (length b) 6 ≡ false) → 6 ≤ length b
headed b (inl h) = let room = framed_fits b h in omega (arith, room)
headed b (inr h) = not_lt (length b) 6 h

-- what doesn't fit, and isn't awaited, never fits
pub unfit-more : (l : ℕ) (b more : List ℕ)
    → fits l b ≡ false
    → is_awaited l b ≡ false
    → fits l (b ++ more) ≡ false
unfit-more l b more h k =
    let parts = settled (is_framed b) (nat_lt (length b) 6) (is_short l b) h k in
    ap (λ s. s && is_framed (b ++ more)) (short-more l b more (headed b parts.1) ∙ parts.0)

pub some-awaited : (l : ℕ) (b : List ℕ) → is_awaited l b ≡ false → (length b == 0) ≡ false
some-awaited l [] h = absurd cc
some-awaited l (x ∷ b) h = eq_false (length (x ∷ b)) 0 (λ e. omega (arith, e))

-- what has come whole isn't awaited
pub framed_unawaited : (l : ℕ) (b : List ℕ) → is_framed b ≡ true → is_awaited l b ≡ false
framed_unawaited l b h = ap (λ f. not f && (nat_lt (length b) 6 || is_short l b)) h

-- nor is it with more behind it, where nothing is
pub unawaited-more : (l : ℕ) (b more : List ℕ) → is_awaited l b ≡ false
    → is_awaited l (b ++ more) ≡ false
unawaited-more l b more h = go (is_framed b) refl where
  long_headed : (few short : Bool) → (few || short) ≡ false → (few ≡ false) × (short ≡ false)
  long_headed true short h = absurd cc
  long_headed false true h = absurd cc
  long_headed false false h = (refl, refl)

  many : (n : ℕ) → 6 ≤ n → nat_lt n 6 ≡ false
  many n h = grind (arith, h)

  none : (f : Bool) → (not f && (false || false)) ≡ false
  none true = refl
  none false = refl

  go : (f : Bool) → is_framed b ≡ f → is_awaited l (b ++ more) ≡ false
  go true e = framed_unawaited l (b ++ more) (framed-more b more e)
  go false e =
      let parts = long_headed (nat_lt (length b) 6) (is_short l b)
      (sym (ap (λ f. not f && (nat_lt (length b) 6 || is_short l b)) e) ∙ h) in
      let head = not_lt (length b) 6 parts.0 in
      let size = longer b more in
      ap (λ s. not (is_framed (b ++ more)) && (nat_lt (length (b ++ more)) 6 || s))
      (short-more l b more head ∙ parts.1)
      ∙ ap (λ s. not (is_framed (b ++ more)) && (s || false))
      (many (length (b ++ more)) (omega (arith, head, size)))
      ∙ none (is_framed (b ++ more))

-- what is awaited hasn't come whole
pub awaited_unframed : (l : ℕ) (b : List ℕ) → is_awaited l b ≡ true → is_framed b ≡ false
awaited_unframed l b h = go (is_framed b) refl where
  go : (f : Bool) → is_framed b ≡ f → f ≡ false
  go false e = refl
  go true e = absurd (let none = framed_unawaited l b e in cc)

pub awaited_unfit : (l : ℕ) (b : List ℕ) → is_awaited l b ≡ true → fits l b ≡ false
awaited_unfit l b h = unframed_fit l b (awaited_unframed l b h)

-- of a length that isn't believed, only less than a header is
pub awaited_few : (l : ℕ) (b : List ℕ) → is_awaited l b ≡ true → is_short l b ≡ false
    → length b < 6
awaited_few l b h long =
    few (length b) (is_framed b)
    (sym (ap (λ s. not (is_framed b) && (nat_lt (length b) 6 || s)) long) ∙ h)
  where
    few : (n : ℕ) (f : Bool) → (not f && (nat_lt n 6 || false)) ≡ true → n < 6
    few n true h = absurd cc
    few n false h = go (nat_lt n 6) refl h where
      go : (t : Bool) → nat_lt n 6 ≡ t → (t || false) ≡ true → n < 6
      go true e h = grind (arith, e)
      go false e h = absurd cc

pub some-still : (b more : List ℕ) → (length b == 0) ≡ false → (length (b ++ more) == 0) ≡ false
some-still [] more h = absurd cc
some-still (x ∷ b) more h = eq_false (length (x ∷ b ++ more)) 0 (λ e. omega (arith, e))

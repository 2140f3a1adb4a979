-- How far packets follow one another.
use Rattle.std.proofs.Common.{◌≡◌, ◌∙◌, ap, sym, refl, ℕ, zero, suc, ◌+◌, ◌-◌, ◌<◌, ◌≤◌, ◌==◌, Bool, true, false, not, ◌&&◌, ◌||◌, if◌then◌else◌, List, [], ◌∷◌, ◌++◌, length, drop, arith}
use Rattle.lpt_packet.specs.Numbers.{word_at}
use Rattle.lpt_packet.proofs.Readings.{eq_false}
use Rattle.lpt_stream.specs.Pieces.{behind, ends_in_checksum, fits, follow_waits, follows, frame, is_awaited, is_framed, is_short}
use Rattle.lpt_stream.proofs.PieceLemmas.{frame-more, framed_fits}
use Rattle.lpt_stream.proofs.StreamLemmas.{word_at-front}
use Rattle.lpt_stream.proofs.BelievedLemmas.{behind-more, some_there, and_both, fits_framed, fits-more, unframed_fit, unfit-more, some-awaited, some-still}
use Rattle.lpt_stream.proofs.ReachLemmas.{fewer, further}

-- ---- packets, one behind the other

abbrev pub right : ℕ → List ℕ → Bool
right l b = fits l b && ends_in_checksum (frame b)

pub right-more : (l : ℕ) (b more : List ℕ) → fits l b ≡ true → right l (b ++ more) ≡ right l b
right-more l b more h =
    (λ i. (fits-more l b more h ∙ sym h) i
    && ends_in_checksum (frame-more b more (framed_fits b (fits_framed l b h)) i))

word-more : (l : ℕ) (b more : List ℕ) → fits l b ≡ true → word_at (b ++ more) 4 ≡ word_at b 4
word-more l b more h =
    let room = framed_fits b (fits_framed l b h) in
    word_at-front b more (omega (arith, room))

-- what stands behind the first of them
pub follows-next : (e : Bool) (l n left : ℕ) (b : List ℕ)
    → (left == 0) ≡ false
    → (length b == 0) ≡ false
    → follows e l (suc n) left b
    ≡ (right l b && follows e l n (left - (7 + word_at b 4)) (behind b))
unfolding follows
follows-next e l n left b h some =
    (λ i. h i || ((e && some i)
    || (right l b && follows e l n (left - (7 + word_at b 4)) (behind b))))
    ∙ ap (λ t. t || (right l b && follows e l n (left - (7 + word_at b 4)) (behind b))) (off e)
  where
    off : (e : Bool) → (e && false) ≡ false
    off true = refl
    off false = refl

pub follows-all : (e : Bool) (l n left : ℕ) (b : List ℕ)
    → (left == 0) ≡ true
    → follows e l (suc n) left b ≡ true
unfolding follows
follows-all e l n left b h =
    ap (λ t. t || ((e && (length b == 0))
    || (right l b && follows e l n (left - (7 + word_at b 4)) (behind b)))) h

pub follows-end : (e : Bool) (l n left : ℕ) (b : List ℕ)
    → (e && (length b == 0)) ≡ true
    → follows e l (suc n) left b ≡ true
unfolding follows
follows-end e l n left b h = go (left == 0) where
  go : (t : Bool)
      → (t || ((e && (length b == 0))
      || (right l b && follows e l n (left - (7 + word_at b 4)) (behind b)))) ≡ true
  go true = refl
  go false =
      ap (λ t. t || (right l b && follows e l n (left - (7 + word_at b 4)) (behind b))) h

pub none_follow : (e : Bool) (l n left : ℕ) (b : List ℕ) → n ≡ 0 → follows e l n left b ≡ false
unfolding follows
none_follow e l zero left b h = refl
none_follow e l (suc n) left b h = absurd cc

-- at the end of what has come none follows, if the stream's end doesn't count
follows-empty : (l n left : ℕ) (b : List ℕ)
    → (left == 0) ≡ false
    → (length b == 0) ≡ true
    → follows false l (suc n) left b ≡ false
unfolding follows
follows-empty l n left [] h k = λ i. h i || (unfit l n left i) where
  unfit : (l n left : ℕ)
      → (right l [] && follows false l n (left - (7 + word_at [] 4)) (behind [])) ≡ false
  unfit l n left = go (is_short l []) where
    go : (s : Bool)
        → ((s && false) && ends_in_checksum (frame [])
        && follows false l n (left - (7 + word_at [] 4)) (behind [])) ≡ false
    go true = refl
    go false = refl
follows-empty l n left (x ∷ b) h k =
    absurd (let some = eq_false (length (x ∷ b)) 0 (λ e. omega (arith, e)) in cc)

pub not_right : (e : Bool) (l n left : ℕ) (b : List ℕ)
    → (left == 0) ≡ false
    → (e && (length b == 0)) ≡ false
    → right l b ≡ false
    → follows e l (suc n) left b ≡ false
unfolding follows
not_right e l n left b h k wrong =
    λ i. h i || (k i || (wrong i && follows e l n (left - (7 + word_at b 4)) (behind b)))

-- those that follow still do with more behind them
pub follows-stay : (l n left : ℕ) (b more : List ℕ)
    → follows false l n left b ≡ true
    → follows false l n left (b ++ more) ≡ true
unfolding follows
follows-stay l zero left b more h = absurd cc
follows-stay l (suc n) left b more h =
    go (left == 0) (length b == 0) (right l b) refl refl refl
    (λ k. follows-stay l n (left - (7 + word_at b 4)) (behind b) more k) where
      go : (z s r : Bool) → (left == 0) ≡ z → (length b == 0) ≡ s → right l b ≡ r
          → (follows false l n (left - (7 + word_at b 4)) (behind b) ≡ true
          → follows false l n (left - (7 + word_at b 4)) (behind b ++ more) ≡ true)
          → follows false l (suc n) left (b ++ more) ≡ true
      go true s r z some is next = follows-all false l n left (b ++ more) z
      go false true r z some is next =
          absurd (let none = sym (follows-empty l n left b z some) ∙ h in cc)
      go false false true z some is next =
          let fit = (and_both (fits l b) (ends_in_checksum (frame b)) is).0 in
          let here = sym (ap (λ t. t && follows false l n (left - (7 + word_at b 4)) (behind b)) is)
          ∙ sym (follows-next false l n left b z some) ∙ h in
          follows-next false l n left (b ++ more) z (some-still b more some)
          ∙ (λ i. (right-more l b more fit ∙ is) i
          && follows false l n (left - (7 + word-more l b more fit i))
          (behind-more b more (fits_framed l b fit) i))
          ∙ next here
      go false false false z some is next =
          absurd (let none =
          sym (ap (λ t. t && follows false l n (left - (7 + word_at b 4)) (behind b)) is)
          ∙ sym (follows-next false l n left b z some) ∙ h in cc)

-- what is open of them
follow-fit : (l n left : ℕ) (b : List ℕ) → (left == 0) ≡ false → fits l b ≡ true
    → follow_waits l (suc n) left b
    ≡ (ends_in_checksum (frame b) && follow_waits l n (left - (7 + word_at b 4)) (behind b))
unfolding follow_waits
follow-fit l n left b h fit =
    λ i. not (h i) && (if fit i then
    ends_in_checksum (frame b) && follow_waits l n (left - (7 + word_at b 4)) (behind b)
    else is_awaited l b)

follow-unfit : (l n left : ℕ) (b : List ℕ) → (left == 0) ≡ false → fits l b ≡ false
    → follow_waits l (suc n) left b ≡ is_awaited l b
unfolding follow_waits
follow-unfit l n left b h fit =
    λ i. not (h i) && (if fit i then
    ends_in_checksum (frame b) && follow_waits l n (left - (7 + word_at b 4)) (behind b)
    else is_awaited l b)

follow-all : (l n left : ℕ) (b : List ℕ) → (left == 0) ≡ true
    → follow_waits l (suc n) left b ≡ false
unfolding follow_waits
follow-all l n left b h =
    ap (λ t. not t && (if fits l b then
    ends_in_checksum (frame b) && follow_waits l n (left - (7 + word_at b 4)) (behind b)
    else is_awaited l b)) h

none_follow-waits : (l n left : ℕ) (b : List ℕ) → n ≡ 0 → follow_waits l n left b ≡ false
unfolding follow_waits
none_follow-waits l zero left b h = refl
none_follow-waits l (suc n) left b h = absurd cc

-- where nothing is open, what comes changes nothing
pub follows-more : (e : Bool) (l n left : ℕ) (b more : List ℕ)
    → follow_waits l n left b ≡ false
    → follows e l n left (b ++ more) ≡ follows e l n left b
unfolding follows
follows-more e l zero left b more h = refl
follows-more e l (suc n) left b more h =
    go (left == 0) (fits l b) (ends_in_checksum (frame b)) refl refl refl
    (λ k. follows-more e l n (left - (7 + word_at b 4)) (behind b) more k) where
      go : (z f r : Bool) → (left == 0) ≡ z → fits l b ≡ f → ends_in_checksum (frame b) ≡ r
          → (follow_waits l n (left - (7 + word_at b 4)) (behind b) ≡ false
          → follows e l n (left - (7 + word_at b 4)) (behind b ++ more)
          ≡ follows e l n (left - (7 + word_at b 4)) (behind b))
          → follows e l (suc n) left (b ++ more) ≡ follows e l (suc n) left b
      go true f r z fit is next =
          follows-all e l n left (b ++ more) z ∙ sym (follows-all e l n left b z)
      go false true true z fit is next =
          let framed = fits_framed l b fit in
          let some = some_there b framed in
          let here : right l b ≡ true = λ i. fit i && is i in
          let known = sym (ap (λ t. t && follow_waits l n (left - (7 + word_at b 4)) (behind b)) is)
          ∙ sym (follow-fit l n left b z fit) ∙ h in
          follows-next e l n left (b ++ more) z (some-still b more some)
          ∙ (λ i. (right-more l b more fit ∙ here) i
          && follows e l n (left - (7 + word-more l b more fit i)) (behind-more b more framed i))
          ∙ next known
          ∙ sym (follows-next e l n left b z some
          ∙ ap (λ t. t && follows e l n (left - (7 + word_at b 4)) (behind b)) here)
      go false true false z fit is next =
          let some = some_there b (fits_framed l b fit) in
          let here : right l b ≡ false = λ i. fit i && is i in
          follows-next e l n left (b ++ more) z (some-still b more some)
          ∙ ap (λ t. t && follows e l n (left - (7 + word_at (b ++ more) 4)) (behind (b ++ more)))
          (right-more l b more fit ∙ here)
          ∙ sym (follows-next e l n left b z some
          ∙ ap (λ t. t && follows e l n (left - (7 + word_at b 4)) (behind b)) here)
      go false false r z fit is next =
          let closed = sym (follow-unfit l n left b z fit) ∙ h in
          let some = some-awaited l b closed in
          follows-next e l n left (b ++ more) z (some-still b more some)
          ∙ ap (λ t. (t && ends_in_checksum (frame (b ++ more)))
          && follows e l n (left - (7 + word_at (b ++ more) 4)) (behind (b ++ more)))
          (unfit-more l b more fit closed)
          ∙ sym (follows-next e l n left b z some
          ∙ ap (λ t. (t && ends_in_checksum (frame b))
          && follows e l n (left - (7 + word_at b 4)) (behind b)) fit)

-- where less than a packet stands, and isn't awaited, none follows
pub ends_unfollowed : (l n : ℕ) (b : List ℕ)
    → is_framed b ≡ false
    → follow_waits l (suc n) (suc l) b ≡ false
    → (e : Bool) → follows e l (suc n) (suc l) b ≡ false
ends_unfollowed l n b framed known e =
    let fit = unframed_fit l b framed in
    let left = eq_false (suc l) 0 (λ e. omega (arith, e)) in
    let closed = sym (follow-unfit l n (suc l) b left fit) ∙ known in
    let some = some-awaited l b closed in
    follows-next e l n (suc l) b left some
    ∙ ap (λ t. (t && ends_in_checksum (frame b))
    && follows e l n (suc l - (7 + word_at b 4)) (behind b)) fit

pub nothing_follows : (l n left : ℕ) → (left == 0) ≡ false
    → follow_waits l (suc n) left [] ≡ true
nothing_follows l n left h = follow-unfit l n left [] h (unframed_fit l [] refl)

-- ---- one packet after the other

-- the same of packets that follow one another
module _ (e : Bool) (l most n at left : ℕ) (b rest : List ℕ) (is : rest ≡ drop at b)
    (few : n < most) where
  at_rest : {A : Type 0} → (f : List ℕ → A) (x : A) → f rest ≡ x → f (drop at b) ≡ x
  at_rest f x h = ap f (sym is) ∙ h

  goes : follows e l most left b ≡ follows e l (most - n) (left - at) (drop at b)
      → follows e l most left b ≡ follows e l (suc (most - (n + 1))) (left - at) (drop at b)
  goes so_far = so_far ∙ ap (λ k. follows e l k (left - at) (drop at b)) (fewer most n few)

  pub follows-enough : left ≤ at
      → follows e l most left b ≡ follows e l (most - n) (left - at) (drop at b)
      → follows e l most left b ≡ true
  follows-enough h so_far =
      goes so_far
      ∙ follows-all e l (most - (n + 1)) (left - at) (drop at b) (grind (arith, h))

  pub follows-ended : (e && (length rest == 0)) ≡ true
      → follows e l most left b ≡ follows e l (most - n) (left - at) (drop at b)
      → follows e l most left b ≡ true
  follows-ended h so_far =
      goes so_far
      ∙ follows-end e l (most - (n + 1)) (left - at) (drop at b)
      (at_rest (λ x. e && (length x == 0)) true h)

  pub follows-on : (len : ℕ) → at < left
      → right l rest ≡ true
      → len ≡ 7 + word_at rest 4
      → follows e l most left b ≡ follows e l (most - n) (left - at) (drop at b)
      → follows e l most left b
      ≡ follows e l (most - (n + 1)) (left - (at + len)) (drop (at + len) b)
  follows-on len room is_right size so_far =
      let fit = (and_both (fits l rest) (ends_in_checksum (frame rest)) is_right).0 in
      let same : 7 + word_at (drop at b) 4 ≡ len = ap (λ x. 7 + word_at x 4) (sym is) ∙ sym size in
      let left_is : (left - at) - len ≡ left - (at + len) = omega arith in
      goes so_far
      ∙ follows-next e l (most - (n + 1)) (left - at) (drop at b) (grind (arith, room))
      (at_rest (λ x. length x == 0) false (some_there rest (fits_framed l rest fit)))
      ∙ ap (λ t. t && follows e l (most - (n + 1)) ((left - at) - (7 + word_at (drop at b) 4))
      (behind (drop at b))) (at_rest (right l) true is_right)
      ∙ (λ i. follows e l (most - (n + 1)) ((ap (λ k. (left - at) - k) same ∙ left_is) i)
      (further at len b rest is size i))

  pub follows-nowhere : at < left
      → (e && (length rest == 0)) ≡ false
      → right l rest ≡ false
      → follows e l most left b ≡ follows e l (most - n) (left - at) (drop at b)
      → follows e l most left b ≡ false
  follows-nowhere room no_end wrong so_far =
      goes so_far
      ∙ not_right e l (most - (n + 1)) (left - at) (drop at b) (grind (arith, room))
      (at_rest (λ x. e && (length x == 0)) false no_end) (at_rest (right l) false wrong)

pub follows-most : (e : Bool) (l most n at left : ℕ) (b : List ℕ)
    → most ≤ n
    → follows e l most left b ≡ follows e l (most - n) (left - at) (drop at b)
    → follows e l most left b ≡ false
follows-most e l most n at left b all so_far =
    so_far ∙ none_follow e l (most - n) (left - at) (drop at b) (omega (arith, all))

-- and of what may come
module _ (l most n at left : ℕ) (b rest : List ℕ) (is : rest ≡ drop at b) (few : n < most) where
  at_front : {A : Type 0} → (f : List ℕ → A) (x : A) → f rest ≡ x → f (drop at b) ≡ x
  at_front f x h = ap f (sym is) ∙ h

  on : follow_waits l most left b ≡ follow_waits l (most - n) (left - at) (drop at b)
      → follow_waits l most left b ≡ follow_waits l (suc (most - (n + 1))) (left - at) (drop at b)
  on so_far = so_far ∙ ap (λ k. follow_waits l k (left - at) (drop at b)) (fewer most n few)

  pub open-enough : left ≤ at
      → follow_waits l most left b ≡ follow_waits l (most - n) (left - at) (drop at b)
      → follow_waits l most left b ≡ false
  open-enough h so_far =
      on so_far ∙ follow-all l (most - (n + 1)) (left - at) (drop at b) (grind (arith, h))

  pub open-unknown : at < left
      → fits l rest ≡ false
      → follow_waits l most left b ≡ follow_waits l (most - n) (left - at) (drop at b)
      → follow_waits l most left b ≡ is_awaited l rest
  open-unknown room fit so_far =
      on so_far
      ∙ follow-unfit l (most - (n + 1)) (left - at) (drop at b) (grind (arith, room))
      (at_front (fits l) false fit)
      ∙ ap (is_awaited l) (sym is)

  fitted : at < left
      → fits l rest ≡ true
      → follow_waits l most left b ≡ follow_waits l (most - n) (left - at) (drop at b)
      → follow_waits l most left b
      ≡ (ends_in_checksum (frame (drop at b)) && follow_waits l (most - (n + 1))
      ((left - at) - (7 + word_at (drop at b) 4)) (behind (drop at b)))
  fitted room fit so_far =
      on so_far
      ∙ follow-fit l (most - (n + 1)) (left - at) (drop at b) (grind (arith, room))
      (at_front (fits l) true fit)

  pub open-wrong : at < left
      → fits l rest ≡ true
      → ends_in_checksum (frame rest) ≡ false
      → follow_waits l most left b ≡ follow_waits l (most - n) (left - at) (drop at b)
      → follow_waits l most left b ≡ false
  open-wrong room fit wrong so_far =
      fitted room fit so_far
      ∙ ap (λ t. t && follow_waits l (most - (n + 1))
      ((left - at) - (7 + word_at (drop at b) 4)) (behind (drop at b)))
      (at_front (λ x. ends_in_checksum (frame x)) false wrong)

  pub open-on : (len : ℕ) → at < left
      → fits l rest ≡ true
      → ends_in_checksum (frame rest) ≡ true
      → len ≡ 7 + word_at rest 4
      → follow_waits l most left b ≡ follow_waits l (most - n) (left - at) (drop at b)
      → follow_waits l most left b
      ≡ follow_waits l (most - (n + 1)) (left - (at + len)) (drop (at + len) b)
  open-on len room fit is_right size so_far =
      let same : 7 + word_at (drop at b) 4 ≡ len = ap (λ x. 7 + word_at x 4) (sym is) ∙ sym size in
      let left_is : (left - at) - len ≡ left - (at + len) = omega arith in
      fitted room fit so_far
      ∙ ap (λ t. t && follow_waits l (most - (n + 1))
      ((left - at) - (7 + word_at (drop at b) 4)) (behind (drop at b)))
      (at_front (λ x. ends_in_checksum (frame x)) true is_right)
      ∙ (λ i. follow_waits l (most - (n + 1)) ((ap (λ k. (left - at) - k) same ∙ left_is) i)
      (further at len b rest is size i))

pub open-most : (l most n at left : ℕ) (b : List ℕ)
    → most ≤ n
    → follow_waits l most left b ≡ follow_waits l (most - n) (left - at) (drop at b)
    → follow_waits l most left b ≡ false
open-most l most n at left b all so_far =
    so_far ∙ none_follow-waits l (most - n) (left - at) (drop at b) (omega (arith, all))

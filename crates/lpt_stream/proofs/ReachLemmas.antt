-- Where lengths lead, whatever else of packets is damaged.
use Rattle.std.proofs.Common.{◌≡◌, ◌∙◌, ap, sym, refl, ℕ, zero, suc, ◌+◌, ◌-◌, ◌<◌, ◌≤◌, Bool, true}
use Rattle.std.proofs.Common.{false, not, ◌&&◌, ◌||◌, if◌then◌else◌, ◌*◌, ◌==◌, ◌%◌, List, ◌++◌}
use Rattle.std.proofs.Common.{length, drop, arith}
use Rattle.std.proofs.lemmas.List.{drop-drop, get_or_append_left}
use Rattle.lpt_packet.specs.Numbers.{word_at}
use Rattle.lpt_stream.specs.Pieces.{begins, behind, fits, is_awaited, is_framed, is_too_short}
use Rattle.lpt_stream.specs.Pieces.{leads, reach_waits, reaches}
use Rattle.lpt_stream.proofs.BelievedLemmas.{and_both, behind-more, begins-more, fits_framed}
use Rattle.lpt_stream.proofs.BelievedLemmas.{fits-more, unfit-more, framed_unawaited}
use Rattle.lpt_stream.proofs.BelievedLemmas.{unawaited-more}
use Rattle.lpt_stream.proofs.PieceLemmas.{framed_fits}
use Rattle.lpt_stream.proofs.StreamLemmas.{word_at-front}

-- ---- what leads on

pub leads_framed : (l : ℕ) (b : List ℕ) → leads l b ≡ true → is_framed b ≡ true
leads_framed l b h = fits_framed l b (and_both (fits l b) (not (is_too_short b)) h).0

-- more behind it changes nothing
first-front : (b more : List ℕ) → 6 ≤ length b → word_at (b ++ more) 0 ≡ word_at b 0
first-front b more h =
    let high = get_or_append_left b more 0 0 (omega arith) in
    let low = get_or_append_left b more 0 1 (omega arith) in
    λ i. 256 * high i + low i

short_stays : (l : ℕ) (b more : List ℕ) → fits l b ≡ true
    → is_too_short (b ++ more) ≡ is_too_short b
short_stays l b more h =
    let room = framed_fits b (fits_framed l b h) in
    λ i. (word_at-front b more (omega (arith, room)) i == 0)
    && not (first-front b more (omega (arith, room)) i % 2048 == 2047)

pub leads-more : (l : ℕ) (b more : List ℕ) → leads l b ≡ true → leads l (b ++ more) ≡ true
leads-more l b more h =
    let is = and_both (fits l b) (not (is_too_short b)) h in
    λ i. fits-more l b more is.0 i && (ap not (short_stays l b more is.0) ∙ is.1) i

unled-more : (l : ℕ) (b more : List ℕ)
    → leads l b ≡ false
    → is_awaited l b ≡ false
    → leads l (b ++ more) ≡ false
unled-more l b more h closed = go (fits l b) refl where
  none : (t : Bool) → (t && false) ≡ false
  none true = refl
  none false = refl

  go : (f : Bool) → fits l b ≡ f → leads l (b ++ more) ≡ false
  go true fit =
      ap (λ t. fits l (b ++ more) && not t) (short_stays l b more fit)
      ∙ (λ i. fits-more l b more fit i && not (is_too_short b))
      ∙ sym (λ i. fit i && not (is_too_short b))
      ∙ h
  go false fit = ap (λ t. t && not (is_too_short (b ++ more))) (unfit-more l b more fit closed)

-- ---- one packet further

-- it leads there at once: to the end
pub reached-end : (e : Bool) (l n : ℕ) (b : List ℕ) → (e && is_awaited l b) ≡ true
    → reaches e l (suc n) b ≡ true
unfolding reaches
reached-end e l n b h =
    ap (λ t. t || (leads l b && (begins false b || reaches e l n (behind b)))) h

-- or on
pub reaches-next : (e : Bool) (l n : ℕ) (b : List ℕ)
    → leads l b ≡ true
    → reaches e l (suc n) b ≡ (begins false b || reaches e l n (behind b))
unfolding reaches
reaches-next e l n b fit =
    (λ i. (e && framed_unawaited l b (leads_framed l b fit) i)
    || (fit i && (begins false b || reaches e l n (behind b))))
    ∙ ap (λ t. t || (begins false b || reaches e l n (behind b))) (off e)
  where
    off : (e : Bool) → (e && false) ≡ false
    off true = refl
    off false = refl

-- to a packet
pub reached : (e : Bool) (l n : ℕ) (b : List ℕ)
    → leads l b ≡ true
    → begins false b ≡ true
    → reaches e l (suc n) b ≡ true
reached e l n b fit begun =
    reaches-next e l n b fit ∙ ap (λ t. t || reaches e l n (behind b)) begun

-- what isn't believed leads nowhere but into the end
pub unreached : (e : Bool) (l n : ℕ) (b : List ℕ)
    → leads l b ≡ false
    → reaches e l (suc n) b ≡ (e && is_awaited l b)
unfolding reaches
unreached e l n b fit =
    ap (λ t. (e && is_awaited l b) || (t && (begins false b || reaches e l n (behind b)))) fit
    ∙ alone (e && is_awaited l b)
  where
    alone : (t : Bool) → (t || false) ≡ t
    alone true = refl
    alone false = refl

-- nor do no steps
pub none_reached : (e : Bool) (l n : ℕ) (b : List ℕ) → n ≡ 0 → reaches e l n b ≡ false
unfolding reaches
none_reached e l zero b h = refl
none_reached e l (suc n) b h = absurd cc

-- ---- what may come

waits-fit : (l n : ℕ) (b : List ℕ) → leads l b ≡ true
    → reach_waits l (suc n) b ≡ (not (begins false b) && reach_waits l n (behind b))
unfolding reach_waits
waits-fit l n b h =
    ap (λ t. if t then not (begins false b) && reach_waits l n (behind b) else is_awaited l b) h

waits-unfit : (l n : ℕ) (b : List ℕ) → leads l b ≡ false
    → reach_waits l (suc n) b ≡ is_awaited l b
unfolding reach_waits
waits-unfit l n b h =
    ap (λ t. if t then not (begins false b) && reach_waits l n (behind b) else is_awaited l b) h

-- where nothing is open, what comes changes nothing, whether the end counts or not
pub reaches-more : (s t : Bool) (l n : ℕ) (b more : List ℕ)
    → reach_waits l n b ≡ false
    → reaches s l n (b ++ more) ≡ reaches t l n b
unfolding reaches
reaches-more s t l zero b more h = refl
reaches-more s t l (suc n) b more h =
    go (leads l b) (begins false b) refl refl (λ k. reaches-more s t l n (behind b) more k) where
      off : (e : Bool) → (e && false) ≡ false
      off true = refl
      off false = refl

      go : (f p : Bool) → leads l b ≡ f → begins false b ≡ p
          → (reach_waits l n (behind b) ≡ false
          → reaches s l n (behind b ++ more) ≡ reaches t l n (behind b))
          → reaches s l (suc n) (b ++ more) ≡ reaches t l (suc n) b
      go true true fit e next =
          reached s l n (b ++ more) (leads-more l b more fit)
          (begins-more false b more (leads_framed l b fit) ∙ e)
          ∙ sym (reached t l n b fit e)
      go true false fit e next =
          let framed = leads_framed l b fit in
          let known : reach_waits l n (behind b) ≡ false =
          ap (λ t. not t && reach_waits l n (behind b)) (sym e) ∙ sym (waits-fit l n b fit) ∙ h in
          reaches-next s l n (b ++ more) (leads-more l b more fit)
          ∙ (λ i. (begins-more false b more framed ∙ e) i
          || reaches s l n (behind-more b more framed i))
          ∙ next known
          ∙ sym (reaches-next t l n b fit ∙ ap (λ p. p || reaches t l n (behind b)) e)
      go false p fit e next =
          let closed = sym (waits-unfit l n b fit) ∙ h in
          unreached s l n (b ++ more) (unled-more l b more fit closed)
          ∙ ap (λ a. s && a) (unawaited-more l b more closed)
          ∙ off s
          ∙ sym (unreached t l n b fit ∙ ap (λ a. t && a) closed ∙ off t)

-- ---- one packet after the other

pub fewer : (most n : ℕ) → n < most → most - n ≡ suc (most - (n + 1))
fewer most n h = omega (arith, h)

pub further : (at len : ℕ) (b rest : List ℕ)
    → rest ≡ drop at b
    → len ≡ 7 + word_at rest 4
    → behind (drop at b) ≡ drop (at + len) b
further at len b rest is h =
    ap (λ k. drop k (drop at b)) (ap (λ x. 7 + word_at x 4) (sym is) ∙ sym h) ∙ drop-drop len at b

-- from a place on, where the rest stands
module _ (e : Bool) (l most n at : ℕ) (b rest : List ℕ) (is : rest ≡ drop at b)
    (few : n < most) where
  here : {A : Type 0} → (f : List ℕ → A) (x : A) → f rest ≡ x → f (drop at b) ≡ x
  here f x h = ap f (sym is) ∙ h

  step : reaches e l most b ≡ reaches e l (most - n) (drop at b)
      → reaches e l most b ≡ reaches e l (suc (most - (n + 1))) (drop at b)
  step so_far = so_far ∙ ap (λ k. reaches e l k (drop at b)) (fewer most n few)

  pub reaches-there : leads l rest ≡ true
      → begins false rest ≡ true
      → reaches e l most b ≡ reaches e l (most - n) (drop at b)
      → reaches e l most b ≡ true
  reaches-there fit h so_far =
      step so_far
      ∙ reached e l (most - (n + 1)) (drop at b) (here (leads l) true fit)
      (here (begins false) true h)

  pub reaches-nowhere : leads l rest ≡ false
      → reaches e l most b ≡ reaches e l (most - n) (drop at b)
      → reaches e l most b ≡ (e && is_awaited l rest)
  reaches-nowhere fit so_far =
      step so_far
      ∙ unreached e l (most - (n + 1)) (drop at b) (here (leads l) false fit)
      ∙ ap (λ x. e && is_awaited l x) (sym is)

  pub reaches-on : (len : ℕ) → leads l rest ≡ true
      → begins false rest ≡ false
      → len ≡ 7 + word_at rest 4
      → reaches e l most b ≡ reaches e l (most - n) (drop at b)
      → reaches e l most b ≡ reaches e l (most - (n + 1)) (drop (at + len) b)
  reaches-on len fit h size so_far =
      step so_far
      ∙ reaches-next e l (most - (n + 1)) (drop at b) (here (leads l) true fit)
      ∙ ap (λ t. t || reaches e l (most - (n + 1)) (behind (drop at b)))
      (here (begins false) false h)
      ∙ ap (reaches e l (most - (n + 1))) (further at len b rest is size)

pub reaches-most : (e : Bool) (l most n at : ℕ) (b : List ℕ)
    → most ≤ n
    → reaches e l most b ≡ reaches e l (most - n) (drop at b)
    → reaches e l most b ≡ false
reaches-most e l most n at b all so_far =
    so_far ∙ none_reached e l (most - n) (drop at b) (omega (arith, all))

-- the same of what may come
none_waits : (l n : ℕ) (b : List ℕ) → n ≡ 0 → reach_waits l n b ≡ false
unfolding reach_waits
none_waits l zero b h = refl
none_waits l (suc n) b h = absurd cc

module _ (l most n at : ℕ) (b rest : List ℕ) (is : rest ≡ drop at b) (few : n < most) where
  stands : {A : Type 0} → (f : List ℕ → A) (x : A) → f rest ≡ x → f (drop at b) ≡ x
  stands f x h = ap f (sym is) ∙ h

  next : reach_waits l most b ≡ reach_waits l (most - n) (drop at b)
      → reach_waits l most b ≡ reach_waits l (suc (most - (n + 1))) (drop at b)
  next so_far = so_far ∙ ap (λ k. reach_waits l k (drop at b)) (fewer most n few)

  pub waits-known : leads l rest ≡ true
      → begins false rest ≡ true
      → reach_waits l most b ≡ reach_waits l (most - n) (drop at b)
      → reach_waits l most b ≡ false
  waits-known fit h so_far =
      next so_far
      ∙ waits-fit l (most - (n + 1)) (drop at b) (stands (leads l) true fit)
      ∙ ap (λ t. not t && reach_waits l (most - (n + 1)) (behind (drop at b)))
      (stands (begins false) true h)

  pub waits-unknown : leads l rest ≡ false
      → reach_waits l most b ≡ reach_waits l (most - n) (drop at b)
      → reach_waits l most b ≡ is_awaited l rest
  waits-unknown fit so_far =
      next so_far
      ∙ waits-unfit l (most - (n + 1)) (drop at b) (stands (leads l) false fit)
      ∙ ap (is_awaited l) (sym is)

  pub waits-on : (len : ℕ) → leads l rest ≡ true
      → begins false rest ≡ false
      → len ≡ 7 + word_at rest 4
      → reach_waits l most b ≡ reach_waits l (most - n) (drop at b)
      → reach_waits l most b ≡ reach_waits l (most - (n + 1)) (drop (at + len) b)
  waits-on len fit h size so_far =
      next so_far
      ∙ waits-fit l (most - (n + 1)) (drop at b) (stands (leads l) true fit)
      ∙ ap (λ t. not t && reach_waits l (most - (n + 1)) (behind (drop at b)))
      (stands (begins false) false h)
      ∙ ap (reach_waits l (most - (n + 1))) (further at len b rest is size)

pub waits-most : (l most n at : ℕ) (b : List ℕ)
    → most ≤ n
    → reach_waits l most b ≡ reach_waits l (most - n) (drop at b)
    → reach_waits l most b ≡ false
waits-most l most n at b all so_far =
    so_far ∙ none_waits l (most - n) (drop at b) (omega (arith, all))

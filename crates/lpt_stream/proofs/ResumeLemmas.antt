-- What stands in front where lengths are believed up to the longest packet's, whatever comes
-- behind.
use Rattle.std.proofs.Common.{◌≡◌, ◌⊎◌, ◌∙◌, ap, sym, refl, inl, inr, ℕ, suc, ◌+◌, ◌≤◌, nat_le, nat_lt, Bool, true, false, ◌&&◌, ◌||◌, if◌then◌else◌, List, ◌++◌, length, take, arith, length-take}
use Rattle.std.proofs.lemmas.List.{take-append-le}
use Rattle.lpt_packet.specs.Numbers.{word_at}
use Rattle.lpt_packet.proofs.Readings.{not_lt}
use Rattle.lpt_stream.specs.declared.cut.Cut.{Cut}
use Rattle.lpt_stream.specs.declared.cut.Cut.TheVariants.{Resumed}
use Rattle.lpt_stream.specs.declared.piece_kind.PieceKind.TheVariants.{Whole, Damaged, Stray}
use Rattle.lpt_stream.specs.Pieces.{lookahead, begins, begins_by, behind, fits, follow_waits, follows, is_all, is_awaited, is_cut_off, is_framed, is_short, kind_by, may_begin, most_damaged, most_in_row, other_by, passes_by, piece_by, piece_of, reach_waits, reaches, size_in, waits_by, waits_to_resume}
use Rattle.lpt_stream.proofs.PieceLemmas.{begins_may, may_kept, framed_fits, take_more, unframed_begins, whole}
use Rattle.lpt_stream.proofs.StreamLemmas.{word_at-front}
use Rattle.lpt_stream.proofs.BelievedLemmas.{begins-more, behind-more, fits-more, fits_framed, framed-more, framed_unawaited, unawaited-more, unfit-more}
use Rattle.lpt_stream.proofs.ReachLemmas.{reaches-more}
use Rattle.lpt_stream.proofs.FollowLemmas.{ends_unfollowed, follows-more, follows-stay}
use Rattle.lpt_stream.proofs.KeptLemmas.{IsKeptBy, size_of}

-- ---- what stays

-- a piece that is a packet, and stays one
pub begun_there : (c : Cut) (s : Bool) (b more : List ℕ) (n : ℕ)
    → ((m : List ℕ) → begins_by c s (take lookahead b ++ m) ≡ true)
    → is_framed (take lookahead b) ≡ true
    → n ≡ 7 + word_at (take lookahead b) 4
    → n ≤ length b
    → piece_by c s (b ++ more) ≡ whole (take n b)
unfolding piece_by
begun_there c s b more n is framed size within =
    let near = take lookahead b in
    let m = take_more lookahead b more in
    let room = framed_fits near framed in
    let word : word_at (take lookahead (b ++ more)) 4 ≡ word_at near 4 =
    ap (λ x. word_at x 4) m.1 ∙ word_at-front near m.0 (omega (arith, room)) in
    ap (λ t. piece_of (if t then Whole else if s && passes_by c (take lookahead (b ++ more))
    then Damaged else other_by c s (take lookahead (b ++ more)))
    (take lookahead (b ++ more)) (b ++ more)) (ap (begins_by c s) m.1 ∙ is m.0)
    ∙ ap (λ w. whole (take (7 + w) (b ++ more))) word
    ∙ ap (λ k. whole (take k (b ++ more))) (sym size)
    ∙ ap whole (take-append-le n b more within)

begun_framed : (s : Bool) (b : List ℕ) → begins s b ≡ true → is_framed b ≡ true
begun_framed s b h = go (is_framed b) refl where
  go : (t : Bool) → is_framed b ≡ t → t ≡ true
  go true e = refl
  go false e = absurd (let none = unframed_begins s b e in cc)

parts : (p q : Bool) → (p && q) ≡ true → (p ≡ true) × (q ≡ true)
parts true q h = (refl, h)
parts false q h = absurd cc

-- in step, one that is believed
pub step_begun : (l : ℕ) (b more : List ℕ) → begins_by (Resumed l) true b ≡ true
    → begins_by (Resumed l) true (b ++ more) ≡ true
step_begun l b more h =
    let is = parts (is_short l b) (begins true b) h in
    let framed = begun_framed true b is.1 in
    let room = framed_fits b framed in
    (λ i. ap (λ w. nat_le (7 + w) l) (word_at-front b more (omega (arith, room))) i
    && begins-more true b more framed i)
    ∙ h

-- out of step, one that others follow
pub astray_begun : (l : ℕ) (b more : List ℕ) → begins_by (Resumed l) false b ≡ true
    → begins_by (Resumed l) false (b ++ more) ≡ true
astray_begun l b more h =
    let is = parts (begins false b) (follows false l most_in_row (suc l) b) h in
    let framed = begun_framed false b is.0 in
    λ i. (begins-more false b more framed ∙ is.0) i
    && follows-stay l most_in_row (suc l) b more is.1 i

pub first_framed : (l : ℕ) (s : Bool) (b : List ℕ) → begins_by (Resumed l) s b ≡ true
    → is_framed b ≡ true
first_framed l true b h = begun_framed true b (parts (is_short l b) (begins true b) h).1
first_framed l false b h =
    begun_framed false b (parts (begins false b) (follows false l most_in_row (suc l) b) h).0

same_size : (c : Cut) (s : Bool) (b more : List ℕ)
    → is_framed b ≡ true
    → size_in (kind_by c s b) (b ++ more) ≡ size_in (kind_by c s b) b
same_size c s b more h =
    let room = framed_fits b h in
    size_of (kind_by c s b) (b ++ more) b (word_at-front b more (omega (arith, room)))

-- what isn't awaited isn't cut off
pub uncut : (l : ℕ) (b : List ℕ) → is_awaited l b ≡ false → is_cut_off (Resumed l) true b ≡ false
uncut l b h = ap (λ a. is_all b && a) h ∙ none (is_all b) where
  none : (s : Bool) → (s && false) ≡ false
  none true = refl
  none false = refl

-- in step what is in front stays what it is, once it is known where lengths lead
fit_kept : (l : ℕ) (b more : List ℕ)
    → fits l b ≡ true
    → reach_waits l most_damaged (behind b) ≡ false
    → IsKeptBy (Resumed l) true b more
fit_kept l b more fit known =
    let framed = fits_framed l b fit in
    let room = framed_fits b framed in
    let whole = framed-more b more framed in
    record {
      kind = λ i. if (ap (λ w. nat_le (7 + w) l) (word_at-front b more (omega (arith, room))) i
          && begins-more true b more framed i) then Whole else
          if ((uncut l (b ++ more) (framed_unawaited l (b ++ more) whole)
          ∙ sym (uncut l b (framed_unawaited l b framed))) i || (
          (fits-more l b more fit ∙ sym fit) i
          && (ap (reaches (is_all (b ++ more)) l most_damaged) (behind-more b more framed)
          ∙ reaches-more (is_all (b ++ more)) (is_all b) l most_damaged (behind b) more known) i))
          then Damaged else Stray;
      size = same_size (Resumed l) true b more framed;
    }

-- what isn't believed begins nothing
pub unfit_begins : (l : ℕ) (b : List ℕ) → fits l b ≡ false → begins_by (Resumed l) true b ≡ false
unfit_begins l b h = go (begins_by (Resumed l) true b) refl where
  go : (t : Bool) → begins_by (Resumed l) true b ≡ t → t ≡ false
  go false e = refl
  go true e =
      let is = parts (is_short l b) (begins true b) e in
      let framed = begun_framed true b is.1 in
      let fit : fits l b ≡ true = λ i. is.0 i && framed i in
      absurd cc

pub unfit_stray : (l : ℕ) (b : List ℕ) → fits l b ≡ false → is_cut_off (Resumed l) true b ≡ false
    → kind_by (Resumed l) true b ≡ Stray
unfit_stray l b h k =
    λ i. if unfit_begins l b h i then Whole else
    if (k i || (h i && reaches (is_all b) l most_damaged (behind b))) then Damaged else Stray

unfit_kept : (l : ℕ) (b more : List ℕ)
    → fits l b ≡ false
    → is_awaited l b ≡ false
    → IsKeptBy (Resumed l) true b more
unfit_kept l b more fit closed =
    let stray = unfit_stray l b fit (uncut l b closed) in
    record {
      kind = unfit_stray l (b ++ more) (unfit-more l b more fit closed)
          (uncut l (b ++ more) (unawaited-more l b more closed))
          ∙ sym stray;
      size = ap (λ k. size_in k (b ++ more)) stray ∙ sym (ap (λ k. size_in k b) stray);
    }

step_kept : (l : ℕ) (b more : List ℕ) → waits_to_resume l b ≡ false
    → IsKeptBy (Resumed l) true b more
step_kept l b more h = go (fits l b) refl where
  go : (t : Bool) → fits l b ≡ t → IsKeptBy (Resumed l) true b more
  go true e =
      fit_kept l b more e
      (sym (ap (λ t. if t then reach_waits l most_damaged (behind b) else is_awaited l b) e) ∙ h)
  go false e =
      unfit_kept l b more e
      (sym (ap (λ t. if t then reach_waits l most_damaged (behind b) else is_awaited l b) e) ∙ h)

-- out of step it does once it is known how far packets follow
apart : (m f : Bool) → (m && f) ≡ false → (m ≡ false) ⊎ (f ≡ false)
apart true f h = inr h
apart false f h = inl refl

pub none_astray : (l : ℕ) (b : List ℕ) → begins false b ≡ false
    → kind_by (Resumed l) false b ≡ Stray
none_astray l b h =
    ap (λ t. if t && follows false l most_in_row (suc l) b then Whole else
    if t && follows true l most_in_row (suc l) b then Whole else Stray) h

may_not : (b : List ℕ) → may_begin b ≡ false → begins false b ≡ false
may_not b h = go (begins false b) refl where
  go : (t : Bool) → begins false b ≡ t → t ≡ false
  go false e = refl
  go true e = absurd (let may = begins_may b e in cc)

may_never : (b more : List ℕ) → may_begin b ≡ false → may_begin (b ++ more) ≡ false
may_never b more h = go (may_begin (b ++ more)) refl where
  go : (t : Bool) → may_begin (b ++ more) ≡ t → t ≡ false
  go false e = refl
  go true e = absurd (let may = may_kept b more e in cc)

stray_kept : (l : ℕ) (b more : List ℕ)
    → kind_by (Resumed l) false b ≡ Stray
    → kind_by (Resumed l) false (b ++ more) ≡ Stray
    → IsKeptBy (Resumed l) false b more
stray_kept l b more h k = record {
  kind = k ∙ sym h;
  size = ap (λ k. size_in k (b ++ more)) h ∙ sym (ap (λ k. size_in k b) h);
}

-- none follows where the first isn't framed, and is not awaited
astray_kept : (l : ℕ) (b more : List ℕ)
    → (may_begin b && follow_waits l most_in_row (suc l) b) ≡ false
    → IsKeptBy (Resumed l) false b more
astray_kept l b more h = elim (apart (may_begin b) (follow_waits l most_in_row (suc l) b) h) [
  | inl none ↦ stray_kept l b more (none_astray l b (may_not b none))
      (none_astray l (b ++ more) (may_not (b ++ more) (may_never b more none)))
  | inr known ↦ go (is_framed b) refl known
] where
  go : (t : Bool) → is_framed b ≡ t → follow_waits l most_in_row (suc l) b ≡ false
      → IsKeptBy (Resumed l) false b more
  go true framed known = record {
    kind = λ i. if (begins-more false b more framed i
        && follows-more false l most_in_row (suc l) b more known i) then Whole else
        if (begins-more false b more framed i
        && follows-more true l most_in_row (suc l) b more known i) then Whole else Stray;
    size = same_size (Resumed l) false b more framed;
  }
  go false framed known =
      let none = ends_unfollowed l 8192 b framed known in
      stray_kept l b more (none_astray l b (unframed_begins false b framed))
      (unfollowed l (b ++ more)
      (follows-more false l most_in_row (suc l) b more known ∙ none false)
      (follows-more true l most_in_row (suc l) b more known ∙ none true)) where
        unfollowed : (l : ℕ) (b : List ℕ)
            → follows false l most_in_row (suc l) b ≡ false
            → follows true l most_in_row (suc l) b ≡ false
            → kind_by (Resumed l) false b ≡ Stray
        unfollowed l b h k = both (begins false b) where
          both : (t : Bool) → (if t && follows false l most_in_row (suc l) b then Whole else
              if t && follows true l most_in_row (suc l) b then Whole else Stray) ≡ Stray
          both true = λ i. if h i then Whole else if k i then Whole else Stray
          both false = refl

all_near : (near m : List ℕ) (c : Cut) (s : Bool) → near ++ m ≡ near → IsKeptBy c s near m
all_near near m c s same = record {
  kind = ap (kind_by c s) same;
  size = ap (size_in (kind_by c s near)) same;
}

-- what is looked at is no more than so much, and all of it if it is as much
full : (b more m : List ℕ)
    → nat_lt (length (take lookahead b)) lookahead ≡ false
    → take lookahead (b ++ more) ≡ take lookahead b ++ m
    → take lookahead b ++ m ≡ take lookahead b
full b more m h e =
    let size = length-take lookahead b in
    let all = not_lt (length (take lookahead b)) lookahead h in
    sym e ∙ take-append-le lookahead b more (omega (arith, all, size))

pub resumed_front : (l : ℕ) (s : Bool) (b more m : List ℕ)
    → waits_by (Resumed l) s (take lookahead b) ≡ false
    → take lookahead (b ++ more) ≡ take lookahead b ++ m
    → IsKeptBy (Resumed l) s (take lookahead b) m
resumed_front l s b more m h e = go s (nat_lt (length (take lookahead b)) lookahead) h refl where
  go : (s t : Bool) → waits_by (Resumed l) s (take lookahead b) ≡ false
      → nat_lt (length (take lookahead b)) lookahead ≡ t
      → IsKeptBy (Resumed l) s (take lookahead b) m
  go true true h few =
      step_kept l (take lookahead b) m
      (sym (ap (λ t. t && waits_to_resume l (take lookahead b)) few) ∙ h)
  go false true h few =
      astray_kept l (take lookahead b) m
      (sym (ap (λ t. t && (may_begin (take lookahead b)
      && follow_waits l most_in_row (suc l) (take lookahead b))) few) ∙ h)
  go s false h all = all_near (take lookahead b) m (Resumed l) s (full b more m all e)

-- What stands in front by lengths alone, and what stays there.
use Rattle.std.proofs.Common.{◌≡◌, ◌⊎◌, ◌∙◌, ap, sym, refl, inl, inr, ℕ, ◌+◌, ◌≤◌, ◌<◌, ◌==◌, Bool, true, false, not, ◌&&◌, ◌||◌, if◌then◌else◌, List, [], ◌∷◌, ◌++◌, length, take, arith, take_all}
use Rattle.std.proofs.lemmas.List.{take-append-le}
use Rattle.lpt_packet.specs.Numbers.{word_at}
use Rattle.lpt_packet.proofs.Readings.{eq_false}
use Rattle.lpt_stream.specs.declared.cut.Cut.{Cut}
use Rattle.lpt_stream.specs.declared.cut.Cut.TheVariants.{Framed}
use Rattle.lpt_stream.specs.declared.piece_kind.PieceKind.{PieceKind}
use Rattle.lpt_stream.specs.declared.piece_kind.PieceKind.TheVariants.{Whole, Damaged, Stray}
use Rattle.lpt_stream.specs.Pieces.{lookahead, begins_by, is_framed, is_version, kind_by, piece_by, piece_of, size_in, waits_by}
use Rattle.lpt_stream.proofs.PieceLemmas.{framed_fits, of_kind, take_more}
use Rattle.lpt_stream.proofs.StreamLemmas.{word_at-front}
use Rattle.lpt_stream.proofs.BelievedLemmas.{framed-more}

-- ---- lengths alone

-- a kind, by whether a frame begins, and is passed over
abbrev kind_as : (begun passed : Bool) → PieceKind
kind_as t p = if t then Whole else if p then Damaged else Stray

-- and if none is
abbrev pub kind_framed : (begun in_step : Bool) → PieceKind
kind_framed t s = kind_as t (s && false)

version_kept : (b more : List ℕ) → (length b == 0) ≡ false → is_version (b ++ more) ≡ is_version b
version_kept [] more h = absurd cc
version_kept (x ∷ b) more h = refl

framed_some : (b : List ℕ) → is_framed b ≡ true → (length b == 0) ≡ false
framed_some [] h = absurd cc
framed_some (x ∷ b) h = eq_false (length (x ∷ b)) 0 (λ e. omega (arith, e))

-- a frame that has come stays, and so does what is none
pub begun_kept : (s : Bool) (b more : List ℕ) → is_framed b ≡ true
    → begins_by Framed s (b ++ more) ≡ begins_by Framed s b
begun_kept s b more h =
    (λ i. s && (version_kept b more (framed_some b h) i && framed-more b more h i))
    ∙ sym (ap (λ f. s && (is_version b && f)) h)

pub framed_in : (s v f : Bool) → (s && (v && f)) ≡ true → f ≡ true
framed_in true true true h = refl
framed_in true true false h = absurd cc
framed_in true false f h = absurd cc
framed_in false v f h = absurd cc

pub none_in : (s v : Bool) → (s && (v && false)) ≡ false
none_in true true = refl
none_in true false = refl
none_in false v = refl

-- what is in front, and its size
pub record IsKeptBy (c : Cut) (s : Bool) (b more : List ℕ) : Type 0 where
  pub kind : kind_by c s (b ++ more) ≡ kind_by c s b
  pub size : size_in (kind_by c s b) (b ++ more) ≡ size_in (kind_by c s b) b

pub size_of : (k : PieceKind) (b c : List ℕ) → word_at b 4 ≡ word_at c 4 → size_in k b ≡ size_in k c
size_of Whole b c h = ap (λ w. 7 + w) h
size_of Damaged b c h = ap (λ w. 7 + w) h
size_of Stray b c h = refl

pub stray_framed : (s : Bool) → kind_framed false s ≡ Stray
stray_framed true = refl
stray_framed false = refl

-- where no frame begins, with more behind or without, an octet stands there
both_stray : (s : Bool) (b more : List ℕ)
    → begins_by Framed s (b ++ more) ≡ false
    → begins_by Framed s b ≡ false
    → IsKeptBy Framed s b more
both_stray s b more h k =
    let stray : kind_by Framed s b ≡ Stray = ap (λ t. kind_framed t s) k ∙ stray_framed s in
    record {
      kind = ap (λ t. kind_framed t s) h ∙ stray_framed s ∙ sym stray;
      size = ap (λ k. size_in k (b ++ more)) stray ∙ sym (ap (λ k. size_in k b) stray);
    }

waits_apart : (none s v f : Bool) → (none || (s && (v && not f))) ≡ false
    → (none ≡ false) × ((f ≡ true) ⊎ ((s && v) ≡ false))
waits_apart true s v f h = absurd cc
waits_apart false true true true h = (refl, inl refl)
waits_apart false true true false h = absurd cc
waits_apart false true false f h = (refl, inr refl)
waits_apart false false v f h = (refl, inr refl)

unstarted : (s v f : Bool) → (s && v) ≡ false → (s && (v && f)) ≡ false
unstarted true true f h = absurd cc
unstarted true false f h = refl
unstarted false v f h = refl

front_kept : (s : Bool) (b more : List ℕ) → waits_by Framed s b ≡ false → IsKeptBy Framed s b more
front_kept s b more h =
    let parts = waits_apart (length b == 0) s (is_version b) (is_framed b) h in
    elim parts.1 [
      | inl framed ↦ record {
        kind = ap (λ t. kind_framed t s) (begun_kept s b more framed);
        size = size_of (kind_by Framed s b) (b ++ more) b
            (let fits = framed_fits b framed in word_at-front b more (omega (arith, fits)));
      }
      | inr off ↦ both_stray s b more
          (unstarted s (is_version (b ++ more)) (is_framed (b ++ more))
          (ap (λ v. s && v) (version_kept b more parts.0) ∙ off))
          (unstarted s (is_version b) (is_framed b) off)
    ]

-- a piece that is kept so stays in front
pub kept_stays : (c : Cut) (s : Bool) (b more : List ℕ) (k : PieceKind) (n : ℕ)
    → ((m : List ℕ) → take lookahead (b ++ more) ≡ take lookahead b ++ m
    → IsKeptBy c s (take lookahead b) m)
    → k ≡ kind_by c s (take lookahead b)
    → n ≡ size_in k (take lookahead b)
    → n ≤ length b
    → piece_by c s (b ++ more) ≡ of_kind k (take n b)
unfolding piece_by
kept_stays c s b more k n kept kind size within =
    let near = take lookahead b in
    let m = take_more lookahead b more in
    let stays = kept m.0 m.1 in
    ap (λ x. piece_of (kind_by c s x) x (b ++ more)) m.1
    ∙ ap (λ k. piece_of k (near ++ m.0) (b ++ more)) stays.kind
    ∙ ap (λ n. of_kind (kind_by c s near) (take n (b ++ more))) stays.size
    ∙ ap (λ k. of_kind k (take (size_in k near) (b ++ more))) (sym kind)
    ∙ ap (λ n. of_kind k (take n (b ++ more))) (sym size)
    ∙ ap (of_kind k) (take-append-le n b more within)

pub octets_stay : (s : Bool) (b more : List ℕ) (k : PieceKind) (n : ℕ)
    → waits_by Framed s (take lookahead b) ≡ false
    → k ≡ kind_by Framed s (take lookahead b)
    → n ≡ size_in k (take lookahead b)
    → n ≤ length b
    → piece_by Framed s (b ++ more) ≡ of_kind k (take n b)
octets_stay s b more k n known kind size within =
    kept_stays Framed s b more k n (λ m e. front_kept s (take lookahead b) m known) kind size within

pub judged_frame : (s : Bool) (b more : List ℕ)
    → is_framed b ≡ true
    → begins_by Framed s b ≡ false
    → length b < lookahead
    → begins_by Framed s (take lookahead (b ++ more)) ≡ false
judged_frame s b more framed none few =
    let m = take_more lookahead b more in
    let near : take lookahead b ≡ b = take_all lookahead b (omega (arith, few)) in
    ap (begins_by Framed s) (m.1 ∙ ap (λ x. x ++ m.0) near)
    ∙ begun_kept s b m.0 framed
    ∙ none

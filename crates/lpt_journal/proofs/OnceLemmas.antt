-- No two releases have the same opening.
use Rattle.std.proofs.Common.{◌≡◌, ◌∙◌, ap, sym, ℕ, true, false, inl, inr, ◌∷◌, length, Some, arith}
use Rattle.std.specs.List.{slice_get}
use Rattle.lpt_packet.specs.declared.direction.Direction.{Direction}
use Rattle.lpt_packet.specs.Names.{Name}
use Rattle.lpt_events.specs.declared.config.Config.{Config}
use Rattle.lpt_events.specs.declared.entry.Opening.{Opening}
use Rattle.lpt_events.specs.declared.entry.Release.{Release}
use Rattle.lpt_journal.specs.Journal.{Recorded, History}
use Rattle.lpt_journal.specs.Senders.{current}
use Rattle.lpt_journal.specs.Receivers.{is_closed}
use Rattle.lpt_journal.specs.Releases.{released_by, releases}
use Rattle.lpt_journal.specs.Headline.{opening_of, IsSameOpening, AtMostOncePerOpening}
use Rattle.lpt_journal.proofs.TestLemmas.{IsOldOrNew, with_all_cases}
use Rattle.lpt_journal.proofs.Steps.{IsSound, Owes}
use Rattle.lpt_memory.specs.Memories.{Contents}
use Rattle.lpt_journal.proofs.Releasing.{IsReleaseOf, OwesReleases, opening_then, IsPast, ArePast, before_old, before_new, opening_is, is_large, each_step, closed_step}

-- ---- once per opening

-- a past release whose opening is the last one of a transaction is of that one; so that is closed
-- where the release's is
pub past_closed : (c : Config) (h : History) (r : Release) (t v : Direction × Name)
    (o u : Opening)
    → IsSound c h
    → IsPast h r t
    → opening_then h r.place t ≡ Some o
    → current h v.0 v.1 ≡ Some u
    → IsSameOpening o u
    → (current h t.0 t.1 ≡ Some u → is_closed h t.0 t.1 ≡ true)
    → is_closed h v.0 v.1 ≡ true
past_closed c h r t v o u sound p was now same closed =
    let is : p.opening ≡ o =
    let a : opening_then h r.place t ≡ Some p.opening = p.is_current in cc in
    let known = sound.openings v.0 v.1 u now in
    let d : t.0 ≡ v.0 =
    sym p.same_direction ∙ ap (λ (w : Opening). w.direction) is ∙ same.same_direction
    ∙ known.same_direction in
    let i : t.1 ≡ v.1 =
    sym p.same_name ∙ ap (λ (w : Opening). w.name) is ∙ same.same_name ∙ known.same_name in
    (λ j. is_closed h (sym d j) (sym i j)) ∙ closed ((λ j. current h (d j) (i j)) ∙ now)

-- a transaction whose last opening was released is closed
pub released_closed : (c : Config) (h : History) (k : ℕ) (r : Release) (t v : Direction × Name)
    (o u : Opening)
    → IsSound c h
    → ArePast c h
    → slice_get (releases c h) k ≡ Some r
    → r.of ≡ Some t
    → opening_then h r.place t ≡ Some o
    → current h v.0 v.1 ≡ Some u
    → IsSameOpening o u
    → is_closed h v.0 v.1 ≡ true
released_closed c h k r t v o u sound past e of was now same =
    past_closed c h r t v o u sound (past.each k r t e of) was now same
    (λ there. past.closed k r t o u e of was there (sym same.same_place))

-- a new release hasn't the opening of an old one: that transaction is closed, the new one's wasn't
pub clash : (c : Config) (h : History) (x : Recorded) (k : ℕ) (r s : Release)
    (t v : Direction × Name) (o u : Opening)
    → IsSound c h
    → ArePast c h
    → slice_get (releases c h) k ≡ Some r
    → r.of ≡ Some t
    → IsReleaseOf h x s v
    → opening_then h r.place t ≡ Some o
    → current h v.0 v.1 ≡ Some u
    → IsSameOpening o u
    → ⊥
clash c h x k r s t v o u sound past e of fresh was now same =
    let closed : is_closed h v.0 v.1 ≡ true =
    released_closed c h k r t v o u sound past e of was now same in
    let open_still : is_closed h v.0 v.1 ≡ false = fresh.was_open in cc

pub flipped : (o u : Opening) → IsSameOpening o u → IsSameOpening u o
flipped o u s =
    record {
      same_direction = sym s.same_direction;
      same_name = sym s.same_name;
      same_place = sym s.same_place;
    }

-- the opening of an old release, and of a new one
pub old_opening : (c : Config) (h : History) (x : Recorded) (k : ℕ) (r : Release)
    (t : Direction × Name) (o : Opening)
    → ArePast c h
    → slice_get (releases c h) k ≡ Some r
    → r.of ≡ Some t
    → opening_of (x ∷ h) r ≡ Some o
    → opening_then h r.place t ≡ Some o
old_opening c h x k r t o past e of is =
    let p = past.each k r t e of in
    ap (λ g. current g t.0 t.1) (sym (before_old h x r.place (omega (arith, p.place_fits))))
    ∙ sym (opening_is (x ∷ h) r t of) ∙ is

pub new_opening : (h : History) (x : Recorded) (r : Release) (t : Direction × Name) (o : Opening)
    → r.place ≡ length h
    → r.of ≡ Some t
    → opening_of (x ∷ h) r ≡ Some o
    → current h t.0 t.1 ≡ Some o
new_opening h x r t o place of is =
    ap (λ g. current g t.0 t.1) (sym (before_new h x r.place place))
    ∙ sym (opening_is (x ∷ h) r t of) ∙ is

once_step : (c : Config) (h : History) (x : Recorded)
    → IsSound c h
    → OwesReleases c h x
    → ArePast c h
    → AtMostOncePerOpening c (x ∷ h)
once_step c h x sound owes past j k r s o u e f is_o is_u same =
    go (with_all_cases (releases c h) (released_by c x h) j r e)
    (with_all_cases (releases c h) (released_by c x h) k s f)
    (is_large (x ∷ h) r o is_o) (is_large (x ∷ h) s u is_u) where
      go : IsOldOrNew (releases c h) (released_by c x h) j r
          → IsOldOrNew (releases c h) (released_by c x h) k s
          → ((t : Direction × Name) × (r.of ≡ Some t))
          → ((t : Direction × Name) × (s.of ≡ Some t))
          → j ≡ k
      go (inl a) (inl b) (t, p) (v, q) =
          let one : opening_of h r ≡ Some o =
          opening_is h r t p ∙ old_opening c h x j r t o past a p is_o in
          let other : opening_of h s ≡ Some u =
          opening_is h s v q ∙ old_opening c h x k s v u past b q is_u in
          past.once j k r s o u a b one other same
      go (inl a) (inr b) (t, p) (v, q) =
          absurd (clash c h x j r s t v o u sound past a p (owes.large b.0 s v b.2 q)
          (old_opening c h x j r t o past a p is_o)
          (new_opening h x s v u (owes.place b.0 s b.2) q is_u) same)
      go (inr a) (inl b) (t, p) (v, q) =
          absurd (clash c h x k s r v t u o sound past b q (owes.large a.0 r t a.2 p)
          (old_opening c h x k s v u past b q is_u)
          (new_opening h x r t o (owes.place a.0 r a.2) p is_o) (flipped o u same))
      go (inr a) (inr b) (t, p) (v, q) =
          let zero_a : a.0 ≡ 0 = owes.one a.0 r a.2 in
          let zero_b : b.0 ≡ 0 = owes.one b.0 s b.2 in
          omega (arith, a.1, b.1)

-- what holds of past releases holds again after an entry that pays what it owes
pub past_step : (c : Config) (first : Contents) (h : History) (x : Recorded)
    → Owes c h x
    → IsSound c h
    → OwesReleases c h x
    → ArePast c h
    → ArePast c (x ∷ h)
past_step c first h x pays sound owes past = record {
  each = each_step c h x sound owes past;
  closed = closed_step c first h x pays sound owes past;
  once = once_step c h x sound owes past;
}

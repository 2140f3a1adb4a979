-- An opening whose reception expired or was broken off is never released.
use Rattle.std.proofs.Common.{◌≡◌, ◌∙◌, ap, sym, ℕ, ◌<◌, true, false, inl, inr, List, [], ◌∷◌, length, Some, arith}
use Rattle.std.specs.List.{slice_get}
use Rattle.std.specs.Option.{is_some}
use Rattle.lpt_packet.specs.declared.direction.Direction.{Direction}
use Rattle.lpt_packet.specs.Names.{Name}
use Rattle.lpt_events.specs.declared.config.Config.{Config}
use Rattle.lpt_acts.specs.Acts.{Act}
use Rattle.lpt_events.specs.declared.entry.Opening.{Opening}
use Rattle.lpt_events.specs.declared.entry.Release.{Release}
use Rattle.lpt_journal.specs.Abortions.{Abortion, abortion_at, abortions, opening_of_abortion, NoneIsReleased, NothingIsKept, ReleasedIsUnheard, AbortionIsFinal}
use Rattle.lpt_journal.specs.Headline.{IsSameOpening}
use Rattle.lpt_journal.specs.Journal.{Recorded, History}
use Rattle.lpt_journal.specs.Receivers.{is_closed}
use Rattle.lpt_journal.specs.Releases.{released_by, releases}
use Rattle.lpt_events.specs.Configs.{IsConfig}
use Rattle.lpt_journal.specs.Replies.{entry, history_after}
use Rattle.lpt_journal.specs.Legal.{Legal}
use Rattle.lpt_journal.specs.Senders.{current}
use Rattle.lpt_journal.proofs.ClosedLemmas.{unheard_step}
use Rattle.lpt_journal.proofs.HeadlineLemmas.{owes, owes_releases, every}
use Rattle.lpt_journal.proofs.OnceLemmas.{past_closed, released_closed, clash, flipped, old_opening, new_opening}
use Rattle.lpt_journal.proofs.Releasing.{IsReleaseOf, OwesReleases, IsPast, ArePast, before_old, before_new, opening_is, is_large, closed_stays, was_current, new_past, old_past}
use Rattle.lpt_journal.proofs.Steps.{IsSound, Owes}
use Rattle.lpt_journal.proofs.TestLemmas.{no_place, IsOldOrNew, with_all_cases}
use Rattle.lpt_memory.specs.Memories.{Contents}
use Rattle.lpt_journal.proofs.AbortionOwed.{transaction, as_release, IsAbortionOf, owes_abortion}

-- ---- what holds of past abortions

-- an abortion is past: some release in its place would be
abbrev IsPastAbortion : History → Abortion → Type 0
IsPastAbortion h e = (m : List ℕ) × IsPast h (as_release e m) (transaction e)

-- each abortion is past, its transaction is closed until opened again, and its opening isn't
-- released
pub record AreAborted (c : Config) (h : History) : Type 0 where
  pub each : (j : ℕ) (e : Abortion) → slice_get (abortions h) j ≡ Some e → IsPastAbortion h e
  closed : (j : ℕ) (e : Abortion) (o u : Opening)
      → slice_get (abortions h) j ≡ Some e
      → opening_of_abortion h e ≡ Some o
      → current h e.direction e.name ≡ Some u
      → u.place ≡ o.place
      → is_closed h e.direction e.name ≡ true
  unreleased : NoneIsReleased c h

module _ (c : Config) (h : History) (x : Recorded) (pays : Owes c h x) (sound : IsSound c h)
    (frees : OwesReleases c h x)
    (ends_now : (j : ℕ) (e : Abortion)
    → slice_get (abortion_at (length h) x.event x.reply.answer) j ≡ Some e → IsAbortionOf c h x e)
    (past : ArePast c h) (gone : AreAborted c h) where
  each_aborted : (j : ℕ) (e : Abortion)
      → slice_get (abortions (x ∷ h)) j ≡ Some e
      → IsPastAbortion (x ∷ h) e
  each_aborted j e f =
      go (with_all_cases (abortions h) (abortion_at (length h) x.event x.reply.answer) j e f) where
        go : IsOldOrNew (abortions h) (abortion_at (length h) x.event x.reply.answer) j e
            → IsPastAbortion (x ∷ h) e
        go (inl old) =
            let p = gone.each j e old in
            (p.0, old_past h x (as_release e p.0) (transaction e) p.1)
        go (inr fresh) =
            let n = ends_now fresh.0 e fresh.2 in (
              n.message,
              new_past c h x (as_release e n.message) (transaction e) sound n.place n.ends_it,
            )

  -- the opening of an old abortion, and of a new one
  aborted_before : (j : ℕ) (e : Abortion) (o : Opening)
      → slice_get (abortions h) j ≡ Some e
      → opening_of_abortion (x ∷ h) e ≡ Some o
      → opening_of_abortion h e ≡ Some o
  aborted_before j e o f is =
      let p = (gone.each j e f).1 in
      let old = before_old h x e.place (omega (arith, p.place_fits)) in
      ap (λ g. current g e.direction e.name) (sym old) ∙ is

  aborted_now_of : (e : Abortion) (o : Opening)
      → e.place ≡ length h
      → opening_of_abortion (x ∷ h) e ≡ Some o
      → current h e.direction e.name ≡ Some o
  aborted_now_of e o place is =
      ap (λ g. current g e.direction e.name) (sym (before_new h x e.place place)) ∙ is

  closed_aborted : (j : ℕ) (e : Abortion) (o u : Opening)
      → slice_get (abortions (x ∷ h)) j ≡ Some e
      → opening_of_abortion (x ∷ h) e ≡ Some o
      → current (x ∷ h) e.direction e.name ≡ Some u
      → u.place ≡ o.place
      → is_closed (x ∷ h) e.direction e.name ≡ true
  closed_aborted j e o u f was now at =
      go (with_all_cases (abortions h) (abortion_at (length h) x.event x.reply.answer) j e f) where
        go : IsOldOrNew (abortions h) (abortion_at (length h) x.event x.reply.answer) j e
            → is_closed (x ∷ h) e.direction e.name ≡ true
        go (inl old) =
            let p = (gone.each j e old).1 in
            let first_is : opening_of_abortion h e ≡ Some o = aborted_before j e o old was in
            let same : p.opening ≡ o =
            let is : opening_of_abortion h e ≡ Some p.opening = p.is_current in cc in
            let older : u.place < length h =
            let q : p.opening.place ≡ o.place =
            ap (λ (v : Opening). v.place) same in omega (arith, p.was_before) in
            let w = was_current c h x e.direction e.name u pays now older in
            closed_stays h x e.direction e.name (gone.closed j e o u old first_is w.0 at) w.1
        go (inr fresh) = (ends_now fresh.0 e fresh.2).ends_it.is_ended

  -- a new release hasn't the opening of an old abortion: that transaction is closed
  aborted_clash : (j : ℕ) (e : Abortion) (s : Release) (v : Direction × Name) (o u : Opening)
      → slice_get (abortions h) j ≡ Some e
      → IsReleaseOf h x s v
      → opening_of_abortion h e ≡ Some o
      → current h v.0 v.1 ≡ Some u
      → IsSameOpening o u
      → ⊥
  aborted_clash j e s v o u f fresh was now same =
      let p = gone.each j e f in
      let closed : is_closed h v.0 v.1 ≡ true =
      past_closed c h (as_release e p.0) (transaction e) v o u sound p.1 was now same
      (λ there. gone.closed j e o u f was there (sym same.same_place)) in
      let open_now : is_closed h v.0 v.1 ≡ false = fresh.was_open in cc

  unreleased_now : NoneIsReleased c (x ∷ h)
  unreleased_now j k e r o u f g is_o is_u same =
      go (with_all_cases (abortions h) (abortion_at (length h) x.event x.reply.answer) j e f)
      (with_all_cases (releases c h) (released_by c x h) k r g) (is_large (x ∷ h) r u is_u) where
        go : IsOldOrNew (abortions h) (abortion_at (length h) x.event x.reply.answer) j e
            → IsOldOrNew (releases c h) (released_by c x h) k r
            → ((t : Direction × Name) × (r.of ≡ Some t))
            → ⊥
        go (inl a) (inl b) (t, p) =
            gone.unreleased j k e r o u a b (aborted_before j e o a is_o)
            (opening_is h r t p ∙ old_opening c h x k r t u past b p is_u) same
        go (inl a) (inr b) (t, p) =
            aborted_clash j e r t o u a (frees.large b.0 r t b.2 p) (aborted_before j e o a is_o)
            (new_opening h x r t u (frees.place b.0 r b.2) p is_u) same
        go (inr a) (inl b) (t, p) =
            let n = ends_now a.0 e a.2 in
            clash c h x k r (as_release e n.message) t (transaction e) u o sound past b p n.ends_it
            (old_opening c h x k r t u past b p is_u)
            (aborted_now_of e o n.place is_o) (flipped o u same)
        go (inr a) (inr b) (t, p) = (ends_now a.0 e a.2).releases_none b.0 r b.2

  aborted_step : AreAborted c (x ∷ h)
  aborted_step =
      record { each = each_aborted; closed = closed_aborted; unreleased = unreleased_now }

-- ---- every journal

aborted_start : (c : Config) → AreAborted c []
aborted_start c = record {
  each = λ j e f. absurd (no_place j e f);
  closed = λ j e o u f was now at. absurd (no_place j e f);
  unreleased = λ j k e r o u f g is_o is_u same. no_place j e f;
}

-- so it is in every legal journal
pub every_aborted : (c : Config) (first : Contents) (es : List Act)
    → IsConfig c
    → Legal c first es
    → AreAborted c (history_after c first es) × NothingIsKept c (history_after c first es)
every_aborted c first [] good legal = (aborted_start c, λ d name e. absurd cc)
every_aborted c first (ev ∷ es) good legal =
    let h = history_after c first es in
    let had = every c first es good legal.0 in
    let gone = every_aborted c first es good legal.0 in (
      aborted_step c h (entry c first h ev) (owes c first h ev good had.0 had.2 legal.1) had.0
          (owes_releases c first h ev good had.0 legal.1)
          (owes_abortion c first h ev had.0 gone.1 legal.1.accepted) had.1 gone.0,
      unheard_step c first h ev gone.1,
    )

-- of a transaction whose last opening was released nothing is kept, since it is closed
unheard_again : (c : Config) (h : History)
    → IsSound c h
    → ArePast c h
    → NothingIsKept c h
    → ReleasedIsUnheard c h
unheard_again c h sound past none k r o u d name e is now same =
    let t = is_large h r o is in
    none d name (released_closed c h k r t.0 (d, name) o u sound past e t.1
    (sym (opening_is h r t.0 t.1) ∙ is) now same)

-- an opening whose reception expired or was broken off is never released, and one that was released
-- is never heard again; of an ended reception nothing is kept
pub abortion_is_final : AbortionIsFinal
abortion_is_final c first es good legal =
    let h = history_after c first es in
    let sound = every c first es good legal in
    let all = every_aborted c first es good legal in
    record {
      opened = λ j e f. ap is_some (all.0.each j e f).1.is_current;
      unreleased = all.0.unreleased;
      unheard = all.1;
      not_again = unheard_again c h sound.0 sound.1 all.1;
    }

-- An opening whose reception has ended was released, or its reception expired or was broken off.
use Rattle.std.proofs.Common.{◌≡◌, ◌∙◌, ap, sym, subst, refl, ℕ, ◌+◌, ◌<◌, Bool, true, false, not, ◌&&◌, ◌⊎◌, inl, inr, List, [], ◌∷◌, length, Option, Some, None, arith}
use Rattle.std.specs.List.{slice_get}
use Rattle.std.specs.Option.{option_and_then}
use Rattle.lpt_packet.specs.declared.direction.Direction.{Direction}
use Rattle.lpt_packet.specs.declared.direction.Direction.TheVariants.{Up, Down}
use Rattle.lpt_packet.specs.Names.{Name, no_name, same_name}
use Rattle.lpt_packet.proofs.BoolLemmas.{and_left, and_right}
use Rattle.lpt_packet.proofs.NameLemmas.{same_name-true}
use Rattle.lpt_memory.specs.Memories.{Contents}
use Rattle.lpt_reception.specs.Received.{spelled}
use Rattle.lpt_events.specs.Configs.{IsConfig}
use Rattle.lpt_events.specs.Lanes.{lane_direction, same_direction}
use Rattle.lpt_events.specs.Sides.{same_side, receiver_side, direction_to}
use Rattle.lpt_events.specs.declared.config.Config.{Config}
use Rattle.lpt_events.specs.declared.entry.Opening.{Opening}
use Rattle.lpt_events.specs.declared.entry.Release.{Release}
use Rattle.lpt_acts.specs.Acts.{Act, Deliver, Expire, Retire}
use Rattle.lpt_events.specs.declared.outcome.Outcome.{Outcome}
use Rattle.lpt_events.specs.declared.outcome.Outcome.TheVariants.{Released, Broken}
use Rattle.lpt_events.specs.declared.reply.Answer.TheVariants.{Delivered, Expired}
use Rattle.lpt_events.specs.declared.side.Side.{Side}
use Rattle.lpt_events.specs.declared.side.Side.TheVariants.{Ground, Craft}
use Rattle.lpt_events.proofs.LaneLemmas.{same_direction-true}
use Rattle.lpt_journal.specs.Abortions.{Abortion, abortion_at, abortions}
use Rattle.lpt_journal.specs.Delivery.{outcome}
use Rattle.lpt_journal.specs.Due.{given_up}
use Rattle.lpt_journal.specs.Hands.{in_hand}
use Rattle.lpt_journal.specs.Journal.{Recorded, History}
use Rattle.lpt_journal.specs.Legal.{Legal}
use Rattle.lpt_journal.specs.Receivers.{with_piece, ends, heard, is_closed}
use Rattle.lpt_journal.specs.Releases.{released_now, released_by, releases}
use Rattle.lpt_journal.specs.Replies.{expired_now, entry, history_after}
use Rattle.lpt_journal.specs.Senders.{retires, current}
use Rattle.lpt_journal.specs.Whole.{WasReleased, WasAborted}
use Rattle.lpt_journal.proofs.AbortionLemmas.{AreAborted, every_aborted}
use Rattle.lpt_journal.proofs.AbortionOwed.{IsAbortionOf, owes_abortion}
use Rattle.lpt_journal.proofs.HeadlineLemmas.{owes, owes_releases, every}
use Rattle.lpt_journal.proofs.OutcomeLemmas.{TellsOf, judged_tells}
use Rattle.lpt_journal.proofs.Releasing.{OwesReleases, before_old, before_new, opening_is}
use Rattle.lpt_journal.proofs.Steps.{Owes, current_stays}
use Rattle.lpt_journal.proofs.TestLemmas.{either, get-with_all, get-behind}

-- what was opened was released, or its reception aborted
abbrev pub HasEnded : Config → History → Opening → Type 0
HasEnded c h o = WasReleased c h o ⊎ WasAborted h o

-- ---- later on

ended_later : (c : Config) (h : History) (x : Recorded) (o : Opening)
    → ((k : ℕ) (r : Release) → slice_get (releases c h) k ≡ Some r → r.place < length h)
    → AreAborted c h
    → HasEnded c h o
    → HasEnded c (x ∷ h) o
ended_later c h x o places gone (inl w) =
    let r = w.release in
    let old = before_old h x r.place (omega (arith, places w.number r w.is_there)) in
    inl (record {
      number = w.number;
      release = r;
      is_there = get-with_all (releases c h) (released_by c x h) w.number r w.is_there;
      is_of = ap (λ (g : History). option_and_then (λ t. current g t.0 t.1) r.of) old ∙ w.is_of;
      is_message = w.is_message;
    })
ended_later c h x o places gone (inr w) =
    let e = w.abortion in
    let past = (gone.each w.number e w.is_there).1 in
    let old = before_old h x e.place (omega (arith, past.place_fits)) in
    inr (record {
      number = w.number;
      abortion = e;
      is_there =
          get-with_all (abortions h) (abortion_at (length h) x.event x.reply.answer) w.number e
          w.is_there;
      is_of = ap (λ (g : History). current g e.direction e.name) old ∙ w.is_of;
    })

-- ---- what ends a reception

-- an entry releases a message of this transaction, or aborts its reception
abbrev Ends : Config → History → Recorded → Direction → Name → Type 0
Ends c h x d name =
    ((k : ℕ) × (r : Release) × (slice_get (released_by c x h) k ≡ Some r) × (r.of ≡ Some (d, name)))
    ⊎ ((j : ℕ) × (e : Abortion)
    × (slice_get (abortion_at (length h) x.event x.reply.answer) j ≡ Some e) × (e.direction ≡ d)
    × (e.name ≡ name))

comes_there : (side : Side) (d : Direction)
    → same_side side (receiver_side d) ≡ true
    → direction_to side ≡ d
comes_there Ground Up e = absurd cc
comes_there Ground Down e = refl
comes_there Craft Up e = refl
comes_there Craft Down e = absurd cc

-- an event after which a reception is ended that wasn't before ends it
ends_it : (c : Config) (first : Contents) (h : History) (ev : Act) (d : Direction) (name : Name)
    → is_closed (entry c first h ev ∷ h) d name ≡ true
    → is_closed h d name ≡ false
    → Ends c h (entry c first h ev) d name
ends_it c first h (Deliver l) d name shut before =
    elim (either (same_direction w d && ends (Delivered (outcome c h l)) name)
    (is_closed h d name) shut) [
      | inl now ↦
          go (same_direction-true w d (and_left (same_direction w d) _ now)) (outcome c h l) refl
          (and_right (same_direction w d) (ends (Delivered (outcome c h l)) name) now)
      | inr was ↦ absurd (let no : true ≡ false = sym was ∙ before in cc)
    ]
  where
    w : Direction
    w = lane_direction l

    go : lane_direction l ≡ d
        → (o : Outcome)
        → outcome c h l ≡ o
        → ends (Delivered o) name ≡ true
        → Ends c h (entry c first h (Deliver l)) d name
    go way (Released i len) is mine =
        let v = lane_direction l in
        let t = subst (λ o. TellsOf c h v (in_hand c h l) o) is
        (judged_tells c h v (in_hand c h l)) in
        let r : Release = record {
          place = length h;
          of = Some (v, i);
          message = spelled (with_piece (heard c h v i) t.0);
        } in
        inl (
          0,
          r,
          λ j. slice_get (released_now (length h) v (Delivered (is j)) (heard c h v) (t.1 j)) 0,
          λ j. Some (way j, same_name-true i name mine j),
        )
    go way (Broken i reason) is mine =
        inr (
          0,
          record { place = length h; direction = lane_direction l; name = i },
          λ j. slice_get (abortion_at (length h) (Deliver l) (Delivered (is j))) 0,
          way,
          same_name-true i name mine,
        )
    go way o is mine = absurd cc
ends_it c first h (Expire side which) d name shut before =
    elim (either (same_side side (receiver_side d)
    && ends (expired_now (direction_to side) (given_up c h (direction_to side) which)) name)
    (is_closed h d name) shut) [
      | inl now ↦
          go (comes_there side d (and_left (same_side side (receiver_side d)) _ now))
          (given_up c h (direction_to side) which) refl
          (and_right (same_side side (receiver_side d))
          (ends (expired_now (direction_to side) (given_up c h (direction_to side) which)) name)
          now)
      | inr was ↦ absurd (let no : true ≡ false = sym was ∙ before in cc)
    ]
  where
    aborts : (i : Name) → direction_to side ≡ d → same_name i name ≡ true
        → expired_now (direction_to side) (given_up c h (direction_to side) which)
        ≡ Expired (direction_to side) i
        → Ends c h (entry c first h (Expire side which)) d name
    aborts i way mine is =
        inr (
          0,
          record { place = length h; direction = direction_to side; name = i },
          ap (λ a. slice_get (abortion_at (length h) (Expire side which) a) 0) is,
          way,
          same_name-true i name mine,
        )

    go : direction_to side ≡ d
        → (o : Option Name)
        → given_up c h (direction_to side) which ≡ o
        → ends (expired_now (direction_to side) o) name ≡ true
        → Ends c h (entry c first h (Expire side which)) d name
    go way None is mine = aborts no_name way mine (ap (expired_now (direction_to side)) is)
    go way (Some i) is mine = aborts i way mine (ap (expired_now (direction_to side)) is)
ends_it c first h (Retire e i) d name shut before =
    absurd (let was = and_right (not (same_direction e d && same_name i name))
    (is_closed h d name) shut in cc)
ends_it c first h ev d name shut before = absurd (let no : true ≡ false = sym shut ∙ before in cc)

-- so it has the last opening of the transaction ended
ended_now : (c : Config) (h : History) (x : Recorded) (d : Direction) (name : Name)
    → OwesReleases c h x
    → ((j : ℕ) (e : Abortion)
    → slice_get (abortion_at (length h) x.event x.reply.answer) j ≡ Some e → IsAbortionOf c h x e)
    → Ends c h x d name
    → (o : Opening) × (current h d name ≡ Some o) × HasEnded c (x ∷ h) o
ended_now c h x d name frees aborts (inl (k, r, f, of)) =
    let it = frees.large k r (d, name) f of in (
      it.opening,
      it.is_current,
      inl (record {
        number = length (releases c h) + k;
        release = r;
        is_there = get-behind (releases c h) (released_by c x h) k r f;
        is_of = opening_is (x ∷ h) r (d, name) of
            ∙ ap (λ (g : History). current g d name) (before_new h x r.place (frees.place k r f))
            ∙ it.is_current;
        is_message = it.is_message;
      }),
    )
ended_now c h x d name frees aborts (inr (j, e, f, way, named)) =
    let it = aborts j e f in
    let o = it.ends_it.opening in
    let now : current h e.direction e.name ≡ Some o = it.ends_it.is_current in (
      o,
      (λ i. current h (sym way i) (sym named i)) ∙ now,
      inr (record {
        number = length (abortions h) + j;
        abortion = e;
        is_there =
            get-behind (abortions h) (abortion_at (length h) x.event x.reply.answer) j e f;
        is_of =
            ap (λ (g : History). current g e.direction e.name) (before_new h x e.place it.place)
            ∙ now;
      }),
    )

-- ---- every reception that has ended

-- a free transaction's reception isn't ended, and an ended one's opening has ended
pub record AreEnded (c : Config) (h : History) : Type 0 where
  pub free : (d : Direction) (name : Name)
      → current h d name ≡ None
      → is_closed h d name ≡ false
  pub ended : (d : Direction) (name : Name) (o : Opening)
      → current h d name ≡ Some o
      → is_closed h d name ≡ true
      → HasEnded c h o

-- a transaction that is retired has no ended reception
retired_open : (c : Config) (first : Contents) (h : History) (e : Act) (d : Direction)
    (name : Name)
    → is_closed (entry c first h e ∷ h) d name ≡ true
    → ¬ (retires e d name ≡ true)
retired_open c first h (Retire e i) d name shut gone =
    let no : false ≡ true = sym (ap (λ b. not b && is_closed h d name) gone) ∙ shut in cc
retired_open c first h e d name shut gone = cc

module _ (c : Config) (first : Contents) (h : History) (ev : Act)
    (pays : Owes c h (entry c first h ev)) (frees : OwesReleases c h (entry c first h ev))
    (aborts : (j : ℕ) (e : Abortion)
    → slice_get (abortion_at (length h) ev (entry c first h ev).reply.answer) j ≡ Some e
    → IsAbortionOf c h (entry c first h ev) e)
    (places : (k : ℕ) (r : Release) → slice_get (releases c h) k ≡ Some r → r.place < length h)
    (gone : AreAborted c h) (had : AreEnded c h) where
  abbrev x : Recorded
  x = entry c first h ev

  now_ended : (d : Direction) (name : Name)
      → is_closed (x ∷ h) d name ≡ true
      → is_closed h d name ≡ false
      → (o : Opening) × (current h d name ≡ Some o) × HasEnded c (x ∷ h) o
  now_ended d name shut before =
      ended_now c h x d name frees aborts (ends_it c first h ev d name shut before)

  -- a transaction with an ended reception has the opening that it had
  stays : (d : Direction) (name : Name) (o : Opening)
      → is_closed (x ∷ h) d name ≡ true
      → current h d name ≡ Some o
      → current (x ∷ h) d name ≡ Some o
  stays d name o shut was =
      current_stays c h x d name o pays was (retired_open c first h ev d name shut)

  free_now : (d : Direction) (name : Name)
      → current (x ∷ h) d name ≡ None
      → is_closed (x ∷ h) d name ≡ false
  free_now d name none = go (current h d name) refl (is_closed (x ∷ h) d name) refl where
    go : (o : Option Opening)
        → current h d name ≡ o
        → (b : Bool)
        → is_closed (x ∷ h) d name ≡ b
        → b ≡ false
    go o was false shut = refl
    go (Some o) was true shut = absurd (let now = stays d name o shut was in cc)
    go None was true shut =
        absurd (let now = now_ended d name shut (had.free d name was) in
        let some : current h d name ≡ Some now.0 = now.1 in cc)

  ended_of : (d : Direction) (name : Name) (o : Opening)
      → current (x ∷ h) d name ≡ Some o
      → is_closed (x ∷ h) d name ≡ true
      → HasEnded c (x ∷ h) o
  ended_of d name o now shut = go (current h d name) refl (is_closed h d name) refl where
    go : (u : Option Opening)
        → current h d name ≡ u
        → (b : Bool)
        → is_closed h d name ≡ b
        → HasEnded c (x ∷ h) o
    go None was b before =
        absurd (let it = now_ended d name shut (had.free d name was) in
        let some : current h d name ≡ Some it.0 = it.1 in cc)
    go (Some u) was true before =
        let same : u ≡ o = let is = stays d name u shut was in cc in
        subst (λ (v : Opening). HasEnded c (x ∷ h) v) same
        (ended_later c h x u places gone (had.ended d name u was before))
    go (Some u) was false before =
        let it = now_ended d name shut before in
        let at : current h d name ≡ Some it.0 = it.1 in
        let same : it.0 ≡ o = let is = stays d name it.0 shut at in cc in
        subst (λ (v : Opening). HasEnded c (x ∷ h) v) same it.2

  ended_step : AreEnded c (x ∷ h)
  ended_step = record { free = free_now; ended = ended_of }

-- so it is in every legal journal
pub every_ended : (c : Config) (first : Contents) (es : List Act)
    → IsConfig c
    → Legal c first es
    → AreEnded c (history_after c first es)
every_ended c first [] good legal = record {
  free = λ d name e. refl;
  ended = λ d name o e shut. absurd cc;
}
every_ended c first (ev ∷ es) good legal =
    let h = history_after c first es in
    let had = every c first es good legal.0 in
    let gone = every_aborted c first es good legal.0 in
    ended_step c first h ev (owes c first h ev good had.0 had.2 legal.1)
    (owes_releases c first h ev good had.0 legal.1)
    (owes_abortion c first h ev had.0 gone.1 legal.1.accepted) had.3.places gone.0
    (every_ended c first es good legal.0)

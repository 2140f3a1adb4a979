-- What was carried out under a source and a request ID is the one message that ground gave them.
use Rattle.std.proofs.Common.{◌≡◌, ◌∙◌, ap, sym, refl, ℕ, zero, suc, ◌+◌, ◌-◌, Bool, true, false, if◌then◌else◌, List, [], ◌∷◌, length, drop, Option, Some, None}
use Rattle.std.specs.List.{slice_get, find}
use Rattle.std.specs.Option.{is_some, option_or, option_and_then}
use Rattle.lpt_packet.specs.declared.direction.Direction.{Direction}
use Rattle.lpt_packet.specs.declared.direction.Direction.TheVariants.{Up}
use Rattle.lpt_packet.specs.Names.{Name}
use Rattle.lpt_pus.specs.Numbers.{long_at}
use Rattle.lpt_events.proofs.LaneLemmas.{same_direction-true}
use Rattle.lpt_events.specs.declared.config.Config.{Config}
use Rattle.lpt_events.specs.declared.entry.Opening.{Opening}
use Rattle.lpt_events.specs.declared.entry.Release.{Release}
use Rattle.lpt_execution.specs.Reporting.{request_source}
use Rattle.lpt_journal.specs.Headline.{before, WasAsked, IsOfGround}
use Rattle.lpt_journal.specs.Jobs.{went_up}
use Rattle.lpt_journal.specs.Journal.{History}
use Rattle.lpt_journal.specs.Replies.{history_after}
use Rattle.lpt_journal.specs.Senders.{is_opening_of, retires, opened, current}
use Rattle.lpt_journal.proofs.HeadlineLemmas.{headline}
use Rattle.lpt_journal.proofs.Steps.{opening_found}
use Rattle.lpt_journal.proofs.TestLemmas.{get-with_all, get-behind}
use Rattle.lpt_passes.specs.Alone.{IsNamed, CarriedOutIsAlone}

-- what was asked for was so after more happened
asked_before : (c : Config) (n : ℕ) (h : History) (b : List ℕ)
    → WasAsked c (drop n h) b
    → WasAsked c h b
asked_before c zero h b a = a
asked_before c (suc n) [] b a = a
asked_before c (suc n) (x ∷ h) b a =
    let it = asked_before c n h b a in
    record {
      number = suc it.number;
      entry = it.entry;
      is_there = it.is_there;
      source = it.source;
      flags = it.flags;
      service = it.service;
      subtype = it.subtype;
      body = it.body;
      asks = it.asks;
      is_packet = it.is_packet;
    }

-- and so was what was opened
opened_before : (n : ℕ) (h : History) (k : ℕ) (o : Opening)
    → slice_get (opened (drop n h)) k ≡ Some o
    → slice_get (opened h) k ≡ Some o
opened_before zero h k o e = e
opened_before (suc n) [] k o e = e
opened_before (suc n) (x ∷ h) k o e = get-with_all (opened h) x.opens k o (opened_before n h k o e)

found_there : {A : Type 0} (test : A → Bool) (xs : List A) (y : A)
    → find test xs ≡ Some y
    → (k : ℕ) × (slice_get xs k ≡ Some y)
found_there {A} test [] y e = absurd cc
found_there {A} test (x ∷ xs) y e = go (test x) e (found_there test xs y) where
  go : (b : Bool)
      → ◌≡◌ {A = Option A} (if b then Some x else find test xs) (Some y)
      → (find test xs ≡ Some y → (k : ℕ) × (slice_get xs k ≡ Some y))
      → (k : ℕ) × (slice_get (x ∷ xs) k ≡ Some y)
  go true is rest = (0, is)
  go false is rest = let it = rest is in (suc it.0, it.1)

-- the last opening of a transaction is one of its direction
current_opened : (h : History) (d : Direction) (name : Name) (o : Opening)
    → current h d name ≡ Some o
    → (k : ℕ) × (slice_get (opened h) k ≡ Some o) × (o.direction ≡ d)
current_opened [] d name o e = absurd cc
current_opened (x ∷ h) d name o e =
    go (retires x.event d name) (find (is_opening_of d name) x.opens) refl e
    (current_opened h d name o)
  where
    go : (b : Bool) (f : Option Opening)
        → find (is_opening_of d name) x.opens ≡ f
        → ◌≡◌ {A = Option Opening} (if b then None else option_or f (current h d name)) (Some o)
        → (current h d name ≡ Some o
        → (k : ℕ) × (slice_get (opened h) k ≡ Some o) × (o.direction ≡ d))
        → (k : ℕ) × (slice_get (opened (x ∷ h)) k ≡ Some o) × (o.direction ≡ d)
    go true f is k rest = absurd cc
    go false (Some u) is k rest =
        let same : u ≡ o = cc in
        let at = found_there (is_opening_of d name) x.opens u is in
        let one : slice_get x.opens at.0 ≡ Some o = at.1 ∙ ap Some same in (
          length (opened h) + at.0,
          get-behind (opened h) x.opens at.0 o one,
          ap (λ (v : Opening). v.direction) (sym same)
              ∙ (opening_found d name x.opens u is).0,
        )
    go false None is k rest =
        let it = rest k in (it.0, get-with_all (opened h) x.opens it.0 o it.1, it.2)

went_up-is : (t : Direction × Name) → went_up (Some t) ≡ true → t.0 ≡ Up
went_up-is t e = same_direction-true t.0 Up e

pub carried_out_is_alone : CarriedOutIsAlone
carried_out_is_alone c first es from request m good legal alone done =
    let run = done.execution in
    go done.release.of refl
    ((headline c first es good legal).of_ground run.did.place done.release run.did.is_executed)
  where
    h : History
    h = history_after c first es

    r : Release
    r = done.release

    named : IsNamed c from request r.message
    named = record { of_source = done.of_source; is_request = done.is_request }

    go : (of : Option (Direction × Name))
        → r.of ≡ of
        → IsOfGround c h r
        → r.message ≡ m
    go None is it =
        alone.plain r.message
        (asked_before c (length h - r.place) h r.message (it.plain is)) named
    go (Some t) is it =
        let last = it.large (ap is_some is) in
        let now : current (before r.place h) t.0 t.1 ≡ Some last.opening =
        ap (λ o. option_and_then (λ t. current (before r.place h) t.0 t.1) o) (sym is)
        ∙ last.is_current in
        let at = current_opened (before r.place h) t.0 t.1 last.opening now in
        let up : t.0 ≡ Up = went_up-is t (ap went_up (sym is) ∙ it.came_up) in
        last.is_message
        ∙ alone.large at.0 last.opening
        (opened_before (length h - r.place) h at.0 last.opening at.1)
        (at.2 ∙ up)
        (record {
          of_source =
              ap (λ b. request_source c.apid b) (sym last.is_message) ∙ done.of_source;
          is_request = ap (λ b. long_at b 0) (sym last.is_message) ∙ done.is_request;
        })

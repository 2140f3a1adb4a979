-- A pass that goes on, answer by answer.
use Rattle.std.proofs.Common.{◌≡◌, ◌∙◌, refl, sym, ap, subst, ℕ, zero, suc, Bool, true, false, List, [], ◌∷◌, ◌++◌, ◌⊎◌, inl, inr, Option, Some, None, append_assoc, append-nil, if◌then◌else◌, ◌==◌, drop}
use Rattle.std.specs.Prelude.{position}
use Rattle.std.specs.List.{slice_get, list_all}
use Rattle.std.proofs.KnownBytes.{Appends-nil, Appends-trans}
use Rattle.std.specs.Io.KnownBytes.{Appends}
use Rattle.std.proofs.lemmas.Bool.{and_parts, false≢true}
use Rattle.lpt_pus.specs.Telemetry.{Telemetry}
use Rattle.lpt_ground.specs.declared.asked.Asked.{Asked}
use Rattle.lpt_ground.specs.declared.asked.Fate.TheVariants.{Waiting, Done, Failed}
use Rattle.lpt_ground.specs.declared.asked.Terms.{Terms}
use Rattle.lpt_ground.specs.declared.pass.End.{End}
use Rattle.lpt_ground.specs.declared.pass.End.TheVariants as ends
use Rattle.lpt_ground.specs.declared.pass.Step.{Step}
use Rattle.lpt_ground.specs.declared.pass.Step.TheVariants.{Put, Listen, Stop}
use Rattle.lpt_ground.specs.declared.telling.Said.{Said}
use Rattle.lpt_ground.specs.declared.telling.Said.TheVariants as said
use Rattle.lpt_ground.specs.Carrying.{Answer, Nothing, Came, Quiet, Over, AllCome, AllTold, Hears, Stepped, WasTold, Went, state_answered, come_to, step_moved, packets_of, octets_written, written_at}
use Rattle.lpt_ground.specs.Passes.{PassState, has_come, octets_heard, is_done, next_step, put_from, step_from}
use Rattle.lpt_ground.specs.Telling.{fate_by, is_waiting, report_of, said_of}
use Rattle.lpt_ground.proofs.ToldLemmas.{heard-fares}

-- ---- answers, one after the other

come_to-append : (terms : Terms) (s : PassState) (xs ys : List Answer)
    → come_to terms s (xs ++ ys) ≡ come_to terms (come_to terms s xs) ys
come_to-append terms s [] ys = refl
come_to-append terms s (x ∷ xs) ys = come_to-append terms (state_answered terms s x) xs ys

paced-append : (terms : Terms) (s : PassState) (xs ys : List Answer)
    → octets_written terms s (xs ++ ys) ≡ octets_written terms s xs
    ++ octets_written terms (come_to terms s xs) ys
paced-append terms s [] ys = refl
paced-append terms s (x ∷ xs) ys =
    ap (λ (more : List ℕ). written_at s x ++ more)
    (paced-append terms (state_answered terms s x) xs ys)
    ∙ sym (append_assoc (written_at s x) (octets_written terms (state_answered terms s x) xs)
    (octets_written terms (come_to terms (state_answered terms s x) xs) ys))

pub hears-more : (had has more : Option (List Answer)) (xs ys : List Answer)
    → Hears had has xs
    → Hears has more ys
    → Hears had more (xs ++ ys)
hears-more None has more xs ys h k = tt
hears-more (Some old) None more xs ys h k = absurd h
hears-more (Some old) (Some mid) None xs ys h k = absurd k
hears-more (Some old) (Some mid) (Some new) xs ys h k =
    k ∙ ap (λ (front : List Answer). front ++ ys) h ∙ append_assoc old xs ys

pub hears-none : (had has : Option (List Answer)) → has ≡ had → Hears had has []
hears-none None has same = tt
hears-none (Some old) has same =
    subst (λ (o : Option (List Answer)). Hears (Some old) o []) (sym same) (sym (append-nil old))

pub come-more : (P : List ℕ → Type 0) (xs ys : List Answer)
    → AllCome P xs
    → AllCome P ys
    → AllCome P (xs ++ ys)
come-more P [] ys h k = k
come-more P (x ∷ xs) ys h k = (h.0, come-more P xs ys h.1 k)

-- what holds of each answer's packet
pub each-comes : (P : List ℕ → Type 0) (answers : List Answer) (k : ℕ) (o : List ℕ)
    → AllCome P answers
    → slice_get (packets_of answers) k ≡ Some o
    → P o
each-comes P [] k o h is = absurd cc
each-comes P (Nothing ∷ rest) k o h is = each-comes P rest k o h.1 is
each-comes P (Came p ∷ rest) zero o h is = subst P (let same : p ≡ o = cc in same) h.0
each-comes P (Came p ∷ rest) (suc k) o h is = each-comes P rest k o h.1 is
each-comes P (Quiet ∷ rest) k o h is = each-comes P rest k o h.1 is
each-comes P (Over ∷ rest) k o h is = each-comes P rest k o h.1 is

-- a pass that begins
pub went-none : (P : List ℕ → Type 0) (terms : Terms) (s : PassState)
    (had has : Option (List Answer)) (old : Option (List ℕ))
    → has ≡ had
    → Went P terms s s had has old old
went-none P terms s had has old same = record {
  answers = [];
  told = hears-none had has same;
  comes = tt;
  came = refl;
  written = Appends-nil old;
}

-- one that goes on by one answer
pub went-next : (P : List ℕ → Type 0) (terms now : Terms) (s t u : PassState)
    (had has more : Option (List Answer)) (old new newer : Option (List ℕ))
    → now ≡ terms
    → Went P terms s t had has old new
    → Stepped P now t u has more new newer
    → Went P terms s u had more old newer
went-next P terms now s t u had has more old new newer same w x =
    let a = x.answer in
    let step : come_to terms s (w.answers ++ a ∷ []) ≡ state_answered now t a =
    come_to-append terms s w.answers (a ∷ [])
    ∙ ap (λ (m : PassState). state_answered terms m a) (sym w.came)
    ∙ ap (λ (q : Terms). state_answered q t a) (sym same) in
    let text : octets_written terms s (w.answers ++ a ∷ []) ≡ octets_written terms s w.answers
    ++ written_at t a =
    paced-append terms s w.answers (a ∷ [])
    ∙ ap (λ (m : PassState). octets_written terms s w.answers ++ (written_at m a ++ []))
    (sym w.came)
    ∙ ap (λ (l : List ℕ). octets_written terms s w.answers ++ l) (append-nil (written_at t a)) in
    record {
      answers = w.answers ++ a ∷ [];
      told = hears-more had has more w.answers (a ∷ []) w.told x.told;
      comes = come-more P w.answers (a ∷ []) w.comes (x.comes, tt);
      came = x.came ∙ sym step;
      written =
          subst (Appends old newer) (sym text)
          (Appends-trans old new newer (octets_written terms s w.answers) (written_at t a) w.written
          x.written);
    }

-- ---- what was told

-- a request that is put stays as it is
moved-keeps : (s : PassState) (x : Step) (k : ℕ)
    → slice_get (step_moved s x).asked k ≡ slice_get s.asked k
moved-keeps s (Put j) k = refl
moved-keeps s Listen k = refl
moved-keeps s (Stop e) k = refl

-- what is settled stays as it is
stays : (terms : Terms) (s : PassState) (answers : List Answer) (k : ℕ) (a : Asked)
    → slice_get s.asked k ≡ Some a
    → is_waiting a ≡ false
    → slice_get (come_to terms s answers).asked k ≡ Some a
stays terms s [] k a is settled = is
stays terms s (Came o ∷ rest) k a is settled =
    elim (heard-fares terms s o k a is) [
      | inl same ↦ stays terms (octets_heard terms s o) rest k a same settled
      | inr one ↦ absurd (false≢true (sym settled ∙ one.is_told.waited))
    ]
stays terms s (Nothing ∷ rest) k a is settled =
    stays terms (step_moved s (next_step s)) rest k a (moved-keeps s (next_step s) k ∙ is) settled
stays terms s (Quiet ∷ rest) k a is settled =
    stays terms (state_answered terms s Quiet) rest k a is settled
stays terms s (Over ∷ rest) k a is settled =
    stays terms (state_answered terms s Over) rest k a is settled

-- a request is there at the end, and isn't done, or was told by these packets
pub record Ends (terms : Terms) (a : Asked) (packets : List (List ℕ)) (ys : List Asked)
    (k : ℕ) : Type 0 where
  pub end : Asked
  pub is_there : slice_get ys k ≡ Some end
  pub fares : (is_done end ≡ false) ⊎ WasTold terms a packets

-- told by one more
later : (terms : Terms) (a : Asked) (o : List ℕ) (packets : List (List ℕ)) (ys : List Asked)
    (k : ℕ)
    → Ends terms a packets ys k
    → Ends terms a (o ∷ packets) ys k
later terms a o packets ys k e = record {
  end = e.end;
  is_there = e.is_there;
  fares =
      elim e.fares [
        | inl open_still ↦ inl open_still
        | inr w ↦ inr (record {
          number = suc w.number;
          packet = w.packet;
          is_there = w.is_there;
          tells = w.tells;
        })
      ];
}

-- what a packet says of a request is its end
told-end : (terms : Terms) (s : PassState) (rest : List Answer) (o : List ℕ) (k : ℕ) (a : Asked)
    (t : Telemetry) (f : Said)
    → report_of terms o ≡ Some t
    → said_of terms.starts t a ≡ Some f
    → slice_get (octets_heard terms s o).asked k ≡ Some (record a { fate = fate_by f o })
    → Ends terms a (o ∷ packets_of rest) (come_to terms (octets_heard terms s o) rest).asked k
told-end terms s rest o k a t said.Done by says is = record {
  end = record a { fate = Done o };
  is_there = stays terms (octets_heard terms s o) rest k (record a { fate = Done o }) is refl;
  fares = inr (record {
    number = 0;
    packet = o;
    is_there = refl;
    tells = record { report = t; is_report = by; says = says };
  });
}
told-end terms s rest o k a t (said.Failed code) by says is = record {
  end = record a { fate = Failed code };
  is_there = stays terms (octets_heard terms s o) rest k (record a { fate = Failed code }) is refl;
  fares = inl refl;
}

fares : (terms : Terms) (s : PassState) (answers : List Answer) (k : ℕ) (a : Asked)
    → slice_get s.asked k ≡ Some a
    → a.fate ≡ Waiting
    → Ends terms a (packets_of answers) (come_to terms s answers).asked k
fares terms s [] k a is waiting =
    record { end = a; is_there = is; fares = inl (ap has_come waiting) }
fares terms s (Came o ∷ rest) k a is waiting =
    elim (heard-fares terms s o k a is) [
      | inl same ↦
          later terms a o (packets_of rest) (come_to terms (octets_heard terms s o) rest).asked k
          (fares terms (octets_heard terms s o) rest k a same waiting)
      | inr one ↦
          told-end terms s rest o k a one.report one.is_told.said one.is_report one.is_told.says
          one.is_told.is_there
    ]
fares terms s (Nothing ∷ rest) k a is waiting =
    fares terms (step_moved s (next_step s)) rest k a (moved-keeps s (next_step s) k ∙ is) waiting
fares terms s (Quiet ∷ rest) k a is waiting =
    fares terms (state_answered terms s Quiet) rest k a is waiting
fares terms s (Over ∷ rest) k a is waiting =
    fares terms (state_answered terms s Over) rest k a is waiting

-- ---- a pass that is done

ends-done : (b : Bool) → Stop (if b then ends.Done else ends.Failed) ≡ Stop ends.Done → b ≡ true
ends-done true is = refl
ends-done false is = absurd cc

goes-on : (s : PassState) (first : ℕ) (p : Option ℕ) (e : End) → put_from s first p ≡ Stop e → ⊥
goes-on s first (Some k) e is = cc
goes-on s first None e is = waits-or-puts (s.owed == 0) is
  where
    waits-or-puts : (b : Bool) → (if b then Listen else Put first) ≡ Stop e → ⊥
    waits-or-puts true is = cc
    waits-or-puts false is = cc

not-done : (ended given : Bool) (x : Step)
    → (x ≡ Stop ends.Done → ⊥)
    → (if ended then Stop ends.Ended else if given then Stop ends.Given else x) ≡ Stop ends.Done
    → ⊥
not-done true given x on is = cc
not-done false true x on is = cc
not-done false false x on is = on is

step-done : (s : PassState) (p : Option ℕ)
    → step_from s p ≡ Stop ends.Done
    → list_all is_done s.asked ≡ true
step-done s None is = ends-done (list_all is_done s.asked) is
step-done s (Some first) is =
    absurd (not-done s.ended (s.left == 0)
    (put_from s first (position is_waiting (drop s.at s.asked)))
    (goes-on s first (position is_waiting (drop s.at s.asked)) ends.Done) is)

all-done : (s : PassState) → next_step s ≡ Stop ends.Done → list_all is_done s.asked ≡ true
unfolding next_step
all-done s is = step-done s (position is_waiting s.asked) is

entry-done : (xs : List Asked) (k : ℕ) (b : Asked)
    → list_all is_done xs ≡ true
    → slice_get xs k ≡ Some b
    → is_done b ≡ true
entry-done [] k b all is = absurd cc
entry-done (x ∷ xs) zero b all is =
    let same : x ≡ b = cc in
    ap is_done (sym same) ∙ (and_parts (is_done x) (list_all is_done xs) all).0
entry-done (x ∷ xs) (suc k) b all is =
    entry-done xs k b (and_parts (is_done x) (list_all is_done xs) all).1 is

-- where a pass ends as done, each request that waited was told by a packet that was heard
pub done-told : (terms : Terms) (s : PassState) (answers : List Answer)
    → next_step (come_to terms s answers) ≡ Stop ends.Done
    → AllTold terms s.asked (packets_of answers)
done-told terms s answers is k a there waiting =
    let e = fares terms s answers k a there waiting in
    elim e.fares [
      | inl open_still ↦
          absurd (false≢true (sym open_still ∙ entry-done (come_to terms s answers).asked k e.end
          (all-done (come_to terms s answers) is) e.is_there))
      | inr w ↦ w
    ]

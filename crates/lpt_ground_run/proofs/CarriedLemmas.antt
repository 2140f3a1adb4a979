-- How a pass that was carried ends.
use Rattle.std.proofs.Common.{◌≡◌, ◌∙◌, ap, sym, refl, subst, ℕ, List, [], ◌∷◌, ◌++◌, ◌⊎◌, inl, inr, map, suc, Option, Some, Result, Ok, Err}
use Rattle.std.specs.Io.KnownBytes.{Appends}
use Rattle.std.specs.Prelude.{IfOk, OnOk}
use Rattle.std.specs.List.{slice_get}
use Rattle.lpt_text.specs.declared.fault.StreamFault.{StreamFault}
use Rattle.lpt_ground.specs.declared.asked.Terms.{Terms}
use Rattle.lpt_ground.specs.declared.pass.End.{End}
use Rattle.lpt_ground.specs.declared.pass.Step.TheVariants.{Stop}
use Rattle.lpt_ground.specs.Carrying.{AllCome, Answer, Came, Nothing, Over, Quiet, Went, state_answered, come_to, octets_written}
use Rattle.lpt_ground.specs.Passes.{PassState, next_step}
use Rattle.lpt_ground.proofs.CarryLemmas.{come-more, done-told}
use Rattle.lpt_ground.specs.declared.large.Large.{Large}
use Rattle.lpt_ground.specs.CarryingLarge as large
use Rattle.lpt_ground.specs.Uplinks.{Way, next_way}
use Rattle.lpt_ground.proofs.UplinkLemmas.{done-is-told}
use Rattle.lpt_ground_run.specs.Carried.{CameTo, CameUp}
use Rattle.lpt_ground_run.specs.Handing.{IsPacketOf}
use Rattle.lpt_ground_run.specs.Laws.{IsAmong, KeptRunsAreOnePass}

-- what holds of how it ended holds of what it ended as, once the notes were told
pub by-end : (P : End → Type 0) (ended r : Result End StreamFault)
    → IfOk r (λ e. ended ≡ Ok e)
    → IfOk ended P
    → IfOk r P
by-end P ended (Err e) is p = tt
by-end P (Err f) (Ok e) is p = absurd cc
by-end P (Ok f) (Ok e) is p = subst P (let same : f ≡ e = cc in same) p

pub came-up : (P : List ℕ → Type 0) (l m : Large) (terms : Terms) (w v : Way)
    (had has : Option (List Answer)) (old new : Option (List ℕ)) (r : Result End StreamFault)
    → m ≡ l
    → IfOk r (λ e. next_way m v ≡ Stop e)
    → OnOk r (large.Went P l terms w v had has old new)
    → IfOk r (CameUp P l terms w v old new)
came-up P l m terms w v had has old new (Err e) same stop went = tt
came-up P l m terms w v had has old new (Ok e) same stop went =
    let ends : next_way l v ≡ Stop e = ap (λ (k : Large). next_way k v) (sym same) ∙ stop in
    record {
      answers = went.answers;
      comes = went.comes;
      came = went.came;
      ends = ends;
      written = went.written;
      told = λ is. done-is-told l terms w went.answers
          (ap (next_way l) (sym went.came) ∙ ends ∙ ap Stop is);
    }

pub came-to : (P : List ℕ → Type 0) (terms : Terms) (s t : PassState)
    (had has : Option (List Answer)) (old new : Option (List ℕ)) (r : Result End StreamFault)
    → IfOk r (λ e. next_step t ≡ Stop e)
    → OnOk r (Went P terms s t had has old new)
    → IfOk r (CameTo P terms s t old new)
came-to P terms s t had has old new (Err e) stop went = tt
came-to P terms s t had has old new (Ok e) stop w = record {
  answers = w.answers;
  comes = w.comes;
  came = w.came;
  ends = stop;
  written = w.written;
  told = λ is. done-told terms s w.answers (ap next_step (sym w.came) ∙ stop ∙ ap Stop is);
}

came-append : (terms : Terms) (s : PassState) (ps : List (List ℕ)) (xs : List Answer)
    → come_to terms s (map Came ps ++ xs) ≡ come_to terms (come_to terms s (map Came ps)) xs
came-append terms s [] xs = refl
came-append terms s (p ∷ ps) xs = came-append terms (state_answered terms s (Came p)) ps xs

paced-append : (terms : Terms) (s : PassState) (ps : List (List ℕ)) (xs : List Answer)
    → octets_written terms s (map Came ps ++ xs)
    ≡ octets_written terms (come_to terms s (map Came ps)) xs
paced-append terms s [] xs = refl
paced-append terms s (p ∷ ps) xs = paced-append terms (state_answered terms s (Came p)) ps xs

-- what was kept is among what was kept
kept-come : (P : List ℕ → Type 0) (all ps : List (List ℕ))
    → ((k : ℕ) (o : List ℕ) → slice_get ps k ≡ Some o → IsAmong all o)
    → AllCome (λ (o : List ℕ). P o ⊎ IsAmong all o) (map Came ps)
kept-come P all [] each = tt
kept-come P all (p ∷ ps) each =
    (inr (each 0 p refl), kept-come P all ps (λ k o is. each (suc k) o is))

-- what came still does
came-still : (P Q : List ℕ → Type 0) (xs : List Answer)
    → ((o : List ℕ) → P o → Q o)
    → AllCome P xs
    → AllCome Q xs
came-still P Q [] each h = tt
came-still P Q (Nothing ∷ rest) each h = (tt, came-still P Q rest each h.1)
came-still P Q (Came o ∷ rest) each h = (each o h.0, came-still P Q rest each h.1)
came-still P Q (Quiet ∷ rest) each h = (tt, came-still P Q rest each h.1)
came-still P Q (Over ∷ rest) each h = (tt, came-still P Q rest each h.1)

-- a pass that heard again what was kept, and then was carried to its end
pub one-pass : KeptRunsAreOnePass
one-pass longest down terms s t u octets all old new end h c =
    let P : List ℕ → Type 0 = IsPacketOf longest down in
    let xs : List Answer = map Came h.packets ++ c.answers in
    let came : u ≡ come_to terms s xs =
    c.came ∙ ap (λ (m : PassState). come_to terms m c.answers) h.came
    ∙ sym (came-append terms s h.packets c.answers) in
    record {
      answers = xs;
      comes =
          come-more (λ (o : List ℕ). P o ⊎ IsAmong h.packets o) (map Came h.packets) c.answers
          (kept-come P h.packets h.packets (λ k o is. (k, is)))
          (came-still P (λ (o : List ℕ). P o ⊎ IsAmong h.packets o) c.answers
          (λ o p. inl p) c.comes);
      came = came;
      ends = c.ends;
      written =
          subst (Appends old new)
          (ap (λ (m : PassState). octets_written terms m c.answers) h.came
          ∙ sym (paced-append terms s h.packets c.answers)) c.written;
      told = λ is. done-told terms s xs (ap next_step (sym came) ∙ c.ends ∙ ap Stop is);
    }

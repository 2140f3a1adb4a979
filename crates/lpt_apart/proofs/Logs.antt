-- What a world's lists of openings and releases grew by is what the log says, and what it answers.
use Rattle.std.proofs.Common.{◌≡◌, ◌∙◌, ap, sym, refl, ℕ, Bool, true, false, List, [], ◌∷◌, ◌++◌, Option, Some, None, is_some}
use Rattle.std.specs.List.{find}
use Rattle.std.specs.Prelude.{cond}
use Rattle.lpt_packet.specs.declared.direction.Direction.{Direction}
use Rattle.lpt_packet.specs.declared.direction.Direction.TheVariants.{Down}
use Rattle.lpt_packet.specs.Names.{Name}
use Rattle.lpt_events.specs.declared.entry.Opening.{Opening}
use Rattle.lpt_events.specs.declared.entry.Release.{Release}
use Rattle.lpt_events.specs.declared.outcome.Outcome.{Outcome}
use Rattle.lpt_events.specs.declared.reply.Answer.{Answer}
use Rattle.lpt_model.specs.State.{add_opening, add_release, released_of, put_some}
use Rattle.lpt_journal.specs.Journal.{with_all}
use Rattle.lpt_journal.specs.Senders.{is_opening_of}
use Rattle.lpt_refinement.proofs.LinkShown.{with_all-append}
use Rattle.lpt_apart.specs.Ends.{Log, is_same, with_release, with_report}
use Rattle.lpt_apart.specs.TwoEnds.{is_reported}
use Rattle.lpt_apart.specs.Told.{with_openings, with_releases}

-- what stands behind a list is determined by the whole
same_rest : {A : Type 0} (xs ys zs : List A) → xs ++ ys ≡ xs ++ zs → ys ≡ zs
same_rest [] ys zs e = e
same_rest (x ∷ xs) ys zs e = let rest : xs ++ ys ≡ xs ++ zs = cc in same_rest xs ys zs rest

nothing_more : {A : Type 0} (xs ys : List A) → xs ≡ with_all xs ys → ys ≡ []
nothing_more xs [] e = refl
nothing_more xs (y ∷ ys) e = go xs e where
  go : {A : Type 0} {y : A} {ys : List A} (xs : List A) → xs ≡ xs ++ y ∷ ys → (y ∷ ys) ≡ []
  go [] e = absurd cc
  go {y = y} {ys = ys} (x ∷ xs) e = let rest : xs ≡ xs ++ y ∷ ys = cc in go xs rest

one_more : {A : Type 0} (xs : List A) (x : A) (ys : List A)
    → xs ++ x ∷ [] ≡ with_all xs ys
    → ys ≡ x ∷ []
one_more xs x ys e = sym (same_rest xs (x ∷ []) ys (e ∙ with_all-append xs ys))

-- the report that was opened, or none
pub opened_told : (os : List Opening) (place : ℕ) (o : Option (Name × List ℕ)) (new : List Opening)
    (log : Log)
    → add_opening os place o ≡ with_all os new
    → with_openings new log ≡ with_report log o
opened_told os place None new log e =
    ap (λ (n : List Opening). with_openings n log) (nothing_more os new e)
opened_told os place (Some x) new log e =
    ap (λ (n : List Opening). with_openings n log) (one_more os _ new e)

-- whether it is of a transaction
pub opened_of_it : (os : List Opening) (place : ℕ) (o : Option (Name × List ℕ)) (new : List Opening)
    (d : Direction) (name : Name)
    → add_opening os place o ≡ with_all os new
    → is_some (find (is_opening_of d name) new) ≡ is_reported o d name
opened_of_it os place None new d name e =
    ap (λ (n : List Opening). is_some (find (is_opening_of d name) n)) (nothing_more os new e)
opened_of_it os place (Some x) new d name e =
    ap (λ (n : List Opening). is_some (find (is_opening_of d name) n)) (one_more os _ new e)
    ∙ go (is_same Down x.0 d name) _ where
      go : (b : Bool) (o : Opening) → is_some (cond b (Some o) None) ≡ b
      go true o = refl
      go false o = refl

-- the message that was released, or none
pub released_told : (rs : List Release) (place : ℕ) (d : Direction) (o : Outcome)
    (m : Option (List ℕ))
    (new : List Release) (log : Log)
    → add_release rs place d o m ≡ with_all rs new
    → with_releases new log ≡ with_release log (released_of d o) m
released_told rs place d o None new log e =
    ap (λ (n : List Release). with_releases n log) (nothing_more rs new e)
released_told rs place d o (Some m) new log e =
    ap (λ (n : List Release). with_releases n log) (one_more rs _ new e)

-- a reply that puts packets has its answer
pub put_some-answer : (n : ℕ) (a : Answer) (bs : List (List ℕ)) → (put_some n a bs).answer ≡ a
put_some-answer n a [] = refl
put_some-answer n a (b ∷ bs) = refl

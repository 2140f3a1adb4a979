-- What is written of a request as C is told it is what it makes of the memories.
use Rattle.std.proofs.Common.{◌≡◌, ◌∙◌, ap, sym, subst, refl, ℕ, zero, suc, ◌+◌, List, [], ◌∷◌, ◌++◌, drop, length, Option, Some, None, Ok, Err, arith}
use Rattle.std.specs.Prelude.{slice_get, ⊤}
use Rattle.std.specs.Option.{option_and_then, option_map}
use Rattle.lpt_c_end.specs.Accesses.{access_word, access_of, text_by, written_by}
use Rattle.lpt_c_end.specs.Codes.{node_code, nothing}
use Rattle.lpt_c_end.specs.Kept.{text_or_nothing}
use Rattle.lpt_c_end.specs.declared.accessing.LptAccess.{LptAccess}
use Rattle.lpt_c_end.specs.declared.end.End.{End}
use Rattle.lpt_c_pair.specs.Programs.{ToldWrite, put_told, IsTold, AreTold}
use Rattle.lpt_jobs.specs.Jobs.{Head, Ready, head_of}
use Rattle.lpt_memory.specs.declared.given.Access.{Access}
use Rattle.lpt_memory.specs.declared.request.Area.{Area}
use Rattle.lpt_memory.specs.Given.{accesses, octets_read, put_each, octets_written}
use Rattle.lpt_memory.specs.Meanings.{Meaning, Silent, Fault, Load, Dump, Check}
use Rattle.lpt_memory.specs.Memories.{Contents, effect, memories_loaded}
use Rattle.lpt_memory.specs.Readings.{Source, source_meaning}
use Rattle.lpt_memory.proofs.GivenLemmas.{written-effect}
use Rattle.lpt_node.specs.Jobs.{front_reading, refusal_apply_of}

-- ---- lists

-- a list from a place on begins with what stands there
drop_some : {A : Type 0} (xs : List A) (n : ℕ) (x : A)
    → slice_get xs n ≡ Some x
    → drop n xs ≡ x ∷ drop (n + 1) xs
drop_some [] n x at = absurd (let none : None ≡ Some x = at in cc)
drop_some (y ∷ ys) zero x at = let same : y ≡ x = cc in ap (λ z. z ∷ ys) same
drop_some (y ∷ ys) (suc n) x at =
    let next : suc (n + 1) ≡ suc n + 1 = omega arith in
    drop_some ys n x at ∙ ap (λ (k : ℕ). x ∷ drop k (y ∷ ys)) next

-- and has ended where nothing does
drop_none : {A : Type 0} (xs : List A) (n : ℕ) → slice_get xs n ≡ None → drop n xs ≡ []
drop_none [] zero at = refl
drop_none [] (suc n) at = refl
drop_none (y ∷ ys) zero at = absurd (let some : Some y ≡ None = at in cc)
drop_none (y ∷ ys) (suc n) at = drop_none ys n at

-- ---- writes one after the other

-- some, and then others
pub put_told-append : (xs ys : List ToldWrite) (ms : Contents)
    → put_told (xs ++ ys) ms ≡ put_told ys (put_told xs ms)
put_told-append [] ys ms = refl
put_told-append (x ∷ xs) ys ms =
    put_told-append xs ys
    (memories_loaded x.access.memory (record { address = x.access.address; octets = x.octets } ∷ [])
    ms)

-- these are the accesses of a list from a number on, with the octets of another
abbrev pub AreOf : List Access → List (List ℕ) → ℕ → List ToldWrite → Type 0
AreOf all octets n [] = slice_get octets n ≡ None
AreOf all octets n (t ∷ ts) =
    (option_map access_word (slice_get all n) ≡ Some t.access)
    × (slice_get octets n ≡ Some t.octets)
    × AreOf all octets (n + 1) ts

put_nothing : (all : List Access) (ms : Contents) → put_each all [] ms ≡ ms
put_nothing [] ms = refl
put_nothing (a ∷ rest) ms = refl

-- the first of them, and the rest
put_first : (all : List Access) (octets : List (List ℕ)) (n : ℕ) (t : ToldWrite)
    (ts : List ToldWrite)
    (ms : Contents) (o : Option Access)
    → slice_get all n ≡ o
    → option_map access_word o ≡ Some t.access
    → slice_get octets n ≡ Some t.octets
    → ((x : Contents) → put_told ts x ≡ put_each (drop (n + 1) all) (drop (n + 1) octets) x)
    → put_told (t ∷ ts) ms ≡ put_each (drop n all) (drop n octets) ms
put_first all octets n t ts ms None at is has rest =
    absurd (let none : None ≡ Some t.access = is in cc)
put_first all octets n t ts ms (Some a) at is has rest =
    let same : access_word a ≡ t.access = cc in
    rest (memories_loaded t.access.memory
    (record { address = t.access.address; octets = t.octets } ∷ []) ms)
    ∙ ap (λ (w : LptAccess). put_each (drop (n + 1) all) (drop (n + 1) octets)
    (memories_loaded w.memory (record { address = w.address; octets = t.octets } ∷ []) ms))
    (sym same)
    ∙ (λ i. put_each (sym (drop_some all n a at) i) (sym (drop_some octets n t.octets has) i) ms)

put_from : (all : List Access) (octets : List (List ℕ)) (n : ℕ) (ts : List ToldWrite)
    (ms : Contents)
    → AreOf all octets n ts
    → put_told ts ms ≡ put_each (drop n all) (drop n octets) ms
put_from all octets n [] ms are =
    sym (ap (λ (os : List (List ℕ)). put_each (drop n all) os ms) (drop_none octets n are)
    ∙ put_nothing (drop n all) ms)
put_from all octets n (t ∷ ts) ms are =
    put_first all octets n t ts ms (slice_get all n) refl are.0 are.1
    (λ x. put_from all octets (n + 1) ts x are.2)

-- ---- what the calls tell

-- a text is there
pub is_there : (o : Option (List ℕ)) (b : List ℕ) → text_or_nothing o ≡ Ok b → o ≡ Some b
is_there None b is = absurd cc
is_there (Some x) b is = let same : x ≡ b = cc in ap (λ (y : List ℕ). Some y) same

-- or none is
is_nothing : (o : Option (List ℕ)) → text_or_nothing o ≡ Err nothing → o ≡ None
is_nothing None is = refl
is_nothing (Some x) is = absurd cc

module _ (e : End) (r : Source) (front : head_of e.node.at.jobs.jobs ≡ Ready r) where
  pub tells : (n : ℕ)
      → access_of n e ≡ option_map access_word (slice_get (accesses (source_meaning r)) n)
  tells n =
      ap (λ (h : Head). option_and_then
      (λ (s : Source). option_map access_word (slice_get (accesses (source_meaning s)) n))
      (front_reading h)) front

  pub copies : (n : ℕ)
      → written_by n (Some e) ≡ text_or_nothing (slice_get (octets_written (source_meaning r)) n)
  copies n =
      ap (λ (h : Head). text_by (node_code (refusal_apply_of h))
      (option_and_then (λ (s : Source). slice_get (octets_written (source_meaning s)) n)
      (front_reading h))) front

  pub are_of : (n : ℕ) (ts : List ToldWrite)
      → AreTold n ts e
      → AreOf (accesses (source_meaning r)) (octets_written (source_meaning r)) n ts
  are_of n [] told =
      is_nothing (slice_get (octets_written (source_meaning r)) n) (sym (copies n) ∙ told)
  are_of n (t ∷ ts) told = (
    sym (tells n) ∙ told.0.access,
    is_there (slice_get (octets_written (source_meaning r)) n) t.octets
        (sym (copies n) ∙ told.0.octets),
    are_of (n + 1) ts told.1,
  )

  -- all that they tell is what the request makes of the memories
  pub told_is_effect : (ts : List ToldWrite) (ms : Contents)
      → AreTold 0 ts e
      → put_told ts ms ≡ effect (source_meaning r) ms
  told_is_effect ts ms told =
      put_from (accesses (source_meaning r)) (octets_written (source_meaning r)) 0 ts ms
      (are_of 0 ts told)
      ∙ written-effect (source_meaning r) ms

-- ---- what is read

-- nothing is written by a request that reads
none_written : (all : List Access) (ahead owed : List ToldWrite) (ms : Contents)
    → AreOf all [] 0 (ahead ++ owed)
    → put_told ahead ms ≡ ms
none_written all [] owed ms are = refl
none_written all (t ∷ ahead) owed ms are =
    absurd (let none : None ≡ Some t.octets = are.1 in cc)

-- a request reads the same behind its own writes
pub reads_same : (m : Meaning) (ahead owed : List ToldWrite) (ms : Contents)
    → AreOf (accesses m) (octets_written m) 0 (ahead ++ owed)
    → octets_read m (put_told ahead ms) ≡ octets_read m ms
reads_same Silent ahead owed ms are = refl
reads_same (Fault code) ahead owed ms are = refl
reads_same (Load id areas) ahead owed ms are = reads_nothing areas where
  reads_nothing : (rest : List Area)
      → octets_read (Load id rest) (put_told ahead ms) ≡ octets_read (Load id rest) ms
  reads_nothing [] = refl
  reads_nothing (a ∷ rest) = reads_nothing rest
reads_same (Dump id ranges) ahead owed ms are =
    ap (octets_read (Dump id ranges))
    (none_written (accesses (Dump id ranges)) ahead owed ms are)
reads_same (Check id ranges) ahead owed ms are =
    ap (octets_read (Check id ranges))
    (none_written (accesses (Check id ranges)) ahead owed ms are)

-- ---- what was told one after the other

-- these were told by the numbers from this on
abbrev pub WereTold : (number : ℕ) → List ToldWrite → End → Type 0
WereTold number [] e = ⊤
WereTold number (t ∷ ts) e = IsTold number t e × WereTold (number + 1) ts e

-- and one more
pub told_more : (n : ℕ) (ts : List ToldWrite) (t : ToldWrite) (e : End)
    → WereTold n ts e
    → IsTold (n + length ts) t e
    → WereTold n (ts ++ t ∷ []) e
told_more n [] t e were one =
    let here : n + 0 ≡ n = omega arith in
    (subst (λ (k : ℕ). IsTold k t e) here one, tt)
told_more n (x ∷ ts) t e were one =
    let next : n + length (x ∷ ts) ≡ (n + 1) + length ts = omega arith in
    (were.0, told_more (n + 1) ts t e were.1 (subst (λ (k : ℕ). IsTold k t e) next one))

-- and all others
pub told_all : (n : ℕ) (ts others : List ToldWrite) (e : End)
    → WereTold n ts e
    → AreTold (n + length ts) others e
    → AreTold n (ts ++ others) e
told_all n [] others e were rest =
    let here : n + 0 ≡ n = omega arith in subst (λ (k : ℕ). AreTold k others e) here rest
told_all n (x ∷ ts) others e were rest =
    let next : n + length (x ∷ ts) ≡ (n + 1) + length ts = omega arith in (
      were.0,
      told_all (n + 1) ts others e were.1
          (subst (λ (k : ℕ). AreTold k others e) next rest),
    )

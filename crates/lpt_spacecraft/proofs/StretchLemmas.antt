-- Stretches that are cut off the front of a stream.
use Rattle.std.proofs.Common.{◌≡◌, ◌∙◌, ap, sym, subst, refl, ℕ, Bool, true, List, [], ◌∷◌, ◌++◌, take, drop, append-nil, append_assoc}
use Rattle.lpt_spacecraft.specs.Fronts.{StandsSo}
use Rattle.lpt_spacecraft.specs.Stretches.{Stretch, Framed, Passed, octets_of, stretch_octets, AreStretches, IsCutInto, IsStretch}
use Rattle.lpt_spacecraft.specs.declared.passing.Passing.{Passing}

-- the octets of stretches, with one more
pub stretch-next : (ss : List Stretch) (s : Stretch)
    → stretch_octets (ss ++ s ∷ []) ≡ stretch_octets ss ++ octets_of s
stretch-next [] s = append-nil (octets_of s)
stretch-next (r ∷ ss) s =
    ap (λ x. octets_of r ++ x) (stretch-next ss s)
    ∙ sym (append_assoc (octets_of r) (stretch_octets ss) (octets_of s))

-- one stretch more
stretches-more : (p : Passing) (s : Bool) (b : List ℕ) (ss : List Stretch) (x : Stretch)
    (t u : Bool) (rest now : List ℕ)
    → AreStretches p s b ss t rest
    → IsStretch p t rest x u now
    → AreStretches p s b (ss ++ x ∷ []) u now
stretches-more p s b [] x t u rest now h one = (
  u,
  now,
  subst (λ c. IsStretch p s c x u now) (sym h.1)
      (subst (λ r. IsStretch p r rest x u now) (sym h.0) one),
  (refl, refl),
)
stretches-more p s b (y ∷ ss) x t u rest now h one =
    (h.0, h.1, h.2, stretches-more p h.0 h.1 ss x t u rest now h.3 one)

-- their octets and those behind them are all
stretches-whole : (p : Passing) (s : Bool) (b : List ℕ) (ss : List Stretch) (t : Bool)
    (rest : List ℕ)
    → AreStretches p s b ss t rest
    → b ≡ stretch_octets ss ++ rest
stretches-whole p s b [] t rest h = h.1
stretches-whole p s b (x ∷ ss) t rest h =
    h.2.whole ∙ ap (λ y. octets_of x ++ y) (stretches-whole p h.0 h.1 ss t rest h.3)
    ∙ sym (append_assoc (octets_of x) (stretch_octets ss) rest)

-- a stream is cut so, whatever comes behind, or at its end nothing
abbrev pub IsCutSoFar : Passing → (stream : List ℕ) → List Stretch → (ended in_step : Bool)
    → (rest : List ℕ) → Type 0
IsCutSoFar p stream ss ended t rest =
    (more : List ℕ) → (ended ≡ true → more ≡ [])
    → AreStretches p true (stream ++ more) ss t (rest ++ more)

-- with nothing behind
cut-now : (p : Passing) (stream : List ℕ) (ss : List Stretch) (ended t : Bool) (rest : List ℕ)
    → IsCutSoFar p stream ss ended t rest
    → AreStretches p true stream ss t rest
cut-now p stream ss ended t rest h =
    subst (λ x. AreStretches p true x ss t rest) (append-nil stream)
    (subst (AreStretches p true (stream ++ []) ss t) (append-nil rest) (h [] (λ e. refl)))

pub cut-here : (p : Passing) (stream : List ℕ) (ss : List Stretch) (ended t : Bool)
    (rest : List ℕ)
    → IsCutSoFar p stream ss ended t rest
    → IsCutInto p stream ss rest
cut-here p stream ss ended t rest h = (t, cut-now p stream ss ended t rest h)

pub cut-whole : (p : Passing) (stream : List ℕ) (ss : List Stretch) (ended t : Bool)
    (rest : List ℕ)
    → IsCutSoFar p stream ss ended t rest
    → stream ≡ stretch_octets ss ++ rest
cut-whole p stream ss ended t rest h =
    stretches-whole p true stream ss t rest (cut-now p stream ss ended t rest h)

-- of nothing
pub so-far-none : (p : Passing) (ended step : Bool) (rest : List ℕ)
    → rest ≡ []
    → step ≡ true
    → IsCutSoFar p [] [] ended step rest
so-far-none p ended step rest none on =
    λ more last. (sym on, ap (λ x. x ++ more) (sym none))

pub no-more : (read more : List ℕ) → read ≡ [] → more ≡ [] → read ++ more ≡ []
no-more read more e f = ap (λ x. x ++ more) e ∙ f

-- with more read behind, and behind the stream's end none
pub so-far-more : (p : Passing) (stream : List ℕ) (ss : List Stretch) (ended now t : Bool)
    (rest read left : List ℕ)
    → IsCutSoFar p stream ss ended t rest
    → (ended ≡ true → (now ≡ true) × (read ≡ []))
    → left ≡ rest ++ read
    → IsCutSoFar p (stream ++ read) ss now t left
so-far-more p stream ss ended now t rest read left h stays is =
    λ more last.
    let all = h (read ++ more) (λ e. no-more read more (stays e).1 (last (stays e).0)) in
    subst (λ x. AreStretches p true x ss t (left ++ more)) (sym (append_assoc stream read more))
    (subst (AreStretches p true (stream ++ (read ++ more)) ss t)
    (sym (append_assoc rest read more) ∙ ap (λ x. x ++ more) (sym is)) all)

-- with the stretch in front passed over
so-far-next : (p : Passing) (stream : List ℕ) (ss : List Stretch) (x : Stretch)
    (ended over t u : Bool) (rest now : List ℕ)
    → IsCutSoFar p stream ss ended t rest
    → StandsSo p t ended rest x u now
    → over ≡ ended
    → IsCutSoFar p stream (ss ++ x ∷ []) over u now
so-far-next p stream ss x ended over t u rest now h front same =
    λ more last.
    let still : ended ≡ true → more ≡ [] = λ e. last (same ∙ e) in
    stretches-more p true (stream ++ more) ss x t u (rest ++ more) (now ++ more) (h more still)
    (front more still)

-- a packet
pub so-far-frame : (p : Passing) (stream : List ℕ) (ss : List Stretch) (ended over t on : Bool)
    (rest now : List ℕ) (len : ℕ)
    → IsCutSoFar p stream ss ended t rest
    → StandsSo p t ended rest (Framed (take len rest)) true (drop len rest)
    → now ≡ drop len rest
    → over ≡ ended
    → on ≡ true
    → IsCutSoFar p stream (ss ++ Framed (take len rest) ∷ []) over on now
so-far-frame p stream ss ended over t on rest now len h front is same step =
    subst (λ u. IsCutSoFar p stream (ss ++ Framed (take len rest) ∷ []) over u now) (sym step)
    (subst (IsCutSoFar p stream (ss ++ Framed (take len rest) ∷ []) over true) (sym is)
    (so-far-next p stream ss (Framed (take len rest)) ended over t true rest (drop len rest) h
    front same))

-- or a run
pub so-far-run : (p : Passing) (stream : List ℕ) (ss : List Stretch) (ended t on : Bool)
    (rest now : List ℕ) (len : ℕ)
    → IsCutSoFar p stream ss ended t rest
    → StandsSo p t ended rest (Passed (take len rest)) on (drop len rest)
    → now ≡ drop len rest
    → IsCutSoFar p stream (ss ++ Passed (take len rest) ∷ []) ended on now
so-far-run p stream ss ended t on rest now len h front is =
    subst (IsCutSoFar p stream (ss ++ Passed (take len rest) ∷ []) ended on) (sym is)
    (so-far-next p stream ss (Passed (take len rest)) ended ended t on rest (drop len rest) h
    front refl)

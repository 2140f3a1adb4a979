-- What is held of packets until it is written, turn by turn.
use Rattle.std.specs.Prelude.{ℕ, zero, suc, ◌==◌, Bool, true, false, if◌then◌else◌, List, [], ◌∷◌, ◌++◌, map}
use Rattle.lpt_lossy.specs.declared.fate.Fate.{Fate}
use Rattle.lpt_lossy.specs.declared.turns.Turns.{Turns}
use Rattle.lpt_lossy.specs.Bursts.{with_burst}

-- the octets that are held for each turn
abbrev pub turn_octets : Turns → List (List ℕ)
turn_octets t = map (λ v. v.items) t.turns.items

-- octets once or twice
abbrev pub octets_repeated : (twice : Bool) → List ℕ → List ℕ
octets_repeated true b = b ++ b
octets_repeated false b = b

-- the octets of turns with these behind those of one of them
abbrev pub behind_turn : ℕ → List ℕ → List (List ℕ) → List (List ℕ)
behind_turn n b [] = []
behind_turn zero b (t ∷ ts) = (t ++ b) ∷ ts
behind_turn (suc n) b (t ∷ ts) = t ∷ behind_turn n b ts

-- the octets of the first turn
abbrev pub first_octets : List (List ℕ) → List ℕ
first_octets [] = []
first_octets (t ∷ ts) = t

-- those of the others, and of an empty one behind them
abbrev pub next_octets : List (List ℕ) → List (List ℕ)
next_octets [] = []
next_octets (t ∷ ts) = ts ++ [] ∷ []

-- the octets that are written, or held, unless they are lost
abbrev pub passed_octets : Fate → List ℕ → List ℕ
passed_octets w b = if w.is_lost then [] else octets_repeated w.is_twice b

-- what is written of octets as they come
abbrev pub handed_now : Fate → List ℕ → List ℕ
handed_now w b = if w.later == 0 then passed_octets w b else []

-- the turns with what is held of them
abbrev pub handed_turns : Fate → List ℕ → List (List ℕ) → List (List ℕ)
handed_turns w b os = if w.later == 0 then os else behind_turn w.later (passed_octets w b) os

-- what is written with a packet of which this becomes: of itself, and what was held for this turn
abbrev pub carried_now : Fate → List ℕ → List (List ℕ) → List ℕ
carried_now w b os =
    handed_now w (with_burst w.burst b)
    ++ first_octets (handed_turns w (with_burst w.burst b) os)

-- the turns behind it
abbrev pub carried_turns : Fate → List ℕ → List (List ℕ) → List (List ℕ)
carried_turns w b os = next_octets (handed_turns w (with_burst w.burst b) os)

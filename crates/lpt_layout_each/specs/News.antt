-- What becomes of the parts of a name.
use Rattle.std.specs.Prelude.{◌≡◌, ℕ, ◌+◌, List, [], ◌∷◌, ◌++◌, Option, Some, None, ⊤}
use Rattle.std.specs.List.{flat_map}
use Rattle.lpt_layout_join.specs.declared.ending.MisfitAs.{MisfitAs}
use Rattle.lpt_layout_join.specs.declared.last_part.LastPart.{LastPart}
use Rattle.lpt_carried.specs.declared.name.Name.{Name}
use Rattle.lpt_layout_join.specs.Came.{Came, last_of, octets_of}

-- A message became whole; parts were given up that weren't: the octets of part n + 1, if it
-- came, and the last part, if that did; what parts were joined to is no packet of the direction;
-- parts were given up, and with the same part a message became whole.
pub data News : Type 0 where
  Given : List ℕ → News
  Dropped : (parts : ℕ → Option (List ℕ)) → (last : Option LastPart) → News
  Unfit : MisfitAs → News
  Overtaken : (parts : ℕ → Option (List ℕ)) → (last : Option LastPart) → List ℕ → News

-- what is told of parts that are given up
abbrev pub parts_dropped : Came → News
parts_dropped c = Dropped (λ n. octets_of c.parts (n + 1)) (last_of c.parts)

-- what is told of parts that are given up for a message
abbrev pub overtaken : Came → List ℕ → News
overtaken c m = Overtaken (λ n. octets_of c.parts (n + 1)) (last_of c.parts) m

-- the message that is given out, if one is
abbrev pub messages_of : News → List (List ℕ)
messages_of (Given m) = m ∷ []
messages_of (Dropped parts last) = []
messages_of (Unfit e) = []
messages_of (Overtaken parts last m) = m ∷ []

-- the messages that are, in their order
abbrev pub messages_in : List News → List (List ℕ)
messages_in ws = flat_map messages_of ws

-- news of a name
abbrev pub Event : Type 0
Event = Name × News

-- what is known to have been told grows by these
abbrev pub Hears : (old new : Option (List Event)) → List Event → Type 0
Hears None new es = ⊤
Hears (Some xs) None es = ⊥
Hears (Some xs) (Some ys) es = ys ≡ xs ++ es

-- by a front part of these
abbrev pub HearsPart : (old new : Option (List Event)) → List Event → Type 0
HearsPart None new es = ⊤
HearsPart (Some xs) None es = ⊥
HearsPart (Some xs) (Some ys) es =
    (front : List Event) × (rest : List Event) × (es ≡ front ++ rest) × (ys ≡ xs ++ front)

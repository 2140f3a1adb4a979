-- What waits in an end's outbox, until the program has copied it and says that it is sent.
use Rattle.std.specs.Prelude.{◌≡◌, ℕ, false, List, [], ◌∷◌, ⊤}
use Rattle.lpt_apart.specs.Ends.{Ends, is_part}
use Rattle.lpt_apart.specs.TwoEnds.{IsOnTheWay}
use Rattle.lpt_c_end.specs.declared.end.End.{End}
use Rattle.lpt_packet.specs.declared.direction.Direction.{Direction}
use Rattle.lpt_packet.specs.declared.direction.Direction.TheVariants.{Up, Down}
use Rattle.lpt_packet.specs.Names.{Name}

-- all these packets may be handed over in this direction still
abbrev pub AllOnTheWay : Ends → Direction → List (List ℕ) → Type 0
AllOnTheWay e d [] = ⊤
AllOnTheWay e d (b ∷ bs) = IsOnTheWay e d b × AllOnTheWay e d bs

-- a packet may be handed over still, and is no part of this name's message
pub record IsOfAnother (e : Ends) (d : Direction) (name : Name) (b : List ℕ) : Type 0 where
  pub out : IsOnTheWay e d b
  pub other : is_part d name out.packet ≡ false

-- none of these packets is a part of this name's message
abbrev pub NoneIsPart : Ends → Direction → Name → List (List ℕ) → Type 0
NoneIsPart e d name [] = ⊤
NoneIsPart e d name (b ∷ bs) = IsOfAnother e d name b × NoneIsPart e d name bs

-- the end that sends in a direction
abbrev pub sender_of : Direction → (on_ground on_craft : End) → End
sender_of Up g k = g
sender_of Down g k = k

-- no part of this name's message waits at its sender
abbrev pub NoneWaits : Ends → Direction → Name → (on_ground on_craft : End) → Type 0
NoneWaits e d name g k = NoneIsPart e d name (sender_of d g k).outbox.items

-- What comes to the spacecraft's end, as moves of two ends apart.
use Rattle.std.specs.Prelude.{◌≡◌, ℕ, List, [], ◌∷◌, ◌++◌, map, reverse, IfSome, ⊤}
use Rattle.std.specs.List.{AllByRecursion}
use Rattle.lpt_packet.specs.Numbers.{IsOctets}
use Rattle.lpt_packet.specs.declared.direction.Direction.TheVariants.{Up, Down}
use Rattle.lpt_events.specs.Arrivals.{arrival}
use Rattle.lpt_events.specs.Configs.{IsConfig}
use Rattle.lpt_events.specs.declared.config.Config.{Config}
use Rattle.lpt_events.specs.declared.side.Side.TheVariants.{Craft}
use Rattle.lpt_node.specs.Accepting.{packet_accepted}
use Rattle.lpt_model.specs.Tickets.{no_tickets}
use Rattle.lpt_apart.specs.Ends.{PutOut, without, Pair, Move, Do, Free, pair_after, Accept, Apply, Claim, Commit, Expire, Finish, Retire, Send, Tick}
use Rattle.lpt_apart.specs.TwoEnds.{CanMove}
use Rattle.lpt_spacecraft.specs.Flights.{Flight, Input, Astray, Came, Ticked, Cleared, step}
use Rattle.lpt_spacecraft.specs.Serving.{Onboard}
use Rattle.lpt_spacecraft.specs.declared.told.Told.{Told}
use Rattle.lpt_spacecraft.specs.declared.told.Told.TheVariants.{Took, Did, GaveUp, Freed, UsedUp, Skipped}

-- ---- moves, the oldest first

-- the ends after these moves
abbrev pub after_moves : Config → Pair → List Move → Pair
after_moves c p [] = p
after_moves c p (x ∷ xs) = after_moves c (pair_after c p x) xs

-- each of them can be made after those before it
abbrev pub CanMakeAll : Config → Pair → List Move → Type 0
CanMakeAll c p [] = ⊤
CanMakeAll c p (x ∷ xs) = CanMove c p x × CanMakeAll c (pair_after c p x) xs

-- ---- the spacecraft's end of a pair

-- the pair's spacecraft is this end, no request waits at its node, and no worker has one
pub record IsCraftOf (p : Pair) (s : Onboard) : Type 0 where
  pub node : p.ends.on_craft ≡ s.node
  pub memories : p.ends.memories ≡ s.memories
  pub tickets : p.ends.tickets ≡ no_tickets
  pub idle : s.node.jobs.jobs ≡ []

-- the move by which a name is freed: up by its receiver, down by its sender
abbrev pub free_move : Told → List Move
free_move (Freed Up name) = Free Up name ∷ []
free_move (Freed Down name) = Do (Retire Down name) ∷ []
free_move (Took o) = []
free_move (Did d) = []
free_move (GaveUp name) = []
free_move (UsedUp way source) = []
free_move (Skipped place len) = []

-- the moves by which the names are freed of which that is told
abbrev pub free_moves : List Told → List Move
free_moves [] = []
free_moves (t ∷ ts) = free_move t ++ free_moves ts

-- the network may hand this over to the spacecraft; names that are freed may be
abbrev pub MayBring : Config → Pair → Flight → Input → Type 0
MayBring c p f (Came b) = CanMove c p (Do (Accept Up b))
MayBring c p f Ticked = ⊤
MayBring c p f (Astray place len) = ⊤
MayBring c p f Cleared = CanMakeAll c p (free_moves (step c f Cleared).told)

-- the message that it releases, if it releases one, is octets
abbrev pub ReleasesOctets : Config → Onboard → Input → Type 0
ReleasesOctets c s (Came b) =
    IfSome (packet_accepted Craft c s.node (arrival Craft c.apid c.part_size b)).1.released IsOctets
ReleasesOctets c s Ticked = ⊤
ReleasesOctets c s (Astray place len) = ⊤
ReleasesOctets c s Cleared = ⊤

-- a move is one of the spacecraft's end alone
abbrev pub IsOfCraft : Move → Type 0
IsOfCraft (Do (Send Down name k)) = ⊤
IsOfCraft (Do (Finish Down name)) = ⊤
IsOfCraft (Do (Accept Up b)) = ⊤
IsOfCraft (Do (Tick Craft turn)) = ⊤
IsOfCraft (Do (Expire Craft which)) = ⊤
IsOfCraft (Do (Claim w)) = ⊤
IsOfCraft (Do (Commit w)) = ⊤
IsOfCraft (Do (Apply how)) = ⊤
IsOfCraft (Do (Retire Down name)) = ⊤
IsOfCraft (Free Up name) = ⊤
IsOfCraft _ = ⊥

-- the octets that were put out, the newest first
abbrev pub octets_of : List PutOut → List (List ℕ)
octets_of ps = map (λ p. p.octets) ps

-- what may be handed over still, once this was told: no part of a name that is free
abbrev pub still_there : Told → List PutOut → List PutOut
still_there (Freed way name) ps = without way name ps
still_there (Took o) ps = ps
still_there (Did d) ps = ps
still_there (GaveUp name) ps = ps
still_there (UsedUp way source) ps = ps
still_there (Skipped place len) ps = ps

abbrev pub all_still_there : List Told → List PutOut → List PutOut
all_still_there [] ps = ps
all_still_there (t ∷ ts) ps = all_still_there ts (still_there t ps)

-- what may be handed over still, once this came, at which that was told
abbrev pub left_by : Input → List Told → List PutOut → List PutOut
left_by (Came b) ts ps = ps
left_by Ticked ts ps = ps
left_by (Astray place len) ts ps = ps
left_by Cleared ts ps = all_still_there ts ps

-- Moves of the spacecraft's end alone, each of which can be made, that come to the same end and put
-- the same packets out, in their order. Parts of names that were freed may be handed over no more.
pub record AreMovesFor (c : Config) (p : Pair) (f : Flight) (x : Input) : Type 0 where
  pub moves : List Move
  pub own : AllByRecursion IsOfCraft moves
  pub can : CanMakeAll c p moves
  pub are : IsCraftOf (after_moves c p moves) (step c f x).flight.end
  pub put : octets_of (after_moves c p moves).ends.on_the_way
      ≡ reverse (step c f x).packets
      ++ octets_of (left_by x (step c f x).told p.ends.on_the_way)

-- whatever comes to the spacecraft's end of a pair
abbrev pub InputsAreMoves : Type 0
InputsAreMoves =
    (c : Config) (p : Pair) (f : Flight) (x : Input)
    → IsConfig c
    → IsCraftOf p f.end
    → MayBring c p f x
    → ReleasesOctets c f.end x
    → AreMovesFor c p f x

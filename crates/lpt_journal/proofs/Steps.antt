-- What holds of a history, and what an entry that comes after it owes for that to hold again.
use Rattle.std.proofs.Common.{◌&&◌, ◌≡◌, ◌∙◌, refl, ℕ, ◌^◌, ◌<◌, Bool, true, false, ◌⊎◌, inl, inr, List, ◌∷◌, length, map, Option, Some, None, if◌then◌else◌}
use Rattle.std.specs.List.{slice_get, find}
use Rattle.std.specs.Option.{option_or}
use Rattle.std.specs.FinMap as maps
use Rattle.lpt_packet.specs.declared.direction.Direction.{Direction}
use Rattle.lpt_packet.specs.Names.{Name, same_name, IsName}
use Rattle.lpt_packet.proofs.NameLemmas.{same_name-true}
use Rattle.lpt_reception.specs.Received.{Kept as KeptPart, Parts, no_parts}
use Rattle.lpt_reception.specs.PartsOf.{IsMessage}
use Rattle.lpt_events.specs.NamedParts.{NamedPart}
use Rattle.lpt_events.specs.declared.lane.Lane.{Lane}
use Rattle.lpt_events.specs.Lanes.{lane_direction, same_direction}
use Rattle.lpt_events.specs.declared.config.Config.{Config}
use Rattle.lpt_events.specs.declared.side.Side.{Side}
use Rattle.lpt_events.specs.Arrivals.{Arrival, NotRead, AnIdle, Foreign, NoPart, APart, part_name}
use Rattle.lpt_events.specs.declared.entry.Opening.{Opening}
use Rattle.lpt_acts.specs.Acts.{Act}
use Rattle.lpt_journal.specs.Journal.{SentPacket, Recorded, History}
use Rattle.lpt_journal.specs.Link.{sent, tag_put, tags, damages, is_damaged, is_held, goes}
use Rattle.lpt_journal.specs.Hands.{hand, arrival_of, in_hand}
use Rattle.lpt_journal.specs.Senders.{is_opening_of, retires, current}
use Rattle.lpt_journal.specs.Receivers.{with_piece, heard, clock}
use Rattle.lpt_journal.specs.Headline.{IsPartOfCurrent, kept_piece}
use Rattle.lpt_events.proofs.LaneLemmas.{same_direction-true}
use Rattle.lpt_journal.proofs.TestLemmas.{find_passes}
use Rattle.lpt_packet.proofs.BoolLemmas.{and_left, and_right}

-- ---- what holds of a history

-- the last opening of a transaction is of it, stands before now, and its message can be split
pub record IsKnown (c : Config) (h : History) (d : Direction) (name : Name)
    (o : Opening) : Type 0 where
  pub same_direction : o.direction ≡ d
  pub same_name : o.name ≡ name
  pub is_name : IsName name
  pub place_fits : o.place < length h
  pub splits : IsMessage o.message c.part_size

-- what arrives is read: not unreadable, idle or foreign, and a part or an abort has its body
abbrev pub IsRead : Arrival → Type 0
IsRead NotRead = ⊥
IsRead AnIdle = ⊥
IsRead Foreign = ⊥
IsRead NoPart = ⊥
IsRead _ = Unit {0}

-- what the link's noise left isn't read, and all else is
abbrev pub IsAsPut : (damaged : Bool) → Arrival → Type 0
IsAsPut true a = a ≡ NotRead
IsAsPut false a = IsRead a

-- the packet is read, and where it is a part it is one of the message last opened under its name
pub record IsSoundPacket (c : Config) (h : History) (p : SentPacket) : Type 0 where
  pub is_read : IsRead (arrival_of c p)
  pub part : (q : NamedPart) → arrival_of c p ≡ APart q → IsPartOfCurrent c h p.direction q

-- a packet that is put is sound where a node made it, and isn't read where the link's noise left it
abbrev pub IsSoundPut : (damaged : Bool) → Config → History → SentPacket → Type 0
IsSoundPut true c h p = arrival_of c p ≡ NotRead
IsSoundPut false c h p = IsSoundPacket c h p

-- a packet that an event puts is sound, and is a part of the transaction that the event sends for
pub record IsPut (c : Config) (h : History) (e : Act) (p : SentPacket) : Type 0 where
  pub sound : IsSoundPut (damages e) c h p
  pub name : part_name (arrival_of c p) ≡ tag_put e

-- what a lane has in its hand goes its way, and a part is one of the message last opened
pub record IsInHand (c : Config) (h : History) (l : Lane) (n : ℕ) : Type 0 where
  pub packet : SentPacket
  pub was_sent : slice_get (sent h) n ≡ Some packet
  pub goes_there : packet.direction ≡ lane_direction l
  pub part : (q : NamedPart) → arrival_of c packet ≡ APart q → IsPartOfCurrent c h packet.direction q

-- what holds of the history of every legal journal
pub record IsSound (c : Config) (h : History) : Type 0 where
  pub openings : (d : Direction) (name : Name) (o : Opening)
      → current h d name ≡ Some o
      → IsKnown c h d name o
  pub packets : (n : ℕ) (p : SentPacket)
      → slice_get (sent h) n ≡ Some p
      → IsAsPut (is_damaged h n) (arrival_of c p)
  pub names : tags h ≡ map (λ p. part_name (arrival_of c p)) (sent h)
  pub held : (n : ℕ) (p : SentPacket) (q : NamedPart)
      → is_held h n ≡ true
      → slice_get (sent h) n ≡ Some p
      → arrival_of c p ≡ APart q
      → IsPartOfCurrent c h p.direction q
  pub hands : (l : Lane) (n : ℕ) → hand h l ≡ Some n → IsInHand c h l n
  pub heard : (d : Direction) (name : Name) (n : ℕ) (x : KeptPart)
      → maps.get (heard c h d name) n ≡ Some x
      → IsPartOfCurrent c h d (kept_piece name n x)
  pub clocks : (side : Side) → clock c h side < 2 ^ 32

-- ---- what an entry owes

-- an opening is of a free name, at the entry's place, and its message can be split
pub record IsNew (c : Config) (h : History) (d : Direction) (name : Name)
    (o : Opening) : Type 0 where
  pub is_name : IsName name
  pub free : current h d name ≡ None
  pub place : o.place ≡ length h
  pub splits : IsMessage o.message c.part_size

-- no part of the transaction is held, in a hand or heard
pub record IsUnheard (c : Config) (h : History) (d : Direction) (name : Name) : Type 0 where
  pub held : (n : ℕ) (p : SentPacket) (q : NamedPart)
      → is_held h n ≡ true
      → slice_get (sent h) n ≡ Some p
      → p.direction ≡ d
      → arrival_of c p ≡ APart q
      → ¬ (q.name ≡ name)
  pub hands : (l : Lane) (n : ℕ) (p : SentPacket) (q : NamedPart)
      → hand h l ≡ Some n
      → slice_get (sent h) n ≡ Some p
      → p.direction ≡ d
      → arrival_of c p ≡ APart q
      → ¬ (q.name ≡ name)
  pub heard : (n : ℕ) → maps.get (heard c h d name) n ≡ None

-- what a lane takes is held and goes its way
pub record IsTaken (h : History) (l : Lane) (n : ℕ) : Type 0 where
  pub was_held : is_held h n ≡ true
  pub goes_there : goes h (lane_direction l) n ≡ true

-- a part that is kept is the one in a lane's hand
pub record IsKept (c : Config) (h : History) (d : Direction) (name : Name)
    (s : Parts) : Type 0 where
  pub lane : Lane
  pub number : ℕ
  pub part : NamedPart
  pub goes_there : lane_direction lane ≡ d
  pub was_taken : hand h lane ≡ Some number
  pub arrives : in_hand c h lane ≡ APart part
  pub same_name : part.name ≡ name
  pub is_added : s ≡ with_piece (heard c h d name) part

-- what is kept of a transaction is as it was, or nothing, or has one part more
abbrev pub IsHeardNow : Config → History → Direction → Name → Parts → Type 0
IsHeardNow c h d name s = (s ≡ heard c h d name) ⊎ (s ≡ no_parts) ⊎ IsKept c h d name s

-- where a transaction is dropped nothing is kept of it, else what was
pub kept_or_none : (c : Config) (h : History) (d : Direction) (name : Name) (dropped : Bool)
    → IsHeardNow c h d name (if dropped then no_parts else heard c h d name)
kept_or_none c h d name true = inr (inl refl)
kept_or_none c h d name false = inl refl

-- what an entry owes to the history before it
pub record Owes (c : Config) (h : History) (x : Recorded) : Type 0 where
  pub opens : (d : Direction) (name : Name) (o : Opening)
      → find (is_opening_of d name) x.opens ≡ Some o
      → IsNew c h d name o
  pub retires : (d : Direction) (name : Name) → retires x.event d name ≡ true → IsUnheard c h d name
  pub puts : (k : ℕ) (p : SentPacket)
      → slice_get x.puts k ≡ Some p
      → IsPut c (x ∷ h) x.event p
  pub takes : (l : Lane) (n : ℕ) → hand (x ∷ h) l ≡ Some n → (hand h l ≡ Some n) ⊎ IsTaken h l n
  pub hears : (d : Direction) (name : Name) → IsHeardNow c h d name (heard c (x ∷ h) d name)
  pub clocks : (side : Side) → clock c (x ∷ h) side < 2 ^ 32

-- ---- openings

-- an opening that is found is of the transaction
pub opening_found : (d : Direction) (name : Name) (os : List Opening) (o : Opening)
    → find (is_opening_of d name) os ≡ Some o
    → (o.direction ≡ d) × (o.name ≡ name)
opening_found d name os o h =
    let way = same_direction o.direction d in
    let named = same_name o.name name in
    let t : (way && named) ≡ true = find_passes (is_opening_of d name) os o h in (
      same_direction-true o.direction d (and_left way named t),
      same_name-true o.name name (and_right way named t),
    )

-- the last opening of a name that isn't retired stays it, since a new one is of a free name
pub current_stays : (c : Config) (h : History) (x : Recorded) (d : Direction) (name : Name)
    (o : Opening)
    → Owes c h x
    → current h d name ≡ Some o
    → ¬ (retires x.event d name ≡ true)
    → current (x ∷ h) d name ≡ Some o
current_stays c h x d name o owes e stays =
    go (retires x.event d name) (find (is_opening_of d name) x.opens) refl refl where
      go : (r : Bool) (f : Option Opening)
          → retires x.event d name ≡ r
          → find (is_opening_of d name) x.opens ≡ f
          → ◌≡◌ {A = Option Opening}
          (if retires x.event d name then None
          else option_or (find (is_opening_of d name) x.opens) (current h d name)) (Some o)
      go true f r i = absurd (stays r)
      go false (Some u) r i =
          absurd (let free : current h d name ≡ None = (owes.opens d name u i).free in cc)
      go false None r i = (λ j. if r j then None else option_or (i j) (current h d name)) ∙ e

-- a part of the message last opened under a name that isn't retired stays one
pub part_stays : (c : Config) (h : History) (x : Recorded) (d : Direction) (q : NamedPart)
    → Owes c h x
    → IsPartOfCurrent c h d q
    → ¬ (retires x.event d q.name ≡ true)
    → IsPartOfCurrent c (x ∷ h) d q
part_stays c h x d q owes p stays = record {
  opening = p.opening;
  is_current = current_stays c h x d q.name p.opening owes p.is_current stays;
  from_one = p.from_one;
  to_last = p.to_last;
  is_part = p.is_part;
}

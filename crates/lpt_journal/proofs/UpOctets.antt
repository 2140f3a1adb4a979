-- In every legal journal what goes up is octets: messages, packets and released requests.
use Rattle.std.proofs.Common.{◌≡◌, ◌∙◌, ap, sym, subst, refl, ℕ, zero, suc, Bool, true, false, if◌then◌else◌, inl, inr, List, [], ◌∷◌, length, map, Option, Some, None}
use Rattle.std.specs.List.{slice_get, find}
use Rattle.std.specs.Option.{option_or}
use Rattle.lpt_packet.specs.declared.direction.Direction.{Direction}
use Rattle.lpt_packet.specs.declared.direction.Direction.TheVariants.{Up, Down}
use Rattle.lpt_packet.specs.Names.{Name}
use Rattle.lpt_packet.specs.Numbers.{IsOctets}
use Rattle.lpt_part.specs.declared.reason.Reason.{Reason}
use Rattle.lpt_memory.specs.Memories.{Contents}
use Rattle.lpt_events.specs.Lanes.{lane_direction}
use Rattle.lpt_events.proofs.LaneLemmas.{same_direction-true}
use Rattle.lpt_events.specs.Arrivals.{ARequest}
use Rattle.lpt_events.specs.Sides.{receiver_side, direction_to}
use Rattle.lpt_events.specs.declared.config.Config.{Config}
use Rattle.lpt_events.specs.declared.entry.Opening.{Opening}
use Rattle.lpt_events.specs.declared.entry.Release.{Release}
use Rattle.lpt_acts.specs.Acts.{Act, Open, Send, Plain, Damage, Deliver, Expire, Apply}
use Rattle.lpt_events.specs.declared.lane.Lane.{Lane}
use Rattle.lpt_events.specs.declared.outcome.Outcome.{Outcome}
use Rattle.lpt_events.specs.declared.outcome.Outcome.TheVariants.{Broken}
use Rattle.lpt_events.specs.declared.side.Side.{Side}
use Rattle.lpt_events.specs.declared.side.Side.TheVariants.{Ground, Craft}
use Rattle.lpt_execution.specs.Reporting.{link_packets}
use Rattle.lpt_journal.specs.Delivery.{outcome}
use Rattle.lpt_journal.specs.Due.{given_up}
use Rattle.lpt_journal.specs.Executions.{front_packets, front_opened, opened_down}
use Rattle.lpt_journal.specs.Hands.{hand, in_hand}
use Rattle.lpt_journal.specs.Jobs.{went_up, jobs}
use Rattle.lpt_journal.specs.Journal.{SentPacket, Recorded, History}
use Rattle.lpt_journal.specs.Legal.{IsEnabled}
use Rattle.lpt_journal.specs.Link.{sent}
use Rattle.lpt_journal.specs.Receivers.{heard}
use Rattle.lpt_journal.specs.Releases.{released_by}
use Rattle.lpt_journal.specs.Replies.{send_puts, abort_puts, outcome_puts, expiry_puts, puts, opens, entry}
use Rattle.lpt_journal.specs.Senders.{Sender, FreeSender, OpenSender, ClosedSender, sender, is_opening_of, retires, current, count}
use Rattle.lpt_journal.proofs.DeliveredReleases.{plain_is}
use Rattle.lpt_journal.proofs.Events.{only_opening, only_element, open_current}
use Rattle.lpt_journal.proofs.NewJobs.{came_up, job_cases}
use Rattle.lpt_journal.proofs.OctetLemmas.{made_octets, part_octets, request_is}
use Rattle.lpt_journal.proofs.Releasing.{OwesReleases}
use Rattle.lpt_journal.proofs.Soundness.{in_hand_is}
use Rattle.lpt_journal.proofs.Steps.{IsSound}
use Rattle.lpt_journal.proofs.TestLemmas.{passed, IsOldOrNew, with_all_cases, no_place}

-- what goes up is octets
pub record AreUpOctets (c : Config) (h : History) : Type 0 where
  pub openings : (name : Name) (o : Opening) → current h Up name ≡ Some o → IsOctets o.message
  pub packets : (n : ℕ) (p : SentPacket)
      → slice_get (sent h) n ≡ Some p
      → p.direction ≡ Up
      → IsOctets p.octets
  pub requests : (k : ℕ) (r : Release) → slice_get (jobs c h) k ≡ Some r → IsOctets r.message

-- ---- openings

opened_octets : (c : Config) (first : Contents) (h : History) (e : Act)
    → IsEnabled c h e
    → (name : Name) (o : Opening)
    → find (is_opening_of Up name) (opens c first h e) ≡ Some o
    → IsOctets o.message
opened_octets c first h (Open d i m) can name o f =
    let same : record { place = length h; direction = d; name = i; message = m } ≡ o =
    only_opening Up name _ o f in
    subst (λ (u : Opening). IsOctets u.message) same can.in_range.1
opened_octets c first h (Apply how) can name o f = go (front_opened c first h how) f where
  go : (x : Option (Name × List ℕ))
      → find (is_opening_of Up name) (opened_down (length h) x) ≡ Some o
      → IsOctets o.message
  go None k = absurd cc
  go (Some x) k = absurd cc
opened_octets c first h e can name o f = absurd cc

-- ---- packets

send_octets : (c : Config) (h : History) (d : Direction) (name : Name) (k : ℕ)
    → AreUpOctets c h
    → (s : Sender)
    → sender h d name ≡ s
    → (n : ℕ) (p : SentPacket)
    → slice_get (send_puts c h d name k s) n ≡ Some p
    → p.direction ≡ Up
    → IsOctets p.octets
send_octets c h d name k had FreeSender is n p f up = absurd (no_place n p f)
send_octets c h d name k had ClosedSender is n p f up = absurd (no_place n p f)
send_octets c h Down name k had (OpenSender m) is n p f up =
    let same = only_element _ n p f in
    let down : Down ≡ p.direction = ap (λ (x : SentPacket). x.direction) same in
    absurd cc
send_octets c h Up name k had (OpenSender m) is n p f up =
    let o = open_current h Up name m is in
    let message : IsOctets m = subst (λ b. IsOctets b) o.2 (had.openings name o.0 o.1) in
    subst (λ (x : SentPacket). IsOctets x.octets) (only_element _ n p f)
    (part_octets c name.source (count h Up) k name.id m message)

-- a report of an abortion goes down
aborts_down : (c : Config) (h : History) (side : Side) (name : Name) (reason : Reason) (n : ℕ)
    (p : SentPacket)
    → slice_get (abort_puts c h side name reason) n ≡ Some p
    → p.direction ≡ Up
    → ⊥
aborts_down c h Ground name reason n p f up = no_place n p f
aborts_down c h Craft name reason n p f up =
    let down : Down ≡ p.direction =
    ap (λ (x : SentPacket). x.direction) (only_element _ n p f) in cc

-- and so do the reports of an execution
reports_down : (bs : List (List ℕ)) (n : ℕ) (p : SentPacket)
    → slice_get (map (λ b. record { direction = Down; octets = b }) bs) n ≡ Some p
    → p.direction ≡ Up
    → ⊥
reports_down [] n p f up = no_place n p f
reports_down (b ∷ bs) zero p f up =
    let same : record { direction = Down; octets = b } ≡ p = cc in
    let down : Down ≡ p.direction = ap (λ (x : SentPacket). x.direction) same in cc
reports_down (b ∷ bs) (suc n) p f up = reports_down bs n p f up

-- whether an event can put what goes up
abbrev pub asks_up : Act → Bool
asks_up (Send d name k) = true
asks_up (Plain source flags service subtype body) = true
asks_up (Damage d b) = true
asks_up _ = false

-- what goes up was put by a sending, a plain request or the link's noise
pub put_up : (c : Config) (first : Contents) (h : History) (e : Act) (n : ℕ) (p : SentPacket)
    → slice_get (puts c first h e) n ≡ Some p
    → p.direction ≡ Up
    → asks_up e ≡ true
put_up c first h (Send d name k) n p f up = refl
put_up c first h (Plain source flags service subtype body) n p f up = refl
put_up c first h (Damage d b) n p f up = refl
put_up c first h (Deliver l) n p f up = absurd (go (outcome c h l) f) where
  go : (o : Outcome)
      → slice_get (outcome_puts c h (receiver_side (lane_direction l)) o) n ≡ Some p
      → ⊥
  go (Broken name reason) k =
      aborts_down c h (receiver_side (lane_direction l)) name reason n p k up
  go o k = no_place n p k
put_up c first h (Expire side which) n p f up =
    absurd (go (given_up c h (direction_to side) which) f) where
      go : (o : Option Name) → slice_get (expiry_puts c h side o) n ≡ Some p → ⊥
      go None k = no_place n p k
      go (Some name) k = aborts_down c h side name _ n p k up
put_up c first h (Apply how) n p f up =
    absurd (reports_down (link_packets c.part_size (front_packets c first h how)) n p f up)
put_up c first h e n p f up = absurd (no_place n p f)

put_octets : (c : Config) (first : Contents) (h : History) (e : Act)
    → IsEnabled c h e
    → AreUpOctets c h
    → (n : ℕ) (p : SentPacket)
    → slice_get (puts c first h e) n ≡ Some p
    → p.direction ≡ Up
    → IsOctets p.octets
put_octets c first h (Send d name k) can had n p f up =
    send_octets c h d name k had (sender h d name) refl n p f up
put_octets c first h (Plain source flags service subtype body) can had n p f up =
    let fits = can.in_range in
    subst (λ (x : SentPacket). IsOctets x.octets) (only_element _ n p f)
    (made_octets c source (count h Up) flags service subtype body fits.1 fits.2 fits.3 fits.4)
put_octets c first h (Damage d b) can had n p f up =
    subst (λ (x : SentPacket). IsOctets x.octets) (only_element _ n p f) can.in_range
put_octets c first h e can had n p f up = absurd (let t = put_up c first h e n p f up in cc)

-- ---- requests

-- what the spacecraft receives goes up
pub up_from : (d : Direction) → receiver_side d ≡ Craft → d ≡ Up
up_from Up e = refl
up_from Down e = absurd cc

-- a request in a lane's hand is octets
hand_octets : (c : Config) (h : History) (l : Lane) (n : ℕ) (b : List ℕ)
    → IsSound c h
    → AreUpOctets c h
    → hand h l ≡ Some n
    → in_hand c h l ≡ ARequest b
    → IsOctets b
hand_octets c h l n b sound had e is =
    let it = sound.hands l n e in
    let read =
    request_is (receiver_side it.packet.direction) c.apid c.part_size it.packet.octets b
    (sym (in_hand_is c h l n e it) ∙ is) in
    subst (λ o. IsOctets o) read.1
    (had.packets n it.packet it.was_sent (up_from it.packet.direction read.0))

went_up-of : (t : Direction × Name) → went_up (Some t) ≡ true → t.0 ≡ Up
went_up-of t e = same_direction-true t.0 Up e

released_octets : (c : Config) (first : Contents) (h : History) (e : Act)
    → IsSound c h
    → AreUpOctets c h
    → OwesReleases c h (entry c first h e)
    → ((l : Lane) → e ≡ Deliver l → (n : ℕ) × (hand h l ≡ Some n))
    → (k : ℕ) (r : Release)
    → slice_get (released_by c (entry c first h e) h) k ≡ Some r
    → went_up r.of ≡ true
    → IsOctets r.message
released_octets c first h (Deliver l) sound had owes full k r f up = go r.of refl up where
  go : (of : Option (Direction × Name)) → r.of ≡ of → went_up of ≡ true → IsOctets r.message
  go None is t =
      let n = full l refl in
      hand_octets c h l n.0 r.message sound had n.1
      (plain_is (length h) (lane_direction l) (outcome c h l) (heard c h (lane_direction l))
      (in_hand c h l) k r f is)
  go (Some t) is u =
      let it = owes.large k r t f is in
      let there : current h Up t.1 ≡ Some it.opening =
      ap (λ d. current h d t.1) (sym (went_up-of t u)) ∙ it.is_current in
      subst (λ b. IsOctets b) (sym it.is_message) (had.openings t.1 it.opening there)
released_octets c first h e sound had owes full k r f up = absurd (no_place k r f)

-- ---- the step

-- what goes up is octets again after an event that can happen
pub up_octets_step : (c : Config) (first : Contents) (h : History) (e : Act)
    → IsSound c h
    → IsEnabled c h e
    → OwesReleases c h (entry c first h e)
    → ((l : Lane) → e ≡ Deliver l → (n : ℕ) × (hand h l ≡ Some n))
    → AreUpOctets c h
    → AreUpOctets c (entry c first h e ∷ h)
up_octets_step c first h e sound can owes full had = record {
  openings = λ name o f. opening name o (retires e Up name)
      (find (is_opening_of Up name) x.opens) refl f;
  packets = λ n p f up. packet n p up (with_all_cases (sent h) x.puts n p f);
  requests = λ k r f. request k r (job_cases c x h k r f).1;
} where
  x : Recorded
  x = entry c first h e

  opening : (name : Name) (o : Opening) (gone : Bool) (found : Option Opening)
      → find (is_opening_of Up name) (opens c first h e) ≡ found
      → ◌≡◌ {A = Option Opening}
      (if gone then None else option_or found (current h Up name)) (Some o)
      → IsOctets o.message
  opening name o true found is f = absurd cc
  opening name o false None is f = had.openings name o f
  opening name o false (Some u) is f = opened_octets c first h e can name o (is ∙ f)

  packet : (n : ℕ) (p : SentPacket)
      → p.direction ≡ Up
      → IsOldOrNew (sent h) (puts c first h e) n p
      → IsOctets p.octets
  packet n p up (inl old) = had.packets n p old up
  packet n p up (inr fresh) = put_octets c first h e can had fresh.0 p fresh.2 up

  request : (k : ℕ) (r : Release)
      → IsOldOrNew (jobs c h) (came_up (released_by c (entry c first h e) h)) k r
      → IsOctets r.message
  request k r (inl old) = had.requests k r old
  request k r (inr fresh) =
      let it = passed (λ r. went_up r.of) (released_by c (entry c first h e) h) fresh.0 r fresh.2 in
      released_octets c first h e sound had owes full it.0 r it.1 it.2

-- before anything has happened
pub up_octets_start : (c : Config) → AreUpOctets c []
up_octets_start c = record {
  openings = λ name o e. absurd cc;
  packets = λ n p e up. absurd (no_place n p e);
  requests = λ k r e. absurd (no_place k r e);
}

-- A plain request that is released is one that ground asked, in the log of every legal journal.
use Rattle.std.proofs.Common.{◌≡◌, ◌∙◌, ap, sym, subst, refl, ℕ, zero, suc, false, inl, inr, List, [], ◌∷◌, length, map, Option, Some, None, arith}
use Rattle.std.specs.Prelude.{slice_get, not, is_some, Contains}
use Rattle.lpt_packet.specs.declared.direction.Direction.{Direction}
use Rattle.lpt_packet.specs.declared.direction.Direction.TheVariants.{Up, Down}
use Rattle.lpt_packet.specs.Names.{Name}
use Rattle.lpt_memory.specs.Memories.{Contents}
use Rattle.lpt_part.specs.declared.reason.Reason.{Reason}
use Rattle.lpt_events.specs.Arrivals.{NotRead, ARequest, part_name}
use Rattle.lpt_events.specs.Configs.{IsConfig}
use Rattle.lpt_events.specs.Lanes.{lane_direction}
use Rattle.lpt_events.specs.Sides.{receiver_side, direction_to}
use Rattle.lpt_events.specs.declared.config.Config.{Config}
use Rattle.lpt_events.specs.declared.entry.Opening.{Opening}
use Rattle.lpt_events.specs.declared.entry.Release.{Release}
use Rattle.lpt_acts.specs.Acts.{Act, Send, Plain, Damage, Deliver, Expire, Apply, Retire, Restart}
use Rattle.lpt_events.specs.declared.fault.StepFault.TheVariants.{HandEmpty}
use Rattle.lpt_events.specs.declared.lane.Lane.{Lane}
use Rattle.lpt_events.specs.declared.outcome.Outcome.{Outcome}
use Rattle.lpt_events.specs.declared.outcome.Outcome.TheVariants.{Broken}
use Rattle.lpt_events.specs.declared.reply.Answer.{Answer}
use Rattle.lpt_events.specs.declared.reply.Answer.TheVariants.{Delivered, Expired}
use Rattle.lpt_events.specs.declared.side.Side.{Side}
use Rattle.lpt_events.specs.declared.side.Side.TheVariants.{Ground, Craft}
use Rattle.lpt_journal.specs.Delivery.{outcome}
use Rattle.lpt_journal.specs.Due.{given_up}
use Rattle.lpt_journal.specs.Hands.{hand, arrival_of, in_hand}
use Rattle.lpt_journal.specs.Journal.{SentPacket, Recorded, History}
use Rattle.lpt_journal.specs.Legal.{Legal}
use Rattle.lpt_journal.specs.Link.{sent}
use Rattle.lpt_journal.specs.Receivers.{heard}
use Rattle.lpt_journal.specs.Releases.{released_by}
use Rattle.lpt_journal.specs.Replies.{abort_puts, outcome_puts, expiry_puts, puts, history_after, entry}
use Rattle.lpt_journal.proofs.Events.{only_element}
use Rattle.lpt_journal.proofs.DeliveredReleases.{plain_is}
use Rattle.lpt_journal.proofs.HeadlineLemmas.{every, owes}
use Rattle.lpt_journal.proofs.OctetLemmas.{request_is}
use Rattle.lpt_journal.proofs.Soundness.{in_hand_is}
use Rattle.lpt_journal.proofs.Steps.{IsPut}
use Rattle.lpt_journal.proofs.TestLemmas.{one_passes, IsOldOrNew, with_all_cases, no_place}
use Rattle.lpt_apart.specs.Ends.{Fact, Asked, Log, with_abortion}
use Rattle.lpt_apart.specs.Told.{with_openings, with_releases, with_ended, with_asked, with_event, log_told}

-- ---- a log that grows

-- what a log has it has behind one fact more
pub later : (x : Fact) (log : Log) (f : Fact) → Contains log f → Contains (x ∷ log) f
later x log f (k, within, is) = (suc k, omega (arith, within), is)

-- what the newest fact is the log has
pub newest : (x : Fact) (log : Log) → Contains (x ∷ log) x
newest x log = (zero, omega arith, refl)

later_asked : (ps : List SentPacket) (log : Log) (f : Fact)
    → Contains log f
    → Contains (with_asked ps log) f
later_asked [] log f had = had
later_asked (p ∷ ps) log f had =
    later_asked ps (Asked p.octets ∷ log) f (later (Asked p.octets) log f had)

later_openings : (os : List Opening) (log : Log) (f : Fact)
    → Contains log f
    → Contains (with_openings os log) f
later_openings [] log f had = had
later_openings (o ∷ os) log f had = later _ (with_openings os log) f (later_openings os log f had)

later_releases : (rs : List Release) (log : Log) (f : Fact)
    → Contains log f
    → Contains (with_releases rs log) f
later_releases [] log f had = had
later_releases (r ∷ rs) log f had = later_releases rs _ f (later _ log f had)

later_abortion : (d : Direction) (o : Outcome) (log : Log) (f : Fact)
    → Contains log f
    → Contains (with_abortion d o log) f
later_abortion d (Broken name reason) log f had = later _ log f had
later_abortion d o log f had = had

later_ended : (e : Act) (a : Answer) (log : Log) (f : Fact)
    → Contains log f
    → Contains (with_ended e a log) f
later_ended (Deliver l) (Delivered o) log f had = later_abortion (lane_direction l) o log f had
later_ended (Expire side which) (Expired d name) log f had = later _ log f had
later_ended e a log f had = had

later_event : (e : Act) (ps : List SentPacket) (log : Log) (f : Fact)
    → Contains log f
    → Contains (with_event e ps log) f
later_event (Plain source flags service subtype body) ps log f had = later_asked ps log f had
later_event (Apply how) ps log f had = later _ log f had
later_event (Retire d name) ps log f had = later _ log f had
later_event (Restart side) ps log f had = later _ log f had
later_event e ps log f had = had

later_entry : (c : Config) (x : Recorded) (h : History) (f : Fact)
    → Contains (log_told c h) f
    → Contains (log_told c (x ∷ h)) f
later_entry c x h f had =
    later_event x.event x.puts _ f
    (later_openings x.opens _ f
    (later_ended x.event x.reply.answer _ f
    (later_releases (released_by c x h) (log_told c h) f had)))

-- what is asked by packets is there
asked_there : (ps : List SentPacket) (log : Log) (n : ℕ) (p : SentPacket)
    → slice_get ps n ≡ Some p
    → Contains (with_asked ps log) (Asked p.octets)
asked_there [] log n p f = absurd (no_place n p f)
asked_there (q ∷ ps) log zero p f =
    let same : q ≡ p = cc in
    later_asked ps (Asked q.octets ∷ log) (Asked p.octets)
    (subst (λ (r : SentPacket). Contains (Asked q.octets ∷ log) (Asked r.octets)) same
    (newest (Asked q.octets) log))
asked_there (q ∷ ps) log (suc n) p f = asked_there ps (Asked q.octets ∷ log) n p f

-- ---- what goes up and reads as a request

full : (o : Option ℕ) → not (is_some o) ≡ false → (n : ℕ) × (o ≡ Some n)
full None e = absurd cc
full (Some n) e = (n, refl)

up_from : (d : Direction) → receiver_side d ≡ Craft → d ≡ Up
up_from Up e = refl
up_from Down e = absurd cc

-- a report of an abortion goes down
abort_down : (c : Config) (h : History) (side : Side) (name : Name) (why : Reason) (n : ℕ)
    (p : SentPacket)
    → slice_get (abort_puts c h side name why) n ≡ Some p
    → p.direction ≡ Down
abort_down c h Ground name why n p f = absurd (no_place n p f)
abort_down c h Craft name why n p f =
    sym (ap (λ (x : SentPacket). x.direction) (only_element _ n p f))

-- and so do the reports of an execution
reports_down : (bs : List (List ℕ)) (n : ℕ) (p : SentPacket)
    → slice_get (map (λ b. record { direction = Down; octets = b }) bs) n ≡ Some p
    → p.direction ≡ Down
reports_down [] n p f = absurd (no_place n p f)
reports_down (b ∷ bs) zero p f =
    let same : record { direction = Down; octets = b } ≡ p = cc in
    sym (ap (λ (x : SentPacket). x.direction) same)
reports_down (b ∷ bs) (suc n) p f = reports_down bs n p f

module _ (c : Config) (first : Contents) (good : IsConfig c) where
  -- what an event puts and goes up as a request it asks
  asked_now : (e : Act) (h : History) (log : Log) (n : ℕ) (p : SentPacket) (b : List ℕ)
      → IsPut c (entry c first h e ∷ h) e p
      → slice_get (puts c first h e) n ≡ Some p
      → p.direction ≡ Up
      → arrival_of c p ≡ ARequest b
      → Contains (with_event e (puts c first h e) log) (Asked p.octets)
  asked_now (Send d name k) h log n p b put f up is =
      absurd (let none : None ≡ Some name = sym (ap part_name is) ∙ put.name in cc)
  asked_now (Plain source flags service subtype body) h log n p b put f up is =
      asked_there (puts c first h (Plain source flags service subtype body)) log n p f
  asked_now (Damage d o) h log n p b put f up is =
      absurd (let no : NotRead ≡ ARequest b = sym put.sound ∙ is in cc)
  asked_now (Deliver l) h log n p b put f up is = absurd (go (outcome c h l) f) where
    go : (o : Outcome)
        → slice_get (outcome_puts c h (receiver_side (lane_direction l)) o) n ≡ Some p
        → ⊥
    go (Broken name why) k =
        let down : Up ≡ Down =
        sym up ∙ abort_down c h (receiver_side (lane_direction l)) name why n p k in
        cc
    go o k = no_place n p k
  asked_now (Expire side which) h log n p b put f up is =
      absurd (go (given_up c h (direction_to side) which) f) where
        go : (o : Option Name) → slice_get (expiry_puts c h side o) n ≡ Some p → ⊥
        go None k = no_place n p k
        go (Some name) k = let down : Up ≡ Down = sym up ∙ abort_down c h side name _ n p k in cc
  asked_now (Apply how) h log n p b put f up is =
      absurd (let down : Up ≡ Down = sym up ∙ reports_down _ n p f in cc)
  asked_now e h log n p b put f up is = absurd (no_place n p f)

  -- a packet of the link that went up and reads as a request was asked
  pub was_asked : (es : List Act)
      → Legal c first es
      → (n : ℕ) (p : SentPacket) (b : List ℕ)
      → slice_get (sent (history_after c first es)) n ≡ Some p
      → p.direction ≡ Up
      → arrival_of c p ≡ ARequest b
      → Contains (log_told c (history_after c first es)) (Asked p.octets)
  was_asked [] legal n p b f up is = absurd (no_place n p f)
  was_asked (e ∷ es) legal n p b f up is =
      go (was_asked es legal.0 n p b) (with_all_cases (sent h) (puts c first h e) n p f) where
        h : History
        h = history_after c first es

        go : (slice_get (sent h) n ≡ Some p
            → p.direction ≡ Up
            → arrival_of c p ≡ ARequest b
            → Contains (log_told c h) (Asked p.octets))
            → IsOldOrNew (sent h) (puts c first h e) n p
            → Contains (log_told c (entry c first h e ∷ h)) (Asked p.octets)
        go before (inl old) =
            later_entry c (entry c first h e) h (Asked p.octets) (before old up is)
        go before (inr fresh) =
            let all = every c first es good legal.0 in
            let put : IsPut c (entry c first h e ∷ h) e p =
            (owes c first h e good all.0 all.2 legal.1).puts fresh.0 p fresh.2 in
            asked_now e h _ fresh.0 p b put fresh.2 up is

  -- what a lane delivers that is released of no transaction was asked
  request_asked : (es : List Act)
      → Legal c first es
      → (l : Lane) (n : ℕ) (r : Release)
      → hand (history_after c first es) l ≡ Some n
      → slice_get (released_by c (entry c first (history_after c first es) (Deliver l))
      (history_after c first es)) 0 ≡ Some r
      → r.of ≡ None
      → Contains (log_told c (history_after c first es)) (Asked r.message)
  request_asked es legal l n r held at none =
      let h : History = history_after c first es in
      let it = (every c first es good legal).0.hands l n held in
      let comes : in_hand c h l ≡ ARequest r.message =
      plain_is (length h) (lane_direction l) (outcome c h l) (heard c h (lane_direction l))
      (in_hand c h l) 0 r at none in
      let is : arrival_of c it.packet ≡ ARequest r.message =
      sym (in_hand_is c h l n held it) ∙ comes in
      let read =
      request_is (receiver_side it.packet.direction) c.apid c.part_size it.packet.octets r.message
      is in
      subst (λ (b : List ℕ). Contains (log_told c h) (Asked b)) read.1
      (was_asked es legal n it.packet r.message it.was_sent (up_from it.packet.direction read.0) is)

  -- what is released of no transaction was asked
  pub release_asked : (e : Act) (es : List Act)
      → Legal c first (e ∷ es)
      → (r : Release)
      → slice_get
      (released_by c (entry c first (history_after c first es) e) (history_after c first es)) 0
      ≡ Some r
      → r.of ≡ None
      → Contains (log_told c (history_after c first es)) (Asked r.message)
  release_asked (Deliver l) es legal r at none =
      let h : History = history_after c first es in
      let n = full (hand h l) (one_passes (not (is_some (hand h l))) HandEmpty legal.1.accepted) in
      request_asked es legal.0 l n.0 r n.1 at none
  release_asked e es legal r at none = absurd (no_place 0 r at)

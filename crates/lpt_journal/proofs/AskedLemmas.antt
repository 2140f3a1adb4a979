-- In every legal journal each plain request that is released is one that ground had asked for, and
-- so each request that is executed is ground's.
use Rattle.std.proofs.Common.{◌≡◌, ◌∙◌, ap, sym, subst, refl, ℕ, suc, ◌<◌, inl, inr, List, [], ◌∷◌, length, Some, None, arith}
use Rattle.std.specs.List.{slice_get, filter}
use Rattle.lpt_memory.specs.Memories.{Contents}
use Rattle.lpt_events.specs.Arrivals.{NotRead, ARequest, part_name}
use Rattle.lpt_events.specs.Lanes.{lane_direction}
use Rattle.lpt_events.specs.Sides.{receiver_side}
use Rattle.lpt_events.specs.declared.config.Config.{Config}
use Rattle.lpt_events.specs.declared.entry.Release.{Release}
use Rattle.lpt_acts.specs.Acts.{Act, Send, Plain, Damage, Deliver}
use Rattle.lpt_events.specs.declared.lane.Lane.{Lane}
use Rattle.lpt_journal.specs.Delivery.{outcome}
use Rattle.lpt_journal.specs.Hands.{hand, arrival_of, in_hand}
use Rattle.lpt_journal.specs.Headline.{before, EachIsLastOpened, WasAsked, EachWasAsked, EachIsOfGround, EachWasReleased}
use Rattle.lpt_journal.specs.Jobs.{went_up}
use Rattle.lpt_journal.specs.Journal.{SentPacket, Recorded, History}
use Rattle.lpt_journal.specs.Link.{sent}
use Rattle.lpt_journal.specs.Receivers.{heard}
use Rattle.lpt_journal.specs.Releases.{released_by, releases}
use Rattle.lpt_journal.specs.Replies.{puts, entry}
use Rattle.lpt_journal.proofs.DeliveredReleases.{plain_is}
use Rattle.lpt_journal.proofs.Events.{only_element}
use Rattle.lpt_journal.proofs.OctetLemmas.{request_is}
use Rattle.lpt_journal.proofs.Releasing.{OwesReleases, before_old, before_new}
use Rattle.lpt_journal.proofs.Soundness.{in_hand_is}
use Rattle.lpt_journal.proofs.Steps.{IsSound, Owes}
use Rattle.lpt_journal.proofs.TestLemmas.{place_in, passed, IsOldOrNew, with_all_cases, no_place}
use Rattle.lpt_journal.proofs.UpOctets.{put_up, up_from}

-- each request that was put on the link is one that ground asked for, and so is each that was
-- released
pub record AreAsked (c : Config) (h : History) : Type 0 where
  pub packets : (n : ℕ) (p : SentPacket) (b : List ℕ)
      → slice_get (sent h) n ≡ Some p
      → arrival_of c p ≡ ARequest b
      → WasAsked c h b
  pub places : (k : ℕ) (r : Release) → slice_get (releases c h) k ≡ Some r → r.place < length h
  pub released : EachWasAsked c h

-- ---- packets

-- what was asked for was so after an entry
asked_later : (c : Config) (h : History) (x : Recorded) (b : List ℕ)
    → WasAsked c h b
    → WasAsked c (x ∷ h) b
asked_later c h x b a = record {
  number = suc a.number;
  entry = a.entry;
  is_there = a.is_there;
  source = a.source;
  flags = a.flags;
  service = a.service;
  subtype = a.subtype;
  body = a.body;
  asks = a.asks;
  is_packet = a.is_packet;
}

-- a request that an event puts is a plain one that ground asks for by it
put_asked : (c : Config) (first : Contents) (h : History) (e : Act)
    → Owes c h (entry c first h e)
    → (n : ℕ) (p : SentPacket) (b : List ℕ)
    → slice_get (puts c first h e) n ≡ Some p
    → arrival_of c p ≡ ARequest b
    → WasAsked c (entry c first h e ∷ h) b
put_asked c first h (Send d name k) pays n p b f is =
    absurd (let no : None ≡ Some name = ap part_name (sym is) ∙ (pays.puts n p f).name in cc)
put_asked c first h (Damage d o) pays n p b f is =
    absurd (let no : NotRead ≡ ARequest b = sym (pays.puts n p f).sound ∙ is in cc)
put_asked c first h (Plain source flags service subtype body) pays n p b f is =
    let read = request_is (receiver_side p.direction) c.apid c.part_size p.octets b is in
    record {
      number = 0;
      entry = entry c first h (Plain source flags service subtype body);
      is_there = refl;
      source = source;
      flags = flags;
      service = service;
      subtype = subtype;
      body = body;
      asks = refl;
      is_packet =
          sym read.1 ∙ sym (ap (λ (x : SentPacket). x.octets) (only_element _ n p f));
    }
put_asked c first h e pays n p b f is =
    let read = request_is (receiver_side p.direction) c.apid c.part_size p.octets b is in
    absurd (let t = put_up c first h e n p f (up_from p.direction read.0) in cc)

-- ---- releases

-- a request that an event releases was asked for
release_asked : (c : Config) (first : Contents) (h : History) (e : Act)
    → IsSound c h
    → ((l : Lane) → e ≡ Deliver l → (n : ℕ) × (hand h l ≡ Some n))
    → AreAsked c h
    → (k : ℕ) (r : Release)
    → slice_get (released_by c (entry c first h e) h) k ≡ Some r
    → r.of ≡ None
    → WasAsked c h r.message
release_asked c first h (Deliver l) sound full had k r f of =
    let n = full l refl in
    let it = sound.hands l n.0 n.1 in
    let is =
    plain_is (length h) (lane_direction l) (outcome c h l) (heard c h (lane_direction l))
    (in_hand c h l) k r f of in
    had.packets n.0 it.packet r.message it.was_sent (sym (in_hand_is c h l n.0 n.1 it) ∙ is)
release_asked c first h e sound full had k r f of = absurd (no_place k r f)

-- ---- the step

-- each request was asked for again after an event that can happen
pub asked_step : (c : Config) (first : Contents) (h : History) (e : Act)
    → IsSound c h
    → Owes c h (entry c first h e)
    → OwesReleases c h (entry c first h e)
    → ((l : Lane) → e ≡ Deliver l → (n : ℕ) × (hand h l ≡ Some n))
    → AreAsked c h
    → AreAsked c (entry c first h e ∷ h)
asked_step c first h e sound pays owes full had = record {
  packets = λ n p b f is. packet n p b is (with_all_cases (sent h) x.puts n p f);
  places = λ k r f. place k r (with_all_cases (releases c h) (released_by c x h) k r f);
  released = λ k r f of. release k r of (with_all_cases (releases c h) (released_by c x h) k r f);
} where
  x : Recorded
  x = entry c first h e

  packet : (n : ℕ) (p : SentPacket) (b : List ℕ)
      → arrival_of c p ≡ ARequest b
      → IsOldOrNew (sent h) (puts c first h e) n p
      → WasAsked c (entry c first h e ∷ h) b
  packet n p b is (inl old) = asked_later c h (entry c first h e) b (had.packets n p b old is)
  packet n p b is (inr fresh) = put_asked c first h e pays fresh.0 p b fresh.2 is

  place : (k : ℕ) (r : Release)
      → IsOldOrNew (releases c h) (released_by c (entry c first h e) h) k r
      → r.place < suc (length h)
  place k r (inl old) = omega (arith, had.places k r old)
  place k r (inr fresh) = omega (arith, owes.place fresh.0 r fresh.2)

  release : (k : ℕ) (r : Release)
      → r.of ≡ None
      → IsOldOrNew (releases c h) (released_by c (entry c first h e) h) k r
      → WasAsked c (before r.place (entry c first h e ∷ h)) r.message
  release k r of (inl old) =
      subst (λ g. WasAsked c g r.message)
      (sym (before_old h (entry c first h e) r.place (omega (arith, had.places k r old))))
      (had.released k r old of)
  release k r of (inr fresh) =
      subst (λ g. WasAsked c g r.message)
      (sym (before_new h (entry c first h e) r.place (owes.place fresh.0 r fresh.2)))
      (release_asked c first h e sound full had fresh.0 r fresh.2 of)

-- before anything has happened
pub asked_start : (c : Config) → AreAsked c []
asked_start c = record {
  packets = λ n p b f is. absurd (no_place n p f);
  places = λ k r f. absurd (no_place k r f);
  released = λ k r f of. absurd (no_place k r f);
}

-- ---- what is executed

-- each request that was executed is ground's, since it was released
pub each_of_ground : (c : Config) (h : History)
    → EachIsLastOpened c h
    → EachWasAsked c h
    → EachWasReleased c h
    → EachIsOfGround c h
each_of_ground c h last asked released k r f =
    let had = place_in (filter (λ r. went_up r.of) (releases c h)) r (released k r f) in
    let it = passed (λ r. went_up r.of) (releases c h) had.0 r had.1 in
    record {
      came_up = it.2;
      plain = asked it.0 r it.1;
      large = last it.0 r it.1;
    }

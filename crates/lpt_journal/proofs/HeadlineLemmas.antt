-- What holds of every legal journal: each event pays what it owes, so each history is sound.
use Rattle.std.proofs.Common.{◌≡◌, ◌∙◌, ap, sym, subst, refl, ℕ, zero, suc, true, false, not, List, [], ◌∷◌, Option, Some, None}
use Rattle.std.specs.List.{slice_get}
use Rattle.std.specs.Option.{is_some, option_map_or}
use Rattle.std.specs.FinMap as map
use Rattle.std.specs.Ordering.{nat_cmp}
use Rattle.lpt_packet.specs.declared.direction.Direction.{Direction}
use Rattle.lpt_packet.specs.Names.{Name}
use Rattle.lpt_reception.specs.Received.{no_parts}
use Rattle.lpt_events.specs.NamedParts.{NamedPart}
use Rattle.lpt_events.specs.declared.lane.Lane.{Lane}
use Rattle.lpt_events.specs.Lanes.{lane_direction}
use Rattle.lpt_events.specs.declared.config.Config.{Config}
use Rattle.lpt_events.specs.Arrivals.{NotRead, APart}
use Rattle.lpt_acts.specs.Acts.{Act, Open, Send, Plain, Damage, Take, Deliver, Tick, Expire, Commit, Apply, Retire, Restart}
use Rattle.lpt_events.specs.declared.fault.StepFault.TheVariants.{HandEmpty}
use Rattle.lpt_events.specs.declared.outcome.Outcome.{Outcome}
use Rattle.lpt_events.specs.declared.reply.Answer.TheVariants.{Delivered}
use Rattle.lpt_events.specs.Sides.{direction_to}
use Rattle.lpt_journal.specs.Delivery.{outcome}
use Rattle.lpt_journal.specs.Journal.{Recorded, History}
use Rattle.lpt_journal.specs.Link.{is_damaged}
use Rattle.lpt_journal.specs.Hands.{hand, arrival_at, in_hand}
use Rattle.lpt_journal.specs.Jobs.{boot, jobs_applied, ticket, memories}
use Rattle.lpt_journal.specs.Releases.{released_by}
use Rattle.lpt_events.specs.Configs.{IsConfig}
use Rattle.lpt_journal.specs.Due.{given_up}
use Rattle.lpt_journal.specs.Replies.{answer, expired_now, entry, history_after}
use Rattle.lpt_journal.specs.Refusals.{refusal}
use Rattle.lpt_journal.specs.Legal.{IsEnabled, Legal}
use Rattle.lpt_journal.proofs.JobLemmas.{memories_follow, queue_follows}
use Rattle.lpt_journal.specs.Headline.{PartsAreCurrent, EachIsLastOpened, IsSoundOutcome, WasSoundDelivery, DeliveriesAreSound, DeliveriesWereSound, Headline}
use Rattle.lpt_journal.proofs.TestLemmas.{one_passes, no_place}
use Rattle.lpt_events.specs.declared.side.Side.TheVariants.{Craft}
use Rattle.lpt_journal.proofs.CalmEvents.{quiet_owes}
use Rattle.lpt_journal.proofs.CommitLemmas.{commit_says}
use Rattle.lpt_journal.proofs.RestartEvents.{restart_owes}
use Rattle.lpt_journal.proofs.Retirement.{retire_owes}
use Rattle.lpt_journal.proofs.Steps.{IsSound, Owes}
use Rattle.lpt_journal.proofs.Soundness.{hand_current, sound_step}
use Rattle.lpt_journal.proofs.Events.{open_owes, send_owes, take_owes}
use Rattle.lpt_journal.proofs.DamageEvents.{damage_owes}
use Rattle.lpt_journal.proofs.PlainEvents.{plain_owes}
use Rattle.lpt_journal.proofs.WorkEvents.{apply_owes}
use Rattle.lpt_journal.proofs.UpOctets.{AreUpOctets, up_octets_start, up_octets_step}
use Rattle.lpt_journal.proofs.AskedLemmas.{AreAsked, asked_start, asked_step, each_of_ground}
use Rattle.lpt_journal.proofs.AnswerLengths.{answer_fits, source_fits}
use Rattle.lpt_journal.proofs.TimeEvents.{tick_owes, expire_owes}
use Rattle.lpt_journal.proofs.Deliveries.{delivery_sound, deliver_owes}
use Rattle.lpt_journal.proofs.Releasing.{OwesReleases, ArePast, opening_is}
use Rattle.lpt_journal.proofs.OnceLemmas.{past_step}
use Rattle.lpt_memory.specs.Memories.{Contents}
use Rattle.lpt_journal.proofs.DeliveredReleases.{deliver_releases}

-- ---- each event

-- a lane that may deliver has something in its hand
in_its_hand : (o : Option ℕ) → not (is_some o) ≡ false → (n : ℕ) × (o ≡ Some n)
in_its_hand None e = absurd cc
in_its_hand (Some n) e = (n, refl)

pub delivered : (c : Config) (h : History) (l : Lane)
    → refusal c h (Deliver l) ≡ None
    → (n : ℕ) × (hand h l ≡ Some n)
delivered c h l e = in_its_hand (hand h l) (one_passes (not (is_some (hand h l))) HandEmpty e)

full : (c : Config) (h : History) (e : Act)
    → refusal c h e ≡ None
    → (l : Lane)
    → e ≡ Deliver l
    → (n : ℕ) × (hand h l ≡ Some n)
full c h e can l is = delivered c h l (ap (refusal c h) (sym is) ∙ can)

-- an event that can happen pays what it owes
pub owes : (c : Config) (first : Contents) (h : History) (e : Act)
    → IsConfig c
    → IsSound c h
    → AreUpOctets c h
    → IsEnabled c h e
    → Owes c h (entry c first h e)
owes c first h (Open d name m) good sound up can =
    open_owes c first h d name m sound can.in_range.0 can.accepted
owes c first h (Send d name k) good sound up can =
    send_owes c first h d name k good sound can.in_range.0 can.accepted
owes c first h (Plain source flags service subtype body) good sound up can =
    plain_owes c first h source flags service subtype body good sound can.in_range can.accepted
owes c first h (Damage d b) good sound up can = damage_owes c first h d b sound can.accepted
owes c first h (Tick side turn) good sound up can = tick_owes c first h side turn sound can.accepted
owes c first h (Expire side which) good sound up can = expire_owes c first h side which good sound
owes c first h (Take l n) good sound up can = take_owes c first h l n sound can.accepted
owes c first h (Deliver l) good sound up can =
    let n = delivered c h l can.accepted in deliver_owes c first h l n.0 good sound n.1
owes c first h (Apply how) good sound up can =
    apply_owes c first h how good sound
    (λ r e.
    let octets = up.requests (jobs_applied h) r e in
    (answer_fits c.apid (memories c first h) r.message octets, source_fits c.apid r.message octets))
owes c first h (Retire d name) good sound up can = retire_owes c first h d name sound can.accepted
owes c first h (Restart side) good sound up can = restart_owes c first h side sound
owes c first h e good sound up can = quiet_owes c first h e refl refl sound

-- an event that releases nothing owes nothing for it
quiet : (c : Config) (h : History) (x : Recorded) → released_by c x h ≡ [] → OwesReleases c h x
quiet c h x none = record {
  one = λ k r f. absurd (no_place k r (ap (λ rs. slice_get rs k) (sym none) ∙ f));
  place = λ k r f. absurd (no_place k r (ap (λ rs. slice_get rs k) (sym none) ∙ f));
  large = λ k r t f of. absurd (no_place k r (ap (λ rs. slice_get rs k) (sym none) ∙ f));
}

-- an event that can happen pays what it owes for what it releases
pub owes_releases : (c : Config) (first : Contents) (h : History) (e : Act)
    → IsConfig c
    → IsSound c h
    → IsEnabled c h e
    → OwesReleases c h (entry c first h e)
owes_releases c first h (Deliver l) good sound can =
    let n = delivered c h l can.accepted in deliver_releases c first h l n.0 good sound n.1
owes_releases c first h e good sound can = quiet c h (entry c first h e) refl

-- ---- every journal

-- before anything has happened
sound_start : (c : Config) → IsConfig c → IsSound c []
sound_start c good = record {
  openings = λ d name o e. absurd cc;
  packets = λ n p e. absurd (no_place n p e);
  names = refl;
  held = λ n p q e f is. absurd (no_place n p f);
  hands = λ l n e. absurd cc;
  heard =
      λ d name n x e. absurd (let none : map.get no_parts n ≡ None = map.get-empty nat_cmp n in cc);
  clocks = λ side. good.clock_fits;
}

past_start : (c : Config) → ArePast c []
past_start c = record {
  each = λ k r t e of. absurd (no_place k r e);
  closed = λ k r t o u e of was now at. absurd (no_place k r e);
  once = λ j k r s o u e f is_o is_u same. absurd (no_place j r e);
}

-- the history of every legal journal is sound, and so are its releases; what goes up is octets, and
-- each request on its way is ground's
pub every : (c : Config) (first : Contents) (es : List Act)
    → IsConfig c
    → Legal c first es
    → IsSound c (history_after c first es) × ArePast c (history_after c first es)
    × AreUpOctets c (history_after c first es) × AreAsked c (history_after c first es)
every c first [] good legal =
    (sound_start c good, past_start c, up_octets_start c, asked_start c)
every c first (e ∷ es) good legal =
    let h = history_after c first es in
    let had = every c first es good legal.0 in
    let pays = owes c first h e good had.0 had.2 legal.1 in
    let frees = owes_releases c first h e good had.0 legal.1 in (
      sound_step c h (entry c first h e) pays had.0,
      past_step c first h (entry c first h e) pays had.0 frees had.1,
      up_octets_step c first h e had.0 legal.1 frees (full c h e legal.1.accepted) had.2,
      asked_step c first h e had.0 pays frees (full c h e legal.1.accepted) had.3,
    )

-- ---- the main theorem

-- a lane with a part in its hand has taken it
pub taken : (c : Config) (h : History) (l : Lane) (q : NamedPart)
    → in_hand c h l ≡ APart q
    → (n : ℕ) × (hand h l ≡ Some n)
taken c h l q e = go (hand h l) refl e where
  go : (o : Option ℕ)
      → hand h l ≡ o
      → option_map_or (arrival_at c h (lane_direction l)) o NotRead ≡ APart q
      → (n : ℕ) × (hand h l ≡ Some n)
  go None is k = absurd cc
  go (Some n) is k = (n, is)

parts_current : (c : Config) (h : History) → IsSound c h → PartsAreCurrent c h
parts_current c h sound = record {
  held = sound.held;
  hands = λ l q e. let n = taken c h l q e in hand_current c h l n.0 q sound n.1 e;
  heard = sound.heard;
}

large : (o : Option (Direction × Name)) → is_some o ≡ true → (t : Direction × Name) × (o ≡ Some t)
large None e = absurd cc
large (Some t) e = (t, refl)

each_last : (c : Config) (h : History) → ArePast c h → EachIsLastOpened c h
each_last c h past k r e of =
    let t = large r.of of in
    let p = past.each k r t.0 e t.1 in
    record {
      place_fits = p.place_fits;
      opening = p.opening;
      is_current = opening_is h r t.0 t.1 ∙ p.is_current;
      is_message = p.is_message;
    }

deliveries : (c : Config) (h : History) → IsSound c h → DeliveriesAreSound c h
deliveries c h sound l n is = delivery_sound c h l n sound is

-- an event that delivered has delivered what was in a lane's hand
delivered_sound : (c : Config) (first : Contents) (h : History) (e : Act) (o : Outcome)
    → IsSound c h
    → refusal c h e ≡ None
    → answer c first h e ≡ Delivered o
    → WasSoundDelivery c.mode h e o
delivered_sound c first h (Deliver l) o sound can is =
    let n = delivered c h l can in
    let same : outcome c h l ≡ o = cc in
    record {
      lane = l;
      number = n.0;
      delivers = refl;
      was_in_hand = n.1;
      sound =
          subst (λ r. IsSoundOutcome c.mode (is_damaged h n.0) r) same
          (delivery_sound c h l n.0 sound n.1);
    }
delivered_sound c first h (Expire side which) o sound can is =
    absurd (none_delivered (given_up c h (direction_to side) which) is)
  where
    none_delivered : (d : Option Name) → expired_now (direction_to side) d ≡ Delivered o → ⊥
    none_delivered None e = cc
    none_delivered (Some name) e = cc
delivered_sound c first h (Commit w) o sound can is =
    absurd (commit_says (λ a. ¬ (a ≡ Delivered o)) (boot h Craft) (ticket c h w) (λ b n e. cc)
    (λ b n e. cc) is)
delivered_sound c first h e o sound can is = absurd cc

each_delivered : (c : Config) (first : Contents) (es : List Act)
    → IsConfig c
    → Legal c first es
    → DeliveriesWereSound c.mode (history_after c first es)
each_delivered c first [] good legal k x o f is = absurd (no_place k x f)
each_delivered c first (e ∷ es) good legal zero x o f is =
    let h = history_after c first es in
    let same : entry c first h e ≡ x = cc in
    subst (λ (y : Recorded). WasSoundDelivery c.mode h y.event o) same
    (delivered_sound c first h e o (every c first es good legal.0).0 legal.1.accepted
    (ap (λ (y : Recorded). y.reply.answer) same ∙ is))
each_delivered c first (e ∷ es) good legal (suc k) x o f is =
    each_delivered c first es good legal.0 k x o f is

-- the main theorem
pub headline : Headline
headline c first es good legal =
    let h = history_after c first es in
    let all = every c first es good legal in
    let last = each_last c h all.1 in
    let memories = memories_follow c first h in
    record {
      parts = parts_current c h all.0;
      messages = last;
      once = all.1.once;
      asked = all.3.released;
      of_ground = each_of_ground c h last all.3.released memories.released;
      deliveries = deliveries c h all.0;
      delivered = each_delivered c first es good legal;
      memories = memories;
      queue = queue_follows c h;
    }

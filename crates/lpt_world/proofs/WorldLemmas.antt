-- A world that enters an event shows its longer journal.
use Rattle.std.proofs.Common.{◌≤◌, nat_lt, Bool, true, false, if◌then◌else◌, ◌≡◌, ◌∙◌, ap, sym, subst, refl, ℕ, List, [], ◌∷◌, ◌++◌, length, map, reverse, Option, Some, None}
use Rattle.std.specs.Option.{option_map}
use Rattle.std.specs.Prelude.{slice_get}
use Rattle.std.proofs.lemmas.Option.{slice_get-map}
use Rattle.std.proofs.lemmas.Bool.{ltb-false}
use Rattle.std.proofs.lemmas.List.{reverse-append, map-append}
use Rattle.std.proofs.lemmas.List.Elements.{All-nil, All-push}
use Rattle.lpt_acts.specs.Acts.{act_of, IsAct}
use Rattle.lpt_events.specs.declared.event.Event.TheVariants as event
use Rattle.lpt_packet.proofs.Readings.{lt_false}
use Rattle.lpt_link.specs.declared.packet.LinkPacket.{LinkPacket}
use Rattle.lpt_link.specs.Links.{octets_at}
use Rattle.lpt_memory.specs.Memories.{Contents}
use Rattle.lpt_events.specs.declared.config.Config.{Config}
use Rattle.lpt_system.specs.declared.system.System.{System}
use Rattle.lpt_events.specs.declared.entry.Entry.{Entry}
use Rattle.lpt_events.specs.declared.event.Event.{Event}
use Rattle.lpt_events.specs.Events.{IsEvent}
use Rattle.lpt_events.specs.declared.fault.StepFault.{StepFault}
use Rattle.lpt_events.specs.declared.fault.StepFault.TheVariants.{NoSuchSeat}
use Rattle.lpt_events.specs.declared.reply.Reply.{Reply}
use Rattle.lpt_system.specs.SystemInside.{state_of}
use Rattle.lpt_journal.specs.Journal.{Recorded, History, SentPacket}
use Rattle.lpt_journal.specs.Link.{sent}
use Rattle.lpt_events.specs.Configs.{IsConfig}
use Rattle.lpt_journal.specs.Legal.{Legal}
use Rattle.lpt_journal.specs.Events.{refusal, reply, entry, IsEnabled}
use Rattle.lpt_journal.specs.Replies.{history_after}
use Rattle.lpt_refinement.specs.Shows.{Shows, sent_packet}
use Rattle.lpt_model.specs.Events.{after, refusal_of, IsReady}
use Rattle.lpt_model.specs.State.{State, no_state}
use Rattle.lpt_refinement.specs.Views.{views}
use Rattle.lpt_world.specs.WorldInside.{IsShown, IsWorld}
use Rattle.lpt_world.specs.Worlds.{IsTold, history_of, refusal_at}
use Rattle.lpt_refinement.proofs.Follows.{follows}
use Rattle.lpt_world.proofs.LegalLemmas.{events_of-push, length-history_of, fits}

-- an event whose numbers are of their types is such an act
is_act : (e : Event) → IsEvent e → IsAct (act_of e)
is_act (event.Open d name m) k = k
is_act (event.Send d name n) k = k
is_act (event.Plain source flags service subtype body) k = k
is_act (event.Finish d name) k = k
is_act (event.Lose n) k = tt
is_act (event.Damage d b) k = k
is_act (event.Take l n) k = tt
is_act (event.Deliver l) k = tt
is_act (event.Tick side) k = tt
is_act (event.Expire side) k = tt
is_act (event.Claim w) k = tt
is_act (event.Commit w) k = tt
is_act event.Apply k = tt
is_act (event.Retire d name) k = k
is_act (event.Restart side) k = tt

-- ---- journals

-- the replies of a history, the oldest first
abbrev replies_of : History → List Reply
replies_of h = reverse (map (λ (y : Recorded). y.reply) h)

-- a journal is told with an event behind it that can happen then, its reply, and a seat that is there
told_push : (c : Config) (first : Contents) (j : List Entry) (x : Entry)
    → IsTold c first j
    → IsEnabled c (history_of c first j) x.event
    → x.reply ≡ reply c first (history_of c first j) x.event
    → x.seat ≤ 10
    → IsTold c first (j ++ x ∷ [])
told_push c first j x told enabled is seated =
    let h : History = history_of c first j in
    let r : Reply = reply c first h x.event in
    record {
      legal = subst (Legal c first) (sym (events_of-push j x)) (told.legal, enabled);
      replies =
          map-append (λ (y : Entry). y.reply) j (x ∷ [])
          ∙ ap (λ rs. rs ++ x.reply ∷ []) told.replies
          ∙ ap (λ a. replies_of h ++ a ∷ []) is
          ∙ sym (ap (λ es. replies_of (history_after c first es)) (events_of-push j x)
          ∙ reverse-append (r ∷ []) (map (λ (y : Recorded). y.reply) h));
      seats = All-push (λ (y : Entry). y.seat ≤ 10) j x told.seats seated;
    }

-- ---- what the system does

-- what the system doesn't refuse the journal doesn't
accepted_shown : (e : System) (first : Contents) (j : List Entry) (ev : Event)
    → IsShown e first j
    → refusal_of e.config (state_of e) ev ≡ None
    → refusal e.config (history_of e.config first j) ev ≡ None
accepted_shown e first j ev k free =
    sym (follows.refuses e.config first (state_of e) (history_of e.config first j) (act_of ev)
    k.shows
    (fits e.config first j k.configured k.told)) ∙ free

-- the reply of the system is the journal's
pub reply_shown : (e e' : System) (first : Contents) (j : List Entry) (ev : Event) (r : Reply)
    → IsShown e first j
    → refusal_of e.config (state_of e) ev ≡ None
    → ◌≡◌ {A = State × Reply} (state_of e', r) (after e.config (length j) (state_of e) ev)
    → r ≡ reply e.config first (history_of e.config first j) ev
reply_shown e e' first j ev r k free done =
    let c = e.config in
    let goes = follows.goes_on c first (state_of e) (history_of c first j) (act_of ev) k.configured
    k.shows
    (fits c first j k.configured k.told) (accepted_shown e first j ev k free) in
    ap (λ (y : State × Reply). y.1) done
    ∙ ap (λ n. (after c n (state_of e) ev).1) (sym (length-history_of c first j))
    ∙ goes.answered

-- a world that has done an event shows it
pub shown_push : (e e' : System) (first : Contents) (j : List Entry) (x : Entry)
    → IsShown e first j
    → x.seat ≤ 10
    → IsEvent x.event
    → refusal_of e.config (state_of e) x.event ≡ None
    → ◌≡◌ {A = State
    × Reply} (state_of e', x.reply) (after e.config (length j) (state_of e) x.event)
    → e'.config ≡ e.config
    → IsShown e' first (j ++ x ∷ [])
shown_push e e' first j x k seated ranged free done same =
    let c = e.config in
    let h : History = history_of c first j in
    let accepted : refusal c h x.event ≡ None = accepted_shown e first j x.event k free in
    let goes = follows.goes_on c first (state_of e) h (act_of x.event) k.configured k.shows
    (fits c first j k.configured k.told) accepted in
    let state : (after c (length h) (state_of e) x.event).0 ≡ state_of e' =
    ap (λ n. (after c n (state_of e) x.event).0) (length-history_of c first j)
    ∙ sym (ap (λ (y : State × Reply). y.0) done) in
    let longer : history_of c first (j ++ x ∷ []) ≡ entry c first h x.event ∷ h =
    ap (history_after c first) (events_of-push j x) in
    let shows : Shows (state_of e') (views c first (history_of c first (j ++ x ∷ []))) =
    subst (λ (g : History). Shows (state_of e') (views c first g)) (sym longer)
    (subst (λ (s : State). Shows s (views c first (entry c first h x.event ∷ h))) state goes.shown)
    in
    let told : IsTold c first (j ++ x ∷ []) =
    told_push c first j x k.told (record { in_range = is_act x.event ranged; accepted = accepted })
    (reply_shown e e' first j x.event x.reply k free done) seated in
    subst (λ (d : Config). IsWorld d first e' (j ++ x ∷ [])) (sym same)
    (record { configured = k.configured; shows = shows; told = told })

-- what an event asks of the system besides is there
pub ready_shown : (e : System) (first : Contents) (j : List Entry) (ev : Event)
    → IsShown e first j
    → refusal_of e.config (state_of e) ev ≡ None
    → IsReady e.config (state_of e) ev
ready_shown e first j ev k free =
    (follows.goes_on e.config first (state_of e) (history_of e.config first j) (act_of ev)
    k.configured k.shows (fits e.config first j k.configured k.told)
    (accepted_shown e first j ev k free)).ready

-- the octets of a packet are what the journal says
pub packet_shown : (e : System) (first : Contents) (j : List Entry) (n : ℕ)
    → IsShown e first j
    → octets_at e.link.at n
    ≡ option_map (λ p. p.octets) (slice_get (sent (history_of e.config first j)) n)
packet_shown e first j n k =
    go (slice_get e.link.at.packets n)
    ∙ ap (λ o. option_map (λ (p : SentPacket). p.octets) o)
    (sym (slice_get-map sent_packet e.link.at.packets n)
    ∙ ap (λ ps. slice_get ps n) k.shows.link.packets) where
      go : (o : Option LinkPacket)
          → option_map (λ p. p.octets) o
          ≡ option_map (λ (p : SentPacket). p.octets) (option_map sent_packet o)
      go None = refl
      go (Some p) = refl

-- ---- calls

-- what the system refuse is what the world refuses of a seat that there is
pub refusal_at_shown : (e : System) (first : Contents) (j : List Entry) (seat : ℕ) (ev : Event)
    → IsShown e first j
    → seat ≤ 10
    → refusal_of e.config (state_of e) ev
    ≡ refusal_at (record { config = e.config; first = first; journal = j }) seat ev
refusal_at_shown e first j seat ev k h =
    let past = history_of e.config first j in
    let there : nat_lt 10 seat ≡ false = lt_false 10 seat h in
    follows.refuses e.config first (state_of e) past (act_of ev) k.shows
    (fits e.config first j k.configured k.told)
    ∙ sym (ap (λ t. if t then Some NoSuchSeat else refusal e.config past ev) there)

-- what the world doesn't refuse the system doesn't
pub free_shown : (e : System) (first : Contents) (j : List Entry) (seat : ℕ) (ev : Event)
    → IsShown e first j
    → None ≡ refusal_at (record { config = e.config; first = first; journal = j }) seat ev
    → refusal_of e.config (state_of e) ev ≡ None
free_shown e first j seat ev k h =
    follows.refuses e.config first (state_of e) (history_of e.config first j) (act_of ev) k.shows
    (fits e.config first j k.configured k.told)
    ∙ go (nat_lt 10 seat) (refusal e.config (history_of e.config first j) ev) h where
      go : (t : Bool) (r : Option StepFault) → None ≡ (if t then Some NoSuchSeat else r) → r ≡ None
      go true r f = absurd cc
      go false r f = sym f

-- a seat is there of which a world refuses nothing
pub seat_there : (seat : ℕ) (r : Option StepFault)
    → None ≡ (if nat_lt 10 seat then Some NoSuchSeat else r)
    → seat ≤ 10
seat_there seat r h = go (nat_lt 10 seat) refl h where
  go : (t : Bool)
      → nat_lt 10 seat ≡ t
      → None ≡ (if t then Some NoSuchSeat else r)
      → seat ≤ 10
  go true p f = absurd cc
  go false p f = ltb-false 10 seat p

-- ---- a new world

-- a new world shows the empty journal
pub shown_new : (e : System) (c : Config) (first : Contents)
    → e.config ≡ c
    → state_of e ≡ no_state c first
    → IsConfig c
    → IsShown e first []
shown_new e c first same state configured =
    let shows = subst (λ (s : State). Shows s (views c first [])) (sym state)
    (follows.begins c first) in
    subst (λ (d : Config). IsWorld d first e []) (sym same)
    (record {
      configured = configured;
      shows = shows;
      told =
          record { legal = tt; replies = refl; seats = All-nil (λ (y : Entry). y.seat ≤ 10) };
    })

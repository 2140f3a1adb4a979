-- What users see of a history: memories, requests, and what stands under names.
use Rattle.std.proofs.Common.{◌≡◌, ◌∙◌, ap, sym, subst, refl, ℕ, zero, suc, ◌+◌, ◌≤◌, ◌==◌, Bool, true, false, not, ◌&&◌, ◌||◌, if◌then◌else◌, List, [], ◌∷◌, ◌++◌, length, drop, map, Option, Some, None, arith}
use Rattle.std.specs.List.{slice_get, Contains}
use Rattle.std.specs.Option.{is_some, option_or}
use Rattle.std.proofs.lemmas.List.{map-append, append-nil, drop-append-le}
use Rattle.std.proofs.lemmas.List.Elements.{Contains-append_left, Contains-append_right}
use Rattle.lpt_packet.specs.declared.direction.Direction.{Direction}
use Rattle.lpt_packet.specs.declared.direction.Direction.TheVariants.{Up, Down}
use Rattle.lpt_packet.specs.Names.{Name, same_name}
use Rattle.lpt_packet.proofs.NameLemmas.{same_name-true}
use Rattle.lpt_packet.proofs.BoolLemmas.{and_left, and_right}
use Rattle.lpt_memory.specs.Memories.{Contents, sizes_of, effect, put_all, memories_loaded}
use Rattle.lpt_memory.specs.Meanings.{Meaning, Silent, Fault, Load, Dump, Check, meaning}
use Rattle.lpt_memory.specs.declared.request.Area.{Area}
use Rattle.lpt_events.specs.Lanes.{same_direction}
use Rattle.lpt_events.specs.Sides.{same_side, receiver_side, direction_to}
use Rattle.lpt_events.specs.declared.config.Config.{Config}
use Rattle.lpt_events.specs.declared.entry.Opening.{Opening}
use Rattle.lpt_events.specs.declared.entry.Release.{Release}
use Rattle.lpt_events.specs.declared.side.Side.{Side}
use Rattle.lpt_events.specs.declared.side.Side.TheVariants.{Ground, Craft}
use Rattle.lpt_events.proofs.LaneLemmas.{same_direction-true}
use Rattle.lpt_acts.specs.Acts.{Execute, Plain}
use Rattle.lpt_journal.specs.Headline.{WasAsked}
use Rattle.lpt_journal.specs.Jobs.{left_by}
use Rattle.lpt_journal.specs.Journal.{Recorded, History, with_all}
use Rattle.lpt_journal.specs.Replies.{plain_packet}
use Rattle.lpt_service.specs.Served.{slot_of, asked_now, requests_asked}
use Rattle.lpt_service.specs.Service as service
use Rattle.lpt_journal.proofs.TestLemmas.{no_place}

-- ---- the memories

put_same : (areas : List Area) (content : List ℕ)
    → put_all content areas ≡ service.put_each content areas
put_same [] content = refl
put_same (a ∷ areas) content = put_same areas (service.put content a.address a.octets)

loaded_same : (id : ℕ) (areas : List Area) (ms : Contents)
    → memories_loaded id areas ms ≡ service.with_areas id areas ms
loaded_same id areas [] = refl
loaded_same id areas (m ∷ ms) = λ j.
    if m.0 == id then (m.0, put_same areas m.1 j) ∷ ms else m ∷ loaded_same id areas ms j

-- what the service says of a request's execution is what the journal says
changed_same : (m : Meaning) (ms : Contents) → effect m ms ≡ service.memories_after Execute m ms
changed_same Silent ms = refl
changed_same (Fault code) ms = refl
changed_same (Load id areas) ms = loaded_same id areas ms
changed_same (Dump id ranges) ms = refl
changed_same (Check id ranges) ms = refl

pub left_one_more : (apid : ℕ) (rs : List (List ℕ)) (r : List ℕ) (ms : Contents)
    → left_by apid (rs ++ r ∷ []) ms
    ≡ service.memories_after Execute (meaning apid (sizes_of (left_by apid rs ms)) r)
    (left_by apid rs ms)
left_one_more apid [] r ms = changed_same (meaning apid (sizes_of ms) r) ms
left_one_more apid (q ∷ rs) r ms =
    left_one_more apid rs r (effect (meaning apid (sizes_of ms) q) ms)

-- ---- the requests that wait

abbrev pub messages : List Release → List (List ℕ)
messages rs = map (λ (r : Release). r.message) rs

-- the oldest that waits, and those behind it
pub front_waits : (n : ℕ) (rs : List Release) (r : Release)
    → slice_get rs n ≡ Some r
    → messages (drop n rs) ≡ r.message ∷ messages (drop (n + 1) rs)
front_waits n [] r e = absurd (no_place n r e)
front_waits zero (q ∷ rs) r e =
    let same : q ≡ r = cc in ap (λ (w : Release). w.message ∷ messages rs) same
front_waits (suc n) (q ∷ rs) r e =
    let more : suc n + 1 ≡ suc (n + 1) = omega arith in
    front_waits n rs r e ∙ ap (λ k. r.message ∷ messages (drop k (q ∷ rs))) (sym more)

-- those that are released wait behind the others
pub more_wait : (n : ℕ) (rs new : List Release)
    → n ≤ length rs
    → messages (drop n (with_all rs new)) ≡ messages (drop n rs) ++ messages new
more_wait n rs [] fits = sym (append-nil (messages (drop n rs)))
more_wait n rs (r ∷ new) fits =
    ap messages (drop-append-le n rs (r ∷ new) fits)
    ∙ map-append (λ (w : Release). w.message) (drop n rs) (r ∷ new)

-- ---- the requests that were sent

sent_before : (xs ys : List (List ℕ)) (b : List ℕ) → Contains xs b → Contains (with_all xs ys) b
sent_before xs [] b had = had
sent_before xs (y ∷ ys) b had = Contains-append_left xs (y ∷ ys) b had

sent_at : (c : Config) (h : History) (n : ℕ) (x : Recorded) (b : List ℕ)
    (source flags kind subtype : ℕ) (body : List ℕ)
    → slice_get h n ≡ Some x
    → x.event ≡ Plain source flags kind subtype body
    → b ≡ plain_packet c (drop (suc n) h) source flags kind subtype body
    → Contains (requests_asked c h) b
sent_at c [] n x b source flags kind subtype body there asks is = absurd (no_place n x there)
sent_at c (y ∷ h) zero x b source flags kind subtype body there asks is =
    let same : y ≡ x = cc in
    let event : y.event ≡ Plain source flags kind subtype body =
    ap (λ (w : Recorded). w.event) same ∙ asks in
    subst (λ e. Contains (with_all (requests_asked c h) (asked_now c h e)) b) (sym event)
    (Contains-append_right (requests_asked c h)
    (plain_packet c h source flags kind subtype body ∷ []) b (0, omega arith, sym is))
sent_at c (y ∷ h) (suc n) x b source flags kind subtype body there asks is =
    sent_before (requests_asked c h) (asked_now c h y.event) b
    (sent_at c h n x b source flags kind subtype body there asks is)

pub was_sent : (c : Config) (h : History) (b : List ℕ)
    → WasAsked c h b
    → Contains (requests_asked c h) b
was_sent c h b a =
    sent_at c h a.number a.entry b a.source a.flags a.service a.subtype a.body a.is_there a.asks
    a.is_packet

-- ---- what stands under a name

-- where a reception ends, its message is over
pub over_now : (o : Option Opening) (now ended : Bool)
    → (now ≡ true → (u : Opening) × (o ≡ Some u))
    → slot_of o (now || ended) ≡ (if now then service.Over else slot_of o ended)
over_now o true ended known = let u = known refl in ap (λ w. slot_of w true) u.1
over_now o false ended known = refl

-- where a name is opened, its message can be released
pub opened_now : (old : Option Opening) (o : Opening) (now ended : Bool)
    → (now ≡ true → ended ≡ false)
    → slot_of (option_or (if now then Some o else None) old) ended
    ≡ (if now then service.Opened o.message else slot_of old ended)
opened_now old o true ended free = ap (slot_of (Some o)) (free refl)
opened_now old o false ended free = refl

-- where a name is freed, nothing stands under it
pub freed_now : (old : Option Opening) (now ended : Bool)
    → slot_of (if now then None else old) (not now && ended)
    ≡ (if now then service.Free else slot_of old ended)
freed_now old true ended = refl
freed_now old false ended = refl

pub stands : (o : Option Opening) (ended : Bool)
    → is_some o ≡ true
    → ¬ (slot_of o ended ≡ service.Free)
stands None ended some is = absurd cc
stands (Some o) true some is = absurd cc
stands (Some o) false some is = absurd cc

-- a transaction of this name is the one that is named
pub named_so : {A : Type 0} (f : Direction → Name → A) (d e : Direction) (name other : Name)
    → (same_direction d e && same_name name other) ≡ true
    → f e other ≡ f d name
named_so f d e name other is =
    let way = same_direction-true d e (and_left (same_direction d e) (same_name name other) is) in
    let named =
    same_name-true name other (and_right (same_direction d e) (same_name name other) is) in
    λ j. f (sym way j) (sym named j)

pub received_there : (side : Side) (d : Direction)
    → same_side side (receiver_side d) ≡ same_direction (direction_to side) d
received_there Ground Up = refl
received_there Ground Down = refl
received_there Craft Up = refl
received_there Craft Down = refl

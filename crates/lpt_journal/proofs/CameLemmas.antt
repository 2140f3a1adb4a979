-- What came of a transaction whose reception hasn't ended is kept, and what is kept isn't whole.
use Rattle.std.proofs.Common.{◌≡◌, ◌∙◌, ap, sym, subst, refl, ℕ, ◌==◌, nat_le, Bool, true, false, not, ◌&&◌, ◌||◌, inl, inr, if◌then◌else◌, List, [], ◌∷◌, length, Option, Some, None}
use Rattle.std.specs.List.{find}
use Rattle.std.specs.Option.{is_some, option_or}
use Rattle.std.specs.FinMap as map
use Rattle.std.specs.Ordering.{nat_cmp}
use Rattle.lpt_packet.specs.declared.direction.Direction.{Direction}
use Rattle.lpt_packet.specs.Names.{Name, same_name}
use Rattle.lpt_packet.proofs.BoolLemmas.{and_left, and_right, or_false_left, or_false_right, not_true}
use Rattle.lpt_packet.proofs.NameLemmas.{same_name-true}
use Rattle.lpt_packet.proofs.Readings.{eq_true, true_eq}
use Rattle.lpt_memory.specs.Memories.{Contents}
use Rattle.lpt_reception.specs.Received.{Parts, no_parts, contradicts, is_last, is_gap, has_all_to, is_whole, spelled}
use Rattle.lpt_reception.proofs.SetLemmas.{there_none}
use Rattle.lpt_events.specs.Arrivals.{Arrival, APart}
use Rattle.lpt_events.specs.Lanes.{lane_direction, same_direction}
use Rattle.lpt_events.specs.NamedParts.{NamedPart}
use Rattle.lpt_events.specs.Sides.{same_side, receiver_side}
use Rattle.lpt_events.specs.declared.config.Config.{Config}
use Rattle.lpt_events.specs.declared.entry.Opening.{Opening}
use Rattle.lpt_acts.specs.Acts.{Act, Deliver, Expire, Retire, Restart}
use Rattle.lpt_events.specs.declared.reply.Answer.TheVariants.{Delivered}
use Rattle.lpt_events.proofs.LaneLemmas.{same_direction-true}
use Rattle.lpt_journal.specs.Delivery.{arrival_judged, outcome}
use Rattle.lpt_journal.specs.Hands.{in_hand}
use Rattle.lpt_journal.specs.Journal.{History}
use Rattle.lpt_journal.specs.Receivers.{as_kept, with_piece, ends, heard_now, heard, has_parts, reception_count, is_closed, limits}
use Rattle.lpt_journal.specs.Replies.{answer, opens, entry, history_after}
use Rattle.lpt_journal.specs.Senders.{is_opening_of, retires, current}
use Rattle.lpt_journal.specs.Whole.{brings, came_after, came}
use Rattle.lpt_journal.proofs.OutcomeLemmas.{chosen}
use Rattle.lpt_journal.proofs.Soundness.{get-with_piece}
use Rattle.lpt_journal.proofs.TestLemmas.{either}

-- ---- one part more

-- a part that is kept is so with one more
kept_still : (s : Parts) (q : NamedPart) (k : ℕ)
    → is_some (map.get s k) ≡ true
    → is_some (map.get (with_piece s q) k) ≡ true
kept_still s q k had = ap is_some (get-with_piece s q k) ∙ go (k == q.number) where
  go : (b : Bool) → is_some (if b then Some (as_kept q) else map.get s k) ≡ true
  go true = refl
  go false = had

-- and the one more is
kept_now : (s : Parts) (q : NamedPart) → is_some (map.get (with_piece s q) q.number) ≡ true
kept_now s q =
    ap is_some (get-with_piece s q q.number)
    ∙ ap (λ b. is_some (if b then Some (as_kept q) else map.get s q.number))
    (eq_true q.number q.number refl)

-- ---- a delivery

-- what a part with this outcome leaves of part k, where its transaction isn't ended
chosen_kept : (closed full clash again gap whole : Bool) (q : NamedPart) (len : ℕ) (name : Name)
    (s : Parts) (k : ℕ) (before : Bool)
    → (before ≡ true → is_some (map.get s k) ≡ true)
    → (same_name q.name name ≡ true → closed ≡ false)
    → (same_name q.name name ≡ true → is_some (map.get s q.number) ≡ again)
    → ends (Delivered (chosen closed full clash again gap whole q len)) name ≡ false
    → (brings (APart q)
    (Delivered (chosen closed full clash again gap whole q len)) name k || before)
    ≡ true
    → is_some (map.get
    (heard_now (Delivered (chosen closed full clash again gap whole q len)) (APart q) name s) k)
    ≡ true
chosen_kept closed full clash again gap whole q len name s k before had shut there =
    go closed full clash again gap whole shut there where
      gone : same_name q.name name ≡ false
          → ((same_name q.name name && (q.number == k)) || before) ≡ true
          → is_some (map.get (if same_name q.name name then no_parts else s) k) ≡ true
      gone not_mine t =
          ap (λ b. is_some (map.get (if b then no_parts else s) k)) not_mine
          ∙ had (sym (ap (λ b. (b && (q.number == k)) || before) not_mine) ∙ t)

      number : (same_name q.name name && (q.number == k)) ≡ true → q.number ≡ k
      number t = true_eq q.number k (and_right (same_name q.name name) (q.number == k) t)

      its : (same_name q.name name && (q.number == k)) ≡ true → same_name q.name name ≡ true
      its t = and_left (same_name q.name name) (q.number == k) t

      still : (b : Bool)
          → is_some (map.get s k) ≡ true
          → is_some (map.get (if b then with_piece s q else s) k) ≡ true
      still true was = kept_still s q k was
      still false was = was

      go : (closed full clash again gap whole : Bool)
          → (same_name q.name name ≡ true → closed ≡ false)
          → (same_name q.name name ≡ true → is_some (map.get s q.number) ≡ again)
          → ends (Delivered (chosen closed full clash again gap whole q len)) name ≡ false
          → (brings (APart q)
          (Delivered (chosen closed full clash again gap whole q len)) name k || before)
          ≡ true
          → is_some (map.get
          (heard_now (Delivered (chosen closed full clash again gap whole q len)) (APart q) name s)
          k)
          ≡ true
      go true full clash again gap whole shut there live t =
          elim (either (same_name q.name name && (q.number == k)) before t) [
            | inl new ↦ absurd (let no : true ≡ false = shut (its new) in cc)
            | inr old ↦ had old
          ]
      go false true clash again gap whole shut there live t = had t
      go false false true again gap whole shut there live t = gone live t
      go false false false true gap whole shut there live t =
          elim (either (same_name q.name name && (q.number == k)) before t) [
            | inl new ↦ ap (λ n. is_some (map.get s n)) (sym (number new)) ∙ there (its new)
            | inr old ↦ had old
          ]
      go false false false false true whole shut there live t = gone live t
      go false false false false false true shut there live t = gone live t
      go false false false false false false shut there live t =
          elim (either (same_name q.name name && (q.number == k)) before t) [
            | inl new ↦
                ap (λ b. is_some (map.get (if b then with_piece s q else s) k)) (its new)
                ∙ ap (λ n. is_some (map.get (with_piece s q) n)) (sym (number new)) ∙ kept_now s q
            | inr old ↦ still (same_name q.name name) (had old)
          ]

-- what a delivery leaves of part k, where its transaction isn't ended then
abbrev Keeps : Config → History → (w : Direction) → Arrival → Direction → Name → ℕ → Type 0
Keeps c h w a d name k =
    (is_closed h d name ≡ false → came c h d name k ≡ true → is_some (map.get (heard c h d name) k)
    ≡ true)
    → (ends (Delivered (arrival_judged c h w a)) name || is_closed h d name) ≡ false
    → (brings a (Delivered (arrival_judged c h w a)) name k || came c h d name k) ≡ true
    → is_some (map.get (heard_now (Delivered (arrival_judged c h w a)) a name (heard c h d name)) k)
    ≡ true

judged_kept : (c : Config) (h : History) (d : Direction) (a : Arrival) (name : Name) (k : ℕ)
    → Keeps c h d a d name k
judged_kept c h d (APart q) name k had live t =
    let s = heard c h d q.name in
    let closed = is_closed h d q.name in
    let full = not (has_parts s)
    && nat_le (limits c h (receiver_side d)).receptions (reception_count c h d) in
    let clash = contradicts s q.number (as_kept q) in
    let again = is_some (map.get s q.number) in
    let gap = is_gap c.mode s q.number in
    let whole = is_whole (with_piece s q) in
    let len = length (spelled (with_piece s q)) in
    let still : is_closed h d name ≡ false =
    or_false_right (ends (Delivered (arrival_judged c h d (APart q))) name) (is_closed h d name)
    live in
    chosen_kept closed full clash again gap whole q len name (heard c h d name) k
    (came c h d name k) (had still)
    (λ same. ap (is_closed h d) (same_name-true q.name name same) ∙ still)
    (λ same. ap (λ i. is_some (map.get (heard c h d i) q.number))
    (sym (same_name-true q.name name same)))
    (or_false_left (ends (Delivered (arrival_judged c h d (APart q))) name) (is_closed h d name)
    live) t
judged_kept c h d a name k had live t = had live t

-- ---- what came is kept

-- what came of a transaction that isn't ended is kept
abbrev pub CameIsKept : Config → History → Type 0
CameIsKept c h =
    (d : Direction) (name : Name) (o : Opening)
    → current h d name ≡ Some o
    → is_closed h d name ≡ false
    → (k : ℕ)
    → came c h d name k ≡ true
    → is_some (map.get (heard c h d name) k) ≡ true

event_kept : (c : Config) (first : Contents) (h : History) (e : Act) (d : Direction) (name : Name)
    (k : ℕ)
    → retires e d name ≡ false
    → (is_closed h d name ≡ false → came c h d name k ≡ true
    → is_some (map.get (heard c h d name) k) ≡ true)
    → is_closed (entry c first h e ∷ h) d name ≡ false
    → came_after e (answer c first h e) (in_hand c h) d name k (came c h d name k) ≡ true
    → is_some (map.get (heard c (entry c first h e ∷ h) d name) k) ≡ true
event_kept c first h (Deliver l) d name k stays had live t =
    go (same_direction (lane_direction l) d) refl live t where
      go : (b : Bool)
          → same_direction (lane_direction l) d ≡ b
          → ((b && ends (Delivered (outcome c h l)) name) || is_closed h d name) ≡ false
          → ((b && brings (in_hand c h l) (Delivered (outcome c h l)) name k) || came c h d name k)
          ≡ true
          → is_some (map.get
          (if b then heard_now (Delivered (outcome c h l)) (in_hand c h l) name (heard c h d name)
          else heard c h d name) k)
          ≡ true
      go false way live t = had live t
      go true way live t =
          subst (λ (v : Direction). Keeps c h (lane_direction l) (in_hand c h l) v name k)
          (same_direction-true (lane_direction l) d way)
          (judged_kept c h (lane_direction l) (in_hand c h l) name k) had live t
event_kept c first h (Expire side which) d name k stays had live t =
    let ended =
    same_side side (receiver_side d) && ends (answer c first h (Expire side which)) name in
    ap (λ b. is_some (map.get (if b then no_parts else heard c h d name) k))
    (or_false_left ended (is_closed h d name) live)
    ∙ had (or_false_right ended (is_closed h d name) live) t
event_kept c first h (Restart side) d name k stays had live t =
    let there = same_side side (receiver_side d) in
    ap (λ b. is_some (map.get (if b then no_parts else heard c h d name) k))
    (not_true there (and_left (not there) (came c h d name k) t))
    ∙ had live (and_right (not there) (came c h d name k) t)
event_kept c first h (Retire e i) d name k stays had live t =
    had (sym (ap (λ b. not b && is_closed h d name) stays) ∙ live) t
event_kept c first h e d name k stays had live t = had live t

came_step : (c : Config) (first : Contents) (h : History) (e : Act)
    → CameIsKept c h
    → CameIsKept c (entry c first h e ∷ h)
came_step c first h e had d name o now live k t =
    go (retires e d name) (find (is_opening_of d name) (opens c first h e)) refl now t where
      go : (b : Bool) (f : Option Opening)
          → retires e d name ≡ b
          → ◌≡◌ {A = Option Opening} (if b then None else option_or f (current h d name)) (Some o)
          → (if is_some f then false
          else came_after e (answer c first h e) (in_hand c h) d name k (came c h d name k)) ≡ true
          → is_some (map.get (heard c (entry c first h e ∷ h) d name) k) ≡ true
      go true f stays now t = absurd cc
      go false (Some u) stays now t = absurd cc
      go false None stays now t =
          event_kept c first h e d name k stays (λ live t. had d name o now live k t) live t

pub came_kept : (c : Config) (first : Contents) (es : List Act)
    → CameIsKept c (history_after c first es)
came_kept c first [] d name o now live k t = absurd cc
came_kept c first (e ∷ es) d name o now live k t =
    came_step c first (history_after c first es) e (came_kept c first es) d name o now live k t

-- ---- what is kept isn't whole

nothing_whole : is_whole no_parts ≡ false
nothing_whole =
    there_none (λ e. is_last e.1 && has_all_to no_parts e.0) no_parts
    (λ n x f. absurd (let none : map.get no_parts n ≡ None = map.get-empty nat_cmp n in cc))

nothing_or : (b : Bool) (s : Parts)
    → is_whole s ≡ false
    → is_whole (if b then no_parts else s) ≡ false
nothing_or true s e = nothing_whole
nothing_or false s e = e

chosen_unwhole : (closed full clash again gap whole : Bool) (q : NamedPart) (len : ℕ) (name : Name)
    (s : Parts)
    → is_whole s ≡ false
    → (same_name q.name name ≡ true → is_whole (with_piece s q) ≡ whole)
    → is_whole
    (heard_now (Delivered (chosen closed full clash again gap whole q len)) (APart q) name s)
    ≡ false
chosen_unwhole true full clash again gap whole q len name s had all = had
chosen_unwhole false true clash again gap whole q len name s had all = had
chosen_unwhole false false true again gap whole q len name s had all =
    nothing_or (same_name q.name name) s had
chosen_unwhole false false false true gap whole q len name s had all = had
chosen_unwhole false false false false true whole q len name s had all =
    nothing_or (same_name q.name name) s had
chosen_unwhole false false false false false true q len name s had all =
    nothing_or (same_name q.name name) s had
chosen_unwhole false false false false false false q len name s had all =
    go (same_name q.name name) all where
      go : (b : Bool)
          → (b ≡ true → is_whole (with_piece s q) ≡ false)
          → is_whole (if b then with_piece s q else s) ≡ false
      go true all = all refl
      go false all = had

-- a delivery leaves nothing whole
abbrev LeavesUnwhole : Config → History → (w : Direction) → Arrival → Direction → Name → Type 0
LeavesUnwhole c h w a d name =
    is_whole (heard c h d name) ≡ false
    → is_whole (heard_now (Delivered (arrival_judged c h w a)) a name (heard c h d name)) ≡ false

judged_unwhole : (c : Config) (h : History) (d : Direction) (a : Arrival) (name : Name)
    → LeavesUnwhole c h d a d name
judged_unwhole c h d (APart q) name had =
    let s = heard c h d q.name in
    chosen_unwhole (is_closed h d q.name)
    (not (has_parts s) && nat_le (limits c h (receiver_side d)).receptions (reception_count c h d))
    (contradicts s q.number (as_kept q)) (is_some (map.get s q.number)) (is_gap c.mode s q.number)
    (is_whole (with_piece s q)) q (length (spelled (with_piece s q))) name (heard c h d name) had
    (λ same. ap (λ i. is_whole (with_piece (heard c h d i) q))
    (sym (same_name-true q.name name same)))
judged_unwhole c h d a name had = had

event_unwhole : (c : Config) (first : Contents) (h : History) (e : Act) (d : Direction)
    (name : Name)
    → is_whole (heard c h d name) ≡ false
    → is_whole (heard c (entry c first h e ∷ h) d name) ≡ false
event_unwhole c first h (Deliver l) d name had = go (same_direction (lane_direction l) d) refl where
  go : (b : Bool)
      → same_direction (lane_direction l) d ≡ b
      → is_whole
      (if b then heard_now (Delivered (outcome c h l)) (in_hand c h l) name (heard c h d name)
      else heard c h d name)
      ≡ false
  go false way = had
  go true way =
      subst (λ (v : Direction). LeavesUnwhole c h (lane_direction l) (in_hand c h l) v name)
      (same_direction-true (lane_direction l) d way)
      (judged_unwhole c h (lane_direction l) (in_hand c h l) name) had
event_unwhole c first h (Expire side which) d name had =
    nothing_or
    (same_side side (receiver_side d) && ends (answer c first h (Expire side which)) name)
    (heard c h d name) had
event_unwhole c first h (Restart side) d name had =
    nothing_or (same_side side (receiver_side d)) (heard c h d name) had
event_unwhole c first h e d name had = had

-- what is kept of a transaction is never all of its parts
pub never_whole : (c : Config) (first : Contents) (es : List Act) (d : Direction) (name : Name)
    → is_whole (heard c (history_after c first es) d name) ≡ false
never_whole c first [] d name = nothing_whole
never_whole c first (e ∷ es) d name =
    event_unwhole c first (history_after c first es) e d name (never_whole c first es d name)

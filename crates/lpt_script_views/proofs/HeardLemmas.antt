-- The parts that the replies tell of are those that the history says the receiver has kept.
use Rattle.std.proofs.Common.{◌≡◌, ◌∙◌, ap, sym, refl, subst, ℕ, ◌==◌, nat_eq, nat_le, Bool, true, false, not, ◌&&◌, ◌||◌, if◌then◌else◌, List, [], ◌∷◌, ◌++◌, length, Option, Some, None, is_some, arith}
use Rattle.std.proofs.lemmas.Bool.Decides.{nat_tests}
use Rattle.std.specs.FinMap as maps
use Rattle.std.specs.Ordering.{nat_cmp}
use Rattle.std.specs.Cmp.{nat_cmp_total, unsigned_tied}
use Rattle.lpt_events.specs.NamedParts.{NamedPart}
use Rattle.lpt_events.specs.Arrivals.{Arrival, NotRead, AnIdle, Foreign, ARequest, AReport, NoPart, APart, AnAbort}
use Rattle.lpt_events.specs.Lanes.{lane_direction, same_direction}
use Rattle.lpt_events.specs.Sides.{direction_to, receiver_side, same_side}
use Rattle.lpt_events.specs.declared.config.Config.{Config}
use Rattle.lpt_acts.specs.Acts.{Act, Deliver, Expire, Restart}
use Rattle.lpt_events.specs.declared.outcome.Outcome.{Outcome}
use Rattle.lpt_events.specs.declared.outcome.Outcome.TheVariants.{Kept, Again, Released, Broken, Ignored}
use Rattle.lpt_events.specs.declared.outcome.Why.TheVariants.{Closed, NoRoom}
use Rattle.lpt_events.specs.declared.reply.Answer.TheVariants.{Delivered}
use Rattle.lpt_journal.specs.Delivery.{arrival_judged, outcome}
use Rattle.lpt_journal.specs.Due.{given_up}
use Rattle.lpt_journal.specs.Hands.{in_hand}
use Rattle.lpt_journal.specs.Journal.{History}
use Rattle.lpt_journal.specs.Receivers.{ends, has_parts, heard, heard_now, is_closed, as_kept, limits, reception_count, with_arrival, with_piece}
use Rattle.lpt_journal.specs.Replies.{entry, expired_now, history_after}
use Rattle.lpt_reception.specs.Received.{Parts, contradicts, is_gap, is_whole, no_parts, spelled}
use Rattle.lpt_memory.specs.Memories.{Contents}
use Rattle.lpt_packet.specs.declared.direction.Direction.{Direction}
use Rattle.lpt_packet.specs.Names.{Name, no_name, same_name}
use Rattle.lpt_part.specs.declared.reason.Reason.TheVariants.{Conflict, Discontinuity}
use Rattle.lpt_script_views.specs.Kept.{has_number, kept_now, kept_numbers}
use Rattle.lpt_script_views.specs.Laws.{KeptAreHeard}

-- ---- numbers and parts

any_more : (ns : List ℕ) (n k : ℕ) → has_number (ns ++ n ∷ []) k ≡ (nat_eq n k || has_number ns k)
any_more [] n k = refl
any_more (m ∷ ns) n k = ap (λ b. nat_eq m k || b) (any_more ns n k) ∙ swap (nat_eq m k) (nat_eq n k) (has_number ns k)
  where
    swap : (a b c : Bool) → (a || (b || c)) ≡ (b || (a || c))
    swap true true c = refl
    swap true false c = refl
    swap false b c = refl

eq_swap : (a b : ℕ) → (a == b) ≡ (b == a)
eq_swap a b = grind (arith, nat_tests)

-- these numbers are those of these parts
abbrev Agree : Parts → List ℕ → Type 0
Agree s ns = (k : ℕ) → is_some (maps.get s k) ≡ has_number ns k

none_agree : Agree no_parts []
none_agree k = ap is_some (maps.get-empty nat_cmp k)

get_piece : (s : Parts) (q : NamedPart) (k : ℕ)
    → maps.get (with_piece s q) k ≡ (if k == q.number then Some (as_kept q) else maps.get s k)
get_piece s q k =
    maps.get-insert nat_cmp_total s q.number (as_kept q) k
    ∙ ap (λ b. if b then Some (as_kept q) else maps.get s k) (unsigned_tied k q.number)

-- with a part more
more_agree : (s : Parts) (ns : List ℕ) (q : NamedPart)
    → Agree s ns
    → Agree (with_piece s q) (ns ++ q.number ∷ [])
more_agree s ns q agree k =
    ap is_some (get_piece s q k)
    ∙ go (k == q.number)
    ∙ ap (λ b. b || has_number ns k) (eq_swap k q.number)
    ∙ sym (any_more ns q.number k)
  where
    go : (b : Bool) → is_some (if b then Some (as_kept q) else maps.get s k)
        ≡ (b || has_number ns k)
    go true = refl
    go false = agree k

-- ---- deliveries

-- a part that is kept has arrived, and the reply has its number
abbrev Tells : Arrival → Outcome → Type 0
Tells a (Kept i n) = (q : NamedPart) × (a ≡ APart q) × (q.number ≡ n)
Tells a _ = Unit {0}

part_tells : (closed full clash again gap whole : Bool) (q : NamedPart) (len : ℕ)
    → Tells (APart q)
    (if closed then Ignored Closed
    else if full then Ignored NoRoom
    else if clash then Broken q.name Conflict
    else if again then Again q.name q.number
    else if gap then Broken q.name Discontinuity
    else if whole then Released q.name len
    else Kept q.name q.number)
part_tells true full clash again gap whole q len = tt
part_tells false true clash again gap whole q len = tt
part_tells false false true again gap whole q len = tt
part_tells false false false true gap whole q len = tt
part_tells false false false false true whole q len = tt
part_tells false false false false false true q len = tt
part_tells false false false false false false q len = (q, refl, refl)

judged_tells : (c : Config) (h : History) (d : Direction) (a : Arrival)
    → Tells a (arrival_judged c h d a)
judged_tells c h d (APart q) =
    let s = heard c h d q.name in
    part_tells (is_closed h d q.name)
    (not (has_parts s) && nat_le (limits c h (receiver_side d)).receptions (reception_count c h d))
    (contradicts s q.number (as_kept q)) (is_some (maps.get s q.number)) (is_gap c.mode s q.number)
    (is_whole (with_piece s q)) q (length (spelled (with_piece s q)))
judged_tells c h d NotRead = tt
judged_tells c h d AnIdle = tt
judged_tells c h d Foreign = tt
judged_tells c h d (ARequest b) = tt
judged_tells c h d (AReport service subtype) = tt
judged_tells c h d NoPart = tt
judged_tells c h d (AnAbort name reason) = tt

none_or : (b : Bool) (s : Parts) (ns : List ℕ)
    → Agree s ns
    → Agree (if b then no_parts else s) (if b then [] else ns)
none_or true s ns agree = none_agree
none_or false s ns agree = agree

delivered : (o : Outcome) (a : Arrival) (name : Name) (s : Parts) (ns : List ℕ)
    → Tells a o
    → Agree s ns
    → Agree (heard_now (Delivered o) a name s) (kept_now (Delivered o) name ns)
delivered (Kept i n) a name s ns t agree = go (same_name i name) where
  part : Agree (with_arrival a s) (ns ++ n ∷ [])
  part =
      subst (λ x. Agree (with_arrival x s) (ns ++ n ∷ [])) (sym t.1)
      (subst (λ m. Agree (with_piece s t.0) (ns ++ m ∷ [])) t.2 (more_agree s ns t.0 agree))

  go : (b : Bool) → Agree (if b then with_arrival a s else s) (if b then ns ++ n ∷ [] else ns)
  go true = part
  go false = agree
delivered (Released i len) a name s ns t agree = none_or (same_name i name) s ns agree
delivered (Broken i reason) a name s ns t agree = none_or (same_name i name) s ns agree
delivered o a name s ns t agree = agree

-- a reception that ended by the clock
expired : (here : Bool) (d : Direction) (o : Option Name) (name : Name) (s : Parts) (ns : List ℕ)
    → Agree s ns
    → Agree (if here && ends (expired_now d o) name then no_parts else s)
    (if here then kept_now (expired_now d o) name ns else ns)
expired false d o name s ns agree = agree
expired true d None name s ns agree = none_or (same_name no_name name) s ns agree
expired true d (Some i) name s ns agree = none_or (same_name i name) s ns agree

-- ---- events

-- the numbers that replies tell are those of the parts that were heard
agrees : (c : Config) (first : Contents) (d : Direction) (name : Name) (es : List Act)
    → Agree (heard c (history_after c first es) d name)
    (kept_numbers d name (history_after c first es))
agrees c first d name [] = none_agree
agrees c first d name (e ∷ es) = step (agrees c first d name es) e where
  h : History
  h = history_after c first es

  step : Agree (heard c h d name) (kept_numbers d name h)
      → (e : Act)
      → Agree (heard c (entry c first h e ∷ h) d name) (kept_numbers d name (entry c first h e ∷ h))
  step had (Deliver l) = go (same_direction (lane_direction l) d) where
    go : (b : Bool)
        → Agree (if b then heard_now (Delivered (outcome c h l)) (in_hand c h l) name (heard c h d name) else heard c h d name)
        (if b then kept_now (Delivered (outcome c h l)) name (kept_numbers d name h) else kept_numbers d name h)
    go true =
        delivered (outcome c h l) (in_hand c h l) name (heard c h d name) (kept_numbers d name h)
        (judged_tells c h (lane_direction l) (in_hand c h l)) had
    go false = had
  step had (Expire side which) =
      expired (same_side side (receiver_side d)) (direction_to side)
      (given_up c h (direction_to side) which) name
      (heard c h d name) (kept_numbers d name h) had
  step had (Restart side) = none_or (same_side side (receiver_side d)) (heard c h d name) (kept_numbers d name h) had
  step had e = had

pub kept_heard : KeptAreHeard
kept_heard c first es d name k = sym (agrees c first d name es k)

-- The definitions with the kept parts as lists in the order of numbers: these compute.
use Rattle.std.proofs.Common.{◌≡◌, ◌∙◌, ap, refl, ℕ, ◌+◌, ◌==◌, nat_le, Bool, not, ◌&&◌, ◌||◌, if◌then◌else◌, List, [], ◌∷◌, length, Option, Some, None}
use Rattle.std.specs.Option.{is_some}
use Rattle.std.specs.List.{filter}
use Rattle.std.specs.FinMap as map
use Rattle.std.specs.FinMap.{find}
use Rattle.std.specs.Ordering.{nat_cmp}
use Rattle.lpt_packet.specs.declared.direction.Direction.{Direction}
use Rattle.lpt_packet.specs.Names.{Name}
use Rattle.lpt_part.specs.declared.mode.Mode.{Mode}
use Rattle.lpt_part.specs.declared.reason.Reason.TheVariants.{Conflict, Discontinuity}
use Rattle.lpt_events.specs.NamedParts.{NamedPart}
use Rattle.lpt_reception.specs.Received.{Parts, greatest_of, is_strict, is_whole}
use Rattle.lpt_events.specs.declared.lane.Lane.{Lane}
use Rattle.lpt_events.specs.Lanes.{lane_direction}
use Rattle.lpt_events.specs.declared.config.Config.{Config}
use Rattle.lpt_events.specs.declared.outcome.Outcome.{Outcome}
use Rattle.lpt_events.specs.declared.outcome.Outcome.TheVariants.{Kept, Again, Released, Broken, Ignored}
use Rattle.lpt_events.specs.declared.outcome.Why.TheVariants.{Closed, NoRoom}
use Rattle.lpt_events.specs.Arrivals.{Arrival, APart}
use Rattle.lpt_acts.specs.Acts.{Act, Deliver, Expire, Retire}
use Rattle.lpt_events.specs.declared.fault.StepFault.{StepFault}
use Rattle.lpt_events.specs.declared.fault.StepFault.TheVariants.{NotOpen, NothingDue, NotClear, StillOpen}
use Rattle.lpt_events.specs.declared.reply.Answer.{Answer}
use Rattle.lpt_events.specs.declared.reply.Answer.TheVariants.{Delivered}
use Rattle.lpt_events.specs.declared.reply.Reply.{Reply}
use Rattle.lpt_events.specs.Sides.{receiver_side, direction_to}
use Rattle.lpt_journal.specs.Journal.{Recorded, History, SentPacket}
use Rattle.lpt_journal.specs.Clear.{part_held, part_in_hand}
use Rattle.lpt_journal.specs.Hands.{in_hand}
use Rattle.lpt_journal.specs.Link.{sent}
use Rattle.lpt_journal.specs.Senders.{sender, is_free, is_open, once}
use Rattle.lpt_journal.specs.Receivers.{with_piece, heard, has_parts, heard_names, open_names, is_closed, last_tick, limits}
use Rattle.lpt_journal.specs.Due.{is_overdue, earliest, due, given_up}
use Rattle.lpt_journal.specs.Delivery.{judged_part, arrival_judged}
use Rattle.lpt_journal_examples.proofs.ListedSets.{Listed, with_listed, contradicts_listed, whole_listed, spelled_listed, entries-with_piece, contradicts_is, whole_is, listed, entries-heard}
use Rattle.lpt_journal_examples.specs.Passes.{usual_memories}
use Rattle.lpt_journal.specs.Replies.{expired_now, answer, outcome_puts, expiry_puts, puts, opens, puts_told, entry, history_after}
use Rattle.lpt_journal.specs.Refusals.{expiry_fault, first_fault, refusal}

-- ---- outcomes

abbrev has_listed : Listed → Bool
has_listed s = not (length s == 0)

has_parts_is : (s : Parts) → has_parts s ≡ has_listed (map.entries s)
has_parts_is s = λ i. not (map.len-entries s i == 0)

abbrev gap_listed : Mode → Listed → ℕ → Bool
gap_listed mode s n = is_strict mode && not (n == greatest_of s + 1)

abbrev judged_list : Mode → (limit : ℕ) (closed : Bool) (open_now : ℕ) → Listed → NamedPart → Outcome
judged_list mode limit closed open_now s q =
    if closed then Ignored Closed
    else if not (has_listed s) && nat_le limit open_now then Ignored NoRoom
    else if contradicts_listed s q then Broken q.name Conflict
    else if is_some (find nat_cmp q.number s) then Again q.name q.number
    else if gap_listed mode s q.number then Broken q.name Discontinuity
    else if whole_listed (with_listed s q)
    then Released q.name (length (spelled_listed (with_listed s q)))
    else Kept q.name q.number

judged_part_is : (mode : Mode) (limit : ℕ) (closed : Bool) (open_now : ℕ) (s : Parts) (q : NamedPart)
    → judged_part mode limit closed open_now s q
    ≡ judged_list mode limit closed open_now (map.entries s) q
judged_part_is mode limit closed open_now s q =
    let whole : is_whole (with_piece s q) ≡ whole_listed (with_listed (map.entries s) q) =
    whole_is (with_piece s q) ∙ ap whole_listed (entries-with_piece s q) in
    λ i.
    if closed then Ignored Closed
    else if not (has_parts_is s i) && nat_le limit open_now then Ignored NoRoom
    else if contradicts_is s q i then Broken q.name Conflict
    else if is_some (map.get-entries s q.number i) then Again q.name q.number
    else if gap_listed mode (map.entries s) q.number then Broken q.name Discontinuity
    else if whole i then Released q.name (length (spelled_listed (entries-with_piece s q i)))
    else Kept q.name q.number

abbrev names_listed : Config → History → Direction → List Name
names_listed c h d = once (filter (λ name. has_listed (listed c h d name)) (heard_names h d))

abbrev judged_listed : Config → History → Direction → Arrival → Outcome
judged_listed c h d (APart q) =
    judged_list c.mode (limits c h (receiver_side d)).receptions (is_closed h d q.name)
    (length (names_listed c h d))
    (listed c h d q.name) q
judged_listed c h d a = arrival_judged c h d a

-- what becomes of the packet in a lane's hand, by the lists
abbrev pub outcome_listed : Config → History → Lane → Outcome
outcome_listed c h l = judged_listed c h (lane_direction l) (in_hand c h l)

has_is : (c : Config) (h : History) (d : Direction) (name : Name)
    → has_parts (heard c h d name) ≡ has_listed (listed c h d name)
has_is c h d name = has_parts_is (heard c h d name) ∙ ap has_listed (entries-heard c h d name)

judged_is : (c : Config) (h : History) (d : Direction) (a : Arrival)
    → arrival_judged c h d a ≡ judged_listed c h d a
judged_is c h d (APart q) =
    judged_part_is c.mode (limits c h (receiver_side d)).receptions (is_closed h d q.name)
    (length (open_names c h d))
    (heard c h d q.name) q
    ∙ (λ i. judged_list c.mode (limits c h (receiver_side d)).receptions (is_closed h d q.name)
    (length (once (filter (λ name. has_is c h d name i) (heard_names h d)))) (entries-heard c h d q.name i) q)
judged_is c h d a = refl

-- ---- expiry

names_is : (c : Config) (h : History) (d : Direction) → open_names c h d ≡ names_listed c h d
names_is c h d =
    λ i. once (filter (λ name. has_is c h d name i) (heard_names h d))

-- the reception that is due, by the lists
abbrev pub due_listed : Config → History → Direction → Option Name
due_listed c h d =
    earliest (last_tick c h d) (filter (is_overdue c h d) (names_listed c h d))

due_is : (c : Config) (h : History) (d : Direction) → due c h d ≡ due_listed c h d
due_is c h d =
    ap (λ ids. earliest (last_tick c h d) (filter (is_overdue c h d) ids)) (names_is c h d)

-- the reception that is given up, by the lists
abbrev given_up_listed : Config → History → Direction → Option Name → Option Name
given_up_listed c h d None = due_listed c h d
given_up_listed c h d (Some name) = if has_listed (listed c h d name) then Some name else None

given_up_is : (c : Config) (h : History) (d : Direction) (which : Option Name)
    → given_up c h d which ≡ given_up_listed c h d which
given_up_is c h d None = due_is c h d
given_up_is c h d (Some name) =
    ap (λ has. if has then Some name else None) (has_is c h d name)

-- ---- refusals

-- whether a transaction is clear, where this says whether its receiver has a part of it
abbrev clear_where : Config → History → Direction → Name → (has : Bool) → Bool
clear_where c h d name has =
    not (part_held c h d name || part_in_hand c h d name) && not has
    && not (is_open (sender h d name))

-- why a retirement is refused, where this says whether the transaction is clear
abbrev retire_refusal : History → Direction → Name → (clear : Bool) → Option StepFault
retire_refusal h d name clear =
    first_fault ((is_free (sender h d name), NotOpen)
    ∷ (is_open (sender h d name), StillOpen)
    ∷ (not clear, NotClear) ∷ [])

-- why an event is refused, by the lists
abbrev pub refusal_listed : Config → History → Act → Option StepFault
refusal_listed c h (Expire side which) =
    first_fault
    ((not (is_some (given_up_listed c h (direction_to side) which)), expiry_fault which) ∷ [])
refusal_listed c h (Retire d name) =
    retire_refusal h d name (clear_where c h d name (has_listed (listed c h d name)))
refusal_listed c h e = refusal c h e

-- what refuses an event is the same by the lists
pub refusal_is : (c : Config) (h : History) (e : Act) → refusal c h e ≡ refusal_listed c h e
refusal_is c h (Expire side which) =
    ap (λ o. first_fault ((not (is_some o), expiry_fault which) ∷ []))
    (given_up_is c h (direction_to side) which)
refusal_is c h (Retire d name) =
    ap (λ has. retire_refusal h d name (clear_where c h d name has)) (has_is c h d name)
refusal_is c h e = refl

-- ---- entries

abbrev answer_listed : Config → History → Act → Answer
answer_listed c h (Deliver l) = Delivered (outcome_listed c h l)
answer_listed c h (Expire side which) =
    expired_now (direction_to side) (given_up_listed c h (direction_to side) which)
answer_listed c h e = answer c usual_memories h e

abbrev puts_listed : Config → History → Act → List SentPacket
puts_listed c h (Deliver l) =
    outcome_puts c h (receiver_side (lane_direction l)) (outcome_listed c h l)
puts_listed c h (Expire side which) =
    expiry_puts c h side (given_up_listed c h (direction_to side) which)
puts_listed c h e = puts c usual_memories h e

abbrev reply_listed : Config → History → Act → Reply
reply_listed c h e =
    record { answer = answer_listed c h e; puts = puts_told (length (sent h)) (puts_listed c h e) }

-- an event with what it gives, by the lists
abbrev pub entry_listed : Config → History → Act → Recorded
entry_listed c h e =
    record { event = e; reply = reply_listed c h e; puts = puts_listed c h e; opens = opens c usual_memories h e }

-- what is recorded of an event is the same by the lists
pub entry_is : (c : Config) (h : History) (e : Act)
    → entry c usual_memories h e ≡ entry_listed c h e
entry_is c h (Deliver l) =
    let o = judged_is c h (lane_direction l) (in_hand c h l) in
    λ i. record {
      event = Deliver l;
      reply =
          record {
            answer = Delivered (o i);
            puts =
                puts_told (length (sent h))
                (outcome_puts c h (receiver_side (lane_direction l)) (o i));
          };
      puts = outcome_puts c h (receiver_side (lane_direction l)) (o i);
      opens = [];
    }
entry_is c h (Expire side which) =
    let o = given_up_is c h (direction_to side) which in
    λ i. record {
      event = Expire side which;
      reply =
          record {
            answer = expired_now (direction_to side) (o i);
            puts = puts_told (length (sent h)) (expiry_puts c h side (o i));
          };
      puts = expiry_puts c h side (o i);
      opens = [];
    }
entry_is c h e = refl

-- the history of a journal, by the lists
abbrev pub recorded_listed : Config → List Act → History
recorded_listed c [] = []
recorded_listed c (e ∷ es) = let h = recorded_listed c es in entry_listed c h e ∷ h

-- the history of a journal is the same by the lists
pub recorded_is : (c : Config) (es : List Act) → history_after c usual_memories es
    ≡ recorded_listed c es
recorded_is c [] = refl
recorded_is c (e ∷ es) =
    let before = recorded_is c es in
    let now : entry c usual_memories (history_after c usual_memories es) e
    ≡ entry_listed c (recorded_listed c es) e =
    ap (λ h. entry c usual_memories h e) before ∙ entry_is c (recorded_listed c es) e in
    λ i. now i ∷ before i

-- The kept parts of a transaction as a list in the order of numbers: this computes.
use Rattle.std.proofs.Common.{◌≡◌, ◌∙◌, ap, sym, refl, ℕ, zero, suc, nat_lt, Bool, true, false, ◌&&◌, ◌||◌, if◌then◌else◌, List, [], ◌∷◌, length}
use Rattle.std.specs.Option.{is_some}
use Rattle.std.specs.List.{list_any, flat_map}
use Rattle.std.specs.FinMap as map
use Rattle.std.specs.FinMap.{find, put}
use Rattle.std.specs.Ordering.{nat_cmp}
use Rattle.std.specs.Cmp.{nat_cmp_total}
use Rattle.lpt_packet.specs.declared.direction.Direction.{Direction}
use Rattle.lpt_packet.specs.Names.{Name, same_name}
use Rattle.lpt_events.specs.NamedParts.{NamedPart}
use Rattle.lpt_reception.specs.Received.{Kept as KeptPart, Parts, no_parts, differs, is_last, contradicts, has_all_to, is_whole}
use Rattle.lpt_events.specs.declared.lane.Lane.{Lane}
use Rattle.lpt_events.specs.Lanes.{lane_direction, same_direction}
use Rattle.lpt_events.specs.declared.config.Config.{Config}
use Rattle.lpt_events.specs.declared.outcome.Outcome.TheVariants.{Kept, Released, Broken}
use Rattle.lpt_events.specs.Arrivals.{Arrival, APart}
use Rattle.lpt_acts.specs.Acts.{Act, Deliver, Expire, Restart}
use Rattle.lpt_events.specs.declared.reply.Answer.{Answer}
use Rattle.lpt_events.specs.declared.reply.Answer.TheVariants.{Delivered}
use Rattle.lpt_events.specs.Sides.{same_side, receiver_side}
use Rattle.lpt_journal.specs.Journal.{History}
use Rattle.lpt_journal.specs.Hands.{in_hand}
use Rattle.lpt_journal.specs.Receivers.{as_kept, with_piece, with_arrival, ends, heard_now, heard_after, heard}
use Rattle.lpt_journal.specs.Replies.{answer}

-- ---- the set

-- parts by their numbers, as a list
abbrev pub Listed : Type 0
Listed = List (ℕ × KeptPart)

-- the list with a part added
abbrev pub with_listed : Listed → NamedPart → Listed
with_listed s q = put nat_cmp q.number (as_kept q) s

-- whether a last part's number is below another's
abbrev pub overruns : Listed → Bool
overruns s = list_any (λ e. is_last e.1 && list_any (λ f. nat_lt e.0 f.0) s) s

-- whether a part contradicts a list of parts
abbrev pub contradicts_listed : Listed → NamedPart → Bool
contradicts_listed s q = differs (find nat_cmp q.number s) (as_kept q) || overruns (with_listed s q)

-- whether the parts 1 to n are there
abbrev pub all_to : Listed → ℕ → Bool
all_to s zero = true
all_to s (suc n) = is_some (find nat_cmp (suc n) s) && all_to s n

-- whether a list of parts is whole
abbrev pub whole_listed : Listed → Bool
whole_listed s = list_any (λ e. is_last e.1 && all_to s e.0) s

-- the message that a list of parts spells
abbrev pub spelled_listed : Listed → List ℕ
spelled_listed s = flat_map (λ e. e.1.octets) s

-- a set with a part added is the list with it added
pub entries-with_piece : (s : Parts) (q : NamedPart)
    → map.entries (with_piece s q) ≡ with_listed (map.entries s) q
entries-with_piece s q = map.entries-insert nat_cmp_total s q.number (as_kept q)

-- the tests of a set are those of its list
pub contradicts_is : (s : Parts) (q : NamedPart)
    → contradicts s q.number (as_kept q) ≡ contradicts_listed (map.entries s) q
contradicts_is s q =
    λ i. differs (map.get-entries s q.number i) (as_kept q) || overruns (entries-with_piece s q i)

all_to_is : (s : Parts) (n : ℕ) → has_all_to s n ≡ all_to (map.entries s) n
all_to_is s zero = refl
all_to_is s (suc n) = λ i. is_some (map.get-entries s (suc n) i) && all_to_is s n i

-- whether a set is whole is whether its list is
pub whole_is : (s : Parts) → is_whole s ≡ whole_listed (map.entries s)
whole_is s = λ i. list_any (λ e. is_last e.1 && all_to_is s e.0 i) (map.entries s)

-- ---- what was heard

-- the list with what arrived
abbrev pub listed_arrival : Arrival → Listed → Listed
listed_arrival (APart q) s = with_listed s q
listed_arrival _ s = s

-- the list after a delivery
abbrev pub listed_now : Answer → Arrival → Name → Listed → Listed
listed_now (Delivered (Kept i k)) arrived name before =
    if same_name i name then listed_arrival arrived before else before
listed_now (Delivered (Released i len)) arrived name before =
    if same_name i name then [] else before
listed_now (Delivered (Broken i reason)) arrived name before =
    if same_name i name then [] else before
listed_now _ arrived name before = before

-- the list after an event
abbrev pub listed_after : Act → Answer → (Lane → Arrival) → Direction → Name → Listed → Listed
listed_after (Deliver l) answer arrived d name before =
    if same_direction (lane_direction l) d
    then listed_now answer (arrived l) name before else before
listed_after (Expire side which) answer arrived d name before =
    if same_side side (receiver_side d) && ends answer name then [] else before
listed_after (Restart side) answer arrived d name before =
    if same_side side (receiver_side d) then [] else before
listed_after _ answer arrived d name before = before

-- the parts that are kept of a transaction, as a list
abbrev pub listed : Config → History → Direction → Name → Listed
listed c [] d name = []
listed c (x ∷ h) d name =
    listed_after x.event x.reply.answer (in_hand c h) d name (listed c h d name)

no_entries : map.entries no_parts ≡ []
no_entries =
    go (map.entries no_parts)
    (sym (map.len-entries no_parts) ∙ map.len-empty nat_cmp KeptPart) where
      go : (es : Listed) → length es ≡ 0 → es ≡ []
      go [] h = refl
      go (e ∷ es) h = absurd cc

entries-with_arrival : (a : Arrival) (s : Parts)
    → map.entries (with_arrival a s) ≡ listed_arrival a (map.entries s)
entries-with_arrival (APart q) s = entries-with_piece s q
entries-with_arrival a s = refl

chosen : (b : Bool) (s t : Parts)
    → map.entries (if b then s else t) ≡ (if b then map.entries s else map.entries t)
chosen true s t = refl
chosen false s t = refl

-- where a reception is dropped nothing is left of its list
dropped : (gone : Bool) (s : Parts)
    → map.entries (if gone then no_parts else s) ≡ (if gone then [] else map.entries s)
dropped gone s =
    chosen gone no_parts s ∙ ap (λ es. if gone then es else map.entries s) no_entries

entries-heard_now : (o : Answer) (a : Arrival) (name : Name) (s : Parts)
    → map.entries (heard_now o a name s) ≡ listed_now o a name (map.entries s)
entries-heard_now (Delivered (Kept i k)) a name s =
    chosen (same_name i name) (with_arrival a s) s
    ∙ ap (λ es. if same_name i name then es else map.entries s) (entries-with_arrival a s)
entries-heard_now (Delivered (Released i len)) a name s = dropped (same_name i name) s
entries-heard_now (Delivered (Broken i reason)) a name s = dropped (same_name i name) s
entries-heard_now o a name s = refl

entries-heard_after : (e : Act) (o : Answer) (arrived : Lane → Arrival) (d : Direction)
    (name : Name) (s : Parts)
    → map.entries (heard_after e o arrived d name s)
    ≡ listed_after e o arrived d name (map.entries s)
entries-heard_after (Deliver l) o arrived d name s =
    chosen (same_direction (lane_direction l) d) (heard_now o (arrived l) name s) s
    ∙ ap (λ es. if same_direction (lane_direction l) d then es else map.entries s)
    (entries-heard_now o (arrived l) name s)
entries-heard_after (Expire side which) o arrived d name s =
    dropped (same_side side (receiver_side d) && ends o name) s
entries-heard_after (Restart side) o arrived d name s =
    dropped (same_side side (receiver_side d)) s
entries-heard_after e o arrived d name s = refl

-- what was heard is kept in this list
pub entries-heard : (c : Config) (h : History) (d : Direction) (name : Name)
    → map.entries (heard c h d name) ≡ listed c h d name
entries-heard c [] d name = no_entries
entries-heard c (x ∷ h) d name =
    entries-heard_after x.event x.reply.answer (in_hand c h) d name (heard c h d name)
    ∙ ap (listed_after x.event x.reply.answer (in_hand c h) d name) (entries-heard c h d name)

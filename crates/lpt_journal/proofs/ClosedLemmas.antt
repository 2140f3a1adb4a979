-- Of a transaction whose reception has ended nothing is kept, and what is kept is of an opening.
use Rattle.std.proofs.Common.{◌≡◌, ◌∙◌, ap, sym, refl, ℕ, nat_le, Bool, true, false, not, ◌&&◌, ◌||◌, if◌then◌else◌, List, [], ◌∷◌, length, Some, ◌==◌}
use Rattle.std.specs.Option.{is_some}
use Rattle.std.specs.FinMap as map
use Rattle.std.specs.FinMap.{find}
use Rattle.std.specs.Ordering.{nat_cmp}
use Rattle.lpt_packet.specs.declared.direction.Direction.{Direction}
use Rattle.lpt_packet.specs.Names.{Name, same_name}
use Rattle.lpt_packet.proofs.NameLemmas.{same_name-true}
use Rattle.lpt_reception.specs.Received.{Kept as KeptPart, Parts, no_parts, contradicts, is_gap, is_whole, spelled}
use Rattle.lpt_packet.proofs.EntryLemmas.{found_first}
use Rattle.lpt_events.proofs.LaneLemmas.{same_direction-true}
use Rattle.lpt_events.specs.NamedParts.{NamedPart}
use Rattle.lpt_events.specs.Lanes.{lane_direction, same_direction}
use Rattle.lpt_events.specs.declared.config.Config.{Config}
use Rattle.lpt_events.specs.declared.outcome.Outcome.{Outcome}
use Rattle.lpt_events.specs.declared.outcome.Outcome.TheVariants.{Kept, Released, Broken}
use Rattle.lpt_events.specs.Arrivals.{Arrival, APart}
use Rattle.lpt_acts.specs.Acts.{Act, Deliver, Expire, Retire, Restart}
use Rattle.lpt_events.specs.declared.reply.Answer.TheVariants.{Delivered}
use Rattle.lpt_events.specs.declared.entry.Opening.{Opening}
use Rattle.lpt_journal.specs.Delivery.{arrival_judged, outcome}
use Rattle.lpt_journal.specs.Abortions.{NothingIsKept}
use Rattle.lpt_events.specs.Sides.{same_side, receiver_side}
use Rattle.lpt_journal.specs.Journal.{History}
use Rattle.lpt_journal.specs.Hands.{in_hand}
use Rattle.lpt_journal.specs.Receivers.{as_kept, with_piece, with_arrival, ends, heard_now, heard, has_parts, reception_count, is_closed, limits}
use Rattle.lpt_journal.specs.Replies.{entry}
use Rattle.lpt_journal.specs.Senders.{current}
use Rattle.lpt_journal.proofs.CountLemmas.{none_open}
use Rattle.lpt_journal.proofs.OutcomeLemmas.{chosen}
use Rattle.lpt_memory.specs.Memories.{Contents}
use Rattle.lpt_journal.proofs.Steps.{IsSound}
use Rattle.lpt_packet.proofs.BoolLemmas.{and_right}

-- ---- nothing is kept of a closed transaction

-- a part that is kept is of a transaction that isn't closed
kept_open : (closed full clash again gap whole : Bool) (q : NamedPart) (len : ℕ) (i : Name) (k : ℕ)
    → chosen closed full clash again gap whole q len ≡ Kept i k
    → (closed ≡ false) × (q.name ≡ i)
kept_open true full clash again gap whole q len i k e = absurd cc
kept_open false true clash again gap whole q len i k e = absurd cc
kept_open false false true again gap whole q len i k e = absurd cc
kept_open false false false true gap whole q len i k e = absurd cc
kept_open false false false false true whole q len i k e = absurd cc
kept_open false false false false false true q len i k e = absurd cc
kept_open false false false false false false q len i k e = (refl, cc)

judged_open : (c : Config) (h : History) (d : Direction) (a : Arrival) (i : Name) (k : ℕ)
    → arrival_judged c h d a ≡ Kept i k
    → is_closed h d i ≡ false
judged_open c h d (APart q) i k e =
    let s = heard c h d q.name in
    let it =
    kept_open (is_closed h d q.name)
    (not (has_parts s) && nat_le (limits c h (receiver_side d)).receptions (reception_count c h d))
    (contradicts s q.number (as_kept q)) (is_some (map.get s q.number)) (is_gap c.mode s q.number)
    (is_whole (with_piece s q)) q
    (length (spelled (with_piece s q))) i k e in
    ap (is_closed h d) (sym it.1) ∙ it.0
judged_open c h d a i k e = absurd cc

none_kept : (t : Bool) (s : Parts)
    → has_parts s ≡ false
    → has_parts (if t then no_parts else s) ≡ false
none_kept true s e = none_open
none_kept false s e = e

ended_or_not : (t over : Bool) (s : Parts)
    → (over ≡ true → has_parts s ≡ false)
    → (t || over) ≡ true
    → has_parts (if t then no_parts else s) ≡ false
ended_or_not true over s was e = none_open
ended_or_not false over s was e = was e

-- nothing is kept of a closed transaction after an event either
pub unheard_step : (c : Config) (first : Contents) (h : History) (e : Act)
    → NothingIsKept c h
    → NothingIsKept c (entry c first h e ∷ h)
unheard_step c first h (Expire side which) none d name over =
    let t =
    same_side side (receiver_side d) && ends (entry c first h (Expire side which)).reply.answer name
    in
    ended_or_not t (is_closed h d name) (heard c h d name) (none d name) over
unheard_step c first h (Deliver l) none d name over =
    go (same_direction (lane_direction l) d) refl (outcome c h l) refl over where
      kept_part : (i : Name) (k : ℕ) (t : Bool)
          → same_name i name ≡ t
          → is_closed h d i ≡ false
          → is_closed h d name ≡ true
          → has_parts (if t then with_arrival (in_hand c h l) (heard c h d name)
          else heard c h d name)
          ≡ false
      kept_part i k true s opened over =
          let same : is_closed h d i ≡ is_closed h d name =
          ap (is_closed h d) (same_name-true i name s) in absurd cc
      kept_part i k false s opened over = none d name over

      go : (t : Bool)
          → same_direction (lane_direction l) d ≡ t
          → (o : Outcome)
          → outcome c h l ≡ o
          → ((t && ends (Delivered o) name) || is_closed h d name) ≡ true
          → has_parts (if t then heard_now (Delivered o) (in_hand c h l) name (heard c h d name)
          else heard c h d name) ≡ false
      go false way o is shut = none d name shut
      go true way (Kept i k) is shut =
          let there : lane_direction l ≡ d = same_direction-true (lane_direction l) d way in
          let opened : is_closed h d i ≡ false =
          ap (λ e. is_closed h e i) (sym there)
          ∙ judged_open c h (lane_direction l) (in_hand c h l) i k is in
          kept_part i k (same_name i name) refl opened shut
      go true way (Released i len) is shut =
          ended_or_not (same_name i name) (is_closed h d name) (heard c h d name) (none d name) shut
      go true way (Broken i reason) is shut =
          ended_or_not (same_name i name) (is_closed h d name) (heard c h d name) (none d name) shut
      go true way o is shut = none d name shut
unheard_step c first h (Retire e i) none d name over =
    none d name (and_right (not (same_direction e d && same_name i name)) (is_closed h d name) over)
unheard_step c first h (Restart side) none d name over =
    none_kept (same_side side (receiver_side d)) (heard c h d name) (none d name over)
unheard_step c first h e none d name over = none d name over

-- ---- what is kept is of an opening

-- a set that isn't empty has a part
some_part : (s : Parts)
    → has_parts s ≡ true
    → (n : ℕ) × (x : KeptPart) × (map.get s n ≡ Some x)
some_part s has = go (map.entries s) refl where
  go : (es : List (ℕ × KeptPart))
      → map.entries s ≡ es
      → (n : ℕ) × (x : KeptPart) × (map.get s n ≡ Some x)
  go [] e =
      let none : has_parts s ≡ false =
      ap (λ n. not (n == 0)) (map.len-entries s ∙ ap length e) in absurd cc
  go (x ∷ xs) e =
      (x.0, x.1, map.get-entries s x.0 ∙ ap (find nat_cmp x.0) e ∙ found_first x.0 x xs refl)

-- an open reception is of the transaction's last opening
pub open_opening : (c : Config) (h : History) (d : Direction) (name : Name)
    → IsSound c h
    → has_parts (heard c h d name) ≡ true
    → (o : Opening) × (current h d name ≡ Some o)
open_opening c h d name sound has =
    let it = some_part (heard c h d name) has in
    let part = sound.heard d name it.0 it.1 it.2 in
    (part.opening, part.is_current)

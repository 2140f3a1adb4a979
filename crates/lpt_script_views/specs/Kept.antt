-- Which parts of a message its receiver keeps, by what the journal's replies tell.
use Rattle.std.specs.Prelude.{ℕ, nat_eq, Bool, if◌then◌else◌, List, [], ◌∷◌, ◌++◌}
use Rattle.std.specs.List.{list_any}
use Rattle.lpt_acts.specs.Acts.{Act, Deliver, Expire, Restart}
use Rattle.lpt_events.specs.declared.outcome.Outcome.TheVariants.{Kept, Released, Broken}
use Rattle.lpt_events.specs.declared.reply.Answer.{Answer}
use Rattle.lpt_events.specs.declared.reply.Answer.TheVariants.{Delivered, Expired}
use Rattle.lpt_events.specs.Lanes.{lane_direction, same_direction}
use Rattle.lpt_events.specs.Sides.{same_side, receiver_side}
use Rattle.lpt_journal.specs.Journal.{History}
use Rattle.lpt_packet.specs.declared.direction.Direction.{Direction}
use Rattle.lpt_packet.specs.Names.{Name, same_name}

-- the numbers of the parts that are kept of a name, after this answer to an event at its receiver
abbrev pub kept_now : Answer → Name → List ℕ → List ℕ
kept_now (Delivered (Kept i k)) name before =
    if same_name i name then before ++ k ∷ [] else before
kept_now (Delivered (Released i len)) name before = if same_name i name then [] else before
kept_now (Delivered (Broken i reason)) name before = if same_name i name then [] else before
kept_now (Expired d i) name before = if same_name i name then [] else before
kept_now _ name before = before

-- the numbers of the parts that are kept of a transaction, after an act with this answer
abbrev pub kept_after : Direction → Name → Act → Answer → List ℕ → List ℕ
kept_after d name (Deliver l) answer before =
    if same_direction (lane_direction l) d then kept_now answer name before else before
kept_after d name (Expire side which) answer before =
    if same_side side (receiver_side d) then kept_now answer name before else before
kept_after d name (Restart side) answer before =
    if same_side side (receiver_side d) then [] else before
kept_after d name _ answer before = before

-- the numbers of the parts that are kept of a transaction, in the order in which they came
abbrev pub kept_numbers : Direction → Name → History → List ℕ
kept_numbers d name [] = []
kept_numbers d name (x ∷ h) = kept_after d name x.event x.reply.answer (kept_numbers d name h)

-- whether a number is among these
abbrev pub has_number : List ℕ → ℕ → Bool
has_number ns k = list_any (λ n. nat_eq n k) ns

-- What a damaged packet owes, and that it pays it.
use Rattle.std.proofs.Common.{◌≡◌, ap, subst, refl, ℕ, false, List, ◌∷◌, None}
use Rattle.lpt_packet.specs.declared.direction.Direction.{Direction}
use Rattle.lpt_packet.specs.Packets.{packet_seen}
use Rattle.lpt_events.specs.declared.config.Config.{Config}
use Rattle.lpt_events.specs.Arrivals.{NotRead, part_name, sight_arrival, arrival, arrival_in}
use Rattle.lpt_events.specs.Damages.{is_damage_long, looks_whole}
use Rattle.lpt_events.specs.Sides.{receiver_side}
use Rattle.lpt_acts.specs.Acts.{Damage}
use Rattle.lpt_events.specs.declared.fault.StepFault.TheVariants.{Long, LooksWhole}
use Rattle.lpt_memory.specs.Memories.{Contents}
use Rattle.lpt_journal.specs.Journal.{History}
use Rattle.lpt_journal.specs.Replies.{entry}
use Rattle.lpt_journal.specs.Refusals.{refusal}
use Rattle.lpt_journal.proofs.CalmEvents.{calm_owes}
use Rattle.lpt_journal.proofs.Events.{only_element}
use Rattle.lpt_journal.proofs.Steps.{IsPut, IsSound, Owes}
use Rattle.lpt_journal.proofs.TestLemmas.{two_pass}
use Rattle.lpt_packet.proofs.BoolLemmas.{none_is}

-- what is no packet isn't read at either node
pub unread : (c : Config) (d : Direction) (b : List ℕ)
    → looks_whole b ≡ false
    → arrival_in c d b ≡ NotRead
unfolding arrival
unread c d b e =
    ap (sight_arrival (receiver_side d) c.apid c.part_size b) (none_is (packet_seen b) e)

-- damage is calm, and puts what isn't read
pub damage_owes : (c : Config) (first : Contents) (h : History) (d : Direction) (b : List ℕ)
    → IsSound c h
    → refusal c h (Damage d b) ≡ None
    → Owes c h (entry c first h (Damage d b))
damage_owes c first h d b sound accepted =
    let t = two_pass (is_damage_long c b) (looks_whole b) Long LooksWhole accepted in
    calm_owes c first h (Damage d b) refl sound
    (λ k p f. subst (λ x. IsPut c (entry c first h (Damage d b) ∷ h) (Damage d b) x)
    (only_element _ k p f)
    (record { sound = unread c d b t.1; name = ap part_name (unread c d b t.1) }))

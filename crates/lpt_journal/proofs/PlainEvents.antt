-- What a plain request owes, and that it pays it.
use Rattle.std.proofs.Common.{◌≡◌, ◌∙◌, ap, sym, subst, ℕ, refl, List, ◌∷◌, length, None, arith}
use Rattle.lpt_packet.specs.declared.direction.Direction.TheVariants.{Up}
use Rattle.lpt_events.specs.declared.config.Config.{Config}
use Rattle.lpt_events.specs.Arrivals.{ARequest, APart, part_name}
use Rattle.lpt_events.specs.Configs.{IsConfig}
use Rattle.lpt_events.specs.Requests.{is_part_request, is_too_long}
use Rattle.lpt_acts.specs.Acts.{Plain, IsAct}
use Rattle.lpt_events.specs.declared.fault.StepFault.TheVariants.{PartRequest, Long}
use Rattle.lpt_journal.specs.Journal.{History}
use Rattle.lpt_journal.specs.Replies.{plain_packet, entry}
use Rattle.lpt_journal.specs.Refusals.{refusal}
use Rattle.lpt_journal.specs.Senders.{count}
use Rattle.lpt_journal.proofs.CalmEvents.{calm_owes}
use Rattle.lpt_journal.proofs.Events.{only_element}
use Rattle.lpt_journal.proofs.SentParts.{plain_arrives}
use Rattle.lpt_journal.proofs.Steps.{IsRead, IsPut, IsSound, Owes}
use Rattle.lpt_memory.specs.Memories.{Contents}
use Rattle.lpt_journal.proofs.TestLemmas.{two_pass}

-- a plain request pays what it owes: its packet is read, and is no part
pub plain_owes : (c : Config) (first : Contents) (h : History) (source flags service subtype : ℕ)
    (body : List ℕ)
    → IsConfig c
    → IsSound c h
    → IsAct (Plain source flags service subtype body)
    → refusal c h (Plain source flags service subtype body) ≡ None
    → Owes c h (entry c first h (Plain source flags service subtype body))
plain_owes c first h source flags service subtype body good sound fits accepted =
    let t =
    two_pass (is_part_request service subtype) (is_too_long c (length body)) PartRequest Long
    accepted in
    let packet = plain_packet c h source flags service subtype body in
    let arrives =
    plain_arrives c source (count h Up) flags service subtype body good fits.0 (omega arith) fits.1
    fits.2 fits.3 t.0 t.1 in
    calm_owes c first h (Plain source flags service subtype body) refl sound
    (λ k p f. subst (λ x. IsPut c (entry c first h (Plain source flags service subtype body) ∷ h)
    (Plain source flags service subtype body) x)
    (only_element _ k p f)
    (record {
      sound = record {
        is_read = subst (λ a. IsRead a) (sym arrives) tt;
        part = λ q e. let no : ARequest packet ≡ APart q = sym arrives ∙ e in absurd cc;
      };
      name = ap part_name arrives;
    }))

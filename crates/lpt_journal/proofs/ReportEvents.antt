-- An abortion report that the spacecraft puts is read, and is no part, whatever event puts it.
use Rattle.std.proofs.Common.{◌≡◌, ◌∙◌, ap, sym, subst, ℕ, false, Some, None, arith, ◌<◌}
use Rattle.std.specs.List.{slice_get}
use Rattle.lpt_packet.specs.declared.direction.Direction.TheVariants.{Down}
use Rattle.lpt_packet.specs.Names.{Name}
use Rattle.lpt_part.specs.declared.reason.Reason.{Reason}
use Rattle.lpt_events.specs.declared.config.Config.{Config}
use Rattle.lpt_acts.specs.Acts.{Act}
use Rattle.lpt_events.specs.declared.side.Side.TheVariants.{Craft}
use Rattle.lpt_events.specs.Arrivals.{APart, AnAbort, part_name}
use Rattle.lpt_journal.specs.Journal.{History, SentPacket}
use Rattle.lpt_journal.specs.Link.{tag_put, damages}
use Rattle.lpt_journal.specs.Receivers.{clock}
use Rattle.lpt_events.specs.Configs.{IsConfig}
use Rattle.lpt_events.specs.MadePackets.{abort_made}
use Rattle.lpt_journal.specs.Replies.{abort_puts}
use Rattle.lpt_journal.specs.Senders.{count, type_counter}
use Rattle.lpt_journal.proofs.Events.{only_element}
use Rattle.lpt_journal.proofs.SentParts.{abort_arrives}
use Rattle.lpt_journal.proofs.Steps.{IsRead, IsSoundPut, IsSoundPacket, IsPut, IsSound}
use Rattle.lpt_events.specs.Counts.{AreCounts}

pub report_put : (c : Config) (h g : History) (e : Act) (name : Name) (reason : Reason) (k : ℕ)
    (p : SentPacket)
    → IsConfig c
    → IsSound c h
    → name.source < 65536
    → damages e ≡ false
    → tag_put e ≡ None
    → slice_get (abort_puts c h Craft name reason) k ≡ Some p
    → IsPut c g e p
report_put c h g e name reason k p good sound from no_noise no_tag f =
    let counter = type_counter h 13 16 in
    let counts : AreCounts (count h Down) counter (clock c h Craft) =
    record {
      count_fits = omega arith;
      counter_fits = omega arith;
      time_fits = sound.clocks Craft;
    } in
    let it = abort_arrives c (count h Down) counter (clock c h Craft) name reason good
    counts from in
    let made : SentPacket = record {
      direction = Down;
      octets = abort_made c (count h Down) counter (clock c h Craft) name reason;
    } in
    let read : IsSoundPacket c g made = record {
      is_read = subst (λ a. IsRead a) (sym it.1) tt;
      part = λ q e. let no : AnAbort it.0 reason ≡ APart q = sym it.1 ∙ e in absurd cc;
    } in
    subst (λ x. IsPut c g e x) (only_element _ k p f)
    (record {
      sound = subst (λ b. IsSoundPut b c g made) (sym no_noise) read;
      name = ap part_name it.1 ∙ sym no_tag;
    })

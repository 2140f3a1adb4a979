-- The spacecraft puts an abortion report: the state shows it.
use Rattle.std.proofs.Common.{◌≡◌, ℕ, ◌%◌, List, [], ◌∷◌, ◌++◌, length, None}
use Rattle.std.specs.List.{filter}
use Rattle.lpt_packet.specs.declared.direction.Direction.TheVariants.{Down}
use Rattle.lpt_packet.specs.Names.{Name}
use Rattle.lpt_part.specs.declared.reason.Reason.{Reason}
use Rattle.lpt_events.specs.declared.config.Config.{Config}
use Rattle.lpt_events.specs.declared.side.Side.TheVariants.{Craft}
use Rattle.lpt_events.specs.MadePackets.{abort_made}
use Rattle.lpt_link.specs.Links.{after_put}
use Rattle.lpt_events.specs.declared.telemetry.TelemetryKind.TheVariants.{Abort}
use Rattle.lpt_node.specs.Counting.{counter_of}
use Rattle.lpt_node.specs.Nodes.{NodeData}
use Rattle.lpt_node.specs.Sending.{counted_kind}
use Rattle.lpt_journal.specs.Senders.{is_report}
use Rattle.lpt_refinement.specs.Shows.{Shows}
use Rattle.lpt_model.specs.State.{State}
use Rattle.lpt_refinement.specs.Views.{Views, EndView}
use Rattle.lpt_refinement.proofs.Fields.{with_sending, with_link}
use Rattle.lpt_refinement.proofs.LinkShown.{link_more}
use Rattle.lpt_refinement.proofs.MadeShown.{report_made, is_report-made}

-- the report that the spacecraft makes
abbrev made_at : Config → NodeData → Name → Reason → List ℕ
made_at c d name reason =
    abort_made c d.sending.count (counter_of d.sending.types Abort) d.clock name reason

-- the same, as the journal says
abbrev told_at : Config → EndView → Name → Reason → List ℕ
told_at c y name reason =
    abort_made c (length y.sending.made % 16384)
    (length (filter (is_report 13 16) y.sending.made) % 65536) y.clock name reason

-- the state where it was made and put
abbrev pub with_report : Config → State → Name → Reason → State
with_report c s name reason = record s {
  on_craft = record s.on_craft { sending = counted_kind s.on_craft.sending Abort };
  link = after_put s.link Down None (made_at c s.on_craft name reason);
}

-- the view where it was made and put
abbrev pub report_view : Config → Views → Name → Reason → Views
report_view c v name reason =
    let b = told_at c v.craft name reason in
    record v {
      craft = record v.craft {
        sending = record v.craft.sending { made = v.craft.sending.made ++ b ∷ [] };
      };
      link = record v.link {
        sent = v.link.sent ++ record { direction = Down; octets = b } ∷ [];
        tags = v.link.tags ++ None ∷ [];
      };
    }

pub report_shown : {s : State} {v : Views} (c : Config) (name : Name) (reason : Reason)
    → Shows s v
    → Shows (with_report c s name reason) (report_view c v name reason)
report_shown {s = s} {v = v} c name reason k =
    let own = k.craft.sending in
    let packet : made_at c s.on_craft name reason ≡ told_at c v.craft name reason =
    λ i. abort_made c (own.count i) (own.types.counter Abort i) (k.craft.clock i) name reason in
    with_link
    (with_sending Craft k (report_made Abort _ (λ a t. is_report-made c _ _ _ _ 13 16 _ a t) own))
    (link_more Down None _ _ packet k.link)

-- A reception is given up: the longer journal is shown.
use Rattle.std.proofs.Common.{◌≡◌, true, [], ◌∷◌, Option, Some, None, is_some}
use Rattle.lpt_packet.specs.Names.{Name}
use Rattle.lpt_part.specs.declared.reason.Reason.TheVariants as reason
use Rattle.lpt_events.specs.declared.config.Config.{Config}
use Rattle.lpt_acts.specs.Acts.{Expire}
use Rattle.lpt_events.specs.declared.reply.Puts.{Puts}
use Rattle.lpt_events.specs.declared.side.Side.{Side}
use Rattle.lpt_events.specs.declared.side.Side.TheVariants.{Ground, Craft}
use Rattle.lpt_events.specs.Sides.{direction_to}
use Rattle.lpt_node.specs.Times.{expired_of}
use Rattle.lpt_journal.specs.Journal.{History}
use Rattle.lpt_journal.specs.Replies.{expired_now, expiry_puts}
use Rattle.lpt_refinement.specs.Shows.{Shows}
use Rattle.lpt_model.specs.State.{State, end_of, expired_on}
use Rattle.lpt_refinement.specs.Views.{views}
use Rattle.lpt_refinement.proofs.Fields.{with_receiving}
use Rattle.lpt_refinement.proofs.ReceivingShown.{ended_shown}
use Rattle.lpt_refinement.proofs.ReportShown.{report_shown}
use Rattle.lpt_memory.specs.Memories.{Contents}

-- the journal with the end of a reception, or of none
abbrev pub with_expiry : Config → History → Side → (which given : Option Name) → Option Puts
    → History
with_expiry c h side which o p = record {
  event = Expire side which;
  reply = record { answer = expired_now (direction_to side) o; puts = p };
  puts = expiry_puts c h side o;
  opens = [];
} ∷ h

-- the reception of a name is given up
pub expired_shown : (c : Config) (first : Contents) (s : State) (h : History) (side : Side)
    (p : Option Puts) (which o : Option Name)
    → is_some o ≡ true
    → Shows s (views c first h)
    → Shows (expired_on s side (expired_of side c (end_of s side) o)).0
    (views c first (with_expiry c h side which o p))
expired_shown c first s h side p which None some k = absurd cc
expired_shown c first s h Ground p which (Some name) some k =
    with_receiving Ground k (ended_shown name k.ground.receiving)
expired_shown c first s h Craft p which (Some name) some k =
    report_shown c name reason.Expired (with_receiving Craft k (ended_shown name k.craft.receiving))

-- A part, or a plain request, is sent: the journal that follows is shown.
use Rattle.std.proofs.Common.{◌≡◌, ◌∙◌, ap, sym, subst, refl, ℕ, ◌==◌, true, ◌&&◌, List, [], ◌∷◌, ◌++◌, length, Option, Some, None}
use Rattle.lpt_packet.specs.declared.direction.Direction.{Direction}
use Rattle.lpt_packet.specs.declared.direction.Direction.TheVariants.{Up, Down}
use Rattle.lpt_packet.specs.Names.{Name}
use Rattle.lpt_part.specs.declared.kind.Kind.{Kind}
use Rattle.lpt_part.specs.declared.kind.Kind.TheVariants.{First, Middle, Last}
use Rattle.lpt_part.specs.Parts.{Piece, body_of}
use Rattle.lpt_part.specs.Splitting.{part_count, kind_at}
use Rattle.lpt_events.specs.declared.config.Config.{Config}
use Rattle.lpt_acts.specs.Acts.{Send}
use Rattle.lpt_events.specs.declared.reply.Answer.TheVariants.{Put}
use Rattle.lpt_events.specs.declared.reply.Puts.{Puts}
use Rattle.lpt_events.specs.declared.side.Side.TheVariants.{Ground, Craft}
use Rattle.lpt_events.specs.Arrivals.{part_subtype}
use Rattle.lpt_events.specs.MadePackets.{part_made, nth_part, tc_made}
use Rattle.lpt_events.specs.Sides.{sender_side}
use Rattle.lpt_events.specs.TelemetryKinds.{service_of, subtype_of}
use Rattle.lpt_node.specs.Counting.{counter_of}
use Rattle.lpt_node.specs.Sending.{sent_of, part_packet, part_telemetry}
use Rattle.lpt_journal.specs.Journal.{History}
use Rattle.lpt_journal.specs.Replies.{send_puts, plain_packet, part_packet as journal_packet}
use Rattle.lpt_journal.specs.Senders.{Sender, FreeSender, OpenSender, ClosedSender, is_open, packets_made, type_counter}
use Rattle.lpt_model.specs.State.{State, end_of, sent_on, after_plain}
use Rattle.lpt_refinement.specs.Shows.{Shows, message_of}
use Rattle.lpt_refinement.specs.Views.{Views, views}
use Rattle.lpt_refinement.proofs.Fields.{with_sending, with_link}
use Rattle.lpt_refinement.proofs.LinkShown.{link_more}
use Rattle.lpt_refinement.proofs.MadeShown.{command_made, report_made, is_report-made, IsReportOf}
use Rattle.lpt_memory.specs.Memories.{Contents}

-- ---- sending

-- the telemetry of a downlink part counts by its kind
kind_counter : (h : History) (kind : Kind)
    → type_counter h (service_of (part_telemetry kind)) (subtype_of (part_telemetry kind))
    ≡ type_counter h 13 (part_subtype Down kind)
kind_counter h First = refl
kind_counter h Middle = refl
kind_counter h Last = refl

is_report-part : (c : Config) (peer n counter time : ℕ) (q : Piece)
    → IsReportOf (part_telemetry q.kind) (part_made c Down peer n counter time q)
is_report-part c peer n counter time q s t =
    is_report-made c peer n counter time 13 (part_subtype Down q.kind) (body_of q) s t ∙ go q.kind where
      go : (kind : Kind)
          → ((13 == s) && ((part_subtype Down kind == t) && true))
          ≡ ((service_of (part_telemetry kind) == s)
          && ((subtype_of (part_telemetry kind) == t) && true))
      go First = refl
      go Middle = refl
      go Last = refl

-- a part is sent, as the history has it; its packet got this number
abbrev sent_entry : Config → History → Direction → Name → ℕ → ℕ → Option Puts → Sender → History
sent_entry c h w name n number r y = record {
  event = Send w name n;
  reply = record { answer = Put number; puts = r };
  puts = send_puts c h w name n y;
  opens = [];
} ∷ h

-- part n of an open message is sent
part_sent : (c : Config) (first : Contents) (s : State) (h : History) (w : Direction)
    (name : Name) (n : ℕ) (number : ℕ) (r : Option Puts) (m : List ℕ)
    → Shows s (views c first h)
    → Shows (sent_on s w name
    (sent_of (sender_side w) c (end_of s (sender_side w)) name n (Some m))).0
    (views c first (sent_entry c h w name n number r (OpenSender m)))
part_sent c first s h Up name n number r m k =
    let q = nth_part c.part_size name.id m n in
    let packet : part_packet Ground c s.on_ground name.source q
    ≡ journal_packet c h Up name.source q =
    ap (λ j. part_made c Up name.source j 0 0 q) k.ground.sending.count in
    with_link (with_sending Ground k (command_made _ k.ground.sending))
    (link_more Up (Some name) _ _ packet k.link)
part_sent c first s h Down name n number r m k =
    let q = nth_part c.part_size name.id m n in
    let kind = kind_at n (part_count (length m) c.part_size) in
    let counter : counter_of s.on_craft.sending.types (part_telemetry kind)
    ≡ type_counter h 13 (part_subtype Down kind) =
    k.craft.sending.types.counter (part_telemetry kind) ∙ kind_counter h kind in
    let packet : part_packet Craft c s.on_craft name.source q
    ≡ journal_packet c h Down name.source q =
    λ i. part_made c Down name.source (k.craft.sending.count i) (counter i) (k.craft.clock i) q in
    with_link
    (with_sending Craft k
    (report_made (part_telemetry kind) _ (is_report-part c _ _ _ _ q) k.craft.sending))
    (link_more Down (Some name) _ _ packet k.link)

-- what an open sender has is sent
pub sent_shown : (c : Config) (first : Contents) (s : State) (h : History) (w : Direction)
    (name : Name) (n : ℕ) (number : ℕ) (r : Option Puts) (y : Sender) (o : Option (List ℕ))
    → is_open y ≡ true
    → o ≡ message_of y
    → Shows s (views c first h)
    → Shows (sent_on s w name (sent_of (sender_side w) c (end_of s (sender_side w)) name n o)).0
    (views c first (sent_entry c h w name n number r y))
sent_shown c first s h w name n number r FreeSender o t e k = absurd cc
sent_shown c first s h w name n number r ClosedSender o t e k = absurd cc
sent_shown c first s h w name n number r (OpenSender m) o t e k =
    subst (λ (x : Option (List ℕ)).
    Shows (sent_on s w name (sent_of (sender_side w) c (end_of s (sender_side w)) name n x)).0
    (views c first (sent_entry c h w name n number r (OpenSender m)))) (sym e)
    (part_sent c first s h w name n number r m k)

-- a plain request is put: a view with its packet
abbrev pub plain_view : Config
    → Contents
    → History
    → (source flags service subtype : ℕ)
    → List ℕ
    → Views
plain_view c first h source flags service subtype body =
    let b = plain_packet c h source flags service subtype body in
    let v = views c first h in
    record v {
      ground =
          record v.ground {
            sending = record v.ground.sending { made = packets_made h Up ++ b ∷ [] };
          };
      link = record v.link {
        sent = v.link.sent ++ record { direction = Up; octets = b } ∷ [];
        tags = v.link.tags ++ None ∷ [];
      };
    }

pub plain_shown : (c : Config) (first : Contents) (s : State) (h : History)
    (source flags service subtype : ℕ) (body : List ℕ)
    → Shows s (views c first h)
    → Shows (after_plain c s source flags service subtype body).0
    (plain_view c first h source flags service subtype body)
plain_shown c first s h source flags service subtype body k =
    let packet : tc_made c source s.on_ground.sending.count flags service subtype body
    ≡ plain_packet c h source flags service subtype body
    = ap (λ n. tc_made c source n flags service subtype body) k.ground.sending.count in
    with_link (with_sending Ground k (command_made _ k.ground.sending))
    (link_more Up None _ _ packet k.link)

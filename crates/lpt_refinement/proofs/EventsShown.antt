-- After an event that isn't refused, the longer journal is shown.
use Rattle.std.proofs.Common.{◌≡◌, ap, sym, subst, refl, ℕ, ◌+◌, nat_lt, true, not, is_some, List, [], ◌∷◌, ◌++◌, length, Option, None, ◌-◌}
use Rattle.lpt_packet.specs.declared.direction.Direction.{Direction}
use Rattle.lpt_packet.specs.declared.direction.Direction.TheVariants.{Up, Down}
use Rattle.lpt_packet.specs.Names.{Name}
use Rattle.lpt_events.specs.declared.config.Config.{Config}
use Rattle.lpt_events.specs.declared.entry.Opening.{Opening}
use Rattle.lpt_acts.specs.Acts.{Act, Open, Send, Plain, Finish, Lose, Damage, Take, Deliver, Tick, Expire, Claim, Commit, Apply, Retire, Restart, On, Back, Within}
use Rattle.lpt_events.specs.declared.fault.StepFault.TheVariants.{NotOpen, NoSuchPart, NotHeld, NothingDue}
use Rattle.lpt_events.specs.declared.side.Side.TheVariants.{Ground, Craft}
use Rattle.lpt_events.specs.Sides.{direction_to}
use Rattle.lpt_node.specs.Times.{expired_of}
use Rattle.lpt_events.specs.Configs.{IsConfig}
use Rattle.lpt_journal.specs.Due.{given_up}
use Rattle.lpt_journal.specs.Jobs.{ticket}
use Rattle.lpt_journal.specs.Journal.{History}
use Rattle.lpt_journal.specs.Link.{sent, is_held, is_lost}
use Rattle.lpt_journal.specs.Replies.{entry, reply}
use Rattle.lpt_journal.specs.Refusals.{refusal, expiry_fault}
use Rattle.lpt_journal.specs.Senders.{sender, is_open, packets_made}
use Rattle.lpt_journal.proofs.TestLemmas.{one_passes, two_pass}
use Rattle.lpt_refinement.specs.Shows.{Shows, JobsFit}
use Rattle.lpt_model.specs.State.{State, after, end_of, expired_on}
use Rattle.lpt_refinement.specs.Views.{views, jobs_view}
use Rattle.lpt_refinement.proofs.DeliveredShown.{delivered_shown}
use Rattle.lpt_refinement.proofs.DueShown.{which_shown}
use Rattle.lpt_refinement.proofs.ExecutedShown.{left_shown}
use Rattle.lpt_refinement.proofs.ClaimsShown.{claimed_shown}
use Rattle.lpt_refinement.proofs.CommitsShown.{committed_shown}
use Rattle.lpt_refinement.proofs.ExpiredShown.{expired_shown, with_expiry}
use Rattle.lpt_refinement.proofs.Fields.{with_sending, with_clock, with_link, with_opened, sending_at, with_receiving, with_ground, with_craft}
use Rattle.lpt_refinement.proofs.LinkShown.{link_more, link_lost, link_taken}
use Rattle.lpt_memory.specs.Memories.{Contents}
use Rattle.lpt_refinement.proofs.OpenedShown.{opened_shown, closed_shown}
use Rattle.lpt_refinement.proofs.RestartedShown.{restarted_shown, limited_shown}
use Rattle.lpt_refinement.proofs.RetiredShown.{retired_shown}
use Rattle.lpt_refinement.proofs.SendingShown.{sent_shown, plain_shown}
use Rattle.lpt_packet.proofs.BoolLemmas.{true_lt, and_left, not_false}
use Rattle.lpt_refinement.proofs.ReceivingShown.{back_shown}

-- the opening of a message after a journal
abbrev opening : History → Direction → Name → List ℕ → Opening
opening h d name m = record { place = length h; direction = d; name = name; message = m }

pub event_shown : (c : Config) (first : Contents) (s : State) (h : History) (e : Act)
    → IsConfig c
    → Shows s (views c first h)
    → JobsFit (jobs_view c first h) (ticket c h)
    → refusal c h e ≡ None
    → Shows (after c (length h) s e).0 (views c first (entry c first h e ∷ h))
event_shown c first s h (Open Up name m) in_range k fits e =
    let o = opening h Up name m in
    with_opened
    (with_sending Ground k (opened_shown h Up (packets_made h Up) name o k.ground.sending))
    (ap (λ os. os ++ o ∷ []) k.opened)
event_shown c first s h (Open Down name m) in_range k fits e =
    let o = opening h Down name m in
    with_opened
    (with_sending Craft k (opened_shown h Down (packets_made h Down) name o k.craft.sending))
    (ap (λ os. os ++ o ∷ []) k.opened)
event_shown c first s h (Send d name n) in_range k fits e =
    sent_shown c first s h d name n (length (sent h)) (reply c first h (Send d name n)).puts
    (sender h d name) _
    (not_false (is_open (sender h d name)) (two_pass _ _ NotOpen NoSuchPart e).0)
    ((sending_at c first h d k).messages name) k
event_shown c first s h (Plain source flags service subtype body) in_range k fits e =
    plain_shown c first s h source flags service subtype body k
event_shown c first s h (Finish Up name) in_range k fits e =
    with_sending Ground k (closed_shown h Up name k.ground.sending)
event_shown c first s h (Finish Down name) in_range k fits e =
    with_sending Craft k (closed_shown h Down name k.craft.sending)
event_shown c first s h (Lose n) in_range k fits e =
    let held : is_held h n ≡ true = not_false (is_held h n) (one_passes _ NotHeld e) in
    let there : nat_lt n (length (sent h)) ≡ true =
    and_left (nat_lt n (length (sent h))) (not (is_lost h n)) held in
    with_link k (link_lost n (true_lt n (length (sent h)) there) k.link)
event_shown c first s h (Damage d b) in_range k fits e = with_link k (link_more d None b b refl k.link)
event_shown c first s h (Take l n) in_range k fits e = with_link k (link_taken l n k.link)
event_shown c first s h (Deliver l) in_range k fits e = delivered_shown c first s h l k fits
event_shown c first s h (Tick Ground (Back n)) in_range k fits e =
    with_receiving Ground (with_clock Ground k (ap (λ m. m - n) k.ground.clock))
    (back_shown n k.ground.receiving)
event_shown c first s h (Tick Craft (Back n)) in_range k fits e =
    with_receiving Craft (with_clock Craft k (ap (λ m. m - n) k.craft.clock))
    (back_shown n k.craft.receiving)
event_shown c first s h (Tick Ground (Within l)) in_range k fits e =
    with_ground k (limited_shown l k.ground)
event_shown c first s h (Tick Craft (Within l)) in_range k fits e =
    with_craft k (limited_shown l k.craft) k.jobs refl
event_shown c first s h (Tick Ground On) in_range k fits e =
    with_clock Ground k (ap (λ n. n + 1) k.ground.clock)
event_shown c first s h (Tick Craft On) in_range k fits e =
    with_clock Craft k (ap (λ n. n + 1) k.craft.clock)
event_shown c first s h (Expire side which) in_range k fits e =
    let o = given_up c h (direction_to side) which in
    let told = (reply c first h (Expire side which)).puts in
    subst (λ (x : Option Name). Shows (expired_on s side (expired_of side c (end_of s side) x)).0
    (views c first (with_expiry c h side which o told)))
    (sym (which_shown c first s h side which k))
    (expired_shown c first s h side told which o
    (not_false (is_some o) (one_passes _ (expiry_fault which) e)) k)
event_shown c first s h (Claim w) in_range k fits e = claimed_shown c first s h w k fits e
event_shown c first s h (Commit w) in_range k fits e = committed_shown c first s h w k fits e
event_shown c first s h (Apply how) in_range k fits e =
    left_shown c first s h how in_range k fits e
event_shown c first s h (Retire d name) in_range k fits e = retired_shown c first s h d name k e
event_shown c first s h (Restart side) in_range k fits e = restarted_shown c first s h side k

-- Each call of C is a move of two ends apart.
use Rattle.std.proofs.Common.{◌≡◌, ◌∙◌, ap, sym, subst, refl, ℕ, ◌==◌, nat_le, nat_lt, Bool, true, false, ◌&&◌, if◌then◌else◌, List, [], ◌∷◌, ◌++◌, length, Option, Some, None}
use Rattle.lpt_packet.proofs.Readings.{true_eq}
use Rattle.lpt_c_end.proofs.DropLemmas.{read_first}
use Rattle.lpt_apart.specs.Ends.{after_all, Ends, put_out, Pair, freed_by, retired_by}
use Rattle.lpt_apart.specs.TwoEnds.{CanAll, CanMove}
use Rattle.lpt_c_end.specs.Accesses.{first_read, length_refusal, unready}
use Rattle.lpt_c_end.specs.Changes.{IsFixed, delivery, expiry, giving_up, read_by}
use Rattle.lpt_c_end.specs.Codes.{already_read, elsewhere, node_code, range, no_job}
use Rattle.lpt_c_end.specs.Contents.{memories_of}
use Rattle.lpt_c_end.specs.Keeping.{IsResumedWith}
use Rattle.lpt_c_end.specs.Kept.{elsewhere_refusal, here_refusal, memories_refusal, sizes_in}
use Rattle.lpt_c_end.specs.Refusals.{ground_refusal, read_refusal, sending_refusal}
use Rattle.lpt_c_end.specs.Refusing.{refuse_as_refusal}
use Rattle.lpt_c_end.specs.Sizes.{kept_as}
use Rattle.lpt_c_end.specs.Words.{direction_from as direction_by}
use Rattle.lpt_c_end.specs.declared.end.End.{End}
use Rattle.lpt_c_end.specs.declared.kept.Kept.{Kept}
use Rattle.lpt_c_end.specs.declared.kept.Kept.TheVariants.{Nowhere, Here, Elsewhere}
use Rattle.lpt_c_end.proofs.ReadyLemmas.{front_ready}
use Rattle.lpt_c_pair.specs.Outboxes.{AllOnTheWay, NoneWaits}
use Rattle.lpt_c_pair.specs.Pairs.{AreEndsOf, IsEndOf, CallPlace, InEnd, WithProgram, kept_in, Call, Open, Part, Plain, Finish, LetGo, Packet, Expire, GiveUp, Tick, Rebase, Read, Execute, ExecuteGiven, Drop, DropRead, Refuse, Retire, RetireFree, Restart, Resume, ResumeSized, Fails, freeing, moves, IsMoveOfGround, IsMoveOfCraft, CallsAreMoves}
use Rattle.lpt_c_pair.proofs.Clockless.{refuses_open, refuses_send, sends, refuses_plain, asks, takes, refuses_expire, expires, gives_up, reads, executes, executes_over, refuses_front}
use Rattle.lpt_c_pair.proofs.GivenLemmas.{executed_sizes, not_short}
use Rattle.lpt_c_pair.proofs.Resuming.{resumed_node}
use Rattle.lpt_apart.proofs.GroundReports.{none_of_delivery, none_of_expiry}
use Rattle.lpt_c_pair.proofs.Waiting.{stays, beside, adds, replaces, lets_go, freed_other, freed_this, as_listed, none_more}
use Rattle.lpt_c_pair.proofs.Lemmas.{can_back, free_stays, no_fault, not_refused, not_unsent, sizes_kept, refusal_kept, ground_becomes, craft_becomes, craft_fixed}
use Rattle.lpt_packet.specs.declared.direction.Direction.{Direction}
use Rattle.lpt_packet.specs.declared.direction.Direction.TheVariants.{Up, Down}
use Rattle.lpt_packet.specs.Names.{Name}
use Rattle.lpt_events.specs.Arrivals.{arrival_in}
use Rattle.lpt_events.specs.declared.config.Config.{Config}
use Rattle.lpt_events.specs.declared.side.Side.{Side}
use Rattle.lpt_events.specs.declared.side.Side.TheVariants.{Ground, Craft}
use Rattle.lpt_events.specs.declared.worker.Worker.TheVariants.{W1}
use Rattle.lpt_jobs.specs.Jobs.{claimed_in, head_of, without_front}
use Rattle.lpt_memory.specs.Meanings.{Sizes}
use Rattle.lpt_memory.specs.Memories.{Contents, sizes_of}
use Rattle.lpt_memory.specs.Readings.{Job}
use Rattle.lpt_node.specs.Accepting.{packet_accepted}
use Rattle.lpt_node.specs.declared.accepted.Accepted.{Accepted}
use Rattle.lpt_node.specs.declared.expired.Expired.{Expired}
use Rattle.lpt_node.specs.Restarts.{name_retired, node_restarted}
use Rattle.lpt_node.specs.Jobs.{Execution, FrontIsFor, refusal_claim, job_claimed, refusal_apply, job_executed, executed_given, refused_front}
use Rattle.lpt_node.proofs.GivenLemmas.{given_over}
use Rattle.lpt_node.specs.Nodes.{NodeData}
use Rattle.lpt_node.specs.Requests.{refusal_plain, plain_made}
use Rattle.lpt_node.specs.Sending.{refusal_open, message_opened, refusal_send, part_sent, refusal_finish, sender_closed}
use Rattle.lpt_node.specs.Times.{can_set_back, clock_back, due, refusal_tick, clock_ticked, refusal_expire, refusal_give_up, reception_expired, expired_of, which_ends}
use Rattle.lpt_pus.specs.Codes.{number_of}
use Rattle.lpt_model.specs.State.{as_list}
use Rattle.lpt_model.specs.Tickets.{Tickets, ticket_of, with_ticket}

-- a number in its range is refused by nothing else
in_range : (b : Bool) (o : Option ℕ) → (if b then o else Some range) ≡ None → o ≡ None
in_range true o none = none
in_range false o none = absurd cc

-- the oldest request of all is dropped unread if it wasn't read and waits
unread : (n : ℕ) (o : Option ℕ)
    → (if n == 0 then o else Some already_read) ≡ None
    → (n ≡ 0) × (o ≡ None)
unread n o none = go (n == 0) refl none where
  go : (b : Bool)
      → (n == 0) ≡ b
      → (if b then o else Some already_read) ≡ None
      → (n ≡ 0) × (o ≡ None)
  go true is e = (true_eq n 0 is, e)
  go false is e = absurd cc

module _ (c : Config) (p : Pair) (g k : End) (are : AreEndsOf c p g k) where
  -- what waits where a call of ground puts nothing out
  quiet_ground : (f : Ends) (new : List (List ℕ))
      → f.on_the_way ≡ p.ends.on_the_way
      → new ≡ g.outbox.items
      → AllOnTheWay f Up new × AllOnTheWay f Down k.outbox.items
  quiet_ground f new ways is = (
    stays p.ends f Up g.outbox.items new ways is are.upwards,
    stays p.ends f Down k.outbox.items k.outbox.items ways refl are.downwards,
  )

  -- the same where what is put out is of the spacecraft's direction
  beside_stays : (f : Ends) (new bs : List (List ℕ))
      → f.on_the_way ≡ put_out p.ends.on_the_way Down None bs
      → new ≡ g.outbox.items
      → AllOnTheWay f Up new × AllOnTheWay f Down k.outbox.items
  beside_stays f new bs ways is = (
    subst (λ (xs : List (List ℕ)). AllOnTheWay f Up xs) (sym is)
        (beside p.ends f Up Down None g.outbox.items bs ways are.upwards),
    beside p.ends f Down Down None k.outbox.items bs ways are.downwards,
  )

  -- the same of the spacecraft
  quiet_craft : (f : Ends) (new : List (List ℕ))
      → f.on_the_way ≡ p.ends.on_the_way
      → new ≡ k.outbox.items
      → AllOnTheWay f Up g.outbox.items × AllOnTheWay f Down new
  quiet_craft f new ways is = (
    stays p.ends f Up g.outbox.items g.outbox.items ways refl are.upwards,
    stays p.ends f Down k.outbox.items new ways is are.downwards,
  )

  -- ---- ground

  free_ground : (d : Direction) (name : Name) (new : End)
      → CanMove c p (freeing Ground d name)
      → NoneWaits p.ends d name g k
      → IsFixed g new
      → new.node.at ≡ name_retired g.side g.node.at d name
      → new.outbox.items ≡ g.outbox.items
      → CanAll c p (freeing Ground d name ∷ [])
      × AreEndsOf c (after_all c p (freeing Ground d name ∷ [])) new k
  free_ground Up name new can none fixed node outbox = (
    (tt, can),
    ground_becomes c p (after_all c p (freeing Ground Up name ∷ [])) g new k are fixed
        (node ∙ (λ i. name_retired (are.ground.side i) (are.ground.node i) Up name)) refl refl refl
        (freed_this p.ends (retired_by p Up name).ends Up name g.outbox.items new.outbox.items
        refl outbox none)
        (freed_other p.ends (retired_by p Up name).ends Down Up name k.outbox.items k.outbox.items
        refl refl refl are.downwards),
  )
  free_ground Down name new can none fixed node outbox = (
    (tt, can),
    ground_becomes c p (after_all c p (freeing Ground Down name ∷ [])) g new k are fixed
        (node ∙ (λ i. name_retired (are.ground.side i) (are.ground.node i) Down name)) refl refl
        refl
        (freed_other p.ends (freed_by p Down name).ends Up Down name g.outbox.items
        new.outbox.items refl refl outbox are.upwards)
        (freed_this p.ends (freed_by p Down name).ends Down name k.outbox.items k.outbox.items
        refl refl none),
  )

  on_ground : (call : Call) → IsMoveOfGround c p g k call
  on_ground (Open name m) new done vow = (
    (
      tt,
      (
        vow,
        sym (refuses_open are.ground name (length m))
            ∙ no_fault (refusal_open g.config g.node.at name (length m)) done.0,
      ),
    ),
    ground_becomes c p (after_all c p (moves Ground (Open name m))) g new k are done.1.fixed
        (done.1.node ∙ ap (λ (n : NodeData). message_opened n name m) are.ground.node) refl refl
        refl
        (quiet_ground (after_all c p (moves Ground (Open name m))).ends new.outbox.items refl
        done.1.outbox).0
        (quiet_ground (after_all c p (moves Ground (Open name m))).ends new.outbox.items refl
        done.1.outbox).1,
  )
  on_ground (Part name n) new done vow = (
    (
      tt,
      (
        vow,
        sym (refuses_send are.ground name n)
            ∙ no_fault (refusal_send g.config g.node.at name n) done.0,
      ),
    ),
    ground_becomes c p (after_all c p (moves Ground (Part name n))) g new k are done.1.fixed
        (done.1.node
        ∙ ap (λ (x : NodeData × List ℕ). x.0) (sends are.ground name n)) refl refl refl
        (adds p.ends (after_all c p (moves Ground (Part name n))).ends Up (Some name)
        g.outbox.items new.outbox.items
        ((part_sent Ground c p.ends.on_ground name n).1 ∷ []) refl
        (done.1.outbox
        ∙ ap (λ (x : NodeData × List ℕ). g.outbox.items ++ (x.1 ∷ []))
        (sends are.ground name n)) are.upwards)
        (beside p.ends (after_all c p (moves Ground (Part name n))).ends Down Up (Some name)
        k.outbox.items ((part_sent Ground c p.ends.on_ground name n).1 ∷ []) refl are.downwards),
  )
  on_ground (Plain source flags service subtype body) new done vow =
      let here : ground_refusal g.side (node_code (refusal_plain g.config service subtype
      (length body))) ≡ None =
      not_refused (nat_lt 15 flags) range (ground_refusal g.side (node_code
      (refusal_plain g.config service subtype (length body)))) done.0 in
      let none : node_code (refusal_plain g.config service subtype (length body)) ≡ None =
      sym (ap (λ (s : Side). ground_refusal s (node_code (refusal_plain g.config service subtype
      (length body)))) are.ground.side) ∙ here in (
        (
          tt,
          (
            vow,
            sym (refuses_plain are.ground service subtype (length body))
                ∙ no_fault (refusal_plain g.config service subtype (length body)) none,
          ),
        ),
        ground_becomes c p (after_all c p (moves Ground
            (Plain source flags service subtype body))) g new k are done.1.fixed
            (done.1.node
            ∙ ap (λ (x : NodeData × List ℕ). x.0)
            (asks are.ground source flags service subtype body)) refl refl refl
            (adds p.ends (after_all c p (moves Ground
            (Plain source flags service subtype body))).ends Up None
            g.outbox.items new.outbox.items
            ((plain_made c p.ends.on_ground source flags service subtype body).1 ∷ []) refl
            (done.1.outbox
            ∙ ap (λ (x : NodeData × List ℕ). g.outbox.items ++ (x.1 ∷ []))
            (asks are.ground source flags service subtype body)) are.upwards)
            (beside p.ends (after_all c p (moves Ground
            (Plain source flags service subtype body))).ends Down Up None k.outbox.items
            ((plain_made c p.ends.on_ground source flags service subtype body).1 ∷ []) refl
            are.downwards),
      )
  on_ground (Finish name) new done vow = (
    (
      tt,
      (
        vow,
        sym (λ i. refusal_finish (are.ground.node i) name)
            ∙ no_fault (refusal_finish g.node.at name) done.0,
      ),
    ),
    ground_becomes c p (after_all c p (moves Ground (Finish name))) g new k are done.1.fixed
        (done.1.node ∙ ap (λ (n : NodeData). sender_closed n name) are.ground.node) refl refl refl
        (quiet_ground (after_all c p (moves Ground (Finish name))).ends new.outbox.items refl
        done.1.outbox).0
        (quiet_ground (after_all c p (moves Ground (Finish name))).ends new.outbox.items refl
        done.1.outbox).1,
  )
  on_ground LetGo new done vow = (
    tt,
    ground_becomes c p p g new k are done.1.fixed (done.1.node ∙ are.ground.node) refl refl refl
        (lets_go p.ends Up g.outbox.items new.outbox.items done.1.outbox are.upwards)
        are.downwards,
  )
  on_ground (Packet b) new done vow = (
    (tt, vow),
    ground_becomes c p (after_all c p (moves Ground (Packet b))) g new k are done.fixed
        (done.node
        ∙ ap (λ (x : NodeData × Accepted). x.0) (takes are.ground b)) refl refl refl
        (beside_stays (after_all c p (moves Ground (Packet b))).ends new.outbox.items
        (as_list (packet_accepted Ground c p.ends.on_ground (arrival_in c Down b)).1.packet) refl
        (none_more g.outbox.items new.outbox.items (delivery g b).1.packet
        (ap (λ (x : NodeData × Accepted). x.1.packet) (takes are.ground b)
        ∙ none_of_delivery c p.ends.on_ground (arrival_in c Down b)) done.outbox)).0
        (beside_stays (after_all c p (moves Ground (Packet b))).ends new.outbox.items
        (as_list (packet_accepted Ground c p.ends.on_ground (arrival_in c Down b)).1.packet) refl
        (none_more g.outbox.items new.outbox.items (delivery g b).1.packet
        (ap (λ (x : NodeData × Accepted). x.1.packet) (takes are.ground b)
        ∙ none_of_delivery c p.ends.on_ground (arrival_in c Down b)) done.outbox)).1,
  )
  on_ground Expire new done vow = (
    (
      tt,
      sym (refuses_expire are.ground)
          ∙ no_fault (refusal_expire g.config g.node.at) done.0,
    ),
    ground_becomes c p (after_all c p (moves Ground (Expire))) g new k are done.1.fixed
        (done.1.node
        ∙ ap (λ (x : NodeData × Expired). x.0) (expires are.ground))
        refl refl refl
        (beside_stays (after_all c p (moves Ground Expire)).ends new.outbox.items
        (as_list (reception_expired Ground c p.ends.on_ground).1.packet) refl
        (none_more g.outbox.items new.outbox.items (expiry g).1.packet
        (ap (λ (x : NodeData × Expired). x.1.packet) (expires are.ground)
        ∙ none_of_expiry c p.ends.on_ground (due c p.ends.on_ground)) done.1.outbox)).0
        (beside_stays (after_all c p (moves Ground Expire)).ends new.outbox.items
        (as_list (reception_expired Ground c p.ends.on_ground).1.packet) refl
        (none_more g.outbox.items new.outbox.items (expiry g).1.packet
        (ap (λ (x : NodeData × Expired). x.1.packet) (expires are.ground)
        ∙ none_of_expiry c p.ends.on_ground (due c p.ends.on_ground)) done.1.outbox)).1,
  )
  on_ground (GiveUp name) new done vow =
      let none : refusal_give_up g.node.at name ≡ None =
      no_fault (refusal_give_up g.node.at name) done.0 in
      let which : Option Name = which_ends c p.ends.on_ground (Some name) in
      let made : giving_up name g ≡ expired_of Ground c p.ends.on_ground which =
      gives_up are.ground name none in
      let f : Pair = after_all c p (moves Ground (GiveUp name)) in
      let ways = beside_stays f.ends new.outbox.items
      (as_list (expired_of Ground c p.ends.on_ground which).1.packet) refl
      (none_more g.outbox.items new.outbox.items (giving_up name g).1.packet
      (ap (λ (x : NodeData × Expired). x.1.packet) made
      ∙ none_of_expiry c p.ends.on_ground which) done.1.outbox) in (
        (tt, sym (λ i. refusal_give_up (are.ground.node i) name) ∙ none),
        ground_becomes c p f g new k are done.1.fixed
            (done.1.node ∙ ap (λ (x : NodeData × Expired). x.0) made) refl refl refl ways.0
            ways.1,
      )
  on_ground Tick new done vow = (
    (tt, sym (λ i. refusal_tick (are.ground.node i)) ∙ no_fault (refusal_tick g.node.at) done.0),
    ground_becomes c p (after_all c p (moves Ground (Tick))) g new k are done.1.fixed
        (done.1.node ∙ ap (λ (n : NodeData). clock_ticked n) are.ground.node) refl refl refl
        (quiet_ground (after_all c p (moves Ground Tick)).ends new.outbox.items refl
        done.1.outbox).0
        (quiet_ground (after_all c p (moves Ground Tick)).ends new.outbox.items refl
        done.1.outbox).1,
  )
  on_ground (Rebase ticks) new done vow =
      let f : Pair = after_all c p (moves Ground (Rebase ticks)) in
      let ways = quiet_ground f.ends new.outbox.items refl done.1.outbox in (
        (
          tt,
          sym (λ i. can_set_back ticks (are.ground.node i))
              ∙ can_back (can_set_back ticks g.node.at) done.0,
        ),
        ground_becomes c p f g new k are done.1.fixed
            (done.1.node ∙ ap (λ (n : NodeData). clock_back ticks n) are.ground.node) refl refl
            refl ways.0 ways.1,
      )
  on_ground Read new done vow =
      absurd (let both : Some no_job ≡ None =
      sym (ap (λ (o : Kept). memories_refusal o (node_code
      (refusal_claim g.node.at))) are.ground.memories) ∙ done.0 in cc)
  on_ground Execute new done vow =
      absurd (let both : Some no_job ≡ None =
      sym (ap (λ (o : Kept). here_refusal o (sending_refusal (node_code
      (refusal_apply g.node.at)) g.outbox.items)) are.ground.memories) ∙ done.0 in cc)
  on_ground (ExecuteGiven octets) new done vow =
      absurd (let both : Some no_job ≡ None =
      sym (ap (λ (o : Kept). elsewhere_refusal o (sending_refusal
      (length_refusal (unready g) (first_read g) octets) g.outbox.items)) are.ground.memories)
      ∙ done.0 in cc)
  on_ground Drop new done vow =
      absurd (let both : Some no_job ≡ None =
      sym (ap (λ (o : Kept). memories_refusal o (node_code
      (refusal_claim g.node.at))) are.ground.memories)
      ∙ (unread _ (read_refusal g) done.0).1 in cc)
  on_ground DropRead new done vow =
      absurd (let both : Some no_job ≡ None =
      sym (ap (λ (o : Kept). memories_refusal o (unready g)) are.ground.memories) ∙ done.0 in cc)
  on_ground (Refuse code) new done vow =
      absurd (let both : Some no_job ≡ None =
      sym (ap (λ (o : Kept). memories_refusal o (sending_refusal (unready g) g.outbox.items))
      are.ground.memories)
      ∙ in_range (nat_le 1 (number_of code) && nat_le (number_of code) 8)
      (refuse_as_refusal g) done.0 in cc)
  on_ground (Retire direction name) new done vow =
      free_ground (direction_by direction) name new vow.0 vow.1 done.fixed done.node done.outbox
  on_ground (RetireFree direction name) new done vow = (
    tt,
    ground_becomes c p p g new k are done.fixed
        (done.node ∙ free_stays g.side g.node.at (direction_by direction) name vow
        ∙ are.ground.node) refl refl refl
        (quiet_ground p.ends new.outbox.items refl done.outbox).0 are.downwards,
  )
  on_ground Fails new done vow = (
    tt,
    ground_becomes c p p g new k are done.fixed (done.node ∙ are.ground.node) refl refl refl
        (quiet_ground p.ends new.outbox.items refl done.outbox).0 are.downwards,
  )
  on_ground Restart new done vow = (
    (tt, tt),
    ground_becomes c p (after_all c p (moves Ground (Restart))) g new k are done.fixed
        (done.node ∙ ap (λ (n : NodeData). node_restarted n) are.ground.node) refl refl refl
        (quiet_ground (after_all c p (moves Ground Restart)).ends new.outbox.items refl
        done.outbox).0
        (quiet_ground (after_all c p (moves Ground Restart)).ends new.outbox.items refl
        done.outbox).1,
  )
  on_ground (Resume config state ms content) new done vow =
      let f : Ends = (after_all c p (moves Ground (Resume config state ms content))).ends in (
        ((tt, tt), tt),
        record {
          ground = record {
            side = done.side ∙ are.ground.side;
            own = vow.own;
            config = done.config ∙ vow.configured;
            node = resumed_node c Ground p.ends.on_ground Nowhere g new config state
                (memories_of g.side ms content) are.ground vow done;
            memories = done.memories ∙ vow.memories ∙ are.ground.memories;
          };
          place = are.place;
          craft = are.craft;
          tickets = are.tickets;
          upwards = subst (λ (xs : List (List ℕ)). AllOnTheWay f Up xs) (sym done.outbox) tt;
          downwards = stays p.ends f Down k.outbox.items k.outbox.items refl refl are.downwards;
        },
      )
  on_ground (ResumeSized config state sizes) new done vow =
      absurd (let both : kept_as sizes ≡ Nowhere = vow.memories ∙ are.ground.memories in cc)

  -- ---- the spacecraft

  free_craft : (d : Direction) (name : Name) (new : End)
      → CanMove c p (freeing Craft d name)
      → NoneWaits p.ends d name g k
      → IsFixed k new
      → new.node.at ≡ name_retired k.side k.node.at d name
      → new.outbox.items ≡ k.outbox.items
      → CanAll c p (freeing Craft d name ∷ [])
      × AreEndsOf c (after_all c p (freeing Craft d name ∷ [])) g new
  free_craft Up name new can none fixed node outbox = (
    (tt, can),
    craft_fixed c p (after_all c p (freeing Craft Up name ∷ [])) g k new are fixed
        (node ∙ (λ i. name_retired (are.craft.side i) (are.craft.node i) Up name)) refl refl refl
        (freed_this p.ends (freed_by p Up name).ends Up name g.outbox.items g.outbox.items
        refl refl none)
        (freed_other p.ends (freed_by p Up name).ends Down Up name k.outbox.items
        new.outbox.items refl refl outbox are.downwards),
  )
  free_craft Down name new can none fixed node outbox = (
    (tt, can),
    craft_fixed c p (after_all c p (freeing Craft Down name ∷ [])) g k new are fixed
        (node ∙ (λ i. name_retired (are.craft.side i) (are.craft.node i) Down name)) refl refl refl
        (freed_other p.ends (retired_by p Down name).ends Up Down name g.outbox.items
        g.outbox.items refl refl refl are.upwards)
        (freed_this p.ends (retired_by p Down name).ends Down name k.outbox.items
        new.outbox.items refl outbox none),
  )

  -- an execution over memories in the end
  craft_executes : (w : CallPlace) → are.place ≡ w → IsMoveOfCraft c p g k Execute
  craft_executes InEnd at new done vow =
      let held : k.memories ≡ Here p.ends.memories =
      are.craft.memories ∙ ap (λ (w : CallPlace). kept_in w p.ends.memories) at in
      let is : IsEndOf c Craft p.ends.on_craft (Here p.ends.memories) k = record {
        side = are.craft.side;
        own = are.craft.own;
        config = are.craft.config;
        node = are.craft.node;
        memories = held;
      } in
      let unsent : sending_refusal (node_code (refusal_apply k.node.at)) k.outbox.items ≡ None =
      sym (ap (λ (o : Kept). here_refusal o (sending_refusal (node_code
      (refusal_apply k.node.at)) k.outbox.items)) held) ∙ done.0 in
      let none : node_code (refusal_apply k.node.at) ≡ None =
      not_unsent (node_code (refusal_apply k.node.at)) k.outbox.items unsent in (
        (
          tt,
          sym (λ i. refusal_apply (are.craft.node i)) ∙ no_fault (refusal_apply k.node.at) none,
        ),
        craft_becomes c p (after_all c p (moves Craft Execute))
            g k new are done.1.side done.1.config
            (done.1.node
            ∙ ap (λ (x : (NodeData × Execution) × Kept). x.0.0) (executes is)) refl
            (done.1.memories
            ∙ ap (λ (x : (NodeData × Execution) × Kept). x.1) (executes is)
            ∙ sym (ap
            (λ (w : CallPlace). kept_in w (job_executed c p.ends.on_craft p.ends.memories).1) at))
            are.tickets
            (beside p.ends (after_all c p (moves Craft Execute)).ends Up Down None
            g.outbox.items (job_executed c p.ends.on_craft p.ends.memories).0.1.packets refl
            are.upwards)
            (replaces p.ends (after_all c p (moves Craft Execute)).ends Down None
            new.outbox.items (job_executed c p.ends.on_craft p.ends.memories).0.1.packets refl
            (done.1.outbox
            ∙ ap (λ (x : (NodeData × Execution) × Kept). x.0.1.packets) (executes is))),
      )
  craft_executes WithProgram at new done vow =
      absurd (let both : Some elsewhere ≡ None =
      sym (ap (λ (o : Kept). here_refusal o (sending_refusal (node_code
      (refusal_apply k.node.at)) k.outbox.items))
      (are.craft.memories ∙ ap (λ (w : CallPlace). kept_in w p.ends.memories) at)) ∙ done.0 in cc)

  -- an execution over memories that are with the program
  craft_given : (octets : List ℕ) (w : CallPlace) → are.place ≡ w
      → IsMoveOfCraft c p g k (ExecuteGiven octets)
  craft_given octets InEnd at new done vow =
      absurd (let both : Some elsewhere ≡ None =
      sym (ap (λ (o : Kept). elsewhere_refusal o (sending_refusal
      (length_refusal (unready k) (first_read k) octets) k.outbox.items))
      (are.craft.memories ∙ ap (λ (w : CallPlace). kept_in w p.ends.memories) at)) ∙ done.0 in cc)
  craft_given octets WithProgram at new done vow =
      let ms : Contents = p.ends.memories in
      let known : k.memories ≡ Elsewhere (sizes_of ms) =
      are.craft.memories ∙ ap (λ (w : CallPlace). kept_in w ms) at in
      let front : FrontIsFor (head_of k.node.at.jobs.jobs) k.node.config.apid ms =
      front_ready k.node (sizes_in k.memories) ms (ap sizes_in known) k.ready in
      let is : (NodeData × Execution) × Contents = job_executed c p.ends.on_craft ms in
      let same : job_executed k.config k.node.at ms ≡ is = executes_over are.craft ms in
      let over : executed_given k.config k.node.at octets ≡ is.0 =
      given_over k.config k.node.at ms octets (head_of k.node.at.jobs.jobs) k.node.config.apid
      front vow
      ∙ ap (λ (x : (NodeData × Execution) × Contents). x.0) same in
      let sizes : sizes_of is.1 ≡ sizes_of ms =
      ap (λ (x : (NodeData × Execution) × Contents). sizes_of x.1) (sym same)
      ∙ executed_sizes k.config k.node.at ms (head_of k.node.at.jobs.jobs) k.node.config.apid
      front in
      let read : Option ℕ = length_refusal (unready k) (first_read k) octets in
      let unsent : sending_refusal read k.outbox.items ≡ None =
      sym (ap (λ (o : Kept). elsewhere_refusal o (sending_refusal read k.outbox.items)) known)
      ∙ done.0 in
      let none : unready k ≡ None =
      not_short (unready k) (first_read k) octets (not_unsent read k.outbox.items unsent) in (
        (
          tt,
          sym (λ i. refusal_apply (are.craft.node i)) ∙ no_fault (refusal_apply k.node.at) none,
        ),
        craft_becomes c p (after_all c p (moves Craft (ExecuteGiven octets)))
            g k new are done.1.fixed.side done.1.fixed.config
            (done.1.node ∙ ap (λ (x : NodeData × Execution). x.0) over) refl
            (done.1.fixed.memories ∙ known ∙ ap Elsewhere (sym sizes)
            ∙ sym (ap (λ (w : CallPlace). kept_in w is.1) at))
            are.tickets
            (beside p.ends (after_all c p (moves Craft (ExecuteGiven octets))).ends Up Down None
            g.outbox.items is.0.1.packets refl are.upwards)
            (replaces p.ends (after_all c p (moves Craft (ExecuteGiven octets))).ends Down None
            new.outbox.items is.0.1.packets refl
            (done.1.outbox ∙ ap (λ (x : NodeData × Execution). x.1.packets) over)),
      )

  on_craft : (call : Call) → IsMoveOfCraft c p g k call
  on_craft (Open name m) new done vow = (
    (
      tt,
      (
        vow,
        sym (refuses_open are.craft name (length m))
            ∙ no_fault (refusal_open k.config k.node.at name (length m)) done.0,
      ),
    ),
    craft_fixed c p (after_all c p (moves Craft (Open name m))) g k new are done.1.fixed
        (done.1.node ∙ ap (λ (n : NodeData). message_opened n name m) are.craft.node) refl refl refl
        (quiet_craft (after_all c p (moves Craft (Open name m))).ends new.outbox.items refl
        done.1.outbox).0
        (quiet_craft (after_all c p (moves Craft (Open name m))).ends new.outbox.items refl
        done.1.outbox).1,
  )
  on_craft (Part name n) new done vow = (
    (
      tt,
      (
        vow,
        sym (refuses_send are.craft name n)
            ∙ no_fault (refusal_send k.config k.node.at name n) done.0,
      ),
    ),
    craft_fixed c p (after_all c p (moves Craft (Part name n))) g k new are done.1.fixed
        (done.1.node
        ∙ ap (λ (x : NodeData × List ℕ). x.0) (sends are.craft name n))
        refl refl refl
        (beside p.ends (after_all c p (moves Craft (Part name n))).ends Up Down (Some name)
        g.outbox.items ((part_sent Craft c p.ends.on_craft name n).1 ∷ []) refl are.upwards)
        (adds p.ends (after_all c p (moves Craft (Part name n))).ends Down (Some name)
        k.outbox.items new.outbox.items
        ((part_sent Craft c p.ends.on_craft name n).1 ∷ []) refl
        (done.1.outbox
        ∙ ap (λ (x : NodeData × List ℕ). k.outbox.items ++ (x.1 ∷ []))
        (sends are.craft name n)) are.downwards),
  )
  on_craft (Plain source flags service subtype body) new done vow =
      let here : ground_refusal k.side (node_code (refusal_plain k.config service subtype
      (length body))) ≡ None =
      not_refused (nat_lt 15 flags) range (ground_refusal k.side (node_code
      (refusal_plain k.config service subtype (length body)))) done.0 in
      absurd (let both : Some range ≡ None =
      sym (ap (λ (s : Side). ground_refusal s (node_code (refusal_plain k.config service subtype
      (length body)))) are.craft.side) ∙ here in cc)
  on_craft (Finish name) new done vow = (
    (
      tt,
      (
        vow,
        sym (λ i. refusal_finish (are.craft.node i) name)
            ∙ no_fault (refusal_finish k.node.at name) done.0,
      ),
    ),
    craft_fixed c p (after_all c p (moves Craft (Finish name))) g k new are done.1.fixed
        (done.1.node ∙ ap (λ (n : NodeData). sender_closed n name) are.craft.node) refl refl refl
        (quiet_craft (after_all c p (moves Craft (Finish name))).ends new.outbox.items refl
        done.1.outbox).0
        (quiet_craft (after_all c p (moves Craft (Finish name))).ends new.outbox.items refl
        done.1.outbox).1,
  )
  on_craft LetGo new done vow = (
    tt,
    craft_fixed c p p g k new are done.1.fixed (done.1.node ∙ are.craft.node) refl refl refl
        are.upwards
        (lets_go p.ends Down k.outbox.items new.outbox.items done.1.outbox are.downwards),
  )
  on_craft (Packet b) new done vow = (
    (tt, vow),
    craft_fixed c p (after_all c p (moves Craft (Packet b))) g k new are done.fixed
        (done.node
        ∙ ap (λ (x : NodeData × Accepted). x.0) (takes are.craft b))
        refl refl refl
        (beside p.ends (after_all c p (moves Craft (Packet b))).ends Up Down None
        g.outbox.items
        (as_list (packet_accepted Craft c p.ends.on_craft (arrival_in c Up b)).1.packet)
        refl are.upwards)
        (adds p.ends (after_all c p (moves Craft (Packet b))).ends Down None
        k.outbox.items new.outbox.items
        (as_list (packet_accepted Craft c p.ends.on_craft (arrival_in c Up b)).1.packet) refl
        (done.outbox
        ∙ ap (λ (xs : List (List ℕ)). k.outbox.items ++ xs) (as_listed (delivery k b).1.packet)
        ∙ ap (λ (x : NodeData × Accepted). k.outbox.items ++ as_list x.1.packet)
        (takes are.craft b)) are.downwards),
  )
  on_craft Expire new done vow = (
    (
      tt,
      sym (refuses_expire are.craft)
          ∙ no_fault (refusal_expire k.config k.node.at) done.0,
    ),
    craft_fixed c p (after_all c p (moves Craft (Expire))) g k new are done.1.fixed
        (done.1.node
        ∙ ap (λ (x : NodeData × Expired). x.0) (expires are.craft))
        refl refl refl
        (beside p.ends (after_all c p (moves Craft Expire)).ends Up Down None
        g.outbox.items (as_list (reception_expired Craft c p.ends.on_craft).1.packet) refl
        are.upwards)
        (adds p.ends (after_all c p (moves Craft Expire)).ends Down None
        k.outbox.items new.outbox.items
        (as_list (reception_expired Craft c p.ends.on_craft).1.packet) refl
        (done.1.outbox
        ∙ ap (λ (xs : List (List ℕ)). k.outbox.items ++ xs) (as_listed (expiry k).1.packet)
        ∙ ap (λ (x : NodeData × Expired). k.outbox.items ++ as_list x.1.packet)
        (expires are.craft)) are.downwards),
  )
  on_craft (GiveUp name) new done vow =
      let none : refusal_give_up k.node.at name ≡ None =
      no_fault (refusal_give_up k.node.at name) done.0 in
      let which : Option Name = which_ends c p.ends.on_craft (Some name) in
      let made : giving_up name k ≡ expired_of Craft c p.ends.on_craft which =
      gives_up are.craft name none in
      let f : Pair = after_all c p (moves Craft (GiveUp name)) in
      let packets : List (List ℕ) =
      as_list (expired_of Craft c p.ends.on_craft which).1.packet in (
        (tt, sym (λ i. refusal_give_up (are.craft.node i) name) ∙ none),
        craft_fixed c p f g k new are done.1.fixed
            (done.1.node ∙ ap (λ (x : NodeData × Expired). x.0) made) refl refl refl
            (beside p.ends f.ends Up Down None g.outbox.items packets refl are.upwards)
            (adds p.ends f.ends Down None k.outbox.items new.outbox.items packets refl
            (done.1.outbox
            ∙ ap (λ (xs : List (List ℕ)). k.outbox.items ++ xs)
            (as_listed (giving_up name k).1.packet)
            ∙ ap (λ (x : NodeData × Expired). k.outbox.items ++ as_list x.1.packet) made)
            are.downwards),
      )
  on_craft Tick new done vow = (
    (tt, sym (λ i. refusal_tick (are.craft.node i)) ∙ no_fault (refusal_tick k.node.at) done.0),
    craft_fixed c p (after_all c p (moves Craft (Tick))) g k new are done.1.fixed
        (done.1.node ∙ ap (λ (n : NodeData). clock_ticked n) are.craft.node) refl refl refl
        (quiet_craft (after_all c p (moves Craft Tick)).ends new.outbox.items refl done.1.outbox).0
        (quiet_craft (after_all c p (moves Craft Tick)).ends new.outbox.items refl done.1.outbox).1,
  )
  on_craft (Rebase ticks) new done vow =
      let f : Pair = after_all c p (moves Craft (Rebase ticks)) in
      let ways = quiet_craft f.ends new.outbox.items refl done.1.outbox in (
        (
          tt,
          sym (λ i. can_set_back ticks (are.craft.node i))
              ∙ can_back (can_set_back ticks k.node.at) done.0,
        ),
        craft_fixed c p f g k new are done.1.fixed
            (done.1.node ∙ ap (λ (n : NodeData). clock_back ticks n) are.craft.node) refl refl
            refl ways.0 ways.1,
      )
  on_craft Read new done vow =
      let none : node_code (refusal_claim k.node.at) ≡ None =
      sym (ap (λ (o : Kept). memories_refusal o (node_code
      (refusal_claim k.node.at))) are.craft.memories
      ∙ refusal_kept are.place p.ends.memories (node_code (refusal_claim k.node.at))) ∙ done.0 in
      let t : Job = (job_claimed p.ends.on_craft).1 in (
        (
          (
            tt,
            (
              ap (λ (ts : Tickets). ticket_of ts W1) are.tickets,
              sym (λ i. refusal_claim (are.craft.node i))
                  ∙ no_fault (refusal_claim k.node.at) none,
            ),
          ),
          refl,
        ),
        craft_becomes c p (after_all c p (moves Craft Read))
            g k new are done.1.fixed.side done.1.fixed.config
            (done.1.node
            ∙ reads are.craft
            ∙ ap (λ (o : Option Sizes). read_by c o p.ends.on_craft)
            (sizes_kept are.place p.ends.memories))
            refl
            (done.1.fixed.memories ∙ are.craft.memories)
            (λ i. with_ticket (with_ticket (are.tickets i) W1 (Some t)) W1 None)
            (quiet_craft (after_all c p (moves Craft Read)).ends new.outbox.items refl
            done.1.outbox).0
            (quiet_craft (after_all c p (moves Craft Read)).ends new.outbox.items refl
            done.1.outbox).1,
      )
  on_craft Execute new done vow = craft_executes are.place refl new done vow
  on_craft (ExecuteGiven octets) new done vow = craft_given octets are.place refl new done vow
  on_craft Drop new done vow =
      let d : NodeData = p.ends.on_craft in
      let none : node_code (refusal_claim k.node.at) ≡ None =
      sym (ap (λ (o : Kept). memories_refusal o (node_code
      (refusal_claim k.node.at))) are.craft.memories
      ∙ refusal_kept are.place p.ends.memories (node_code (refusal_claim k.node.at)))
      ∙ (unread _ (read_refusal k) done.0).1 in
      let free : refusal_claim d ≡ None =
      sym (λ i. refusal_claim (are.craft.node i)) ∙ no_fault (refusal_claim k.node.at) none in
      let oldest : claimed_in d.jobs.jobs ≡ 0 =
      ap (λ (n : NodeData). claimed_in n.jobs.jobs) (sym are.craft.node)
      ∙ (unread _ (read_refusal k) done.0).0 in
      let t : Job = (job_claimed d).1 in
      let f : Pair = after_all c p (moves Craft Drop) in
      let left = read_first d (record {
        apid = c.apid;
        sizes = sizes_of p.ends.memories;
        message = t.message;
      }) free oldest in (
        (
          ((tt, (ap (λ (ts : Tickets). ticket_of ts W1) are.tickets, free)), refl),
          left.ready,
        ),
        craft_becomes c p f g k new are done.1.fixed.side done.1.fixed.config
            (done.1.node
            ∙ ap (λ (n : NodeData). record n { jobs = without_front n.jobs }) are.craft.node
            ∙ sym left.is)
            refl
            (done.1.fixed.memories ∙ are.craft.memories)
            (λ i. with_ticket (with_ticket (are.tickets i) W1 (Some t)) W1 None)
            (quiet_craft f.ends new.outbox.items refl done.1.outbox).0
            (quiet_craft f.ends new.outbox.items refl done.1.outbox).1,
      )
  on_craft DropRead new done vow =
      let f : Pair = after_all c p (moves Craft DropRead) in
      let ways = quiet_craft f.ends new.outbox.items refl done.1.outbox in
      let none : unready k ≡ None =
      sym (ap (λ (o : Kept). memories_refusal o (unready k)) are.craft.memories
      ∙ refusal_kept are.place p.ends.memories (unready k)) ∙ done.0 in (
        (
          tt,
          sym (λ i. refusal_apply (are.craft.node i)) ∙ no_fault (refusal_apply k.node.at) none,
        ),
        craft_fixed c p f g k new are done.1.fixed
            (done.1.node
            ∙ ap (λ (n : NodeData). record n { jobs = without_front n.jobs }) are.craft.node)
            refl refl refl ways.0 ways.1,
      )
  on_craft (Refuse code) new done vow =
      let f : Pair = after_all c p (moves Craft (Refuse code)) in
      let unsent : sending_refusal (unready k) k.outbox.items ≡ None =
      sym (ap (λ (o : Kept). memories_refusal o (sending_refusal (unready k) k.outbox.items))
      are.craft.memories
      ∙ refusal_kept are.place p.ends.memories (sending_refusal (unready k) k.outbox.items))
      ∙ in_range (nat_le 1 (number_of code) && nat_le (number_of code) 8)
      (refuse_as_refusal k) done.0 in
      let none : unready k ≡ None = not_unsent (unready k) k.outbox.items unsent in
      let x : NodeData × Execution = refused_front c p.ends.on_craft code in
      let same : refused_front k.config k.node.at code ≡ x = refuses_front are.craft code in (
        (
          tt,
          sym (λ i. refusal_apply (are.craft.node i)) ∙ no_fault (refusal_apply k.node.at) none,
        ),
        craft_fixed c p f g k new are done.1.fixed
            (done.1.node ∙ ap (λ (y : NodeData × Execution). y.0) same) refl refl refl
            (beside p.ends f.ends Up Down None g.outbox.items x.1.packets refl are.upwards)
            (replaces p.ends f.ends Down None new.outbox.items x.1.packets refl
            (done.1.outbox ∙ ap (λ (y : NodeData × Execution). y.1.packets) same)),
      )
  on_craft (Retire direction name) new done vow =
      free_craft (direction_by direction) name new vow.0 vow.1 done.fixed done.node done.outbox
  on_craft (RetireFree direction name) new done vow = (
    tt,
    craft_fixed c p p g k new are done.fixed
        (done.node ∙ free_stays k.side k.node.at (direction_by direction) name vow
        ∙ are.craft.node) refl refl refl are.upwards
        (quiet_craft p.ends new.outbox.items refl done.outbox).1,
  )
  on_craft Fails new done vow = (
    tt,
    craft_fixed c p p g k new are done.fixed (done.node ∙ are.craft.node) refl refl refl
        are.upwards (quiet_craft p.ends new.outbox.items refl done.outbox).1,
  )
  on_craft Restart new done vow = (
    (tt, tt),
    craft_fixed c p (after_all c p (moves Craft (Restart))) g k new are done.fixed
        (done.node ∙ ap (λ (n : NodeData). node_restarted n) are.craft.node) refl refl refl
        (quiet_craft (after_all c p (moves Craft Restart)).ends new.outbox.items refl done.outbox).0
        (quiet_craft (after_all c p (moves Craft Restart)).ends new.outbox.items refl
        done.outbox).1,
  )
  on_craft (Resume config state ms content) new done vow =
      let f : Ends = (after_all c p (moves Craft (Resume config state ms content))).ends in (
        ((tt, tt), tt),
        record {
          ground = are.ground;
          place = are.place;
          craft = record {
            side = done.side ∙ are.craft.side;
            own = vow.own;
            config = done.config ∙ vow.configured;
            node = resumed_node c Craft p.ends.on_craft (kept_in are.place p.ends.memories) k new
                config state (memories_of k.side ms content) are.craft vow done;
            memories = done.memories ∙ vow.memories ∙ are.craft.memories;
          };
          tickets = are.tickets;
          upwards = stays p.ends f Up g.outbox.items g.outbox.items refl refl are.upwards;
          downwards = subst (λ (xs : List (List ℕ)). AllOnTheWay f Down xs) (sym done.outbox) tt;
        },
      )
  on_craft (ResumeSized config state sizes) new done vow =
      let f : Ends = (after_all c p (moves Craft (ResumeSized config state sizes))).ends in (
        ((tt, tt), tt),
        record {
          ground = are.ground;
          place = are.place;
          craft = record {
            side = done.side;
            own = vow.own;
            config = done.config ∙ vow.configured;
            node = resumed_node c Craft p.ends.on_craft (kept_in are.place p.ends.memories) k new
                config state (kept_as sizes) are.craft vow
                (subst (λ (s : Side). IsResumedWith s config state (kept_as sizes) new)
                (sym are.craft.side) done);
            memories = done.memories ∙ vow.memories ∙ are.craft.memories;
          };
          tickets = are.tickets;
          upwards = stays p.ends f Up g.outbox.items g.outbox.items refl refl are.upwards;
          downwards = subst (λ (xs : List (List ℕ)). AllOnTheWay f Down xs) (sym done.outbox) tt;
        },
      )

pub calls_are_moves : CallsAreMoves
calls_are_moves c p g k are call = (on_ground c p g k are call, on_craft c p g k are call)

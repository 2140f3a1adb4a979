-- Calls that execute nothing leave the memories.
use Rattle.std.proofs.Common.{◌≡◌, ◌∙◌, ap, sym, refl, [], ◌∷◌, Some, None}
use Rattle.lpt_apart.specs.Ends.{after_all, Pair}
use Rattle.lpt_c_end.specs.Accesses.{first_read, length_refusal, unready}
use Rattle.lpt_c_end.specs.Codes.{elsewhere, no_job, node_code}
use Rattle.lpt_c_end.specs.Kept.{elsewhere_refusal, here_refusal, memories_refusal}
use Rattle.lpt_c_end.specs.Refusals.{sending_refusal}
use Rattle.lpt_c_end.specs.Words.{direction_from as direction_by}
use Rattle.lpt_c_end.specs.declared.end.End.{End}
use Rattle.lpt_c_end.specs.declared.kept.Kept.{Kept}
use Rattle.lpt_c_end.specs.declared.kept.Kept.TheVariants.{Nowhere, Elsewhere}
use Rattle.lpt_c_pair.specs.Pairs.{Call, Open, Part, Plain, Finish, LetGo, Packet, Expire, GiveUp, Tick, Rebase, Read, Execute, ExecuteGiven, Drop, DropRead, Refuse, Retire, RetireFree, Restart, Resume, ResumeSized, Fails, IsDone, Promises, freeing, moves}
use Rattle.lpt_c_pair.specs.Programs.{Program, MayCall}
use Rattle.lpt_events.specs.declared.config.Config.{Config}
use Rattle.lpt_events.specs.declared.side.Side.{Side}
use Rattle.lpt_events.specs.declared.side.Side.TheVariants.{Ground, Craft}
use Rattle.lpt_memory.specs.Meanings.{Sizes}
use Rattle.lpt_node.specs.Jobs.{refusal_apply, refusal_claim}
use Rattle.lpt_packet.specs.Names.{Name}
use Rattle.lpt_packet.specs.declared.direction.Direction.{Direction}
use Rattle.lpt_packet.specs.declared.direction.Direction.TheVariants.{Up, Down}

module _ (c : Config) (p : Pair) where
  freeing_leaves : (side : Side) (d : Direction) (name : Name)
      → (after_all c p (freeing side d name ∷ [])).ends.memories ≡ p.ends.memories
  freeing_leaves Ground Up name = refl
  freeing_leaves Ground Down name = refl
  freeing_leaves Craft Up name = refl
  freeing_leaves Craft Down name = refl

  -- a call of ground leaves the memories
  pub ground_leaves : (g new : End) (call : Call)
      → g.memories ≡ Nowhere
      → IsDone call g new
      → (after_all c p (moves Ground call)).ends.memories ≡ p.ends.memories
  ground_leaves g new (Open name m) none done = refl
  ground_leaves g new (Part name n) none done = refl
  ground_leaves g new (Plain source flags service subtype body) none done = refl
  ground_leaves g new (Finish name) none done = refl
  ground_leaves g new LetGo none done = refl
  ground_leaves g new (Packet b) none done = refl
  ground_leaves g new Expire none done = refl
  ground_leaves g new (GiveUp name) none done = refl
  ground_leaves g new Tick none done = refl
  ground_leaves g new (Rebase ticks) none done = refl
  ground_leaves g new Read none done =
      absurd (let both : Some no_job ≡ None =
      sym (ap (λ (o : Kept). memories_refusal o (node_code
      (refusal_claim g.node.at))) none) ∙ done.0 in cc)
  ground_leaves g new Execute none done =
      absurd (let both : Some no_job ≡ None =
      sym (ap (λ (o : Kept). here_refusal o (sending_refusal (node_code
      (refusal_apply g.node.at)) g.outbox.items)) none) ∙ done.0 in cc)
  ground_leaves g new (ExecuteGiven octets) none done =
      absurd (let both : Some no_job ≡ None =
      sym (ap (λ (o : Kept). elsewhere_refusal o (sending_refusal
      (length_refusal (unready g) (first_read g) octets) g.outbox.items)) none)
      ∙ done.0 in cc)
  ground_leaves g new Drop none done = refl
  ground_leaves g new DropRead none done = refl
  ground_leaves g new (Refuse code) none done = refl
  ground_leaves g new (Retire direction name) none done =
      freeing_leaves Ground (direction_by direction) name
  ground_leaves g new (RetireFree direction name) none done = refl
  ground_leaves g new Fails none done = refl
  ground_leaves g new Restart none done = refl
  ground_leaves g new (Resume config state ms content) none done = refl
  ground_leaves g new (ResumeSized config state sizes) none done = refl

  -- a call of the spacecraft leaves them too, where it executes nothing and they are with the
  -- program; and they stay there
  pub record Leaves (sizes : Sizes) (new : End) (call : Call) : Type 0 where
    pub memories : (after_all c p (moves Craft call)).ends.memories ≡ p.ends.memories
    pub place : new.memories ≡ Elsewhere sizes

  pub craft_leaves : (g k new : End) (sizes : Sizes) (q : Program) (call : Call)
      → k.memories ≡ Elsewhere sizes
      → IsDone call k new
      → Promises c p g k Craft call
      → MayCall q Craft call
      → Leaves sizes new call
  craft_leaves g k new sizes q (Open name m) at done vow may =
      record { memories = refl; place = done.1.fixed.memories ∙ at }
  craft_leaves g k new sizes q (Part name n) at done vow may =
      record { memories = refl; place = done.1.fixed.memories ∙ at }
  craft_leaves g k new sizes q (Plain source flags service subtype body) at done vow may =
      record { memories = refl; place = done.1.fixed.memories ∙ at }
  craft_leaves g k new sizes q (Finish name) at done vow may =
      record { memories = refl; place = done.1.fixed.memories ∙ at }
  craft_leaves g k new sizes q LetGo at done vow may =
      record { memories = refl; place = done.1.fixed.memories ∙ at }
  craft_leaves g k new sizes q (Packet b) at done vow may =
      record { memories = refl; place = done.fixed.memories ∙ at }
  craft_leaves g k new sizes q Expire at done vow may =
      record { memories = refl; place = done.1.fixed.memories ∙ at }
  craft_leaves g k new sizes q (GiveUp name) at done vow may =
      record { memories = refl; place = done.1.fixed.memories ∙ at }
  craft_leaves g k new sizes q Tick at done vow may =
      record { memories = refl; place = done.1.fixed.memories ∙ at }
  craft_leaves g k new sizes q (Rebase ticks) at done vow may =
      record { memories = refl; place = done.1.fixed.memories ∙ at }
  craft_leaves g k new sizes q Read at done vow may =
      record { memories = refl; place = done.1.fixed.memories ∙ at }
  craft_leaves g k new sizes q Execute at done vow may =
      absurd (let both : Some elsewhere ≡ None =
      sym (ap (λ (o : Kept). here_refusal o (sending_refusal (node_code
      (refusal_apply k.node.at)) k.outbox.items)) at) ∙ done.0 in cc)
  craft_leaves g k new sizes q (ExecuteGiven octets) at done vow may = absurd may
  craft_leaves g k new sizes q Drop at done vow may =
      record { memories = refl; place = done.1.fixed.memories ∙ at }
  craft_leaves g k new sizes q DropRead at done vow may =
      record { memories = refl; place = done.1.fixed.memories ∙ at }
  craft_leaves g k new sizes q (Refuse code) at done vow may =
      record { memories = refl; place = done.1.fixed.memories ∙ at }
  craft_leaves g k new sizes q (Retire direction name) at done vow may =
      record {
        memories = freeing_leaves Craft (direction_by direction) name;
        place = done.fixed.memories ∙ at;
      }
  craft_leaves g k new sizes q (RetireFree direction name) at done vow may =
      record { memories = refl; place = done.fixed.memories ∙ at }
  craft_leaves g k new sizes q Fails at done vow may =
      record { memories = refl; place = done.fixed.memories ∙ at }
  craft_leaves g k new sizes q Restart at done vow may =
      record { memories = refl; place = done.fixed.memories ∙ at }
  craft_leaves g k new sizes q (Resume config state ms content) at done vow may =
      record { memories = refl; place = done.memories ∙ vow.memories ∙ at }
  craft_leaves g k new sizes q (ResumeSized config state given) at done vow may =
      record { memories = refl; place = done.memories ∙ vow.memories ∙ at }

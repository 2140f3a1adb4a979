-- Calls that weren't kept can be deleted from what was done.
use Rattle.std.proofs.Common.{◌≡◌, ◌∙◌, ap, sym, subst, refl, ℕ, List, [], ◌∷◌, Option, Some, None, inl, inr}
use Rattle.lpt_apart.proofs.Finishing.{finished_runs}
use Rattle.lpt_c_end.specs.Contents.{memories_of, memories_told}
use Rattle.lpt_c_end.specs.declared.end.End.{End}
use Rattle.lpt_c_end.specs.declared.memories.LptMemory.{LptMemory}
use Rattle.lpt_c_pair.specs.Histories.{CarefulProgramsMayBeReset, CallDeed, History, Keeps, Makes, ResetEndsOfCKeepThePromise, Resets, SendingsLeaveTheState, Stays, AreCareful, CanGoOn, CanGoOnAll, IsCareful, again, but_other, call_made, gone_all, gone_on, just_begun, left_without, reset_by, call_stayed}
use Rattle.lpt_c_pair.specs.Pairs.{Call, Resume, IsDone, IsKept, end_of}
use Rattle.lpt_c_pair.specs.Runs.{CallTurn, Standing, standing_begun, stood, CanStand, CanTurnBy}
use Rattle.lpt_c_pair.proofs.Running.{ends_of_c_keep_the_promise}
use Rattle.lpt_c_pair.proofs.Withholding.{ends_of_c_withhold_nothing}
use Rattle.lpt_events.specs.declared.config.Config.{Config}
use Rattle.lpt_events.specs.declared.side.Side.{Side}
use Rattle.lpt_events.specs.declared.side.Side.TheVariants.{Ground, Craft}
use Rattle.lpt_node.specs.Nodes.{NodeData, message_at}
use Rattle.lpt_node.specs.Sending.{sent_of}
use Rattle.lpt_packet.specs.Names.{Name}
use Rattle.lpt_state.specs.Lastings.{lasting_of}
use Rattle.lpt_state.specs.Spellings.{state_spelled, spelling}

module _ (c : Config) (start : Standing) where
  -- two ends after these calls
  abbrev at : List CallTurn → Standing
  at ts = stood c start ts

  -- what each list of calls has of each end
  record IsGone (h : History) : Type 0 where
    can : CanStand c start h.calls
    ground : h.on_ground ≡ (at h.calls).on_ground
    craft : h.on_craft ≡ (at h.calls).on_craft
    ground_still : (at h.but_craft).on_ground ≡ (at h.calls).on_ground
    ground_back : (at h.but_both).on_ground ≡ (at h.but_ground).on_ground
    craft_still : (at h.but_ground).on_craft ≡ (at h.calls).on_craft
    craft_back : (at h.but_both).on_craft ≡ (at h.but_craft).on_craft

  makes : (h : History) (side : Side) (call : Call) (new : End)
      → IsGone h
      → CanStand c start (record { side = side; call = call; new = new } ∷ h.calls)
      → IsGone (call_made h side (record { side = side; call = call; new = new }))
  makes h Ground call new r can = record {
    can = can;
    ground = refl;
    craft = r.craft;
    ground_still = refl;
    ground_back = r.ground_back;
    craft_still = r.craft_still;
    craft_back = r.craft_back;
  }
  makes h Craft call new r can = record {
    can = can;
    ground = r.ground;
    craft = refl;
    ground_still = r.ground_still;
    ground_back = r.ground_back;
    craft_still = refl;
    craft_back = r.craft_back;
  }

  stays : (h : History) (side : Side) (call : Call) (new : End)
      → IsGone h
      → CanStand c start (record { side = side; call = call; new = new } ∷ h.calls)
      → IsGone (call_stayed h side (record { side = side; call = call; new = new }))
  stays h Ground call new r can = record {
    can = can;
    ground = refl;
    craft = r.craft;
    ground_still = refl;
    ground_back = refl;
    craft_still = r.craft_still;
    craft_back = r.craft_back;
  }
  stays h Craft call new r can = record {
    can = can;
    ground = r.ground;
    craft = refl;
    ground_still = r.ground_still;
    ground_back = r.ground_back;
    craft_still = refl;
    craft_back = refl;
  }

  resets : (h : History) (side : Side) (call : Call) (new : End)
      → IsGone h
      → CanStand c start (record { side = side; call = call; new = new } ∷ left_without h side)
      → IsGone (reset_by h side (record { side = side; call = call; new = new }))
  resets h Ground call new r can = record {
    can = can;
    ground = refl;
    craft = r.craft ∙ sym r.craft_still;
    ground_still = refl;
    ground_back = r.ground_back;
    craft_still = refl;
    craft_back = refl;
  }
  resets h Craft call new r can = record {
    can = can;
    ground = r.ground ∙ sym r.ground_still;
    craft = refl;
    ground_still = refl;
    ground_back = refl;
    craft_still = refl;
    craft_back = r.craft_back;
  }

  goes_on : (h : History) (x : CallDeed) → IsGone h → CanGoOn c start h x → IsGone (gone_on h x)
  goes_on h (Makes t) r can = makes h t.side t.call t.new r can
  goes_on h (Stays t) r can = stays h t.side t.call t.new r can
  goes_on h (Keeps Ground) r can = record {
    can = r.can;
    ground = r.ground;
    craft = r.craft;
    ground_still = r.ground_still;
    ground_back = r.ground_still;
    craft_still = refl;
    craft_back = refl;
  }
  goes_on h (Keeps Craft) r can = record {
    can = r.can;
    ground = r.ground;
    craft = r.craft;
    ground_still = refl;
    ground_back = refl;
    craft_still = r.craft_still;
    craft_back = r.craft_still;
  }
  goes_on h (Resets side config state ms content new) r can =
      let t : CallTurn = again side config state ms content new in
      resets h side t.call t.new r can

  all_go_on : (h : History) (xs : List CallDeed)
      → IsGone h
      → CanGoOnAll c start h xs
      → IsGone (gone_all h xs)
  all_go_on h [] r can = r
  all_go_on h (x ∷ xs) r can = goes_on (gone_all h xs) x (all_go_on h xs r can.0) can.1

pub reset_ends_of_c_keep_the_promise : ResetEndsOfCKeepThePromise
reset_ends_of_c_keep_the_promise c a b none nothing ms content g k xs good_g good_k new_g new_k
    can =
    let start : Standing = standing_begun c (memories_told content ms) a b g k in
    let h : History = gone_all (just_begun start) xs in
    let r : IsGone c start h = all_go_on c start (just_begun start) xs (record {
      can = tt;
      ground = refl;
      craft = refl;
      ground_still = refl;
      ground_back = refl;
      craft_still = refl;
      craft_back = refl;
    }) can in
    record {
      can = r.can;
      on_ground = r.ground;
      on_craft = r.craft;
      kept =
          ends_of_c_keep_the_promise c a b none nothing ms content g k h.calls good_g good_k new_g
          new_k r.can;
      whole =
          ends_of_c_withhold_nothing c a b none nothing ms content g k h.calls good_g good_k new_g
          new_k r.can;
    }

-- ---- careful programs

module _ (c : Config) (start : Standing) where
  -- all lists of calls can be made
  record AreAll (h : History) : Type 0 where
    gone : IsGone c start h
    ground : CanStand c start h.but_ground
    craft : CanStand c start h.but_craft
    neither : CanStand c start h.but_both

  -- an end that is made again asks for nothing of the other
  again_by : (s r : Standing) (side : Side) (config : Config) (state : List ℕ)
      (ms : List LptMemory) (content : List ℕ) (new : End)
      → end_of side s.on_ground s.on_craft ≡ end_of side r.on_ground r.on_craft
      → CanTurnBy c s side (Resume config state ms content) new
      → CanTurnBy c r side (Resume config state ms content) new
  again_by s r Ground config state ms content new same can =
      subst (λ (e : End). IsDone (Resume config state ms content) e new
      × IsKept c e config state (memories_of e.side ms content)) same can
  again_by s r Craft config state ms content new same can =
      subst (λ (e : End). IsDone (Resume config state ms content) e new
      × IsKept c e config state (memories_of e.side ms content)) same can

  careful_makes : (h : History) (side : Side) (call : Call) (new : End)
      → AreAll h
      → CanTurnBy c (at c start h.calls) side call new
      × CanTurnBy c (at c start (but_other h side)) side call new
      → AreAll (call_made h side (record { side = side; call = call; new = new }))
  careful_makes h Ground call new r can = record {
    gone = makes c start h Ground call new r.gone (r.gone.can, can.0);
    ground = r.ground;
    craft = (r.craft, can.1);
    neither = r.neither;
  }
  careful_makes h Craft call new r can = record {
    gone = makes c start h Craft call new r.gone (r.gone.can, can.0);
    ground = (r.ground, can.1);
    craft = r.craft;
    neither = r.neither;
  }

  careful_stays : (h : History) (side : Side) (call : Call) (new : End)
      → AreAll h
      → CanTurnBy c (at c start h.calls) side call new
      × CanTurnBy c (at c start h.but_ground) side call new
      × CanTurnBy c (at c start h.but_craft) side call new
      × CanTurnBy c (at c start h.but_both) side call new
      → AreAll (call_stayed h side (record { side = side; call = call; new = new }))
  careful_stays h Ground call new r can = record {
    gone = stays c start h Ground call new r.gone (r.gone.can, can.0);
    ground = (r.ground, can.1);
    craft = (r.craft, can.2);
    neither = (r.neither, can.3);
  }
  careful_stays h Craft call new r can = record {
    gone = stays c start h Craft call new r.gone (r.gone.can, can.0);
    ground = (r.ground, can.1);
    craft = (r.craft, can.2);
    neither = (r.neither, can.3);
  }

  careful : (h : History) (x : CallDeed)
      → AreAll h
      → IsCareful c start h x
      → AreAll (gone_on h x) × CanGoOn c start h x
  careful h (Makes t) r can =
      (careful_makes h t.side t.call t.new r can, (r.gone.can, can.0))
  careful h (Stays t) r can = (careful_stays h t.side t.call t.new r can, (r.gone.can, can.0))
  careful h (Keeps Ground) r can = (
    record {
      gone = goes_on c start h (Keeps Ground) r.gone tt;
      ground = r.gone.can;
      craft = r.craft;
      neither = r.craft;
    },
    tt,
  )
  careful h (Keeps Craft) r can = (
    record {
      gone = goes_on c start h (Keeps Craft) r.gone tt;
      ground = r.ground;
      craft = r.gone.can;
      neither = r.ground;
    },
    tt,
  )
  careful h (Resets Ground config state ms content new) r can = (
    record {
      gone =
          goes_on c start h (Resets Ground config state ms content new) r.gone (r.ground, can);
      ground = r.ground;
      craft = (
        r.neither,
        again_by (at c start h.but_ground) (at c start h.but_both) Ground config state ms content
            new (sym r.gone.ground_back) can,
      );
      neither = r.neither;
    },
    (r.ground, can),
  )
  careful h (Resets Craft config state ms content new) r can = (
    record {
      gone = goes_on c start h (Resets Craft config state ms content new) r.gone (r.craft, can);
      ground = (
        r.neither,
        again_by (at c start h.but_craft) (at c start h.but_both) Craft config state ms content
            new (sym r.gone.craft_back) can,
      );
      craft = r.craft;
      neither = r.neither;
    },
    (r.craft, can),
  )

  all_careful : (h : History) (xs : List CallDeed)
      → AreAll h
      → AreCareful c start h xs
      → AreAll (gone_all h xs) × CanGoOnAll c start h xs
  all_careful h [] r can = (r, tt)
  all_careful h (x ∷ xs) r can =
      let rest = all_careful h xs r can.0 in
      let now = careful (gone_all h xs) x rest.0 can.1 in
      (now.0, (rest.1, now.1))

pub careful_programs_may_be_reset : CarefulProgramsMayBeReset
careful_programs_may_be_reset c start xs can =
    (all_careful c start (just_begun start) xs (record {
      gone = record {
        can = tt;
        ground = refl;
        craft = refl;
        ground_still = refl;
        ground_back = refl;
        craft_still = refl;
        craft_back = refl;
      };
      ground = tt;
      craft = tt;
      neither = tt;
    }) can).1

-- ---- what stays

-- a part leaves what outlasts an end
part_leaves : (s : Side) (c : Config) (d : NodeData) (name : Name) (k : ℕ) (o : Option (List ℕ))
    → lasting_of (sent_of s c d name k o).0 ≡ lasting_of d
part_leaves s c d name k None = refl
part_leaves s c d name k (Some m) = refl

-- an end of the same side and configuration has the same state where that is as it was
same_state : (e new : End)
    → new.side ≡ e.side
    → new.config ≡ e.config
    → lasting_of new.node.at ≡ lasting_of e.node.at
    → state_spelled new.node ≡ state_spelled e.node
same_state e new side config lasting =
    (λ i. spelling
    ((new.same_side ∙ side ∙ sym e.same_side) i)
    ((new.same_config ∙ config ∙ sym e.same_config) i) (lasting i))

pub sendings_leave_the_state : SendingsLeaveTheState
sendings_leave_the_state e new name k source flags service subtype body (inl done) =
    same_state e new done.1.fixed.side done.1.fixed.config
    (ap (λ (d : NodeData). lasting_of d) done.1.node
    ∙ part_leaves e.side e.config e.node.at name k (message_at e.node.at name))
sendings_leave_the_state e new name k source flags service subtype body (inr (inl done)) =
    same_state e new done.1.fixed.side done.1.fixed.config
    (ap (λ (d : NodeData). lasting_of d) done.1.node)
sendings_leave_the_state e new name k source flags service subtype body (inr (inr (inl done))) =
    same_state e new done.1.fixed.side done.1.fixed.config
    (ap (λ (d : NodeData). lasting_of d) done.1.node
    ∙ (λ i. record (lasting_of e.node.at) { sent = finished_runs e.node.at.sending name i }))
sendings_leave_the_state e new name k source flags service subtype body (inr (inr (inr done))) =
    same_state e new done.1.fixed.side done.1.fixed.config
    (ap (λ (d : NodeData). lasting_of d) done.1.node)

-- Programs that let nothing be handed over before it was kept may be reset at any time.
use Rattle.std.proofs.Common.{◌≡◌, ap, sym, subst, ℕ, List, [], ◌∷◌}
use Rattle.lpt_c_end.specs.Contents.{memories_of}
use Rattle.lpt_c_end.specs.Sizes.{kept_as}
use Rattle.lpt_c_end.specs.declared.end.End.{End}
use Rattle.lpt_c_end.specs.declared.sizing.LptSize.{LptSize}
use Rattle.lpt_c_pair.specs.Pairs.{Resume, ResumeSized, IsDone, IsKept}
use Rattle.lpt_c_pair.specs.Programs.{Act, Program, Puts, program_after, came_by, put_told, CanAct, CanActAll}
use Rattle.lpt_c_pair.specs.Resets.{CarefulMachinesMayBeReset, ActDeed, Does, Keeps, Lived, ResetsCraft, ResetsGround, Stays, AreCareful, CanLive, CanLiveAll, IsCareful, actor, again_craft, again_ground, but_other, did, just_begun, lived_after, lived_all, machines_of}
use Rattle.lpt_c_pair.proofs.Deleting.{Aboard, IsLived, aboard, begun_so, lives}
use Rattle.lpt_events.specs.declared.config.Config.{Config}
use Rattle.lpt_events.specs.declared.side.Side.{Side}
use Rattle.lpt_events.specs.declared.side.Side.TheVariants.{Ground, Craft}
use Rattle.lpt_memory.specs.Memories.{Contents}

module _ (c : Config) (start : Program) where
  -- all lists of acts can be done
  record AreAll (l : Lived) : Type 0 where
    gone : IsLived c start l
    ground : CanActAll c start l.but_ground
    craft : CanActAll c start l.but_craft
    neither : CanActAll c start l.but_both

  -- an end that is made again asks for nothing of the other
  again_on_ground : (p q : Program) (config : Config) (state : List ℕ) (new : End)
      → p.ends.on_ground ≡ q.ends.on_ground
      → CanAct c p (again_ground config state new)
      → CanAct c q (again_ground config state new)
  again_on_ground p q config state new same can = (
    subst (λ (e : End). IsDone (Resume config state [] []) e new
        × IsKept c e config state (memories_of e.side [] [])) same can.0,
    tt,
  )

  again_on_craft : (p q : Program) (config : Config) (state : List ℕ) (sizes : List LptSize)
      (new : End)
      → aboard (machines_of p) ≡ aboard (machines_of q)
      → CanAct c p (again_craft config state sizes new)
      → CanAct c q (again_craft config state sizes new)
  again_on_craft p q config state sizes new same can = (
    subst (λ (a : Aboard). IsDone (ResumeSized config state sizes) a.end new
        × IsKept c a.end config state (kept_as sizes)) same can.0,
    subst (λ (a : Aboard). a.ahead ≡ []) same can.1,
  )

  puts_on : (p q : Program) (ms : Contents)
      → aboard (machines_of p) ≡ aboard (machines_of q)
      → CanAct c p (Puts ms)
      → CanAct c q (Puts ms)
  puts_on p q ms same can =
      subst (λ (a : Aboard). put_told a.owed ms ≡ put_told a.owed a.memories) same can

  careful_does : (l : Lived) (side : Side) (x : Act)
      → AreAll l
      → IsLived c start (did l side x)
      → CanAct c (came_by c start (but_other l side)) x
      → AreAll (did l side x)
  careful_does l Ground x r gone can =
      record { gone = gone; ground = r.ground; craft = (r.craft, can); neither = r.neither }
  careful_does l Craft x r gone can =
      record { gone = gone; ground = (r.ground, can); craft = r.craft; neither = r.neither }

  careful : (l : Lived) (x : ActDeed)
      → AreAll l
      → IsCareful c start l x
      → AreAll (lived_after c start l x) × CanLive c start l x
  careful l (Does x) r can =
      (careful_does l (actor x) x r (lives c start l (Does x) r.gone can.0) can.1, can.0)
  careful l (Stays x) r can = (
    record {
      gone = lives c start l (Stays x) r.gone can.0;
      ground = (r.ground, can.1);
      craft = (r.craft, can.2);
      neither = (r.neither, can.3);
    },
    can.0,
  )
  careful l (Keeps Ground) r can = (
    record {
      gone = lives c start l (Keeps Ground) r.gone tt;
      ground = r.gone.can;
      craft = r.craft;
      neither = r.craft;
    },
    tt,
  )
  careful l (Keeps Craft) r can = (
    record {
      gone = lives c start l (Keeps Craft) r.gone tt;
      ground = r.ground;
      craft = r.gone.can;
      neither = r.ground;
    },
    tt,
  )
  careful l (ResetsGround config state new) r can = (
    record {
      gone = lives c start l (ResetsGround config state new) r.gone (r.ground, can);
      ground = r.ground;
      craft = (
        r.neither,
        again_on_ground (came_by c start l.but_ground) (came_by c start l.but_both) config state
            new (sym r.gone.ground_back) can,
      );
      neither = r.neither;
    },
    (r.ground, can),
  )
  careful l (ResetsCraft config state sizes ms new) r can =
      let p : Program = came_by c start l.but_craft in
      let q : Program = came_by c start l.but_both in
      let same : aboard (machines_of p) ≡ aboard (machines_of q) = sym r.gone.craft_back in
      let put : aboard (machines_of (program_after c p (Puts ms)))
      ≡ aboard (machines_of (program_after c q (Puts ms))) =
      ap (λ (a : Aboard). record a { memories = ms }) same in (
        record {
          gone =
              lives c start l (ResetsCraft config state sizes ms new) r.gone
              ((r.craft, can.0), can.1);
          ground = (
            (r.neither, puts_on p q ms same can.0),
            again_on_craft (program_after c p (Puts ms)) (program_after c q (Puts ms)) config state
                sizes new put
                can.1,
          );
          craft = r.craft;
          neither = r.neither;
        },
        ((r.craft, can.0), can.1),
      )

  all_careful : (l : Lived) (xs : List ActDeed)
      → AreAll l
      → AreCareful c start l xs
      → AreAll (lived_all c start l xs) × CanLiveAll c start l xs
  all_careful l [] r can = (r, tt)
  all_careful l (x ∷ xs) r can =
      let rest = all_careful l xs r can.0 in
      let now = careful (lived_all c start l xs) x rest.0 can.1 in
      (now.0, (rest.1, now.1))

pub careful_machines_may_be_reset : CarefulMachinesMayBeReset
careful_machines_may_be_reset c start xs can =
    (all_careful c start (just_begun start) xs
    (record { gone = begun_so c start; ground = tt; craft = tt; neither = tt }) can).1

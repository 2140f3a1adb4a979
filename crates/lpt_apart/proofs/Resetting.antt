-- Two ends that free names by lines free them in order, whenever their machines are reset.
use Rattle.std.proofs.Common.{◌≡◌, sym, subst, refl, false, inr, List, [], ◌∷◌, Option, Some, None}
use Rattle.std.specs.Prelude.{Contains}
use Rattle.lpt_packet.specs.declared.direction.Direction.{Direction}
use Rattle.lpt_packet.specs.declared.direction.Direction.TheVariants.{Up}
use Rattle.lpt_packet.specs.Names.{Name}
use Rattle.lpt_events.specs.Sides.{sender_side}
use Rattle.lpt_events.specs.declared.config.Config.{Config}
use Rattle.lpt_events.specs.declared.side.Side.{Side}
use Rattle.lpt_events.specs.declared.side.Side.TheVariants.{Ground, Craft}
use Rattle.lpt_apart.specs.Ends.{after_all, Do, Move, Pair, Accept, Finish, Plain, Send, Step}
use Rattle.lpt_apart.specs.Deeds.{Kept}
use Rattle.lpt_apart.specs.Resets.{CanLiveAll, Deed, Lived, Make, just_written, left_without, made_forgotten, side_of}
use Rattle.lpt_apart.specs.Resets as kept
use Rattle.lpt_apart.proofs.Deleting.{reset_ends_keep_the_promise}
use Rattle.lpt_apart.proofs.Finishing.{sendings_are_forgotten}
use Rattle.lpt_apart.specs.Freeing.{Act, Comes, Hears, Makes, Says, Sends, part_line}
use Rattle.lpt_apart.specs.Lines.{answer, Line}
use Rattle.lpt_apart.specs.ResetsFreeing.{CanDo, CanGoOn, CanGoOnAll, Doing, Does, Forgets, IsForgotten, Keeps, LinesFreeThroughResets, Resets, Story, done_by, gone_all, gone_on, machines, speaker, with_deed}
use Rattle.lpt_apart.proofs.Holding.{Holds, holds_of}
use Rattle.lpt_apart.proofs.Sides.{IsOf, IsSteady, answers_of, answers_same, can_same, craft_itself, ground_itself, hearer, says_same}
use Rattle.lpt_apart.proofs.Talking.{AllNext, IsNext, IsSound, answers, said_holds, sound_none}
use Rattle.lpt_apart.proofs.Lists.{IsTold, forgets, forgets_next, in_all, keeps, makes, other_without, part_holds, resets, same_back, same_other, says, sound_other, steady}

forgotten_steady : (x : Step) → IsForgotten x → IsSteady x
forgotten_steady (Plain source flags service subtype body) is = tt
forgotten_steady (Finish d name) is = tt
forgotten_steady x is = absurd is

-- a restart forgets these steps
forgotten : (c : Config) (p : Pair) (x : Step) → IsForgotten x → kept.IsForgotten c p (Do x)
forgotten c p (Plain source flags service subtype body) is =
    (sendings_are_forgotten c p Up (record { source = 0; id = 0 }) 0 source flags service subtype
    body).1
forgotten c p (Finish d name) is = (sendings_are_forgotten c p d name 0 0 0 0 0 []).2
forgotten c p x is = absurd is

module _ (c : Config) (k : Kept) where
  -- the ends after what a reset of a side leaves
  abbrev left : Story → Side → Pair
  left s side = after_all c k.pair (left_without (machines c k s.deeds) side)

  -- deeds can be done, and what was said holds
  record IsStory (ds : List Deed) (ls : List Line) : Type 0 where
    can : CanLiveAll c k.pair (just_written c k) ds
    told : IsTold c k.pair (machines c k ds) ls

  -- the machines as they are
  abbrev after : List Deed → Lived
  after ds = machines c k ds

  -- a move of whatever end
  does : (ds : List Deed) (ls : List Line) (x : Move)
      → IsStory ds ls
      → IsNext c (after_all c k.pair (after ds).moves) x
      → IsNext c (after_all c k.pair (other_without c k.pair (after ds) (side_of x))) x
      → IsStory (Make x ∷ ds) ls
  does ds ls x s next beside = record {
    can = (s.can, next.can);
    told = makes c k.pair (after ds) ls x (side_of x) refl s.told next beside;
  }

  answers_so : (ds : List Deed) (ls : List Line) (side : Side) (o : Option Move)
      → IsOf side o
      → IsStory ds ls
      → AllNext c (after_all c k.pair (after ds).moves) o
      → AllNext c (after_all c k.pair (other_without c k.pair (after ds) side)) o
      → IsStory (with_deed o ds) ls
  answers_so ds ls side None of s next beside = s
  answers_so ds ls side (Some x) of s next beside =
      does ds ls x s next
      (subst (λ (y : Side). IsNext c
      (after_all c k.pair (other_without c k.pair (after ds) y)) x) (sym of) beside)

  hears : (ds : List Deed) (ls : List Line) (m : Line)
      → IsStory ds ls
      → Contains ls m
      → IsStory (with_deed
      (answer (after_all c k.pair (after ds).moves).ends (after ds).moves m) ds) ls
  hears ds ls m s has =
      let l : Lived = after ds in
      let side : Side = hearer m in
      let xs : List Move = l.moves in
      let ys : List Move = other_without c k.pair l side in
      let p : Pair = after_all c k.pair xs in
      let q : Pair = after_all c k.pair ys in
      let sound = s.told.all in
      let beside : IsSound c k.pair ys ls = sound_other c k.pair l ls side s.told in
      answers_so ds ls side (answer p.ends xs m) (answers_of p.ends xs m) s
      (answers c p xs m sound.turns (holds_of p xs ls m sound.said has))
      (subst (λ (o : Option Move). AllNext c q o)
      (sym (answers_same c k.pair m xs ys (same_other c k.pair l ls side s.told)))
      (answers c q ys m beside.turns (holds_of q ys ls m beside.said has)))

  does_so : (ds : List Deed) (ls : List Line) (x : Act)
      → IsStory ds ls
      → CanDo c k.pair (after ds) ls x
      → IsStory (done_by c k.pair (after ds) (record { deeds = ds; said = ls }) x).deeds
      (done_by c k.pair (after ds) (record { deeds = ds; said = ls }) x).said
  does_so ds ls (Makes x) s can =
      let l : Lived = after ds in
      let side : Side = side_of (Do x) in
      does ds ls (Do x) s (record { can = can.1; first = tt })
      (record {
        can = can_same c k.pair x l.moves (other_without c k.pair l side) (steady c k.pair x can.0)
            (same_other c k.pair l ls side s.told) can.1;
        first = tt;
      })
  does_so ds ls (Sends d name n) s can =
      let l : Lived = after ds in
      let x : Move = Do (Send d name n) in
      let own : List Move = left_without l (sender_side d) in
      let forgotten =
      sendings_are_forgotten c (after_all c k.pair own) d name n 0 0 0 0 [] in
      let t = s.told in
      record {
        can = (s.can, (can.0, forgotten.0));
        told =
            says c k.pair (made_forgotten c l x) ls
            (part_line c (after_all c k.pair l.moves) l.moves d name n)
            (forgets c k.pair l ls x (sender_side d) refl t
            (forgets_next c k.pair l ls (Send d name n) tt t can.0 can.1.can))
            (part_holds c k.pair l ls d name n t can.1);
      }
  does_so ds ls (Says m) s can =
      let l : Lived = after ds in
      let side : Side = speaker m in
      let own : List Move = left_without l side in
      let t = s.told in
      let it =
      in_all c k.pair (λ (xs : List Move). Holds (after_all c k.pair xs) xs m) l side
      (said_holds (after_all c k.pair l.moves) l.moves m can.0)
      (said_holds (after_all c k.pair own) own m can.1)
      (says_same c k.pair m l.moves (other_without c k.pair l side)
      (same_other c k.pair l ls side t) can.0)
      (says_same c k.pair m own l.but_both (same_back c k.pair l ls side t) can.1) in
      record {
        can = s.can;
        told = says c k.pair l ls m t
            (record { all = it.0; no_ground = it.1; no_craft = it.2; no_both = it.3 });
      }
  does_so ds ls (Comes d b) s can =
      does ds ls (Do (Accept d b)) s (record { can = inr can; first = tt })
      (record { can = inr can; first = tt })
  does_so ds ls (Hears m) s can = hears ds ls m s can

  goes_on : (s : Story) (x : Doing)
      → IsStory s.deeds s.said
      → CanGoOn c k s x
      → IsStory (gone_on c k s x).deeds (gone_on c k s x).said
  goes_on s (Does x) it can = does_so s.deeds s.said x it can
  goes_on s (Forgets x) it can = record {
    can = (it.can, (can.1, forgotten c (left s (side_of (Do x))) x can.0));
    told =
        forgets c k.pair (after s.deeds) s.said (Do x) (side_of (Do x)) refl it.told
        (forgets_next c k.pair (after s.deeds) s.said x (forgotten_steady x can.0) it.told can.1
        can.2);
  }
  goes_on s (Keeps side) it can =
      record { can = (it.can, can); told = keeps c k.pair (after s.deeds) s.said side it.told }
  goes_on s (Resets Ground d) it can = record {
    can = (it.can, (it.told.no_ground.can, can.1));
    told = resets c k.pair (after s.deeds) s.said Ground d it.told;
  }
  goes_on s (Resets Craft d) it can = record {
    can = (it.can, ((it.told.no_craft.can, can.0), can.1));
    told = resets c k.pair (after s.deeds) s.said Craft d it.told;
  }

  goes_all : (xs : List Doing)
      → ((d : Direction) (name : Name) → k.pair.freed d name ≡ false)
      → CanGoOnAll c k xs
      → IsStory (gone_all c k xs).deeds (gone_all c k xs).said
  goes_all [] none can = record {
    can = tt;
    told = record {
      all = sound_none c k.pair none;
      no_ground = sound_none c k.pair none;
      no_craft = sound_none c k.pair none;
      no_both = sound_none c k.pair none;
      ground = ground_itself c k.pair [];
      ground_back = ground_itself c k.pair [];
      craft = craft_itself c k.pair [];
      craft_back = craft_itself c k.pair [];
    };
  }
  goes_all (x ∷ xs) none can = goes_on (gone_all c k xs) x (goes_all xs none can.0) can.1

-- what is left of all that was done is a run of two ends apart
pub lines_free_through_resets : LinesFreeThroughResets
lines_free_through_resets c first g t k xs good_g good_t new ground craft can =
    let it =
    goes_all c k xs (λ d name i. (new i).freed d name) can in
    record {
      can = it.can;
      left =
          reset_ends_keep_the_promise c first g t k (gone_all c k xs).deeds good_g good_t new
          ground craft it.can;
    }

-- What came whole to two ends behind handles was released.
use Rattle.std.proofs.Common.{◌≡◌, ◌∙◌, ap, sym, subst, refl, ℕ, List, [], ◌∷◌, ◌++◌}
use Rattle.lpt_apart.specs.Ends.{after_all, Pair, Move, pair_after}
use Rattle.lpt_apart.specs.TwoEnds.{later, no_pair_later, CanAll, Own, own_config, CanMove, came_since, WithholdsNothing}
use Rattle.lpt_apart.proofs.Clocks.{ends_with_clocks_withhold_nothing}
use Rattle.lpt_c_end.specs.Contents.{memories_told}
use Rattle.lpt_c_end.specs.declared.end.End.{End}
use Rattle.lpt_c_pair.specs.Pairs.{AreEndsOf, Call, ExecuteGiven, InEnd, moves}
use Rattle.lpt_c_pair.specs.Programs.{Program, Act, Calls, Writes, Gives, Puts, Settles, TakesBack, program_started, came_by, CanActAll}
use Rattle.lpt_c_pair.specs.Runs.{CallTurn, Standing, standing_begun, turned_by, CanTurnBy, stood, CanStand}
use Rattle.lpt_c_pair.specs.Withheld.{moves_of, turns_of, EndsOfCWithholdNothing, ProgramsWithholdNothing}
use Rattle.lpt_c_pair.proofs.Calls.{calls_are_moves}
use Rattle.lpt_c_pair.proofs.Programs.{IsKeeping, all_acts, starts, vow_of}
use Rattle.lpt_c_pair.proofs.Running.{begins}
use Rattle.lpt_events.specs.Configs.{IsConfig}
use Rattle.lpt_events.specs.declared.config.Config.{Config}
use Rattle.lpt_events.specs.declared.side.Side.{Side}
use Rattle.lpt_events.specs.declared.side.Side.TheVariants.{Ground, Craft}
use Rattle.lpt_memory.specs.Memories.{Contents}

-- ---- moves behind others

module _ (c : Config) (p : Pair) where
  after_more : (xs ys : List Move)
      → after_all c p (xs ++ ys) ≡ after_all c (after_all c p ys) xs
  after_more [] ys = refl
  after_more (x ∷ xs) ys = ap (λ (q : Pair). pair_after c q x) (after_more xs ys)

  can_more : (xs ys : List Move)
      → CanAll c p ys
      → CanAll c (after_all c p ys) xs
      → CanAll c p (xs ++ ys)
  can_more [] ys before can = before
  can_more (x ∷ xs) ys before can = (
    can_more xs ys before can.0,
    subst (λ (q : Pair). CanMove c q x) (sym (after_more xs ys)) can.1,
  )

  -- the ends are those after these moves
  record IsLed (s : Standing) (xs : List Move) : Type 0 where
    at : s.pair ≡ after_all c p xs
    can : CanAll c p xs
    ends : AreEndsOf c s.pair s.on_ground s.on_craft

  led_on : (s : Standing) (side : Side) (call : Call) (new : End) (xs : List Move)
      → IsLed s xs
      → CanTurnBy c s side call new
      → IsLed (turned_by c s side call new) (moves side call ++ xs)
  led_on s Ground call new xs r can =
      let w = (calls_are_moves c s.pair s.on_ground s.on_craft r.ends call).0 new can.0 can.1 in
      record {
        at =
            ap (λ (q : Pair). after_all c q (moves Ground call)) r.at
            ∙ sym (after_more (moves Ground call) xs);
        can =
            can_more (moves Ground call) xs r.can
            (subst (λ (q : Pair). CanAll c q (moves Ground call)) r.at w.0);
        ends = w.1;
      }
  led_on s Craft call new xs r can =
      let w = (calls_are_moves c s.pair s.on_ground s.on_craft r.ends call).1 new can.0 can.1 in
      record {
        at =
            ap (λ (q : Pair). after_all c q (moves Craft call)) r.at
            ∙ sym (after_more (moves Craft call) xs);
        can =
            can_more (moves Craft call) xs r.can
            (subst (λ (q : Pair). CanAll c q (moves Craft call)) r.at w.0);
        ends = w.1;
      }

  all_led : (s : Standing) (ts : List CallTurn)
      → IsLed s []
      → CanStand c s ts
      → IsLed (stood c s ts) (moves_of ts)
  all_led s [] r can = r
  all_led s (t ∷ ts) r can =
      led_on (stood c s ts) t.side t.call t.new (moves_of ts) (all_led s ts r can.0) can.1

-- whatever calls were made of two ends that begin so
withhold : (c : Config) (first : Contents) (a : ℕ) (b : Own) (g k : End) (ts : List CallTurn)
    → IsConfig (later a c)
    → IsConfig (own_config b c)
    → AreEndsOf c (no_pair_later c first a b) g k
    → CanStand c (standing_begun c first a b g k) ts
    → WithholdsNothing c (stood c (standing_begun c first a b g k) ts).pair.ends.log
    (came_since c (no_pair_later c first a b) (moves_of ts))
withhold c first a b g k ts good_g good_k ends can =
    let p : Pair = no_pair_later c first a b in
    let r = all_led c p (standing_begun c first a b g k) ts
    (record { at = refl; can = tt; ends = ends }) can in
    subst (λ (q : Pair). WithholdsNothing c q.ends.log (came_since c p (moves_of ts))) (sym r.at)
    (ends_with_clocks_withhold_nothing c first a b (moves_of ts) good_g good_k r.can)

pub ends_of_c_withhold_nothing : EndsOfCWithholdNothing
ends_of_c_withhold_nothing c a b none nothing ms content g k ts good_g good_k new_g new_k can =
    withhold c (memories_told content ms) a b g k ts good_g good_k
    (begins c a b none nothing InEnd (memories_told content ms) g k good_g good_k new_g new_k).ends
    can

-- ---- a program

-- the ends of a program stand where its calls lead
record AreTurned (c : Config) (p : Program) (xs : List Act) : Type 0 where
  can : CanStand c p.ends (turns_of xs)
  is : (came_by c p xs).ends ≡ stood c p.ends (turns_of xs)

module _ (c : Config) (first : Contents) (p : Program) (begun : IsKeeping c first p) where
  turned : (xs : List Act) → CanActAll c p xs → AreTurned c p xs
  turned [] can = record { can = tt; is = refl }
  turned (Calls t ∷ xs) can =
      let r : AreTurned c p xs = turned xs can.0 in
      record {
        can = (
          r.can,
          subst (λ (s : Standing). CanTurnBy c s t.side t.call t.new) r.is can.1.0,
        );
        is = ap (λ (s : Standing). turned_by c s t.side t.call t.new) r.is;
      }
  turned (Writes t ∷ xs) can =
      let r : AreTurned c p xs = turned xs can.0 in record { can = r.can; is = r.is }
  turned (Gives octets owed new ∷ xs) can =
      let r : AreTurned c p xs = turned xs can.0 in
      let w = vow_of c (came_by c p xs) octets owed new (all_acts c first p xs begun can.0).own
      can.1 in
      record {
        can = (
          r.can,
          subst (λ (s : Standing). CanTurnBy c s Craft (ExecuteGiven octets) new) r.is
              (can.1.0, w.vow),
        );
        is = ap (λ (s : Standing). turned_by c s Craft (ExecuteGiven octets) new) r.is;
      }
  turned (Puts ms ∷ xs) can =
      let r : AreTurned c p xs = turned xs can.0 in record { can = r.can; is = r.is }
  turned (Settles ∷ xs) can =
      let r : AreTurned c p xs = turned xs can.0 in record { can = r.can; is = r.is }
  turned (TakesBack ∷ xs) can =
      let r : AreTurned c p xs = turned xs can.0 in record { can = r.can; is = r.is }

pub programs_withhold_nothing : ProgramsWithholdNothing
programs_withhold_nothing c a b none nothing sizes first g k xs good_g good_k same new_g new_k
    can =
    let p : Program = program_started c first a b g k in
    let s = starts c a b none nothing sizes first g k good_g good_k same new_g new_k in
    let r : AreTurned c p xs = turned c first p s xs can in
    subst (λ (s : Standing). WithholdsNothing c s.pair.ends.log
    (came_since c (no_pair_later c first a b) (moves_of (turns_of xs)))) (sym r.is)
    (withhold c first a b g k (turns_of xs) good_g good_k s.stands.ends r.can)

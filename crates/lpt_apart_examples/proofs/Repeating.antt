-- The run in which a name is freed by lines, some of which come again, computed by the definitions.
use Rattle.std.proofs.Common.{◌≡◌, ◌∙◌, ap, sym, subst, refl, ℕ, Bool, true, false, if◌then◌else◌, not, List, [], ◌∷◌, Option, Some, None, is_some, reverse, arith}
use Rattle.std.specs.FinMap as maps
use Rattle.lpt_packet.specs.declared.direction.Direction.TheVariants.{Up}
use Rattle.lpt_packet.specs.Names.{name_cmp, IsName}
use Rattle.lpt_packet.specs.Numbers.{IsOctets}
use Rattle.lpt_acts.specs.Acts as act
use Rattle.lpt_events.specs.declared.side.Side.TheVariants.{Ground}
use Rattle.lpt_ledger.specs.Marks.{Mark, Marks, Opened}
use Rattle.lpt_ledger.specs.States.{state_at, state_of, closed_state}
use Rattle.lpt_ledger.specs.declared.state.State.TheVariants.{Closed, Open}
use Rattle.lpt_ledger.proofs.ClosingLemmas.{state_at-all_closed}
use Rattle.lpt_node.specs.Nodes.{Messages, NodeData}
use Rattle.lpt_node.specs.Sending.{refusal_open_in, refusal_send_of, sent_of}
use Rattle.lpt_journal.proofs.MapLemmas.{get_insert, get_remove}
use Rattle.lpt_apart.specs.Ends.{after_all, Ends, Do, Free, Move, Restart, Retire, Send}
use Rattle.lpt_apart.specs.TwoEnds.{CanMove}
use Rattle.lpt_apart.specs.Ends as step
use Rattle.lpt_apart.specs.Freeing.{Act, CanAct, CanActAll, Hears, Makes, Says, Sends, Talk, with_act, with_acts, no_talk, with_answer}
use Rattle.lpt_apart.specs.Lines.{Finished, Freed, is_unheard, Line}
use Rattle.lpt_journal_examples.specs.Passes.{own, m20, m9, usual}
use Rattle.lpt_journal_examples.proofs.LegalRows.{usual_pass}
use Rattle.lpt_apart_examples.specs.Late.{before_first, before_late, before_second, first_part, FreesTooEarly, late_acts, late_moves, second_part, start}

-- ---- acts one behind the other

-- acts can be done, and come to this
pub record Comes (xs : List Act) (t : Talk) : Type 0 where
  pub can : CanActAll usual start xs
  pub are : with_acts usual start xs ≡ t

-- one more act
goes_on : (xs : List Act) (t : Talk) (x : Act) (u : Talk)
    → Comes xs t
    → CanAct usual start t x
    → with_act usual start t x ≡ u
    → Comes (x ∷ xs) u
goes_on xs t x u p can same = record {
  can = (p.can, subst (λ (s : Talk). CanAct usual start s x) (sym p.are) can);
  are = ap (λ (s : Talk). with_act usual start s x) p.are ∙ same;
}

-- what comes of moves and lines
abbrev pub talk : List Move → List Line → Talk
talk ms ls = record { moves = ms; said = ls }

-- ---- numbers

named : IsName (own 7)
named = record { source_fits = omega arith; id_fits = omega arith }

long_octets : IsOctets m20
long_octets = (usual_pass (act.Open Up (own 7) m20 ∷ []) refl).legal.1.in_range.1

short_octets : IsOctets m9
short_octets = (usual_pass (act.Open Up (own 7) m9 ∷ []) refl).legal.1.in_range.1

-- ---- nodes

-- two new ends
abbrev new : NodeData
new = start.ends.on_ground

-- ground once it has taken the first message
abbrev opened_first : NodeData
opened_first = (after_all usual start before_first).ends.on_ground

-- it has that
has_first : maps.get opened_first.sending.messages (own 7) ≡ Some m20
has_first = get_insert new.sending.messages (own 7) m20 (own 7)

-- once it was restarted behind the first part, the name is closed
shut : state_at (after_all usual start
    (Do (Restart Ground) ∷ Do (Send Up (own 7) 1) ∷ before_first)).ends.on_ground.sending.ledger
    (own 7)
    ≡ Closed
shut =
    state_at-all_closed
    (after_all usual start (Do (Send Up (own 7) 1) ∷ before_first)).ends.on_ground.sending.ledger
    (own 7)
    ∙ ap (λ (o : Option (List ℕ)). closed_state (state_at
    (sent_of Ground usual opened_first (own 7) 1 o).0.sending.ledger (own 7))) has_first
    ∙ ap (λ (o : Option Mark). closed_state (state_of o))
    (get_insert new.sending.ledger (own 7) Opened (own 7))

-- a name that was taken out of a ledger is free, so that a message can be opened
opens : (ledger : Marks) (messages : Messages) (limit n : ℕ)
    → maps.get ledger (own 7) ≡ None
    → maps.len messages ≡ 0
    → limit ≡ usual.outgoing
    → refusal_open_in usual limit (state_at ledger (own 7)) (maps.len messages) n
    ≡ refusal_open_in usual usual.outgoing (state_of None) 0 n
opens ledger messages limit n free none same =
    λ i. refusal_open_in usual (same i) (state_of (free i)) (none i) n

-- ---- the run

-- ground is finished with the name, and the spacecraft has freed it, in their first turn
abbrev pub finished : Line
finished = Finished Up (own 7) 0

abbrev pub freed : Line
freed = Freed Up (own 7) 0

-- the first message is opened, a part is sent, and ground is restarted
abbrev restarted : List Move
restarted = Do (Restart Ground) ∷ Do (Send Up (own 7) 1) ∷ before_first

begins : Comes (Makes (Restart Ground) ∷ Sends Up (own 7) 1 ∷ Makes (step.Open Up (own 7) m20) ∷ [])
    (talk restarted (first_part ∷ []))
begins =
    let opens_first : Comes (Makes (step.Open Up (own 7) m20) ∷ []) (talk before_first []) =
    goes_on [] no_talk (Makes (step.Open Up (own 7) m20)) (talk before_first [])
    (record { can = tt; are = refl }) (
      tt,
      (
        (named, long_octets),
        opens new.sending.ledger new.sending.messages new.outgoing 20
            (maps.get-empty name_cmp (own 7)) (maps.len-empty name_cmp (List ℕ)) refl,
      ),
    )
    refl in
    let sends : Comes (Sends Up (own 7) 1 ∷ Makes (step.Open Up (own 7) m20) ∷ [])
    (talk (Do (Send Up (own 7) 1) ∷ before_first) (first_part ∷ [])) =
    goes_on (Makes (step.Open Up (own 7) m20) ∷ []) (talk before_first []) (Sends Up (own 7) 1)
    (talk (Do (Send Up (own 7) 1) ∷ before_first) (first_part ∷ [])) opens_first
    ((named, omega arith), ap (refusal_send_of usual 1) has_first)
    refl in
    goes_on (Sends Up (own 7) 1 ∷ Makes (step.Open Up (own 7) m20) ∷ [])
    (talk (Do (Send Up (own 7) 1) ∷ before_first) (first_part ∷ [])) (Makes (Restart Ground))
    (talk restarted (first_part ∷ [])) sends (tt, tt) refl

-- the name is freed at its receiver, once
frees : Comes (Hears finished ∷ Hears finished ∷ Says finished ∷ Makes (Restart Ground)
    ∷ Sends Up (own 7) 1 ∷ Makes (step.Open Up (own 7) m20) ∷ [])
    (talk (Free Up (own 7) ∷ restarted) (finished ∷ first_part ∷ []))
frees =
    let before : List Act =
    Makes (Restart Ground) ∷ Sends Up (own 7) 1 ∷ Makes (step.Open Up (own 7) m20) ∷ [] in
    let said : List Line = finished ∷ first_part ∷ [] in
    let ends : Ends = (after_all usual start restarted).ends in
    let says : Comes (Says finished ∷ before) (talk restarted said) =
    goes_on before (talk restarted (first_part ∷ [])) (Says finished) (talk restarted said) begins
    (named, refl, shut) refl in
    let none : is_some (maps.get ends.on_craft.receiving.entries (own 7)) ≡ false =
    ap is_some (maps.get-empty name_cmp (own 7)) in
    let once : Comes (Hears finished ∷ Says finished ∷ before)
    (talk (Free Up (own 7) ∷ restarted) said) =
    goes_on (Says finished ∷ before) (talk restarted said) (Hears finished)
    (talk (Free Up (own 7) ∷ restarted) said) says (0, omega arith, refl)
    (ap (λ (b : Bool). talk (with_answer (if not b then Some (Free Up (own 7)) else None)
    restarted) said) none) in
    goes_on (Hears finished ∷ Says finished ∷ before) (talk (Free Up (own 7) ∷ restarted) said)
    (Hears finished) (talk (Free Up (own 7) ∷ restarted) said) once (0, omega arith, refl) refl

-- and at its sender, once
abbrev retired : List Move
retired = Do (Retire Up (own 7)) ∷ Free Up (own 7) ∷ restarted

abbrev first_acts : List Act
first_acts =
    Hears freed ∷ Hears freed ∷ Says freed ∷ Hears finished ∷ Hears finished ∷ Says finished
    ∷ Makes (Restart Ground) ∷ Sends Up (own 7) 1 ∷ Makes (step.Open Up (own 7) m20) ∷ []

retires : Comes first_acts (talk retired (freed ∷ finished ∷ first_part ∷ []))
retires =
    let before : List Act =
    Hears finished ∷ Hears finished ∷ Says finished ∷ Makes (Restart Ground)
    ∷ Sends Up (own 7) 1 ∷ Makes (step.Open Up (own 7) m20) ∷ [] in
    let said : List Line = freed ∷ finished ∷ first_part ∷ [] in
    let says : Comes (Says freed ∷ before) (talk (Free Up (own 7) ∷ restarted) said) =
    goes_on before (talk (Free Up (own 7) ∷ restarted) (finished ∷ first_part ∷ [])) (Says freed)
    (talk (Free Up (own 7) ∷ restarted) said) frees (named, omega arith) refl in
    let once : Comes (Hears freed ∷ Says freed ∷ before) (talk retired said) =
    goes_on (Says freed ∷ before) (talk (Free Up (own 7) ∷ restarted) said) (Hears freed)
    (talk retired said) says (0, omega arith, refl) refl in
    goes_on (Hears freed ∷ Says freed ∷ before) (talk retired said) (Hears freed)
    (talk retired said) once (0, omega arith, refl) refl

-- ground once it has taken the second message
abbrev opened_second : NodeData
opened_second = (after_all usual start before_second).ends.on_ground

has_second : maps.get opened_second.sending.messages (own 7) ≡ Some m9
has_second =
    get_insert (after_all usual start retired).ends.on_ground.sending.messages (own 7) m9 (own 7)

free_again : maps.get (after_all usual start retired).ends.on_ground.sending.ledger (own 7) ≡ None
free_again =
    get_remove (after_all usual start restarted).ends.on_ground.sending.ledger (own 7) (own 7)

-- what comes late changes nothing, and the part of the second message is handed over
pub late_lines_change_nothing : Comes (reverse late_acts)
    (talk late_moves (second_part ∷ freed ∷ finished ∷ first_part ∷ []))
late_lines_change_nothing =
    let said : List Line = second_part ∷ freed ∷ finished ∷ first_part ∷ [] in
    let opens_second : Comes (Makes (step.Open Up (own 7) m9) ∷ first_acts)
    (talk before_second (freed ∷ finished ∷ first_part ∷ [])) =
    goes_on first_acts (talk retired (freed ∷ finished ∷ first_part ∷ []))
    (Makes (step.Open Up (own 7) m9)) (talk before_second (freed ∷ finished ∷ first_part ∷ []))
    retires (
      tt,
      (
        (named, short_octets),
        opens (after_all usual start retired).ends.on_ground.sending.ledger
            (after_all usual start retired).ends.on_ground.sending.messages
            (after_all usual start retired).ends.on_ground.outgoing 9 free_again
            (maps.len-empty name_cmp (List ℕ))
            (ap (λ (o : Option (List ℕ)).
            (sent_of Ground usual opened_first (own 7) 1 o).0.outgoing) has_first),
      ),
    )
    refl in
    let sends : Comes (Sends Up (own 7) 1 ∷ Makes (step.Open Up (own 7) m9) ∷ first_acts)
    (talk before_late said) =
    goes_on (Makes (step.Open Up (own 7) m9) ∷ first_acts)
    (talk before_second (freed ∷ finished ∷ first_part ∷ [])) (Sends Up (own 7) 1)
    (talk before_late said) opens_second
    ((named, omega arith), ap (refusal_send_of usual 1) has_second) refl in
    let acts : List Act = Sends Up (own 7) 1 ∷ Makes (step.Open Up (own 7) m9) ∷ first_acts in
    let late_part : Comes (Hears first_part ∷ acts) (talk before_late said) =
    goes_on acts (talk before_late said) (Hears first_part) (talk before_late said) sends
    (3, omega arith, refl) refl in
    let late_finished : Comes (Hears finished ∷ Hears first_part ∷ acts) (talk before_late said) =
    goes_on (Hears first_part ∷ acts) (talk before_late said) (Hears finished)
    (talk before_late said) late_part (2, omega arith, refl) refl in
    let late_freed : Comes (Hears freed ∷ Hears finished ∷ Hears first_part ∷ acts)
    (talk before_late said) =
    goes_on (Hears finished ∷ Hears first_part ∷ acts) (talk before_late said) (Hears freed)
    (talk before_late said) late_finished (1, omega arith, refl) refl in
    goes_on (Hears freed ∷ Hears finished ∷ Hears first_part ∷ acts) (talk before_late said)
    (Hears second_part) (talk late_moves said) late_freed (0, omega arith, refl) refl

-- a receiver that doesn't look at turns would free the name of an open message
pub frees_too_early : FreesTooEarly before_late
frees_too_early = record { would = would; may_not = may_not } where
  ends : Ends
  ends = (after_all usual start before_late).ends

  none : is_some (maps.get ends.on_craft.receiving.entries (own 7)) ≡ false
  none = ap is_some (maps.get-empty name_cmp (own 7))

  would : is_unheard ends Up (own 7) ≡ true
  would = ap not none

  open_there : state_at ends.on_ground.sending.ledger (own 7) ≡ Open
  open_there =
      ap (λ (o : Option (List ℕ)). state_at
      (sent_of Ground usual opened_second (own 7) 1 o).0.sending.ledger (own 7)) has_second
      ∙ ap state_of
      (get_insert (after_all usual start retired).ends.on_ground.sending.ledger (own 7) Opened
      (own 7))

  may_not : CanMove usual (after_all usual start before_late) (Free Up (own 7)) → ⊥
  may_not can =
      absurd (let both : Open ≡ Closed = sym open_there ∙ can.1.closed in cc)

-- A node whose receiver has freed some names does what it would do without, where no part of these
-- comes.
use Rattle.std.proofs.Common.{◌≡◌, ◌∙◌, ap, sym, subst, refl, ℕ, Bool, true, false, if◌then◌else◌, List, Option, Some, None}
use Rattle.std.specs.FinMap as maps
use Rattle.lpt_packet.specs.Names.{Name, same_name}
use Rattle.lpt_packet.proofs.NameLemmas.{same_name-true}
use Rattle.lpt_events.specs.Arrivals.{Arrival, NotRead, AnIdle, Foreign, ARequest, AReport, NoPart, APart, AnAbort}
use Rattle.lpt_events.specs.NamedParts.{NamedPart}
use Rattle.lpt_events.specs.declared.config.Config.{Config}
use Rattle.lpt_events.specs.declared.side.Side.{Side}
use Rattle.lpt_part.specs.declared.reason.Reason.TheVariants as reason
use Rattle.lpt_ledger.specs.Marks.{Marks, Shut}
use Rattle.lpt_ledger.specs.States.{state_at}
use Rattle.lpt_ledger.specs.declared.state.State.{State as Known}
use Rattle.lpt_ledger.specs.declared.state.State.TheVariants as known
use Rattle.lpt_node.specs.declared.accepted.Accepted.{Accepted}
use Rattle.lpt_node.specs.Accepting.{packet_accepted}
use Rattle.lpt_node.specs.Nodes.{Receiving, NodeData}
use Rattle.lpt_node.specs.Receivers.{table_in, abort_report, kept_of, parts_with, reception_ended, received_from, if_free, part_received}
use Rattle.lpt_node.specs.Receiving.{receiver_of, with_receiver, after_received, abort_head, part_accepted}
use Rattle.lpt_node.specs.Times.{expired_of}
use Rattle.lpt_reception.specs.Received.{Parts}
use Rattle.lpt_table.specs.Offering.{OfferKind, parts_at, is_full, is_open, taken_out, with_entry, part_offered}
use Rattle.lpt_table.specs.Offering as offering
use Rattle.lpt_table.specs.Tables.{TableState}
use Rattle.lpt_journal.proofs.MapLemmas.{get_remove}
use Rattle.lpt_apart.specs.Moves.{with_ledger, KnowsLess}
use Rattle.lpt_apart.proofs.Lessening.{report_less, report_receiving, same_state, less_shut}
use Rattle.lpt_apart.proofs.Offers.{marks_after, offer_less, offer_ledger, offer_entries, offered_other}

-- What a node that knows less has become is what the other has, but for its names. It knows less
-- than that still, and where the other had no reception of a freed name it has none.
pub record IsLessAs {A : Type 0} (freed : Name → Bool) (n : NodeData)
    (less whole : NodeData × A) : Type 0 where
  pub marks : Marks
  pub is : ◌≡◌ {A = NodeData × A} less (with_ledger marks whole.0, whole.1)
  pub knows : KnowsLess marks freed whole.0.receiving.ledger
  pub unheard : (name : Name)
      → freed name ≡ true
      → maps.get n.receiving.entries name ≡ None
      → maps.get whole.0.receiving.entries name ≡ None

-- a freed name isn't one that isn't
other_name : (freed : Name → Bool) (name i : Name)
    → freed name ≡ false
    → freed i ≡ true
    → same_name i name ≡ false
other_name freed name i free gone = go (same_name i name) refl where
  go : (b : Bool) → same_name i name ≡ b → b ≡ false
  go false e = refl
  go true e =
      absurd (let both : true ≡ false = sym gone ∙ ap freed (same_name-true i name e) ∙ free in cc)

knows_after : (less m : Marks) (freed : Name → Bool) (name : Name) (kind : OfferKind)
    → KnowsLess less freed m
    → freed name ≡ false
    → KnowsLess (marks_after kind less name) freed (marks_after kind m name)
knows_after less m freed name offering.Kept knows free = knows
knows_after less m freed name offering.Again knows free = knows
knows_after less m freed name offering.Whole knows free = less_shut less m freed name knows free
knows_after less m freed name (offering.Conflict why) knows free =
    less_shut less m freed name knows free
knows_after less m freed name offering.Gap knows free = less_shut less m freed name knows free
knows_after less m freed name offering.NoRoom knows free = knows

module _ (side : Side) (c : Config) (n : NodeData) (q : NamedPart) where
  -- what an offer of the part comes to
  abbrev pub offer : OfferKind × TableState
  offer =
      part_offered (table_in (receiver_of c n.receiving)) q.name q.number (kept_of q) n.clock

  -- the parts of its name with it
  abbrev pub all_parts : Parts
  all_parts = parts_with (table_in (receiver_of c n.receiving)) q

  -- what a node that knows these names makes of the part, where it knows its name so
  abbrev pub made_of : Marks → Known → NodeData × Accepted
  made_of m s =
      after_received side (with_ledger m n) q
      (if_free s (receiver_of c (with_ledger m n).receiving)
      (received_from (abort_head side c n q.name.source) (receiver_of c (with_ledger m n).receiving)
      q.name all_parts offer))

  made_less : (less : Marks) (freed : Name → Bool)
      → KnowsLess less freed n.receiving.ledger
      → freed q.name ≡ false
      → (s : Known)
      → IsLessAs freed n (made_of less s) (made_of n.receiving.ledger s)
  made_less less freed knows free known.Free = record {
    marks = marks_after offer.0 less q.name;
    is = offer_less side c n q less (abort_head side c n q.name.source) all_parts offer.0
        offer.1.entries;
    knows =
        subst (λ (m : Marks). KnowsLess (marks_after offer.0 less q.name) freed m)
        (sym (offer_ledger side c n q (abort_head side c n q.name.source) all_parts offer.0
        offer.1.entries))
        (knows_after less n.receiving.ledger freed q.name offer.0 knows free);
    unheard = λ name gone none.
        let other : same_name name q.name ≡ false = other_name freed q.name name free gone in
        offer_entries side c n q (abort_head side c n q.name.source) all_parts offer.0
        offer.1.entries name other none
        (offered_other (table_in (receiver_of c n.receiving)) q.name q.number
        (kept_of q) n.clock name
        other none);
  }
  made_less less freed knows free known.Open =
      record { marks = less; is = refl; knows = knows; unheard = λ name gone none. none }
  made_less less freed knows free known.Closed =
      record { marks = less; is = refl; knows = knows; unheard = λ name gone none. none }

  -- that is what it makes of the part
  pub parted_is : (m : Marks) → part_accepted side c (with_ledger m n) q
      ≡ made_of m (state_at m q.name)
  unfolding part_received
  parted_is m = refl

  parted_less : (less : Marks) (freed : Name → Bool)
      → KnowsLess less freed n.receiving.ledger
      → freed q.name ≡ false
      → IsLessAs freed n (part_accepted side c (with_ledger less n) q) (part_accepted side c n q)
  parted_less less freed knows free =
      subst (λ (y : NodeData × Accepted). IsLessAs freed n y (part_accepted side c n q))
      (sym (parted_is less
      ∙ ap (made_of less) (same_state less n.receiving.ledger freed q.name knows free)))
      (subst (λ (y : NodeData × Accepted). IsLessAs freed n
      (made_of less (state_at n.receiving.ledger q.name)) y)
      (sym (parted_is n.receiving.ledger))
      (made_less less freed knows free (state_at n.receiving.ledger q.name)))

-- what comes, where it is no part of a freed name
pub accepted_less : (side : Side) (c : Config) (less : Marks) (n : NodeData) (a : Arrival)
    (freed : Name → Bool)
    → KnowsLess less freed n.receiving.ledger
    → ((q : NamedPart) → a ≡ APart q → freed q.name ≡ false)
    → IsLessAs freed n (packet_accepted side c (with_ledger less n) a) (packet_accepted side c n a)
accepted_less side c less n NotRead freed knows new =
    record { marks = less; is = refl; knows = knows; unheard = λ name gone none. none }
accepted_less side c less n AnIdle freed knows new =
    record { marks = less; is = refl; knows = knows; unheard = λ name gone none. none }
accepted_less side c less n Foreign freed knows new =
    record { marks = less; is = refl; knows = knows; unheard = λ name gone none. none }
accepted_less side c less n (ARequest b) freed knows new =
    record { marks = less; is = refl; knows = knows; unheard = λ name gone none. none }
accepted_less side c less n (AReport service subtype) freed knows new =
    record { marks = less; is = refl; knows = knows; unheard = λ name gone none. none }
accepted_less side c less n NoPart freed knows new =
    record { marks = less; is = refl; knows = knows; unheard = λ name gone none. none }
accepted_less side c less n (APart q) freed knows new =
    parted_less side c n q less freed knows (new q refl)
accepted_less side c less n (AnAbort name why) freed knows new =
    record { marks = less; is = refl; knows = knows; unheard = λ name gone none. none }

-- a reception is given up whose name isn't freed
pub expired_less : (side : Side) (c : Config) (less : Marks) (n : NodeData) (o : Option Name)
    (freed : Name → Bool)
    → KnowsLess less freed n.receiving.ledger
    → ((name : Name) → o ≡ Some name → freed name ≡ false)
    → IsLessAs freed n (expired_of side c (with_ledger less n) o) (expired_of side c n o)
expired_less side c less n None freed knows new =
    record { marks = less; is = refl; knows = knows; unheard = λ name gone none. none }
expired_less side c less n (Some name) freed knows new =
    let free : freed name ≡ false = new name refl in
    let packet : Option (List ℕ) =
    abort_report (abort_head side c n name.source) name reason.Expired in
    let ended_node : NodeData =
    with_receiver n (reception_ended (receiver_of c n.receiving) name) in
    record {
      marks = maps.insert less name Shut;
      is =
          ap (λ (d : NodeData). (d, (expired_of side c n (Some name)).1))
          (report_less (maps.insert less name Shut) ended_node packet);
      knows =
          subst (λ (m : Marks). KnowsLess (maps.insert less name Shut) freed m)
          (sym (ap (λ (r : Receiving). r.ledger) (report_receiving ended_node packet)))
          (less_shut less n.receiving.ledger freed name knows free);
      unheard = λ i gone none.
          ap (λ (r : Receiving). maps.get r.entries i) (report_receiving ended_node packet)
          ∙ get_remove n.receiving.entries name i
          ∙ ap (λ (b : Bool). if b then None else maps.get n.receiving.entries i)
          (other_name freed name i free gone)
          ∙ none;
    }

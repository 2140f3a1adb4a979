-- What an offered part makes of the names and receptions of a node, whatever names it knows.
use Rattle.std.proofs.Common.{◌≡◌, ◌∙◌, ap, refl, ℕ, Bool, true, false, if◌then◌else◌, Option, Some, None, is_some}
use Rattle.std.specs.FinMap as maps
use Rattle.lpt_packet.specs.Names.{Name, same_name}
use Rattle.lpt_events.specs.NamedParts.{NamedPart}
use Rattle.lpt_events.specs.declared.config.Config.{Config}
use Rattle.lpt_events.specs.declared.side.Side.{Side}
use Rattle.lpt_part.specs.declared.reason.Reason.TheVariants as reason
use Rattle.lpt_pus.specs.Telemetry.{Telemetry}
use Rattle.lpt_ledger.specs.Marks.{Marks, Shut}
use Rattle.lpt_node.specs.declared.accepted.Accepted.{Accepted}
use Rattle.lpt_node.specs.Nodes.{Receiving, NodeData}
use Rattle.lpt_node.specs.Receivers.{abort_report, reception_ended, after_offer}
use Rattle.lpt_node.specs.Receiving.{receiver_of, with_receiver, after_received}
use Rattle.lpt_reception.specs.Received.{Kept as KeptPart, Parts, contradicts, is_gap, is_whole, with_part}
use Rattle.lpt_table.specs.Offering.{OfferKind, parts_at, is_full, is_open, taken_out, with_entry, part_offered}
use Rattle.lpt_table.specs.Offering as offering
use Rattle.lpt_table.specs.Tables.{Entries, TableEntry, TableState}
use Rattle.lpt_journal.proofs.MapLemmas.{get_insert, get_remove}
use Rattle.lpt_apart.specs.Moves.{with_ledger}
use Rattle.lpt_apart.proofs.Lessening.{report_less, report_receiving, report_ledger}

-- the names that a receiver knows after an offer of this kind
abbrev pub marks_after : OfferKind → Marks → Name → Marks
marks_after offering.Kept m name = m
marks_after offering.Again m name = m
marks_after offering.Whole m name = maps.insert m name Shut
marks_after (offering.Conflict why) m name = maps.insert m name Shut
marks_after offering.Gap m name = maps.insert m name Shut
marks_after offering.NoRoom m name = m

module _ (side : Side) (c : Config) (n : NodeData) (q : NamedPart) where
  -- what a receiver has made of a part whose name it has free
  abbrev pub offered_to : Marks
      → Option Telemetry
      → Parts
      → OfferKind
      → Entries
      → NodeData × Accepted
  offered_to m head parts kind es =
      after_received side (with_ledger m n) q
      (after_offer head (receiver_of c (with_ledger m n).receiving) q.name parts kind es)

  -- a node whose reception of the part's name has ended
  abbrev shut : NodeData
  shut = with_receiver n (reception_ended (receiver_of c n.receiving) q.name)

  pub offer_less : (m : Marks) (head : Option Telemetry) (parts : Parts) (kind : OfferKind)
      (es : Entries)
      → ◌≡◌ {A = NodeData × Accepted} (offered_to m head parts kind es) (
        with_ledger (marks_after kind m q.name)
            (offered_to n.receiving.ledger head parts kind es).0,
        (offered_to n.receiving.ledger head parts kind es).1,
      )
  offer_less m head parts offering.Kept es = refl
  offer_less m head parts offering.Again es = refl
  offer_less m head parts offering.Whole es = refl
  offer_less m head parts (offering.Conflict why) es =
      ap (λ (d : NodeData).
      (d, (offered_to n.receiving.ledger head parts (offering.Conflict why) es).1))
      (report_less (maps.insert m q.name Shut) shut (abort_report head q.name why))
  offer_less m head parts offering.Gap es =
      ap (λ (d : NodeData). (d, (offered_to n.receiving.ledger head parts offering.Gap es).1))
      (report_less (maps.insert m q.name Shut) shut (abort_report head q.name reason.Discontinuity))
  offer_less m head parts offering.NoRoom es = refl

  pub offer_ledger : (head : Option Telemetry) (parts : Parts) (kind : OfferKind) (es : Entries)
      → (offered_to n.receiving.ledger head parts kind es).0.receiving.ledger
      ≡ marks_after kind n.receiving.ledger q.name
  offer_ledger head parts offering.Kept es = refl
  offer_ledger head parts offering.Again es = refl
  offer_ledger head parts offering.Whole es = refl
  offer_ledger head parts (offering.Conflict why) es =
      ap (λ (r : Receiving). r.ledger) (report_receiving shut (abort_report head q.name why))
  offer_ledger head parts offering.Gap es =
      ap (λ (r : Receiving). r.ledger)
      (report_receiving shut (abort_report head q.name reason.Discontinuity))
  offer_ledger head parts offering.NoRoom es = refl

  -- what it sends is as it was
  pub offer_sending : (head : Option Telemetry) (parts : Parts) (kind : OfferKind) (es : Entries)
      → (offered_to n.receiving.ledger head parts kind es).0.sending.ledger ≡ n.sending.ledger
  offer_sending head parts offering.Kept es = refl
  offer_sending head parts offering.Again es = refl
  offer_sending head parts offering.Whole es = refl
  offer_sending head parts (offering.Conflict why) es =
      report_ledger shut (abort_report head q.name why)
  offer_sending head parts offering.Gap es =
      report_ledger shut (abort_report head q.name reason.Discontinuity)
  offer_sending head parts offering.NoRoom es = refl

  pub offer_entries : (head : Option Telemetry) (parts : Parts) (kind : OfferKind) (es : Entries)
      (name : Name)
      → same_name name q.name ≡ false
      → maps.get n.receiving.entries name ≡ None
      → maps.get es name ≡ None
      → maps.get (offered_to n.receiving.ledger head parts kind es).0.receiving.entries name ≡ None
  offer_entries head parts offering.Kept es name other none now = now
  offer_entries head parts offering.Again es name other none now = now
  offer_entries head parts offering.Whole es name other none now =
      get_remove n.receiving.entries q.name name
      ∙ ap (λ (b : Bool). if b then None else maps.get n.receiving.entries name) other ∙ none
  offer_entries head parts (offering.Conflict why) es name other none now =
      ap (λ (r : Receiving). maps.get r.entries name)
      (report_receiving shut (abort_report head q.name why))
      ∙ get_remove n.receiving.entries q.name name
      ∙ ap (λ (b : Bool). if b then None else maps.get n.receiving.entries name) other ∙ none
  offer_entries head parts offering.Gap es name other none now =
      ap (λ (r : Receiving). maps.get r.entries name)
      (report_receiving shut (abort_report head q.name reason.Discontinuity))
      ∙ get_remove n.receiving.entries q.name name
      ∙ ap (λ (b : Bool). if b then None else maps.get n.receiving.entries name) other ∙ none
  offer_entries head parts offering.NoRoom es name other none now = none

-- what an offer comes to, by the answers of its tests
abbrev offered_by : TableState
    → Name
    → ℕ
    → KeptPart
    → ℕ
    → (full contra again gap there whole : Bool)
    → OfferKind × TableState
offered_by t name k x now full contra again gap there whole =
    if full then (offering.NoRoom, t)
    else if contra then (offering.Conflict reason.Conflict, taken_out t name)
    else if again then (offering.Again, with_entry t name (parts_at t name) now)
    else if gap then
    if there then (offering.Conflict reason.Discontinuity, taken_out t name) else (offering.Gap, t)
    else if whole then (offering.Whole, taken_out t name)
    else (offering.Kept, with_entry t name (with_part (parts_at t name) k x) now)

-- what an offer makes of the receptions of other names: nothing
pub offered_other : (t : TableState) (name : Name) (k : ℕ) (x : KeptPart) (now : ℕ) (q : Name)
    → same_name q name ≡ false
    → maps.get t.entries q ≡ None
    → maps.get (part_offered t name k x now).1.entries q ≡ None
unfolding part_offered
offered_other t name k x now q other none =
    go (is_full t name) (contradicts (parts_at t name) k x) (is_some (maps.get (parts_at t name) k))
    (is_gap t.mode (parts_at t name) k) (is_open t name)
    (is_whole (with_part (parts_at t name) k x))
  where
    inserted : (ps : Parts)
        → maps.get (maps.insert t.entries name (record { parts = ps; last = now })) q ≡ None
    inserted ps =
        let e : TableEntry = record { parts = ps; last = now } in
        get_insert t.entries name e q
        ∙ ap (λ (b : Bool). if b then Some e else maps.get t.entries q) other
        ∙ none

    removed : maps.get (maps.remove t.entries name) q ≡ None
    removed =
        get_remove t.entries name q
        ∙ ap (λ (b : Bool). if b then None else maps.get t.entries q) other
        ∙ none

    go : (full contra again gap there whole : Bool)
        → maps.get (offered_by t name k x now full contra again gap there whole).1.entries q ≡ None
    go true contra again gap there whole = none
    go false true again gap there whole = removed
    go false false true gap there whole = inserted (parts_at t name)
    go false false false true true whole = removed
    go false false false true false whole = none
    go false false false false there true = removed
    go false false false false there false = inserted (with_part (parts_at t name) k x)

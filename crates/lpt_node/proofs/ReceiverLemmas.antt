-- What a receiver makes of a part, by what its table answered.
use Rattle.std.proofs.Common.{if◌then◌else◌, ◌≡◌, ◌∙◌, ap, sym, refl, ℕ, Bool, true, false, cond, Option, None, is_some, Result, Ok, Err}
use Rattle.std.specs.FinMap as map
use Rattle.std.specs.Result.{IfOk, OnOk, OnErr}
use Rattle.lpt_part.specs.declared.reason.Reason.{Reason}
use Rattle.lpt_events.specs.NamedParts.{NamedPart}
use Rattle.lpt_pus.specs.Telemetry.{Telemetry}
use Rattle.lpt_ledger.specs.declared.state.State.{State}
use Rattle.lpt_ledger.specs.declared.state.State.TheVariants.{Free, Open, Closed}
use Rattle.lpt_ledger.specs.Marks.{Marks, Shut}
use Rattle.lpt_ledger.specs.States.{state_at, is_free}
use Rattle.lpt_part.specs.declared.reason.Reason.TheVariants as reason
use Rattle.lpt_reception.specs.Received.{Ended, BrokenOff, all_of, is_whole, spelled}
use Rattle.lpt_table.specs.Offering as offering
use Rattle.lpt_table.specs.Offering.{OfferKind, TakesOut, at_gap, is_open, part_offered, parts_at, received_at, taken_out, with_entry}
use Rattle.lpt_table.specs.declared.offer.Offer.TheVariants.{Memory}
use Rattle.lpt_table.specs.Offers.{Offers}
use Rattle.lpt_table.specs.Tables.{Entries, TableState}
use Rattle.lpt_node.specs.declared.receipt.Receipt.{Receipt}
use Rattle.lpt_node.specs.declared.receipt.Receipt.TheVariants as receipt
use Rattle.lpt_node.specs.Receivers.{ReceiverState, IsReceiver, abort_report, after_offer, reception_ended, grows, if_free, kept_of, parts_with, part_received, received_from}
use Rattle.lpt_node.proofs.MapLemmas.{remove-none}

-- ---- an offer

-- what is seen of a ledger and a table
abbrev pub view : Marks → TableState → ReceiverState
view m t =
    record { limit = t.limit; timeout = t.timeout; p = t.p; mode = t.mode; ledger = m; entries = t.entries }

not_free : (s : State) → (s ≡ Free → ⊥) → is_free s ≡ false
not_free Free other = absurd (other refl)
not_free Open other = refl
not_free Closed other = refl

-- a part whose name isn't free is left alone
pub received-closed : (head : Option Telemetry) (r : ReceiverState) (q : NamedPart) (now : ℕ)
    → (state_at r.ledger q.name ≡ Free → ⊥)
    → (r, receipt.Closed) ≡ part_received head r q now
unfolding part_received
received-closed head r q now other =
    ap (λ (free : Bool). cond free
    (received_from head r q.name (parts_with (record {
      limit = r.limit;
      timeout = r.timeout;
      p = r.p;
      mode = r.mode;
      entries = r.entries;
      out = None;
    }) q) (part_offered (record {
      limit = r.limit;
      timeout = r.timeout;
      p = r.p;
      mode = r.mode;
      entries = r.entries;
      out = None;
    }) q.name q.number (kept_of q) now)) (r, receipt.Closed))
    (sym (not_free (state_at r.ledger q.name) other))

module _ (head : Option Telemetry) (m : Marks) (old mid : TableState) (q : NamedPart) (now : ℕ)
    (seen : ReceiverState) (is : view m old ≡ seen) (sound : IsReceiver m old)
    (free : state_at m q.name ≡ Free) where
  -- what is made of the part is what is made of the offer
  received-offered : (kind : OfferKind)
      → part_offered old q.name q.number (kept_of q) now ≡ (kind, mid)
      → after_offer head (view m old) q.name (parts_with old q) kind mid.entries
      ≡ part_received head seen q now
  unfolding part_received
  received-offered kind e =
      let table : record old { out = None } ≡ old = λ i. record old { out = sym sound.settled i } in
      sym ((λ i. if_free (free i) (view m old)
      (received_from head (view m old) q.name (parts_with (table i) q)
      (part_offered (table i) q.name q.number (kept_of q) now)))
      ∙ ap (λ (o : OfferKind × TableState). received_from head (view m old) q.name (parts_with old q) o) e)
      ∙ ap (λ (r : ReceiverState). part_received head r q now) is

  -- the receptions alone have changed
  within : (es : Entries)
      → mid ≡ record old { entries = es }
      → view m mid ≡ record (view m old) { entries = mid.entries }
  within es e =
      ap (λ (t : TableState). view m t) e
      ∙ ap (λ (t : TableState). record (view m old) { entries = t.entries }) (sym e)

  -- the part was kept
  pub received-kept : (es : Entries)
      → part_offered old q.name q.number (kept_of q) now ≡ (offering.Kept, mid)
      → mid ≡ record old { entries = es }
      → (view m mid, receipt.Kept) ≡ part_received head seen q now
  received-kept es e new =
      (λ i. (within es new i, receipt.Kept)) ∙ received-offered offering.Kept e

  -- the part had been kept
  pub received-again : (es : Entries)
      → part_offered old q.name q.number (kept_of q) now ≡ (offering.Again, mid)
      → mid ≡ record old { entries = es }
      → (view m mid, receipt.Again) ≡ part_received head seen q now
  received-again es e new =
      (λ i. (within es new i, receipt.Again)) ∙ received-offered offering.Again e

  -- there was no room
  pub received-no_room : part_offered old q.name q.number (kept_of q) now ≡ (offering.NoRoom, mid)
      → mid ≡ old
      → (view m mid, receipt.NoRoom) ≡ part_received head seen q now
  received-no_room e new =
      ap (λ (t : TableState). (view m t, receipt.NoRoom)) new ∙ received-offered offering.NoRoom e

  -- there was a gap before a reception was open
  pub received-gap : {E : Type 0} (r : Result Receipt E) (after : Marks)
      → OnOk r (after ≡ map.insert m q.name Shut)
      → IfOk r (λ t. t ≡ receipt.Conflict reason.Discontinuity (abort_report head q.name reason.Discontinuity))
      → part_offered old q.name q.number (kept_of q) now ≡ (offering.Gap, mid)
      → is_open old q.name ≡ false
      → mid ≡ old
      → IfOk r
      (λ t. ◌≡◌ {A = ReceiverState × Receipt} (view after mid, t) (part_received head seen q now))
  received-gap (Ok t) after a is e none new =
      (λ i. (
        record (view m (new i)) {
          ledger = a i;
          entries = (ap (λ (t : TableState). t.entries) new
              ∙ sym (remove-none old.entries q.name none)) i;
        },
        is i,
      ))
      ∙ received-offered offering.Gap e
  received-gap (Err x) after a is e none new = tt

  module _ {E : Type 0} (r : Result Receipt E) (after : Marks) (new : TableState)
      (shut : OnOk r (after ≡ map.insert m q.name Shut))
      (settled : OnOk r (new ≡ record mid { out = None })) (out : TakesOut old mid q.name) where
    -- a whole message came out
    pub received-whole : (w : Ended)
        → IfOk r (λ t. t ≡ receipt.Whole (spelled (all_of w)))
        → part_offered old q.name q.number (kept_of q) now ≡ (offering.Whole, mid)
        → w ≡ record { before = received_at old q.name; number = q.number; kept = kept_of q }
        → IfOk r
        (λ t. ◌≡◌ {A = ReceiverState × Receipt} (view after new, t) (part_received head seen q now))
    received-whole w answer e all = by_answer r shut settled answer where
      by_answer : (r : Result Receipt E)
          → OnOk r (after ≡ map.insert m q.name Shut)
          → OnOk r (new ≡ record mid { out = None })
          → IfOk r (λ t. t ≡ receipt.Whole (spelled (all_of w)))
          → IfOk r
          (λ t. ◌≡◌ {A = ReceiverState × Receipt} (view after new, t)
          (part_received head seen q now))
      by_answer (Ok t) a b is =
          (λ i. (view (a i) ((b ∙ ap (λ (t : TableState). record t { out = None }) out.now) i), is i))
          ∙ ap (λ (w : Ended).
          (reception_ended (view m old) q.name, receipt.Whole (spelled (all_of w)))) all
          ∙ received-offered offering.Whole e
      by_answer (Err x) a b is = tt

    -- a reception that was broken off came out
    pub received-broken : (b : BrokenOff)
        → IfOk r (λ t. t ≡ receipt.Conflict b.reason (abort_report head q.name b.reason))
        → part_offered old q.name q.number (kept_of q) now ≡ (offering.Conflict b.reason, mid)
        → IfOk r
        (λ t. ◌≡◌ {A = ReceiverState × Receipt} (view after new, t) (part_received head seen q now))
    received-broken b answer e = by_answer r shut settled answer where
      by_answer : (r : Result Receipt E)
          → OnOk r (after ≡ map.insert m q.name Shut)
          → OnOk r (new ≡ record mid { out = None })
          → IfOk r (λ t. t ≡ receipt.Conflict b.reason (abort_report head q.name b.reason))
          → IfOk r
          (λ t. ◌≡◌ {A = ReceiverState × Receipt} (view after new, t)
          (part_received head seen q now))
      by_answer (Ok t) a s is =
          (λ i. (view (a i) ((s ∙ ap (λ (t : TableState). record t { out = None }) out.now) i), is i))
          ∙ received-offered (offering.Conflict b.reason) e
      by_answer (Err x) a s is = tt

-- ---- out of memory

-- what holds of all results holds of errors
on_err : {X E : Type 0} (r : Result X E) (P : Type 0) → P → OnErr r P
on_err (Ok x) P p = tt
on_err (Err x) P p = p

module _ (head : Option Telemetry) (m : Marks) (old mid : TableState) (q : NamedPart) (now : ℕ)
    (seen : ReceiverState) (is : view m old ≡ seen) (sound : IsReceiver m old)
    (free : state_at m q.name ≡ Free) where
  as_offered : (kind : OfferKind)
      → part_offered old q.name q.number (kept_of q) now ≡ (kind, mid)
      → grows (after_offer head (view m old) q.name (parts_with old q) kind mid.entries).1
      ≡ grows (part_received head seen q now).1
  as_offered kind e =
      ap (λ (x : ReceiverState × Receipt). grows x.1)
      (received-offered head m old mid q now seen is sound free kind e)

  -- a message is let out
  pub grows-whole : {X E : Type 0} (r : Result X E)
      → part_offered old q.name q.number (kept_of q) now ≡ (offering.Whole, mid)
      → OnErr r (grows (part_received head seen q now).1 ≡ true)
  grows-whole r e = on_err r _ (sym (as_offered offering.Whole e))

  -- a reception is broken off
  pub grows-broken : {X E : Type 0} (r : Result X E) (reason : Reason)
      → part_offered old q.name q.number (kept_of q) now ≡ (offering.Conflict reason, mid)
      → OnErr r (grows (part_received head seen q now).1 ≡ true)
  grows-broken r reason e = on_err r _ (sym (as_offered (offering.Conflict reason) e))

  -- a gap was found
  pub grows-gap : {X E : Type 0} (r : Result X E)
      → part_offered old q.name q.number (kept_of q) now ≡ (offering.Gap, mid)
      → OnErr r (grows (part_received head seen q now).1 ≡ true)
  grows-gap r e = on_err r _ (sym (as_offered offering.Gap e))

  -- what an offer comes to, by the table's tests
  abbrev made : (full contra again gap whole : Bool) → OfferKind × TableState
  made full contra again gap whole =
      if full then (offering.NoRoom, old)
      else if contra then (offering.Conflict reason.Conflict, taken_out old q.name)
      else if again then (offering.Again, with_entry old q.name (parts_at old q.name) now)
      else if gap then at_gap old q.name
      else if whole then (offering.Whole, taken_out old q.name)
      else (offering.Kept, with_entry old q.name (parts_with old q) now)

  abbrev grows_as : OfferKind × TableState → Bool
  grows_as o = grows (received_from head (view m old) q.name (parts_with old q) o).1

  kept_or_whole : (whole : Bool) → grows_as (made false false false false whole) ≡ true
  kept_or_whole true = refl
  kept_or_whole false = refl

  -- a part is kept, or ends its message
  pub grows-kept : Offers old q.name q.number (kept_of q) now Memory mid
      → grows (part_received head seen q now).1 ≡ true
  unfolding part_offered
  grows-kept h =
      let o = part_offered old q.name q.number (kept_of q) now in
      sym (ap (λ (x : ReceiverState × Receipt). grows x.1)
      (received-offered head m old o.1 q now seen is sound free o.0 refl))
      ∙ (λ i. grows_as (made (h.0 i) (h.1.0.new.agrees i) (is_some (h.1.0.new.absent i)) (h.1.0.in_order i) (is_whole (parts_with old q))))
      ∙ kept_or_whole (is_whole (parts_with old q))

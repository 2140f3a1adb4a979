-- What the answer of a reception makes of its table.
use Rattle.std.specs.Prelude.{◌≡◌, ◌⊎◌, ℕ, Bool, true, false, if◌then◌else◌, Option, not, ◌&&◌, nat_le, Some, None, is_some, IsSome, IfSome, cond, refl}
use Rattle.std.specs.FinMap as map
use Rattle.std.specs.FinMap.{get-insert}
use Rattle.std.specs.Ordering.{is_eq}
use Rattle.std.specs.Cmp.{nat_cmp_total, tied_itself}
use Rattle.lpt_packet.proofs.NameLemmas.{name_cmp-IsAntisymmetric, name_cmp_total}
use Rattle.std.proofs.Common.{sym, ◌∙◌, ap, subst, inl, inr}
use Rattle.lpt_packet.specs.Names.{Name}
use Rattle.lpt_part.specs.declared.mode.Mode.{Mode}
use Rattle.lpt_part.specs.declared.reason.Reason.{Reason}
use Rattle.lpt_part.specs.declared.reason.Reason.TheVariants as reason
use Rattle.lpt_reception.specs.declared.step.Took.{Took}
use Rattle.lpt_reception.specs.declared.step.Took.TheVariants as took
use Rattle.lpt_reception.specs.declared.step.Step.TheVariants as step
use Rattle.lpt_reception.specs.Endings.{ended_by}
use Rattle.lpt_reception.specs.Steps.{Answers, Takes}
use Rattle.lpt_reception.proofs.EndingLemmas.{ended_with}
use Rattle.lpt_reception.specs.Received.{Kept as KeptPart, Parts, Received, Ended, BrokenOff, with_part, is_whole}
use Rattle.lpt_table.specs.declared.offer.Offer.{Offer}
use Rattle.lpt_table.specs.declared.offer.Offer.TheVariants.{Kept, Again, Whole, Conflict, Gap, NoRoom, Memory}
use Rattle.lpt_table.specs.EntryLists.{Listing, TakesIn, last_after}
use Rattle.lpt_table.specs.Offering.{is_full, parts_of, parts_at, received_at, with_entry, TakesOut, put_back, part_offered}
use Rattle.lpt_table.specs.Offers.{Offers, IsOfName, kind_of}
use Rattle.lpt_table.specs.Tables.{TableEntry, TableState, Entries}
use Rattle.lpt_table.proofs.MapLemmas.{insert-remove, insert-same, remove-insert, get-inserted, get-removed}
use Rattle.lpt_table.proofs.ListingLemmas.{inside}

-- ---- the map after several changes

-- nothing is under a name that was removed
pub get-without : (m : Entries) (name : Name) → map.get (map.remove m name) name ≡ None
get-without m name = get-removed name_cmp_total name_cmp-IsAntisymmetric m name

abbrev with_entries : TableState → Entries → TableState
with_entries t m = record t { entries = m }

-- a reception under its parts and last tick
abbrev entry : Parts → ℕ → TableEntry
entry parts last = record { parts = parts; last = last }

put_again : (t : TableState) (name : Name) (e : TableEntry)
    → with_entries t (map.insert (map.remove t.entries name) name e)
    ≡ with_entries t (map.insert t.entries name e)
put_again t name e =
    ap (with_entries t) (insert-remove name_cmp_total name_cmp-IsAntisymmetric t.entries name e)

-- what is kept under a name is put under it again
same_again : (t : TableState) (name : Name) (e : TableEntry)
    → map.get t.entries name ≡ Some e
    → with_entry t name (parts_at t name) e.last ≡ t
same_again t name e was =
    ap (with_entries t)
    (insert-same name_cmp_total name_cmp-IsAntisymmetric t.entries name
    (entry (parts_at t name) e.last)
    (was ∙ ap (λ s. Some (entry s e.last)) (ap parts_of (sym was))))

-- a reception that is put back as it was leaves the table as it was
pub put_back-takes_out : (old new : TableState) (name : Name)
    → old.out ≡ None
    → TakesOut old new name
    → put_back new name (parts_at old name) ≡ old
put_back-takes_out old new name settled h =
    ap (λ (t : TableState). put_back t name (parts_at old name)) h.now
    ∙ ap (λ (t : TableState). record t { out = None })
    (put_again old name (entry (parts_at old name) h.entry.last)
    ∙ same_again old name h.entry h.was)
    ∙ ap (λ o. record old { out = o }) (sym settled)

-- ---- a reception that stays in its list

-- a list as a table has it
abbrev pub table : ℕ → Mode → Option (Name × ℕ) → Listing → TableState
table timeout mode out l = record {
  limit = l.limit;
  timeout = timeout;
  p = l.p;
  mode = mode;
  entries = l.entries;
  out = out;
}

-- a part changes neither name nor part size
pub takes_keeps : (mode : Mode) (s new : Received) (n : ℕ) (x : KeptPart) (t : Took)
    → Takes mode s n x t new
    → (new.id ≡ s.id) × (new.p ≡ s.p)
takes_keeps mode s new n x took.Kept h =
    (ap (λ (r : Received). r.id) h.2, ap (λ (r : Received). r.p) h.2)
takes_keeps mode s new n x took.Again h =
    (ap (λ (r : Received). r.id) h.2, ap (λ (r : Received). r.p) h.2)
takes_keeps mode s new n x took.Whole h =
    (ap (λ (r : Received). r.id) h.1, ap (λ (r : Received). r.p) h.1)
takes_keeps mode s new n x (took.Conflict r) h =
    (ap (λ (r : Received). r.id) h.1, ap (λ (r : Received). r.p) h.1)
takes_keeps mode s new n x took.NoMemory h =
    (ap (λ (r : Received). r.id) h.1, ap (λ (r : Received). r.p) h.1)

module _ (timeout : ℕ) (mode : Mode) (gone : Option (Name × ℕ)) (o w : Listing)
    (name : Name) (n now : ℕ) (x : KeptPart) where
  abbrev old : TableState
  old = table timeout mode gone o

  abbrev new : TableState
  new = table timeout mode gone w

  abbrev received : Parts → Received
  received parts = record { id = name.id; p = o.p; parts = parts }

  same : (e : TableEntry) → map.get o.entries name ≡ Some e → received e.parts
      ≡ received_at old name
  same e was = λ i. record { id = name.id; p = o.p; parts = ap parts_of (sym was) i }

  not_full : (e : TableEntry) → map.get o.entries name ≡ Some e → is_full old name ≡ false
  not_full e was = ap (λ r. not (is_some r) && nat_le o.limit (map.len o.entries)) was

  -- the list with this under the name
  abbrev with : Parts → ℕ → Listing
  with parts last = record o { entries = map.insert o.entries name (entry parts last) }

  became : (parts : Parts) (last : ℕ)
      → w ≡ with parts last
      → new ≡ with_entry old name parts last
  became parts last is = ap (table timeout mode gone) is

  pub offers_kept : TakesIn mode o w name n now x took.Kept → Offers old name n x now Kept new
  offers_kept h =
      let b = subst (λ (s : Received). Answers mode s n x (step.Filling (received h.parts)))
      (same h.entry h.was) h.takes
      in (
        not_full h.entry h.was,
        (b.0, b.1, refl),
        became h.parts now h.becomes ∙ ap (λ (f : Received). with_entry old name f.parts now) b.2,
      )

  pub offers_again : TakesIn mode o w name n now x took.Again → Offers old name n x now Again new
  offers_again h =
      let b = subst (λ (s : Received). Answers mode s n x (step.Again (received h.parts)))
      (same h.entry h.was) h.takes
      in (
        not_full h.entry h.was,
        (b.0, b.1, refl),
        became h.parts now h.becomes ∙ ap (λ (f : Received). with_entry old name f.parts now) b.2,
      )

  pub offers_memory : TakesIn mode o w name n now x took.NoMemory
      → Offers old name n x now Memory new
  offers_memory h =
      let b = subst (λ (s : Received). Answers mode s n x (step.NoMemory (received h.parts)))
      (same h.entry h.was) h.takes
      in (
        not_full h.entry h.was,
        (b.0, refl),
        became h.parts h.entry.last h.becomes
            ∙ ap (λ (f : Received). with_entry old name f.parts h.entry.last) b.1
            ∙ same_again old name h.entry h.was,
      )

  -- it is still open
  pub still_open : (t : Took) → TakesIn mode o w name n now x t → IsSome (map.get w.entries name)
  still_open t h =
      ap (λ (l : Listing). is_some (map.get l.entries name)) h.becomes
      ∙ ap is_some
      (get-inserted name_cmp_total name_cmp-IsAntisymmetric o.entries name
      (entry h.parts (last_after t h.entry.last now)))

  -- ---- and is then taken out

  module _ (e : TableEntry) (parts : Parts)
      (was : map.get o.entries name ≡ Some e) (is : w ≡ with parts e.last) where
    found : map.get w.entries name ≡ Some (entry parts e.last)
    found =
        ap (λ (l : Listing). map.get l.entries name) is
        ∙ get-inserted name_cmp_total name_cmp-IsAntisymmetric o.entries name (entry parts e.last)

    left : map.remove w.entries name ≡ map.remove o.entries name
    left =
        ap (λ (l : Listing). map.remove l.entries name) is
        ∙ remove-insert name_cmp_total name_cmp-IsAntisymmetric o.entries name (entry parts e.last)

    takes_out : (g : TableState) → TakesOut new g name → TakesOut old g name
    takes_out g out =
        let its : out.entry ≡ entry parts e.last = inside out.entry (entry parts e.last)
        (sym out.was ∙ found)
        in
        record {
          entry = e;
          was = was;
          now = out.now ∙ λ i. record {
            limit = ap (λ (l : Listing). l.limit) is i;
            timeout = timeout;
            p = ap (λ (l : Listing). l.p) is i;
            mode = mode;
            entries = left i;
            out = Some (name, ap (λ (y : TableEntry). y.last) its i);
          };
        }

    came_out : received_at new name ≡ received parts
    came_out = λ i. record {
      id = name.id;
      p = ap (λ (l : Listing). l.p) is i;
      parts = ap parts_of found i;
    }

  -- a whole comes out with the part
  module _ (h : TakesIn mode o w name n now x took.Whole) (f : Received)
      (f_is : f ≡ received_at new name) where
    came : f ≡ record (received h.entry.parts) { parts = with_part h.entry.parts n x }
    came = f_is ∙ came_out h.entry h.parts h.was h.becomes ∙ h.takes.1

    pub has_all : is_whole f.parts ≡ true
    has_all = ap (λ (s : Received). is_whole s.parts) came ∙ h.takes.0.1

    pub has_last : IsSome (map.get f.parts n)
    has_last =
        ap (λ (s : Received). is_some (map.get s.parts n)) came
        ∙ ap is_some (get-insert nat_cmp_total h.entry.parts n x n
        ∙ ap (λ r. cond (is_eq r) (Some x) (map.get h.entry.parts n)) (tied_itself nat_cmp_total n))

    pub offers_whole : (g : TableState) (v : Ended)
        → TakesOut new g name
        → v ≡ ended_by f n
        → Offers old name n x now (Whole v) g
    offers_whole g v out v_is =
        let ends = v_is ∙ ended_with (received h.entry.parts) f n x came h.takes.0.0.new.absent in (
          not_full h.entry h.was,
          subst (λ (s : Received). Answers mode s n x (step.Whole v)) (same h.entry h.was)
              (h.takes.0.0, h.takes.0.1, ends),
          takes_out h.entry h.parts h.was h.becomes g out,
        )

  pub offers_conflict : (r : Reason)
      → TakesIn mode o w name n now x (took.Conflict r)
      → (g : TableState) (f : Received) (v : BrokenOff)
      → TakesOut new g name
      → f ≡ received_at new name
      → v ≡ record { before = f; reason = r }
      → Offers old name n x now (Conflict v) g
  offers_conflict r h g f v out f_is v_is =
      let came = f_is ∙ came_out h.entry h.parts h.was h.becomes in (
        not_full h.entry h.was,
        subst (λ (s : Received). Answers mode s n x (step.Conflict v)) (same h.entry h.was) (
          h.takes.0 ∙ ap (λ (b : BrokenOff). Some b.reason) (sym v_is),
          ap (λ (b : BrokenOff). b.before) v_is ∙ came ∙ h.takes.1,
        ),
        takes_out h.entry h.parts h.was h.becomes g out,
      )

some_or : Option Reason → Reason → Reason
some_or None r = r
some_or (Some x) r = x

-- why a part breaks a reception off, by its tests
break_cases : (clash again gap : Bool) (r : Reason)
    → (if clash then Some reason.Conflict else if again then None
    else if gap then Some reason.Discontinuity else None) ≡ Some r
    → ((clash ≡ true) × (reason.Conflict ≡ r))
    ⊎ ((clash ≡ false) × (again ≡ false) × (gap ≡ true) × (reason.Discontinuity ≡ r))
unfolding some_or
break_cases true again gap r e = inl (refl, ap (λ o. some_or o r) e)
break_cases false true gap r e = absurd cc
break_cases false false true r e = inr (refl, refl, refl, ap (λ o. some_or o r) e)
break_cases false false false r e = absurd cc

-- ---- what an answer says

module _ (old new : TableState) (name : Name) (n now : ℕ) (x : KeptPart) where
  -- what comes out is of this name and part size
  pub offers_its : (offer : Offer) → Offers old name n x now offer new → IsOfName name old.p offer
  offers_its Kept h = tt
  offers_its Again h = tt
  offers_its (Whole v) h =
      (ap (λ (v : Ended). v.before.id) h.1.2, ap (λ (v : Ended). v.before.p) h.1.2)
  offers_its (Conflict b) h =
      (ap (λ (r : Received). r.id) h.1.1, ap (λ (r : Received). r.p) h.1.1)
  offers_its Gap h = tt
  offers_its NoRoom h = tt
  offers_its Memory h = tt

  -- the answer and the table are what is computed, out of memory aside
  pub offers_offered : (offer : Offer)
      → Offers old name n x now offer new
      → IfSome (kind_of offer) (λ k. part_offered old name n x now ≡ (k, new))
  unfolding part_offered
  offers_offered Kept h =
      rw (h.0, h.1.0.new.agrees, h.1.0.new.absent, h.1.0.in_order, h.1.1, h.2)
  offers_offered Again h = rw (h.0, h.1.0, h.1.1, h.2)
  offers_offered (Whole v) h =
      rw (h.0, h.1.0.new.agrees, h.1.0.new.absent, h.1.0.in_order, h.1.1, h.2.now, h.2.was)
  offers_offered (Conflict b) h =
      elim (break_cases _ _ _ b.reason h.1.0) [
        | inl w ↦ rw (h.0, w.0, h.2.now, h.2.was, w.1)
        | inr w ↦ rw (h.0, w.0, w.1, w.2, h.2.now, h.2.was, w.3)
      ]
  offers_offered Gap h = rw (h.0, h.2.agrees, h.2.absent, h.3, h.1, h.4)
  offers_offered NoRoom h = rw (h.0, h.1)
  offers_offered Memory h = tt

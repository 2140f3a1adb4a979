-- Names stay tied to their receptions, so that a receiver is sound after each change.
use Rattle.std.proofs.Common.{◌≡◌, ◌∙◌, ap, sym, subst, refl, ℕ, Bool, true, false, cond, Option, Some, None, Result, Ok, Err}
use Rattle.std.specs.FinMap as map
use Rattle.std.specs.Option.{option_map}
use Rattle.std.specs.Result.{OnOk, OnErr}
use Rattle.lpt_packet.specs.Names.{Name, same_name, name_cmp}
use Rattle.lpt_packet.proofs.NameLemmas.{same_name-true}
use Rattle.lpt_ledger.specs.declared.state.State.{State}
use Rattle.lpt_ledger.specs.declared.state.State.TheVariants.{Free, Open, Closed}
use Rattle.lpt_ledger.specs.Marks.{Mark, Marks, Shut}
use Rattle.lpt_ledger.specs.States.{state_of, state_at}
use Rattle.lpt_part.specs.declared.mode.Mode.{Mode}
use Rattle.lpt_reception.specs.Received.{Received}
use Rattle.lpt_table.specs.Offering.{TakesOut, is_open, parts_at, put_back, received_at}
use Rattle.lpt_table.specs.SettingBack.{earlier, set_back, table_back}
use Rattle.lpt_table.specs.Tables.{Entries, TableEntry, TableState, no_receptions}
use Rattle.lpt_node.proofs.MapLemmas.{get_insert, get_remove, remove-none}
use Rattle.lpt_node.specs.Nodes.{is_open as is_open_name}
use Rattle.lpt_node.specs.Receivers.{IsTied, AllTied, IsReceiver}
use Rattle.lpt_node.specs.Restarts.{NoneOpen}

-- ---- names stay tied

-- a part was kept under a free name
pub tied-insert : (m : Marks) (es : Entries) (name : Name) (e : TableEntry)
    → state_at m name ≡ Free
    → AllTied m es
    → AllTied m (map.insert es name e)
tied-insert m es name e free all q =
    subst (IsTied (state_at m q)) (sym (get_insert es name e q)) (go (same_name q name) refl) where
      go : (b : Bool)
          → same_name q name ≡ b
          → IsTied (state_at m q) (cond b (Some e) (map.get es q))
      go true same =
          subst (λ s. IsTied s (Some e)) (sym (ap (state_at m) (same_name-true q name same)
          ∙ free)) tt
      go false other = all q

-- a reception has ended
pub tied-ended : (m : Marks) (es : Entries) (name : Name)
    → AllTied m es
    → AllTied (map.insert m name Shut) (map.remove es name)
tied-ended m es name all q =
    subst (IsTied (state_at (map.insert m name Shut) q)) (sym (get_remove es name q))
    (subst (λ o. IsTied (state_of o) (cond (same_name q name) None (map.get es q)))
    (sym (get_insert m name Shut q)) (go (same_name q name)))
  where
    go : (b : Bool)
        → IsTied (state_of (cond b (Some Shut) (map.get m q))) (cond b None (map.get es q))
    go true = refl
    go false = all q

-- ---- what always holds

-- the receptions changed, and names stay tied
pub sound-kept : (m : Marks) (old new : TableState) (name : Name) (e : TableEntry)
    → IsReceiver m old
    → state_at m name ≡ Free
    → new ≡ record old { entries = map.insert old.entries name e }
    → IsReceiver m new
sound-kept m old new name e sound free is =
    subst (λ (t : TableState). IsReceiver m t) (sym is)
    (record { settled = sound.settled; tied = tied-insert m old.entries name e free sound.tied })

-- a reception ended, or was put back
pub sound-out : {X E : Type 0} (r : Result X E) (m after : Marks) (old mid new : TableState)
    (name : Name) (before : Received)
    → IsReceiver m old
    → TakesOut old mid name
    → OnOk r (after ≡ map.insert m name Shut)
    → OnOk r (new ≡ record mid { out = None })
    → OnErr r (after ≡ m)
    → OnErr r (new ≡ put_back mid name before.parts)
    → before ≡ received_at old name
    → put_back mid name (parts_at old name) ≡ old
    → IsReceiver after new
sound-out (Ok x) m after old mid new name before sound out a b c d is law =
    let table : new ≡ record old { entries = map.remove old.entries name; out = None } =
    b ∙ ap (λ (t : TableState). record t { out = None }) out.now in
    subst (λ (t : TableState). IsReceiver after t) (sym table)
    (subst (λ (m : Marks).
    IsReceiver m (record old { entries = map.remove old.entries name; out = None }))
    (sym a) (record { settled = refl; tied = tied-ended m old.entries name sound.tied }))
sound-out (Err x) m after old mid new name before sound out a b c d is law =
    subst (λ (t : TableState). IsReceiver after t) (sym (d
    ∙ ap (λ (s : Received). put_back mid name s.parts) is ∙ law))
    (subst (λ (m : Marks). IsReceiver m old) (sym c) sound)

-- a gap was found before a reception was open
pub sound-gap : {X E : Type 0} (r : Result X E) (m after : Marks) (old new : TableState)
    (name : Name)
    → IsReceiver m old
    → OnOk r (after ≡ map.insert m name Shut)
    → OnErr r (after ≡ m)
    → is_open old name ≡ false
    → new ≡ old
    → IsReceiver after new
sound-gap (Ok x) m after old new name sound a b none is =
    subst (λ (t : TableState). IsReceiver after t) (sym is)
    (subst (λ (m : Marks). IsReceiver m old) (sym a) (record {
      settled = sound.settled;
      tied = subst (λ es. AllTied (map.insert m name Shut) es)
          (remove-none old.entries name none) (tied-ended m old.entries name sound.tied);
    }))
sound-gap (Err x) m after old new name sound a b none is =
    subst (λ (t : TableState). IsReceiver after t) (sym is)
    (subst (λ (m : Marks). IsReceiver m old) (sym b) sound)

-- a reception ended for its age
pub sound-expired : (m after : Marks) (old new : TableState) (name : Name)
    → IsReceiver m old
    → after ≡ map.insert m name Shut
    → new ≡ record old { entries = map.remove old.entries name }
    → IsReceiver after new
sound-expired m after old new name sound shut is =
    subst (λ (t : TableState). IsReceiver after t) (sym is)
    (subst (λ (m : Marks). IsReceiver m (record old { entries = map.remove old.entries name }))
    (sym shut)
    (record { settled = sound.settled; tied = tied-ended m old.entries name sound.tied }))

-- a name was made free
pub sound-retired : (m after : Marks) (t : TableState) (name : Name)
    → IsReceiver m t
    → after ≡ map.remove m name
    → IsReceiver after t
sound-retired m after t name sound is =
    subst (λ (m : Marks). IsReceiver m t) (sym is)
    (record {
      settled = sound.settled;
      tied = λ q.
          subst (λ o. IsTied (state_of o) (map.get t.entries q)) (sym (get_remove m name q))
          (go (map.get m q) (map.get t.entries q) (same_name q name) (sound.tied q));
    })
  where
    go : (x : Option Mark) (e : Option TableEntry) (b : Bool)
        → IsTied (state_of x) e
        → IsTied (state_of (cond b None x)) e
    go x e true tied = tt
    go x e false tied = tied

-- all receptions were dropped
pub sound-cleared : (m : Marks) (old new : TableState)
    → IsReceiver m old
    → new ≡ record old { entries = map.empty }
    → IsReceiver m new
sound-cleared m old new sound is =
    subst (λ (t : TableState). IsReceiver m t) (sym is)
    (record {
      settled = sound.settled;
      tied = λ q.
          subst (IsTied (state_at m q)) (sym (map.get-empty name_cmp q))
          (go (state_at m q) (map.get old.entries q) (sound.tied q));
    })
  where
    go : (s : State) (e : Option TableEntry) → IsTied s e → IsTied s None
    go Free e tied = tt
    go Open e tied = tied
    go Closed e tied = refl

-- last ticks were set back
pub sound-back : (m : Marks) (old new : TableState) (ticks : ℕ)
    → IsReceiver m old
    → new ≡ table_back ticks old
    → ((q : Name) → map.get (set_back ticks old.entries) q
    ≡ option_map (earlier ticks) (map.get old.entries q))
    → IsReceiver m new
sound-back m old new ticks sound is law =
    subst (λ (t : TableState). IsReceiver m t) (sym is)
    (record {
      settled = sound.settled;
      tied = λ q.
          subst (IsTied (state_at m q)) (sym (law q))
          (go (state_at m q) (map.get old.entries q) (sound.tied q));
    })
  where
    go : (s : State) (e : Option TableEntry) → IsTied s e → IsTied s (option_map (earlier ticks) e)
    go Free e tied = tt
    go Open e tied = tied
    go Closed e tied = ap (option_map (earlier ticks)) tied

-- no reception is open, and no name
pub sound-new : (limit timeout p : ℕ) (mode : Mode) (m : Marks) (t : TableState)
    → NoneOpen m
    → t ≡ no_receptions limit timeout p mode
    → IsReceiver m t
sound-new limit timeout p mode m t closed is =
    subst (λ (t : TableState). IsReceiver m t) (sym is)
    (record {
      settled = refl;
      tied = λ q.
          subst (IsTied (state_at m q)) (sym (map.get-empty name_cmp q))
          (go (state_at m q) (closed q));
    })
  where
    go : (s : State) → is_open_name s ≡ false → IsTied s None
    go Free h = tt
    go Open h = absurd cc
    go Closed h = refl

-- no name is open
pub never_open : (m : Marks) (es : Entries) → AllTied m es → NoneOpen m
never_open m es tied q = go (state_at m q) (map.get es q) (tied q) where
  go : (s : State) (e : Option TableEntry) → IsTied s e → is_open_name s ≡ false
  go Free e h = refl
  go Open e h = absurd h
  go Closed e h = refl

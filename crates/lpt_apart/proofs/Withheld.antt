-- Two ends withhold nothing that came whole.
use Rattle.std.proofs.Common.{◌≡◌, ◌∙◌, ap, sym, subst, refl, ℕ, Bool, true, false, ◌⊎◌, inl, inr, if◌then◌else◌, List, [], ◌∷◌, Option, Some, None}
use Rattle.lpt_packet.specs.declared.direction.Direction.{Direction}
use Rattle.lpt_packet.specs.Names.{Name}
use Rattle.lpt_memory.specs.Memories.{Contents}
use Rattle.lpt_events.specs.Configs.{IsConfig}
use Rattle.lpt_events.specs.declared.config.Config.{Config}
use Rattle.lpt_journal.specs.Replies.{history_after}
use Rattle.lpt_apart.specs.Ends.{Ends, Opened, Asked, Released, Aborted, Left, Retired, Restarted, Log, is_same}
use Rattle.lpt_apart.specs.TwoEnds.{is_of_it, message_awaited, AllDue, last_opened, is_aborted, last_released, WithholdsNothing, CameWhole}
use Rattle.lpt_apart.proofs.Awaiting.{of_it, awaits, awaited_is}
use Rattle.lpt_apart.proofs.Dues.{all_due}
use Rattle.lpt_apart.proofs.Ties.{Came, Leads}
use Rattle.lpt_events.specs.declared.entry.Opening.{Opening}
use Rattle.lpt_acts.specs.Acts.{Act}
use Rattle.lpt_events.specs.declared.outcome.Outcome.TheVariants.{Released}
use Rattle.lpt_journal.specs.Due.{due}
use Rattle.lpt_journal.specs.Journal.{History}
use Rattle.lpt_journal.specs.Legal.{Legal}
use Rattle.lpt_journal.specs.Receivers.{is_closed}
use Rattle.lpt_journal.specs.Senders.{current}
use Rattle.lpt_journal.specs.Whole as journal
use Rattle.lpt_journal.proofs.WholeLemmas.{not_whole}
use Rattle.lpt_apart.specs.Told.{log_told}

-- ---- what came whole isn't awaited

-- what came whole isn't awaited
not_awaited : (c : Config) (first : Contents) (es : List Act)
    → IsConfig c
    → Legal c first es
    → (d : Direction) (name : Name) (m : List ℕ)
    → CameWhole c (journal.came c (history_after c first es) d name) m
    → ¬ (message_awaited (log_told c (history_after c first es)) d name ≡ Some m)
not_awaited c first es good legal d name m all is =
    go (is_closed h d name) refl (current h d name) refl
    (sym (awaited_is c first es good legal d name) ∙ is) where
      h : History
      h = history_after c first es

      go : (b : Bool)
          → is_closed h d name ≡ b
          → (o : Option Opening)
          → current h d name ≡ o
          → awaits b o ≡ Some m
          → ⊥
      go true shut o now k = cc
      go false live None now k = cc
      go false live (Some o) now k =
          let same : m ≡ o.message = cc in
          not_whole c first es d name o good legal now live
          (subst (λ (m : List ℕ). CameWhole c (journal.came c h d name) m) same all)

-- ---- by the log

-- a message is awaited, or isn't and was released
abbrev IsNow : (awaits released : Option (List ℕ)) → List ℕ → Type 0
IsNow awaits released m = (awaits ≡ Some m) ⊎ ((awaits ≡ None) × (released ≡ Some m))

abbrev IsFate : Log → Direction → Name → List ℕ → Type 0
IsFate log d name m = IsNow (message_awaited log d name) (last_released log d name) m

-- what was last opened and not aborted since is awaited, or was released
fate : (log : Log) (d : Direction) (name : Name) (m : List ℕ)
    → AllDue log
    → last_opened log d name ≡ Some m
    → is_aborted log d name ≡ false
    → IsFate log d name m
fate [] d name m due now live = absurd cc
fate (Opened e i n ∷ log) d name m due now live =
    go (is_same e i d name) (fate log d name m due.0) now live where
      go : (b : Bool)
          → (last_opened log d name ≡ Some m → is_aborted log d name ≡ false
          → IsFate log d name m)
          → ◌≡◌ {A = Option (List ℕ)} (if b then Some n else last_opened log d name) (Some m)
          → (if b then false else is_aborted log d name) ≡ false
          → IsNow (if b then Some n else message_awaited log d name)
          (if b then None else last_released log d name) m
      go true before now live = inl now
      go false before now live = before now live
fate (Released of n ∷ log) d name m due now live =
    go (is_of_it of d name) refl (fate log d name m due.0 now live) where
      due_is : is_of_it of d name ≡ true → message_awaited log d name ≡ Some n
      due_is e =
          let t = of_it of d name e in
          let is : AllDue (Released (Some t.0) n ∷ log) =
          subst (λ (o : Option (Direction × Name)). AllDue (Released o n ∷ log)) t.1 due in
          (λ i. message_awaited log (sym t.2 i) (sym t.3 i)) ∙ is.1

      go : (b : Bool)
          → is_of_it of d name ≡ b
          → IsFate log d name m
          → IsNow (if b then None else message_awaited log d name)
          (if b then Some n else last_released log d name) m
      go true e (inl awaits) = inr (refl, sym (due_is e) ∙ awaits)
      go true e (inr gone) = absurd (let no = sym gone.0 ∙ due_is e in cc)
      go false e f = f
fate (Aborted e i ∷ log) d name m due now live =
    go (is_same e i d name) (fate log d name m due.0 now) live where
      go : (b : Bool)
          → (is_aborted log d name ≡ false → IsFate log d name m)
          → (if b then true else is_aborted log d name) ≡ false
          → IsNow (if b then None else message_awaited log d name) (last_released log d name) m
      go true before live = absurd cc
      go false before live = before live
fate (Retired e i ∷ log) d name m due now live =
    go (is_same e i d name) (λ now. fate log d name m due.0 now live) now where
      go : (b : Bool)
          → (last_opened log d name ≡ Some m → IsFate log d name m)
          → ◌≡◌ {A = Option (List ℕ)} (if b then None else last_opened log d name) (Some m)
          → IsNow (if b then None else message_awaited log d name) (last_released log d name) m
      go true before now = absurd cc
      go false before now = before now
fate (Asked b ∷ log) d name m due now live = fate log d name m due.0 now live
fate (Left how ∷ log) d name m due now live = fate log d name m due.0 now live
fate (Restarted side ∷ log) d name m due now live = fate log d name m due.0 now live

-- ---- of two ends

-- two ends that follow a world withhold nothing that came to it
pub withholds_nothing : (c : Config) (first : Contents) (usual : Type 0) (e : Ends) (parts : Came)
    → IsConfig c
    → Leads c first usual e parts
    → WithholdsNothing c e.log parts
withholds_nothing c first usual e parts good l d name m now all live =
    let t = l.follows.tied in
    let due : AllDue e.log =
    subst (λ (log : Log). AllDue log) t.tells (all_due c first good l.follows.events t.legal) in
    elim (fate e.log d name m due now live) [
      | inl awaits ↦
          absurd (not_awaited c first l.follows.events good t.legal d name m
          (λ k a b. l.comes d name k ∙ all k a b)
          (ap (λ (log : Log). message_awaited log d name) t.tells ∙ awaits))
      | inr released ↦ released.1
    ]

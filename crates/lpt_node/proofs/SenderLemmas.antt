-- A message is kept exactly where its sender is open.
use Rattle.std.proofs.Common.{◌≡◌, ◌≢◌, ◌∙◌, ap, sym, subst, refl, Bool, true, false, cond, Option, Some, None, is_some, List, ℕ, Result, Ok, Err}
use Rattle.std.specs.Result.{OnOk, OnErr}
use Rattle.std.specs.FinMap as map
use Rattle.lpt_packet.specs.Names.{Name, same_name, name_cmp}
use Rattle.lpt_packet.proofs.NameLemmas.{same_name-true}
use Rattle.lpt_ledger.specs.declared.state.State.{State}
use Rattle.lpt_ledger.specs.declared.state.State.TheVariants.{Free, Open, Closed}
use Rattle.lpt_ledger.specs.Marks.{Marks, Mark, Opened, Shut}
use Rattle.lpt_ledger.specs.States.{state_of, state_at}
use Rattle.lpt_node.specs.Nodes.{Messages, is_open}
use Rattle.lpt_events.specs.declared.config.Config.{Config}
use Rattle.lpt_events.specs.Configs.{IsConfig}
use Rattle.lpt_node.specs.NodeInside.{OpenMessages, AreKept, IsConfigured, IsSound}
use Rattle.lpt_node.specs.Receivers.{ReceiverState}
use Rattle.lpt_node.specs.Restarts.{NoneOpen}
use Rattle.lpt_node.proofs.MapLemmas.{get_insert, get_remove}

-- what is under a name in both maps, where it is this
abbrev Tied : Option Mark → Option (List ℕ) → Type 0
Tied x m = is_some m ≡ is_open (state_of x)

either : (b : Bool) (x y : Option Mark) (m n : Option (List ℕ)) → Tied x m → Tied y n
    → Tied (cond b x y) (cond b m n)
either true x y m n a b = a
either false x y m n a b = b

-- a sender was opened with its message
pub kept-opened : (m : Marks) (ms : Messages) (name : Name) (x : List ℕ)
    → AreKept m ms
    → AreKept (map.insert m name Opened) (map.insert ms name x)
kept-opened m ms name x all q =
    subst (λ o. is_some (map.get (map.insert ms name x) q)
    ≡ is_open (state_of o)) (sym (get_insert m name Opened q))
    (subst (λ n. is_some n
    ≡ is_open (state_of (cond (same_name q name) (Some Opened) (map.get m q))))
    (sym (get_insert ms name x q))
    (either (same_name q name) (Some Opened) (map.get m q) (Some x) (map.get ms q) refl (all q)))

-- a sender was closed, and its message let go
pub kept-closed : (m : Marks) (ms : Messages) (name : Name)
    → AreKept m ms
    → AreKept (map.insert m name Shut) (map.remove ms name)
kept-closed m ms name all q =
    subst (λ o. is_some (map.get (map.remove ms name) q)
    ≡ is_open (state_of o)) (sym (get_insert m name Shut q))
    (subst (λ n. is_some n
    ≡ is_open (state_of (cond (same_name q name) (Some Shut) (map.get m q))))
    (sym (get_remove ms name q))
    (either (same_name q name) (Some Shut) (map.get m q) None (map.get ms q) refl (all q)))

-- a name was made free that isn't open
pub kept-retired : (m : Marks) (ms : Messages) (name : Name)
    → AreKept m ms
    → state_at m name ≢ Open
    → AreKept (map.remove m name) ms
kept-retired m ms name all other q =
    all q
    ∙ go (same_name q name) refl
    ∙ ap (λ (o : Option Mark). is_open (state_of o)) (sym (get_remove m name q))
  where
    not_open : (s : State) → s ≢ Open → is_open s ≡ false
    not_open Free h = refl
    not_open Open h = absurd (h refl)
    not_open Closed h = refl

    go : (b : Bool)
        → same_name q name ≡ b
        → is_open (state_at m q) ≡ is_open (state_of (cond b None (map.get m q)))
    go true same = ap (λ (n : Name). is_open (state_at m n)) (same_name-true q name same)
        ∙ not_open (state_at m name) other
    go false apart = refl

-- ---- what always holds of an end

-- a message was opened
pub sound-opened : (c : Config) (m after : Marks) (r : ReceiverState) (o new : OpenMessages)
    (name : Name) (x : List ℕ)
    → IsSound c m r o
    → after ≡ map.insert m name Opened
    → new ≡ record o { messages = map.insert o.messages name x }
    → IsSound c after r new
sound-opened c m after r o new name x s a b = record {
  configured = s.configured;
  receiver = s.receiver;
  messages = ap (λ (o : OpenMessages). o.p) b ∙ s.messages;
  kept = subst (λ (n : OpenMessages). AreKept after n.messages) (sym b)
      (subst (λ (m : Marks). AreKept m (map.insert o.messages name x)) (sym a)
      (kept-opened m o.messages name x s.kept));
}

-- a message was opened, or handed back
pub sound-begun : {X E : Type 0} (t : Result X E) (c : Config) (m after : Marks) (r : ReceiverState)
    (o new : OpenMessages) (name : Name) (x : List ℕ)
    → IsSound c m r o
    → OnOk t (after ≡ map.insert m name Opened)
    → OnOk t (new ≡ record o { messages = map.insert o.messages name x })
    → OnErr t (after ≡ m)
    → OnErr t (new ≡ o)
    → IsSound c after r new
sound-begun (Ok y) c m after r o new name x s a b d e = sound-opened c m after r o new name x s a b
sound-begun (Err y) c m after r o new name x s a b d e =
    subst (λ (n : OpenMessages). IsSound c after r n) (sym e)
    (subst (λ (n : Marks). IsSound c n r o) (sym d) s)

-- a sender was closed
pub sound-closed : (c : Config) (m after : Marks) (r : ReceiverState) (o new : OpenMessages)
    (name : Name)
    → IsSound c m r o
    → after ≡ map.insert m name Shut
    → new ≡ record o { messages = map.remove o.messages name }
    → IsSound c after r new
sound-closed c m after r o new name s a b = record {
  configured = s.configured;
  receiver = s.receiver;
  messages = ap (λ (o : OpenMessages). o.p) b ∙ s.messages;
  kept = subst (λ (n : OpenMessages). AreKept after n.messages) (sym b)
      (subst (λ (m : Marks). AreKept m (map.remove o.messages name)) (sym a)
      (kept-closed m o.messages name s.kept));
}

-- a name was made free
pub sound-retired : (c : Config) (m after : Marks) (r : ReceiverState) (o : OpenMessages)
    (name : Name)
    → IsSound c m r o
    → after ≡ map.remove m name
    → state_at m name ≢ Open
    → IsSound c after r o
sound-retired c m after r o name s is other = record {
  configured = s.configured;
  receiver = s.receiver;
  messages = s.messages;
  kept = subst (λ (m : Marks). AreKept m o.messages) (sym is)
      (kept-retired m o.messages name s.kept other);
}

-- no name is open in an empty ledger
pub none_open_new : (m : Marks) → m ≡ map.empty → NoneOpen m
none_open_new m is =
    subst NoneOpen (sym is)
    (λ q. ap (λ (o : Option Mark). is_open (state_of o)) (map.get-empty name_cmp q))

-- no sender is open, and no message is kept
pub sound-new : (c : Config) (m : Marks) (r : ReceiverState) (o : OpenMessages)
    → IsConfig c
    → IsConfigured c r
    → NoneOpen m
    → o ≡ record { p = c.part_size; messages = map.empty }
    → IsSound c m r o
sound-new c m r o configured receiver closed is = record {
  configured = configured;
  receiver = receiver;
  messages = ap (λ (o : OpenMessages). o.p) is;
  kept = subst (λ (n : OpenMessages). AreKept m n.messages) (sym is)
      (λ q. ap is_some (map.get-empty name_cmp q) ∙ sym (closed q));
}

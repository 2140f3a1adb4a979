-- Every run of the service keeps the promise, step by step.
use Rattle.std.proofs.Common.{◌≡◌, ◌∙◌, ap, sym, subst, refl, ℕ, ◌+◌, ◌≤◌, Bool, true, false, ◌&&◌, if◌then◌else◌, inl, inr, List, [], ◌∷◌, ◌++◌, drop, Option, Some, None, arith}
use Rattle.std.specs.List.{Contains}
use Rattle.std.proofs.lemmas.List.{append-nil, append_assoc}
use Rattle.std.specs.Bool.{⊤}
use Rattle.lpt_packet.specs.declared.direction.Direction.{Direction}
use Rattle.lpt_packet.specs.Names.{Name, same_name}
use Rattle.lpt_packet.proofs.BoolLemmas.{and_left, and_right}
use Rattle.lpt_packet.proofs.NameLemmas.{same_name-true}
use Rattle.lpt_acts.specs.Acts as act
use Rattle.lpt_events.specs.Lanes.{same_direction}
use Rattle.lpt_events.proofs.LaneLemmas.{same_direction-true}
use Rattle.lpt_service.specs.Promise.{opens, releases, count, opened_after, last_opened, sent_by, requests_of, left_of, executed_of, AreOf, left_by, RunsKeepThePromise}
use Rattle.lpt_service.specs.Service.{Octets, Slot, Free, Opened, Over, Service, start, Step, Open, Send, Release, ReleaseRequest, GiveUp, Leave, FreeName, Restart, to_execute, after, IsRun}

-- a name that is compared with itself
abbrev same : Direction → Name → Direction → Name → Bool
same e other d name = same_direction e d && same_name other name

same_names : (s : Service) (e : Direction) (other : Name) (d : Direction) (name : Name)
    → same e other d name ≡ true
    → s.names d name ≡ s.names e other
same_names s e other d name is =
    let way = same_direction-true e d (and_left (same_direction e d) (same_name other name) is) in
    let named =
    same_name-true other name (and_right (same_direction e d) (same_name other name) is) in
    λ j. s.names (sym way j) (sym named j)

-- ---- once for each opening

-- how many releases a name is still good for
abbrev good_for : Slot → ℕ
good_for Free = 0
good_for (Opened message) = 1
good_for Over = 0

opened_adds : (b : Bool) (r o : ℕ) (m : Octets) (slot : Slot)
    → r ≤ o + good_for (if b then Opened m else slot)
    → r ≤ (if b then o + 1 else o) + good_for slot
opened_adds true r o m slot le = omega (arith, le)
opened_adds false r o m slot le = le

released_takes : (b : Bool) (r o : ℕ) (m : Octets) (slot : Slot)
    → (b ≡ true → slot ≡ Opened m)
    → r ≤ o + good_for (if b then Over else slot)
    → (if b then r + 1 else r) ≤ o + good_for slot
released_takes true r o m slot can le =
    let one : good_for slot ≡ 1 = ap good_for (can refl) in omega (arith, le, one)
released_takes false r o m slot can le = le

ended_takes : (b : Bool) (r o : ℕ) (slot : Slot)
    → r ≤ o + good_for (if b then Over else slot)
    → r ≤ o + good_for slot
ended_takes true r o slot le = omega (arith, le)
ended_takes false r o slot le = le

freed_takes : (b : Bool) (r o : ℕ) (slot : Slot)
    → r ≤ o + good_for (if b then Free else slot)
    → r ≤ o + good_for slot
freed_takes true r o slot le = omega (arith, le)
freed_takes false r o slot le = le

once : (apid : ℕ) (s : Service) (steps : List Step) (t : Service) (d : Direction) (name : Name)
    → IsRun apid s steps t
    → count (releases d name) steps ≤ count (opens d name) steps + good_for (s.names d name)
once apid s [] t d name run = omega arith
once apid s (Open e other m ∷ steps) t d name run =
    opened_adds (same e other d name) (count (releases d name) steps) (count (opens d name) steps) m
    (s.names d name) (once apid (after apid s (Open e other m)) steps t d name run.1)
once apid s (Release e other m ∷ steps) t d name run =
    released_takes (same e other d name) (count (releases d name) steps)
    (count (opens d name) steps) m (s.names d name) (λ is. same_names s e other d name is ∙ run.0)
    (once apid (after apid s (Release e other m)) steps t d name run.1)
once apid s (GiveUp e other ∷ steps) t d name run =
    ended_takes (same e other d name) (count (releases d name) steps) (count (opens d name) steps)
    (s.names d name) (once apid (after apid s (GiveUp e other)) steps t d name run.1)
once apid s (FreeName e other ∷ steps) t d name run =
    freed_takes (same e other d name) (count (releases d name) steps) (count (opens d name) steps)
    (s.names d name) (once apid (after apid s (FreeName e other)) steps t d name run.1)
once apid s (Send r ∷ steps) t d name run = once apid (after apid s (Send r)) steps t d name run.1
once apid s (ReleaseRequest r ∷ steps) t d name run =
    once apid (after apid s (ReleaseRequest r)) steps t d name run.1
once apid s (Leave how r ∷ steps) t d name run =
    once apid (after apid s (Leave how r)) steps t d name run.1
once apid s (Restart ∷ steps) t d name run = once apid (after apid s Restart) steps t d name run.1

-- ---- the message last opened

-- what can be released is what was last opened
abbrev Agrees : Slot → Option Octets → Type 0
Agrees (Opened m) o = o ≡ Some m
Agrees Free o = ⊤
Agrees Over o = ⊤

opened_agrees : (b : Bool) (m : Octets) (slot : Slot) (o : Option Octets)
    → Agrees slot o
    → Agrees (if b then Opened m else slot) (if b then Some m else o)
opened_agrees true m slot o had = refl
opened_agrees false m slot o had = had

ended_agrees : (b : Bool) (slot : Slot) (o : Option Octets)
    → Agrees slot o
    → Agrees (if b then Over else slot) o
ended_agrees true slot o had = tt
ended_agrees false slot o had = had

freed_agrees : (b : Bool) (slot : Slot) (o : Option Octets)
    → Agrees slot o
    → Agrees (if b then Free else slot) (if b then None else o)
freed_agrees true slot o had = tt
freed_agrees false slot o had = had

agrees : (apid : ℕ) (s : Service) (steps : List Step) (t : Service) (d : Direction) (name : Name)
    (o : Option Octets)
    → IsRun apid s steps t
    → Agrees (s.names d name) o
    → Agrees (t.names d name) (last_opened d name o steps)
agrees apid s [] t d name o run had = subst (λ u. Agrees (u.names d name) o) (sym run) had
agrees apid s (Open e other m ∷ steps) t d name o run had =
    agrees apid (after apid s (Open e other m)) steps t d name
    (opened_after d name (Open e other m) o) run.1
    (opened_agrees (same e other d name) m (s.names d name) o had)
agrees apid s (Release e other m ∷ steps) t d name o run had =
    agrees apid (after apid s (Release e other m)) steps t d name o run.1
    (ended_agrees (same e other d name) (s.names d name) o had)
agrees apid s (GiveUp e other ∷ steps) t d name o run had =
    agrees apid (after apid s (GiveUp e other)) steps t d name o run.1
    (ended_agrees (same e other d name) (s.names d name) o had)
agrees apid s (FreeName e other ∷ steps) t d name o run had =
    agrees apid (after apid s (FreeName e other)) steps t d name
    (opened_after d name (FreeName e other) o) run.1
    (freed_agrees (same e other d name) (s.names d name) o had)
agrees apid s (Send r ∷ steps) t d name o run had =
    agrees apid (after apid s (Send r)) steps t d name o run.1 had
agrees apid s (ReleaseRequest r ∷ steps) t d name o run had =
    agrees apid (after apid s (ReleaseRequest r)) steps t d name o run.1 had
agrees apid s (Leave how r ∷ steps) t d name o run had =
    agrees apid (after apid s (Leave how r)) steps t d name o run.1 had
agrees apid s (Restart ∷ steps) t d name o run had =
    agrees apid (after apid s Restart) steps t d name o run.1 had

-- ---- the memories

follow : (apid : ℕ) (s : Service) (steps : List Step) (t : Service)
    → IsRun apid s steps t
    → t.memories ≡ left_by apid (executed_of steps) s.memories
follow apid s [] t run = ap (λ (u : Service). u.memories) run
follow apid s (Leave act.Execute r ∷ steps) t run =
    follow apid (after apid s (Leave act.Execute r)) steps t run.1
follow apid s (Leave (act.Refuse code) r ∷ steps) t run =
    follow apid (after apid s (Leave (act.Refuse code) r)) steps t run.1
follow apid s (Leave act.Drop r ∷ steps) t run =
    follow apid (after apid s (Leave act.Drop r)) steps t run.1
follow apid s (Open e other m ∷ steps) t run =
    follow apid (after apid s (Open e other m)) steps t run.1
follow apid s (Send r ∷ steps) t run = follow apid (after apid s (Send r)) steps t run.1
follow apid s (Release e other m ∷ steps) t run =
    follow apid (after apid s (Release e other m)) steps t run.1
follow apid s (ReleaseRequest r ∷ steps) t run =
    follow apid (after apid s (ReleaseRequest r)) steps t run.1
follow apid s (GiveUp e other ∷ steps) t run =
    follow apid (after apid s (GiveUp e other)) steps t run.1
follow apid s (FreeName e other ∷ steps) t run =
    follow apid (after apid s (FreeName e other)) steps t run.1
follow apid s (Restart ∷ steps) t run = follow apid (after apid s Restart) steps t run.1

-- ---- the order in which requests leave

-- some of these are some of them with others before
behind : (xs zs ys : List Octets) → AreOf xs ys → AreOf xs (zs ++ ys)
behind xs [] ys had = had
behind [] (z ∷ zs) ys had = tt
behind (x ∷ xs) (z ∷ zs) ys had = inr (behind (x ∷ xs) zs ys had)

in_order : (apid : ℕ) (s : Service) (steps : List Step) (t : Service)
    → IsRun apid s steps t
    → AreOf (left_of steps) (s.waiting ++ requests_of steps)
in_order apid s [] t run = tt
in_order apid s (Leave how r ∷ steps) t run =
    let more = in_order apid (after apid s (Leave how r)) steps t run.1 in
    let front : s.waiting ≡ r ∷ run.0.0 = run.0.1 in
    subst (λ ws. AreOf (r ∷ left_of steps) (ws ++ requests_of steps)) (sym front)
    (inl (
      refl,
      subst (λ ws. AreOf (left_of steps) (drop 1 ws ++ requests_of steps)) front more,
    ))
in_order apid s (Release e other m ∷ steps) t run =
    subst (AreOf (left_of steps)) (append_assoc s.waiting (to_execute e m) (requests_of steps))
    (in_order apid (after apid s (Release e other m)) steps t run.1)
in_order apid s (ReleaseRequest r ∷ steps) t run =
    subst (AreOf (left_of steps)) (append_assoc s.waiting (r ∷ []) (requests_of steps))
    (in_order apid (after apid s (ReleaseRequest r)) steps t run.1)
in_order apid s (Restart ∷ steps) t run =
    behind (left_of steps) s.waiting (requests_of steps)
    (in_order apid (after apid s Restart) steps t run.1)
in_order apid s (Open e other m ∷ steps) t run =
    in_order apid (after apid s (Open e other m)) steps t run.1
in_order apid s (Send r ∷ steps) t run = in_order apid (after apid s (Send r)) steps t run.1
in_order apid s (GiveUp e other ∷ steps) t run =
    in_order apid (after apid s (GiveUp e other)) steps t run.1
in_order apid s (FreeName e other ∷ steps) t run =
    in_order apid (after apid s (FreeName e other)) steps t run.1

-- what is executed is of what leaves
executed_left : (steps : List Step) → AreOf (executed_of steps) (left_of steps)
executed_left [] = tt
executed_left (Leave act.Execute r ∷ steps) = inl (refl, executed_left steps)
executed_left (Leave (act.Refuse code) r ∷ steps) =
    behind (executed_of steps) (r ∷ []) (left_of steps) (executed_left steps)
executed_left (Leave act.Drop r ∷ steps) =
    behind (executed_of steps) (r ∷ []) (left_of steps) (executed_left steps)
executed_left (Open e other m ∷ steps) = executed_left steps
executed_left (Send r ∷ steps) = executed_left steps
executed_left (Release e other m ∷ steps) = executed_left steps
executed_left (ReleaseRequest r ∷ steps) = executed_left steps
executed_left (GiveUp e other ∷ steps) = executed_left steps
executed_left (FreeName e other ∷ steps) = executed_left steps
executed_left (Restart ∷ steps) = executed_left steps

-- ---- what was sent

sent : (apid : ℕ) (s : Service) (steps : List Step) (t : Service)
    → IsRun apid s steps t
    → t.sent ≡ s.sent ++ sent_by steps
sent apid s [] t run = ap (λ (u : Service). u.sent) run ∙ sym (append-nil s.sent)
sent apid s (Send r ∷ steps) t run =
    sent apid (after apid s (Send r)) steps t run.1
    ∙ append_assoc s.sent (r ∷ []) (sent_by steps)
sent apid s (Leave how r ∷ steps) t run = sent apid (after apid s (Leave how r)) steps t run.1
sent apid s (Open e other m ∷ steps) t run = sent apid (after apid s (Open e other m)) steps t run.1
sent apid s (Release e other m ∷ steps) t run =
    sent apid (after apid s (Release e other m)) steps t run.1
sent apid s (ReleaseRequest r ∷ steps) t run =
    sent apid (after apid s (ReleaseRequest r)) steps t run.1
sent apid s (GiveUp e other ∷ steps) t run = sent apid (after apid s (GiveUp e other)) steps t run.1
sent apid s (FreeName e other ∷ steps) t run =
    sent apid (after apid s (FreeName e other)) steps t run.1
sent apid s (Restart ∷ steps) t run = sent apid (after apid s Restart) steps t run.1

-- ---- all of it

pub runs_keep_the_promise : RunsKeepThePromise
runs_keep_the_promise = record {
  keeps = λ apid first steps s run. record {
    once = λ d name. omega (arith, once apid (start first) steps s d name run);
    in_order = in_order apid (start first) steps s run;
    executed = executed_left steps;
    memories = follow apid (start first) steps s run;
  };
  last = λ apid first steps s d name m run can.
      subst (λ slot. Agrees slot (last_opened d name None steps)) can
      (agrees apid (start first) steps s d name None run tt);
  asked = λ apid first steps s r run can.
      subst (λ rs. Contains rs r) (sent apid (start first) steps s run) can;
}

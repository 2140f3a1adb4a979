-- A message that was opened is sent in all its parts, and its sender is closed.
use Rattle.std.proofs.Common.{◌≡◌, ◌∙◌, ap, refl, ℕ, zero, suc, ◌<◌, ◌≤◌, ◌==◌, ◌||◌, nat_lt, false, if◌then◌else◌, List, [], ◌∷◌, ◌++◌, length, Option, Some, None, append-nil, arith}
use Rattle.std.proofs.lemmas.Bool.Decides.{nat_tests}
use Rattle.std.specs.Prelude.{reverse}
use Rattle.std.specs.FinMap as maps
use Rattle.lpt_packet.specs.declared.direction.Direction.TheVariants.{Down}
use Rattle.lpt_packet.specs.Names.{Name, IsName}
use Rattle.lpt_part.specs.Splitting.{part_count}
use Rattle.lpt_part.proofs.SplitLemmas.{part_count-most}
use Rattle.lpt_events.specs.Configs.{IsConfig}
use Rattle.lpt_events.specs.declared.config.Config.{Config}
use Rattle.lpt_events.specs.declared.side.Side.TheVariants.{Craft}
use Rattle.lpt_ledger.specs.Marks.{Marks}
use Rattle.lpt_ledger.specs.States.{state_at}
use Rattle.lpt_ledger.specs.declared.state.State.TheVariants.{Open}
use Rattle.lpt_node.specs.Nodes.{Messages, NodeData, message_at}
use Rattle.lpt_node.specs.Sending.{sender_closed, refusal_finish, refusal_finish_in, refusal_send, refusal_send_of, part_sent, sent_of}
use Rattle.lpt_node.specs.declared.fault.NodeFault.TheVariants.{NoSuchPart}
use Rattle.lpt_model.specs.Tickets.{no_tickets}
use Rattle.lpt_apart.specs.Ends.{Pair, Do, Finish, Send}
use Rattle.lpt_spacecraft.specs.Serving.{Onboard, all_sent, first_sent}
use Rattle.lpt_spacecraft.proofs.ServingLemmas.{sent-jobs}
use Rattle.lpt_spacecraft_moves.specs.Moves.{after_moves, octets_of}
use Rattle.lpt_spacecraft_moves.proofs.OpenedLemmas.{IsOpenedAt}
use Rattle.lpt_spacecraft_moves.proofs.Runs.{Reaches, octets-put, reaches-nothing, reaches-same, reaches-then}

-- ---- what a part leaves

sent_of_messages : (c : Config) (d : NodeData) (name : Name) (k : ℕ) (m : Option (List ℕ))
    → (sent_of Craft c d name k m).0.sending.messages ≡ d.sending.messages
sent_of_messages c d name k None = refl
sent_of_messages c d name k (Some m) = refl

sent_of_ledger : (c : Config) (d : NodeData) (name : Name) (k : ℕ) (m : Option (List ℕ))
    → (sent_of Craft c d name k m).0.sending.ledger ≡ d.sending.ledger
sent_of_ledger c d name k None = refl
sent_of_ledger c d name k (Some m) = refl

messages_sent : (c : Config) (d : NodeData) (name : Name) (k : ℕ)
    → (first_sent c d name k).0.sending.messages ≡ d.sending.messages
messages_sent c d name zero = refl
messages_sent c d name (suc k) =
    let before = (first_sent c d name k).0 in
    sent_of_messages c before name (suc k) (message_at before name) ∙ messages_sent c d name k

ledger_sent : (c : Config) (d : NodeData) (name : Name) (k : ℕ)
    → (first_sent c d name k).0.sending.ledger ≡ d.sending.ledger
ledger_sent c d name zero = refl
ledger_sent c d name (suc k) =
    let before = (first_sent c d name k).0 in
    sent_of_ledger c before name (suc k) (message_at before name) ∙ ledger_sent c d name k

jobs_sent : (c : Config) (d : NodeData) (name : Name) (k : ℕ) → (first_sent c d name k).0.jobs ≡
    d.jobs
jobs_sent c d name zero = refl
jobs_sent c d name (suc k) = sent-jobs c (first_sent c d name k).0 name (suc k) ∙ jobs_sent c d name
    k

-- no job changes
pub all_sent-jobs : (c : Config) (d : NodeData) (o : Option (Name × List ℕ)) →
    (all_sent c d o).0.jobs ≡ d.jobs
all_sent-jobs c d None = refl
all_sent-jobs c d (Some x) = jobs_sent c d x.0 (part_count (length x.1) c.part_size)

-- ---- the moves

has_part : (k n : ℕ) → 1 ≤ k → k ≤ n → ((k == 0) || nat_lt n k) ≡ false
has_part k n some most = grind (arith, nat_tests)

send_run : (c : Config) (p : Pair) (s : Onboard) (name : Name) (m : List ℕ) (k : ℕ)
    → p.ends.on_craft ≡ s.node
    → p.ends.memories ≡ s.memories
    → p.ends.tickets ≡ no_tickets
    → IsName name
    → message_at s.node name ≡ Some m
    → 1 ≤ k
    → k ≤ part_count (length m) c.part_size
    → k < 65536
    → Reaches c p (record { node = (part_sent Craft c s.node name k).0; memories = s.memories })
    ((part_sent Craft c s.node name k).1 ∷ [])
send_run c p s name m k node memories tickets named there some most fits = record {
  moves = Do (Send Down name k) ∷ [];
  own = (tt, tt);
  can = (
    (
      (named, fits),
      ap (λ (d : NodeData). refusal_send c d name k) node ∙ ap (refusal_send_of c k) there
          ∙ ap (λ b. if b then Some NoSuchPart else None)
          (has_part k (part_count (length m) c.part_size) some most),
    ),
    tt,
  );
  node = ap (λ (d : NodeData). (part_sent Craft c d name k).0) node;
  memories = memories;
  tickets = tickets;
  put = octets-put p.ends.on_the_way Down (Some name)
      ((part_sent Craft c p.ends.on_craft name k).1 ∷ [])
      ∙ ap (λ (d : NodeData). reverse ((part_sent Craft c d name k).1 ∷ []) ++ octets_of
      p.ends.on_the_way) node;
}

module _ (c : Config) (p : Pair) (s : Onboard) (name : Name) (m : List ℕ)
    (node : p.ends.on_craft ≡ s.node) (memories : p.ends.memories ≡ s.memories)
    (tickets : p.ends.tickets ≡ no_tickets) (named : IsName name)
    (there : message_at s.node name ≡ Some m) where
  -- the end after the first k parts
  abbrev after_parts : ℕ → Onboard
  after_parts k = record { node = (first_sent c s.node name k).0; memories = s.memories }

  parts_run : (k : ℕ)
      → k ≤ part_count (length m) c.part_size
      → part_count (length m) c.part_size < 65536
      → Reaches c p (after_parts k) (first_sent c s.node name k).1
  parts_run zero most fits = reaches-nothing c p (after_parts zero) node memories tickets
  parts_run (suc k) most fits =
      let r = parts_run k (omega arith) fits in
      reaches-then c p (after_parts k) (after_parts (suc k)) (first_sent c s.node name k).1
      ((part_sent Craft c (first_sent c s.node name k).0 name (suc k)).1 ∷ []) r
      (send_run c (after_moves c p r.moves) (after_parts k) name m (suc k) r.node r.memories
      r.tickets named
      (ap (λ (x : Messages). maps.get x name) (messages_sent c s.node name k) ∙ there)
      (omega arith) most (omega arith))

finish_run : (c : Config) (p : Pair) (s : Onboard) (name : Name)
    → p.ends.on_craft ≡ s.node
    → p.ends.memories ≡ s.memories
    → p.ends.tickets ≡ no_tickets
    → IsName name
    → state_at s.node.sending.ledger name ≡ Open
    → Reaches c p (record { node = sender_closed s.node name; memories = s.memories }) []
finish_run c p s name node memories tickets named open_there = record {
  moves = Do (Finish Down name) ∷ [];
  own = (tt, tt);
  can = (
    (
      named,
      ap (λ (d : NodeData). refusal_finish d name) node ∙ ap refusal_finish_in open_there,
    ),
    tt,
  );
  node = ap (λ (d : NodeData). sender_closed d name) node;
  memories = memories;
  tickets = tickets;
  put = refl;
}

-- what was opened, if anything, is sent
pub all-run : (c : Config) (p : Pair) (s : Onboard) (o : Option (Name × List ℕ))
    → IsConfig c
    → p.ends.on_craft ≡ s.node
    → p.ends.memories ≡ s.memories
    → p.ends.tickets ≡ no_tickets
    → ((x : Name × List ℕ) → o ≡ Some x → IsOpenedAt c s.node x)
    → Reaches c p (record { node = (all_sent c s.node o).0; memories = s.memories })
    (all_sent c s.node o).1
all-run c p s None good node memories tickets opens = reaches-nothing c p s node memories tickets
all-run c p s (Some x) good node memories tickets opens =
    let at = opens x refl in
    let n = part_count (length x.1) c.part_size in
    let few : n ≤ 16386 = part_count-most (length x.1) c.part_size good.part_size_fits at.long
    at.short in
    let r = parts_run c p s x.0 x.1 node memories tickets at.is_name at.message n (omega arith)
    (omega (arith, few)) in
    let sent_all : Onboard = record { node = (first_sent c s.node x.0 n).0; memories = s.memories }
    in
    let done : Onboard = record {
      node = sender_closed (first_sent c s.node x.0 n).0 x.0;
      memories =
          s.memories;
    } in
    reaches-same c p done done ((first_sent c s.node x.0 n).1 ++ []) (first_sent c s.node x.0 n).1
    refl
    (append-nil (first_sent c s.node x.0 n).1)
    (reaches-then c p sent_all done (first_sent c s.node x.0 n).1 [] r
    (finish_run c (after_moves c p r.moves) sent_all x.0 r.node r.memories r.tickets at.is_name
    (ap (λ (m : Marks). state_at m x.0) (ledger_sent c s.node x.0 n) ∙ at.state)))

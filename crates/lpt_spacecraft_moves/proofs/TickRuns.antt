-- A tick, and the receptions that are given up then.
use Rattle.std.proofs.Common.{◌≡◌, ◌∙◌, ap, refl, ℕ, zero, suc, [], ◌∷◌, ◌++◌, Option, Some, None}
use Rattle.std.specs.Prelude.{reverse, option_to_list}
use Rattle.lpt_acts.specs.Acts.{On}
use Rattle.lpt_packet.specs.declared.direction.Direction.TheVariants.{Down}
use Rattle.lpt_packet.specs.Names.{Name}
use Rattle.lpt_events.specs.declared.config.Config.{Config}
use Rattle.lpt_events.specs.declared.side.Side.TheVariants.{Craft}
use Rattle.lpt_node.specs.declared.expired.Expired.{Expired}
use Rattle.lpt_node.specs.declared.fault.NodeFault.{NodeFault}
use Rattle.lpt_node.specs.Nodes.{NodeData}
use Rattle.lpt_node.specs.Times.{due, reception_expired, expired_of, refusal_expire, refusal_expire_of, refusal_tick, clock_ticked}
use Rattle.lpt_model.specs.State.{as_list}
use Rattle.lpt_model.specs.Tickets.{no_tickets}
use Rattle.lpt_apart.specs.Ends.{Pair, Do, Expire, Tick}
use Rattle.lpt_spacecraft.specs.Serving.{Onboard, beaten, first_expired, ticked_by}
use Rattle.lpt_spacecraft_moves.specs.Moves.{after_moves, octets_of}
use Rattle.lpt_spacecraft_moves.proofs.Runs.{Reaches, as_list-same, octets-put, reaches-nothing, reaches-then}

-- ---- one reception

-- what a node that gives this up, or nothing, makes
abbrev made_of : Config → NodeData → Option Name → NodeData × Expired
made_of c d o = expired_of Craft c d o

expire_run : (c : Config) (p : Pair) (s : Onboard) (o : Option Name)
    → p.ends.on_craft ≡ s.node
    → p.ends.memories ≡ s.memories
    → p.ends.tickets ≡ no_tickets
    → due c s.node ≡ o
    → Reaches c p (record { node = (made_of c s.node o).0; memories = s.memories })
    (option_to_list (made_of c s.node o).1.packet)
expire_run c p s None node memories tickets is = reaches-nothing c p s node memories tickets
expire_run c p s (Some name) node memories tickets is =
    let same : reception_expired Craft c p.ends.on_craft ≡ made_of c s.node (Some name) =
    ap (reception_expired Craft c) node ∙ ap (made_of c s.node) is in
    record {
      moves = Do (Expire Craft None) ∷ [];
      own = (tt, tt);
      can = (ap (refusal_expire c) node ∙ ap refusal_expire_of is, tt);
      node = ap (λ (x : NodeData × Expired). x.0) same;
      memories = memories;
      tickets = tickets;
      put = octets-put p.ends.on_the_way Down None
          (as_list (reception_expired Craft c p.ends.on_craft).1.packet)
          ∙ ap (λ (x : NodeData × Expired). reverse (as_list x.1.packet) ++ octets_of
          p.ends.on_the_way) same
          ∙ ap (λ l. reverse l ++ octets_of p.ends.on_the_way)
          (as_list-same (made_of c s.node (Some name)).1.packet);
    }

expired_jobs : (c : Config) (d : NodeData) (o : Option Name) → (made_of c d o).0.jobs ≡ d.jobs
expired_jobs c d None = refl
expired_jobs c d (Some name) = refl

-- ---- all that are due

module _ (c : Config) (p : Pair) (s : Onboard) (node : p.ends.on_craft ≡ s.node)
    (memories : p.ends.memories ≡ s.memories) (tickets : p.ends.tickets ≡ no_tickets) where
  abbrev after_some : ℕ → Onboard
  after_some k = record { node = (first_expired c s.node k).0; memories = s.memories }

  expires_run : (k : ℕ) → Reaches c p (after_some k) (first_expired c s.node k).1
  expires_run zero = reaches-nothing c p (after_some zero) node memories tickets
  expires_run (suc k) =
      let r = expires_run k in
      let d = (first_expired c s.node k).0 in
      reaches-then c p (after_some k) (after_some (suc k)) (first_expired c s.node k).1
      (option_to_list (reception_expired Craft c d).1.packet) r
      (expire_run c (after_moves c p r.moves) (after_some k) (due c d) r.node r.memories r.tickets
      refl)

-- no job changes
pub first_expired-jobs : (c : Config) (d : NodeData) (k : ℕ) → (first_expired c d k).0.jobs ≡ d.jobs
first_expired-jobs c d zero = refl
first_expired-jobs c d (suc k) =
    let before = (first_expired c d k).0 in
    expired_jobs c before (due c before) ∙ first_expired-jobs c d k

-- ---- a tick

tick_run : (c : Config) (p : Pair) (s : Onboard) (o : Option NodeFault)
    → p.ends.on_craft ≡ s.node
    → p.ends.memories ≡ s.memories
    → p.ends.tickets ≡ no_tickets
    → refusal_tick s.node ≡ o
    → Reaches c p (record { node = ticked_by s.node o; memories = s.memories }) []
tick_run c p s None node memories tickets is = record {
  moves = Do (Tick Craft On) ∷ [];
  own = (tt, tt);
  can = (ap refusal_tick node ∙ is, tt);
  node = ap clock_ticked node;
  memories = memories;
  tickets = tickets;
  put = refl;
}
tick_run c p s (Some fault) node memories tickets is = reaches-nothing c p s node memories tickets

tick_jobs : (d : NodeData) (o : Option NodeFault) → (ticked_by d o).jobs ≡ d.jobs
tick_jobs d None = refl
tick_jobs d (Some fault) = refl

-- the clock is set on, and all that is due given up
pub beaten-run : (c : Config) (p : Pair) (s : Onboard)
    → p.ends.on_craft ≡ s.node
    → p.ends.memories ≡ s.memories
    → p.ends.tickets ≡ no_tickets
    → Reaches c p (beaten c s).0 (beaten c s).1
beaten-run c p s node memories tickets =
    let ticked_on : Onboard = record {
      node = ticked_by s.node (refusal_tick s.node);
      memories =
          s.memories;
    } in
    let r = tick_run c p s (refusal_tick s.node) node memories tickets refl in
    reaches-then c p ticked_on (beaten c s).0 [] (beaten c s).1 r
    (expires_run c (after_moves c p r.moves) ticked_on r.node r.memories r.tickets c.receptions)

-- nothing waits after it
pub beaten-idle : (c : Config) (s : Onboard) → s.node.jobs.jobs ≡ [] → (beaten c s).0.node.jobs.jobs
    ≡ []
beaten-idle c s idle =
    let o = refusal_tick s.node in
    ap (λ q. q.jobs) (first_expired-jobs c (ticked_by s.node o) c.receptions ∙ tick_jobs s.node o) ∙
    idle

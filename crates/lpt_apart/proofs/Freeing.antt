-- Two ends of which receivers have freed some names do a step as the others do, where no part of
-- these comes.
use Rattle.std.proofs.Common.{◌≡◌, ◌∙◌, ap, sym, subst, refl, ℕ, Bool, false, if◌then◌else◌, inl, inr, List, Option, Some, None}
use Rattle.std.specs.FinMap as maps
use Rattle.lpt_packet.specs.declared.direction.Direction.{Direction}
use Rattle.lpt_packet.specs.declared.direction.Direction.TheVariants.{Up, Down}
use Rattle.lpt_packet.specs.Names.{Name, name_cmp}
use Rattle.lpt_memory.specs.Memories.{Contents, sizes_of}
use Rattle.lpt_memory.specs.Readings.{Job}
use Rattle.lpt_events.specs.Arrivals.{Arrival, APart, arrival_in}
use Rattle.lpt_events.specs.Configs.{IsConfig}
use Rattle.lpt_events.specs.NamedParts.{NamedPart}
use Rattle.lpt_events.specs.declared.config.Config.{Config}
use Rattle.lpt_events.specs.declared.outcome.Outcome.{Outcome}
use Rattle.lpt_events.specs.declared.side.Side.{Side}
use Rattle.lpt_events.specs.declared.side.Side.TheVariants.{Ground, Craft}
use Rattle.lpt_events.specs.declared.worker.Worker.{Worker}
use Rattle.lpt_jobs.specs.Jobs.{oldest_unclaimed}
use Rattle.lpt_ledger.specs.Marks.{Marks}
use Rattle.lpt_node.specs.declared.accepted.Accepted.{Accepted}
use Rattle.lpt_node.specs.declared.expired.Expired.{Expired}
use Rattle.lpt_node.specs.Jobs.{Execution}
use Rattle.lpt_node.specs.Nodes.{Receiving, NodeData, message_at}
use Rattle.lpt_node.specs.Times.{which_ends}
use Rattle.lpt_table.specs.Tables.{Entries}
use Rattle.lpt_model.specs.State.{job_left}
use Rattle.lpt_model.specs.Tickets.{ticket_of}
use Rattle.lpt_apart.specs.Ends.{Ends, Step, Open, Send, Plain, Finish, Accept, Tick, Expire, Claim, Commit, Apply, Retire, Restart, after, sent_on, accepted_on, expired_on, claimed_on, committed_on, left_on}
use Rattle.lpt_apart.specs.TwoEnds.{CanHappen, came_by, is_reported, came_after}
use Rattle.lpt_apart.specs.Worlds.{IsEventStep}
use Rattle.lpt_apart.specs.Moves.{with_ledger, with_ledgers, KnowsLess}
use Rattle.lpt_apart.proofs.Lessening.{sent_less, sent_receiving, claimed_less, claimed_receiving, committed_less, committed_receiving, left_less, left_receiving}
use Rattle.lpt_apart.proofs.Fewer.{accepted_less, expired_less}
use Rattle.lpt_apart.proofs.Staleness.{is_stale}
use Rattle.lpt_apart.proofs.Unheard.{not_freed}
use Rattle.lpt_apart.proofs.Stepping.{lead_on}
use Rattle.lpt_apart.proofs.Ties.{Came, Leads}
use Rattle.lpt_apart.proofs.Freed.{IsLess, IsBut}
use Rattle.lpt_acts.specs.Acts.{Leaving, Limits, On, Back, Within}
use Rattle.lpt_table.specs.SettingBack.{earlier, set_back}
use Rattle.lpt_table.proofs.BackLemmas.{get-set_back}
use Rattle.std.specs.Option.{option_map}

-- ---- steps

module _ (c : Config) (first : Contents) (usual : Type 0) (good : IsConfig c)
    (freed : Direction → Name → Bool)
    (w : Ends) (parts : Came) (g k : Marks) (l : IsLess c first usual freed w parts g k) where
  -- what two ends are that know less
  abbrev ends : Ends
  ends = with_ledgers g k w

  -- the parts that came with a step of these
  abbrev came_with : Ends → Step → Came
  came_with e x d name n = came_after c e x d name n (parts d name n)

  -- a step that no receiver has a part in
  quiet : (x : Step)
      → (usual → IsEventStep x)
      → CanHappen c w x
      → with_ledgers g k (after c w x) ≡ after c ends x
      → came_with w x ≡ came_with ends x
      → (after c w x).on_ground.receiving ≡ w.on_ground.receiving
      → (after c w x).on_craft.receiving ≡ w.on_craft.receiving
      → IsBut c first usual freed (after c ends x) (came_with ends x)
  quiet x of_events can is same rg rk = record {
    whole = after c w x;
    on_ground = g;
    on_craft = k;
    less = record {
      leads =
          subst (λ (p : Came). Leads c first usual (after c w x) p) same
          (lead_on c first usual good w x parts l.leads of_events can);
      on_ground = subst (λ (r : Receiving). KnowsLess g (freed Down) r.ledger) (sym rg) l.on_ground;
      on_craft = subst (λ (r : Receiving). KnowsLess k (freed Up) r.ledger) (sym rk) l.on_craft;
      no_down = λ name gone. ap (λ (r : Receiving). maps.get r.entries name) rg
          ∙ l.no_down name gone;
      no_up = λ name gone. ap (λ (r : Receiving). maps.get r.entries name) rk ∙ l.no_up name gone;
    };
    is = is;
  }

  send : (d : Direction) (name : Name) (n : ℕ)
      → CanHappen c ends (Send d name n)
      → IsBut c first usual freed (after c ends (Send d name n)) (came_with ends (Send d name n))
  send Up name n can =
      quiet (Send Up name n) (λ u. tt) can
      (ap (λ (x : NodeData × List ℕ). sent_on ends Up name x)
      (sym (sent_less Ground c g w.on_ground name n (message_at w.on_ground name)))) refl
      (sent_receiving Ground c w.on_ground name n (message_at w.on_ground name)) refl
  send Down name n can =
      quiet (Send Down name n) (λ u. tt) can
      (ap (λ (x : NodeData × List ℕ). sent_on ends Down name x)
      (sym (sent_less Craft c k w.on_craft name n (message_at w.on_craft name))))
      refl refl (sent_receiving Craft c w.on_craft name n (message_at w.on_craft name))

  claim : (v : Worker)
      → CanHappen c ends (Claim v)
      → IsBut c first usual freed (after c ends (Claim v)) (came_with ends (Claim v))
  claim v can =
      quiet (Claim v) (λ u. tt) can
      (ap (λ (x : NodeData × Job). claimed_on ends v x)
      (sym (claimed_less k w.on_craft (oldest_unclaimed w.on_craft.jobs))))
      refl refl (claimed_receiving w.on_craft (oldest_unclaimed w.on_craft.jobs))

  commit : (v : Worker)
      → CanHappen c ends (Commit v)
      → IsBut c first usual freed (after c ends (Commit v)) (came_with ends (Commit v))
  commit v can =
      quiet (Commit v) (λ u. tt) can (is (ticket_of w.tickets v)) refl
      (same_g (ticket_of w.tickets v))
      (same_k (ticket_of w.tickets v)) where
        is : (o : Option Job) → with_ledgers g k (committed_on c w v o) ≡ committed_on c ends v o
        is None = refl
        is (Some t) =
            ap (λ (d : NodeData). record (committed_on c ends v (Some t)) { on_craft = d })
            (sym (committed_less k w.on_craft t.boot t.job (record {
              apid = c.apid;
              sizes = sizes_of w.memories;
              message = t.message;
            })))

        same_g : (o : Option Job)
            → (committed_on c w v o).on_ground.receiving ≡ w.on_ground.receiving
        same_g None = refl
        same_g (Some t) = refl

        same_k : (o : Option Job)
            → (committed_on c w v o).on_craft.receiving ≡ w.on_craft.receiving
        same_k None = refl
        same_k (Some t) =
            committed_receiving w.on_craft t.boot t.job (record {
              apid = c.apid;
              sizes = sizes_of w.memories;
              message = t.message;
            })

  apply : (how : Leaving)
      → (usual → IsEventStep (Apply how)) → CanHappen c ends (Apply how)
      → IsBut c first usual freed (after c ends (Apply how)) (came_with ends (Apply how))
  apply how of_events can =
      let same : ◌≡◌ {A = (NodeData × Execution) × Contents} (
        (
          with_ledger k (job_left how c w.on_craft w.memories).0.0,
          (job_left how c w.on_craft w.memories).0.1,
        ),
        (job_left how c w.on_craft w.memories).1,
      ) (job_left how c ends.on_craft w.memories) =
      sym (left_less how c k w.on_craft w.memories) in
      quiet (Apply how) of_events can
      (ap (λ (x : (NodeData × Execution) × Contents). left_on how ends x) same)
      (λ i d name n. if is_reported (same i).0.1.opened d name then false else parts d name n)
      refl (left_receiving how c w.on_craft w.memories)

  -- ---- moves of a receiver

  restart : (side : Side)
      → CanHappen c ends (Restart side)
      → IsBut c first usual freed (after c ends (Restart side)) (came_with ends (Restart side))
  restart Ground can = record {
    whole = after c w (Restart Ground);
    on_ground = g;
    on_craft = k;
    less = record {
      leads = lead_on c first usual good w (Restart Ground) parts l.leads (λ u. tt) tt;
      on_ground = l.on_ground;
      on_craft = l.on_craft;
      no_down = λ name gone. maps.get-empty name_cmp name;
      no_up = l.no_up;
    };
    is = refl;
  }
  restart Craft can = record {
    whole = after c w (Restart Craft);
    on_ground = g;
    on_craft = k;
    less = record {
      leads = lead_on c first usual good w (Restart Craft) parts l.leads (λ u. tt) tt;
      on_ground = l.on_ground;
      on_craft = l.on_craft;
      no_down = l.no_down;
      no_up = λ name gone. maps.get-empty name_cmp name;
    };
    is = refl;
  }

  -- a clock is set back, and the receptions with it
  none_back : (n : ℕ) (es : Entries) (name : Name)
      → maps.get es name ≡ None
      → maps.get (set_back n es) name ≡ None
  none_back n es name none = get-set_back n es name ∙ ap (option_map (earlier n)) none

  turn_back : (side : Side) (n : ℕ)
      → (usual → IsEventStep (Tick side (Back n)))
      → CanHappen c ends (Tick side (Back n))
      → IsBut c first usual freed (after c ends (Tick side (Back n)))
      (came_with ends (Tick side (Back n)))
  turn_back Ground n of_events can = record {
    whole = after c w (Tick Ground (Back n));
    on_ground = g;
    on_craft = k;
    less = record {
      leads = lead_on c first usual good w (Tick Ground (Back n)) parts l.leads of_events can;
      on_ground = l.on_ground;
      on_craft = l.on_craft;
      no_down = λ name gone. none_back n w.on_ground.receiving.entries name (l.no_down name gone);
      no_up = l.no_up;
    };
    is = refl;
  }
  turn_back Craft n of_events can = record {
    whole = after c w (Tick Craft (Back n));
    on_ground = g;
    on_craft = k;
    less = record {
      leads = lead_on c first usual good w (Tick Craft (Back n)) parts l.leads of_events can;
      on_ground = l.on_ground;
      on_craft = l.on_craft;
      no_down = l.no_down;
      no_up = λ name gone. none_back n w.on_craft.receiving.entries name (l.no_up name gone);
    };
    is = refl;
  }

  -- other limits leave all receptions
  turn_within : (side : Side) (m : Limits)
      → (usual → IsEventStep (Tick side (Within m)))
      → IsBut c first usual freed (after c ends (Tick side (Within m)))
      (came_with ends (Tick side (Within m)))
  turn_within Ground m of_events = record {
    whole = after c w (Tick Ground (Within m));
    on_ground = g;
    on_craft = k;
    less = record {
      leads = lead_on c first usual good w (Tick Ground (Within m)) parts l.leads of_events tt;
      on_ground = l.on_ground;
      on_craft = l.on_craft;
      no_down = l.no_down;
      no_up = l.no_up;
    };
    is = refl;
  }
  turn_within Craft m of_events = record {
    whole = after c w (Tick Craft (Within m));
    on_ground = g;
    on_craft = k;
    less = record {
      leads = lead_on c first usual good w (Tick Craft (Within m)) parts l.leads of_events tt;
      on_ground = l.on_ground;
      on_craft = l.on_craft;
      no_down = l.no_down;
      no_up = l.no_up;
    };
    is = refl;
  }

  expire : (side : Side) (which : Option Name)
      → (usual → IsEventStep (Expire side which))
      → CanHappen c ends (Expire side which)
      → IsBut c first usual freed (after c ends (Expire side which))
      (came_with ends (Expire side which))
  expire Ground which of_events can =
      let x = expired_less Ground c g w.on_ground (which_ends c w.on_ground which) (freed Down)
      l.on_ground (not_freed c w.on_ground (freed Down) which l.no_down) in
      record {
        whole = after c w (Expire Ground which);
        on_ground = x.marks;
        on_craft = k;
        less = record {
          leads = lead_on c first usual good w (Expire Ground which) parts l.leads of_events can;
          on_ground = x.knows;
          on_craft = l.on_craft;
          no_down = λ name gone. x.unheard name gone (l.no_down name gone);
          no_up = l.no_up;
        };
        is = ap (λ (y : NodeData × Expired). expired_on ends Ground y) (sym x.is);
      }
  expire Craft which of_events can =
      let x = expired_less Craft c k w.on_craft (which_ends c w.on_craft which) (freed Up)
      l.on_craft (not_freed c w.on_craft (freed Up) which l.no_up) in
      record {
        whole = after c w (Expire Craft which);
        on_ground = g;
        on_craft = x.marks;
        less = record {
          leads = lead_on c first usual good w (Expire Craft which) parts l.leads of_events can;
          on_ground = l.on_ground;
          on_craft = x.knows;
          no_down = l.no_down;
          no_up = λ name gone. x.unheard name gone (l.no_up name gone);
        };
        is = ap (λ (y : NodeData × Expired). expired_on ends Craft y) (sym x.is);
      }

  -- what may come to two ends may come to the others
  pub may_come : (d : Direction) (b : List ℕ)
      → CanHappen c ends (Accept d b)
      → CanHappen c w (Accept d b)
  may_come d b (inl on) =
      inl (record {
        place = on.place;
        packet = on.packet;
        there = on.there;
        goes = on.goes;
        octets = on.octets;
      })
  may_come d b (inr harmless) = inr harmless

  new_part : (d : Direction) (a : Arrival)
      → is_stale freed d a ≡ false
      → (q : NamedPart)
      → a ≡ APart q
      → freed d q.name ≡ false
  new_part d a new q is = ap (is_stale freed d) (sym is) ∙ new

  accept : (d : Direction) (b : List ℕ)
      → CanHappen c ends (Accept d b)
      → is_stale freed d (arrival_in c d b) ≡ false
      → IsBut c first usual freed (after c ends (Accept d b)) (came_with ends (Accept d b))
  accept Up b can new =
      let x = accepted_less Craft c k w.on_craft (arrival_in c Up b) (freed Up) l.on_craft
      (new_part Up (arrival_in c Up b) new) in
      record {
        whole = after c w (Accept Up b);
        on_ground = g;
        on_craft = x.marks;
        less = record {
          leads =
              subst (λ (o : Outcome). Leads c first usual (after c w (Accept Up b))
              (λ e name n. came_by Up (arrival_in c Up b) o e name n (parts e name n)))
              (ap (λ (y : NodeData × Accepted). y.1.outcome) (sym x.is))
              (lead_on c first usual good w (Accept Up b) parts l.leads (λ u. tt) (may_come Up b
              can));
          on_ground = l.on_ground;
          on_craft = x.knows;
          no_down = l.no_down;
          no_up = λ name gone. x.unheard name gone (l.no_up name gone);
        };
        is = ap (λ (y : NodeData × Accepted). accepted_on ends Up y) (sym x.is);
      }
  accept Down b can new =
      let x = accepted_less Ground c g w.on_ground (arrival_in c Down b) (freed Down) l.on_ground
      (new_part Down (arrival_in c Down b) new) in
      record {
        whole = after c w (Accept Down b);
        on_ground = x.marks;
        on_craft = k;
        less = record {
          leads =
              subst (λ (o : Outcome). Leads c first usual (after c w (Accept Down b))
              (λ e name n. came_by Down (arrival_in c Down b) o e name n (parts e name n)))
              (ap (λ (y : NodeData × Accepted). y.1.outcome) (sym x.is))
              (lead_on c first usual good w (Accept Down b) parts l.leads (λ u. tt) (may_come Down
              b can));
          on_ground = x.knows;
          on_craft = l.on_craft;
          no_down = λ name gone. x.unheard name gone (l.no_down name gone);
          no_up = l.no_up;
        };
        is = ap (λ (y : NodeData × Accepted). accepted_on ends Down y) (sym x.is);
      }

  -- ---- all of them

  -- what is handed over is no part of a freed name, and nothing is retired
  abbrev pub IsUsual : Step → Type 0
  IsUsual (Accept d b) = is_stale freed d (arrival_in c d b) ≡ false
  IsUsual (Retire d name) = ⊥
  IsUsual x = Unit {0}

  -- two ends that know less do a step
  pub step : (x : Step)
      → (usual → IsEventStep x)
      → CanHappen c ends x
      → IsUsual x
      → IsBut c first usual freed (after c ends x) (came_with ends x)
  step (Open Up name m) of_events can plain =
      quiet (Open Up name m) (λ u. tt) can refl refl refl refl
  step (Open Down name m) of_events can plain =
      quiet (Open Down name m) (λ u. tt) can refl refl refl refl
  step (Send d name n) of_events can plain = send d name n can
  step (Plain source flags service subtype body) of_events can plain =
      quiet (Plain source flags service subtype body) (λ u. tt) can refl refl refl refl
  step (Finish Up name) of_events can plain =
      quiet (Finish Up name) (λ u. tt) can refl refl refl refl
  step (Finish Down name) of_events can plain =
      quiet (Finish Down name) (λ u. tt) can refl refl refl refl
  step (Accept d b) of_events can plain = accept d b can plain
  step (Tick Ground On) of_events can plain =
      quiet (Tick Ground On) (λ u. tt) can refl refl refl refl
  step (Tick Craft On) of_events can plain = quiet (Tick Craft On) (λ u. tt) can refl refl refl refl
  step (Tick side (Back n)) of_events can plain = turn_back side n of_events can
  step (Tick side (Within m)) of_events can plain = turn_within side m of_events
  step (Expire side which) of_events can plain = expire side which of_events can
  step (Claim v) of_events can plain = claim v can
  step (Commit v) of_events can plain = commit v can
  step (Apply how) of_events can plain = apply how of_events can
  step (Retire d name) of_events can plain = absurd plain
  step (Restart side) of_events can plain = restart side can

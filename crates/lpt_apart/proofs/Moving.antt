-- Two ends that free names one after the other are a world's but for the freed names, and keep its
-- promise.
use Rattle.std.proofs.Common.{◌≡◌, ap, subst, refl, Bool, true, not, ◌&&◌, List, [], ◌∷◌, Some, is_some}
use Rattle.std.specs.List.{slice_get}
use Rattle.std.specs.FinMap as maps
use Rattle.lpt_packet.specs.declared.direction.Direction.{Direction}
use Rattle.lpt_packet.specs.declared.direction.Direction.TheVariants.{Up, Down}
use Rattle.lpt_packet.specs.Names.{Name, same_name}
use Rattle.lpt_memory.specs.Memories.{Contents}
use Rattle.lpt_memory.specs.Readings.{Source}
use Rattle.lpt_events.specs.Configs.{IsConfig}
use Rattle.lpt_events.specs.declared.config.Config.{Config}
use Rattle.lpt_jobs.specs.Jobs.{head_of, Ready}
use Rattle.lpt_ledger.specs.Marks.{Marks}
use Rattle.lpt_packet.proofs.BoolLemmas.{and_right, none_is}
use Rattle.lpt_journal.specs.Jobs.{left_by}
use Rattle.lpt_apart.specs.Ends.{Ends, no_ends, Accept, Retire, after, Pair, Move, Do, Free, pair_after}
use Rattle.lpt_apart.specs.TwoEnds.{AllDue, requests_executed as executed_in, waiting, IsPromised, came_moved, WithholdsNothing, CanMove}
use Rattle.lpt_apart.specs.Moves.{AreEventMoves, IsEventMove, came_to, CanMoveAll, with_ledgers, EndsApartAreAWorld}
use Rattle.lpt_apart.specs.Whole.{came_in}
use Rattle.lpt_apart.proofs.Promise.{promised}
use Rattle.lpt_apart.proofs.Withheld.{withholds_nothing}
use Rattle.lpt_apart.proofs.Stepping.{leads_off, lead_on, is_a_world}
use Rattle.lpt_apart.proofs.Freed.{IsLess, IsBut, less_removed, less_retired, removed_unheard, forgetting, forget}
use Rattle.lpt_apart.proofs.Freeing.{may_come, step}
use Rattle.lpt_apart.proofs.Silence.{AreSilent, AreMute, silent_on}
use Rattle.lpt_apart.proofs.Ties.{Came}
use Rattle.lpt_apart.proofs.Staleness.{are_mute, not_stale, silent_whole, mute_less}

module _ (c : Config) (first : Contents) (usual : Type 0) (good : IsConfig c)
    (freed : Direction → Name → Bool)
    (w : Ends) (parts : Came) (g k : Marks) (l : IsLess c first usual freed w parts g k)
    (silent : AreSilent freed (with_ledgers g k w)) where
  -- two ends that know less
  abbrev pair : Pair
  pair = record { ends = with_ledgers g k w; freed = freed }

  -- the receiver frees a name
  free : (d : Direction) (name : Name)
      → CanMove c pair (Free d name)
      → IsBut c first usual (pair_after c pair (Free d name)).freed
      (pair_after c pair (Free d name)).ends parts
  free Up name can = record {
    whole = forgetting Up name w;
    on_ground = g;
    on_craft = maps.remove k name;
    less = record {
      leads = forget c first usual Up name w parts l.leads;
      on_ground = l.on_ground;
      on_craft = less_removed k w.on_craft.receiving.ledger (freed Up) name l.on_craft;
      no_down = l.no_down;
      no_up = removed_unheard w.on_craft (freed Up) name l.no_up
          (none_is (maps.get w.on_craft.receiving.entries name) can.1.unheard);
    };
    is = refl;
  }
  free Down name can = record {
    whole = forgetting Down name w;
    on_ground = maps.remove g name;
    on_craft = k;
    less = record {
      leads = forget c first usual Down name w parts l.leads;
      on_ground = less_removed g w.on_ground.receiving.ledger (freed Down) name l.on_ground;
      on_craft = l.on_craft;
      no_down = removed_unheard w.on_ground (freed Down) name l.no_down
          (none_is (maps.get w.on_ground.receiving.entries name) can.1.unheard);
      no_up = l.no_up;
    };
    is = refl;
  }

  -- the sender frees a name too
  retire : (d : Direction) (name : Name)
      → CanMove c pair (Do (Retire d name))
      → IsBut c first usual (pair_after c pair (Do (Retire d name))).freed
      (pair_after c pair (Do (Retire d name))).ends parts
  retire Up name can = record {
    whole = after c w (Retire Up name);
    on_ground = g;
    on_craft = k;
    less = record {
      leads = lead_on c first usual good w (Retire Up name) parts l.leads (λ u. tt) (
        can.0,
        record {
          closed = silent.shut Up name can.1;
          unheard =
              ap is_some (l.no_up name can.1);
        },
      );
      on_ground = l.on_ground;
      on_craft = less_retired k w.on_craft.receiving.ledger (freed Up) name can.1 l.on_craft;
      no_down = l.no_down;
      no_up = λ q gone. l.no_up q (and_right (not (true && same_name name q)) (freed Up q) gone);
    };
    is = refl;
  }
  retire Down name can = record {
    whole = after c w (Retire Down name);
    on_ground = g;
    on_craft = k;
    less = record {
      leads = lead_on c first usual good w (Retire Down name) parts l.leads (λ u. tt) (
        can.0,
        record {
          closed = silent.shut Down name can.1;
          unheard =
              ap is_some (l.no_down name can.1);
        },
      );
      on_ground = less_retired g w.on_ground.receiving.ledger (freed Down) name can.1 l.on_ground;
      on_craft = l.on_craft;
      no_down = λ q gone. l.no_down q (and_right (not (true && same_name name q)) (freed Down q) gone);
      no_up = l.no_up;
    };
    is = refl;
  }

  -- a move
  move : (x : Move)
      → (usual → IsEventMove x)
      → CanMove c pair x
      → IsBut c first usual (pair_after c pair x).freed (pair_after c pair x).ends
      (λ d name n. came_moved c pair x d name n (parts d name n))
  move (Do (Accept d b)) of_events can =
      step c first usual good freed w parts g k l (Accept d b) (λ u. tt) can
      (not_stale c first usual freed w d b good l.leads.follows (silent_whole freed g k w silent)
      (may_come c first usual good freed w parts g k l d b can))
  move (Do (Retire d name)) of_events can = retire d name can
  move (Do x) of_events can = step c first usual good freed w parts g k l x of_events can tt
  move (Free d name) of_events can = free d name can

-- Two ends are a world's but for freed names, and of those no part comes.
pub record AreApart (c : Config) (first : Contents) (usual : Type 0) (p : Pair) (parts : Came)
    : Type 0 where
  pub but : IsBut c first usual p.freed p.ends parts
  pub silent : AreSilent p.freed p.ends

-- whatever moves they did
pub apart : (c : Config) (first : Contents) (usual : Type 0) (xs : List Move)
    → IsConfig c
    → (usual → AreEventMoves xs)
    → CanMoveAll c first xs
    → AreApart c first usual (came_to c first xs) (came_in c first xs)
apart c first usual [] good of_events can = record {
  but = record {
    whole = no_ends c first;
    on_ground = maps.empty;
    on_craft = maps.empty;
    less = record {
      leads = leads_off c first usual;
      on_ground = λ name. refl;
      on_craft = λ name. refl;
      no_down = λ name gone. absurd cc;
      no_up = λ name gone. absurd cc;
    };
    is = refl;
  };
  silent = record { shut = λ d name is. absurd cc; gone = λ d name is. refl };
}
apart c first usual (x ∷ xs) good of_events can =
    let p : Pair = came_to c first xs in
    let parts : Came = came_in c first xs in
    let a : AreApart c first usual p parts =
    apart c first usual xs good (λ u. (of_events u).0) can.0 in
    let b : IsBut c first usual p.freed p.ends parts = a.but in
    let mute : AreMute p.ends =
    subst (λ (e : Ends). AreMute e) b.is
    (mute_less b.on_ground b.on_craft b.whole (are_mute c first usual b.whole
    b.less.leads.follows)) in
    record {
      but =
          subst (λ (e : Ends). AreSilent p.freed e
          → CanMove c (record { ends = e; freed = p.freed }) x
          → IsBut c first usual (pair_after c (record { ends = e; freed = p.freed }) x).freed
          (pair_after c (record { ends = e; freed = p.freed }) x).ends
          (λ d name n.
          came_moved c (record { ends = e; freed = p.freed }) x d name n (parts d name n)))
          b.is
          (λ silent can.
          move c first usual good p.freed b.whole parts b.on_ground b.on_craft b.less silent x
          (λ u. (of_events u).1) can)
          a.silent can.1;
      silent = silent_on c p x can.1 mute a.silent;
    }

pub ends_apart_are_a_world : EndsApartAreAWorld
ends_apart_are_a_world c first xs good can =
    let b = (apart c first (AreEventMoves xs) xs good (λ u. u) can).but in
    record {
      whole = b.whole;
      on_ground = b.on_ground;
      on_craft = b.on_craft;
      world = is_a_world c first (AreEventMoves xs) b.whole good b.less.leads.follows;
      less_on_ground = b.less.on_ground;
      less_on_craft = b.less.on_craft;
      is = b.is;
    }

-- two ends that free a name one after the other keep the promise
pub ends_apart_keep_the_promise : (c : Config) (first : Contents) (xs : List Move)
    → IsConfig c
    → CanMoveAll c first xs
    → IsPromised c first (came_to c first xs).ends
ends_apart_keep_the_promise c first xs good can =
    let b = (apart c first ⊥ xs good (λ u. absurd u) can).but in
    let whole : IsPromised c first b.whole =
    promised c first ⊥ b.whole good (is_a_world c first ⊥ b.whole good b.less.leads.follows) in
    record {
      due = subst (λ (e : Ends). AllDue e.log) b.is whole.due;
      memories = subst (λ (e : Ends). e.memories ≡ left_by c.apid (executed_in e.log) first) b.is
          whole.memories;
      next = subst (λ (e : Ends). (r : Source)
          → head_of e.on_craft.jobs.jobs ≡ Ready r
          → slice_get (waiting e.log) 0 ≡ Some r.message) b.is whole.next;
    }

-- and withhold nothing
pub ends_apart_withhold_nothing : (c : Config) (first : Contents) (xs : List Move)
    → IsConfig c
    → CanMoveAll c first xs
    → WithholdsNothing c (came_to c first xs).ends.log (came_in c first xs)
ends_apart_withhold_nothing c first xs good can =
    let b = (apart c first ⊥ xs good (λ u. absurd u) can).but in
    subst (λ (e : Ends). WithholdsNothing c e.log (came_in c first xs)) b.is
    (withholds_nothing c first ⊥ b.whole (came_in c first xs) good b.less.leads)

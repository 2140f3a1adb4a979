-- Whatever comes to the spacecraft's end is a run of its moves.
use Rattle.std.proofs.Common.{◌≡◌, ◌∙◌, ap, refl, ℕ, List, [], ◌∷◌, Option, Some, None}
use Rattle.std.specs.Prelude.{option_to_list, IfSome}
use Rattle.lpt_packet.specs.Numbers.{IsOctets}
use Rattle.lpt_events.specs.Arrivals.{arrival}
use Rattle.lpt_events.specs.Configs.{IsConfig}
use Rattle.lpt_events.specs.declared.config.Config.{Config}
use Rattle.lpt_events.specs.declared.side.Side.TheVariants.{Craft}
use Rattle.lpt_jobs.specs.Jobs.{Jobs}
use Rattle.lpt_jobs.specs.declared.job.Job.TheVariants.{Waiting}
use Rattle.lpt_memory.specs.Memories.{sizes_of}
use Rattle.lpt_memory.specs.Readings.{Source}
use Rattle.lpt_node.specs.Accepting.{packet_accepted}
use Rattle.lpt_node.specs.Jobs.{job_executed}
use Rattle.lpt_model.specs.Tickets.{no_tickets}
use Rattle.lpt_packet.specs.declared.direction.Direction.TheVariants.{Up}
use Rattle.lpt_apart.specs.Ends.{Pair, Do, Accept}
use Rattle.lpt_apart.specs.TwoEnds.{CanMove}
use Rattle.lpt_spacecraft.specs.Flights.{Flight, Input, Astray, Came, Ticked, Cleared, names_cleared}
use Rattle.lpt_spacecraft.specs.Serving.{Onboard, all_sent, beaten, read_over, packet_taken, request_worked, worked_if}
use Rattle.lpt_spacecraft.specs.Streams.{WaitsFor}
use Rattle.lpt_spacecraft.proofs.ServingLemmas.{executed-jobs, read_over-jobs}
use Rattle.lpt_spacecraft_moves.specs.Moves.{after_moves, free_moves, octets_of, AreMovesFor, IsCraftOf, MayBring, ReleasesOctets}
use Rattle.lpt_spacecraft_moves.proofs.AcceptRuns.{accept-run, waits-accepted}
use Rattle.lpt_spacecraft_moves.proofs.ClearRuns.{clear-jobs, clear-run}
use Rattle.lpt_spacecraft_moves.proofs.OpenedLemmas.{executed-opened}
use Rattle.lpt_spacecraft_moves.proofs.PartRuns.{all-run, all_sent-jobs}
use Rattle.lpt_spacecraft_moves.proofs.RequestRuns.{request-run}
use Rattle.lpt_spacecraft_moves.proofs.Runs.{Reaches, reaches-nothing, reaches-then}
use Rattle.lpt_spacecraft_moves.proofs.TickRuns.{beaten-idle, beaten-run}

module _ (c : Config) (good : IsConfig c) (p : Pair) (s : Onboard)
    (node : p.ends.on_craft ≡ s.node) (memories : p.ends.memories ≡ s.memories)
    (tickets : p.ends.tickets ≡ no_tickets) where
  -- a request that waits is done with, and nothing waits
  worked_run : (m : List ℕ)
      → IsOctets m
      → s.node.jobs.jobs ≡ Waiting m ∷ []
      → Reaches c p (request_worked c s).0 (request_worked c s).1
      × ((request_worked c s).0.node.jobs.jobs ≡ [])
  worked_run m octets waits =
      let d = read_over c s.memories s.node in
      let x = job_executed c d s.memories in
      let alone = read_over-jobs c s.memories s.node m waits in
      let r = request-run c p s m node memories tickets waits in
      let after : Onboard = record { node = x.0.0; memories = x.1 } in
      let reading : Source = record { apid = c.apid; sizes = sizes_of s.memories; message = m } in (
        reaches-then c p after (request_worked c s).0 x.0.1.packets
            (all_sent c x.0.0 x.0.1.opened).1 r
            (all-run c (after_moves c p r.moves) after x.0.1.opened good r.node r.memories r.tickets
            (λ y e. executed-opened c d s.memories m y octets alone e)),
        ap (λ (q : Jobs). q.jobs) (all_sent-jobs c x.0.0 x.0.1.opened)
            ∙ executed-jobs c d s.memories reading alone,
      )

  -- the same, where something was released
  worked_if_run : (o : Option (List ℕ))
      → IfSome o IsOctets
      → WaitsFor o s.node.jobs.jobs
      → Reaches c p (worked_if c s o).0 (worked_if c s o).1 ×
      ((worked_if c s o).0.node.jobs.jobs ≡ [])
  worked_if_run None octets waits = (reaches-nothing c p s node memories tickets, waits)
  worked_if_run (Some m) octets waits = worked_run m octets waits

-- a packet
came_run : (c : Config) (p : Pair) (s : Onboard) (b : List ℕ)
    → IsConfig c
    → IsCraftOf p s
    → CanMove c p (Do (Accept Up b))
    → ReleasesOctets c s (Came b)
    → Reaches c p (packet_taken c s b).0 (packet_taken c s b).1
    × ((packet_taken c s b).0.node.jobs.jobs ≡ [])
came_run c p s b good at may octets =
    let x = packet_accepted Craft c s.node (arrival Craft c.apid c.part_size b) in
    let r = accept-run c p s b at may in
    let after : Onboard = record { node = x.0; memories = s.memories } in
    let done = worked_if_run c good (after_moves c p r.moves) after r.node r.memories r.tickets
    x.1.released octets
    (waits-accepted c s.node (arrival Craft c.apid c.part_size b) at.idle) in (
      reaches-then c p after (packet_taken c s b).0 (option_to_list x.1.packet)
          (worked_if c after x.1.released).1 r done.0,
      done.1,
    )

-- as what the law says
pub input-moves : (c : Config) (p : Pair) (f : Flight) (x : Input)
    → IsConfig c
    → IsCraftOf p f.end
    → MayBring c p f x
    → ReleasesOctets c f.end x
    → AreMovesFor c p f x
input-moves c p f (Came b) good at may octets =
    let done = came_run c p f.end b good at may octets in
    record {
      moves = done.0.moves;
      own = done.0.own;
      can = done.0.can;
      are = record {
        node = done.0.node;
        memories = done.0.memories;
        tickets = done.0.tickets;
        idle = done.1;
      };
      put = done.0.put;
    }
input-moves c p f Ticked good at may octets =
    let r = beaten-run c p f.end at.node at.memories at.tickets in
    record {
      moves = r.moves;
      own = r.own;
      can = r.can;
      are = record {
        node = r.node;
        memories = r.memories;
        tickets = r.tickets;
        idle = beaten-idle c f.end at.idle;
      };
      put = r.put;
    }
input-moves c p f (Astray place len) good at may octets =
    record { moves = []; own = tt; can = tt; are = at; put = refl }
input-moves c p f Cleared good at may octets =
    let x = names_cleared f.reuse f.end.node f.uses in
    let r = clear-run c f.reuse p f.end.node f.uses at.node may in
    record {
      moves = free_moves x.2;
      own = r.own;
      can = may;
      are = record {
        node = r.node;
        memories = r.memories ∙ at.memories;
        tickets = r.tickets ∙ at.tickets;
        idle = ap (λ (q : Jobs). q.jobs) (clear-jobs f.reuse f.end.node f.uses) ∙ at.idle;
      };
      put = ap octets_of r.way;
    }

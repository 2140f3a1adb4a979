-- What a log has as executed stays so, whatever move comes.
use Rattle.std.proofs.Common.{◌≡◌, ℕ, zero, suc, List, [], ◌∷◌, ◌++◌, take, Option, Some, None}
use Rattle.std.specs.List.{slice_get}
use Rattle.lpt_packet.specs.declared.direction.Direction.{Direction}
use Rattle.lpt_packet.specs.declared.direction.Direction.TheVariants.{Up, Down}
use Rattle.lpt_packet.specs.Names.{Name}
use Rattle.lpt_memory.specs.Memories.{Contents}
use Rattle.lpt_memory.specs.Readings.{Job}
use Rattle.lpt_events.specs.declared.config.Config.{Config}
use Rattle.lpt_events.specs.declared.outcome.Outcome.{Outcome}
use Rattle.lpt_events.specs.declared.outcome.Outcome.TheVariants.{Broken}
use Rattle.lpt_events.specs.declared.side.Side.TheVariants.{Ground, Craft}
use Rattle.lpt_events.specs.declared.worker.Worker.{Worker}
use Rattle.lpt_events.specs.declared.side.Side.{Side}
use Rattle.lpt_events.specs.Arrivals.{arrival_in}
use Rattle.lpt_events.specs.Sides.{receiver_side, direction_to}
use Rattle.lpt_node.specs.declared.accepted.Accepted.{Accepted}
use Rattle.lpt_node.specs.declared.expired.Expired.{Expired}
use Rattle.lpt_node.specs.Accepting.{packet_accepted}
use Rattle.lpt_node.specs.Jobs.{Execution}
use Rattle.lpt_acts.specs.Acts.{Leaving, Execute, Refuse, Drop}
use Rattle.lpt_node.specs.Nodes.{NodeData}
use Rattle.lpt_node.specs.Requests.{plain_made}
use Rattle.lpt_node.specs.Times.{expired_of, which_ends}
use Rattle.lpt_model.specs.State.{job_left, released_of}
use Rattle.lpt_model.specs.Tickets.{ticket_of}
use Rattle.lpt_apart.specs.Ends.{Ends, node_at, Fact, Opened, Asked, Released, Aborted, Left, Retired, Restarted, Log, with_abortion, Pair, Move, Do, Free, pair_after, Open, Send, Plain, Finish, Accept, Tick, Expire, Claim, Commit, Apply, Retire, Restart, with_release, with_report, requested_on, accepted_on, expired_on, committed_on, left_on}
use Rattle.lpt_apart.specs.TwoEnds.{waiting, requests_executed}
use Rattle.lpt_apart.specs.Moves.{came_to, CanMoveAll}
use Rattle.lpt_journal.proofs.TestLemmas.{no_place}

-- what a log has as executed another has too, at the same place
abbrev pub Grows : Log → Log → Type 0
Grows old new =
    (k : ℕ) (m : List ℕ) → slice_get (requests_executed old) k ≡ Some m
    → slice_get (requests_executed new) k ≡ Some m

same : (log : Log) → Grows log log
same log k m e = e

then : (a b c : Log) → Grows a b → Grows b c → Grows a c
then a b c f g k m e = g k m (f k m e)

in_front : {A : Type 0} (xs ys : List A) (k : ℕ) (y : A)
    → slice_get xs k ≡ Some y
    → slice_get (xs ++ ys) k ≡ Some y
in_front [] ys k y e = absurd (no_place k y e)
in_front (x ∷ xs) ys zero y e = e
in_front (x ∷ xs) ys (suc k) y e = in_front xs ys k y e

one_more : (x : Fact) (log : Log) → Grows log (x ∷ log)
one_more (Left Execute) log k m e = in_front (requests_executed log) (take 1 (waiting log)) k m e
one_more (Left (Refuse code)) log k m e = e
one_more (Left Drop) log k m e = e
one_more (Opened d i n) log k m e = e
one_more (Asked b) log k m e = e
one_more (Released of n) log k m e = e
one_more (Aborted d i) log k m e = e
one_more (Retired d i) log k m e = e
one_more (Restarted side) log k m e = e

release_grows : (log : Log) (of : Option (Direction × Name)) (o : Option (List ℕ))
    → Grows log (with_release log of o)
release_grows log of None = same log
release_grows log of (Some m) = one_more (Released of m) log

abortion_grows : (d : Direction) (o : Outcome) (log : Log) → Grows log (with_abortion d o log)
abortion_grows d (Broken name why) log = one_more (Aborted d name) log
abortion_grows d o log = same log

report_grows : (log : Log) (o : Option (Name × List ℕ)) → Grows log (with_report log o)
report_grows log None = same log
report_grows log (Some x) = one_more (Opened Down x.0 x.1) log

commit_grows : (c : Config) (e : Ends) (w : Worker) (o : Option Job)
    → Grows e.log (committed_on c e w o).log
commit_grows c e w None = same e.log
commit_grows c e w (Some t) = same e.log

plain_grows : (e : Ends) (x : NodeData × List ℕ) → Grows e.log (requested_on e x).log
plain_grows e x = one_more (Asked x.1) e.log

accept_grows : (e : Ends) (d : Direction) (x : NodeData × Accepted)
    → Grows e.log (accepted_on e d x).log
accept_grows e d x =
    let of = released_of d x.1.outcome in
    λ k m f. abortion_grows d x.1.outcome (with_release e.log of x.1.released) k m
    (release_grows e.log of x.1.released k m f)

expire_grows : (e : Ends) (side : Side) (x : NodeData × Expired)
    → Grows e.log (expired_on e side x).log
expire_grows e side x = one_more (Aborted (direction_to side) x.1.name) e.log

apply_grows : (how : Leaving) (e : Ends) (x : (NodeData × Execution) × Contents)
    → Grows e.log (left_on how e x).log
apply_grows how e x =
    λ k m f. one_more (Left how) (with_report e.log x.0.1.opened) k m
    (report_grows e.log x.0.1.opened k m f)

-- whatever move comes
pub move_grows : (c : Config) (p : Pair) (x : Move) → Grows p.ends.log (pair_after c p x).ends.log
move_grows c p (Do (Open d name m)) = one_more (Opened d name m) p.ends.log
move_grows c p (Do (Send Up name k)) = same p.ends.log
move_grows c p (Do (Send Down name k)) = same p.ends.log
move_grows c p (Do (Plain source flags service subtype body)) =
    plain_grows p.ends (plain_made c p.ends.on_ground source flags service subtype body)
move_grows c p (Do (Finish Up name)) = same p.ends.log
move_grows c p (Do (Finish Down name)) = same p.ends.log
move_grows c p (Do (Accept d b)) =
    accept_grows p.ends d
    (packet_accepted (receiver_side d) c (node_at p.ends (receiver_side d)) (arrival_in c d b))
move_grows c p (Do (Tick Ground turn)) = same p.ends.log
move_grows c p (Do (Tick Craft turn)) = same p.ends.log
move_grows c p (Do (Expire side which)) =
    expire_grows p.ends side
    (expired_of side c (node_at p.ends side) (which_ends c (node_at p.ends side) which))
move_grows c p (Do (Claim w)) = same p.ends.log
move_grows c p (Do (Commit w)) = commit_grows c p.ends w (ticket_of p.ends.tickets w)
move_grows c p (Do (Apply how)) =
    apply_grows how p.ends (job_left how c p.ends.on_craft p.ends.memories)
move_grows c p (Do (Retire d name)) = one_more (Retired d name) p.ends.log
move_grows c p (Do (Restart side)) = one_more (Restarted side) p.ends.log
move_grows c p (Free Up name) = same p.ends.log
move_grows c p (Free Down name) = same p.ends.log

-- what was executed after the first moves is so after all
pub moves_grow : (c : Config) (first : Contents) (later earlier : List Move)
    → Grows (came_to c first earlier).ends.log (came_to c first (later ++ earlier)).ends.log
moves_grow c first [] earlier = same (came_to c first earlier).ends.log
moves_grow c first (x ∷ later) earlier =
    λ k m e. move_grows c (came_to c first (later ++ earlier)) x k m
    (moves_grow c first later earlier k m e)

-- the first moves could be made
pub could_move : (c : Config) (first : Contents) (later earlier : List Move)
    → CanMoveAll c first (later ++ earlier)
    → CanMoveAll c first earlier
could_move c first [] earlier can = can
could_move c first (x ∷ later) earlier can = could_move c first later earlier can.0

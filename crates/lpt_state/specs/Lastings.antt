-- What of an end outlasts a restart, and the end that a restart makes of it.
use Rattle.std.specs.Prelude.{◌≡◌, ℕ, ◌+◌, ◌<◌, ◌^◌, List, length}
use Rattle.std.specs.FinMap as map
use Rattle.std.specs.List.{All}
use Rattle.lpt_acts.specs.Acts.{Limits, limits_of}
use Rattle.lpt_events.specs.declared.config.Config.{Config}
use Rattle.lpt_ledger.specs.declared.run.NameRun.{NameRun}
use Rattle.lpt_ledger.specs.Runs.{closed_by, runs_of, IsRun}
use Rattle.lpt_node.specs.Nodes.{NodeData, NodeView}
use Rattle.lpt_node.specs.Restarts.{node_resumed, node_restarted, NoneOpen, node_within, limits_at}

-- the number of the boot, the clock, and the names that were used, as runs: those of outgoing
-- transactions, and those of incoming ones that have ended
pub record Lasting : Type 0 where
  pub boot : ℕ
  pub clock : ℕ
  pub sent : List NameRun
  pub received : List NameRun

-- what of an end outlasts a restart
abbrev pub lasting_of : NodeData → Lasting
lasting_of d = record {
  boot = d.boot;
  clock = d.clock;
  sent = runs_of d.sending.ledger;
  received = runs_of d.receiving.ledger;
}

-- what is made of it within these limits: the next boot, in which nothing is open
abbrev pub after : Limits → Lasting → NodeData
after l s = node_resumed l (s.boot + 1) s.clock (closed_by s.sent) (closed_by s.received)

-- an end once it was restarted under another configuration, with the limits of that
abbrev pub restarted_as : Config → NodeView → NodeView
restarted_as c v =
    record v { config = c; at = node_within (limits_of c) (node_restarted v.at) }

-- two configurations differ in limits and first clocks alone
pub record IsBoundAlike (c d : Config) : Type 0 where
  pub apid : c.apid ≡ d.apid
  pub source : c.source ≡ d.source
  pub part_size : c.part_size ≡ d.part_size
  pub mode : c.mode ≡ d.mode

-- an end once it was restarted
abbrev pub restarted_node : NodeView → NodeView
restarted_node v = record v { at = node_restarted v.at }

-- runs whose numbers have 16 bits, fewer than a number of 64 bits can tell
pub record AreRuns (rs : List NameRun) : Type 0 where
  pub fit : All IsRun rs
  pub few : length rs < 2 ^ 64

-- the numbers of what outlasts fit
pub record Fits (s : Lasting) : Type 0 where
  pub boot_fits : s.boot < 2 ^ 64
  pub clock_fits : s.clock < 2 ^ 32
  pub sent_fit : AreRuns s.sent
  pub received_fit : AreRuns s.received

-- what holds of each end: its numbers fit, no name of an incoming transaction is open, and its
-- limits are those of its configuration
pub record IsEnd (v : NodeView) : Type 0 where
  pub fits : Fits (lasting_of v.at)
  pub none_open : NoneOpen v.at.receiving.ledger
  pub own_limits : limits_at v.at ≡ limits_of v.config

-- how many names an end has used
abbrev pub names_used : NodeData → ℕ
names_used d = map.len d.sending.ledger + map.len d.receiving.ledger

-- What a delivery leaves of an end's jobs: those that were there, and behind them maybe one that waits.
use Rattle.std.proofs.Common.{ℕ, List, [], ◌∷◌, ◌++◌, Option, Some, None}
use Rattle.lpt_packet.specs.Names.{Name}
use Rattle.lpt_events.specs.Arrivals.{Arrival, NotRead, AnIdle, Foreign, ARequest, AReport, NoPart, APart, AnAbort}
use Rattle.lpt_events.specs.declared.config.Config.{Config}
use Rattle.lpt_events.specs.declared.side.Side.{Side}
use Rattle.lpt_events.specs.declared.side.Side.TheVariants.{Ground, Craft}
use Rattle.lpt_jobs.specs.declared.job.Job.{Job}
use Rattle.lpt_jobs.specs.declared.job.Job.TheVariants.{Waiting}
use Rattle.lpt_node.specs.declared.receipt.Receipt.{Receipt}
use Rattle.lpt_node.specs.declared.receipt.Receipt.TheVariants as receipt
use Rattle.lpt_node.specs.Accepting.{packet_accepted}
use Rattle.lpt_node.specs.Nodes.{NodeData}
use Rattle.lpt_node.specs.Receivers.{part_received}
use Rattle.lpt_node.specs.Receiving.{abort_head, after_receipt, receiver_of, with_job, with_receiver, with_report}

module _ (P : List Job → Type 0) (waits : (js : List Job) (m : List ℕ) → P js → P (js ++ Waiting m ∷ [])) where
  jobs_reported : (d : NodeData) (o : Option (List ℕ)) → P d.jobs.jobs → P (with_report d o).jobs.jobs
  jobs_reported d None all = all
  jobs_reported d (Some o) all = all

  jobs_released : (side : Side) (d : NodeData) (m : List ℕ)
      → P d.jobs.jobs
      → P (with_job side d m).jobs.jobs
  jobs_released Ground d m all = all
  jobs_released Craft d m all = waits d.jobs.jobs m all

  jobs_after_receipt : (side : Side) (d : NodeData) (name : Name) (number : ℕ) (t : Receipt)
      → P d.jobs.jobs
      → P (after_receipt side d name number t).0.jobs.jobs
  jobs_after_receipt side d name number receipt.Closed all = all
  jobs_after_receipt side d name number receipt.Kept all = all
  jobs_after_receipt side d name number receipt.Again all = all
  jobs_after_receipt side d name number receipt.NoRoom all = all
  jobs_after_receipt side d name number (receipt.Whole m) all = jobs_released side d m all
  jobs_after_receipt side d name number (receipt.Conflict reason packet) all = jobs_reported d packet all

  -- what holds of the jobs, and still does with one that waits behind them, holds after a delivery
  pub jobs_accepted : (side : Side) (c : Config) (d : NodeData) (a : Arrival)
      → P d.jobs.jobs
      → P (packet_accepted side c d a).0.jobs.jobs
  jobs_accepted side c d NotRead all = all
  jobs_accepted side c d AnIdle all = all
  jobs_accepted side c d Foreign all = all
  jobs_accepted side c d (ARequest b) all = jobs_released side d b all
  jobs_accepted side c d (AReport service subtype) all = all
  jobs_accepted side c d NoPart all = all
  jobs_accepted side c d (AnAbort name reason) all = all
  jobs_accepted side c d (APart q) all =
      let x =
      part_received (abort_head side c d q.name.source) (receiver_of c d.receiving) q d.clock in
      jobs_after_receipt side (with_receiver d x.0) q.name q.number x.1 all

-- A node's faults, as a world tells them.
use Rattle.lpt_events.specs.declared.fault.StepFault.{StepFault}
use Rattle.lpt_events.specs.declared.fault.StepFault.TheVariants as step
use Rattle.lpt_node.specs.declared.fault.NodeFault.{NodeFault}
use Rattle.lpt_node.specs.declared.fault.NodeFault.TheVariants as node

-- a node's fault as the world tells it
abbrev pub node_fault : NodeFault → StepFault
node_fault node.InUse = step.InUse
node_fault node.Short = step.Short
node_fault node.Long = step.Long
node_fault node.TooMany = step.TooMany
node_fault node.NotOpen = step.NotOpen
node_fault node.NoSuchPart = step.NoSuchPart
node_fault node.NothingDue = step.NothingDue
node_fault node.NoJob = step.NoJob
node_fault node.NotReady = step.NotReady
node_fault node.ClockEnd = step.ClockEnd
node_fault node.Memory = step.Memory
node_fault node.PartRequest = step.PartRequest

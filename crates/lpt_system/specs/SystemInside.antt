-- The system as its state: both nodes, the link, tickets, memories, and what was opened and released.
use Rattle.lpt_system.specs.declared.system.System.{System}
use Rattle.lpt_model.specs.State.{State}
use Rattle.lpt_system.specs.TicketsInside.{tickets_of}

-- what the system has
abbrev pub state_of : System → State
state_of e = record {
  on_ground = e.on_ground.at;
  on_craft = e.on_craft.at;
  link = e.link.at;
  tickets = tickets_of e.tickets;
  memories = e.memories;
  opened = e.opened.items;
  released = e.released.items;
}

-- Why a call on a handle is refused: the number of the first fault, out of memory aside.
use Rattle.std.specs.Prelude.{ℕ, ◌+◌, ◌==◌, nat_lt, ◌||◌, if◌then◌else◌, List, length, Option, Some, None}
use Rattle.lpt_events.specs.Configs.{config_fault}
use Rattle.lpt_events.specs.Counts.{greatest_clock}
use Rattle.lpt_events.specs.declared.config_fault.ConfigFault.{ConfigFault}
use Rattle.lpt_events.specs.declared.side.Side.{Side}
use Rattle.lpt_events.specs.declared.side.Side.TheVariants.{Ground, Craft}
use Rattle.lpt_jobs.specs.Jobs.{claimed_in, jobs_numbered}
use Rattle.lpt_packet.specs.Names.{Name}
use Rattle.lpt_node.specs.Restarts.{may_retire}
use Rattle.lpt_node.specs.Requests.{refusal_plain}
use Rattle.lpt_node.specs.Sending.{refusal_open, refusal_send, refusal_finish}
use Rattle.lpt_node.specs.Times.{can_set_back, refusal_tick, refusal_expire, refusal_give_up}
use Rattle.lpt_node.specs.Jobs.{refusal_claim, refusal_apply}
use Rattle.lpt_c_end.specs.Codes.{already_read, node_code, clock_end, clock_start, config_code, still_open, bad_memories, range, empty, no_number, nothing, unsent}
use Rattle.lpt_c_end.specs.Contents.{can_be}
use Rattle.lpt_c_end.specs.Kept.{here_refusal, memories_refusal}
use Rattle.lpt_c_end.specs.Words.{side_from, direction_from, config_from}
use Rattle.lpt_c_end.specs.declared.end.End.{End}
use Rattle.lpt_c_end.specs.declared.memories.LptMemory.{LptMemory}
use Rattle.lpt_c_end.specs.declared.words.LptConfig.{LptConfig}

-- the greatest number of a job, or of a start
abbrev pub last_number : ℕ
last_number = 18446744073709551615

-- the refusal of a call on a handle: it holds no end, or its end refuses
abbrev pub refusal_by : (End → Option ℕ) → Option End → Option ℕ
refusal_by of None = Some empty
refusal_by of (Some e) = of e

-- ---- a new end

-- why an end of this side has no such memories; ground has none
abbrev pub memory_refusal : Side → List LptMemory → List ℕ → Option ℕ
memory_refusal Ground ms content = None
memory_refusal Craft ms content = if can_be (length content) ms then None else Some bad_memories

-- a fault of a configuration, or else this refusal
abbrev pub config_refusal : Option ConfigFault → Option ℕ → Option ℕ
config_refusal (Some fault) refusal = config_code (Some fault)
config_refusal None refusal = refusal

-- why no end is made
abbrev pub new_refusal : ℕ → LptConfig → List LptMemory → List ℕ → Option ℕ
new_refusal side c ms content =
    if nat_lt 1 side || nat_lt 1 c.mode then Some range
    else config_refusal (config_fault (config_from c))
    (memory_refusal (side_from side) ms content)

-- ---- the calls on an end

-- a packet is taken while there is a number for one job more
abbrev pub packet_refusal : End → Option ℕ
packet_refusal e = if jobs_numbered e.node.at.jobs == last_number then Some no_number else None

-- the clock isn't set on
abbrev pub tick_refusal : End → Option ℕ
tick_refusal e = node_code (refusal_tick e.node.at)

-- it isn't set so many ticks on
abbrev pub ticks_refusal : (ticks : ℕ) → End → Option ℕ
ticks_refusal ticks e =
    if nat_lt greatest_clock (e.node.at.clock + ticks) then Some clock_end else None

-- it isn't set so many ticks back
abbrev pub rebase_refusal : (ticks : ℕ) → End → Option ℕ
rebase_refusal ticks e = if can_set_back ticks e.node.at then None else Some clock_start

-- the reception of a name isn't given up
abbrev pub give_up_refusal : Name → End → Option ℕ
give_up_refusal name e = node_code (refusal_give_up e.node.at name)

-- no reception expires
abbrev pub expire_refusal : End → Option ℕ
expire_refusal e = node_code (refusal_expire e.config e.node.at)

-- a message isn't taken to be sent
abbrev pub open_refusal : Name → List ℕ → End → Option ℕ
open_refusal name message e = node_code (refusal_open e.config e.node.at name (length message))

-- the packet of a part isn't made
abbrev pub part_refusal : Name → (k : ℕ) → End → Option ℕ
part_refusal name k e = node_code (refusal_send e.config e.node.at name k)

-- what ground alone does
abbrev pub ground_refusal : Side → Option ℕ → Option ℕ
ground_refusal Ground refusal = refusal
ground_refusal Craft refusal = Some range

-- the packet of a plain request isn't made
abbrev pub plain_refusal : (flags service subtype : ℕ) → List ℕ → End → Option ℕ
plain_refusal flags service subtype body e =
    if nat_lt 15 flags then Some range
    else ground_refusal e.side (node_code (refusal_plain e.config service subtype (length body)))

-- a message isn't finished
abbrev pub finish_refusal : Name → End → Option ℕ
finish_refusal name e = node_code (refusal_finish e.node.at name)

-- a name isn't freed
abbrev pub retire_refusal : (direction : ℕ) → Name → End → Option ℕ
retire_refusal direction name e =
    if nat_lt 1 direction then Some range
    else if may_retire e.side e.node.at (direction_from direction) name then None
    else Some still_open

-- the state of a name isn't told
abbrev pub name_refusal : (direction : ℕ) → End → Option ℕ
name_refusal direction e = if nat_lt 1 direction then Some range else None

-- the end isn't restarted
abbrev pub restart_refusal : End → Option ℕ
restart_refusal e = if e.node.at.boot == last_number then Some no_number else None

-- no packet is let go
abbrev pub sent_refusal : End → Option ℕ
sent_refusal e = if length e.outbox.items == 0 then Some nothing else None

-- ---- the jobs, of which ground has none

-- a refusal, or else that packets are to be sent first
abbrev pub sending_refusal : Option ℕ → List (List ℕ) → Option ℕ
sending_refusal (Some fault) packets = Some fault
sending_refusal None packets = if length packets == 0 then None else Some unsent

-- no job is read
abbrev pub read_refusal : End → Option ℕ
read_refusal e = memories_refusal e.memories (node_code (refusal_claim e.node.at))

-- the oldest job of all isn't dropped unread
abbrev pub drop_refusal : End → Option ℕ
drop_refusal e =
    if claimed_in e.node.at.jobs.jobs == 0 then read_refusal e else Some already_read

-- no job is executed
abbrev pub execute_refusal : End → Option ℕ
execute_refusal e =
    here_refusal e.memories (sending_refusal (node_code (refusal_apply e.node.at)) e.outbox.items)

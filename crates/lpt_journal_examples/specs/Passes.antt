-- Worked passes: the configurations, the messages and the events.
use Rattle.std.specs.Prelude.{ℕ, List, [], ◌∷◌, ◌++◌, map, replicate, reverse, Some, None}
use Rattle.lpt_memory.specs.Memories.{Contents}
use Rattle.lpt_packet.specs.Names.{Name, named_by}
use Rattle.lpt_packet.specs.declared.direction.Direction.TheVariants.{Up, Down}
use Rattle.lpt_part.specs.declared.mode.Mode.TheVariants.{Any, Strict}
use Rattle.lpt_events.specs.Configs.{IsConfig}
use Rattle.lpt_events.specs.declared.config.Config.{Config}
use Rattle.lpt_acts.specs.Acts.{Execute, Act, Open, Send, Plain, Finish, Lose, Damage, Take, Deliver, Tick, Expire, Claim, Commit, Apply, Retire, Restart, On, Back, Within}
use Rattle.lpt_events.specs.declared.lane.Lane.TheVariants.{S1, S2, G1, G2}
use Rattle.lpt_events.specs.declared.reply.Answer.{Answer}
use Rattle.lpt_events.specs.declared.side.Side.TheVariants.{Ground, Craft}
use Rattle.lpt_events.specs.declared.worker.Worker.TheVariants.{W1, W2}
use Rattle.lpt_journal.specs.Journal.{History}
use Rattle.lpt_journal.specs.Legal.{Legal}
use Rattle.lpt_journal.specs.Replies.{history_after}

-- ---- what passes have in common

-- APID 100, source 1, parts of 8 octets
abbrev pub usual : Config
usual =
    record {
      apid = 100;
      source = 1;
      part_size = 8;
      timeout = 10;
      receptions = 8;
      outgoing = 8;
      clock = 0;
      mode = Any;
    }

-- the name of this identifier of the source 1
abbrev pub own : ℕ → Name
own id = named_by 1 id

-- the name of this identifier of another source
abbrev pub other : ℕ → Name
other id = named_by 2 id

-- one memory 1 of 256 octets of 0
abbrev pub usual_memories : Contents
usual_memories = (1, replicate 256 0) ∷ []

-- the history of a pass over that memory; a pass has its oldest event first
abbrev pub pass_history : Config → List Act → History
pass_history c es = history_after c usual_memories (reverse es)

-- what its events answered
abbrev pub answers : Config → List Act → List Answer
answers c es = reverse (map (λ x. x.reply.answer) (pass_history c es))

-- what is said of all legal journals is said of the pass: its configuration is one, and it is legal
pub record IsPass (c : Config) (es : List Act) : Type 0 where
  pub configured : IsConfig c
  pub legal : Legal c usual_memories (reverse es)

-- 20 octets, the numbers from 0
abbrev pub m20 : List ℕ
m20 = 0 ∷ 1 ∷ 2 ∷ 3 ∷ 4 ∷ 5 ∷ 6 ∷ 7 ∷ 8 ∷ 9 ∷ 10 ∷ 11 ∷ 12 ∷ 13 ∷ 14 ∷ 15 ∷ 16 ∷ 17 ∷ 18 ∷ 19 ∷ []

-- 9 octets
abbrev pub m9 : List ℕ
m9 = 0 ∷ 1 ∷ 2 ∷ 3 ∷ 4 ∷ 5 ∷ 6 ∷ 7 ∷ 8 ∷ []

-- ---- three parts that come in another order

-- the last part is delivered first
abbrev pub out_of_order : List Act
out_of_order =
    Open Up (own 7) m20
    ∷ Send Up (own 7) 1 ∷ Send Up (own 7) 2 ∷ Send Up (own 7) 3
    ∷ Take S1 2 ∷ Deliver S1
    ∷ Take S1 0 ∷ Deliver S1
    ∷ Take S1 1 ∷ Deliver S1 ∷ []

-- ---- one name in both directions

-- up 7 and down 7 are two transactions
abbrev pub both_ways : List Act
both_ways =
    Open Up (own 7) m20 ∷ Open Down (own 7) m9
    ∷ Send Up (own 7) 1 ∷ Send Down (own 7) 1 ∷ Send Up (own 7) 2 ∷ Send Down (own 7) 2 ∷ Send Up (own 7) 3
    ∷ Take S1 0 ∷ Deliver S1
    ∷ Take G1 1 ∷ Deliver G1
    ∷ Take S2 2 ∷ Deliver S2
    ∷ Take G2 3 ∷ Deliver G2
    ∷ Take S1 4 ∷ Deliver S1 ∷ []

-- ---- what the link's noise leaves

-- before and behind the first part, noise leaves three octets and none
abbrev pub noisy : List Act
noisy =
    Open Up (own 7) m9
    ∷ Damage Up (24 ∷ 100 ∷ 192 ∷ []) ∷ Send Up (own 7) 1 ∷ Damage Down [] ∷ Send Up (own 7) 2
    ∷ Take S1 0 ∷ Deliver S1 ∷ Take S1 1 ∷ Deliver S1
    ∷ Take G1 2 ∷ Deliver G1 ∷ Take S1 3 ∷ Deliver S1 ∷ []

-- ---- parts that are taken in the order of their numbers alone

-- parts are taken in order
abbrev pub strict : Config
strict = record usual { mode = Strict }

-- the third part comes behind the first, and then the second; ground gets the report of it
abbrev pub second_part_missing : List Act
second_part_missing =
    Open Up (own 7) m20
    ∷ Send Up (own 7) 1 ∷ Send Up (own 7) 2 ∷ Send Up (own 7) 3
    ∷ Take S1 0 ∷ Deliver S1
    ∷ Take S1 2 ∷ Deliver S1
    ∷ Take S1 1 ∷ Deliver S1
    ∷ Take G1 3 ∷ Deliver G1 ∷ []

-- the first part comes twice, and then each other one
abbrev pub in_order : List Act
in_order =
    Open Up (own 7) m20
    ∷ Send Up (own 7) 1 ∷ Send Up (own 7) 2 ∷ Send Up (own 7) 3
    ∷ Take S1 0 ∷ Deliver S1
    ∷ Take S1 0 ∷ Deliver S1
    ∷ Take S1 1 ∷ Deliver S1
    ∷ Take S1 2 ∷ Deliver S1 ∷ []

-- ---- two receptions with one last tick

-- a timeout of one tick
abbrev pub impatient : Config
impatient = record usual { timeout = 1 }

-- two receptions of one last tick and of two sources expire
abbrev pub two_expire : List Act
two_expire =
    Open Up (other 3) m9 ∷ Open Up (own 9) m9
    ∷ Send Up (other 3) 1 ∷ Send Up (own 9) 1
    ∷ Take S1 0 ∷ Deliver S1
    ∷ Take S1 1 ∷ Deliver S1
    ∷ Tick Craft On ∷ Expire Craft None ∷ Expire Craft None ∷ []

-- ---- a clock that is set back, and limits that an end gets later

-- The spacecraft's clock is set back between two parts, and then it has a timeout of two ticks and
-- room for one reception. The reception expires two ticks behind its last part. Another one is
-- given up before its time; both ends note that.
abbrev pub set_back : List Act
set_back =
    Open Up (own 7) m20 ∷ Send Up (own 7) 1 ∷ Send Up (own 7) 2
    ∷ Tick Craft On ∷ Tick Craft On ∷ Tick Craft On
    ∷ Take S1 0 ∷ Deliver S1
    ∷ Tick Craft (Back 2)
    ∷ Tick Craft (Within (record { timeout = 2; receptions = 1; outgoing = 8 }))
    ∷ Take S1 1 ∷ Deliver S1
    ∷ Open Up (own 8) m9 ∷ Send Up (own 8) 1 ∷ Take S2 2 ∷ Deliver S2
    ∷ Tick Craft On ∷ Tick Craft On ∷ Expire Craft None
    ∷ Take S1 2 ∷ Deliver S1 ∷ Expire Craft (Some (own 8))
    ∷ Take G1 4 ∷ Deliver G1 ∷ []

-- ---- a load that is executed

-- the body of a request to load four octets into memory 1 from place 16 on
abbrev pub load : List ℕ
load = 1 ∷ 1 ∷ 0 ∷ 0 ∷ 0 ∷ 16 ∷ 0 ∷ 4 ∷ 171 ∷ 205 ∷ 239 ∷ 1 ∷ 4 ∷ 162 ∷ []

-- the packet of the request with no flag set
abbrev pub load_packet : List ℕ
load_packet =
    24 ∷ 100 ∷ 192 ∷ 0 ∷ 0 ∷ 20 ∷ 32 ∷ 6 ∷ 2 ∷ 0 ∷ 1 ∷ 1 ∷ 1 ∷ 0 ∷ 0 ∷ 0 ∷ 16 ∷ 0 ∷ 4 ∷ 171 ∷ 205
    ∷ 239 ∷ 1 ∷ 4 ∷ 162 ∷ 127 ∷ 186 ∷ []

-- a worker reads the request before it is executed; ground gets the three reports that it asked for
abbrev pub executed_load : List Act
executed_load =
    Plain 1 15 6 2 load
    ∷ Take S1 0 ∷ Deliver S1
    ∷ Claim W1 ∷ Commit W1 ∷ Apply Execute
    ∷ Take G1 1 ∷ Deliver G1
    ∷ Take G1 2 ∷ Deliver G1
    ∷ Take G1 3 ∷ Deliver G1 ∷ []

-- the memory with those octets
abbrev pub loaded_memories : Contents
loaded_memories = (1, replicate 16 0 ++ 171 ∷ 205 ∷ 239 ∷ 1 ∷ replicate 236 0) ∷ []

-- ---- loads that are handed in in another order

-- the body of a request to load two octets of 0 over the first two of those
abbrev pub clear : List ℕ
clear = 1 ∷ 1 ∷ 0 ∷ 0 ∷ 0 ∷ 16 ∷ 0 ∷ 2 ∷ 0 ∷ 0 ∷ 29 ∷ 15 ∷ []

-- the second request's reading is handed in first
abbrev pub two_loads : List Act
two_loads =
    Plain 1 0 6 2 load ∷ Plain 1 0 6 2 clear
    ∷ Take S1 0 ∷ Deliver S1 ∷ Take S1 1 ∷ Deliver S1
    ∷ Claim W1 ∷ Claim W2 ∷ Commit W2 ∷ Commit W1 ∷ Apply Execute ∷ Apply Execute ∷ []

-- the memory with the second one's octets over the first one's
abbrev pub cleared_memories : Contents
cleared_memories = (1, replicate 18 0 ++ 239 ∷ 1 ∷ replicate 236 0) ∷ []

-- ---- a report that is too long for a packet of the link

-- the body of a request to dump so many octets of the memory from place 16 on
abbrev pub dump : ℕ → List ℕ
dump len = 1 ∷ 1 ∷ 0 ∷ 0 ∷ 0 ∷ 16 ∷ 0 ∷ len ∷ []

-- the packet of a request to dump three
abbrev pub dump_packet : List ℕ
dump_packet =
    24 ∷ 100 ∷ 192 ∷ 0 ∷ 0 ∷ 14 ∷ 32 ∷ 6 ∷ 5 ∷ 0 ∷ 1 ∷ 1 ∷ 1 ∷ 0 ∷ 0 ∷ 0 ∷ 16 ∷ 0 ∷ 3 ∷ 77 ∷ 44 ∷ []

-- the packet of the report of them
abbrev pub report_packet : List ℕ
report_packet =
    8 ∷ 100 ∷ 192 ∷ 0 ∷ 0 ∷ 25 ∷ 32 ∷ 6 ∷ 6 ∷ 0 ∷ 0 ∷ 0 ∷ 1 ∷ 0 ∷ 0 ∷ 0 ∷ 0 ∷ 1 ∷ 1 ∷ 0 ∷ 0 ∷ 0
    ∷ 16 ∷ 0 ∷ 3 ∷ 0 ∷ 0 ∷ 0 ∷ 204 ∷ 156 ∷ 201 ∷ 221 ∷ []

-- the report has 32 octets: it is opened, and goes down in four parts
abbrev pub large_report : List Act
large_report =
    Plain 1 0 6 5 (dump 3) ∷ Take S1 0 ∷ Deliver S1
    ∷ Claim W1 ∷ Commit W1 ∷ Apply Execute
    ∷ Send Down (own 0) 1 ∷ Send Down (own 0) 2 ∷ Send Down (own 0) 3 ∷ Send Down (own 0) 4
    ∷ Take G1 1 ∷ Deliver G1 ∷ Take G1 2 ∷ Deliver G1
    ∷ Take G1 3 ∷ Deliver G1 ∷ Take G1 4 ∷ Deliver G1 ∷ []

-- ---- both nodes are restarted, and a name is used again

-- The spacecraft is restarted while a worker reads a request. A message is released, and its name
-- then used for a shorter one. Ground is restarted while transactions are open.
abbrev pub names_renewed : List Act
names_renewed =
    Plain 1 0 6 2 load ∷ Take S1 0 ∷ Deliver S1
    ∷ Claim W1 ∷ Restart Craft ∷ Commit W1
    ∷ Open Up (own 7) m20 ∷ Send Up (own 7) 1 ∷ Send Up (own 7) 2 ∷ Send Up (own 7) 3
    ∷ Take S2 2
    ∷ Take S1 1 ∷ Deliver S1 ∷ Take S1 2 ∷ Deliver S1 ∷ Take S1 3 ∷ Deliver S1
    ∷ Lose 1 ∷ Lose 2 ∷ Lose 3
    ∷ Finish Up (own 7) ∷ Deliver S2 ∷ Retire Up (own 7)
    ∷ Open Up (own 7) m9 ∷ Send Up (own 7) 1 ∷ Send Up (own 7) 2
    ∷ Take S1 4 ∷ Deliver S1 ∷ Take S1 5 ∷ Deliver S1
    ∷ Claim W1 ∷ Commit W1
    ∷ Open Up (own 8) m9 ∷ Send Up (own 8) 1 ∷ Restart Ground ∷ Lose 6 ∷ Retire Up (own 8)
    ∷ Lose 4 ∷ Lose 5 ∷ Retire Up (own 7) ∷ Open Up (own 7) m20 ∷ Send Up (own 7) 1 ∷ []

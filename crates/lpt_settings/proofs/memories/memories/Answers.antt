use Rattle.std.proofs.Common.{codes}
use Rattle.toml.proofs.Views.{table_get}
use Rattle.lpt_settings.proofs.memories.memories.Goals as goal

-- the key is there
pub returns-in-Some : goal.returns-in-Some
returns-in-Some c =
    let entries = c.args.table.now.entries in
    let found = table_get c.get.result (codes "memory") entries c.get.ensures.value in
    rw (← rw c.in-Some.is at found) c.memories_listed.ensures

-- the key is absent
pub returns-in-None : goal.returns-in-None
returns-in-None c =
    let entries = c.args.table.now.entries in
    let found = table_get c.get.result (codes "memory") entries c.get.ensures.value in
    rw (← rw c.in-None.is at found) c.default_memories.ensures

-- What is told of the faults by which a command ends, its status then, and of which others they
-- come.
use Rattle.std.specs.Prelude.{ℕ, List, codes}
use Rattle.lpt_text.specs.declared.fault.StreamFault.{StreamFault}
use Rattle.lpt_text.specs.declared.fault.StreamFault.TheVariants as streams
use Rattle.lpt_settings.specs.declared.fault.SettingsFault.{SettingsFault}
use Rattle.lpt_settings.specs.declared.fault.SettingsFault.TheVariants as settings
use Rattle.lpt_io.specs.declared.fault.Fault.{Fault}
use Rattle.lpt_io.specs.declared.fault.Fault.TheVariants.{Read, Write, Line, Memory, Config, Threads}
use Rattle.lpt_io.specs.declared.fault.Status.{Status}
use Rattle.lpt_io.specs.declared.fault.Status.TheVariants.{Unreadable, Failed}

-- what standard error is told of the fault: nothing of a line
abbrev pub words_of : Fault → List ℕ
words_of Read = codes "Read"
words_of Write = codes "Write"
words_of Line = codes ""
words_of Memory = codes "Memory"
words_of Config = codes "config refused"
words_of Threads = codes "Threads"

-- the status by which the program ends by it
abbrev pub status_of : Fault → Status
status_of Read = Failed
status_of Write = Failed
status_of Line = Unreadable
status_of Memory = Failed
status_of Config = Unreadable
status_of Threads = Failed

-- the fault of work on a stream
abbrev pub of_stream : StreamFault → Fault
of_stream streams.Read = Read
of_stream streams.Write = Write
of_stream streams.Memory = Memory

-- the fault of a configuration that isn't read
abbrev pub of_settings : SettingsFault → Fault
of_settings settings.Config = Config
of_settings settings.Memory = Memory

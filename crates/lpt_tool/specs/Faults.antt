-- The numbers and names of the faults by which the tool ends, and of which others they come.
use Rattle.std.specs.Prelude.{ℕ, List, codes, Result, Ok, Err}
use Rattle.lpt_text.specs.declared.fault.StreamFault.{StreamFault}
use Rattle.lpt_text.specs.declared.fault.StreamFault.TheVariants as streams
use Rattle.lpt_script.specs.declared.fault.ScriptFault.{ScriptFault}
use Rattle.lpt_script.specs.declared.fault.ScriptFault.TheVariants as scripts
use Rattle.lpt_settings.specs.declared.fault.SettingsFault.{SettingsFault}
use Rattle.lpt_settings.specs.declared.fault.SettingsFault.TheVariants as settings
use Rattle.lpt_tool.specs.declared.fault.ToolFault.{ToolFault}
use Rattle.lpt_tool.specs.declared.fault.ToolFault.TheVariants.{Read, Write, Line, Memory, Config, Threads}

-- the fault's number
abbrev pub code_of : ToolFault → ℕ
code_of Read = 81
code_of Write = 82
code_of (Line number) = 83
code_of Memory = 84
code_of Config = 85
code_of (Threads fault) = 86

-- the fault's name
abbrev pub name_of : ToolFault → List ℕ
name_of Read = codes "Read"
name_of Write = codes "Write"
name_of (Line number) = codes "Line"
name_of Memory = codes "Memory"
name_of Config = codes "Config"
name_of (Threads fault) = codes "Threads"

-- the fault of work on a stream
abbrev pub of_stream : StreamFault → ToolFault
of_stream streams.Read = Read
of_stream streams.Write = Write
of_stream streams.Memory = Memory

-- the fault of a script
abbrev pub of_script : ScriptFault → ToolFault
of_script (scripts.Stream fault) = of_stream fault
of_script (scripts.Line number) = Line number
of_script scripts.Config = Config

-- the fault of a configuration
abbrev pub of_settings : SettingsFault → ToolFault
of_settings settings.Config = Config
of_settings settings.Memory = Memory

-- what work on a stream gives, in the words of the tool
abbrev pub of_streams : {A : Type 0} → Result A StreamFault → Result A ToolFault
of_streams (Ok done) = Ok done
of_streams (Err fault) = Err (of_stream fault)

-- what a script gives
abbrev pub of_scripts : {A : Type 0} → Result A ScriptFault → Result A ToolFault
of_scripts (Ok done) = Ok done
of_scripts (Err fault) = Err (of_script fault)

-- what an end says of the streams: nothing else is their fault
abbrev pub streams_end : {A : Type 0} → Result A ToolFault → Result Unit StreamFault
streams_end (Ok done) = Ok tt
streams_end (Err Read) = Err streams.Read
streams_end (Err Write) = Err streams.Write
streams_end (Err Memory) = Err streams.Memory
streams_end (Err (Line number)) = Ok tt
streams_end (Err Config) = Ok tt
streams_end (Err (Threads fault)) = Ok tt

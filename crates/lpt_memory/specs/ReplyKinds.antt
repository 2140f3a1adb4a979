-- The message subtypes of the reports that answer requests.
use Rattle.std.specs.Prelude.{ℕ}
use Rattle.lpt_memory.specs.declared.reply_kind.ReplyKind.{ReplyKind}
use Rattle.lpt_memory.specs.declared.reply_kind.ReplyKind.TheVariants.{Dump, Check}

-- raw memory data report, or raw memory checksum report
abbrev pub subtype_of : ReplyKind → ℕ
subtype_of Dump = 6
subtype_of Check = 10

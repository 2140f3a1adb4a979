-- How what is open at an end is told, one by one.
use Rattle.std.specs.Prelude.{◌≡◌, ℕ, ◌+◌, ◌==◌, if◌then◌else◌, List, length, slice_get, Option, Some, None, IsSomeAnd}
use Rattle.std.specs.FinMap as map
use Rattle.std.specs.Option.{option_and_then, option_map, unwrap_or}
use Rattle.lpt_packet.specs.Names.{Name}
use Rattle.lpt_part.specs.Splitting.{part_count}
use Rattle.lpt_reception.specs.Missing.{IsLastNumber, IsNextMissing}
use Rattle.lpt_table.specs.Tables.{TableEntry}
use Rattle.lpt_node.specs.Nodes.{message_at}
use Rattle.lpt_c_end.specs.Codes.{all_done, empty, not_open, nothing}
use Rattle.lpt_c_end.specs.Words.{name_word}
use Rattle.lpt_c_end.specs.declared.end.End.{End}
use Rattle.lpt_c_end.specs.declared.walking.LptReception.{LptReception}
use Rattle.lpt_c_end.specs.declared.walking.LptSender.{LptSender}

-- if there is none nothing is told
abbrev pub none_refusal : {A : Type 0} → Option A → Option ℕ
none_refusal None = Some nothing
none_refusal (Some x) = None

-- ---- open receptions

-- the name of this number, from 0, among those of open receptions, in the order of names
abbrev pub reception_name : (number : ℕ) → End → Option Name
reception_name number e = slice_get (map.keys e.node.at.receiving.entries) number

-- why no reception of this number is told
abbrev pub reception_refusal : (number : ℕ) → End → Option ℕ
reception_refusal number e = none_refusal (reception_name number e)

-- a number, of which 0 says that there is none
abbrev pub number_in : ℕ → Option ℕ
number_in n = if n == 0 then None else Some n

-- this is said of a reception of this name and timeout: how many parts were kept, which is the
-- last one, and from which tick on it is overdue
pub record IsReception (timeout : ℕ) (name : Name) (entry : TableEntry) (said : LptReception)
    : Type 0 where
  pub name_is : said.name ≡ name_word name
  pub kept : said.kept ≡ map.len entry.parts
  pub last : IsLastNumber entry.parts (number_in said.last)
  pub due : said.due ≡ entry.last + timeout

-- this is said of the reception of this number
abbrev pub IsReceptionTold : (number : ℕ) → (said : LptReception) → End → Type 0
IsReceptionTold number said e =
    IsSomeAnd (reception_name number e) (λ name.
    IsSomeAnd (map.get e.node.at.receiving.entries name) (λ entry.
    IsReception e.config.timeout name entry said))

-- ---- parts that are missing

-- the answer if this is missing next, or nothing is, and what is told
abbrev pub IsMissingWord : (missing : Option ℕ) → (code before told : ℕ) → Type 0
IsMissingWord None code before told = (code ≡ nothing) × (told ≡ before)
IsMissingWord (Some n) code before told = (code ≡ all_done) × (told ≡ n)

-- the same of an open reception, or of none
abbrev pub IsMissingIn : Option TableEntry → (from code before told : ℕ) → Type 0
IsMissingIn None from code before told = (code ≡ not_open) × (told ≡ before)
IsMissingIn (Some entry) from code before told =
    (missing : Option ℕ) × IsNextMissing entry.parts from missing
    × IsMissingWord missing code before told

-- the same of the reception of a name behind a handle
abbrev pub IsMissingTold : Name → (from : ℕ) → Option End → (code before told : ℕ) → Type 0
IsMissingTold name from None code before told = (code ≡ empty) × (told ≡ before)
IsMissingTold name from (Some e) code before told =
    IsMissingIn (map.get e.node.at.receiving.entries name) from code before told

-- ---- messages that are open to be sent

-- what is said of a message under a name, for parts of p octets
abbrev pub sender_word : (p : ℕ) → Name → List ℕ → LptSender
sender_word p name message = record {
  name = name_word name;
  parts = part_count (length message) p;
  len = length message;
}

-- of the message of this number, from 0, in the order of names
abbrev pub sender_of : (number : ℕ) → End → Option LptSender
sender_of number e =
    option_and_then (λ name.
    option_map (sender_word e.config.part_size name) (message_at e.node.at name))
    (slice_get (map.keys e.node.at.sending.messages) number)

-- why none is told
abbrev pub sender_refusal : (number : ℕ) → End → Option ℕ
sender_refusal number e = none_refusal (sender_of number e)

-- what is told behind a handle, and what stood there before if nothing is
abbrev pub sender_told : (number : ℕ) → Option End → (before : LptSender) → LptSender
sender_told number None before = before
sender_told number (Some e) before = unwrap_or (sender_of number e) before

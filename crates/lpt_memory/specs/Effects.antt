-- What a message is answered.
use Rattle.std.specs.Prelude.{ℕ, ◌+◌, ◌*◌, ◌≤◌, List, [], ◌∷◌, ◌++◌, length, take, drop, sum_by, unwrap_or, Option, Some, None}
use Rattle.std.specs.List.{flat_map}
use Rattle.lpt_packet.specs.Numbers.{be}
use Rattle.lpt_packet.specs.Checksums.{checksum}
use Rattle.lpt_pus.specs.Codes.{number_of}
use Rattle.lpt_memory.specs.declared.reply_kind.ReplyKind.TheVariants as kinds
use Rattle.lpt_memory.specs.declared.request.AreaRange.{AreaRange}
use Rattle.lpt_memory.specs.declared.effect.Effect.{Effect}
use Rattle.lpt_memory.specs.declared.effect.Effect.TheVariants as effects
use Rattle.lpt_memory.specs.Meanings.{Meaning, Silent, Fault, Load, Dump, Check}
use Rattle.lpt_memory.specs.Memories.{Contents, content_of}
use Rattle.lpt_memory.specs.Limits.{area_header}

-- the octets of a memory in a range
abbrev pub octets_in : List ℕ → AreaRange → List ℕ
octets_in content r = take r.len (drop r.address content)

-- start address 32 bits, length 16, the octets, their checksum 16
abbrev pub dumped_area : AreaRange → List ℕ → List ℕ
dumped_area r octets = be r.address 4 ++ be r.len 2 ++ octets ++ be (checksum octets) 2

-- start address 32 bits, length 16, the checksum of the octets 16
abbrev pub checked_area : AreaRange → List ℕ → List ℕ
checked_area r octets = be r.address 4 ++ be r.len 2 ++ be (checksum octets) 2

-- an area of the answer to a dump of this memory
abbrev pub dump_area : List ℕ → AreaRange → List ℕ
dump_area content r = dumped_area r (octets_in content r)

-- an area of the answer to a check of this memory
abbrev pub check_area : List ℕ → AreaRange → List ℕ
check_area content r = checked_area r (octets_in content r)

-- the octets of a memory; none if there is no such memory, which no request names
abbrev pub octets_of : ℕ → Contents → List ℕ
octets_of id ms = unwrap_or (content_of id ms) []

-- memory identifier 8 bits, number of areas 8, the areas in the order of the request
abbrev pub dump_body : ℕ → List AreaRange → Contents → List ℕ
dump_body id ranges ms = id ∷ length ranges ∷ flat_map (dump_area (octets_of id ms)) ranges

-- memory identifier 8 bits, number of areas 8, the areas in the order of the request
abbrev pub check_body : ℕ → List AreaRange → Contents → List ℕ
check_body id ranges ms = id ∷ length ranges ∷ flat_map (check_area (octets_of id ms)) ranges

-- what a message is answered
abbrev pub answer : Meaning → Contents → Effect
answer Silent ms = effects.Silent
answer (Fault code) ms = effects.Code code
answer (Load id areas) ms = effects.Done
answer (Dump id ranges) ms = effects.Reply kinds.Dump (dump_body id ranges ms)
answer (Check id ranges) ms = effects.Reply kinds.Check (check_body id ranges ms)

-- it has no reply, so that it takes no memory
abbrev pub HasNoReply : Meaning → Type 0
HasNoReply Silent = Unit {0}
HasNoReply (Fault code) = Unit {0}
HasNoReply (Load id areas) = Unit {0}
HasNoReply (Dump id ranges) = ⊥
HasNoReply (Check id ranges) = ⊥

-- a code that is answered is one of the first six, and a reply fits a packet: telemetry has 19 octets
-- besides its body
abbrev pub AnswerFits : Effect → Type 0
AnswerFits effects.Silent = Unit {0}
AnswerFits (effects.Code code) = number_of code ≤ 6
AnswerFits effects.Done = Unit {0}
AnswerFits (effects.Reply kind body) = length body ≤ 65523

-- how many octets the body of the reply has, if there is one: 2, and 8 in each area; in a dump
-- those of the memory besides
abbrev pub reply_length : Meaning → Option ℕ
reply_length Silent = None
reply_length (Fault code) = None
reply_length (Load id areas) = None
reply_length (Dump id ranges) = Some (2 + sum_by (λ r. area_header + r.len) ranges)
reply_length (Check id ranges) = Some (2 + 8 * length ranges)

-- how many octets the reply has that was answered, if it is one
abbrev pub length_replied : Effect → Option ℕ
length_replied effects.Silent = None
length_replied (effects.Code code) = None
length_replied effects.Done = None
length_replied (effects.Reply kind body) = Some (length body)

-- The answer to a message of octets fits a packet: a dump's by its test, a check's since its ranges
-- are counted by an octet. And so does the source that its reports go to.
use Rattle.std.proofs.Common.{◌≡◌, sym, subst, ℕ, ◌<◌, ◌==◌, nat_lt, Bool, true, false, if◌then◌else◌, refl, List, length, map, drop, ◌-◌, Option, Some, None, arith}
use Rattle.std.specs.Option.{option_map_or}
use Rattle.lpt_packet.specs.Numbers.{IsOctets}
use Rattle.lpt_packet.specs.Packets.{Fields, spelling, APacket}
use Rattle.lpt_packet.proofs.Codec.{octets_at}
use Rattle.lpt_packet.proofs.OctetLists.{IsOctets-take, IsOctets-drop}
use Rattle.lpt_packet.proofs.SightLemmas.{seen_sight}
use Rattle.lpt_pus.specs.declared.failure_code.FailureCode.{FailureCode}
use Rattle.lpt_pus.specs.declared.failure_code.FailureCode.TheVariants.{ReplyTooLong}
use Rattle.lpt_pus.specs.Commands.{Command, command_in}
use Rattle.lpt_pus.proofs.CommandLemmas.{command_in-found, body-tc_verdict, tc_verdict-found}
use Rattle.lpt_memory.specs.Effects.{answer, AnswerFits}
use Rattle.lpt_memory.specs.Meanings.{Meaning, Silent, Fault, Load, Dump, Check, Sizes, size_of, load_fault, range_fault, area, dump_length, unless, load_meaning, dump_meaning, check_meaning, in_memory, if_formed, body_meaning, command_meaning, meaning}
use Rattle.lpt_memory.specs.Memories.{Contents, sizes_of}
use Rattle.lpt_memory.specs.Ranges.{MeaningFits}
use Rattle.lpt_memory.specs.Requests.{Request, front_load_area, front_range, request_in}
use Rattle.lpt_memory.specs.Spellings.{range_text, RangeFits}
use Rattle.lpt_execution.specs.Reporting.{request_source}
use Rattle.lpt_memory.proofs.AnswerLemmas.{length-dump_body, length-check_body}
use Rattle.lpt_memory.proofs.BodyLemmas.{range_takes, body_takes}
use Rattle.lpt_memory.proofs.MeaningLemmas.{meaning-fits}

-- a check has no more ranges than an octet counts
abbrev IsCounted : Meaning → Type 0
IsCounted (Check id ranges) = length ranges < 256
IsCounted _ = Unit {0}

either : (b : Bool) (x y : Meaning) → IsCounted x → IsCounted y → IsCounted (if b then x else y)
either true x y p q = p
either false x y p q = q

unless_counted : (fault : Option FailureCode) (m : Meaning)
    → IsCounted m
    → IsCounted (unless fault m)
unless_counted (Some code) m p = tt
unless_counted None m p = p

formed_counted : {A : Type 0} (sizes : Sizes) (means : ℕ → Request A → Meaning)
    (read : Option (Request A))
    → ((size : ℕ) (r : Request A) → read ≡ Some r → IsCounted (means size r))
    → IsCounted (if_formed sizes means read)
formed_counted sizes means None f = tt
formed_counted sizes means (Some r) f = go (size_of r.memory sizes) where
  go : (found : Option ℕ) → IsCounted (in_memory means r found)
  go None = tt
  go (Some size) = f size r refl

body_counted : (sizes : Sizes) (service subtype : ℕ) (body : List ℕ)
    → IsOctets body
    → IsCounted (body_meaning sizes service subtype body)
unfolding body_meaning
body_counted sizes service subtype body octets =
    let load = formed_counted sizes load_meaning (request_in front_load_area body)
    (λ size r e. unless_counted (load_fault size r.areas) (Load r.memory (map area r.areas)) tt) in
    let dump = formed_counted sizes dump_meaning (request_in front_range body)
    (λ size r e. unless_counted (range_fault size r.areas)
    (if nat_lt 65542 (dump_length r.areas) then Fault ReplyTooLong else Dump r.memory r.areas)
    (either (nat_lt 65542 (dump_length r.areas)) (Fault ReplyTooLong) (Dump r.memory r.areas) tt tt)) in
    let check = formed_counted sizes check_meaning (request_in front_range body)
    (λ size r e. unless_counted (range_fault size r.areas) (Check r.memory r.areas)
    (body_takes front_range range_text RangeFits range_takes body r octets e).1.1) in
    either (service == 6) _ _
    (either (subtype == 2) _ _ load
    (either (subtype == 5) _ _ dump
    (either (subtype == 9) _ _ check tt)))
    tt

-- the data field of a packet in octets is octets
field_octets : (m : List ℕ) (f : Fields) → IsOctets m → m ≡ spelling f → IsOctets f.octets
field_octets m f octets is =
    let b = spelling f in
    let all : IsOctets b = subst (λ o. IsOctets o) is octets in
    subst (λ o. IsOctets o) (octets_at f)
    (IsOctets-take (length b - 8) (drop 6 b) (IsOctets-drop 6 b all))

-- the body of a telecommand in octets is octets
body_octets : (apid : ℕ) (m : List ℕ) (c : Command)
    → IsOctets m
    → command_in apid m ≡ Some c
    → IsOctets c.body
body_octets apid m c octets e =
    let found = command_in-found apid m c e in
    let is = seen_sight m (APacket found.packet) found.is_packet in
    subst (λ o. IsOctets o) (sym (body-tc_verdict found.packet c found.is_command))
    (IsOctets-drop 5 found.packet.octets (field_octets m found.packet octets is.spelled))

-- the source that the reports of a message of octets go to has 16 bits
pub source_fits : (apid : ℕ) (m : List ℕ) → IsOctets m → request_source apid m < 65536
source_fits apid m octets = go (command_in apid m) refl where
  go : (o : Option Command)
      → command_in apid m ≡ o
      → option_map_or (λ (c : Command). c.source) o 0 < 65536
  go None e = omega arith
  go (Some c) e =
      let found = command_in-found apid m c e in
      let is = seen_sight m (APacket found.packet) found.is_packet in
      (tc_verdict-found found.packet c is.ranges (field_octets m found.packet octets is.spelled)
      found.is_command).fits.source_fits

meaning_counted : (apid : ℕ) (sizes : Sizes) (m : List ℕ)
    → IsOctets m
    → IsCounted (meaning apid sizes m)
unfolding meaning
meaning_counted apid sizes m octets = go (command_in apid m) refl where
  go : (o : Option Command) → command_in apid m ≡ o → IsCounted (command_meaning sizes o)
  go None e = tt
  go (Some c) e = body_counted sizes c.service c.subtype c.body (body_octets apid m c octets e)

fits_if_counted : (m : Meaning) (ms : Contents)
    → MeaningFits (sizes_of ms) m
    → IsCounted m
    → AnswerFits (answer m ms)
fits_if_counted Silent ms fits counted = tt
fits_if_counted (Fault code) ms fits counted = fits
fits_if_counted (Load id areas) ms fits counted = tt
fits_if_counted (Dump id ranges) ms fits counted =
    omega (arith, length-dump_body id ranges ms fits.0, fits.1)
fits_if_counted (Check id ranges) ms fits counted =
    omega (arith, length-check_body id ranges ms, counted)

-- what is answered to a message of octets fits a packet
pub answer_fits : (apid : ℕ) (ms : Contents) (m : List ℕ)
    → IsOctets m
    → AnswerFits (answer (meaning apid (sizes_of ms) m) ms)
answer_fits apid ms m octets =
    fits_if_counted (meaning apid (sizes_of ms) m) ms (meaning-fits apid (sizes_of ms) m)
    (meaning_counted apid (sizes_of ms) m octets)

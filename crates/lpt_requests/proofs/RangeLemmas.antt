-- A dump and a check that are written: their lengths, that they have a spelling, and what they
-- mean.
use Rattle.std.proofs.Common.{◌≡◌, ◌∙◌, ap, refl, ℕ, ◌+◌, ◌*◌, ◌<◌, ◌≤◌, ◌==◌, ◌||◌, nat_lt, Bool, true, false, if◌then◌else◌, List, [], ◌∷◌, length, map, Option, Some, None, arith}
use Rattle.std.specs.List.{flat_map, AllByRecursion}
use Rattle.std.proofs.lemmas.Bool.{le-ltb}
use Rattle.std.proofs.lemmas.Bool.Decides.{nat_tests}
use Rattle.std.proofs.lemmas.Grind.{common_steps}
use Rattle.std.proofs.lemmas.List.{length-append, length-map}
use Rattle.std.proofs.lemmas.List.Concat.{flat_map-cons}
use Rattle.lpt_pus.specs.declared.failure_code.FailureCode.{FailureCode}
use Rattle.lpt_packet.specs.Packets.{spelling}
use Rattle.lpt_pus.specs.Commands.{Command, CommandFits, command, command_in, packet_of}
use Rattle.lpt_pus.specs.declared.tc_head.TcHead.{TcHead}
use Rattle.lpt_packet.proofs.SightLemmas.{seen_again}
use Rattle.lpt_pus.proofs.CommandLemmas.{command_in-spelling, InRange-packet_of}
use Rattle.lpt_memory.specs.declared.fault.MemoryFault.{MemoryFault}
use Rattle.lpt_memory.specs.declared.request.AreaRange.{AreaRange}
use Rattle.lpt_memory.specs.Requests.{Request, front_range, request_in}
use Rattle.lpt_memory.specs.Meanings.{Fault, Dump, Check, Sizes, size_of, range_fault as fault_in, dump_length, unless, dump_meaning, check_meaning, body_meaning, command_meaning, meaning}
use Rattle.lpt_pus.specs.declared.failure_code.FailureCode.TheVariants.{ReplyTooLong}
use Rattle.lpt_memory.specs.Ranges.{RangesFit}
use Rattle.lpt_memory.specs.Spellings.{body_text, range_text, AreAreas, RangeFits}
use Rattle.lpt_memory.proofs.BodyLemmas.{range_again, body_again}
use Rattle.lpt_memory.proofs.BodyMeanings.{if_formed-known}
use Rattle.lpt_requests.specs.declared.request.Range.{Range}
use Rattle.lpt_requests.specs.Requests.{any_empty, as_range, range_fault, IsInRange, MeansCheck, MeansDump}

-- ---- the length

length-ranges : (ranges : List AreaRange) → length (flat_map range_text ranges) ≡ 6 * length ranges
length-ranges [] = refl
length-ranges (r ∷ rest) =
    ap (λ (t : List ℕ). length t) (flat_map-cons range_text r rest)
    ∙ omega (arith, length-append (range_text r) (flat_map range_text rest), length-ranges rest)

-- the body has two octets besides its places, and each of these six
pub length-body : (memory : ℕ) (ranges : List AreaRange)
    → length (body_text range_text memory ranges) ≡ 2 + 6 * length ranges
length-body memory ranges = omega (arith, length-ranges ranges)

-- ---- the spelling

-- what has no fault: some places, not too many, and none without octets
pub record IsWritable (ranges : List Range) : Type 0 where
  pub some : 0 < length ranges
  pub few : length ranges < 256
  pub full : any_empty ranges ≡ false

no-fault : (none many empty : Bool) (e : MemoryFault)
    → (if none || many || empty then Some e else None) ≡ None
    → (none ≡ false) × (many ≡ false) × (empty ≡ false)
no-fault true many empty e h = absurd cc
no-fault false true empty e h = absurd cc
no-fault false false true e h = absurd cc
no-fault false false false e h = (refl, refl, refl)

pub is_writable : (ranges : List Range) → range_fault ranges ≡ None → IsWritable ranges
is_writable ranges h =
    let no = no-fault (length ranges == 0) (nat_lt 255 (length ranges)) (any_empty ranges) _ h in
    let none : (length ranges == 0) ≡ false = no.0 in
    let many : nat_lt 255 (length ranges) ≡ false = no.1 in
    record { some = grind (arith, nat_tests); few = grind (arith, nat_tests); full = no.2 }

ranges_spelled : (ranges : List Range)
    → any_empty ranges ≡ false
    → AllByRecursion IsInRange ranges
    → AllByRecursion RangeFits (map as_range ranges)
ranges_spelled [] some fits = tt
ranges_spelled (r ∷ rest) some fits =
    let none : (r.len == 0) ≡ false = grind (arith, common_steps, nat_tests) in
    let others : any_empty rest ≡ false = grind (arith, common_steps, nat_tests) in
    let above : 0 < r.len = grind (arith, nat_tests) in
    (record { address = fits.0.0; some = above; len = fits.0.1 }, ranges_spelled rest others fits.1)

-- such places have a spelling
are_spelled : (ranges : List Range)
    → range_fault ranges ≡ None
    → AllByRecursion IsInRange ranges
    → AreAreas RangeFits (map as_range ranges)
are_spelled ranges e fits =
    let w = is_writable ranges e in
    let count = length-map ranges as_range in
    (omega (arith, count, w.some), omega (arith, count, w.few), ranges_spelled ranges w.full fits)

-- ---- the meaning

-- a telecommand is read again from its packet
read-again : (c : Command) (o : List ℕ)
    → CommandFits c
    → o ≡ spelling (packet_of c)
    → command_in c.apid o ≡ Some c
read-again c o fits is =
    ap (command_in c.apid) is
    ∙ command_in-spelling c fits (seen_again (packet_of c) (InRange-packet_of c fits))

fault-none : (size : ℕ) (ranges : List AreaRange) → RangesFit size ranges → fault_in size ranges
    ≡ None
fault-none size [] fit = refl
fault-none size (r ∷ rest) fit =
    let within : nat_lt size (r.address + r.len) ≡ false = le-ltb _ _ fit.0 in
    rw within (fault-none size rest fit.1)

-- what is written means that dump
dump-meant : (c : Command) (o : List ℕ) (memory : ℕ) (ranges : List AreaRange) (sizes : Sizes)
    (size : ℕ)
    → c.service ≡ 6
    → c.subtype ≡ 5
    → c.body ≡ body_text range_text memory ranges
    → command_in c.apid o ≡ Some c
    → AreAreas RangeFits ranges
    → size_of memory sizes ≡ Some size
    → RangesFit size ranges
    → dump_length ranges ≤ 65542
    → meaning c.apid sizes o ≡ Dump memory ranges
unfolding meaning body_meaning
dump-meant c o memory ranges sizes size service subtype body read fits known fit short =
    let r : Request AreaRange = record { memory = memory; areas = ranges } in
    let formed = if_formed-known dump_meaning sizes
    (request_in front_range (body_text range_text memory ranges)) r size
    (body_again front_range range_text RangeFits range_again memory ranges fits) known in
    let within : nat_lt 65542 (dump_length ranges) ≡ false = le-ltb _ _ short in
    ap (command_meaning sizes) read
    ∙ ap (λ (s : ℕ). body_meaning sizes s c.subtype c.body) service
    ∙ ap (λ (s : ℕ). body_meaning sizes 6 s c.body) subtype
    ∙ ap (λ (b : List ℕ). body_meaning sizes 6 5 b) body
    ∙ formed
    ∙ ap (λ (f : Option FailureCode). unless f
    (if nat_lt 65542 (dump_length ranges) then Fault ReplyTooLong else Dump memory ranges))
    (fault-none size ranges fit)
    ∙ ap (λ (long : Bool). if long then Fault ReplyTooLong else Dump memory ranges) within

-- what is written means that check
check-meant : (c : Command) (o : List ℕ) (memory : ℕ) (ranges : List AreaRange) (sizes : Sizes)
    (size : ℕ)
    → c.service ≡ 6
    → c.subtype ≡ 9
    → c.body ≡ body_text range_text memory ranges
    → command_in c.apid o ≡ Some c
    → AreAreas RangeFits ranges
    → size_of memory sizes ≡ Some size
    → RangesFit size ranges
    → meaning c.apid sizes o ≡ Check memory ranges
unfolding meaning body_meaning
check-meant c o memory ranges sizes size service subtype body read fits known fit =
    let r : Request AreaRange = record { memory = memory; areas = ranges } in
    let formed = if_formed-known check_meaning sizes
    (request_in front_range (body_text range_text memory ranges)) r size
    (body_again front_range range_text RangeFits range_again memory ranges fits) known in
    ap (command_meaning sizes) read
    ∙ ap (λ (s : ℕ). body_meaning sizes s c.subtype c.body) service
    ∙ ap (λ (s : ℕ). body_meaning sizes 6 s c.body) subtype
    ∙ ap (λ (b : List ℕ). body_meaning sizes 6 9 b) body
    ∙ formed
    ∙ ap (λ (f : Option FailureCode). unless f (Check memory ranges)) (fault-none size ranges fit)

-- ---- the packet

-- the octets are the packet of a telecommand of service 6 with this head, of places that have no
-- fault and are in their ranges
pub record IsPacketOf (h : TcHead) (memory : ℕ) (ranges : List Range) (o : List ℕ) : Type 0 where
  pub service : h.service ≡ 6
  pub source : h.source < 65536
  pub none : range_fault ranges ≡ None
  pub fits : AllByRecursion IsInRange ranges
  pub is : o ≡ spelling (packet_of (command h (body_text range_text memory (map as_range ranges))))

packet-read : (h : TcHead) (memory : ℕ) (ranges : List Range) (o : List ℕ)
    → IsPacketOf h memory ranges o
    → h.subtype < 256
    → command_in h.apid o ≡ Some (command h (body_text range_text memory (map as_range ranges)))
packet-read h memory ranges o p subtype =
    let w = is_writable ranges p.none in
    let long = length-body memory (map as_range ranges) in
    read-again (command h (body_text range_text memory (map as_range ranges))) o
    record {
      head_fits = h.in_range;
      service_fits = omega (arith, p.service);
      subtype_fits = subtype;
      source_fits = p.source;
      body_fits = omega (arith, long, length-map ranges as_range, w.few);
    } p.is

-- it means that dump
pub dump-written : (h : TcHead) (memory : ℕ) (ranges : List Range) (o : List ℕ)
    → IsPacketOf h memory ranges o
    → h.subtype ≡ 5
    → MeansDump h.apid o memory (map as_range ranges)
dump-written h memory ranges o p subtype sizes size known fit short =
    dump-meant (command h (body_text range_text memory (map as_range ranges))) o memory
    (map as_range ranges) sizes size p.service subtype refl
    (packet-read h memory ranges o p (omega (arith, subtype)))
    (are_spelled ranges p.none p.fits) known fit short

-- it means that check
pub check-written : (h : TcHead) (memory : ℕ) (ranges : List Range) (o : List ℕ)
    → IsPacketOf h memory ranges o
    → h.subtype ≡ 9
    → MeansCheck h.apid o memory (map as_range ranges)
check-written h memory ranges o p subtype sizes size known fit =
    check-meant (command h (body_text range_text memory (map as_range ranges))) o memory
    (map as_range ranges) sizes size p.service subtype refl
    (packet-read h memory ranges o p (omega (arith, subtype)))
    (are_spelled ranges p.none p.fits) known fit

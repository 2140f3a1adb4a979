-- What stands in the profile's packet of a request, and what it means.
use Rattle.std.proofs.Common.{◌≡◌, ◌∙◌, ap, sym, subst, refl, ℕ, ◌-◌, ◌≤◌, List, ◌++◌, length, take, drop, get_or, arith, Option, Some, None, IfSome, Result, Ok, Err}
use Rattle.std.proofs.lemmas.List.{length-append, take_at}
use Rattle.lpt_layout.specs.declared.fault.LayoutFault.{LayoutFault}
use Rattle.lpt_layout.specs.declared.layout.Layout.{Layout}
use Rattle.lpt_layout.specs.Messages.{HeadFits, Said}
use Rattle.lpt_layout.specs.Writes.{Writes, octets_as}
use Rattle.lpt_memory.specs.declared.fault.MemoryFault.{MemoryFault}
use Rattle.lpt_memory.specs.Meanings.{command_meaning, meaning}
use Rattle.lpt_memory.specs.Seen.{body_of}
use Rattle.lpt_packet.specs.declared.packet.PacketKind.TheVariants.{Tc}
use Rattle.lpt_packet.specs.Checksums.{checksum}
use Rattle.lpt_packet.specs.Numbers.{be}
use Rattle.lpt_packet.specs.Packets.{header, spelling}
use Rattle.lpt_pus.specs.Commands.{Command, CommandFits, command_in, packet_of, tc_field}
use Rattle.lpt_requests.specs.declared.request.Request.{Request}
use Rattle.lpt_requests.specs.declared.request.Request.TheVariants.{Load, Dump, Check}
use Rattle.lpt_requests.specs.Requests.{request_fault, request_packet, request_text, subtype_of, Means}
use Rattle.lpt_layout_requests.specs.Meanings.{BodyMeans}
use Rattle.lpt_layout_requests.specs.Packets.{command_said, own_said, packet_as, request_said, Fits, WritesRequest}
use Rattle.lpt_layout_requests.proofs.LengthLemmas.{subtype-small, text-short}

-- ---- the profile's packet

service-own : (c : Command) → get_or (spelling (packet_of c)) 7 0 ≡ c.service
unfolding spelling tc_field
service-own c = refl

subtype-own : (c : Command) → get_or (spelling (packet_of c)) 8 0 ≡ c.subtype
unfolding spelling tc_field
subtype-own c = refl

body-own : (c : Command) → body_of (spelling (packet_of c)) ≡ c.body
unfolding spelling tc_field
body-own c =
    let front : List ℕ = header (packet_of c) ++ tc_field c in
    let control : List ℕ = be (checksum front) 2 in
    let long : length (front ++ control) - 2 ≡ length front =
    omega (arith, length-append front control) in
    ap (λ (n : ℕ). drop 11 (take n (front ++ control))) long
    ∙ ap (λ (xs : List ℕ). drop 11 xs) (take_at front control (length front) refl)

-- the telecommand that it is of
abbrev pub own_command : (apid count flags : ℕ) → Request → Command
own_command apid count flags r = record {
  apid = apid;
  count = count;
  flags = flags;
  service = 6;
  subtype = subtype_of r;
  source = 0;
  body = request_text r;
}

-- what it says is what the request says
pub said-own : (l : Layout) (apid source count flags : ℕ) (r : Request) (own : List ℕ)
    → own ≡ request_packet apid 0 count flags r
    → own_said l apid source count flags own ≡ request_said l apid source count flags r
said-own l apid source count flags r own is =
    let c : Command = own_command apid count flags r in
    ap (own_said l apid source count flags) is
    ∙ (λ i. command_said l apid source count flags (service-own c i) (subtype-own c i)
    (body-own c i))

-- what was written of what it says was of the request
pub writes-own : (l : Layout) (apid source count flags bits : ℕ) (r : Request) (own : List ℕ)
    (result : Result (List ℕ) LayoutFault)
    → bits ≡ flags
    → own ≡ request_packet apid 0 count flags r
    → Writes (HeadFits l (own_said l apid source count bits own))
    (octets_as l Tc (own_said l apid source count bits own)) result
    → Writes (Fits l apid source count flags r) (packet_as l apid source count flags r) result
writes-own l apid source count flags bits r own result same is =
    subst (λ (s : Said). Writes (HeadFits l s) (octets_as l Tc s) result)
    (ap (λ (f : ℕ). own_said l apid source count f own) same
    ∙ said-own l apid source count flags r own is)

pub ok-own : (l : Layout) (apid source count flags : ℕ) (r : Request) (o : List ℕ)
    → request_fault r ≡ None
    → Writes (Fits l apid source count flags r) (packet_as l apid source count flags r) (Ok o)
    → WritesRequest l apid source count flags r (Ok o)
ok-own l apid source count flags r o none w =
    (record { sound = none; fits = w.0; short = w.1 }, w.2)

-- such a telecommand is in its ranges
pub fits-own : (apid count flags : ℕ) (r : Request)
    → apid ≤ 2046
    → count ≤ 16383
    → flags ≤ 15
    → request_fault r ≡ None
    → CommandFits (own_command apid count flags r)
fits-own apid count flags r apids counts bits none = record {
  head_fits = record { apid_fits = apids; count_fits = counts; flags_fit = bits };
  service_fits = omega arith;
  subtype_fits = subtype-small r;
  source_fits = omega arith;
  body_fits = omega (arith, text-short r none);
}

-- ---- the meaning

-- what the profile's packet means, its body does
pub body-means : (apid count flags : ℕ) (o : List ℕ) (r : Request)
    → command_in apid o ≡ Some (own_command apid count flags r)
    → Means apid o r
    → BodyMeans r
unfolding meaning
body-means apid count flags o (Load memory areas) read means = λ sizes size known fit.
    sym (ap (command_meaning sizes) read) ∙ means sizes size known fit
body-means apid count flags o (Dump memory ranges) read means = λ sizes size known fit short.
    sym (ap (command_meaning sizes) read) ∙ means sizes size known fit short
body-means apid count flags o (Check memory ranges) read means = λ sizes size known fit.
    sym (ap (command_meaning sizes) read) ∙ means sizes size known fit

-- ---- faults

-- the profile's packet was written, so the request has none
pub none-own : (fault : Option MemoryFault) (result : Result (List ℕ) MemoryFault) (o : List ℕ)
    → result ≡ Ok o
    → IfSome fault (λ d. result ≡ Err d)
    → fault ≡ None
none-own (Some d) result o is first = let no : Ok o ≡ Err d = sym is ∙ first in absurd cc
none-own None result o is first = refl

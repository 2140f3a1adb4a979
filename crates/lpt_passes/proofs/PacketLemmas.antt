-- The packets of planned loads, and what they mean.
use Rattle.std.proofs.Common.{◌≡◌, ◌∙◌, ap, sym, refl, subst, ℕ, ◌+◌, ◌^◌, ◌<◌, ◌≤◌, ◌==◌, nat_lt, Bool, true, false, if◌then◌else◌, List, [], ◌∷◌, ◌++◌, length, map, None, arith}
use Rattle.std.specs.List.{AllByRecursion}
use Rattle.std.proofs.lemmas.Bool.{le-ltb}
use Rattle.std.proofs.lemmas.Bool.Decides.{nat_tests}
use Rattle.std.proofs.lemmas.List.Sums.{sum_by-cons}
use Rattle.lpt_packet.specs.Packets.{spelling}
use Rattle.lpt_packet.proofs.SightLemmas.{seen_again}
use Rattle.lpt_pus.specs.Commands.{Command, CommandFits, packet_of}
use Rattle.lpt_pus.specs.Ranges.{TcFits}
use Rattle.lpt_pus.proofs.CommandLemmas.{command_in-spelling, InRange-packet_of}
use Rattle.lpt_memory.specs.declared.request.Area.{Area}
use Rattle.lpt_memory.specs.Ranges.{MeansLoad}
use Rattle.lpt_memory.specs.Spellings.{load_length, load_text, write_fault}
use Rattle.lpt_memory.proofs.WritingLemmas.{is_writable, length-load_text, load-meant, load_spelled}
use Rattle.lpt_requests.specs.declared.request.Request.{Request}
use Rattle.lpt_requests.specs.declared.request.Request.TheVariants.{Load, Dump, Check}
use Rattle.lpt_requests.specs.Cuts.{as_load, view}
use Rattle.lpt_requests.specs.Packets.{next_count}
use Rattle.lpt_requests.specs.Requests.{request_packet}
use Rattle.lpt_passes.specs.Images.{Image}
use Rattle.lpt_ground.specs.declared.asked.Asked.{Asked}
use Rattle.lpt_ground.specs.Plans.{asked_of, requests_planned}
use Rattle.lpt_passes.specs.Chains.{IsLoad}
use Rattle.lpt_passes.specs.AloneJobs.{image_of}

-- an image's octets at its address
abbrev pub area_of : Image → Area
area_of x = record { address = x.address; octets = x.octets }

-- a request of a pass that loads this piece
pub record IsLoadOf (apid : ℕ) (x : Image) (a : Asked) : Type 0 where
  pub load : IsLoad a
  pub means : MeansLoad apid a.octets x.memory (area_of x ∷ [])

-- each of them loads the piece at its place
abbrev pub AllLoad : (apid : ℕ) → List Image → List Asked → Type 0
AllLoad apid [] [] = Unit {0}
AllLoad apid [] (a ∷ asked) = ⊥
AllLoad apid (x ∷ pieces) [] = ⊥
AllLoad apid (x ∷ pieces) (a ∷ asked) = IsLoadOf apid x a × AllLoad apid pieces asked

-- a piece that fits a packet
pub record IsShort (p : Area) : Type 0 where
  pub some : 0 < length p.octets
  pub few : length p.octets ≤ 65519
  pub address : p.address < 2 ^ 32

-- ---- one packet

-- the telecommand of a load
abbrev load_command : (apid source count flags memory : ℕ) → List Area → Command
load_command apid source count flags memory areas = record {
  apid = apid;
  count = count;
  flags = flags;
  service = 6;
  subtype = 2;
  source = source;
  body = load_text memory areas;
}

packet-means : (apid source count flags memory : ℕ) (areas : List Area)
    → TcFits apid count flags
    → source < 65536
    → write_fault areas ≡ None
    → AllByRecursion (λ (a : Area). a.address < 2 ^ 32) areas
    → MeansLoad apid (spelling (packet_of (load_command apid source count flags memory areas)))
    memory areas
packet-means apid source count flags memory areas head from fine addresses sizes size known fit =
    let made : Command = load_command apid source count flags memory areas in
    let short = (is_writable areas fine).fits in
    let in_range : CommandFits made = record {
      head_fits = head;
      service_fits = omega arith;
      subtype_fits = omega arith;
      source_fits = from;
      body_fits = omega (arith, length-load_text memory areas, short);
    } in
    let seen = seen_again (packet_of made) (InRange-packet_of made in_range) in
    let read = command_in-spelling made in_range seen in
    load-meant made (spelling (packet_of made)) memory areas sizes size refl refl refl read
    (load_spelled areas fine addresses) known fit

-- a short piece can be written
short-writable : (p : Area) → IsShort p → write_fault (p ∷ []) ≡ None
short-writable p short =
    let sum = sum_by-cons (λ (a : Area). 8 + length a.octets) p [] in
    let fits : nat_lt 65542 (load_length (p ∷ [])) ≡ false
    = le-ltb 65542 (load_length (p ∷ [])) (omega (arith, sum, short.few)) in
    let full : (length p.octets == 0) ≡ false = not-none p short.some in
    rw (fits, full) refl
  where
    not-none : (p : Area) → 0 < length p.octets → (length p.octets == 0) ≡ false
    not-none p some = grind (arith, nat_tests)

-- a request that asks for the load of a piece
load-asked : (apid source count flags memory : ℕ) (p : Area) (r : Request)
    → TcFits apid count flags
    → source < 65536
    → IsShort p
    → view r ≡ as_load memory p
    → IsLoadOf apid (image_of memory p)
    (asked_of (request_packet apid source count flags r) r)
load-asked apid source count flags memory p (Load id areas) head from short asks =
    let same : id ≡ memory = cc in
    let one : areas.items ≡ p ∷ [] = cc in
    let packet = request_packet apid source count flags (Load id areas) in
    let fine : write_fault areas.items ≡ None = ap write_fault one ∙ short-writable p short in
    let addresses : AllByRecursion (λ (a : Area). a.address < 2 ^ 32) areas.items =
    subst (AllByRecursion (λ (a : Area). a.address < 2 ^ 32)) (sym one) (short.address, tt) in
    record {
      load = record { awaits_completion = refl; is_named = refl; waits = refl };
      means =
          subst (λ (n : ℕ). MeansLoad apid packet n (p ∷ [])) same
          (subst (λ (xs : List Area). MeansLoad apid packet id xs) one
          (packet-means apid source count flags id areas.items head from fine addresses));
    }
load-asked apid source count flags memory p (Dump id ranges) head from short asks = absurd cc
load-asked apid source count flags memory p (Check id ranges) head from short asks = absurd cc

-- ---- a plan

next-fits : (count : ℕ) → count ≤ 16383 → next_count count ≤ 16383
next-fits count fits = go (count == 16383) refl where
  go : (b : Bool) → (count == 16383) ≡ b → (if b then 0 else count + 1) ≤ 16383
  go true test = omega arith
  go false test = grind (arith, nat_tests)

pub planned-load : (apid source count flags memory : ℕ) (requests : List Request)
    (pieces : List Area)
    → TcFits apid count flags
    → source < 65536
    → AllByRecursion IsShort pieces
    → map view requests ≡ map (as_load memory) pieces
    → AllLoad apid (map (image_of memory) pieces)
    (requests_planned apid source count flags requests)
planned-load apid source count flags memory [] [] head from short ask = tt
planned-load apid source count flags memory [] (p ∷ pieces) head from short ask = absurd cc
planned-load apid source count flags memory (r ∷ requests) [] head from short ask = absurd cc
planned-load apid source count flags memory (r ∷ requests) (p ∷ pieces) head from short ask =
    let here : view r ≡ as_load memory p = cc in
    let others : map view requests ≡ map (as_load memory) pieces = cc in
    let next : TcFits apid (next_count count) flags = record {
      apid_fits = head.apid_fits;
      count_fits = next-fits count head.count_fits;
      flags_fit = head.flags_fit;
    } in (
      load-asked apid source count flags memory p r head from short.0 here,
      planned-load apid source (next_count count) flags memory requests pieces next from short.1
          others,
    )

-- plans, one behind the other
pub load-append : (apid : ℕ) (xs ys : List Image) (front rest : List Asked)
    → AllLoad apid xs front
    → AllLoad apid ys rest
    → AllLoad apid (xs ++ ys) (front ++ rest)
load-append apid [] ys [] rest a b = b
load-append apid [] ys (f ∷ front) rest a b = absurd a
load-append apid (x ∷ xs) ys [] rest a b = absurd a
load-append apid (x ∷ xs) ys (f ∷ front) rest a b = (a.0, load-append apid xs ys front rest a.1 b)

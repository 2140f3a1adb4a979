-- What the tests of a header let through, and what stands in a packet.
use Rattle.std.proofs.Common.{◌≡◌, ℕ, Bool, true, false, refl, ◌==◌, Option, Some, None, Result, Ok, Err, if◌then◌else◌, arith}
use Rattle.std.proofs.lemmas.Bool.{eqb-true}
use Rattle.std.proofs.lemmas.Bool.Decides.{nat_tests}
use Rattle.lpt_packet.specs.Packets.{Fields, Sight, IdlePacket, APacket}
use Rattle.lpt_pus.specs.declared.fault.PusFault.{PusFault}
use Rattle.lpt_pus.specs.declared.fault.PusFault.TheVariants.{PusVersion}
use Rattle.lpt_pus.specs.Messages.{headers_tested, for_apid, in_packet}

-- ---- the tests

-- a message that is read has passed each test
pub tested-ok : {X : Type 0} (of_type long of_version : Bool) (x y : X)
    → headers_tested of_type long of_version x ≡ Ok y
    → (of_type ≡ true) × (long ≡ true) × (of_version ≡ true) × (x ≡ y)
tested-ok true true true x y e = (refl, refl, refl, cc)
tested-ok true true false x y e = absurd cc
tested-ok true false of_version x y e = absurd cc
tested-ok false long of_version x y e = absurd cc

-- a message that passes each test is read
pub tested-passed : {X : Type 0} (of_type long of_version : Bool) (x : X)
    → of_type ≡ true
    → long ≡ true
    → of_version ≡ true
    → headers_tested of_type long of_version x ≡ Ok x
tested-passed of_type long of_version x p q r = λ i. headers_tested (p i) (q i) (r i) x

-- a message that fails the last test alone is told by it
pub tested-version : {X : Type 0} (of_type long of_version : Bool) (x : X)
    → of_type ≡ true
    → long ≡ true
    → of_version ≡ false
    → headers_tested of_type long of_version x ≡ Err PusVersion
tested-version of_type long of_version x p q r = λ i. headers_tested (p i) (q i) (r i) x

-- ---- the APID

chosen-some : {X : Type 0} (b : Bool) (x y : X)
    → (if b then Some x else None) ≡ Some y
    → (b ≡ true) × (x ≡ y)
chosen-some true x y e = (refl, cc)
chosen-some false x y e = absurd cc

-- a message that is given was read, and has the APID
pub for_apid-some : {X : Type 0} (apid_of : X → ℕ) (apid : ℕ) (r : Result X PusFault) (x : X)
    → for_apid apid_of apid r ≡ Some x
    → (r ≡ Ok x) × (apid_of x ≡ apid)
for_apid-some apid_of apid (Ok y) x e =
    let both : ((apid_of y == apid) ≡ true) × (y ≡ x) = chosen-some (apid_of y == apid) y x e in
    let same : apid_of y ≡ apid = eqb-true (apid_of y) apid (both.0) in
    let is : y ≡ x = both.1 in
    (cc, cc)
for_apid-some apid_of apid (Err fault) x e = absurd cc

-- a message that has the APID is given
pub for_apid-again : {X : Type 0} (apid_of : X → ℕ) (apid : ℕ) (x : X)
    → apid_of x ≡ apid
    → for_apid apid_of apid (Ok x) ≡ Some x
for_apid-again apid_of apid x e = grind (arith, nat_tests)

-- ---- the packet

-- what is in a packet is read from it
pub in_packet-some : {X : Type 0} (read : Fields → Option X) (s : Option Sight) (x : X)
    → in_packet read s ≡ Some x
    → (f : Fields) × (s ≡ Some (APacket f)) × (read f ≡ Some x)
in_packet-some read (Some (APacket f)) x e = (f, refl, e)
in_packet-some read (Some IdlePacket) x e = absurd cc
in_packet-some read None x e = absurd cc

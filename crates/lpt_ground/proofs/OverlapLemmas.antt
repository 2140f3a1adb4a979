-- Places overlap exactly if an address is one of both.
use Rattle.std.proofs.Common.{◌≡◌, refl, ◌≤◌, ◌<◌, nat_le, nat_lt, Bool, true, false, arith}
use Rattle.std.specs.Prelude.{◌↔◌, IsTrue}
use Rattle.std.proofs.lemmas.Bool.{and_parts}
use Rattle.std.proofs.lemmas.Bool.Decides.{nat_tests}
use Rattle.lpt_requests.specs.declared.reading.AreaPlace.{AreaPlace}
use Rattle.lpt_packet.proofs.BoolLemmas.{and_both, lt_true}
use Rattle.lpt_ground.specs.Overlaps.{end, overlap, Share}

-- the first address of the place that begins last
last-first : (p q : AreaPlace) (later : Bool) → nat_le p.address q.address ≡ later
    → 0 < p.len
    → 0 < q.len
    → p.address < end q
    → q.address < end p
    → Share p q
last-first p q true is some_p some_q begins ends =
    let at : p.address ≤ q.address = grind (arith, nat_tests) in
    (q.address, (at, ends), (omega arith, omega (arith, some_q)))
last-first p q false is some_p some_q begins ends =
    let at : q.address < p.address = grind (arith, nat_tests) in
    (p.address, (omega arith, omega (arith, some_p)), (omega (arith, at), begins))

sharing : (p q : AreaPlace) → 0 < p.len → 0 < q.len → IsTrue (overlap p q) → Share p q
sharing p q some_p some_q over =
    let both = and_parts (nat_lt p.address (end q)) (nat_lt q.address (end p)) over in
    let begins : p.address < end q = grind (arith, nat_tests, both.0) in
    let ends : q.address < end p = grind (arith, nat_tests, both.1) in
    last-first p q (nat_le p.address q.address) refl some_p some_q begins ends

over : (p q : AreaPlace) → Share p q → IsTrue (overlap p q)
over p q both =
    let begins : p.address < end q = omega (arith, both.1.0, both.2.1) in
    let ends : q.address < end p = omega (arith, both.2.0, both.1.1) in
    and_both (nat_lt p.address (end q)) (nat_lt q.address (end p))
    (lt_true p.address (end q) begins) (lt_true q.address (end p) ends)

pub overlap-shared : (p q : AreaPlace) → 0 < p.len → 0 < q.len
    → IsTrue (overlap p q) ↔ Share p q
overlap-shared p q some_p some_q = (sharing p q some_p some_q, over p q)

-- The octets that came stand behind those that were held.
use Rattle.std.proofs.Common.{ℕ, ◌≡◌, ◌∙◌, ◌+◌, ◌-◌, ◌≤◌, ◌++◌, ap, take, length, arith, rules, length-take}
use Rattle.std.proofs.Math.Seq.{take-append-le}
use Rattle.std.proofs.lemmas.Slice.{take-put_mid}
use Rattle.lpt_capture.proofs.AheadLemmas.{known-more}
use Rattle.lpt_capture.proofs.ahead.Ahead.read_more.Goals as goal

pub invariant_of-self-2 : goal.invariant_of-self-2
invariant_of-self-2 g c =
    let fits : c.args.self.now.have + c.in_ok-n.n ≤ 24 =
    omega (
      arith,
      length-take {A = ℕ},
      c.in_ok-n.ensures.bound,
      c.read.auto.buf,
      c.args.self.now.within,
      c.requires.most,
    ) in
    record { within = fits }

pub returns-clause-same : goal.returns-clause-same
returns-clause-same g c =
    let n = c.in_ok-n.n in
    let buf = c.read.new.buf in
    let octets = c.args.self.now.octets in
    let kept = c.args.self.now.have in
    let came : c.copy_from_slice.new.self ≡ take n buf =
    c.copy_from_slice.ensures.after ∙ take-append-le n buf _ c.in_ok-n.ensures.bound in
    let size : length c.copy_from_slice.new.self ≡ n =
    ap length came ∙ (let cut = length-take n buf in omega (arith, cut, c.in_ok-n.ensures.bound)) in
    let most : kept ≤ length octets = search rules in
    known-more _ _ _ (take n buf) _ c.in_ok-n.ensures.bytes.0
    (take-put_mid kept (kept + n - kept) octets c.copy_from_slice.new.self (kept + n)
    (omega (arith, size)) most
    ∙ ap (λ xs. take kept octets ++ xs) came)

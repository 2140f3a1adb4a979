-- The layout's packet says what the profile's says.
use Rattle.std.proofs.Common.{◌∙◌, ap, refl, ℕ, List, length, arith, Ok, Err}
use Rattle.std.proofs.lemmas.Result.{err_from_is_err_and}
use Rattle.lpt_pus.specs.Commands.{command_in}
use Rattle.lpt_pus.proofs.CommandLemmas.{length-spelling_tc}
use Rattle.lpt_requests.specs.Requests.{request_fault}
use Rattle.lpt_layout_requests.proofs.WritingLemmas.{body-means, fits-own, none-own, ok-own, own_command, writes-own}
use Rattle.lpt_layout_requests.proofs.writing.write_request_as.Goals as goal

pub put_as-packet-requires : goal.put_as-packet-requires
put_as-packet-requires c =
    let is = c.as_slice.ensures.same ∙ c.in_ok-own.ensures.written in
    let long = ap (λ (b : List ℕ). length b) is in
    let own = own_command c.args.apid c.args.count c.args.flags c.args.request.now in
    omega (arith, long, length-spelling_tc own)

-- the layout has no packet for it
pub returns-in_err-packet-clause-written : goal.returns-in_err-packet-clause-written
returns-in_err-packet-clause-written c =
    let r = c.args.request.now in
    let p = err_from_is_err_and c.from_residual-in_err-packet.result
    c.from_residual-in_err-packet.ensures.1 in
    let own = c.as_slice.ensures.same ∙ c.in_ok-own.ensures.written in
    rw (p.1, p.2) (
      none-own (request_fault r) _ c.in_ok-own.own refl c.in_ok-own.ensures.fault,
      writes-own c.args.layout.now c.args.apid c.args.source c.args.count c.args.flags
          c.bits.result r c.as_slice.result.now (Err c.in_err-packet.field-0.0)
          c.bits.ensures.same own c.in_err-packet.ensures,
    )

pub returns-clause-written : goal.returns-clause-written
returns-clause-written c =
    let r = c.args.request.now in
    let own = c.as_slice.ensures.same ∙ c.in_ok-own.ensures.written in
    ok-own c.args.layout.now c.args.apid c.args.source c.args.count c.args.flags r
    c.in_ok-packet.field-0
    (none-own (request_fault r) _ c.in_ok-own.own refl c.in_ok-own.ensures.fault)
    (writes-own c.args.layout.now c.args.apid c.args.source c.args.count c.args.flags
    c.bits.result r c.as_slice.result.now (Ok c.in_ok-packet.field-0) c.bits.ensures.same own
    c.in_ok-packet.ensures)

-- the body's meaning is that of the profile's packet
pub returns-clause-means : goal.returns-clause-means
returns-clause-means c =
    let r = c.args.request.now in
    let fits = fits-own c.args.apid c.args.count c.args.flags r c.requires.apid c.requires.count
    (omega (arith, c.bits.ensures.same, c.bits.ensures.fits))
    (none-own (request_fault r) _ c.in_ok-own.own refl c.in_ok-own.ensures.fault) in
    body-means c.args.apid c.args.count c.args.flags c.in_ok-own.own r
    (ap (command_in c.args.apid) c.in_ok-own.ensures.written
    ∙ c.octets_are_read_again.ensures.command
    (own_command c.args.apid c.args.count c.args.flags r) fits)
    c.in_ok-own.ensures.means

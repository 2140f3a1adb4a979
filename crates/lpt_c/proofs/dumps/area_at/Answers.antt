-- What was read stands at its places in the body.
use Rattle.std.proofs.Common.{◌-◌, drop, length, take, rules}
use Rattle.std.proofs.lemmas.List.{take_rest}
use Rattle.lpt_memory.proofs.PlaceLemmas.{load_area-at}
use Rattle.lpt_c.proofs.dumps.area_at.Goals as goal

pub returns-clause-value : goal.returns-clause-value
returns-clause-value c =
    let body = c.args.body.now in
    let at = c.args.at in
    let address = c.in_ok-address in
    let len = c.in_ok-len in
    let text = c.in_ok-rest in
    let checksum = c.in_ok-checksum in
    load_area-at body at address.address len.len c.from.result checksum.checksum
    (take (length body - at) (drop at body)) address.rest.now len.rest.now text.field-0-0.now
    text.rest.now checksum.field-0-1.now address.ensures.value len.ensures.value text.ensures.value
    checksum.ensures.value (search rules) (take_rest body at)
    address.ensures.behind.1 len.ensures.behind.1 text.ensures.front text.ensures.behind.1
    checksum.ensures.behind.1

-- The packet is as long as its headers, its body and its checksum.
use Rattle.std.proofs.Common.{◌≤◌, length, arith, rules}
use Rattle.lpt_layout.specs.Messages.{message_said, HeadFits}
use Rattle.lpt_layout.specs.Writes.{octets_as}
use Rattle.lpt_layout.proofs.MessageLemmas.{length-octets_as}
use Rattle.lpt_layout.proofs.writing.write_as.Goals as goal

pub returns-then-len-gt-MOST : goal.returns-then-len-gt-MOST
returns-then-len-gt-MOST c =
    let l = c.args.layout.now in
    let m = message_said c.args.message.now in
    let fits : HeadFits l m = search rules in
    let long = length-octets_as l c.args.kind m fits in
    (fits, omega (arith, long))

pub returns : goal.returns
returns c =
    let l = c.args.layout.now in
    let m = message_said c.args.message.now in
    let fits : HeadFits l m = search rules in
    let long = length-octets_as l c.args.kind m fits in
    let short : length (octets_as l c.args.kind m) ≤ 65542 = omega (arith, long) in
    search rules

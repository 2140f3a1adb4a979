-- A packet more, and where none is left.
use Rattle.std.proofs.Common.{◌≡◌, ◌-◌, length, take, drop, length-drop, refl, arith}
use Rattle.std.proofs.lemmas.List.{take_all}
use Rattle.lpt_stream.proofs.BufferLemmas.{near_held}
use Rattle.lpt_list.proofs.FrontLemmas.{seen-all, seen-next, seen-none}
use Rattle.lpt_list.proofs.fronts.told_in.Goals as goal

pub loop-len-init : goal.loop-len-init
loop-len-init c =
    seen-none c.args.layouts.now c.args.octets.now c.nothing_told-told.result
    c.nothing_told-told.ensures

pub loop-len-preserved : goal.loop-len-preserved
loop-len-preserved c =
    let l = c.loop-len in
    let rest = l.rest.now in
    let len = c.in-Some.len in
    let behind = drop len rest in
    let size_behind = length-drop len rest in
    let now : take (length rest - len) behind ≡ behind =
    take_all (length rest - len) behind (omega (arith, size_behind)) in
    seen-next c.args.layouts.now c.args.octets.now rest _ _ len l.told c.told_with-told.result
    l.invariant (near_held rest rest c.min.result refl c.min.ensures) c.in-Some.ensures.found.0
    c.in-Some.ensures.found.1 c.in-Some.ensures.found.2 now c.told_with-told.ensures

pub returns : goal.returns
returns c =
    let rest = c.loop-len.rest.now in
    seen-all c.args.layouts.now c.args.octets.now rest _ c.loop-len.told c.loop-len.invariant
    (near_held rest rest c.min.result refl c.min.ensures) (c.in_default.ensures.none refl)

-- Octet after octet.
use Rattle.std.proofs.Common.{◌≡◌, ◌∙◌, ◌+◌, ap, sym, subst, get_or, arith}
use Rattle.lpt_memory.specs.declared.request.Area.{Area}
use Rattle.lpt_extract.specs.Clashes.{cover_of}
use Rattle.lpt_extract.specs.ClashesInside.{is_other}
use Rattle.lpt_extract.specs.CoversInside.{Ascend}
use Rattle.lpt_extract.specs.Gaps.{gaps_in}
use Rattle.lpt_extract.specs.declared.clashes.Clashes.{Clashes}
use Rattle.lpt_extract.proofs.ClashLemmas.{Told, one_at, told-all, told-none, told-other, told-same}
use Rattle.lpt_extract.proofs.clashes.Clashes.note.Goals as goal
use Rattle.lpt_extract.proofs.clashes.Clashes.note.Goals.{then-is_other+in_ok-add, else-is_other}

pub loop-at-init : goal.loop-at-init
loop-at-init c = record {
  few = omega arith;
  told = λ told up h. told-none c.args.from c.args.standing.now (gaps_in c.args.gaps.now)
      (record { address = c.args.address; octets = c.args.area.now })
      told (cover_of c.args.self.now) h;
}

pub loop-at-preserved : goal.loop-at-preserved
loop-at-preserved c =
    let at = c.loop-at.at in
    let from = c.args.from in
    let standing = c.args.standing.now in
    let gaps = gaps_in c.args.gaps.now in
    let a : Area = record { address = c.args.address; octets = c.args.area.now } in
    let octet = get_or a.octets at 0 in
    let there : Ascend gaps
    → is_other from standing gaps (a.address + at) octet ≡ c.is_other.result =
    λ up. ap (λ k. is_other from standing gaps (k + at) octet) (sym c.from.ensures)
    ∙ sym (c.is_other.ensures up) in
    record {
      few = omega (arith, c.loop-at-test.true);
      told = λ told up h. elim c.if-is_other.branch [
        | then-is_other+in_ok-add w ↦
            subst (λ (s : Clashes). Told from standing gaps a told (at + 1) (cover_of s))
            (sym w.self-is)
            (told-other from standing gaps a told at (cover_of c.loop-at.self) w.add.new.self
            c.loop-at-test.true (there up ∙ w.if-is_other.true)
            (λ areas. w.in_ok-add.ensures.gaps areas (one_at (a.address + at) octet)
            (omega (arith, c.from.ensures)) (omega (arith, c.from.ensures)))
            (c.loop-at.invariant.told told up h))
        | else-is_other w ↦
            subst (λ (s : Clashes). Told from standing gaps a told (at + 1) (cover_of s))
            (sym w.self-is)
            (told-same from standing gaps a told at (cover_of c.loop-at.self)
            (there up ∙ w.if-is_other.false) (c.loop-at.invariant.told told up h))
      ];
    }

pub returns : goal.returns
returns c = λ told up h.
    told-all c.args.from c.args.standing.now (gaps_in c.args.gaps.now)
    (record { address = c.args.address; octets = c.args.area.now }) told c.loop-at.at
    (cover_of c.loop-at.self) (omega (arith, c.loop-at-test.false))
    (c.loop-at.invariant.told told up h)

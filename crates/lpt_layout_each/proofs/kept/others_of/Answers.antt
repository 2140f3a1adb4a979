-- None is left out but a run of no parts.
use Rattle.std.proofs.Common.{◌∙◌, ap, subst, sym, Option}
use Rattle.lpt_layout_join.specs.declared.came.CameAs.{CameAs}
use Rattle.lpt_layout_each.specs.declared.kept.Others.{Others}
use Rattle.lpt_layout_each.specs.Kepts.{IsUnlessBlank, out_of_box}
use Rattle.lpt_layout_each.proofs.kept.others_of.Goals as goal

pub returns-then-none_of : goal.returns-then-none_of
returns-then-none_of c =
    let none = c.none_of.ensures c.if-none_of.true in
    record {
      last_is = sym none.0;
      all_is = sym none.1;
      run_is = subst (λ (o : Option CameAs). IsUnlessBlank c.args.run o) none.2
          c.unless_blank-run.ensures;
    }

pub returns : goal.returns
returns c =
    let value = c.in_ok-kept.ensures.ok in
    record {
      last_is = ap (λ (x : Others). out_of_box x.last) value ∙ c.in_ok-last_box.ensures;
      all_is = ap (λ (x : Others). out_of_box x.all) value ∙ c.in_ok-all_box.ensures;
      run_is = subst (λ (o : Option CameAs). IsUnlessBlank c.args.run o)
          (sym (ap (λ (x : Others). out_of_box x.run) value ∙ c.in_ok-run_box.ensures))
          c.unless_blank-run.ensures;
    }

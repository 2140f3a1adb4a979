-- What goes up is the request, and what stands in its headers is the pass's.
use Rattle.std.proofs.Common.{◌∙◌, ap, sym, subst, List, ℕ, ◌<◌, length}
use Rattle.lpt_ground.specs.declared.large.Large.{Large}
use Rattle.lpt_ground.specs.Uplinks.{way_at_first}
use Rattle.lpt_ground_run.proofs.uplinks.plan_uplink.Goals as goal

pub returns : goal.returns
returns c =
    let made = c.new.ensures.large in
    record {
      long = subst (λ (o : List ℕ). c.args.part_size < length o) c.as_slice-octets.ensures.same
          c.if-octets-part_size.false;
      message = ap (λ (l : Large). l.message) made ∙ c.from_vec.ensures ∙ c.in-Ok.ensures.items
          ∙ c.as_slice-octets.ensures.same;
      under = ap (λ (l : Large). l.names) made;
      apid = ap (λ (l : Large). l.apid) made ∙ c.behind-behind.ensures.apid;
      source = ap (λ (l : Large). l.source) made ∙ c.behind-behind.ensures.source;
      count = ap (λ (l : Large). l.count) made ∙ c.behind-behind.ensures.count;
      size = ap (λ (l : Large). l.part_size) made;
      begins = λ s. c.new.ensures.way s ∙ ap (λ (l : Large). way_at_first l s) (sym made);
    }

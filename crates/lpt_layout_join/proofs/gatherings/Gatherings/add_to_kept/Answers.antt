-- What is written where it stands is all that changes.
use Rattle.std.proofs.Common.{rules, ◌∙◌, refl}
use Rattle.lpt_layout_join.proofs.NameLemmas.{name_tied}
use Rattle.lpt_layout_join.proofs.gatherings.Gatherings.add_to_kept.Goals as goal

pub returns-in_ok-add-in-Some : goal.returns-in_ok-add-in-Some
returns-in_ok-add-in-Some c =
    let name = c.args.name in
    let written = c.get_mut.follows.holds c.add.new.self in
    let updates = written.3 (search rules) in
    record {
      was = c.in-Some.gathering.now;
      now = c.add.new.self;
      there = search rules;
      kept = updates.1;
      gains = λ r ps b h missing place some.
          c.in_ok-add-in-Some.ensures r name ps b h missing place some;
      others = λ m other. updates.2 m (name_tied name m ∙ other);
      size = written.2;
      more = refl;
    }

-- One turn holds more.
use Rattle.std.proofs.Common.{◌≡◌, ◌∙◌, ◌<◌, ◌++◌, ℕ, ap, length, map, set, arith}
use Rattle.std.proofs.lemmas.List.{length-map}
use Rattle.std.proofs.lemmas.Result.{IfOk-weaker}
use Rattle.lpt_lossy.specs.TurnsInside.{behind_turn, octets_repeated, turn_octets}
use Rattle.lpt_lossy.proofs.PartLemmas.{held-set}
use Rattle.lpt_lossy.proofs.turns.Turns.hold.Goals as goal

pub returns : goal.returns
returns c =
    let vs = c.args.self.now.turns.items in
    let os = turn_octets c.args.self.now in
    let more = octets_repeated c.args.is_twice c.args.octets.now in
    let held = c.index_mut.result.now in
    let within : c.from.result < length vs
    = omega (arith, c.from.ensures, c.requires, length-map vs (λ v. v.items)) in
    IfOk-weaker c.add.result (λ _. c.add.new.held.items ≡ held.items ++ more)
    (λ _. map (λ v. v.items) (set vs c.from.result c.add.new.held)
    ≡ behind_turn c.args.turn more os)
    (λ _ e. held-set (λ v. v.items) vs c.from.result c.add.new.held held more within
    (e ∙ ap (λ v. v.items ++ more) c.index_mut.ensures.value)
    ∙ ap (λ (k : ℕ). behind_turn k more os) c.from.ensures)
    c.add.ensures

-- Every legal journal is a run of the service, so of none that releases twice or out of order.
use Rattle.std.proofs.Common.{◌≡◌, ◌∙◌, ap, sym, subst, ℕ, ◌&&◌, if◌then◌else◌, List, [], ◌∷◌}
use Rattle.lpt_packet.specs.declared.direction.Direction.{Direction}
use Rattle.lpt_packet.specs.Names.{Name}
use Rattle.lpt_packet.proofs.NameLemmas.{same_name-refl}
use Rattle.lpt_events.proofs.LaneLemmas.{same_direction-refl}
use Rattle.lpt_journal.specs.Replies.{entry, history_after}
use Rattle.lpt_service.specs.Served.{view}
use Rattle.lpt_service.specs.Service.{Octets, Opened, Over, Service, Release, Leave, after, IsRun}
use Rattle.lpt_service.specs.WrongServices.{NoneIsWrong}
use Rattle.lpt_service.proofs.ServedLemmas.{each_journal_is_a_run}

front_is : (a b : Octets) (xs ys : List Octets) → a ∷ xs ≡ b ∷ ys → a ≡ b
front_is a b xs ys e = cc

over_is : (apid : ℕ) (s t : Service) (d : Direction) (name : Name) (m : Octets)
    → t ≡ after apid s (Release d name m)
    → t.names d name ≡ Over
over_is apid s t d name m is =
    ap (λ (u : Service). u.names d name) is
    ∙ (λ j. if (same_direction-refl d j && same_name-refl name j) then Over else s.names d name)

pub none_is_wrong : NoneIsWrong
none_is_wrong c first e es good legal =
    let h = history_after c first es in
    let x = entry c first h e in
    let run = (each_journal_is_a_run c first (e ∷ es) good legal).1 in
    record {
      twice = λ d name m other is opened.
          let it : IsRun c.apid (view c first h) (Release d name m ∷ []) (view c first (x ∷ h)) =
          subst (λ ss. IsRun c.apid (view c first h) ss (view c first (x ∷ h))) is run in
          absurd (let over : Over ≡ Opened other =
          sym (over_is c.apid (view c first h) (view c first (x ∷ h)) d name m it.1)
          ∙ opened in cc);
      out_of_order = λ how r front later more is waits.
          let it : IsRun c.apid (view c first h) (Leave how r ∷ more) (view c first (x ∷ h)) =
          subst (λ ss. IsRun c.apid (view c first h) ss (view c first (x ∷ h))) is run in
          front_is r front it.0.0 later (sym it.0.1 ∙ waits);
    }

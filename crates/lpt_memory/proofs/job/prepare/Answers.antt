-- The job is the ticket's, and its head is that of the telecommand that the message is.
use Rattle.std.proofs.Common.{◌≡◌, ◌∙◌, ap, sym, subst, rules, ℕ, List, Option, Some, None}
use Rattle.std.specs.Prelude.{option_map}
use Rattle.lpt_pus.specs.declared.tc_head.TcHead.{TcHead}
use Rattle.lpt_pus.specs.Commands.{command, command_in}
use Rattle.lpt_memory.specs.Meanings.{Sizes, meaning}
use Rattle.lpt_memory.specs.Readings.{Job, ReadJob, IsHeadIn}
use Rattle.lpt_memory.specs.Seen.{body_of}
use Rattle.lpt_memory.proofs.job.prepare.Goals as goal

head-read : (head : Option TcHead) (apid : ℕ) (octets : List ℕ)
    → option_map (λ h. command h (body_of octets)) head ≡ command_in apid octets
    → IsHeadIn head apid octets
head-read None apid octets e = sym e
head-read (Some h) apid octets e = (body_of octets, sym e)

pub invariant_of-reading : goal.invariant_of-reading
unfolding meaning
invariant_of-reading c =
    let head : IsHeadIn c.head_in-head.result c.args.apid c.ticket.inside.message =
    subst (λ (o : List ℕ). IsHeadIn c.head_in-head.result c.args.apid o) c.as_slice-octets.ensures.same
    (head-read c.head_in-head.result c.args.apid c.as_slice-octets.result.now c.head_in-head.ensures)
    in
    (search rules, search rules, search rules, head)

abbrev of_job : ℕ → Sizes → Job → ReadJob
of_job apid sizes t = record {
  boot = t.boot;
  job = t.job;
  read = record { apid = apid; sizes = sizes; message = t.message };
}

pub returns : goal.returns
returns c =
    ap (of_job c.args.apid c.in-Ok.copy) c.ticket.view_is
    ∙ ap (λ (s : Sizes). of_job c.args.apid s c.args.ticket) c.in-Ok.ensures

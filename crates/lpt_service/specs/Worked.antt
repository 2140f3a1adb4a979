-- A worked pass that makes each of the eight steps.
use Rattle.std.specs.Prelude.{ℕ, List, [], ◌∷◌, Some}
use Rattle.lpt_packet.specs.declared.direction.Direction.TheVariants.{Up}
use Rattle.lpt_pus.specs.declared.failure_code.FailureCode.TheVariants.{UnknownRequest}
use Rattle.lpt_acts.specs.Acts.{Execute, Refuse, Drop, Act, Open, Send, Plain, Finish, Lose, Take, Deliver, Expire, Claim, Commit, Apply, Retire, Restart}
use Rattle.lpt_events.specs.declared.lane.Lane.TheVariants.{S1}
use Rattle.lpt_events.specs.declared.side.Side.TheVariants.{Craft}
use Rattle.lpt_events.specs.declared.worker.Worker.TheVariants.{W1}
use Rattle.lpt_journal_examples.specs.Passes.{load, clear, load_packet, m9, own}
use Rattle.lpt_service.specs.Service as service

-- A load is executed. Another request is refused; its packet comes again, and is dropped. A message
-- is given up behind its first part. Its name is freed and used again, and the message is released.
-- The spacecraft is restarted, while that waits.
abbrev pub full_pass : List Act
full_pass =
    Plain 1 0 6 2 load ∷ Take S1 0 ∷ Deliver S1 ∷ Claim W1 ∷ Commit W1 ∷ Apply Execute
    ∷ Plain 1 0 6 2 clear ∷ Take S1 1 ∷ Deliver S1 ∷ Claim W1 ∷ Commit W1
    ∷ Apply (Refuse UnknownRequest)
    ∷ Take S1 1 ∷ Deliver S1 ∷ Claim W1 ∷ Commit W1 ∷ Apply Drop
    ∷ Open Up (own 7) m9 ∷ Send Up (own 7) 1 ∷ Take S1 3 ∷ Deliver S1 ∷ Expire Craft (Some (own 7))
    ∷ Finish Up (own 7) ∷ Lose 3 ∷ Retire Up (own 7)
    ∷ Open Up (own 7) m9 ∷ Send Up (own 7) 1 ∷ Send Up (own 7) 2
    ∷ Take S1 5 ∷ Deliver S1 ∷ Take S1 6 ∷ Deliver S1
    ∷ Restart Craft ∷ []

-- the packet of the second request
abbrev pub clear_packet : List ℕ
clear_packet =
    24 ∷ 100 ∷ 192 ∷ 1 ∷ 0 ∷ 18 ∷ 32 ∷ 6 ∷ 2 ∷ 0 ∷ 1 ∷ 1 ∷ 1 ∷ 0 ∷ 0 ∷ 0 ∷ 16 ∷ 0 ∷ 2 ∷ 0 ∷ 0 ∷ 29
    ∷ 15 ∷ 52 ∷ 63 ∷ []

-- its steps
abbrev pub full_steps : List service.Step
full_steps =
    service.Send load_packet
    ∷ service.ReleaseRequest load_packet
    ∷ service.Leave Execute load_packet
    ∷ service.Send clear_packet
    ∷ service.ReleaseRequest clear_packet
    ∷ service.Leave (Refuse UnknownRequest) clear_packet
    ∷ service.ReleaseRequest clear_packet
    ∷ service.Leave Drop clear_packet
    ∷ service.Open Up (own 7) m9
    ∷ service.GiveUp Up (own 7)
    ∷ service.FreeName Up (own 7)
    ∷ service.Open Up (own 7) m9
    ∷ service.Release Up (own 7) m9
    ∷ service.Restart ∷ []

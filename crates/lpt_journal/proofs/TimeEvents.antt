-- What ticks and expiry owe, and that they pay it.
use Rattle.std.proofs.Common.{◌≡◌, ◌∙◌, ap, sym, refl, ℕ, ◌+◌, ◌^◌, ◌<◌, ◌==◌, Bool, true, false, ◌&&◌, inl, ◌∷◌, Option, Some, None, if◌then◌else◌, arith}
use Rattle.std.specs.List.{slice_get}
use Rattle.std.proofs.lemmas.Bool.Decides.{nat_tests}
use Rattle.lpt_packet.specs.declared.direction.Direction.{Direction}
use Rattle.lpt_packet.specs.Names.{Name, IsName}
use Rattle.lpt_part.specs.declared.reason.Reason.TheVariants.{Expired as TimedOut}
use Rattle.lpt_events.specs.declared.config.Config.{Config}
use Rattle.lpt_events.specs.declared.side.Side.{Side}
use Rattle.lpt_events.specs.declared.side.Side.TheVariants.{Ground, Craft}
use Rattle.lpt_acts.specs.Acts.{Tick, Expire, Setting, On, Back, Within, clock_turned}
use Rattle.lpt_events.specs.declared.fault.StepFault.TheVariants.{ClockEnd}
use Rattle.lpt_journal.specs.Due.{given_up}
use Rattle.lpt_events.specs.Sides.{same_side, receiver_side, direction_to}
use Rattle.lpt_journal.specs.Journal.{History, SentPacket}
use Rattle.lpt_journal.specs.Receivers.{ends, clock}
use Rattle.lpt_events.specs.Configs.{IsConfig}
use Rattle.lpt_journal.specs.Replies.{expiry_puts, entry}
use Rattle.lpt_journal.specs.Refusals.{refusal, first_fault, turn_reasons}
use Rattle.lpt_journal.proofs.ClosedLemmas.{open_opening}
use Rattle.lpt_journal.proofs.DueLemmas.{given_up_open}
use Rattle.lpt_journal.proofs.ReportEvents.{report_put}
use Rattle.lpt_journal.proofs.TestLemmas.{one_passes, no_place}
use Rattle.lpt_memory.specs.Memories.{Contents}
use Rattle.lpt_journal.proofs.Steps.{IsPut, IsSound, Owes, kept_or_none}

-- ---- ticks

same_side-true : (a b : Side) → same_side a b ≡ true → a ≡ b
same_side-true Ground Ground e = refl
same_side-true Craft Craft e = refl
same_side-true Ground Craft e = absurd cc
same_side-true Craft Ground e = absurd cc

-- a clock that isn't at its greatest value can tick
one_more : (n : ℕ) → n < 2 ^ 32 → (n == 4294967295) ≡ false → n + 1 < 2 ^ 32
one_more n fits more = grind (arith, nat_tests)

-- a clock that turns so stays in its range
turned_fits : (turn : Setting) (n : ℕ)
    → n < 2 ^ 32
    → first_fault (turn_reasons n turn) ≡ None
    → clock_turned turn n < 2 ^ 32
turned_fits On n fits accepted =
    one_more n fits (one_passes (n == 4294967295) ClockEnd accepted)
turned_fits (Back k) n fits accepted = omega (arith, fits)
turned_fits (Within l) n fits accepted = fits

-- a clock that turns pays what it owes
pub tick_owes : (c : Config) (first : Contents) (h : History) (t : Side) (turn : Setting)
    → IsSound c h
    → refusal c h (Tick t turn) ≡ None
    → Owes c h (entry c first h (Tick t turn))
tick_owes c first h t turn sound accepted =
    record {
      opens = λ e j u f. absurd cc;
      retires = λ e j r. absurd cc;
      puts = λ k p f. absurd (no_place k p f);
      takes = λ l n f. inl f;
      hears = λ e j. inl refl;
      clocks = λ side. go side (same_side t side) refl;
    }
  where
    go : (side : Side) (b : Bool)
        → same_side t side ≡ b
        → (if b then clock_turned turn (clock c h side) else clock c h side) < 2 ^ 32
    go side true e =
        turned_fits turn (clock c h side) (sound.clocks side)
        (ap (λ s. first_fault (turn_reasons (clock c h s) turn)) (sym (same_side-true t side e))
        ∙ accepted)
    go side false e = sound.clocks side

-- ---- expiry

puts_report : (c : Config) (h g : History) (side : Side) (which o : Option Name) (k : ℕ)
    (p : SentPacket)
    → IsConfig c
    → IsSound c h
    → ((name : Name) → o ≡ Some name → IsName name)
    → slice_get (expiry_puts c h side o) k ≡ Some p
    → IsPut c g (Expire side which) p
puts_report c h g side which None k p good sound named f = absurd (no_place k p f)
puts_report c h g Ground which (Some name) k p good sound named f = absurd (no_place k p f)
puts_report c h g Craft which (Some name) k p good sound named f =
    report_put c h g (Expire Craft which) name TimedOut k p good sound
    (named name refl).source_fits refl refl f

-- what is given up is a name
pub given_up_named : (c : Config) (h : History) (d : Direction) (which : Option Name) (name : Name)
    → IsSound c h
    → given_up c h d which ≡ Some name
    → IsName name
given_up_named c h d which name sound e =
    let o = open_opening c h d name sound (given_up_open c h d which name e) in
    (sound.openings d name o.0 o.1).is_name

-- the end of what is given up pays what it owes
pub expire_owes : (c : Config) (first : Contents) (h : History) (side : Side)
    (which : Option Name)
    → IsConfig c
    → IsSound c h
    → Owes c h (entry c first h (Expire side which))
expire_owes c first h side which good sound =
    let x = entry c first h (Expire side which) in
    record {
      opens = λ e j u f. absurd cc;
      retires = λ e j r. absurd cc;
      puts =
          λ k p f. puts_report c h (x ∷ h) side which (given_up c h (direction_to side) which) k p
          good sound
          (λ name e. given_up_named c h (direction_to side) which name sound e) f;
      takes = λ l n f. inl f;
      hears = λ d name. kept_or_none c h d name
          (same_side side (receiver_side d) && ends x.reply.answer name);
      clocks = sound.clocks;
    }

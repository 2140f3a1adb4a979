-- What the events owe that open, retire, take, hear and tick nothing: their packets alone.
use Rattle.std.proofs.Common.{◌≡◌, ◌∙◌, ap, sym, subst, refl, ℕ, ◌^◌, ◌<◌, Bool, true, false, inl, [], ◌∷◌, Option, Some, None}
use Rattle.std.specs.List.{slice_get, find}
use Rattle.lpt_packet.specs.declared.direction.Direction.{Direction}
use Rattle.lpt_packet.specs.Names.{Name}
use Rattle.lpt_memory.specs.Memories.{Contents}
use Rattle.lpt_events.specs.declared.config.Config.{Config}
use Rattle.lpt_events.specs.declared.entry.Opening.{Opening}
use Rattle.lpt_acts.specs.Acts.{Act, Open, Send, Plain, Finish, Lose, Damage, Take, Deliver, Tick, Expire, Claim, Commit, Apply, Retire, Restart}
use Rattle.lpt_events.specs.declared.lane.Lane.{Lane}
use Rattle.lpt_events.specs.declared.side.Side.{Side}
use Rattle.lpt_journal.specs.Hands.{hand}
use Rattle.lpt_journal.specs.Journal.{SentPacket, Recorded, History}
use Rattle.lpt_journal.specs.Receivers.{heard, clock}
use Rattle.lpt_journal.specs.Replies.{puts, entry}
use Rattle.lpt_journal.specs.Senders.{is_opening_of, retires}
use Rattle.lpt_journal.proofs.Steps.{IsPut, IsSound, Owes}
use Rattle.lpt_journal.proofs.TestLemmas.{no_place}

-- whether an event opens, retires, takes, hears and ticks nothing, whatever it puts
abbrev pub is_calm : Act → Bool
is_calm (Send d name k) = true
is_calm (Plain source flags service subtype body) = true
is_calm (Finish d name) = true
is_calm (Lose n) = true
is_calm (Damage d b) = true
is_calm (Claim w) = true
is_calm (Commit w) = true
is_calm e = false

-- the entry opens, retires, takes, hears and ticks nothing
record IsCalm (c : Config) (h : History) (x : Recorded) : Type 0 where
  opens : x.opens ≡ []
  retires : (d : Direction) (name : Name) → retires x.event d name ≡ false
  takes : (l : Lane) → hand (x ∷ h) l ≡ hand h l
  hears : (d : Direction) (name : Name) → heard c (x ∷ h) d name ≡ heard c h d name
  ticks : (side : Side) → clock c (x ∷ h) side ≡ clock c h side

calm_entry : (c : Config) (first : Contents) (h : History) (e : Act)
    → is_calm e ≡ true
    → IsCalm c h (entry c first h e)
calm_entry c first h (Open d name m) calm = absurd cc
calm_entry c first h (Take l n) calm = absurd cc
calm_entry c first h (Deliver l) calm = absurd cc
calm_entry c first h (Tick side turn) calm = absurd cc
calm_entry c first h (Expire side which) calm = absurd cc
calm_entry c first h (Apply how) calm = absurd cc
calm_entry c first h (Retire d name) calm = absurd cc
calm_entry c first h (Restart side) calm = absurd cc
calm_entry c first h e calm = record {
  opens = refl;
  retires = λ d name. refl;
  takes = λ l. refl;
  hears = λ d name. refl;
  ticks = λ side. refl;
}

-- a calm event owes its packets alone
pub calm_owes : (c : Config) (first : Contents) (h : History) (e : Act)
    → is_calm e ≡ true
    → IsSound c h
    → ((k : ℕ) (p : SentPacket)
    → slice_get (puts c first h e) k ≡ Some p
    → IsPut c (entry c first h e ∷ h) e p)
    → Owes c h (entry c first h e)
calm_owes c first h e calm sound puts = record {
  opens = λ d name o f.
      let none : ◌≡◌ {A = Option Opening} None (Some o) =
      sym (ap (find (is_opening_of d name)) it.opens) ∙ f in absurd cc;
  retires = λ d name r. let no : retires e d name ≡ false = it.retires d name in absurd cc;
  puts = puts;
  takes = λ l n f. inl (sym (it.takes l) ∙ f);
  hears = λ d name. inl (it.hears d name);
  clocks = λ side. subst (λ n. n < 2 ^ 32) (sym (it.ticks side)) (sound.clocks side);
} where
  it : IsCalm c h (entry c first h e)
  it = calm_entry c first h e calm

-- one that puts nothing owes nothing
pub quiet_owes : (c : Config) (first : Contents) (h : History) (e : Act)
    → is_calm e ≡ true
    → puts c first h e ≡ []
    → IsSound c h
    → Owes c h (entry c first h e)
quiet_owes c first h e calm none sound =
    calm_owes c first h e calm sound
    (λ k p f. absurd (no_place k p (ap (λ ps. slice_get ps k) (sym none) ∙ f)))

-- What the entries of a journal tell, one by one.
use Rattle.std.specs.Prelude.{List, [], ◌∷◌}
use Rattle.lpt_acts.specs.Acts.{Act, act_of}
use Rattle.lpt_events.specs.declared.entry.Entry.{Entry}
use Rattle.lpt_events.specs.declared.reply.Answer.{Answer}
use Rattle.lpt_journal.specs.Journal.{History}

-- what is known behind entries, the oldest first, by what each of them changes
abbrev pub told_by : {A : Type 0} → (Act → Answer → A → A) → List Entry → (before : A) → A
told_by step [] before = before
told_by step (x ∷ xs) before = told_by step xs (step (act_of x.event) x.reply.answer before)

-- the same by a history
abbrev pub told_of : {A : Type 0} → (Act → Answer → A → A) → (first : A) → History → A
told_of step first [] = first
told_of step first (x ∷ h) = step x.event x.reply.answer (told_of step first h)

-- What the entries of a world's journal tell is what its history tells.
use Rattle.std.proofs.Common.{◌≡◌, ◌∙◌, ap, sym, refl, ℕ, ◌+◌, Bool, true, false, if◌then◌else◌, List, [], ◌∷◌, ◌++◌, map, reverse}
use Rattle.std.proofs.lemmas.List.{map-append, reverse-append, reverse-reverse}
use Rattle.lpt_acts.specs.Acts.{Act, act_of}
use Rattle.lpt_events.specs.declared.config.Config.{Config}
use Rattle.lpt_events.specs.declared.entry.Entry.{Entry}
use Rattle.lpt_events.specs.declared.reply.Answer.{Answer}
use Rattle.lpt_events.specs.declared.reply.Reply.{Reply}
use Rattle.lpt_events.specs.declared.side.Side.TheVariants.{Craft}
use Rattle.lpt_journal.specs.Jobs.{applied_after, boot, claimed_after, is_committed, jobs_applied, jobs_claimed}
use Rattle.lpt_journal.specs.Journal.{History}
use Rattle.lpt_journal.specs.Replies.{history_after}
use Rattle.lpt_journal.specs.Senders.{restarts}
use Rattle.lpt_memory.specs.Memories.{Contents}
use Rattle.lpt_packet.specs.declared.direction.Direction.{Direction}
use Rattle.lpt_packet.specs.Names.{Name}
use Rattle.lpt_world.specs.Worlds.{IsTold, Shown, events_of, history}
use Rattle.lpt_script_views.specs.Jobs.{committed_after, counts_after, counts_of, none_counted}
use Rattle.lpt_script_views.specs.Kept.{kept_after, kept_numbers}
use Rattle.lpt_script_views.specs.Told.{told_by, told_of}
use Rattle.lpt_script_views.specs.declared.jobs.Counts.{Counts}

-- ---- lists

reverse_cons : {A : Type 0} (x : A) (xs : List A) → reverse (x ∷ xs) ≡ reverse xs ++ x ∷ []
reverse_cons x xs = reverse-append (x ∷ []) xs

map_reverse : {A B : Type 0} (f : A → B) (xs : List A) → map f (reverse xs) ≡ reverse (map f xs)
map_reverse f [] = refl
map_reverse f (x ∷ xs) =
    ap (map f) (reverse_cons x xs)
    ∙ map-append f (reverse xs) (x ∷ [])
    ∙ ap (λ ys. ys ++ f x ∷ []) (map_reverse f xs)
    ∙ sym (reverse_cons (f x) (map f xs))

events_recorded : (c : Config) (first : Contents) (es : List Act)
    → map (λ x. x.event) (history_after c first es) ≡ es
events_recorded c first [] = refl
events_recorded c first (e ∷ es) = ap (λ l. e ∷ l) (events_recorded c first es)

-- ---- entries

module _ {A : Type 0} (step : Act → Answer → A → A) where
  -- an entry behind the others
  told_more : (xs : List Entry) (x : Entry) (before : A)
      → told_by step (xs ++ x ∷ []) before
      ≡ step (act_of x.event) x.reply.answer (told_by step xs before)
  told_more [] x before = refl
  told_more (y ∷ ys) x before = told_more ys x (step (act_of y.event) y.reply.answer before)

  -- entries with the acts and replies of a history, the newest first
  told_same : (first : A) (xs : List Entry) (h : History)
      → map (λ (x : Entry). act_of x.event) xs ≡ map (λ x. x.event) h
      → map (λ x. x.reply) xs ≡ map (λ x. x.reply) h
      → told_by step (reverse xs) first ≡ told_of step first h
  told_same first [] [] e r = refl
  told_same first [] (y ∷ h) e r = absurd cc
  told_same first (x ∷ xs) [] e r = absurd cc
  told_same first (x ∷ xs) (y ∷ h) e r =
      let event : act_of x.event ≡ y.event = cc in
      let reply : x.reply ≡ y.reply = cc in
      let events : map (λ (x : Entry). act_of x.event) xs ≡ map (λ x. x.event) h = cc in
      let replies : map (λ x. x.reply) xs ≡ map (λ x. x.reply) h = cc in
      ap (λ l. told_by step l first) (reverse_cons x xs)
      ∙ told_more (reverse xs) x first
      ∙ ap (step (act_of x.event) x.reply.answer) (told_same first xs h events replies)
      ∙ ap (λ v. step v x.reply.answer (told_of step first h)) event
      ∙ ap (λ v. step y.event v.answer (told_of step first h)) reply

  -- the entries of a world's journal
  told_shown : (first : A) (w : Shown)
      → IsTold w.config w.first w.journal
      → told_by step w.journal first ≡ told_of step first (history w)
  told_shown first w told =
      let event : Entry → Act = λ x. act_of x.event in
      let reply : Entry → Reply = λ x. x.reply in
      ap (λ l. told_by step l first) (sym (reverse-reverse w.journal))
      ∙ told_same first (reverse w.journal) (history w)
      (map_reverse event w.journal ∙ sym (events_recorded w.config w.first (events_of w.journal)))
      (map_reverse reply w.journal ∙ ap reverse told.replies
      ∙ reverse-reverse (map (λ x. x.reply) (history w)))

-- ---- what is told of parts and jobs

kept_told : (d : Direction) (name : Name) (h : History)
    → told_of (kept_after d name) [] h ≡ kept_numbers d name h
kept_told d name [] = refl
kept_told d name (x ∷ h) = ap (kept_after d name x.event x.reply.answer) (kept_told d name h)

pub kept_shown : (d : Direction) (name : Name) (w : Shown)
    → IsTold w.config w.first w.journal
    → told_by (kept_after d name) w.journal [] ≡ kept_numbers d name (history w)
kept_shown d name w told = told_shown (kept_after d name) [] w told ∙ kept_told d name (history w)

counts_told : (h : History) → told_of counts_after none_counted h ≡ counts_of h
counts_told [] = refl
counts_told (x ∷ h) =
    ap (counts_after x.event x.reply.answer) (counts_told h) ∙ go (restarts x.event Craft)
  where
    of : (boot claimed applied : ℕ) → Counts
    of boot claimed applied = record { boot = boot; claimed = claimed; applied = applied }

    go : (b : Bool)
        → (if b then of (boot h Craft + 1) 0 0
        else of (boot h Craft) (claimed_after x.event (jobs_claimed h))
        (applied_after x.event (jobs_applied h)))
        ≡ of (if b then boot h Craft + 1 else boot h Craft)
        (if b then 0 else claimed_after x.event (jobs_claimed h))
        (if b then 0 else applied_after x.event (jobs_applied h))
    go true = refl
    go false = refl

pub counts_shown : (w : Shown)
    → IsTold w.config w.first w.journal
    → told_by counts_after w.journal none_counted ≡ counts_of (history w)
counts_shown w told = told_shown counts_after none_counted w told ∙ counts_told (history w)

committed_told : (job : ℕ) (h : History)
    → told_of (committed_after job) false h ≡ is_committed h job
committed_told job [] = refl
committed_told job (x ∷ h) =
    ap (committed_after job x.event x.reply.answer) (committed_told job h)

pub committed_shown : (job : ℕ) (w : Shown)
    → IsTold w.config w.first w.journal
    → told_by (committed_after job) w.journal false ≡ is_committed (history w) job
committed_shown job w told =
    told_shown (committed_after job) false w told ∙ committed_told job (history w)

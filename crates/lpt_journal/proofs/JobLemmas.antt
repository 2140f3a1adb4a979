-- In every history the requests that left the queue are releases of the spacecraft, in their order.
use Rattle.std.proofs.Common.{◌≡◌, ◌∙◌, ap, sym, subst, refl, ℕ, zero, suc, ◌+◌, ◌<◌, ◌≤◌, Bool, false, if◌then◌else◌, inl, inr, List, [], ◌∷◌, ◌++◌, length, map, Option, Some, None, arith}
use Rattle.std.specs.List.{slice_get, slice_index, filter, Contains}
use Rattle.std.specs.List.Sorted.{IsStrictlyIncreasing}
use Rattle.std.proofs.lemmas.List.Elements.{Contains-append_left, Contains-append_right, filter-append}
use Rattle.std.proofs.lemmas.List.{map-append}
use Rattle.std.proofs.lemmas.Option.{slice_get_within}
use Rattle.lpt_memory.specs.Memories.{Contents}
use Rattle.lpt_events.specs.declared.config.Config.{Config}
use Rattle.lpt_acts.specs.Acts.{Execute, Refuse, Drop, Act, Apply}
use Rattle.lpt_events.specs.declared.entry.Release.{Release}
use Rattle.lpt_events.specs.declared.side.Side.TheVariants.{Craft}
use Rattle.lpt_journal.specs.Headline.{MemoriesFollow, QueueFollows, is_executed}
use Rattle.lpt_journal.specs.Journal.{Recorded, History, with_all}
use Rattle.lpt_journal.specs.Jobs.{went_up, jobs, jobs_applied, applied_after, front_job, executed_now, executed_by, all_taken, executed, left_now, that_left}
use Rattle.lpt_journal.specs.Releases.{released_by, releases}
use Rattle.lpt_journal.specs.Senders.{restarts}
use Rattle.lpt_journal.proofs.NewJobs.{came_up, new_job, job_cases, IsOneTaken, TakesOne, executes_one, leaves_one}
use Rattle.lpt_journal.proofs.TestLemmas.{IsOldOrNew, with_all_cases, no_place}

-- ---- each was released

contains_at : {A : Type 0} (xs : List A) (k : ℕ) (y : A) → slice_get xs k ≡ Some y → Contains xs y
contains_at [] k y e = absurd (no_place k y e)
contains_at (x ∷ xs) zero y e = (0, omega arith, let same : x ≡ y = cc in same)
contains_at (x ∷ xs) (suc k) y e =
    let rest = contains_at xs k y e in (suc rest.0, (let within = rest.1 in omega arith), rest.2)

none_behind : {A : Type 0} (xs : List A) → xs ≡ xs ++ []
none_behind [] = refl
none_behind (x ∷ xs) = ap (λ ys. x ∷ ys) (none_behind xs)

filter_all : {A : Type 0} (p : A → Bool) (xs ys : List A)
    → filter p (with_all xs ys) ≡ filter p xs ++ filter p ys
filter_all p xs [] = none_behind (filter p xs)
filter_all p xs (y ∷ ys) = filter-append p xs (y ∷ ys)

-- what was released is so after an entry
still_released : (c : Config) (x : Recorded) (h : History) (r : Release)
    → Contains (came_up (releases c h)) r
    → Contains (came_up (releases c (x ∷ h))) r
still_released c x h r had =
    subst (λ rs. Contains rs r) (sym (filter_all (λ r. went_up r.of) (releases c h) (released_by c x h)))
    (Contains-append_left (came_up (releases c h)) (came_up (released_by c x h)) r had)

-- each job was released
job_released : (c : Config) (h : History) (k : ℕ) (r : Release)
    → slice_get (jobs c h) k ≡ Some r
    → Contains (came_up (releases c h)) r
job_released c [] k r e = absurd (no_place k r e)
job_released c (x ∷ h) k r e =
    go (job_released c h k r) (job_cases c x h k r e).1 where
      go : (slice_get (jobs c h) k ≡ Some r → Contains (came_up (releases c h)) r)
          → IsOldOrNew (jobs c h) (came_up (released_by c x h)) k r
          → Contains (came_up (releases c (x ∷ h))) r
      go before (inl old) = still_released c x h r (before old)
      go before (inr fresh) =
          subst (λ rs. Contains rs r)
          (sym (filter_all (λ r. went_up r.of) (releases c h) (released_by c x h)))
          (Contains-append_right (came_up (releases c h)) (came_up (released_by c x h)) r
          (contains_at (came_up (released_by c x h)) fresh.0 r fresh.2))

-- what left the queue of these was released
taken_released : {A : Type 0} (request : A → Release) (now : Act → Option Release → List A)
    → TakesOne request now
    → (c : Config) (h : History) (k : ℕ) (a : A)
    → slice_get (all_taken now c h) k ≡ Some a
    → Contains (came_up (releases c h)) (request a)
taken_released request now one c [] k a e = absurd (no_place k a e)
taken_released request now one c (x ∷ h) k a e =
    still_released c x h (request a)
    (go (taken_released request now one c h k a)
    (with_all_cases (all_taken now c h) (now x.event (front_job c h)) k a e)) where
      go : (slice_get (all_taken now c h) k ≡ Some a
          → Contains (came_up (releases c h)) (request a))
          → IsOldOrNew (all_taken now c h) (now x.event (front_job c h)) k a
          → Contains (came_up (releases c h)) (request a)
      go before (inl old) = before old
      go before (inr fresh) =
          job_released c h (jobs_applied h) (request a)
          (one x.event (front_job c h) fresh.0 a fresh.2).oldest

-- ---- in their order

-- each of these is of an earlier place than those behind it
abbrev pub Rise : List Release → Type 0
Rise rs =
    (j k : ℕ) (r s : Release)
    → slice_get rs j ≡ Some r → slice_get rs k ≡ Some s
    → j < k
    → r.place < s.place

applied_grows : (e : Act) (n : ℕ) → n ≤ applied_after e n
applied_grows (Apply how) n = omega arith
applied_grows e n = omega arith

module _ {A : Type 0} (request : A → Release) (now : Act → Option Release → List A)
    (one : TakesOne request now) (c : Config) where
  -- jobs and what left stand in order of release, and what waits behind what left
  pub record AreInOrder (h : History) : Type 0 where
    pub jobs_past : (k : ℕ) (r : Release) → slice_get (jobs c h) k ≡ Some r → r.place < length h
    pub taken_past : (k : ℕ) (a : A)
        → slice_get (all_taken now c h) k ≡ Some a
        → (request a).place < length h
    pub jobs_rise : Rise (jobs c h)
    pub taken_rise : (j k : ℕ) (a b : A)
        → slice_get (all_taken now c h) j ≡ Some a → slice_get (all_taken now c h) k ≡ Some b
        → j < k
        → (request a).place < (request b).place
    pub waits : (j k : ℕ) (a : A) (s : Release)
        → slice_get (all_taken now c h) j ≡ Some a → slice_get (jobs c h) k ≡ Some s
        → jobs_applied h ≤ k
        → (request a).place < s.place

  module _ (x : Recorded) (h : History) (had : AreInOrder h) where
    taken_cases : (k : ℕ) (a : A) → slice_get (all_taken now c (x ∷ h)) k ≡ Some a
        → IsOldOrNew (all_taken now c h) (now x.event (front_job c h)) k a
    taken_cases k a e = with_all_cases (all_taken now c h) (now x.event (front_job c h)) k a e

    -- what leaves now is the oldest job
    taken_now : (k : ℕ) (a : A) → slice_get (now x.event (front_job c h)) k ≡ Some a
        → IsOneTaken request x.event (front_job c h) k a
    taken_now k a e = one x.event (front_job c h) k a e

    taken_before : (k : ℕ) (a : A)
        → IsOldOrNew (all_taken now c h) (now x.event (front_job c h)) k a
        → (request a).place < length h
    taken_before k a (inl old) = had.taken_past k a old
    taken_before k a (inr fresh) =
        had.jobs_past (jobs_applied h) (request a) (taken_now fresh.0 a fresh.2).oldest

    jobs_past_step : (k : ℕ) (r : Release)
        → IsOldOrNew (jobs c h) (came_up (released_by c x h)) k r
        → r.place < suc (length h)
    jobs_past_step k r (inl old) = omega (arith, had.jobs_past k r old)
    jobs_past_step k r (inr fresh) = omega (arith, (new_job c x h fresh.0 r fresh.2).1)

    jobs_rise_step : (j k : ℕ) (r s : Release)
        → IsOldOrNew (jobs c h) (came_up (released_by c x h)) j r
        → IsOldOrNew (jobs c h) (came_up (released_by c x h)) k s
        → j < k
        → r.place < s.place
    jobs_rise_step j k r s (inl a) (inl b) less = had.jobs_rise j k r s a b less
    jobs_rise_step j k r s (inl a) (inr b) less =
        omega (arith, had.jobs_past j r a, (new_job c x h b.0 s b.2).1)
    jobs_rise_step j k r s (inr a) (inl b) less =
        absurd (omega (arith, a.1, slice_get_within (jobs c h) k s b))
    jobs_rise_step j k r s (inr a) (inr b) less =
        absurd (omega (arith, a.1, b.1, (new_job c x h a.0 r a.2).0, (new_job c x h b.0 s b.2).0))

    taken_rise_step : (j k : ℕ) (r s : A)
        → IsOldOrNew (all_taken now c h) (now x.event (front_job c h)) j r
        → IsOldOrNew (all_taken now c h) (now x.event (front_job c h)) k s
        → j < k
        → (request r).place < (request s).place
    taken_rise_step j k r s (inl a) (inl b) less = had.taken_rise j k r s a b less
    taken_rise_step j k r s (inl a) (inr b) less =
        had.waits j (jobs_applied h) r (request s) a (taken_now b.0 s b.2).oldest (omega arith)
    taken_rise_step j k r s (inr a) (inl b) less =
        absurd (omega (arith, a.1, slice_get_within (all_taken now c h) k s b))
    taken_rise_step j k r s (inr a) (inr b) less =
        absurd (omega (arith, a.1, b.1, (taken_now a.0 r a.2).alone, (taken_now b.0 s b.2).alone))

    waits_step : (j k : ℕ) (r : A) (s : Release)
        → IsOldOrNew (all_taken now c h) (now x.event (front_job c h)) j r
        → IsOldOrNew (jobs c h) (came_up (released_by c x h)) k s
        → applied_after x.event (jobs_applied h) ≤ k
        → (request r).place < s.place
    waits_step j k r s done (inr b) later =
        omega (arith, taken_before j r done, (new_job c x h b.0 s b.2).1)
    waits_step j k r s (inl a) (inl b) later =
        had.waits j k r s a b (omega (arith, later, applied_grows x.event (jobs_applied h)))
    waits_step j k r s (inr a) (inl b) later =
        let it = taken_now a.0 r a.2 in
        had.jobs_rise (jobs_applied h) k (request r) s it.oldest b
        (omega (arith, later, it.leaves (jobs_applied h)))

    applied_now : restarts x.event Craft ≡ false
        → jobs_applied (x ∷ h) ≡ applied_after x.event (jobs_applied h)
    applied_now on = ap (λ t. if t then 0 else applied_after x.event (jobs_applied h)) on

    in_order_step : AreInOrder (x ∷ h)
    in_order_step = record {
      jobs_past = λ k r e. jobs_past_step k r (job_cases c x h k r e).1;
      taken_past = λ k r e. let p = taken_before k r (taken_cases k r e) in omega (arith, p);
      jobs_rise =
          λ j k r s e f less.
          jobs_rise_step j k r s (job_cases c x h j r e).1 (job_cases c x h k s f).1 less;
      taken_rise =
          λ j k r s e f less. taken_rise_step j k r s (taken_cases j r e) (taken_cases k s f) less;
      waits =
          λ j k r s e f later. let job = job_cases c x h k s f in
          waits_step j k r s (taken_cases j r e) job.1
          (subst (λ n. n ≤ k) (applied_now job.0) later);
    }

  -- so it is in every history
  pub in_order : (h : History) → AreInOrder h
  in_order [] = record {
    jobs_past = λ k r e. absurd (no_place k r e);
    taken_past = λ k r e. absurd (no_place k r e);
    jobs_rise = λ j k r s e f less. absurd (no_place j r e);
    taken_rise = λ j k r s e f less. absurd (no_place j r e);
    waits = λ j k r s e f later. absurd (no_place j r e);
  }
  in_order (x ∷ h) = in_order_step x h (in_order h)

  place_at : (xs : List A) (k : ℕ)
      → k < length (map (λ a. (request a).place) xs)
      → (a : A) × (slice_get xs k ≡ Some a)
      × (slice_index (map (λ a. (request a).place) xs) k ≡ (request a).place)
  place_at [] k within = absurd (omega arith)
  place_at (a ∷ xs) zero within = (a, refl, refl)
  place_at (a ∷ xs) (suc k) within = place_at xs k (omega arith)

  -- the places of what left rise
  taken_rising : (h : History)
      → IsStrictlyIncreasing (map (λ a. (request a).place) (all_taken now c h))
  taken_rising h k within =
      let a = place_at (all_taken now c h) k (omega arith) in
      let b = place_at (all_taken now c h) (k + 1) within in
      omega (arith, a.2, b.2, (in_order h).taken_rise k (k + 1) a.0 b.0 a.1 b.1 (omega arith))

-- ---- the memories

-- the memories are what the executed requests leave
pub memories_follow : (c : Config) (first : Contents) (h : History) → MemoriesFollow c first h
memories_follow c first h = record {
  released = taken_released (λ r. r) executed_now executes_one c h;
  in_order = taken_rising (λ r. r) executed_now executes_one c h;
  left = refl;
}

-- ---- the queue

-- what is executed of what an event lets leave
executed_of_left : (e : Act) (front : Option Release)
    → executed_now e front ≡ map (λ x. x.1) (filter (λ x. is_executed x.0) (left_now e front))
executed_of_left (Apply Execute) (Some r) = refl
executed_of_left (Apply Execute) None = refl
executed_of_left (Apply (Refuse code)) (Some r) = refl
executed_of_left (Apply (Refuse code)) None = refl
executed_of_left (Apply Drop) (Some r) = refl
executed_of_left (Apply Drop) None = refl
executed_of_left e front = refl

as_appended : {A : Type 0} (xs ys : List A) → with_all xs ys ≡ xs ++ ys
as_appended xs [] = none_behind xs
as_appended xs (y ∷ ys) = refl

-- the executed requests are those that left so
executed_left : (c : Config) (h : History)
    → executed c h ≡ map (λ x. x.1) (filter (λ x. is_executed x.0) (that_left c h))
executed_left c [] = refl
executed_left c (x ∷ h) =
    let ys = left_now x.event (front_job c h) in
    as_appended (executed c h) (executed_by c x h)
    ∙ (λ i. executed_left c h i ++ executed_of_left x.event (front_job c h) i)
    ∙ sym (map-append (λ x. x.1) (filter (λ x. is_executed x.0) (that_left c h))
    (filter (λ x. is_executed x.0) ys))
    ∙ ap (map (λ x. x.1)) (sym (filter_all (λ x. is_executed x.0) (that_left c h) ys))

-- what left the queue was released, and left it in order
pub queue_follows : (c : Config) (h : History) → QueueFollows c h
queue_follows c h = record {
  released = taken_released (λ x. x.1) left_now leaves_one c h;
  in_order = taken_rising (λ x. x.1) left_now leaves_one c h;
  executed = executed_left c h;
}

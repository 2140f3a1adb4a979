-- What is on its way down was put on the link of a world, whose journal tells the log.
use Rattle.std.proofs.Common.{◌≡◌, ◌∙◌, ap, sym, subst, refl, ℕ, zero, suc, ◌-◌, ◌≤◌, ◌⊎◌, inl, inr, List, [], ◌∷◌, ◌++◌, take, drop, map, Some, arith}
use Rattle.std.specs.List.{slice_get}
use Rattle.lpt_packet.specs.declared.direction.Direction.TheVariants.{Down}
use Rattle.lpt_pus.specs.Numbers.{long_at}
use Rattle.lpt_memory.specs.Effects.{dump_body}
use Rattle.lpt_memory.specs.Meanings.{meaning}
use Rattle.lpt_memory.specs.Memories.{Contents}
use Rattle.lpt_verify.specs.declared.report.Report.{Report as Verification}
use Rattle.lpt_events.specs.Configs.{IsConfig}
use Rattle.lpt_events.specs.declared.config.Config.{Config}
use Rattle.lpt_events.specs.declared.entry.Release.{Release}
use Rattle.lpt_acts.specs.Acts.{Act}
use Rattle.lpt_refinement.specs.Shows.{sent_packet}
use Rattle.lpt_journal.specs.Jobs.{executed as was_executed, left_by}
use Rattle.lpt_journal.specs.Journal.{History}
use Rattle.lpt_journal.specs.Legal.{Legal}
use Rattle.lpt_journal.specs.Link.{sent}
use Rattle.lpt_journal.specs.Replies.{history_after}
use Rattle.lpt_apart.specs.Ends.{Ends, Log, Pair, Move}
use Rattle.lpt_apart.specs.TwoEnds.{requests_executed, IsOnTheWay}
use Rattle.lpt_apart.specs.Moves.{came_to, CanMoveAll}
use Rattle.lpt_apart.proofs.Links.{held_at}
use Rattle.lpt_apart.proofs.Moving.{apart, ends_apart_keep_the_promise}
use Rattle.lpt_apart.proofs.Queues.{executed_told}
use Rattle.lpt_passes.specs.Alone.{IsNamed}
use Rattle.lpt_passes.specs.Images.{Stands}
use Rattle.lpt_passes.specs.Reported.{WasDumped}
use Rattle.lpt_passes.proofs.CarriedLemmas.{completed_was_executed, dumped_is_memory}
use Rattle.lpt_passes.proofs.ImageLemmas.{pass_leaves_the_image, sizes_left}
use Rattle.lpt_passes.specs.Asked.{IsOfGroundIn}
use Rattle.lpt_passes.proofs.AskedLemmas.{executed_was_asked}
use Rattle.lpt_passes.proofs.GrowthLemmas.{moves_grow, could_move}
use Rattle.lpt_passes.specs.Passes.{IsDumpedIn, IsExecutedIn, WasHeard, IsAloneIn, HeardDumpIsMemory, HeardWasExecuted, PassesLeaveTheImage}

-- what a list of functions of elements has at a place
mapped : {A B : Type 0} (f : A → B) (xs : List A) (k : ℕ) (y : A)
    → slice_get xs k ≡ Some y
    → slice_get (map f xs) k ≡ Some (f y)
mapped f [] k y e = absurd cc
mapped f (x ∷ xs) zero y e = let same : x ≡ y = cc in ap (λ z. Some (f z)) same
mapped f (x ∷ xs) (suc k) y e = mapped f xs k y e

-- what is on its way down was put on the link of a world, whose journal tells the log
record WasPut (c : Config) (first : Contents) (p : Pair) (b : List ℕ) : Type 0 where
  events : List Act
  legal : Legal c first events
  number : ℕ
  put : slice_get (sent (history_after c first events)) number
      ≡ Some (record { direction = Down; octets = b })
  told : requests_executed p.ends.log
      ≡ map (λ r. r.message) (was_executed c (history_after c first events))

was_put : (c : Config) (first : Contents) (xs : List Move) (b : List ℕ)
    → IsConfig c
    → CanMoveAll c first xs
    → IsOnTheWay (came_to c first xs).ends Down b
    → WasPut c first (came_to c first xs) b
was_put c first xs b good can way =
    let but = (apart c first ⊥ xs good (λ u. absurd u) can).but in
    let f = but.less.leads.follows in
    let es : List Act = f.events in
    let there : slice_get but.whole.on_the_way way.place ≡ Some way.packet =
    ap (λ (e : Ends). slice_get e.on_the_way way.place) but.is ∙ way.there in
    let held =
    held_at f.state.link.packets but.whole.on_the_way way.place way.packet f.tied.held there in
    let same : sent_packet held.packet ≡ record { direction = Down; octets = b } =
    λ i. record {
      direction = (held.direction ∙ way.goes) i;
      octets = (held.octets ∙ way.octets) i;
    } in
    record {
      events = es;
      legal = f.tied.legal;
      number = held.number;
      put =
          ap (λ ps. slice_get ps held.number) (sym f.tied.shown.link.packets)
          ∙ mapped sent_packet f.state.link.packets held.number held.packet held.there
          ∙ ap Some same;
      told =
          ap (λ (e : Ends). requests_executed e.log) (sym but.is)
          ∙ ap requests_executed (sym f.tied.tells)
          ∙ executed_told c first es f.tied.legal;
    }

pub heard_was_executed : HeardWasExecuted
heard_was_executed c first xs to subtype said good can hears success =
    let w = was_put c first xs hears.octets good can hears.on_the_way in
    let h : History = history_after c first w.events in
    let done =
    completed_was_executed c first w.events w.number _ to subtype said good w.legal w.put hears.is
    success in
    let run = done.execution in
    record {
      place = run.did.place;
      message = done.release.message;
      is_executed =
          ap (λ ms. slice_get ms run.did.place) w.told
          ∙ mapped (λ (r : Release). r.message) (was_executed c h) run.did.place done.release
          run.did.is_executed;
      is_named = record { of_source = done.of_source; is_request = done.is_request };
    }

-- ---- dumps

mapped_front : {A B : Type 0} (f : A → B) (n : ℕ) (xs : List A)
    → map f (take n xs) ≡ take n (map f xs)
mapped_front f zero xs = refl
mapped_front f (suc n) [] = refl
mapped_front f (suc n) (x ∷ xs) = ap (λ ys. f x ∷ ys) (mapped_front f n xs)

-- what a world's journal has of a dump, a log that has the same executed has
pub of_journal : (c : Config) (first : Contents) (h : History) (log : Log) (to : ℕ) (body : List ℕ)
    → requests_executed log ≡ map (λ r. r.message) (was_executed c h)
    → WasDumped c first h to body
    → IsDumpedIn c first log to body
of_journal c first h log to body told done =
    let run = done.execution in
    let messages : List Release → List (List ℕ) = map (λ r. r.message) in
    let before : List Release = was_executed c (drop (suc run.number) h) in
    let same : messages before ≡ take run.did.place (requests_executed log) =
    ap messages run.did.so_far
    ∙ mapped_front (λ (r : Release). r.message) run.did.place (was_executed c h)
    ∙ ap (λ ms. take run.did.place ms) (sym told) in
    record {
      place = run.did.place;
      message = done.release.message;
      is_executed =
          ap (λ ms. slice_get ms run.did.place) told
          ∙ mapped (λ (r : Release). r.message) (was_executed c h) run.did.place done.release
          run.did.is_executed;
      of_source = done.of_source;
      memory = done.memory;
      ranges = done.ranges;
      is_dump =
          ap (λ s. meaning c.apid s done.release.message)
          (sym (sizes_left c.apid (messages before) first))
          ∙ done.is_dump;
      is_body =
          done.is_body
          ∙ ap (λ ms. dump_body done.memory done.ranges (left_by c.apid ms first)) same;
    }

pub heard_dump_is_memory : HeardDumpIsMemory
heard_dump_is_memory c first xs to body good can hears =
    let w = was_put c first xs hears.octets good can hears.on_the_way in
    of_journal c first (history_after c first w.events) (came_to c first xs).ends.log to body w.told
    (dumped_is_memory c first w.events w.number _ to body good w.legal w.put hears.is)

-- what stands behind a place stands there in the rest
behind : {A : Type 0} (n : ℕ) (xs : List A) (k : ℕ) (y : A)
    → slice_get xs k ≡ Some y
    → n ≤ k
    → slice_get (drop n xs) (k - n) ≡ Some y
behind zero xs k y e le = ap (slice_get xs) (let same : k - 0 ≡ k = omega arith in same) ∙ e
behind (suc n) [] k y e le = absurd cc
behind (suc n) (x ∷ xs) zero y e le = absurd (omega arith)
behind (suc n) (x ∷ xs) (suc k) y e le =
    ap (slice_get (drop n xs)) (let same : suc k - suc n ≡ k - n = omega arith in same)
    ∙ behind n xs k y e (omega arith)

-- what was heard once was executed
was_executed_by_then : (c : Config) (first : Contents) (xs : List Move) (to subtype : ℕ)
    (said : Verification)
    → IsConfig c
    → CanMoveAll c first xs
    → WasHeard c first xs to subtype said
    → (subtype ≡ 3) ⊎ (subtype ≡ 7)
    → IsExecutedIn c (came_to c first xs).ends.log to said.request.value
was_executed_by_then c first xs to subtype said good can heard success =
    let all : CanMoveAll c first (heard.later ++ heard.earlier) =
    subst (λ ys. CanMoveAll c first ys) (sym heard.are) can in
    let it =
    heard_was_executed c first heard.earlier to subtype said good
    (could_move c first heard.later heard.earlier all) heard.may success in
    subst (λ ys. IsExecutedIn c (came_to c first ys).ends.log to said.request.value) heard.are
    (record {
      place = it.place;
      message = it.message;
      is_executed =
          moves_grow c first heard.later heard.earlier it.place it.message it.is_executed;
      is_named = it.is_named;
    })

-- what is ground's and has the source and request ID of a message that is alone is that message
one : (c : Config) (log : Log) (from request : ℕ) (m b : List ℕ)
    → IsAloneIn c log from request m
    → IsNamed c from request b
    → IsOfGroundIn log b
    → b ≡ m
one c log from request m b alone named (inl a) = alone.plain a.0 b a.1 named
one c log from request m b alone named (inr o) = alone.large o.0 o.1 b o.2 named

pub passes_leave_the_image : PassesLeaveTheImage
passes_leave_the_image c first xs x content from place requests good can known fits pass heard =
    let p : Pair = came_to c first xs in
    let log : Log = p.ends.log in
    let promised = ends_apart_keep_the_promise c first xs good can in
    subst (λ ms. Stands x ms) (sym promised.memories)
    (pass_leaves_the_image x c.apid first content
    (requests_executed log) requests place known fits pass.others
    pass.loaded
    (λ k m there.
    let h = heard k m there in
    let it = was_executed_by_then c first xs from h.0 h.1 good can h.4 h.2 in
    let named : IsNamed c from (long_at m 0) it.message =
    record { of_source = it.is_named.of_source; is_request = it.is_named.is_request ∙ h.3 } in
    let same : it.message ≡ m =
    one c log from (long_at m 0) m it.message (pass.alone k m there) named
    (executed_was_asked log it.place it.message promised.due it.is_executed) in (
      it.place - place,
      behind place (requests_executed log) it.place m (it.is_executed ∙ ap Some same)
          (pass.is_new it.place it.message it.is_executed it.is_named.of_source),
    )))

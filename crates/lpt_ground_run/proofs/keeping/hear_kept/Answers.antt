-- One packet more.
use Rattle.std.proofs.Common.{◌≡◌, ◌∙◌, ap, sym, ◌++◌, List, ℕ, subst, drop, take-append-drop}
use Rattle.lpt_stream.specs.Streams.{IsFramed}
use Rattle.lpt_ground.specs.Passes.{octets_heard, state_of}
use Rattle.lpt_ground_run.proofs.KeepingLemmas.{heard-more}
use Rattle.lpt_ground_run.proofs.keeping.hear_kept.Goals as goal

pub loop-len-preserved : goal.loop-len-preserved
loop-len-preserved c =
    let front : List ℕ = c.split_at.result.0.now in
    let behind : List ℕ = c.split_at.result.1.now in
    let same : c.from_vec.result ≡ front = c.from_vec.ensures ∙ c.in_ok-from_slice.ensures.items in
    record {
      heard =
          heard-more c.args.pass.now.terms c.loop-len.pass.terms (state_of c.args.pass.now)
          (state_of c.loop-len.pass) (state_of c.hear.new.self) c.args.octets.now
          c.loop-len.rest.now front behind c.loop-len.invariant.terms c.loop-len.invariant.heard
          (sym (take-append-drop c.in-Some.len c.loop-len.rest.now)
          ∙ ap (λ (l : List ℕ). l ++ drop c.in-Some.len c.loop-len.rest.now)
          (sym c.split_at.ensures.front)
          ∙ ap (λ (l : List ℕ). front ++ l) (sym c.split_at.ensures.back))
          (subst IsFramed (sym c.split_at.ensures.front) c.in-Some.ensures.framed)
          (c.hear.ensures.state
          ∙ ap (λ (o : List ℕ). octets_heard c.loop-len.pass.terms (state_of c.loop-len.pass) o)
          same);
      terms = c.hear.ensures.terms ∙ c.loop-len.invariant.terms;
    }

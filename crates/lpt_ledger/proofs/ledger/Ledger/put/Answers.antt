-- The page with the state of a name, in its place.
use Rattle.std.proofs.Common.{◌≡◌, ◌≢◌, ◌∙◌, ap, sym, rules, inl, inr, ℕ, ◌<◌, ◌%◌, cond, None, List, Option, is_some}
use Rattle.std.specs.BTreeMap.{is_at}
use Rattle.lpt_packet.proofs.KeyLemmas as keyed
use Rattle.lpt_packet.proofs.NameLemmas.{name_cmp_total, name_cmp-IsAntisymmetric}
use Rattle.lpt_packet.specs.Names.{Name, name_cmp}
use Rattle.lpt_ledger.specs.declared.page.Page.{Page}
use Rattle.lpt_ledger.specs.declared.state.State.TheVariants.{Free}
use Rattle.lpt_ledger.specs.LedgerInside.{mark_of, mark_on, marks, page_first, page_in, page_mark, with_state, Tells}
use Rattle.lpt_ledger.specs.Marks.{Mark, Marks}
use Rattle.lpt_ledger.specs.States.{state_of, state_at}
use Rattle.lpt_ledger.proofs.FullLemmas.{first_first, was_free, Tells-put, Tells-words}
use Rattle.lpt_ledger.proofs.MarksLemmas.{get-marks, marks-put}
use Rattle.lpt_ledger.proofs.ledger.Ledger.put.Goals as goal

-- the page is put
put : (c : goal.After-put_bit) (q : Name) (b : ℕ)
    → mark_on (page_in c.put_page.new.pages.entries q) b
    ≡ cond (is_at (name_cmp (page_first c.args.name)) q) (page_mark c.with-page.result b)
    (mark_on (page_in c.self.inside.pages.entries q) b)
put c q b =
    let es = c.self.inside.pages.entries in
    c.in_ok-put_page.ensures.ok q b
    ∙ ap (λ (n : Name). cond (is_at (name_cmp n) q) (page_mark c.with-page.result b)
    (mark_on (page_in es q) b))
    c.first_among-first.ensures

pub returns-clause-ok : goal.returns-clause-ok
returns-clause-ok c =
    let es = c.self.inside.pages.entries in
    let fs = c.put_page.new.pages.entries in
    let name = c.args.name in
    let page = c.with-page.result in
    let this : page_mark page (name.id % 64) ≡ mark_of c.args.state =
    ap (λ (b : ℕ). page_mark page b) (sym c.from.ensures) ∙ c.with-page.ensures.this in
    let others : (b : ℕ) → b < 64 → b ≢ name.id % 64 → page_mark page b
    ≡ mark_on (page_in es (page_first name)) b =
    λ b within other.
    c.with-page.ensures.others b within (λ same. other (same ∙ c.from.ensures))
    ∙ c.page_of-before.ensures b
    ∙ ap (λ (n : Name). mark_on (page_in es n) b) c.first_among-first.ensures in
    marks-put es fs name c.args.state page this others (put c)
    ∙ ap (λ (m : Marks). with_state m name c.args.state) c.self.view_is

-- a name without a mark is free
free_by : (es : List (Name × Page)) (m : Marks) (name first : Name)
    → marks es ≡ m
    → first ≡ page_first name
    → mark_on (page_in es first) (name.id % 64) ≡ None
    → state_at m name ≡ Free
free_by es m name first seen is none =
    ap (λ (n : Marks). state_at n name) (sym seen)
    ∙ ap (λ (o : Option Mark). state_of o) (get-marks es name
    ∙ ap (λ (n : Name). mark_on (page_in es n) (name.id % 64)) (sym is)
    ∙ none)

-- only of a page without a place memory is wanted
pub returns-in_err-put_page-clause-free : goal.returns-in_err-put_page-clause-free
returns-in_err-put_page-clause-free c =
    let free : state_at c.args.self.now c.args.name ≡ Free =
    free_by c.self.inside.pages.entries c.args.self.now c.args.name c.first_among-first.result
    c.self.view_is
    c.first_among-first.ensures
    (ap (λ o. mark_on o (c.args.name.id % 64)) c.in_err-put_page.ensures.none) in
    search rules

-- or for the bit of one that gets full
pub returns-in_err-keep_place-clause-free : goal.returns-in_err-keep_place-clause-free
returns-in_err-keep_place-clause-free c =
    let place = c.args.name.id % 64 in
    let free : state_at c.args.self.now c.args.name ≡ Free =
    free_by c.self.inside.pages.entries c.args.self.now c.args.name c.first_among-first.result
    c.self.view_is
    c.first_among-first.ensures (sym (c.page_of-before.ensures place)
    ∙ was_free c.page_of-before.result c.with-page.result place
    (λ b within other. c.with-page.ensures.others b within (λ same. other (same ∙ c.from.ensures)))
    c.in_err-keep_place.ensures.before c.in_err-keep_place.ensures.full) in
    search rules

-- ---- the bits still tell, and pages stand under their first names

pub invariant_of-self : goal.invariant_of-self
invariant_of-self c = record {
  tells = Tells-words c.self.inside.pages.entries c.self.inside.full.entries
      c.keep_place.new.words.entries
      c.self.invariant.tells c.keep_place.ensures.words;
  paged = c.self.invariant.paged;
}

pub invariant_of-self-2 : goal.invariant_of-self-2
invariant_of-self-2 c =
    let es = c.self.inside.pages.entries in
    let kept : Tells es c.keep_place.new.words.entries =
    Tells-words es c.self.inside.full.entries c.keep_place.new.words.entries c.self.invariant.tells
    c.keep_place.ensures.words in record {
      tells = Tells-put es c.put_page.new.pages.entries c.keep_place.new.words.entries
          c.put_bit.new.words.entries
          c.args.name c.with-page.result c.is_full.result kept (put c) c.is_full.ensures.full
          c.put_bit.ensures.this c.put_bit.ensures.others;
      paged = λ q some.
          elim (keyed.same_or_not name_cmp_total name_cmp-IsAntisymmetric c.first_among-first.result
          q) [
            | inl w ↦
                let is : q ≡ page_first c.args.name = sym w.1 ∙ c.first_among-first.ensures in
                ap page_first is ∙ first_first c.args.name ∙ sym is
            | inr w ↦
                c.self.invariant.paged q (sym (ap is_some (c.in_ok-put_page.ensures.others q w.0))
                ∙ some)
          ];
    }

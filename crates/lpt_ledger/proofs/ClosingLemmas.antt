-- What closing each open name does to the marks.
use Rattle.std.proofs.Common.{◌≡◌, ◌∙◌, refl, sym, ap, rules, ℕ, ◌==◌, ◌%◌, Bool, true, false, cond, List, [], ◌∷◌, map as mapped, Option, Some, None, is_some}
use Rattle.std.proofs.lemmas.Map.Made.{lookup-map_values}
use Rattle.std.specs.BTreeMap.{is_at}
use Rattle.std.specs.FinMap.{get, entries, find, get-entries, get-from_entries}
use Rattle.std.specs.Int.{bit_at}
use Rattle.std.specs.Option.{option_map}
use Rattle.std.specs.Ordering.{eq_by_cmp}
use Rattle.lpt_packet.proofs.BoolLemmas.{is_some-map}
use Rattle.lpt_packet.proofs.NameLemmas.{name_cmp_total}
use Rattle.lpt_packet.specs.Names.{Name, name_cmp}
use Rattle.lpt_ledger.specs.declared.page.Page.{Page}
use Rattle.lpt_ledger.specs.Marks.{Mark, Opened, Shut, Marks, shut_mark, all_closed}
use Rattle.lpt_ledger.specs.States.{state_of, state_at, closed_state}
use Rattle.lpt_ledger.specs.LedgerInside.{closed_page, mark_at, mark_by_bits, mark_on, marks, page_first, page_in, page_mark, IsKept}
use Rattle.lpt_ledger.proofs.MarksLemmas.{get-marks, same_marks}

-- ---- all at once

-- marks with each of them shut
abbrev all_shut : List (Name × Mark) → List (Name × Mark)
all_shut es = mapped (λ (e : Name × Mark). (e.0, Shut)) es

-- what is found among them
find-shut : (q : Name) (es : List (Name × Mark))
    → find name_cmp q (all_shut es) ≡ shut_mark (find name_cmp q es)
find-shut q [] = refl
find-shut q (e ∷ es) =
    let rest = find name_cmp q es in
    let shut = find name_cmp q (all_shut es) in
    let same : Bool → Type 0 = λ b. cond b (Some Shut) shut ≡ shut_mark (cond b (Some e.1) rest) in
    elim (eq_by_cmp name_cmp q e.0) as same [ true ↦ refl | false ↦ find-shut q es ]

-- the mark of each name once all are closed
pub get-all_closed : (m : Marks) (q : Name) → get (all_closed m) q ≡ shut_mark (get m q)
unfolding all_closed
get-all_closed m q =
    get-from_entries name_cmp_total (all_shut (entries m)) q
    ∙ find-shut q (entries m)
    ∙ ap shut_mark (sym (get-entries m q))

-- the state that a mark says once it is shut
state_of-shut_mark : (o : Option Mark) → state_of (shut_mark o) ≡ closed_state (state_of o)
state_of-shut_mark None = refl
state_of-shut_mark (Some Opened) = refl
state_of-shut_mark (Some Shut) = refl

-- the state of each name once all are closed
pub state_at-all_closed : (m : Marks) (q : Name)
    → state_at (all_closed m) q ≡ closed_state (state_at m q)
state_at-all_closed m q = ap state_of (get-all_closed m q) ∙ state_of-shut_mark (get m q)

-- ---- all pages

-- a page of which no name is open has the marks that are shut
closed_mark : (g : Page) (b : ℕ) → page_mark (closed_page g) b ≡ shut_mark (page_mark g b)
closed_mark g b = ap (λ (n : ℕ). mark_by_bits (bit_at g.taken b == 1) (n == 1)) (no_bit b)
    ∙ go (bit_at g.taken b == 1) (bit_at g.opened b == 1) where
      no_bit : (b : ℕ) → bit_at 0 b ≡ 0
      no_bit b = search rules

      go : (t o : Bool) → mark_by_bits t false ≡ shut_mark (mark_by_bits t o)
      go false o = refl
      go true true = refl
      go true false = refl

-- pages of which no name is open
abbrev pub all_pages : List (Name × Page) → List (Name × Page)
all_pages es = mapped (λ (e : Name × Page). (e.0, closed_page e.1)) es

-- the mark of each name is shut
mark_at-closed : (es : List (Name × Page)) (q : Name) → mark_at (all_pages es) q
    ≡ shut_mark (mark_at es q)
mark_at-closed es q =
    ap (λ o. mark_on o (q.id % 64))
    (lookup-map_values closed_page (is_at (name_cmp (page_first q))) es)
    ∙ go (page_in es (page_first q)) (q.id % 64)
  where
    go : (o : Option Page) (b : ℕ) → mark_on (option_map closed_page o) b ≡ shut_mark (mark_on o b)
    go None b = refl
    go (Some g) b = closed_mark g b

-- to close each page is to shut all marks
pub marks-closed : (es : List (Name × Page)) → marks (all_pages es) ≡ all_closed (marks es)
marks-closed es =
    same_marks (marks (all_pages es)) (all_closed (marks es)) (λ q.
    get-marks (all_pages es) q
    ∙ mark_at-closed es q
    ∙ ap shut_mark (sym (get-marks es q))
    ∙ sym (get-all_closed (marks es) q))

-- and frees none, and moves no page
pub IsKept-closed : (es : List (Name × Page)) (ws : List (Name × ℕ)) → IsKept es ws
    → IsKept (all_pages es) ws
IsKept-closed es ws kept = record {
  tells = λ q one. ap is_some (mark_at-closed es q) ∙ go (mark_at es q) ∙ kept.tells q one;
  paged = λ q some.
      kept.paged q (sym (ap is_some (lookup-map_values closed_page (is_at (name_cmp q)) es)
      ∙ is_some-map closed_page (page_in es q)) ∙ some);
} where
  go : (o : Option Mark) → is_some (shut_mark o) ≡ is_some o
  go None = refl
  go (Some x) = refl

-- What retirement and a restart make of the ledgers.
use Rattle.std.proofs.Common.{◌≡◌, ◌∙◌, ap, sym, refl, Bool, true, false, cond, Option, Some, None, is_some}
use Rattle.std.specs.FinMap as map
use Rattle.lpt_packet.proofs.NameLemmas.{name_cmp_total, name_cmp-IsAntisymmetric, same_name-true}
use Rattle.lpt_packet.specs.Names.{Name, same_name, name_cmp}
use Rattle.lpt_ledger.specs.declared.state.State.TheVariants.{Free}
use Rattle.lpt_ledger.specs.Marks.{Mark, Marks, Opened, Shut, all_closed, shut_mark}
use Rattle.lpt_ledger.specs.States.{state_of, state_at}
use Rattle.lpt_node.specs.NodeInside.{AreKept}
use Rattle.lpt_node.specs.Nodes.{Messages, is_open}
use Rattle.lpt_node.proofs.MapLemmas.{get_insert, get_remove}

-- ---- retirement

-- a name that has no mark is free as it is
no_mark : (x : Option Mark) → state_of x ≡ Free → x ≡ None
no_mark None h = refl
no_mark (Some Opened) h = cc
no_mark (Some Shut) h = cc

without : (m : Marks) (name q : Name) (b : Bool)
    → same_name q name ≡ b
    → map.get m name ≡ None
    → map.get m q ≡ cond b None (map.get m q)
without m name q true same none = ap (map.get m) (same_name-true q name same) ∙ none
without m name q false other none = refl

-- to take a free name out changes nothing
pub retired-free : (m : Marks) (name : Name) → state_at m name ≡ Free → m ≡ map.remove m name
retired-free m name free =
    map.same_map name_cmp_total name_cmp-IsAntisymmetric m (map.remove m name) (λ q.
    without m name q (same_name q name) refl (no_mark (map.get m name) free)
    ∙ sym (get_remove m name q))

-- ---- a restart

-- what a ledger has under each name once all are closed
abbrev pub ClosesEach : Type 0
ClosesEach = (m : Marks) (name : Name) → map.get (all_closed m) name ≡ shut_mark (map.get m name)

-- a name that is open has a mark, which is shut
shut_open : (x : Option Mark) → is_open (state_of x) ≡ true → Some Shut ≡ shut_mark x
shut_open None h = cc
shut_open (Some Opened) h = refl
shut_open (Some Shut) h = cc

one_shut : (m : Marks) (name q : Name) (b : Bool)
    → same_name q name ≡ b
    → is_open (state_at m name) ≡ true
    → shut_mark (cond b (Some Shut) (map.get m q)) ≡ shut_mark (map.get m q)
one_shut m name q true same is =
    shut_open (map.get m name) is
    ∙ ap (λ (n : Name). shut_mark (map.get m n)) (sym (same_name-true q name same))
one_shut m name q false other is = refl

-- to close all is to close an open one, and then all
pub all_closed-one : (m : Marks) (name : Name)
    → ClosesEach
    → is_open (state_at m name) ≡ true
    → all_closed (map.insert m name Shut) ≡ all_closed m
all_closed-one m name law is =
    map.same_map name_cmp_total name_cmp-IsAntisymmetric _ _ (λ q.
    law (map.insert m name Shut) q
    ∙ ap shut_mark (get_insert m name Shut q)
    ∙ one_shut m name q (same_name q name) refl is
    ∙ sym (law m q))

-- a name that isn't open keeps its mark
shut_other : (x : Option Mark) → false ≡ is_open (state_of x) → shut_mark x ≡ x
shut_other None h = refl
shut_other (Some Opened) h = cc
shut_other (Some Shut) h = refl

-- where no message is kept none is open, and to close all changes nothing
pub all_closed-none : (m : Marks) (ms : Messages)
    → ClosesEach
    → AreKept m ms
    → ms ≡ map.empty
    → m ≡ all_closed m
all_closed-none m ms law kept none =
    map.same_map name_cmp_total name_cmp-IsAntisymmetric _ _ (λ q.
    sym (law m q ∙ shut_other (map.get m q)
    (sym (ap is_some (ap (λ (ms : Messages). map.get ms q) none ∙ map.get-empty name_cmp q)) ∙ kept q)))

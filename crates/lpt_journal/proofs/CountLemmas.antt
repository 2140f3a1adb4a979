-- How many transactions and receptions are open: each of them has a name that was opened, or heard.
use Rattle.std.proofs.Common.{◌≡◌, ◌∙◌, ap, sym, refl, ◌==◌, Bool, true, false, not, ◌&&◌, ◌||◌, if◌then◌else◌, List, [], ◌∷◌, ◌++◌, map, Option, Some, None, arith}
use Rattle.std.specs.Prelude.{filter}
use Rattle.std.specs.Option.{option_or}
use Rattle.std.proofs.lemmas.Bool.Decides.{nat_tests}
use Rattle.std.specs.List.{list_any, find}
use Rattle.std.specs.FinMap as maps
use Rattle.std.specs.Ordering.{nat_cmp}
use Rattle.lpt_packet.specs.declared.direction.Direction.{Direction}
use Rattle.lpt_packet.specs.Names.{Name, same_name}
use Rattle.lpt_packet.proofs.NameLemmas.{same_name-true}
use Rattle.lpt_events.specs.Lanes.{lane_direction, same_direction}
use Rattle.lpt_events.specs.declared.config.Config.{Config}
use Rattle.lpt_events.specs.declared.outcome.Outcome.TheVariants.{Kept, Released, Broken}
use Rattle.lpt_events.specs.Arrivals.{Arrival}
use Rattle.lpt_reception.specs.Received.{Kept as Kept', Parts, no_parts}
use Rattle.lpt_events.specs.declared.lane.Lane.{Lane}
use Rattle.lpt_events.specs.declared.entry.Opening.{Opening}
use Rattle.lpt_acts.specs.Acts.{Act, Deliver, Expire, Restart}
use Rattle.lpt_events.specs.declared.reply.Answer.{Answer}
use Rattle.lpt_events.specs.declared.reply.Answer.TheVariants.{Delivered}
use Rattle.lpt_events.specs.Sides.{same_side, receiver_side}
use Rattle.lpt_journal.specs.Journal.{History, with_all}
use Rattle.lpt_journal.specs.Hands.{in_hand}
use Rattle.lpt_journal.specs.Receivers.{heard, ends, heard_now, heard_after, has_parts, heard_names, names_after, with_kept_name, with_arrival}
use Rattle.lpt_journal.specs.Senders.{sender, sender_of, is_open, is_opening_of, retires, current, is_over, opened, opened_names}
use Rattle.lpt_packet.proofs.BoolLemmas.{or_false, or_true}

-- ---- lists

-- the order of two names doesn't matter
pub same_name-comm : (a b : Name) → same_name a b ≡ same_name b a
same_name-comm a b = grind (arith, nat_tests)

or_assoc : (a b d : Bool) → (a || (b || d)) ≡ ((a || b) || d)
or_assoc true b d = refl
or_assoc false b d = refl

-- a test of some element, over two lists
any-append : {A : Type 0} (p : A → Bool) (xs ys : List A) → list_any p (xs ++ ys) ≡ (list_any p xs || list_any p ys)
any-append p [] ys = refl
any-append p (x ∷ xs) ys = ap (λ t. p x || t) (any-append p xs ys) ∙ or_assoc (p x) (list_any p xs) (list_any p ys)

any-with_all : {A : Type 0} (p : A → Bool) (xs ys : List A) → list_any p (with_all xs ys) ≡ (list_any p xs || list_any p ys)
any-with_all p xs [] = sym (or_false (list_any p xs))
any-with_all p xs (y ∷ ys) = any-append p xs (y ∷ ys)

-- a name is among those that pass exactly where it passes and is among all
pub any-filter : (p : Name → Bool) (name : Name) (xs : List Name) → list_any (same_name name) (filter p xs) ≡ (p name && list_any (same_name name) xs)
any-filter p name [] = go (p name) where
  go : (t : Bool) → false ≡ (t && false)
  go true = refl
  go false = refl
any-filter p name (x ∷ xs) = go (any-filter p name xs) (p x) refl (same_name name x) refl where
  go : list_any (same_name name) (filter p xs) ≡ (p name && list_any (same_name name) xs) → (t : Bool) → p x ≡ t → (u : Bool) → same_name name x ≡ u
      → list_any (same_name name) (if t then x ∷ filter p xs else filter p xs) ≡ (p name && (same_name name x || list_any (same_name name) xs))
  go all true e true d =
      let passes : p name ≡ true = ap p (same_name-true name x d) ∙ e in
      ap (λ t. t || list_any (same_name name) (filter p xs)) d ∙ sym (λ i. passes i && (d i || list_any (same_name name) xs))
  go all true e false d =
      ap (λ t. t || list_any (same_name name) (filter p xs)) d ∙ all ∙ sym (ap (λ t. p name && (t || list_any (same_name name) xs)) d)
  go all false e true d =
      let fails : p name ≡ false = ap p (same_name-true name x d) ∙ e in
      all ∙ ap (λ t. t && list_any (same_name name) xs) fails ∙ sym (ap (λ t. t && (same_name name x || list_any (same_name name) xs)) fails)
  go all false e false d = all ∙ sym (ap (λ t. p name && (t || list_any (same_name name) xs)) d)

-- ---- senders

-- what was found is there
find-any : {A : Type 0} (p : A → Bool) (xs : List A) (x : A) → find p xs ≡ Some x → list_any p xs ≡ true
find-any p [] x e = absurd cc
find-any p (y ∷ ys) x e = go (find-any p ys x) (p y) e where
  go : (find p ys ≡ Some x → list_any p ys ≡ true) → (t : Bool) → (if t then Some y else find p ys) ≡ Some x → (t || list_any p ys) ≡ true
  go rest true k = refl
  go rest false k = rest k

-- a transaction that is current was opened
current_opened : (h : History) (d : Direction) (name : Name) (o : Opening) → current h d name ≡ Some o → list_any (is_opening_of d name) (opened h) ≡ true
current_opened [] d name o e = absurd cc
current_opened (x ∷ h) d name o e = any-with_all (is_opening_of d name) (opened h) x.opens ∙ go (retires x.event d name) (find (is_opening_of d name) x.opens) refl e (current_opened h d name o) where
  go : (r : Bool) (f : Option Opening) → find (is_opening_of d name) x.opens ≡ f → ◌≡◌ {A = Option Opening} (if r then None else option_or f (current h d name)) (Some o)
      → (current h d name ≡ Some o → list_any (is_opening_of d name) (opened h) ≡ true)
      → (list_any (is_opening_of d name) (opened h)
      || list_any (is_opening_of d name) x.opens) ≡ true
  go true f a k before = absurd cc
  go false None a k before = ap (λ t. t || list_any (is_opening_of d name) x.opens) (before k)
  go false (Some y) a k before = ap (λ t. list_any (is_opening_of d name) (opened h) || t) (find-any (is_opening_of d name) x.opens y a) ∙ or_true (list_any (is_opening_of d name) (opened h))

-- the names of openings in a direction
any-names : (d : Direction) (name : Name) (os : List Opening) → list_any (same_name name) (map (λ o. o.name) (filter (λ o. same_direction o.direction d) os)) ≡ list_any (is_opening_of d name) os
any-names d name [] = refl
any-names d name (o ∷ os) = go (same_direction o.direction d) (any-names d name os) where
  go : (t : Bool) → list_any (same_name name) (map (λ o. o.name) (filter (λ o. same_direction o.direction d) os)) ≡ list_any (is_opening_of d name) os
      → list_any (same_name name) (map (λ o. o.name) (if t then o ∷ filter (λ o. same_direction o.direction d) os else filter (λ o. same_direction o.direction d) os)) ≡ ((t && same_name o.name name) || list_any (is_opening_of d name) os)
  go true rest = λ i. same_name-comm name o.name i || rest i
  go false rest = rest

-- an open sender's name was opened
pub open_named : (h : History) (d : Direction) (name : Name) → list_any (same_name name) (filter (λ q. is_open (sender h d q)) (opened_names h d)) ≡ is_open (sender h d name)
open_named h d name = any-filter (λ q. is_open (sender h d q)) name (opened_names h d) ∙ go (current h d name) refl (is_over h d name) where
  go : (o : Option Opening) → current h d name ≡ o → (t : Bool) → (is_open (sender_of o t) && list_any (same_name name) (opened_names h d)) ≡ is_open (sender_of o t)
  go None e t = refl
  go (Some o) e true = refl
  go (Some o) e false = any-names d name (opened h) ∙ current_opened h d name o e

-- ---- receptions

-- no reception is open where nothing is kept
pub none_open : has_parts no_parts ≡ false
none_open = ap (λ n. not (n == 0)) (maps.len-empty nat_cmp Kept')

-- where nothing is kept any more no reception is open, else as before
open_before : (gone : Bool) (before : Parts) (names : List Name) (name : Name) → (has_parts before ≡ true → list_any (same_name name) names ≡ true)
    → has_parts (if gone then no_parts else before) ≡ true → list_any (same_name name) names ≡ true
open_before true before names name was e = let k : true ≡ false = sym e ∙ none_open in absurd cc
open_before false before names name was e = was e

-- the name of an open reception after a delivery was heard
heard_now_named : (a : Answer) (r : Arrival) (name : Name) (before : Parts) (names : List Name) → (has_parts before ≡ true → list_any (same_name name) names ≡ true)
    → has_parts (heard_now a r name before) ≡ true → list_any (same_name name) (with_kept_name a names) ≡ true
heard_now_named (Delivered (Kept i k)) r name before names was
    e = go (same_name i name) refl e where
      go : (t : Bool) → same_name i name ≡ t → has_parts (if t then with_arrival r before else before) ≡ true → (same_name name i || list_any (same_name name) names) ≡ true
      go true d f = ap (λ t. t || list_any (same_name name) names) (same_name-comm name i ∙ d)
      go false d f = ap (λ t. same_name name i || t) (was f) ∙ or_true (same_name name i)
heard_now_named (Delivered (Released i n)) r name before names was e = open_before (same_name i name) before names name was e
heard_now_named (Delivered (Broken i n)) r name before names was e = open_before (same_name i name) before names name was e
heard_now_named a r name before names was e = was e

heard_after_named : (ev : Act) (a : Answer) (r : Lane → Arrival) (d : Direction) (name : Name) (before : Parts) (names : List Name) → (has_parts before ≡ true → list_any (same_name name) names ≡ true)
    → has_parts (heard_after ev a r d name before) ≡ true → list_any (same_name name) (names_after ev a d names) ≡ true
heard_after_named (Deliver l) a r d name before names was e = go (same_direction (lane_direction l) d) e where
  go : (t : Bool) → has_parts (if t then heard_now a (r l) name before else before) ≡ true → list_any (same_name name) (if t then with_kept_name a names else names) ≡ true
  go true f = heard_now_named a (r l) name before names was f
  go false f = was f
heard_after_named (Expire s which) a r d name before names was e = open_before (same_side s (receiver_side d) && ends a name) before names name was e
heard_after_named (Restart s) a r d name before names was e = open_before (same_side s (receiver_side d)) before names name was e
heard_after_named ev a r d name before names was e = was e

-- the name of an open reception was heard
heard_named : (c : Config) (h : History) (d : Direction) (name : Name) → has_parts (heard c h d name) ≡ true → list_any (same_name name) (heard_names h d) ≡ true
heard_named c [] d name e = let k : true ≡ false = sym e ∙ none_open in absurd cc
heard_named c (x ∷ h) d name e = heard_after_named x.event x.reply.answer (in_hand c h) d name (heard c h d name) (heard_names h d) (heard_named c h d name) e

pub reception_named : (c : Config) (h : History) (d : Direction) (name : Name) → list_any (same_name name) (filter (λ q. has_parts (heard c h d q)) (heard_names h d)) ≡ has_parts (heard c h d name)
reception_named c h d name = any-filter (λ q. has_parts (heard c h d q)) name (heard_names h d) ∙ go (has_parts (heard c h d name)) refl where
  go : (t : Bool) → has_parts (heard c h d name) ≡ t → (t && list_any (same_name name) (heard_names h d)) ≡ t
  go true e = heard_named c h d name e
  go false e = refl

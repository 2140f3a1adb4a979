-- The words of a load, judged before memory is taken for its areas.
use Rattle.std.proofs.Common.{◌≡◌, ℕ, suc, ◌+◌, ◌-◌, ◌<◌, ◌≤◌, ◌==◌, ◌&&◌, ◌||◌, ◌⊎◌, Bool, true, false, not, if◌then◌else◌, nat_le, nat_lt, List, [], ◌∷◌, length, sum_by, Option, Some, None, is_some, option_map, refl, sym, ◌∙◌, arith}
use Rattle.std.proofs.lemmas.Bool.Decides.{nat_tests}
use Rattle.lpt_memory.specs.Fields.{◌>>=◌}
use Rattle.lpt_memory.specs.Spellings.{write_fault, any_empty}
use Rattle.lpt_memory.specs.declared.fault.MemoryFault.TheVariants.{TooLong, BadArea}
use Rattle.lpt_memory.specs.declared.request.Area.{Area}
use Rattle.std.proofs.lemmas.List.Sums.{sum_by-cons}
use Rattle.lpt_script_words.specs.Grammar.{area_of, areas_of, load_with, can_be_loaded, counts}
use Rattle.lpt_script_words.specs.Loads.{LoadView, if_written}
use Rattle.lpt_packet.specs.Names.{Name}
use Rattle.lpt_script_words.specs.Names.{name_of, u16_of, u8_of, flags_of}

-- ---- areas

-- the octets that areas have in a packet
abbrev cost : List Area → ℕ
cost areas = sum_by (λ a. 8 + length a.octets) areas

-- areas that have so much room, and are no more than are left, with others before them or not
abbrev pub fits : (room left : ℕ) → (some : Bool) → Option (List Area) → Bool
fits room left some None = false
fits room left some (Some areas) =
    (nat_le (cost areas) room && nat_le (length areas) left)
    && (not (any_empty areas) && (some || not (length areas == 0)))

fault_parts : (n s : ℕ) (e : Bool)
    → not (nat_lt 65542 (15 + s) || (n == 0 || nat_lt 255 n || e))
    ≡ ((nat_le s 65527 && nat_le n 255) && (not e && (false || not (n == 0))))
fault_parts n s true = grind (arith, nat_tests)
fault_parts n s false = grind (arith, nat_tests)

no_fault : {A : Type 0} (a b : Bool) (x y : A)
    → not (is_some (if a then Some x else if b then Some y else None)) ≡ not (a || b)
no_fault true b x y = refl
no_fault false true x y = refl
no_fault false false x y = refl

-- a load of areas can be written where they fit a packet
fits-all : (areas : Option (List Area)) → can_be_loaded areas ≡ fits 65527 255 false areas
fits-all None = refl
fits-all (Some areas) =
    no_fault (nat_lt 65542 (15 + cost areas))
    (length areas == 0 || nat_lt 255 (length areas) || any_empty areas) TooLong BadArea
    ∙ fault_parts (length areas) (cost areas) (any_empty areas)

-- an area in front adds its own
cost-first : (a : Area) (areas : List Area) → cost (a ∷ areas) ≡ 8 + length a.octets + cost areas
cost-first a areas = sum_by-cons (λ x. 8 + length x.octets) a areas

next_parts : (k s n room left : ℕ) (e some : Bool)
    → 0 < k
    → 8 + k ≤ room
    → 0 < left
    → ((nat_le (8 + k + s) room && nat_le (suc n) left)
    && (not (k == 0 || e) && (some || not (suc n == 0))))
    ≡ ((nat_le s (room - (8 + k)) && nat_le n (left - 1)) && (not e && (true || not (n == 0))))
next_parts k s n room left true true filled within more = grind (arith, nat_tests)
next_parts k s n room left true false filled within more = grind (arith, nat_tests)
next_parts k s n room left false true filled within more = grind (arith, nat_tests)
next_parts k s n room left false false filled within more = grind (arith, nat_tests)

-- an area in front takes its room, and is one less
fits-next : (room left : ℕ) (some : Bool) (a : Area) (others : Option (List Area))
    → 0 < length a.octets
    → 8 + length a.octets ≤ room
    → 0 < left
    → fits room left some (others >>= λ more. Some (a ∷ more))
    ≡ fits (room - (8 + length a.octets)) (left - 1) true others
fits-next room left some a None filled within more = refl
fits-next room left some a (Some areas) filled within more =
    rw (cost-first a areas)
    (next_parts (length a.octets) (cost areas) (length areas) room left (any_empty areas) some
    filled within more)

over_parts : (k s n room left : ℕ) (e some : Bool)
    → ((k ≡ 0) ⊎ (left ≡ 0) ⊎ (room < 8 + k))
    → ((nat_le (8 + k + s) room && nat_le (suc n) left)
    && (not (k == 0 || e) && (some || not (suc n == 0))))
    ≡ false
over_parts k s n room left true some over = grind (arith, nat_tests)
over_parts k s n room left false some over = grind (arith, nat_tests)

-- an area without octets, or for which nothing is left, doesn't fit
fits-over : (room left : ℕ) (some : Bool) (a : Area) (others : Option (List Area))
    → ((length a.octets ≡ 0) ⊎ (left ≡ 0) ⊎ (room < 8 + length a.octets))
    → fits room left some (others >>= λ more. Some (a ∷ more)) ≡ false
fits-over room left some a None over = refl
fits-over room left some a (Some areas) over =
    rw (cost-first a areas)
    (over_parts (length a.octets) (cost areas) (length areas) room left (any_empty areas) some over)

-- ---- an area and the words behind it

none_joins : (room left : ℕ) (some : Bool) (first : Option Area) (others : Option (List Area))
    → None ≡ option_map (λ a. length a.octets) first
    → fits room left some (first >>= λ a. others >>= λ more. Some (a ∷ more)) ≡ false
none_joins room left some None others e = refl
none_joins room left some (Some a) others e = absurd cc

over_joins : (room left n : ℕ) (some : Bool) (first : Option Area) (others : Option (List Area))
    → Some n ≡ option_map (λ a. length a.octets) first
    → ((n ≡ 0) ⊎ (left ≡ 0) ⊎ (room < 8 + n))
    → fits room left some (first >>= λ a. others >>= λ more. Some (a ∷ more)) ≡ false
over_joins room left n some None others e over = absurd cc
over_joins room left n some (Some a) others e over =
    let same : n ≡ length a.octets = cc in
    fits-over room left some a others (rw same at over)

next_joins : (room left n : ℕ) (some : Bool) (first : Option Area) (others : Option (List Area))
    → Some n ≡ option_map (λ a. length a.octets) first
    → 0 < n
    → 8 + n ≤ room
    → 0 < left
    → fits room left some (first >>= λ a. others >>= λ more. Some (a ∷ more))
    ≡ fits (room - (8 + n)) (left - 1) true others
next_joins room left n some None others e filled within more = absurd cc
next_joins room left n some (Some a) others e filled within more =
    let same : n ≡ length a.octets = cc in
    rw same (fits-next room left some a others (rw same at filled) (rw same at within) more)

-- two words that are no area
pub fits-no_area : (room left : ℕ) (some : Bool) (ws : List (List ℕ)) (a m : List ℕ)
    → (more : List (List ℕ))
    → ws ≡ a ∷ m ∷ more
    → None ≡ option_map (λ x. length x.octets) (area_of a m)
    → fits room left some (areas_of ws) ≡ false
fits-no_area room left some ws a m more is e =
    rw is (none_joins room left some (area_of a m) (areas_of more) e)

-- two words that are an area for which there is no room
pub fits-no_room : (room left n : ℕ) (some : Bool) (ws : List (List ℕ)) (a m : List ℕ)
    → (more : List (List ℕ))
    → ws ≡ a ∷ m ∷ more
    → Some n ≡ option_map (λ x. length x.octets) (area_of a m)
    → ((n ≡ 0) ⊎ (left ≡ 0) ⊎ (room < 8 + n))
    → fits room left some (areas_of ws) ≡ false
fits-no_room room left n some ws a m more is e over =
    rw is (over_joins room left n some (area_of a m) (areas_of more) e over)

-- two words that are an area for which there is room
pub fits-area : (room left n : ℕ) (some : Bool) (ws : List (List ℕ)) (a m : List ℕ)
    → (more : List (List ℕ))
    → ws ≡ a ∷ m ∷ more
    → Some n ≡ option_map (λ x. length x.octets) (area_of a m)
    → 0 < n
    → 8 + n ≤ room
    → 0 < left
    → fits room left some (areas_of ws) ≡ fits (room - (8 + n)) (left - 1) true (areas_of more)
fits-area room left n some ws a m more is e filled within last =
    rw is (next_joins room left n some (area_of a m) (areas_of more) e filled within last)

-- one word alone is no area
pub fits-one : (room left : ℕ) (some : Bool) (ws : List (List ℕ)) (a : List ℕ)
    → ws ≡ a ∷ []
    → fits room left some (areas_of ws) ≡ false
fits-one room left some ws a is = rw is

-- no more words fit where there are areas before them
pub fits-end : (room left : ℕ) (some : Bool) (ws : List (List ℕ))
    → ws ≡ []
    → fits room left some (areas_of ws) ≡ some
fits-end room left true ws is = rw is (grind (arith, nat_tests))
fits-end room left false ws is = rw is (grind (arith, nat_tests))

-- what is told of the rest is told of all
pub fits-told : (room left : ℕ) (some told : Bool) (rest whole : Option (List Area))
    → fits room left some rest ≡ fits 65527 255 false whole
    → fits room left some rest ≡ told
    → told ≡ can_be_loaded whole
fits-told room left some told rest whole same is = sym is ∙ same ∙ sym (fits-all whole)

-- ---- the words of a load

and_nothing : (a b c d : Bool) → ((((a && b) && c) && d) && false) ≡ false
and_nothing true true true true = refl
and_nothing true true true false = refl
and_nothing true true false d = refl
and_nothing true false c d = refl
and_nothing false b c d = refl

written_parts : (w : Bool) (n : ℕ) (l : LoadView)
    → is_some (if nat_lt 16383 n || w then None else Some l) ≡ (nat_le n 16383 && not w)
written_parts true n l = grind (arith, nat_tests)
written_parts false n l = grind (arith, nat_tests)

load_parts : (areas : List Area) (i : Option Name) (s f m : Option ℕ)
    → is_some (i >>= λ name. s >>= λ count. f >>= λ flags. m >>= λ memory.
    if_written (record
    { name = name; count = count; flags = flags; memory = memory; areas = areas }))
    ≡ ((((is_some i && is_some f) && is_some m) && counts s) && can_be_loaded (Some areas))
load_parts areas None s f m = refl
load_parts areas (Some i) None None m = refl
load_parts areas (Some i) None (Some f) None = refl
load_parts areas (Some i) None (Some f) (Some m) = refl
load_parts areas (Some i) (Some s) None m = refl
load_parts areas (Some i) (Some s) (Some f) None = refl
load_parts areas (Some i) (Some s) (Some f) (Some m) =
    written_parts (is_some (write_fault areas)) s
    (record { name = i; count = s; flags = f; memory = m; areas = areas })

-- words and areas are a load where each is what it should be
pub is_load_parts : (source : ℕ) (areas : Option (List Area)) (i s f m : List ℕ)
    → is_some (areas >>= load_with source i s f m)
    ≡ ((((is_some (name_of source i) && is_some (flags_of f)) && is_some (u8_of m)) && counts (u16_of s))
    && can_be_loaded areas)
is_load_parts source None i s f m =
    sym (and_nothing (is_some (name_of source i)) (is_some (flags_of f)) (is_some (u8_of m))
    (counts (u16_of s)))
is_load_parts source (Some areas) i s f m = load_parts areas (name_of source i) (u16_of s) (flags_of f) (u8_of m)

-- What a message can mean: a request is within its memory, and a fault's code is one of the first six.
use Rattle.std.proofs.Common.{◌≡◌, ℕ, ◌≤◌, ◌==◌, nat_lt, Bool, true, false, List, [], ◌∷◌, map, refl, arith, Option, Some, None, if◌then◌else◌, nat_lt}
use Rattle.std.proofs.lemmas.Grind.{common_steps}
use Rattle.std.proofs.lemmas.Bool.{ltb-false}
use Rattle.std.proofs.lemmas.Bool.Decides.{nat_tests}
use Rattle.lpt_pus.specs.declared.failure_code.FailureCode.{FailureCode}
use Rattle.lpt_pus.specs.declared.failure_code.FailureCode.TheVariants.{UnknownRequest, ReplyTooLong}
use Rattle.lpt_pus.specs.Codes.{number_of}
use Rattle.lpt_pus.specs.Commands.{Command, command_in}
use Rattle.lpt_memory.specs.declared.request.AreaRange.{AreaRange}
use Rattle.lpt_memory.specs.Requests.{LoadArea, Request, front_load_area, front_range, request_in}
use Rattle.lpt_memory.specs.Meanings.{Meaning, Fault, Load, Dump, Check, Sizes, size_of, load_fault, range_fault, area, dump_length, unless, load_meaning, dump_meaning, check_meaning, in_memory, if_formed, body_meaning, command_meaning, meaning}
use Rattle.lpt_memory.specs.Ranges.{AreasFit, RangesFit, ReadFits, MeaningFits}

-- either of two things that hold
either : (P : Meaning → Type 0) (b : Bool) (x y : Meaning) → P x → P y → P (if b then x else y)
either P true x y p q = p
either P false x y p q = q

-- a fault, or what holds where there is none
unless-fits : (sizes : Sizes) (fault : Option FailureCode) (m : Meaning)
    → ((code : FailureCode) → fault ≡ Some code → number_of code ≤ 6)
    → (fault ≡ None → MeaningFits sizes m)
    → MeaningFits sizes (unless fault m)
unless-fits sizes (Some code) m f g = f code refl
unless-fits sizes None m f g = g refl

-- ---- loads

load_fault-coded : (size : ℕ) (areas : List LoadArea) (code : FailureCode)
    → load_fault size areas ≡ Some code
    → number_of code ≤ 6
load_fault-coded size [] code e = absurd cc
load_fault-coded size (a ∷ rest) code e =
    let tail : load_fault size rest ≡ Some code → number_of code ≤ 6 = load_fault-coded size rest code in
    grind (arith, common_steps, nat_tests)

load_fault-none : (size : ℕ) (areas : List LoadArea)
    → load_fault size areas ≡ None
    → AreasFit size (map area areas)
load_fault-none size [] e = tt
load_fault-none size (a ∷ rest) e =
    let tail : load_fault size rest ≡ None → AreasFit size (map area rest) =
    load_fault-none size rest in
    grind (arith, common_steps, nat_tests)

load-fits : (sizes : Sizes) (size : ℕ) (r : Request LoadArea)
    → size_of r.memory sizes ≡ Some size
    → MeaningFits sizes (load_meaning size r)
load-fits sizes size r known =
    unless-fits sizes (load_fault size r.areas) (Load r.memory (map area r.areas))
    (load_fault-coded size r.areas)
    (λ e. record { size = size; known = known; fit = load_fault-none size r.areas e })

-- ---- dumps and checks

range_fault-coded : (size : ℕ) (ranges : List AreaRange) (code : FailureCode)
    → range_fault size ranges ≡ Some code
    → number_of code ≤ 6
range_fault-coded size [] code e = absurd cc
range_fault-coded size (r ∷ rest) code e =
    let tail : range_fault size rest ≡ Some code → number_of code ≤ 6 = range_fault-coded size rest code in
    grind (arith, common_steps, nat_tests)

range_fault-none : (size : ℕ) (ranges : List AreaRange)
    → range_fault size ranges ≡ None
    → RangesFit size ranges
range_fault-none size [] e = tt
range_fault-none size (r ∷ rest) e =
    let tail : range_fault size rest ≡ None → RangesFit size rest = range_fault-none size rest in
    grind (arith, common_steps, nat_tests)

dump_chosen : (sizes : Sizes) (id : ℕ) (ranges : List AreaRange) (long : Bool)
    → nat_lt 65542 (dump_length ranges) ≡ long
    → ReadFits sizes id ranges
    → MeaningFits sizes (if long then Fault ReplyTooLong else Dump id ranges)
dump_chosen sizes id ranges true e fits = omega arith
dump_chosen sizes id ranges false e fits = (fits, ltb-false _ _ e)

dump-fits : (sizes : Sizes) (size : ℕ) (r : Request AreaRange)
    → size_of r.memory sizes ≡ Some size
    → MeaningFits sizes (dump_meaning size r)
dump-fits sizes size r known =
    unless-fits sizes (range_fault size r.areas)
    (if nat_lt 65542 (dump_length r.areas) then Fault ReplyTooLong else Dump r.memory r.areas)
    (range_fault-coded size r.areas)
    (λ e. dump_chosen sizes r.memory r.areas (nat_lt 65542 (dump_length r.areas)) refl
    (record { size = size; known = known; fit = range_fault-none size r.areas e }))

check-fits : (sizes : Sizes) (size : ℕ) (r : Request AreaRange)
    → size_of r.memory sizes ≡ Some size
    → MeaningFits sizes (check_meaning size r)
check-fits sizes size r known =
    unless-fits sizes (range_fault size r.areas) (Check r.memory r.areas)
    (range_fault-coded size r.areas)
    (λ e. record { size = size; known = known; fit = range_fault-none size r.areas e })

-- ---- messages

in_memory-fits : {A : Type 0} (sizes : Sizes) (means : ℕ → Request A → Meaning) (r : Request A)
    (found : Option ℕ)
    → ((size : ℕ) → found ≡ Some size → MeaningFits sizes (means size r))
    → MeaningFits sizes (in_memory means r found)
in_memory-fits sizes means r None f = omega arith
in_memory-fits sizes means r (Some size) f = f size refl

if_formed-fits : {A : Type 0} (sizes : Sizes) (means : ℕ → Request A → Meaning)
    (read : Option (Request A))
    → ((size : ℕ) (r : Request A) → size_of r.memory sizes ≡ Some size
    → MeaningFits sizes (means size r))
    → MeaningFits sizes (if_formed sizes means read)
if_formed-fits sizes means None f = omega arith
if_formed-fits sizes means (Some r) f =
    in_memory-fits sizes means r (size_of r.memory sizes) (λ size known. f size r known)

body_meaning-fits : (sizes : Sizes) (service subtype : ℕ) (body : List ℕ)
    → MeaningFits sizes (body_meaning sizes service subtype body)
unfolding body_meaning
body_meaning-fits sizes service subtype body =
    let unknown : MeaningFits sizes (Fault UnknownRequest) = omega arith in
    let load = if_formed-fits sizes load_meaning (request_in front_load_area body)
    (load-fits sizes) in
    let dump = if_formed-fits sizes dump_meaning (request_in front_range body) (dump-fits sizes) in
    let check = if_formed-fits sizes check_meaning (request_in front_range body)
    (check-fits sizes) in
    let fits = MeaningFits sizes in
    either fits (service == 6) _ _
    (either fits (subtype == 2) _ _ load
    (either fits (subtype == 5) _ _ dump
    (either fits (subtype == 9) _ _ check unknown)))
    unknown

command_meaning-fits : (sizes : Sizes) (read : Option Command)
    → MeaningFits sizes (command_meaning sizes read)
command_meaning-fits sizes None = tt
command_meaning-fits sizes (Some c) = body_meaning-fits sizes c.service c.subtype c.body

-- what a message means is within the memories
pub meaning-fits : (apid : ℕ) (sizes : Sizes) (message : List ℕ)
    → MeaningFits sizes (meaning apid sizes message)
unfolding meaning
meaning-fits apid sizes message = command_meaning-fits sizes (command_in apid message)

-- Reports that the spacecraft makes one after the other, and in which order they are told.
use Rattle.std.proofs.Common.{◌≡◌, ◌∙◌, ap, sym, subst, refl, ℕ, suc, ◌+◌, ◌%◌, Bool, true, false, not, if◌then◌else◌, List, [], ◌∷◌, ◌++◌, length, map, arith, length-append}
use Rattle.std.specs.List.{filter}
use Rattle.std.proofs.lemmas.List.Elements.{filter-append}
use Rattle.lpt_packet.specs.Names.{Name}
use Rattle.lpt_events.specs.declared.config.Config.{Config}
use Rattle.lpt_events.specs.declared.side.Side.TheVariants.{Craft}
use Rattle.lpt_events.specs.MadePackets.{tm_made}
use Rattle.lpt_events.specs.TelemetryKinds.{service_of, subtype_of}
use Rattle.lpt_execution.specs.declared.ending.Report.{Report}
use Rattle.lpt_execution.specs.Endings.{is_small}
use Rattle.lpt_execution.specs.Reporting.{link_packets, large_packets}
use Rattle.lpt_node.specs.Jobs.{report_packet, report_packets, reports_made}
use Rattle.lpt_node.specs.Nodes.{Sending}
use Rattle.lpt_node.specs.Sending.{counted_kind}
use Rattle.lpt_journal.specs.Journal.{with_all}
use Rattle.lpt_journal.specs.Senders.{Sender}
use Rattle.lpt_journal.specs.Executions.{report_after, reports_after}
use Rattle.lpt_refinement.specs.Shows.{ShowsSending}
use Rattle.lpt_refinement.specs.Views.{SendingView}
use Rattle.lpt_refinement.proofs.LinkShown.{with_all-append, with_all-more}
use Rattle.lpt_refinement.proofs.MadeShown.{is_report-made, report_made}

-- ---- in their order

-- one report was made
one_made : {x : Sending} {y : SendingView} (c : Config) (peer time : ℕ) (r : Report)
    → ShowsSending Craft x y
    → ShowsSending Craft (counted_kind x r.kind)
    (record y { made = y.made ++ report_after c peer y.made time r ∷ [] })
one_made {y = y} c peer time r k =
    report_made r.kind (report_after c peer y.made time r) (λ s t. is_report-made c _ _ _ _ _ _ _ s t) k

-- the node makes the packets that the journal tells
pub packets_agree : (c : Config) (peer : ℕ) (rs : List Report) {x : Sending} {y : SendingView}
    (time time' : ℕ)
    → time ≡ time'
    → ShowsSending Craft x y
    → report_packets c peer x time rs ≡ reports_after c peer y.made time' rs
packets_agree c peer [] time time' e k = refl
packets_agree c peer (r ∷ rs) {x = x} {y = y} time time' e k =
    let packet : report_packet c peer x time r ≡ report_after c peer y.made time' r =
    λ i. tm_made c peer (k.count i) (k.types.counter r.kind i) (e i) (service_of r.kind)
    (subtype_of r.kind) r.body in
    let rest = packets_agree c peer rs time time' e (one_made c peer time' r k) in
    λ i. (r, packet i) ∷ rest i

-- after them their sender shows their packets in this order
reported_shown : (c : Config) (peer : ℕ) (rs : List Report) {x : Sending} {y : SendingView} (time : ℕ)
    → ShowsSending Craft x y
    → ShowsSending Craft (reports_made x rs)
    (record y { made = with_all y.made (map (λ p. p.1) (reports_after c peer y.made time rs)) })
reported_shown c peer [] time k = k
reported_shown c peer (r ∷ rs) {x = x} {y = y} time k =
    let b = report_after c peer y.made time r in
    subst (λ (bs : List (List ℕ)).
    ShowsSending Craft (reports_made x (r ∷ rs)) (record y { made = bs }))
    (with_all-more y.made b (map (λ p. p.1) (reports_after c peer (y.made ++ b ∷ []) time rs)))
    (reported_shown c peer rs time (one_made c peer time r k))

-- ---- in another order

-- as many of the octets pass each test
abbrev Alike : List (List ℕ) → List (List ℕ) → Type 0
Alike xs ys = (p : List ℕ → Bool) → length (filter p xs) ≡ length (filter p ys)

filter_all : (xs : List (List ℕ)) → length (filter (λ b. true) xs) ≡ length xs
filter_all [] = refl
filter_all (x ∷ xs) = ap suc (filter_all xs)

-- a sender that shows packets shows others that are alike
alike_shown : {x : Sending} {of : Name → Sender} (xs ys : List (List ℕ))
    → Alike xs ys
    → ShowsSending Craft x (record { senders = of; made = xs })
    → ShowsSending Craft x (record { senders = of; made = ys })
alike_shown xs ys alike k = record {
  ledger = k.ledger;
  messages = k.messages;
  count =
      k.count
      ∙ ap (λ n. n % 16384) (sym (filter_all xs) ∙ alike (λ b. true) ∙ filter_all ys);
  types = record {
    eleven = k.types.eleven;
    counter = λ kind. k.types.counter kind ∙ ap (λ n. n % 65536) (alike _);
  };
}

-- the number of those that pass, over two lists
passing : (p : List ℕ → Bool) (xs ys : List (List ℕ))
    → length (filter p (with_all xs ys)) ≡ length (filter p xs) + length (filter p ys)
passing p xs ys =
    ap (λ cs. length (filter p cs)) (with_all-append xs ys)
    ∙ ap length (filter-append p xs ys)
    ∙ length-append (filter p xs) (filter p ys)

-- one octet string more, on one side or the other
one_side : (q u : Bool) (b : List ℕ) (ns ls gs : List (List ℕ)) (p : List ℕ → Bool)
    → p b ≡ u
    → length (filter p ns) ≡ length (filter p ls) + length (filter p gs)
    → length (filter p (b ∷ ns))
    ≡ length (filter p (if q then b ∷ ls else ls))
    + length (filter p (if not q then b ∷ gs else gs))
one_side true true b ns ls gs p e k =
    let f : (l : List (List ℕ)) → length (filter p (b ∷ l)) ≡ length (filter p l) + 1 =
    λ l. ap (λ t. length (if t then b ∷ filter p l else filter p l)) e ∙ omega arith in
    omega (arith, f ns, f ls)
one_side true false b ns ls gs p e k =
    let f : (l : List (List ℕ)) → length (filter p (b ∷ l)) ≡ length (filter p l) =
    λ l. ap (λ t. length (if t then b ∷ filter p l else filter p l)) e in
    omega (arith, f ns, f ls)
one_side false true b ns ls gs p e k =
    let f : (l : List (List ℕ)) → length (filter p (b ∷ l)) ≡ length (filter p l) + 1 =
    λ l. ap (λ t. length (if t then b ∷ filter p l else filter p l)) e ∙ omega arith in
    omega (arith, f ns, f gs)
one_side false false b ns ls gs p e k =
    let f : (l : List (List ℕ)) → length (filter p (b ∷ l)) ≡ length (filter p l) =
    λ l. ap (λ t. length (if t then b ∷ filter p l else filter p l)) e in
    omega (arith, f ns, f gs)

if-map : {A B : Type 0} (f : A → B) (t : Bool) (x : A) (xs : List A)
    → map f (if t then x ∷ xs else xs) ≡ (if t then f x ∷ map f xs else map f xs)
if-map f true x xs = refl
if-map f false x xs = refl

-- packets of the link and those that are too long are all of them
two_sides : (part_size : ℕ) (rs : List (Report × List ℕ)) (p : List ℕ → Bool)
    → length (filter p (map (λ x. x.1) rs))
    ≡ length (filter p (link_packets part_size rs))
    + length (filter p (large_packets part_size rs))
two_sides part_size [] p = refl
two_sides part_size (r ∷ rs) p =
    let q = is_small part_size (length r.0.body) in
    one_side q (p r.1) r.1 (map (λ x. x.1) rs) (link_packets part_size rs)
    (large_packets part_size rs) p refl (two_sides part_size rs p)
    ∙ sym (λ i. length (filter p (if-map (λ (x : Report × List ℕ). x.1) q r
    (filter (λ x. is_small part_size (length x.0.body)) rs) i))
    + length (filter p (if-map (λ (x : Report × List ℕ). x.1) (not q) r
    (filter (λ x. not (is_small part_size (length x.0.body))) rs) i)))

-- after reports their sender shows the packets of the link, and then those that are too long
pub reports_shown : (c : Config) (peer : ℕ) (rs : List Report) {x : Sending} {y : SendingView} (time : ℕ)
    (link large : List (List ℕ))
    → link ≡ link_packets c.part_size (reports_after c peer y.made time rs)
    → large ≡ large_packets c.part_size (reports_after c peer y.made time rs)
    → ShowsSending Craft x y
    → ShowsSending Craft (reports_made x rs)
    (record y { made = with_all y.made (with_all link large) })
reports_shown c peer rs {y = y} time link large e f k =
    let all = reports_after c peer y.made time rs in
    alike_shown (with_all y.made (map (λ p. p.1) all)) (with_all y.made (with_all link large))
    (λ p. passing p y.made (map (λ p. p.1) all)
    ∙ ap (λ n. length (filter p y.made) + n)
    (two_sides c.part_size all p
    ∙ sym (passing p link large
    ∙ (λ i. length (filter p (e i)) + length (filter p (f i)))))
    ∙ sym (passing p y.made (with_all link large)))
    (reported_shown c peer rs time k)

-- The packets of an execution's reports, and what is left of an end after them.
use Rattle.std.proofs.Common.{◌≡◌, ◌∙◌, ap, sym, append_assoc, ℕ, Bool, not, List, [], ◌∷◌, ◌++◌, length, map, filter}
use Rattle.std.proofs.lemmas.List.{map-append}
use Rattle.std.proofs.lemmas.List.Elements.{filter-append}
use Rattle.lpt_events.specs.declared.config.Config.{Config}
use Rattle.lpt_execution.specs.declared.ending.Report.{Report}
use Rattle.lpt_execution.specs.Endings.{is_small}
use Rattle.lpt_execution.specs.Reporting.{large_packets, link_packets}
use Rattle.lpt_node.specs.Jobs.{report_packet, report_packets}
use Rattle.lpt_node.specs.Nodes.{Sending}
use Rattle.lpt_node.specs.Sending.{counted_kind}

-- ---- packets by their length

-- the packets of the reports that pass a test
abbrev passed : (Report × List ℕ → Bool) → List (Report × List ℕ) → List (List ℕ)
passed test made = map (λ (x : Report × List ℕ). x.1) (filter test made)

-- the packet of a report stands before those of the reports behind it
passed-cons : (test : Report × List ℕ → Bool) (x : Report × List ℕ)
    → (made : List (Report × List ℕ))
    → passed test (x ∷ made) ≡ passed test (x ∷ []) ++ passed test made
passed-cons test x made =
    ap (map (λ (x : Report × List ℕ). x.1)) (filter-append test (x ∷ []) made)
    ∙ map-append (λ (x : Report × List ℕ). x.1) (filter test (x ∷ [])) (filter test made)

-- a report's packet is added to those that pass a test, where its report does
passed-added : (test : Report × List ℕ → Bool)
    → (c : Config) (peer : ℕ) (s t : Sending) (clock : ℕ) (r : Report) (rs reports : List Report)
    → (before after : List (List ℕ))
    → reports ≡ r ∷ rs
    → after ≡ before ++ passed test (report_packets c peer s clock (r ∷ []))
    → t ≡ counted_kind s r.kind
    → after ++ passed test (report_packets c peer t clock rs)
    ≡ before ++ passed test (report_packets c peer s clock reports)
passed-added test c peer s t clock r rs reports before after items added counted =
    let packet : Report × List ℕ = (r, report_packet c peer s clock r) in
    let behind : List (Report × List ℕ) = report_packets c peer (counted_kind s r.kind) clock rs in
    (λ i. added i ++ passed test (report_packets c peer (counted i) clock rs))
    ∙ append_assoc before (passed test (packet ∷ [])) (passed test behind)
    ∙ ap (λ (l : List (List ℕ)). before ++ l) (sym (passed-cons test packet behind))
    ∙ ap (λ (l : List Report). before ++ passed test (report_packets c peer s clock l)) (sym items)

-- the same, of the packets of the link
pub link-added : (c : Config) (peer : ℕ) (s t : Sending) (clock : ℕ) (r : Report)
    → (rs reports : List Report)
    → (before after : List (List ℕ))
    → reports ≡ r ∷ rs
    → after ≡ before ++ link_packets c.part_size (report_packets c peer s clock (r ∷ []))
    → t ≡ counted_kind s r.kind
    → after ++ link_packets c.part_size (report_packets c peer t clock rs)
    ≡ before ++ link_packets c.part_size (report_packets c peer s clock reports)
link-added c = passed-added (λ x. is_small c.part_size (length x.0.body)) c

-- the same, of those that are too long for it
pub large-added : (c : Config) (peer : ℕ) (s t : Sending) (clock : ℕ) (r : Report)
    → (rs reports : List Report)
    → (before after : List (List ℕ))
    → reports ≡ r ∷ rs
    → after ≡ before ++ large_packets c.part_size (report_packets c peer s clock (r ∷ []))
    → t ≡ counted_kind s r.kind
    → after ++ large_packets c.part_size (report_packets c peer t clock rs)
    ≡ before ++ large_packets c.part_size (report_packets c peer s clock reports)
large-added c = passed-added (λ x. not (is_small c.part_size (length x.0.body))) c

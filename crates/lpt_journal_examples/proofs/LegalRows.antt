-- A list of events of which none is refused is a legal journal.
use Rattle.std.proofs.Common.{◌≡◌, ◌∙◌, ap, ℕ, zero, suc, ◌≤◌, nat_lt, Bool, true, not, ◌&&◌, List, [], ◌∷◌, reverse, arith}
use Rattle.std.specs.List.{list_all}
use Rattle.std.specs.Option.{is_some}
use Rattle.lpt_packet.specs.Names.{Name, IsName}
use Rattle.lpt_packet.specs.Numbers.{IsOctets}
use Rattle.lpt_events.specs.declared.config.Config.{Config}
use Rattle.lpt_acts.specs.Acts.{Act, Open, Send, Plain, Finish, Damage, Retire, IsAct}
use Rattle.lpt_events.specs.Configs.{IsConfig}
use Rattle.lpt_journal.specs.Refusals.{refusal}
use Rattle.lpt_journal.specs.Legal.{Legal}
use Rattle.lpt_journal_examples.proofs.Listed.{recorded_listed, recorded_is, refusal_listed, refusal_is}
use Rattle.lpt_journal_examples.specs.Passes.{IsPass, usual, strict, impatient, usual_memories}
use Rattle.lpt_packet.proofs.BoolLemmas.{and_left, and_right, not_true, none_is, true_lt}

-- ---- a test of legality

are_octets : (b : List ℕ) → list_all (λ x. nat_lt x 256) b ≡ true → IsOctets b
are_octets [] h i = omega arith
are_octets (x ∷ b) h zero = true_lt x 256 (and_left (nat_lt x 256) (list_all (λ x. nat_lt x 256) b) h)
are_octets (x ∷ b) h (suc i) =
    are_octets b (and_right (nat_lt x 256) (list_all (λ x. nat_lt x 256) b) h) i

abbrev in_name : Name → Bool
in_name n = nat_lt n.source 65536 && nat_lt n.id 65536

abbrev in_range : Act → Bool
in_range (Open d name m) = in_name name && list_all (λ x. nat_lt x 256) m
in_range (Send d name k) = in_name name && nat_lt k 65536
in_range (Plain source flags service subtype body) =
    nat_lt source 65536
    && (nat_lt flags 16
    && (nat_lt service 256 && (nat_lt subtype 256 && list_all (λ x. nat_lt x 256) body)))
in_range (Finish d name) = in_name name
in_range (Retire d name) = in_name name
in_range (Damage d b) = list_all (λ x. nat_lt x 256) b
in_range _ = true

is_name : (name : Name) → in_name name ≡ true → IsName name
is_name name h = record {
  source_fits =
      true_lt name.source 65536 (and_left (nat_lt name.source 65536) (nat_lt name.id 65536) h);
  id_fits = true_lt name.id 65536 (and_right (nat_lt name.source 65536) (nat_lt name.id 65536) h);
}

is_event : (e : Act) → in_range e ≡ true → IsAct e
is_event (Open d name m) h = (
  is_name name (and_left (in_name name) (list_all (λ x. nat_lt x 256) m) h),
  are_octets m (and_right (in_name name) (list_all (λ x. nat_lt x 256) m) h),
)
is_event (Send d name k) h = (
  is_name name (and_left (in_name name) (nat_lt k 65536) h),
  true_lt k 65536 (and_right (in_name name) (nat_lt k 65536) h),
)
is_event (Plain source flags service subtype body) h =
    let octets = list_all (λ x. nat_lt x 256) body in
    let rest = nat_lt subtype 256 && octets in
    let types = nat_lt service 256 && rest in
    let behind = and_right (nat_lt source 65536) (nat_lt flags 16 && types) h in
    let ahead = and_right (nat_lt flags 16) types behind in
    let last = and_right (nat_lt service 256) rest ahead in (
      true_lt source 65536 (and_left (nat_lt source 65536) (nat_lt flags 16 && types) h),
      true_lt flags 16 (and_left (nat_lt flags 16) types behind),
      true_lt service 256 (and_left (nat_lt service 256) rest ahead),
      true_lt subtype 256 (and_left (nat_lt subtype 256) octets last),
      are_octets body (and_right (nat_lt subtype 256) octets last),
    )
is_event (Finish d name) h = is_name name h
is_event (Retire d name) h = is_name name h
is_event (Damage d b) h = are_octets b h
is_event e h = tt

-- whether no event is refused, by the lists
abbrev pub passes : Config → List Act → Bool
passes c [] = true
passes c (e ∷ es) =
    passes c es && (in_range e && not (is_some (refusal_listed c (recorded_listed c es) e)))

-- a journal in which no event is refused is legal
pub legal : (c : Config) (es : List Act) → passes c es ≡ true → Legal c usual_memories es
legal c [] h = tt
legal c (e ∷ es) h =
    let accepted = not (is_some (refusal_listed c (recorded_listed c es) e)) in
    let now = and_right (passes c es) (in_range e && accepted) h in (
      legal c es (and_left (passes c es) (in_range e && accepted) h),
      record {
        in_range = is_event e (and_left (in_range e) accepted now);
        accepted = ap (λ g. refusal c g e) (recorded_is c es)
            ∙ refusal_is c (recorded_listed c es) e
            ∙ none_is (refusal_listed c (recorded_listed c es) e)
            (not_true (is_some (refusal_listed c (recorded_listed c es) e))
            (and_right (in_range e) accepted now));
      },
    )

-- ---- the configurations

usual_with : (timeout : ℕ)
    → 1 ≤ timeout
    → timeout ≤ 65535
    → IsConfig (record usual { timeout = timeout })
usual_with timeout some fits = record {
  apid_fits = omega arith;
  source_fits = omega arith;
  part_size_fits = (omega arith, omega arith);
  some_timeout = some;
  timeout_fits = fits;
  some_receptions = omega arith;
  receptions_fit = omega arith;
  some_outgoing = omega arith;
  outgoing_fits = omega arith;
  clock_fits = omega arith;
}

-- a list of events of which none is refused is a pass of the usual configuration
pub usual_pass : (es : List Act) → passes usual (reverse es) ≡ true → IsPass usual es
usual_pass es h = record {
  configured = usual_with 10 (omega arith) (omega arith);
  legal = legal usual (reverse es) h;
}

-- or of that in which parts are taken in order
pub strict_pass : (es : List Act) → passes strict (reverse es) ≡ true → IsPass strict es
strict_pass es h = record {
  configured = record {
    apid_fits = omega arith;
    source_fits = omega arith;
    part_size_fits = (omega arith, omega arith);
    some_timeout = omega arith;
    timeout_fits = omega arith;
    some_receptions = omega arith;
    receptions_fit = omega arith;
    some_outgoing = omega arith;
    outgoing_fits = omega arith;
    clock_fits = omega arith;
  };
  legal = legal strict (reverse es) h;
}

-- or of that with a timeout of one tick
pub impatient_pass : (es : List Act) → passes impatient (reverse es) ≡ true → IsPass impatient es
impatient_pass es h = record {
  configured = usual_with 1 (omega arith) (omega arith);
  legal = legal impatient (reverse es) h;
}

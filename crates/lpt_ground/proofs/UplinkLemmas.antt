-- A large message goes up answer by answer, and the pass of its request with it.
use Rattle.std.proofs.Common.{◌≡◌, ◌∙◌, refl, sym, ap, subst, ℕ, Bool, true, false, List, [], ◌∷◌, ◌++◌, ◌+◌, Option, suc, append_assoc, append-nil, if◌then◌else◌}
use Rattle.std.specs.Prelude.{nat_lt}
use Rattle.std.proofs.KnownBytes.{Appends-nil, Appends-trans}
use Rattle.std.specs.Io.KnownBytes.{Appends}
use Rattle.lpt_packet.specs.Packets.{spelling}
use Rattle.lpt_packet.specs.declared.direction.Direction.TheVariants.{Up}
use Rattle.lpt_pus.specs.Commands.{packet_of}
use Rattle.lpt_part.specs.Parts.{Piece, body_of, nth_part}
use Rattle.lpt_events.specs.Arrivals.{part_subtype}
use Rattle.lpt_events.specs.MadePackets.{part_made}
use Rattle.lpt_ground.specs.declared.asked.Terms.{Terms}
use Rattle.lpt_ground.specs.declared.pass.End.TheVariants as ends
use Rattle.lpt_ground.specs.declared.pass.Step.{Step}
use Rattle.lpt_ground.specs.declared.pass.Step.TheVariants.{Put, Listen, Stop}
use Rattle.lpt_ground.specs.Carrying as pass
use Rattle.lpt_ground.specs.Carrying.{Answer, Nothing, Came, Quiet, Over, AllTold, packets_of}
use Rattle.lpt_ground.specs.Passes as passes
use Rattle.lpt_ground.specs.Passes.{PassState, next_step}
use Rattle.lpt_ground.proofs.CarryLemmas.{come-more, done-told, hears-more, hears-none}
use Rattle.lpt_ground.specs.declared.large.Large.{Large}
use Rattle.lpt_ground.specs.CarryingLarge.{Stepped, Went, after_answer, come_to, after_step, all_written, written_at}
use Rattle.lpt_ground.specs.Parts.{PacketsAreTheNodes, behind, id_of, parts_of, patience}
use Rattle.lpt_ground.specs.Uplinks.{Way, with_packet, is_abort, next_by, next_way, under_next_name, with_round}

-- ---- answers, one after the other

come_to-append : (l : Large) (terms : Terms) (w : Way) (xs ys : List Answer)
    → come_to l terms w (xs ++ ys) ≡ come_to l terms (come_to l terms w xs) ys
come_to-append l terms w [] ys = refl
come_to-append l terms w (x ∷ xs) ys = come_to-append l terms (after_answer l terms w x) xs ys

paced-append : (l : Large) (terms : Terms) (w : Way) (xs ys : List Answer)
    → all_written l terms w (xs ++ ys)
    ≡ all_written l terms w xs ++ all_written l terms (come_to l terms w xs) ys
paced-append l terms w [] ys = refl
paced-append l terms w (x ∷ xs) ys =
    ap (λ (more : List ℕ). written_at l w x ++ more)
    (paced-append l terms (after_answer l terms w x) xs ys)
    ∙ sym (append_assoc (written_at l w x) (all_written l terms (after_answer l terms w x) xs)
    (all_written l terms (come_to l terms (after_answer l terms w x) xs) ys))

-- one that begins
pub went-none : (P : List ℕ → Type 0) (l : Large) (terms : Terms) (w : Way)
    (had has : Option (List Answer)) (old : Option (List ℕ))
    → has ≡ had
    → Went P l terms w w had has old old
went-none P l terms w had has old same = record {
  answers = [];
  told = hears-none had has same;
  comes = tt;
  came = refl;
  written = Appends-nil old;
}

-- one that goes on by one answer
pub went-next : (P : List ℕ → Type 0) (l m : Large) (terms now : Terms) (w v u : Way)
    (had has more : Option (List Answer)) (old new newer : Option (List ℕ))
    → m ≡ l
    → now ≡ terms
    → Went P l terms w v had has old new
    → Stepped P m now v u has more new newer
    → Went P l terms w u had more old newer
went-next P l m terms now w v u had has more old new newer one same was x =
    let a = x.answer in
    let step : come_to l terms w (was.answers ++ a ∷ []) ≡ after_answer m now v a =
    come_to-append l terms w was.answers (a ∷ [])
    ∙ ap (λ (y : Way). after_answer l terms y a) (sym was.came)
    ∙ ap (λ (q : Terms). after_answer l q v a) (sym same)
    ∙ ap (λ (k : Large). after_answer k now v a) (sym one) in
    let text : all_written l terms w (was.answers ++ a ∷ [])
    ≡ all_written l terms w was.answers ++ written_at m v a =
    paced-append l terms w was.answers (a ∷ [])
    ∙ ap (λ (y : Way). all_written l terms w was.answers ++ (written_at l y a ++ [])) (sym was.came)
    ∙ ap (λ (t : List ℕ). all_written l terms w was.answers ++ t) (append-nil (written_at l v a))
    ∙ ap (λ (k : Large). all_written l terms w was.answers ++ written_at k v a) (sym one) in
    record {
      answers = was.answers ++ a ∷ [];
      told = hears-more had has more was.answers (a ∷ []) was.told x.told;
      comes = come-more P was.answers (a ∷ []) was.comes (x.comes, tt);
      came = x.came ∙ sym step;
      written =
          subst (Appends old newer) (sym text)
          (Appends-trans old new newer (all_written l terms w was.answers) (written_at m v a)
          was.written x.written);
    }

-- ---- the pass of its request

-- the answers but for those that nothing has come: where parts are put the request is not
abbrev pub without_nothing : List Answer → List Answer
without_nothing [] = []
without_nothing (Nothing ∷ rest) = without_nothing rest
without_nothing (Came o ∷ rest) = Came o ∷ without_nothing rest
without_nothing (Quiet ∷ rest) = Quiet ∷ without_nothing rest
without_nothing (Over ∷ rest) = Over ∷ without_nothing rest

pub same-packets : (answers : List Answer)
    → packets_of (without_nothing answers) ≡ packets_of answers
same-packets [] = refl
same-packets (Nothing ∷ rest) = same-packets rest
same-packets (Came o ∷ rest) = ap (λ (more : List (List ℕ)). o ∷ more) (same-packets rest)
same-packets (Quiet ∷ rest) = same-packets rest
same-packets (Over ∷ rest) = same-packets rest

moved-request : (w : Way) (x : Step) → (after_step w x).of_request ≡ w.of_request
moved-request w (Put k) = refl
moved-request w Listen = refl
moved-request w (Stop e) = refl

either-request : (b : Bool) (v w : Way) (s : PassState)
    → v.of_request ≡ s
    → w.of_request ≡ s
    → (if b then v else w).of_request ≡ s
either-request true v w s left right = left
either-request false v w s left right = right

heard-request : (l : Large) (terms : Terms) (w : Way) (o : List ℕ)
    → (with_packet l terms w o).of_request ≡ passes.octets_heard terms w.of_request o
heard-request l terms w o =
    either-request (is_abort terms (id_of l w.used) o) _ _
    (passes.octets_heard terms w.of_request o)
    refl refl

waited-request : (l : Large) (terms : Terms) (w : Way)
    → (with_round l terms w).of_request ≡ passes.pass_waited terms w.of_request
waited-request l terms w =
    either-request (nat_lt (w.rounds + 1) (patience w.used)) _ _
    (passes.pass_waited terms w.of_request)
    refl refl

-- it hears what is heard
pub request-comes : (l : Large) (terms : Terms) (w : Way) (answers : List Answer)
    → (come_to l terms w answers).of_request
    ≡ pass.come_to terms w.of_request (without_nothing answers)
request-comes l terms w [] = refl
request-comes l terms w (Nothing ∷ rest) =
    request-comes l terms (after_answer l terms w Nothing) rest
    ∙ ap (λ (s : PassState). pass.come_to terms s (without_nothing rest))
    (moved-request w (next_way l w))
request-comes l terms w (Came o ∷ rest) =
    request-comes l terms (with_packet l terms w o) rest
    ∙ ap (λ (s : PassState). pass.come_to terms s (without_nothing rest))
    (heard-request l terms w o)
request-comes l terms w (Quiet ∷ rest) =
    request-comes l terms (with_round l terms w) rest
    ∙ ap (λ (s : PassState). pass.come_to terms s (without_nothing rest)) (waited-request l terms w)
request-comes l terms w (Over ∷ rest) =
    request-comes l terms (after_answer l terms w Over) rest

-- ---- what becomes of it

-- a reception that was given up
pub heard-abort : (l : Large) (terms : Terms) (w : Way) (o : List ℕ)
    → is_abort terms (id_of l w.used) o ≡ true
    → with_packet l terms w o
    ≡ under_next_name l (record w { of_request = passes.octets_heard terms w.of_request o })
heard-abort l terms w o is =
    ap (λ (b : Bool).
    if b then under_next_name l (record w { of_request = passes.octets_heard terms w.of_request o })
    else record w { of_request = passes.octets_heard terms w.of_request o }) is

-- a name that is used up
pub waited-out : (l : Large) (terms : Terms) (w : Way)
    → nat_lt (w.rounds + 1) (patience w.used) ≡ false
    → with_round l terms w
    ≡ under_next_name l (record w { of_request = passes.pass_waited terms w.of_request })
waited-out l terms w is =
    ap (λ (b : Bool).
    if b then
    record w { of_request = passes.pass_waited terms w.of_request; at = 0; rounds = w.rounds + 1 }
    else under_next_name l (record w { of_request = passes.pass_waited terms w.of_request })) is

-- ---- one that is done

part-goes-on : (a b : Bool) (at : ℕ)
    → (if a then (if b then Put at else Listen) else Stop ends.Given) ≡ Stop ends.Done
    → ⊥
part-goes-on true true at is = cc
part-goes-on true false at is = cc
part-goes-on false b at is = cc

by-done : (l : Large) (w : Way) (x : Step)
    → next_by l w x ≡ Stop ends.Done
    → x ≡ Stop ends.Done
by-done l w (Put k) is =
    absurd (part-goes-on (nat_lt w.used l.names.many) (nat_lt w.at (parts_of l)) w.at is)
by-done l w Listen is =
    absurd (part-goes-on (nat_lt w.used l.names.many) (nat_lt w.at (parts_of l)) w.at is)
by-done l w (Stop e) is = is

way-done : (l : Large) (w : Way)
    → next_way l w ≡ Stop ends.Done
    → next_step w.of_request ≡ Stop ends.Done
unfolding next_way
way-done l w is = by-done l w (next_step w.of_request) is

-- where it is done, the pass of its request is by what was heard
pub request-done : (l : Large) (terms : Terms) (w : Way) (answers : List Answer)
    → next_way l (come_to l terms w answers) ≡ Stop ends.Done
    → next_step (pass.come_to terms w.of_request (without_nothing answers)) ≡ Stop ends.Done
request-done l terms w answers is =
    ap next_step (sym (request-comes l terms w answers))
    ∙ way-done l (come_to l terms w answers) is

pub done-is-told : (l : Large) (terms : Terms) (w : Way) (answers : List Answer)
    → next_way l (come_to l terms w answers) ≡ Stop ends.Done
    → AllTold terms w.of_request.asked (packets_of answers)
done-is-told l terms w answers is =
    subst (AllTold terms w.of_request.asked) (same-packets answers)
    (done-told terms w.of_request (without_nothing answers) (request-done l terms w answers is))

-- ---- the packets

pub packets-are-the-nodes : PacketsAreTheNodes
packets-are-the-nodes c l used first k counter time apid size =
    let q : ℕ → Piece = λ p. nth_part p (id_of l used) l.message (suc k) in
    ap (λ (n : ℕ). spelling (packet_of (record {
      apid = n;
      count = behind first k;
      flags = 0;
      service = 13;
      subtype = part_subtype Up (q l.part_size).kind;
      source = l.source;
      body = body_of (q l.part_size);
    }))) (sym apid)
    ∙ ap (λ (p : ℕ). part_made c Up l.source (behind first k) counter time (q p)) (sym size)

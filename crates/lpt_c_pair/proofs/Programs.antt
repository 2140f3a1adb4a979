-- The memories of the spacecraft's program, whatever it and the two ends do.
use Rattle.std.proofs.Common.{◌≡◌, ◌∙◌, ap, sym, subst, refl, ℕ, ◌+◌, List, [], ◌∷◌, ◌++◌, length, Option, Some, None, arith}
use Rattle.std.specs.Prelude.{⊤}
use Rattle.lpt_apart.specs.TwoEnds.{later, Own, own_config}
use Rattle.lpt_apart.proofs.Clocks.{reached_keep}
use Rattle.lpt_c_end.specs.Accesses.{first_read, length_refusal, unready}
use Rattle.lpt_c_end.specs.Changes.{IsNew}
use Rattle.lpt_c_end.specs.Codes.{elsewhere, node_code}
use Rattle.lpt_c_end.specs.Kept.{elsewhere_refusal, here_refusal}
use Rattle.lpt_c_end.specs.Refusals.{sending_refusal}
use Rattle.lpt_c_end.specs.Sizes.{sizes_said, IsNewSized}
use Rattle.lpt_c_end.specs.declared.end.End.{End}
use Rattle.lpt_c_end.specs.declared.kept.Kept.{Kept}
use Rattle.lpt_c_end.specs.declared.kept.Kept.TheVariants.{Nowhere, Elsewhere}
use Rattle.lpt_c_end.specs.declared.memories.LptMemory.{LptMemory}
use Rattle.lpt_c_end.specs.declared.sizing.LptSize.{LptSize}
use Rattle.lpt_c_pair.specs.Pairs.{WithProgram, Call, Open, Part, Plain, Finish, LetGo, Packet, Expire, GiveUp, Tick, Rebase, Read, Execute, ExecuteGiven, Drop, DropRead, Refuse, Retire, RetireFree, Restart, Resume, ResumeSized, Fails, IsDone}
use Rattle.lpt_c_pair.specs.Programs.{ToldWrite, IsTold, AreTold, put_told, Program, Act, Calls, Writes, Gives, Puts, Settles, TakesBack, program_after, came_by, stood_by, CanAct, CanActAll, MayCall, ProgramsKeepTheirMemories, program_started}
use Rattle.lpt_c_pair.proofs.GivenLemmas.{not_short}
use Rattle.lpt_c_pair.proofs.Lemmas.{IsRead, no_fault, not_unsent, was_read}
use Rattle.lpt_c_pair.proofs.Running.{IsStood, begins, turn}
use Rattle.lpt_c_pair.proofs.Fronting.{GoesOn, told_stays}
use Rattle.lpt_c_pair.proofs.Telling.{WereTold, are_of, put_told-append, reads_same, told_all, told_is_effect, told_more}
use Rattle.lpt_events.specs.Configs.{IsConfig}
use Rattle.lpt_events.specs.declared.config.Config.{Config}
use Rattle.lpt_events.specs.declared.side.Side.{Side}
use Rattle.lpt_events.specs.declared.side.Side.TheVariants.{Ground, Craft}
use Rattle.lpt_jobs.specs.Jobs.{Head, Ready, head_of}
use Rattle.lpt_memory.specs.Given.{octets_read}
use Rattle.lpt_memory.specs.Meanings.{Sizes}
use Rattle.lpt_memory.specs.Memories.{Contents, sizes_of}
use Rattle.lpt_memory.specs.Readings.{source_meaning}
use Rattle.lpt_node.specs.Jobs.{FrontHolds, executed_of, refusal_apply}
use Rattle.lpt_node.specs.Nodes.{NodeData}
use Rattle.lpt_c_pair.proofs.Leaving.{craft_leaves, ground_leaves}

-- where something was written ahead, what stood there are the memories of the two ends apart
abbrev pub IsBack : List ToldWrite → (owed : List ToldWrite) → (stood apart : Contents) → Type 0
IsBack [] owed stood ms = ⊤
IsBack (t ∷ ts) owed stood ms = (stood ≡ ms) × (owed ≡ [])

-- the program has the memories, and they are those of the two ends apart, but for what it has
-- written ahead and what it owes
pub record IsOwn (p : Program) : Type 0 where
  pub sizes : Sizes
  pub place : p.ends.on_craft.memories ≡ Elsewhere sizes
  pub same : put_told p.owed p.memories ≡ put_told p.ahead p.ends.pair.ends.memories
  pub told : WereTold 0 p.ahead p.ends.on_craft
  pub back : IsBack p.ahead p.owed p.stood p.ends.pair.ends.memories

-- ---- what stood there

back_over : (ahead owed : List ToldWrite) (stood ms ns : Contents)
    → ns ≡ ms
    → IsBack ahead owed stood ms
    → IsBack ahead owed stood ns
back_over [] owed stood ms ns same back = tt
back_over (t ∷ ts) owed stood ms ns same back = (back.0 ∙ sym same, back.1)

-- what is written ahead can be put back
more_back : (ahead : List ToldWrite) (t : ToldWrite) (owed : List ToldWrite)
    (ms stood ns : Contents)
    → owed ≡ []
    → put_told owed ms ≡ put_told ahead ns
    → IsBack ahead owed stood ns
    → IsBack (ahead ++ t ∷ []) owed (stood_by ahead ms stood) ns
more_back [] t owed ms stood ns none same back =
    (sym (ap (λ (ts : List ToldWrite). put_told ts ms) none) ∙ same, none)
more_back (x ∷ xs) t owed ms stood ns none same back = back

-- and so it is
put_back : (ahead owed : List ToldWrite) (ms stood ns : Contents)
    → put_told owed ms ≡ put_told ahead ns
    → IsBack ahead owed stood ns
    → put_told owed (stood_by ahead ms stood) ≡ ns
put_back [] owed ms stood ns same back = same
put_back (t ∷ ts) owed ms stood ns same back =
    ap (λ (xs : List ToldWrite). put_told xs stood) back.1 ∙ back.0

settled : (ahead owed : List ToldWrite) (stood ns : Contents)
    → IsBack ahead owed stood ns
    → IsBack ahead [] stood ns
settled [] owed stood ns back = tt
settled (t ∷ ts) owed stood ns back = (back.0, refl)

module _ (c : Config) where
  -- what a program gives that executes the oldest request: it was read, all writes were told, and
  -- the octets are those that the ends' memories have where it reads
  pub record IsVow (p : Program) (octets : List ℕ) (owed : List ToldWrite) : Type 0 where
    front : IsRead (head_of p.ends.on_craft.node.at.jobs.jobs)
    all : AreTold 0 (p.ahead ++ owed) p.ends.on_craft
    own : p.memories ≡ put_told p.ahead p.ends.pair.ends.memories
    pub vow : FrontHolds (head_of p.ends.on_craft.node.at.jobs.jobs)
        p.ends.pair.ends.memories octets

  -- what was told stays, where the end goes on or nothing was
  still_told : (n : ℕ) (ts : List ToldWrite) (k new : End) (call : Call)
      → IsDone call k new
      → GoesOn call
      → WereTold n ts k
      → WereTold n ts new
  still_told n [] k new call done on told = tt
  still_told n (t ∷ ts) k new call done on told = (
    told_stays k new call n t done on told.0,
    still_told (n + 1) ts k new call done on told.1,
  )

  pub none_told : (ts : List ToldWrite) (new : End) → ts ≡ [] → WereTold 0 ts new
  none_told ts new none = subst (λ (xs : List ToldWrite). WereTold 0 xs new) (sym none) tt

  pub told_after : (p : Program) (sizes : Sizes) (new : End) (call : Call)
      → p.ends.on_craft.memories ≡ Elsewhere sizes
      → IsDone call p.ends.on_craft new
      → MayCall p Craft call
      → WereTold 0 p.ahead p.ends.on_craft
      → WereTold 0 p.ahead new
  told_after p sizes new Execute at done may told =
      absurd (let both : Some elsewhere ≡ None =
      sym (ap (λ (o : Kept). here_refusal o (sending_refusal (node_code
      (refusal_apply p.ends.on_craft.node.at)) p.ends.on_craft.outbox.items)) at) ∙ done.0 in cc)
  told_after p sizes new (ExecuteGiven octets) at done may told = absurd may
  told_after p sizes new Drop at done may told = none_told p.ahead new may
  told_after p sizes new DropRead at done may told = none_told p.ahead new may
  told_after p sizes new (Refuse code) at done may told = none_told p.ahead new may
  told_after p sizes new Restart at done may told = none_told p.ahead new may
  told_after p sizes new (Resume config state ms content) at done may told =
      none_told p.ahead new may
  told_after p sizes new (ResumeSized config state given) at done may told =
      none_told p.ahead new may
  told_after p sizes new (Open name m) at done may told =
      still_told 0 p.ahead p.ends.on_craft new (Open name m) done tt told
  told_after p sizes new (Part name n) at done may told =
      still_told 0 p.ahead p.ends.on_craft new (Part name n) done tt told
  told_after p sizes new (Plain source flags service subtype body) at done may told =
      still_told 0 p.ahead p.ends.on_craft new (Plain source flags service subtype body) done tt
      told
  told_after p sizes new (Finish name) at done may told =
      still_told 0 p.ahead p.ends.on_craft new (Finish name) done tt told
  told_after p sizes new LetGo at done may told =
      still_told 0 p.ahead p.ends.on_craft new LetGo done tt told
  told_after p sizes new (Packet b) at done may told =
      still_told 0 p.ahead p.ends.on_craft new (Packet b) done tt told
  told_after p sizes new Expire at done may told =
      still_told 0 p.ahead p.ends.on_craft new Expire done tt told
  told_after p sizes new (GiveUp name) at done may told =
      still_told 0 p.ahead p.ends.on_craft new (GiveUp name) done tt told
  told_after p sizes new Tick at done may told =
      still_told 0 p.ahead p.ends.on_craft new Tick done tt told
  told_after p sizes new (Rebase ticks) at done may told =
      still_told 0 p.ahead p.ends.on_craft new (Rebase ticks) done tt told
  told_after p sizes new Read at done may told =
      still_told 0 p.ahead p.ends.on_craft new Read done tt told
  told_after p sizes new (Retire direction name) at done may told =
      still_told 0 p.ahead p.ends.on_craft new (Retire direction name) done tt told
  told_after p sizes new (RetireFree direction name) at done may told =
      still_told 0 p.ahead p.ends.on_craft new (RetireFree direction name) done tt told
  told_after p sizes new Fails at done may told =
      still_told 0 p.ahead p.ends.on_craft new Fails done tt told

  pub vow_of : (p : Program) (octets : List ℕ) (owed : List ToldWrite) (new : End)
      → IsOwn p
      → CanAct c p (Gives octets owed new)
      → IsVow p octets owed
  vow_of p octets owed new r can =
      let k : End = p.ends.on_craft in
      let zero_on : 0 + length p.ahead ≡ length p.ahead = omega arith in
      let ghost : Contents = p.ends.pair.ends.memories in
      let read : Option ℕ = length_refusal (unready k) (first_read k) octets in
      let unsent : sending_refusal read k.outbox.items ≡ None =
      sym (ap (λ (o : Kept). elsewhere_refusal o (sending_refusal read k.outbox.items)) r.place)
      ∙ can.0.0 in
      let none : unready k ≡ None =
      not_short (unready k) (first_read k) octets (not_unsent read k.outbox.items unsent) in
      let front = was_read (head_of k.node.at.jobs.jobs)
      (no_fault (refusal_apply k.node.at) none) in
      let all : AreTold 0 (p.ahead ++ owed) k =
      told_all 0 p.ahead owed k r.told
      (subst (λ (n : ℕ). AreTold n owed k) (sym zero_on) can.1.told) in
      let own : p.memories ≡ put_told p.ahead ghost =
      sym (ap (λ (ts : List ToldWrite). put_told ts p.memories) can.1.settled) ∙ r.same in
      let held : octets_read (source_meaning front.read) p.memories ≡ octets =
      subst (λ (h : Head). FrontHolds h p.memories octets) front.is can.1.held in
      let held_there : octets_read (source_meaning front.read) ghost ≡ octets =
      sym (ap (octets_read (source_meaning front.read)) own
      ∙ reads_same (source_meaning front.read) p.ahead owed ghost
      (are_of k front.read front.is 0 (p.ahead ++ owed) all)) ∙ held in
      record {
        front = front;
        all = all;
        own = own;
        vow = subst (λ (h : Head). FrontHolds h ghost octets) (sym front.is) held_there;
      }

  -- what it owes behind an execution
  pub gives : (p : Program) (octets : List ℕ) (owed : List ToldWrite) (new : End)
      → p.ends.on_craft.node.at ≡ p.ends.pair.ends.on_craft
      → IsOwn p
      → CanAct c p (Gives octets owed new)
      → IsOwn (program_after c p (Gives octets owed new))
  gives p octets owed new node r can =
      let k : End = p.ends.on_craft in
      let ghost : Contents = p.ends.pair.ends.memories in
      let d : NodeData = p.ends.pair.ends.on_craft in
      let w : IsVow p octets owed = vow_of p octets owed new r can in
      let apart : head_of d.jobs.jobs ≡ Ready w.front.read =
      ap (λ (x : NodeData). head_of x.jobs.jobs) (sym node) ∙ w.front.is in
      record {
        sizes = r.sizes;
        place = can.0.1.fixed.memories ∙ r.place;
        same =
            ap (put_told owed) w.own
            ∙ sym (put_told-append p.ahead owed ghost)
            ∙ told_is_effect k w.front.read w.front.is (p.ahead ++ owed) ghost w.all
            ∙ ap (λ (h : Head). (executed_of c d ghost h).1) (sym apart);
        told = tt;
        back = tt;
      }

  -- a write ahead
  pub writes : (p : Program) (t : ToldWrite)
      → IsOwn p
      → CanAct c p (Writes t)
      → IsOwn (program_after c p (Writes t))
  writes p t r can =
      let zero_on : 0 + length p.ahead ≡ length p.ahead = omega arith in
      let own : p.memories ≡ put_told p.ahead p.ends.pair.ends.memories =
      sym (ap (λ (ts : List ToldWrite). put_told ts p.memories) can.0) ∙ r.same in
      record {
        sizes = r.sizes;
        place = r.place;
        same =
            ap (λ (ts : List ToldWrite). put_told ts (put_told (t ∷ []) p.memories)) can.0
            ∙ ap (put_told (t ∷ [])) own
            ∙ sym (put_told-append p.ahead (t ∷ []) p.ends.pair.ends.memories);
        told =
            told_more 0 p.ahead t p.ends.on_craft r.told
            (subst (λ (n : ℕ). IsTold n t p.ends.on_craft) (sym zero_on) can.1);
        back =
            more_back p.ahead t p.owed p.memories p.stood p.ends.pair.ends.memories can.0 r.same
            r.back;
      }

  -- a call of ground leaves all of it
  pub calls_ground : (p : Program) (call : Call) (new : End)
      → p.ends.on_ground.memories ≡ Nowhere
      → IsOwn p
      → CanAct c p (Calls (record { side = Ground; call = call; new = new }))
      → IsOwn (program_after c p (Calls (record { side = Ground; call = call; new = new })))
  calls_ground p call new none r can =
      let leaves = ground_leaves c p.ends.pair p.ends.on_ground new call none can.0.0 in
      record {
        sizes = r.sizes;
        place = r.place;
        same = r.same ∙ ap (put_told p.ahead) (sym leaves);
        told = r.told;
        back = back_over p.ahead p.owed p.stood p.ends.pair.ends.memories _ leaves r.back;
      }

  -- and so does one of the spacecraft that executes nothing
  pub calls_craft : (p : Program) (call : Call) (new : End)
      → IsOwn p
      → CanAct c p (Calls (record { side = Craft; call = call; new = new }))
      → IsOwn (program_after c p (Calls (record { side = Craft; call = call; new = new })))
  calls_craft p call new r can =
      let l = craft_leaves c p.ends.pair p.ends.on_ground p.ends.on_craft new r.sizes p call
      r.place can.0.0 can.0.1 can.1 in
      record {
        sizes = r.sizes;
        place = l.place;
        same = r.same ∙ ap (put_told p.ahead) (sym l.memories);
        told = told_after p r.sizes new call r.place can.0.0 can.1 r.told;
        back = back_over p.ahead p.owed p.stood p.ends.pair.ends.memories _ l.memories r.back;
      }

-- the ends stand where moves lead, and the memories are the program's
pub record IsKeeping (c : Config) (first : Contents) (p : Program) : Type 0 where
  pub stands : IsStood c first p.ends
  pub own : IsOwn p

module _ (c : Config) (first : Contents) where
  calls : (p : Program) (side : Side) (call : Call) (new : End)
      → IsKeeping c first p
      → CanAct c p (Calls (record { side = side; call = call; new = new }))
      → IsKeeping c first
      (program_after c p (Calls (record { side = side; call = call; new = new })))
  calls p Ground call new r can = record {
    stands = turn c first p.ends Ground call new r.stands can.0;
    own = calls_ground c p call new r.stands.ends.ground.memories r.own can;
  }
  calls p Craft call new r can = record {
    stands = turn c first p.ends Craft call new r.stands can.0;
    own = calls_craft c p call new r.own can;
  }

  acts : (p : Program) (x : Act)
      → IsKeeping c first p
      → CanAct c p x
      → IsKeeping c first (program_after c p x)
  acts p (Calls t) r can = calls p t.side t.call t.new r can
  acts p (Writes t) r can = record { stands = r.stands; own = writes c p t r.own can }
  acts p (Gives octets owed new) r can = record {
    stands =
        turn c first p.ends Craft (ExecuteGiven octets) new r.stands
        (can.0, (vow_of c p octets owed new r.own can).vow);
    own = gives c p octets owed new r.stands.ends.craft.node r.own can;
  }
  acts p (Puts ms) r can = record {
    stands = r.stands;
    own = record {
      sizes = r.own.sizes;
      place = r.own.place;
      same = can ∙ r.own.same;
      told = r.own.told;
      back = r.own.back;
    };
  }
  acts p Settles r can = record {
    stands = r.stands;
    own = record {
      sizes = r.own.sizes;
      place = r.own.place;
      same = r.own.same;
      told = r.own.told;
      back = settled p.ahead p.owed p.stood p.ends.pair.ends.memories r.own.back;
    };
  }
  acts p TakesBack r can = record {
    stands = r.stands;
    own = record {
      sizes = r.own.sizes;
      place = r.own.place;
      same =
          put_back p.ahead p.owed p.memories p.stood p.ends.pair.ends.memories r.own.same
          r.own.back;
      told = tt;
      back = tt;
    };
  }

  pub all_acts : (p : Program) (xs : List Act)
      → IsKeeping c first p
      → CanActAll c p xs
      → IsKeeping c first (came_by c p xs)
  all_acts p [] r can = r
  all_acts p (x ∷ xs) r can = acts (came_by c p xs) x (all_acts p xs r can.0) can.1

-- two new ends, and memories that nothing was written over
pub starts : (c : Config) (a : ℕ) (b : Own) (none : List LptMemory) (nothing : List ℕ)
    (sizes : List LptSize) (first : Contents)
    (g k : End)
    → IsConfig (later a c)
    → IsConfig (own_config b c)
    → sizes_said sizes ≡ sizes_of first
    → IsNew Ground (later a c) none nothing g
    → IsNewSized (own_config b c) sizes k
    → IsKeeping c first (program_started c first a b g k)
starts c a b none nothing sizes first g k good_g good_k same new_g new_k =
    let known : k.memories ≡ Elsewhere (sizes_of first) = new_k.memories ∙ ap Elsewhere same in
    record {
      stands =
          begins c a b none nothing WithProgram first g k good_g good_k new_g (record {
            side = new_k.side;
            config = new_k.config;
            node = new_k.node;
            memories = known;
            released = new_k.released;
            outbox = new_k.outbox;
          });
      own = record { sizes = sizes_of first; place = known; same = refl; told = tt; back = tt };
    }

pub programs_keep_their_memories : ProgramsKeepTheirMemories
programs_keep_their_memories c a b none nothing sizes first g k xs good_g good_k same new_g new_k
    can =
    let p : Program = program_started c first a b g k in
    let r : IsKeeping c first (came_by c p xs) =
    all_acts c first p xs
    (starts c a b none nothing sizes first g k good_g good_k same new_g new_k) can in
    let end : Program = came_by c p xs in
    let kept = reached_keep c first a end.ends.pair good_g r.stands.reached in
    record {
      ends = record { ends = r.stands.ends; promised = kept };
      memories = r.own.same ∙ ap (put_told end.ahead) kept.memories;
    }

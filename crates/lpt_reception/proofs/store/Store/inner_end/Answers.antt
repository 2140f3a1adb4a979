-- Parts may be missing before the last one, or anywhere where that hasn't come.
use Rattle.std.proofs.Common.{arith}
use Rattle.lpt_reception.proofs.MissingLemmas.{inner_all, inner_of, inner_below}
use Rattle.lpt_reception.proofs.store.Store.inner_end.Goals as goal

pub returns-in-None-clause-inner : goal.returns-in-None-clause-inner
returns-in-None-clause-inner c n less =
    let s = c.args.self.now in
    inner_all c.args.p s.ended s.marks.words.items s.octets c.requires.shape n
    c.in-None.ensures.is less

pub returns-in-Some-clause-inner : goal.returns-in-Some-clause-inner
returns-in-Some-clause-inner c n less =
    let s = c.args.self.now in
    inner_of c.args.p s.ended s.marks.words.items s.octets c.requires.shape c.in-Some.last n
    c.in-Some.ensures.is (omega arith) (omega arith)

pub returns-in-Some-clause-below : goal.returns-in-Some-clause-below
returns-in-Some-clause-below c n inner =
    let s = c.args.self.now in
    let less = inner_below c.args.p s.ended s.marks.words.items s.octets c.requires.shape
    c.in-Some.last n c.in-Some.ensures.is inner in
    omega arith

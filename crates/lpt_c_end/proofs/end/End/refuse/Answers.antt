-- The failure code of the number is the one with which the request is refused.
use Rattle.lpt_c_end.proofs.end.End.refuse.Goals as goal

pub returns-clause-done : goal.returns-clause-done
returns-clause-done c = λ zero. record {
  code = c.in-Some.code;
  number_is = c.in-Some.ensures.value;
  as_such = c.refuse_as.ensures.done zero;
}

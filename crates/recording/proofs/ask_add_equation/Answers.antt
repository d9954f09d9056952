-- `recording::ask_add_equation` meets its contract: the equation has as many terms as are lent. Assumes nothing.
use Rattle.std.proofs.Common.{rules}
use Rattle.expr.proofs.Terms.{length-terms_of}
use Rattle.limits.specs.Questions.{ask, first_of_two}
use Rattle.recording.specs.Numbers.{add_equation_no}
use Rattle.recording.proofs.ask_add_equation.Goals as goal

pub returns : goal.returns
unfolding add_equation_no ask first_of_two
returns c = rw (length-terms_of c.args.terms.now) (search rules)

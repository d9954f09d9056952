-- Where no question says no, the value is that of the last pair that lists the wire. Assumes nothing.
use Rattle.std.proofs.Common.{arith}
use Rattle.limits.specs.Questions.{ask, first_of_two}
use Rattle.instance.specs.Looks.{public_value_no, public_value}
use Rattle.instance.proofs.Parts.{pairs_at-take}
use Rattle.instance.proofs.public_value.Goals as goal

pub returns : goal.returns
unfolding public_value public_value_no ask first_of_two
returns c = grind (arith, pairs_at-take)

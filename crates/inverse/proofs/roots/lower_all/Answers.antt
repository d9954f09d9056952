-- `inverse::roots::lower_all` meets its contract: the elements are copied, ones put in their place, and multiplied by the powers. Assumes nothing.
use lib.ListN.{replicate}
use Rattle.limits.specs.Numbers.{max_width}
use Rattle.inverse.proofs.Lanes.{ones-asked, roots-are}
use Rattle.inverse.proofs.roots.lower_all.Goals as goal

pub times_powers-requires : goal.times_powers-requires
times_powers-requires c = ones-asked c.args.x.now (replicate max_width 0) _ _ c.put.ensures c.fill.ensures c.requires

pub returns : goal.returns
returns c = roots-are c.args.x.now (replicate max_width 0) _ _ c.put.ensures c.fill.ensures c.requires _ c.times_powers.ensures

-- `baby_bear::are_units` meets its contract: the largest word is a unit exactly where all words are. Assumes nothing.
use Rattle.std.proofs.Common.{rules, ◌≡◌, max}
use Rattle.std.specs.List.{fold}
use Rattle.baby_bear.proofs.Units.{largest-units}
use Rattle.baby_bear.proofs.are_units.Goals as goal

pub returns : goal.returns
returns c =
    let e : c.fold.result ≡ fold (λ a b. max a b) 0 c.args.words.now = search rules in
    rw e (largest-units 0 c.args.words.now)

-- `words::all_below` meets its contract: folded from the first word on, the tests of the words are what all of them say.
-- Assumes nothing.
use Rattle.std.proofs.Common.{rules, ◌≡◌, ◌∙◌, true, ◌&&◌, ltb}
use Rattle.std.specs.List.{fold}
use Rattle.words.proofs.Below.{fold-below}
use Rattle.words.proofs.all_below.Goals as goal

pub returns : goal.returns
returns c =
    let e : c.fold.result ≡ fold (λ b x. b && ltb x c.args.bound) true c.args.s.now = search rules in
    e ∙ fold-below _ true c.args.s.now

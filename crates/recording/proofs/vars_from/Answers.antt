-- `recording::vars_from` meets its contract: at each place the closure gives the wire that lies so far behind the first.
-- Assumes nothing.
use Rattle.std.proofs.Common.{rules, ℕ, ◌<◌}
use Rattle.recording.proofs.Minted.{up_from-each}
use Rattle.recording.proofs.vars_from.Goals as goal

pub returns : goal.returns
returns c =
    let items = c.from_fn.ensures.items in
    up_from-each c.args.first 24 c.from_fn.result items.long (λ (i : ℕ) (h : i < 24). let k = (items.at i 0 h).2 in search rules)

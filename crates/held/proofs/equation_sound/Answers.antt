-- `equation_sound` meets its contract: the terms are as pairs, and the image follows them.
-- Assumes nothing.
use mathlib.Core.Path.{sym}
use Rattle.held.proofs.Sound.{one-sound}
use Rattle.held.proofs.equation_sound.Goals as goal

pub returns : goal.returns
returns c =
    let a = c.args in
    rw c.terms_sound.ensures (sym (one-sound a.s.now a.at))

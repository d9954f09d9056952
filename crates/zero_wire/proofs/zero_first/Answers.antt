-- `zero_first` meets its contract: the first pair's two words.
-- Assumes nothing.
use Prim.Native.Nat.{ℕ}
use mathlib.Core.Path.{sym, ap, ◌∙◌}
use lib.Dec.{eqb}
use Rattle.zero_wire.proofs.Zero.{first-none, wire-no, value-left}
use Rattle.zero_wire.proofs.zero_first.Goals as goal

pub returns-then-n-eq0 : goal.returns-then-n-eq0
returns-then-n-eq0 c = first-none _ _ c.if-n-eq0.true

pub returns-then-word_at-ne0 : goal.returns-then-word_at-ne0
returns-then-word_at-ne0 c = wire-no _ c.args.publics.now c.if-n-eq0.false (λ e. c.if-word_at-ne0.true (c.word_at.ensures ∙ e))

pub returns : goal.returns
returns c =
    ap (λ (x : ℕ). eqb x 0) c.word_at-2.ensures
    ∙ value-left _ c.args.publics.now c.if-n-eq0.false (sym c.word_at.ensures ∙ c.if-word_at-ne0.false)

-- `permute::rounds::mix` meets its contract: kind 0 raises all elements, any other only the first.
-- Assumes nothing.
use mathlib.Core.Path.{ap, ◌∙◌}
use mathlib.Core.List.{map}
use Rattle.baby_bear.specs.Field.{seventh}
use Rattle.permute.specs.Permute.{raise}
use Rattle.permute.proofs.Mix.{kind-every, kind-first}
use Rattle.permute.proofs.rounds.mix.Goals as goal

pub returns-then-kind-eq0 : goal.returns-then-kind-eq0
returns-then-kind-eq0 c =
    kind-every seventh _ _ _ c.if-kind-eq0.true (c.raise_all.ensures ∙ ap (map seventh) c.add_constants.ensures)

pub returns-else-kind-eq0 : goal.returns-else-kind-eq0
returns-else-kind-eq0 c =
    let g = c.args in
    kind-first seventh g.kind _ _ c.if-kind-eq0.false c.raise_all-else-kind-eq0.ensures
    ∙ ap (raise g.kind) c.add_constants.ensures

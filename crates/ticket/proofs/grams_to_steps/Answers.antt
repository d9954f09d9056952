-- `ticket::grams_to_steps` meets its contract: what is left of a step is below half of one, or not. Assumes nothing.
use native.Mathlib.Omega.{arith}
use Rattle.ticket.proofs.Steps.{below_half, half-or-more}
use Rattle.ticket.proofs.grams_to_steps.Goals as goal

pub returns-then-grams-lt25 : goal.returns-then-grams-lt25
returns-then-grams-lt25 c = below_half _ (omega arith)

pub returns : goal.returns
returns c = half-or-more _ (omega arith)

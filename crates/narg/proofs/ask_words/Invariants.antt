use mathlib.Core.Path.{◌≡◌}
use Rattle.std.specs.Prelude.{Err}
use Rattle.limits.specs.Questions.{pick}
use Rattle.limits.specs.Outcome.{refusal}
use Rattle.narg.proofs.Items.{asked_from}
use Rattle.narg.proofs.ask_words.Given as goal

abbrev pub invariant-loop-word : goal.invariant-loop-word
invariant-loop-word l =
    pick l.below (asked_from l.bytes l.c.at l.n l.bound l.k l.word-index) (Err (refusal l.k)) ≡ asked_from l.bytes l.c.at l.n l.bound l.k 0

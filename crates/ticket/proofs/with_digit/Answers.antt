-- `ticket::with_digit` meets its contract: the byte is below the digits, above them or one of them. Assumes nothing.
use mathlib.Core.Path.{sym}
use native.Mathlib.Omega.{arith}
use Rattle.ticket.proofs.Scan.{digit_low, digit-high, digit-within}
use Rattle.ticket.proofs.with_digit.Goals as goal

pub returns-then-b-lt-ZERO : goal.returns-then-b-lt-ZERO
returns-then-b-lt-ZERO c = sym (digit_low _ _ (omega arith))

pub returns-then-b-gt-NINE : goal.returns-then-b-gt-NINE
returns-then-b-gt-NINE c = sym (digit-high _ _ (omega arith) (omega arith))

pub returns : goal.returns
returns c = sym (digit-within _ _ (omega arith) (omega arith))

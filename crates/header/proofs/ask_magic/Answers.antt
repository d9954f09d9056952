-- `ask_magic` meets its contract: each return by the lengths and the bytes of the two parts.
-- Assumes nothing.
use mathlib.Core.Path.{sym, ◌∙◌}
use native.Mathlib.Omega.{arith}
use Rattle.header.proofs.Magic.{part-magic-short, part-magic-no, part-version-short, part-version-no, part-magic-yes}
use Rattle.header.proofs.ask_magic.Goals as goal

pub returns-then-magic-lt-VERSION_AT : goal.returns-then-magic-lt-VERSION_AT
returns-then-magic-lt-VERSION_AT c s ef em = part-magic-short s _ _ ef em _ _ (omega arith)

pub returns-then-not-is_magic : goal.returns-then-not-is_magic
returns-then-not-is_magic c s ef em =
    part-magic-no s _ _ ef em _ _ (omega arith) (sym c.is_magic.ensures ∙ c.if-not-is_magic.true)

pub returns-then-mark-lt1 : goal.returns-then-mark-lt1
returns-then-mark-lt1 c s ef em =
    part-version-short s _ _ ef em _ _ (omega arith) (sym c.is_magic.ensures ∙ c.if-not-is_magic.false) (omega arith)

pub returns-then-mark-version : goal.returns-then-mark-version
returns-then-mark-version c s ef em =
    part-version-no s _ _ ef em _ _ (omega arith) (sym c.is_magic.ensures ∙ c.if-not-is_magic.false) (omega arith) c.if-mark-version.true

pub returns : goal.returns
returns c s ef em =
    part-magic-yes s _ _ ef em _ _ (omega arith) (sym c.is_magic.ensures ∙ c.if-not-is_magic.false) (omega arith) c.if-mark-version.false

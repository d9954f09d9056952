-- `sfri::instance_from_bytes_with` meets its contract: the read; and the stores and the scratch all 0 where it refuses.
-- Assumes nothing.
use Prim.Native.Nat.{ℕ}
use mathlib.Core.Path.{sym, ap, ◌∙◌}
use mathlib.Core.List.{List}
use lib.ListN.{replicate}
use Rattle.decoding.specs.Answers.{stores}
use Rattle.decoding.specs.Given.{rule_of}
use Rattle.decoding.proofs.Files.{cleared-is, read_no, read-yes}
use Rattle.decoding.proofs.sfri.instance_from_bytes_with.Goals as goal

-- that many zeros
abbrev nulls : ℕ → List ℕ
nulls n = replicate n 0

pub returns-then-is_err : goal.returns-then-is_err
returns-then-is_err c =
    let a = c.args in
    let before = stores a.publics.now a.queries.now a.equations.now a.scratch.now in
    let z = c.clear.ensures in
    let same = c.read_instance-read.auto in
    read_no (rule_of a.strict) a.width a.bytes.now before _ _ c.read_instance-read.ensures (sym c.is_err.ensures.value ∙ c.if-is_err.true) _
    (cleared-is before (z.0 ∙ ap nulls same.publics) (z.1 ∙ ap nulls same.queries) (z.2 ∙ ap nulls same.equations) (z.3 ∙ ap nulls same.scratch))

pub returns-else-is_err : goal.returns-else-is_err
returns-else-is_err c =
    let a = c.args in
    let before = stores a.publics.now a.queries.now a.equations.now a.scratch.now in
    read-yes (rule_of a.strict) a.width a.bytes.now before _ _ c.read_instance-read.ensures (sym c.is_err.ensures.value ∙ c.if-is_err.false)

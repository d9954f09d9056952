-- `sfri::instance_from_bytes` meets its contract: the read by place and length, and what a reader takes there.
-- Assumes nothing.
use mathlib.Core.Path.{◌≡◌}
use native.Mathlib.Omega.{arith}
use Rattle.std.proofs.Common.{rules}
use Rattle.std.specs.Prelude.{Err}
use Rattle.decoding.specs.Read.{plain_rule}
use Rattle.decoding.specs.Answers.{stores}
use Rattle.decoding.proofs.Label.{file-refused, file-reads}
use Rattle.decoding.proofs.sfri.instance_from_bytes.Goals as goal

pub returns-in_err-read : goal.returns-in_err-read
returns-in_err-read c =
    let a = c.args in
    let read = c.instance_from_bytes_at in
    let r : c.from_residual.result ≡ Err c.in_err-read.field-0.0 = search rules in
    file-refused plain_rule a.width a.bytes (stores a.publics.now a.queries.now a.equations.now a.scratch.now)
    (stores read.new.publics read.new.queries read.new.equations read.new.scratch) read.result read.ensures _ _ r c.in_err-read.was

pub returns : goal.returns
returns c =
    let a = c.args in
    let read = c.instance_from_bytes_at in
    file-reads plain_rule a.width a.bytes (stores a.publics.now a.queries.now a.equations.now a.scratch.now)
    (stores read.new.publics read.new.queries read.new.equations read.new.scratch) read.result read.ensures _ c.in_ok-read.was
    c.take-label.result (let h = c.take-label.ensures in grind arith) (let h = c.take-label.ensures in grind arith)

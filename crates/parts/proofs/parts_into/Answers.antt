-- `parts_into` meets its contract: 1 and 2, then the wire count and the three lists, one after the other.
-- Assumes nothing.
use mathlib.Core.Path.{◌≡◌, sym, ◌∙◌}
use native.Mathlib.Omega.{arith}
use lib.ListN.{length}
use Rattle.std.proofs.Common.{rules}
use Rattle.std.specs.Prelude.{Some, None, Err}
use Rattle.limits.specs.Outcome.{refusal}
use Rattle.limits.proofs.Answered.{accepted-zero, refused-number, refused-some}
use Rattle.items.proofs.Lists.{list-refused, list-got}
use Rattle.parts.proofs.Parts.{parts-yes, parts-short, publics-stop, queries-stop, equations-stop, parts-told, parts-refused, parts-asked-no, from-here}
use Rattle.parts.proofs.parts_into.Goals as goal

pub returns-in_err-ask_parts : goal.returns-in_err-ask_parts
returns-in_err-ask_parts c =
    let a = c.args in
    let r : c.from_residual.result ≡ Err c.in_err-ask_parts.field-0.0 = search rules in
    let some = refused-some _ _ c.ask_parts.ensures c.in_err-ask_parts.was in
    let no = sym (refused-number _ _ c.ask_parts.ensures c.in_err-ask_parts.was) in
    parts-refused a.width a.bytes.now a.c.at a.publics.now a.queries.now a.equations.now _ _ _ _ _ r (parts-asked-no a.width a.bytes.now a.c.at a.publics.now a.queries.now a.equations.now _ no (λ z. some (sym no ∙ z)))

pub returns-in_err-vars : goal.returns-in_err-vars
returns-in_err-vars c =
    let a = c.args in
    let r : c.from_residual-in_err-vars.result ≡ Err (refusal 20) = search rules in
    let w : c.read_u32.result ≡ None = grind arith in
    let z = accepted-zero _ _ c.ask_parts.ensures c.in_ok-ask_parts.was in
    let yes = parts-yes a.width (length a.publics.now) (length a.queries.now) (length a.equations.now) z in
    parts-refused a.width a.bytes.now a.c.at a.publics.now a.queries.now a.equations.now _ _ _ _ _ r
    (from-here a.width a.bytes.now a.c.at a.publics.now a.queries.now a.equations.now z ∙ parts-short a.width a.bytes.now a.c.at a.publics.now a.queries.now a.equations.now yes (sym c.read_u32.ensures ∙ w))

pub returns-in_err-pairs : goal.returns-in_err-pairs
returns-in_err-pairs c =
    let a = c.args in
    let r : c.from_residual-in_err-pairs.result ≡ Err c.in_err-pairs.field-0.0 = search rules in
    let w : c.read_u32.result ≡ Some (c.in_ok-vars.vars, c.in_ok-vars.first) = grind arith in
    let z = accepted-zero _ _ c.ask_parts.ensures c.in_ok-ask_parts.was in
    let yes = parts-yes a.width (length a.publics.now) (length a.queries.now) (length a.equations.now) z in
    parts-refused a.width a.bytes.now a.c.at a.publics.now a.queries.now a.equations.now _ _ _ _ _ r
    (from-here a.width a.bytes.now a.c.at a.publics.now a.queries.now a.equations.now z ∙ publics-stop a.width a.bytes.now a.c.at a.publics.now a.queries.now a.equations.now yes _ _ (sym c.read_u32.ensures ∙ w) _
    (list-refused _ _ _ _ _ _ c.read_publics.ensures _ c.in_err-pairs.was))

pub returns-in_err-pieces : goal.returns-in_err-pieces
returns-in_err-pieces c =
    let a = c.args in
    let r : c.from_residual-in_err-pieces.result ≡ Err c.in_err-pieces.field-0.0 = search rules in
    let w : c.read_u32.result ≡ Some (c.in_ok-vars.vars, c.in_ok-vars.first) = grind arith in
    let z = accepted-zero _ _ c.ask_parts.ensures c.in_ok-ask_parts.was in
    let yes = parts-yes a.width (length a.publics.now) (length a.queries.now) (length a.equations.now) z in
    parts-refused a.width a.bytes.now a.c.at a.publics.now a.queries.now a.equations.now _ _ _ _ _ r
    (from-here a.width a.bytes.now a.c.at a.publics.now a.queries.now a.equations.now z ∙ queries-stop a.width a.bytes.now a.c.at a.publics.now a.queries.now a.equations.now yes _ _ (sym c.read_u32.ensures ∙ w) _ _ _ _ _ _
    (list-got _ _ _ _ _ _ c.read_publics.ensures _ c.in_ok-pairs.was) _
    (list-refused _ _ _ _ _ _ c.read_pieces.ensures _ c.in_err-pieces.was))

pub returns-in_err-linear : goal.returns-in_err-linear
returns-in_err-linear c =
    let a = c.args in
    let r : c.from_residual-in_err-linear.result ≡ Err c.in_err-linear.field-0.0 = search rules in
    let w : c.read_u32.result ≡ Some (c.in_ok-vars.vars, c.in_ok-vars.first) = grind arith in
    let z = accepted-zero _ _ c.ask_parts.ensures c.in_ok-ask_parts.was in
    let yes = parts-yes a.width (length a.publics.now) (length a.queries.now) (length a.equations.now) z in
    parts-refused a.width a.bytes.now a.c.at a.publics.now a.queries.now a.equations.now _ _ _ _ _ r
    (from-here a.width a.bytes.now a.c.at a.publics.now a.queries.now a.equations.now z ∙ equations-stop a.width a.bytes.now a.c.at a.publics.now a.queries.now a.equations.now yes _ _ (sym c.read_u32.ensures ∙ w) _ _ _ _ _ _
    (list-got _ _ _ _ _ _ c.read_publics.ensures _ c.in_ok-pairs.was) _ _ _ _ _ _
    (list-got _ _ _ _ _ _ c.read_pieces.ensures _ c.in_ok-pieces.was) _
    (list-refused _ _ _ _ _ _ c.read_equations.ensures _ c.in_err-linear.was))

pub returns : goal.returns
returns c =
    let a = c.args in
    let w : c.read_u32.result ≡ Some (c.in_ok-vars.vars, c.in_ok-vars.first) = grind arith in
    let z = accepted-zero _ _ c.ask_parts.ensures c.in_ok-ask_parts.was in
    let yes = parts-yes a.width (length a.publics.now) (length a.queries.now) (length a.equations.now) z in
    parts-told a.width a.bytes.now a.c.at a.publics.now a.queries.now a.equations.now yes _ _ (sym c.read_u32.ensures ∙ w) _ _ _ _ _ _
    (list-got _ _ _ _ _ _ c.read_publics.ensures _ c.in_ok-pairs.was) _ _ _ _ _ _
    (list-got _ _ _ _ _ _ c.read_pieces.ensures _ c.in_ok-pieces.was) _ _ _ _ _ _
    (list-got _ _ _ _ _ _ c.read_equations.ensures _ c.in_ok-linear.was) z

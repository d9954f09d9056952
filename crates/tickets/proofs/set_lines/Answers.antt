-- `tickets::set_lines` meets its contract: what is left of the lines, done to the slots as they are and counted from those
-- that are accepted and those that are fresh, comes to the whole.
-- Assumes nothing.
use Prim.Native.Nat.{ℕ, ◌+◌}
use mathlib.Core.Path.{◌≡◌, refl, sym, ap, ap₂, ◌∙◌}
use mathlib.Core.List.{List}
use native.Mathlib.Omega.{arith}
use lib.ListN.{length, length-append}
use Rattle.limits.proofs.Answered.{outcome-refused}
use Rattle.allocator.specs.Slots.{ran}
use Rattle.allocator.specs.Assign.{set_number, set_fresh}
use Rattle.allocator.proofs.Assign.{set-one, item-number, item-fresh, item-refused}
use Rattle.allocator.proofs.Run.{counted, run-ended, run-refused, run-accepted, told}
use Rattle.std.specs.Slice.Iter.{chunks_rest}
use Rattle.tickets.specs.Lines.{line_pair, line_no, set_lines}
use Rattle.tickets.proofs.Lines.{next-line, lines_end}
use Rattle.tickets.proofs.set_lines.Goals as goal

pub returns-in-Err : goal.returns-in-Err
returns-in-Err c =
    let l = c.loop-line in
    let cut = c.in-Some.ensures.steps in
    let split = next-line (chunks_rest l.line-iterator) c.in-Some.line.now (chunks_rest c.next.new.self) cut.1.0 (omega arith) cut.1.2 in
    let d = c.set_line.ensures in
    let k = c.in-Err.refused.0 in
    let no = ap set_number (sym c.in-Err.is) ∙ item-number (line_no c.args.count) line_pair l.slots _ _ _ d in
    let some = item-refused (line_no c.args.count) line_pair l.slots _ _ _ d c.in-Err.is in
    told (outcome-refused k some)
    (ap (λ (t : List ℕ). ran k l.accepted l.fresh t) d.slots
    ∙ run-refused (line_no c.args.count) line_pair l.slots l.accepted l.fresh _ _ _ _ split l.invariant.3 k no some)

pub loop-line-preserved : goal.loop-line-preserved
loop-line-preserved c =
    let l = c.loop-line in
    let cut = c.in-Some.ensures.steps in
    let split = next-line (chunks_rest l.line-iterator) c.in-Some.line.now (chunks_rest c.next.new.self) cut.1.0 (omega arith) cut.1.2 in
    let d = c.set_line.ensures in
    let g = set_fresh c.set_line.result in
    let count : c.fresh_of-fresh.result ≡ g = c.fresh_of-fresh.ensures ∙ ap set_fresh (sym c.in-Ok.is) in
    let zero = sym (item-number _ _ _ _ _ _ d) ∙ ap set_number c.in-Ok.is in
    let one = item-fresh _ _ _ _ _ _ d zero in (
      omega arith,
      omega (arith, ap length cut.1.0, length-append {A = ℕ}),
      omega (arith, l.invariant.2, count, set-one c.set_line.result),
      ap₂ (λ (f : ℕ) (t : List ℕ). counted (l.accepted + 1) f (set_lines c.args.count t (chunks_rest c.next.new.self))) (ap (λ (n : ℕ). l.fresh + n) count) d.slots
          ∙ run-accepted (line_no c.args.count) line_pair l.slots l.accepted l.fresh _ _ _ _ split l.invariant.3 g one zero,
    )

pub returns : goal.returns
returns c =
    let l = c.loop-line in
    let none = lines_end _ c.in-None.ensures.steps.1.0 in
    told refl (run-ended (line_no c.args.count) line_pair l.slots l.accepted l.fresh _ _ none l.invariant.3)

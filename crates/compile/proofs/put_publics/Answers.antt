-- `put_publics` meets its contract: what is left of the pairs, counted from where the loop stands, comes to the whole,
-- and so does what is left of them stored from there, where the store holds them all.
-- Assumes nothing.
use native.Mathlib.Omega.{arith}
use mathlib.Core.Path.{sym, ap, ◌∙◌}
use lib.ListN.{length}
use Rattle.compile.specs.Gate.{publics_from}
use Rattle.compile.proofs.Publics.{publics-whole, publics-done, publics-skip, publics-take, stored, store_pair, stored-none, stored-put}
use Rattle.compile.proofs.put_publics.Goals as goal
use Rattle.compile.proofs.put_publics.Goals.{then-v, then-to-out, else-to-out, else-v}

pub loop-i-init : goal.loop-i-init
loop-i-init c =
    let a = c.args in
    let e = publics-whole a.slots.now in
    (rw e (omega arith), omega arith, omega arith, λ f. (omega arith, ap (stored a.out.now 0) e))

pub loop-i-preserved : goal.loop-i-preserved
loop-i-preserved c =
    let l = c.loop-i in
    let s = c.args.slots.now in
    let h = c.loop-i-test.true in
    elim c.if-v.branch [
      | then-v w ↦
          let e = publics-take s l.i h w.if-v.true in
          let k = ap length e in
          elim w.if-to-out.branch [
            | then-to-out u ↦ (
              omega arith,
              omega arith,
              omega arith,
              λ f. (
                omega (arith, (l.invariant.3 f).0),
                rw (w.out-is, w.to-is, u.out-is, u.to-is) (store_pair l.out l.to _ _ ∙ ap (stored l.out l.to) (sym e) ∙ (l.invariant.3 f).1),
              ),
            )
            | else-to-out u ↦ (omega arith, omega arith, omega arith, λ f. absurd (omega (arith, (l.invariant.3 f).0)))
          ]
      | else-v w ↦
          let e = publics-skip s l.i h w.if-v.false in
          let k = ap length e in (
            omega arith,
            omega arith,
            omega arith,
            λ f. (
              omega (arith, (l.invariant.3 f).0),
              rw (w.out-is, w.to-is) (ap (stored l.out l.to) (sym e) ∙ (l.invariant.3 f).1),
            ),
          )
    ]

pub returns : goal.returns
returns c =
    let l = c.loop-i in
    let a = c.args in
    let d = publics-done a.slots.now l.i c.loop-i-test.false in
    let k = ap length d in
    record {
      count = omega arith;
      stored = λ f.
          sym (stored-none l.out l.to)
          ∙ ap (stored l.out l.to) (sym d)
          ∙ (l.invariant.3 f).1
          ∙ stored-put a.out.now (publics_from 0 a.slots.now) f;
    }

-- `put::put_bytes` meets its contract: after i turns the first i bytes stand at their place and the rest of the
-- output is as it was (`paste` of lib.Seq).
-- Assumes nothing.
use Prim.Native.Nat.{ℕ, ◌+◌, ◌<◌}
use mathlib.Core.Path.{◌≡◌, refl, ap, ◌∙◌}
use mathlib.Core.List.{List, append_assoc}
use native.Mathlib.Omega.{arith}
use native.Mathlib.Numerals.{add-one}
use lib.ListN.{length, set, get_or, length-set}
use lib.Seq.{paste, paste-zero, paste-suc, take-length}
use Rattle.encoding.proofs.put.put_bytes.Goals as goal

pub loop-i-init : goal.loop-i-init
loop-i-init c =
    let a = c.args in
    (paste-zero a.out.now a.at a.bytes.now, refl)

pub loop-i-preserved : goal.loop-i-preserved
loop-i-preserved c =
    let l = c.loop-i in
    let a = c.args in
    let d = a.out.now in
    let s = a.bytes.now in
    let hd : a.at + l.i < length d = omega arith in
    let hs : l.i < length s = omega arith in (
      ap (λ (t : List ℕ). set t (a.at + l.i) (get_or s l.i 0)) l.invariant.0
          ∙ rw add-one (paste-suc d a.at s l.i 0 hd hs),
      length-set l.out (a.at + l.i) _ ∙ l.invariant.1,
    )

pub returns : goal.returns
returns c =
    let l = c.loop-i in
    let a = c.args in
    let d = a.out.now in
    let s = a.bytes.now in
    let e : l.i ≡ length s = omega arith in
    l.invariant.0 ∙ ap (λ (k : ℕ). paste d a.at s k) e ∙ simp (take-length, append_assoc)

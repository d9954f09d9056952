-- `expr::put_term` meets its contract: a word that does not fit is one that `set` leaves out.
-- Assumes nothing.
use mathlib.Core.Path.{◌≡◌, sym, ◌∙◌, subst}
use Prim.Native.Nat.{ℕ, ◌+◌, ◌≤◌}
use native.Mathlib.Omega.{arith}
use mathlib.Core.List.{List}
use lib.ListN.{length, set, length-set}
use lib.Seq.{set_out}
use Rattle.expr.proofs.put_term.Goals as goal

-- the second word, and both, past the end
none2 : (l : List ℕ) (p a b : ℕ) → length l ≤ p + 1 → set l p a ≡ set (set l p a) (p + 1) b
none2 l p a b h = sym (set_out (set l p a) (p + 1) b (subst (λ (k : ℕ). k ≤ p + 1) (sym (length-set l p a)) h))

none1 : (l : List ℕ) (p a b : ℕ) → length l ≤ p → l ≡ set (set l p a) (p + 1) b
none1 l p a b h = sym (set_out l p a h) ∙ none2 l p a b (omega arith)

pub bounds-out-at-then-i-behind-2 : goal.bounds-out-at-then-i-behind-2
bounds-out-at-then-i-behind-2 c = simp length-set (omega arith)

pub returns-else-i-behind-2 : goal.returns-else-i-behind-2
returns-else-i-behind-2 c =
    let a = c.args in
    let h : length a.out.now ≤ a.at + (a.i + a.i) + 1 = omega arith in
    none2 a.out.now (a.at + (a.i + a.i)) a.t.var.0 a.t.weight.0 h

pub returns-else-i-behind : goal.returns-else-i-behind
returns-else-i-behind c = none1 _ _ _ _ (omega arith)

pub returns-else-i-left : goal.returns-else-i-left
returns-else-i-left c = none1 _ _ _ _ (omega arith)

pub returns-else-at-out : goal.returns-else-at-out
returns-else-at-out c = none1 _ _ _ _ (omega arith)

-- `recording::add_equation` meets its contract. Assumes nothing.
use native.Mathlib.Omega.{arith}
use Rattle.limits.proofs.Answered.{accepted-zero}
use Rattle.recording.proofs.Equated.{equation-fits, equated-stored}
use Rattle.recording.proofs.add_equation.Goals as goal

pub overflow_cast-rel-2 : goal.overflow_cast-rel-2
overflow_cast-rel-2 c =
    let f = equation-fits _ _ _ _ (accepted-zero _ _ c.ask_add_equation.ensures c.in_ok-ask_add_equation.was) in
    omega (arith, f.words)

pub overflow_mul-rel : goal.overflow_mul-rel
overflow_mul-rel c =
    let f = equation-fits _ _ _ _ (accepted-zero _ _ c.ask_add_equation.ensures c.in_ok-ask_add_equation.was) in
    omega (arith, f.words)

pub overflow_add-rel-2 : goal.overflow_add-rel-2
overflow_add-rel-2 c =
    let f = equation-fits _ _ _ _ (accepted-zero _ _ c.ask_add_equation.ensures c.in_ok-ask_add_equation.was) in
    omega (arith, f.words)

pub overflow_add-rel-3 : goal.overflow_add-rel-3
overflow_add-rel-3 c =
    let f = equation-fits _ _ _ _ (accepted-zero _ _ c.ask_add_equation.ensures c.in_ok-ask_add_equation.was) in
    omega (arith, f.words)

pub returns : goal.returns
returns c = equated-stored _ _ _ _ (accepted-zero _ _ c.ask_add_equation.ensures c.in_ok-ask_add_equation.was) _ c.put_equation.ensures

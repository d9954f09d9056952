-- `permute::rounds::run_turned` meets its contract. The invariant is `Running`. Assumes nothing.
use Prim.Native.Nat.{◌-◌}
use mathlib.Core.Path.{refl, ◌∙◌}
use native.Mathlib.Omega.{arith}
use borrow.Rule.Slice.PartMut.{same_len_mid}
use borrow.Author.Rules.{rules}
use lib.ListN.{length}
use Rattle.permute.proofs.Run.{running-start, round-asked, running-turn, running-done}
use Rattle.permute.proofs.rounds.run_turned.Goals as goal

pub loop-round-init : goal.loop-round-init
loop-round-init c = let p = c.requires in (running-start p.0 p.1 _ refl (search rules) (search rules), search rules)

pub run_round-requires : goal.run_round-requires
run_round-requires c =
    let p = c.requires in
    let i = c.loop-round.invariant in
    let s = c.in-Some.ensures.steps in
    round-asked p.0 i.0 (record { parts = s.0.1.0; long = s.0.1.1 ∙ i.1; count = s.1 }) p.2 p.3

pub loop-round-preserved : goal.loop-round-preserved
loop-round-preserved c =
    let i = c.loop-round.invariant in
    let s = c.in-Some.ensures.steps in (
      running-turn c.requires.0 i.0 (record { parts = s.0.1.0; long = s.0.1.1 ∙ i.1; count = s.1 }) c.requires.3 c.run_round.ensures
          (same_len_mid 0 (length c.args.state.now - 0) c.loop-round.mixed c.run_round.new.mixed c.run_round.auto.mixed),
      s.0.0 ∙ i.1,
    )

pub returns : goal.returns
returns c =
    let i = c.loop-round.invariant in
    running-done c.requires.0 i.0 (λ h. omega (arith, (c.in-None.ensures.steps h).1.0, i.1))

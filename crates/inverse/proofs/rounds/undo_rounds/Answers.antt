-- `inverse::rounds::undo_rounds` meets its contract. The invariant is `Undoing`. Assumes nothing.
use Prim.Native.Nat.{◌-◌}
use mathlib.Core.Path.{refl, sym}
use native.Mathlib.Omega.{arith}
use borrow.Rule.Slice.PartMut.{same_len_mid}
use lib.ListN.{length, length-append}
use lib.Seq.{length-take-le}
use Rattle.std.specs.Slice.Exact.{rchunks_exact_remainder}
use Rattle.inverse.proofs.Back.{rounds-room, undoing-start, undo-asked, undoing-turn, undoing-done}
use Rattle.inverse.proofs.rounds.undo_rounds.Goals as goal

pub overflow_mul-rounds : goal.overflow_mul-rounds
overflow_mul-rounds c = record { fits = omega (arith, rounds-room c.args.inverse.now c.requires.0) }

pub slice_bounds-rchunks_exact-end : goal.slice_bounds-rchunks_exact-end
slice_bounds-rchunks_exact-end c = sym (length-take-le _ _ (rounds-room c.args.inverse.now c.requires.0))

pub loop-round-init : goal.loop-round-init
loop-round-init c =
    let p = c.rchunks_exact-round-items.ensures in
    rw c.into_iter-round-iterator.ensures.into_iter_gives
    (undoing-start _ c.requires.0 c.requires.1 _ refl (rchunks_exact_remainder c.rchunks_exact-round-items.result) _ p.parts p.remainder_len p.size)

pub undo_round-requires : goal.undo_round-requires
undo_round-requires c =
    let l = c.loop-round in
    let h = c.in-Some.ensures.steps in
    undo-asked _ c.requires.0 l.invariant _ c.in-Some.round.now h.2.0 h.2.1 l.auto.state c.requires.2 c.requires.3

pub loop-round-preserved : goal.loop-round-preserved
loop-round-preserved c =
    let l = c.loop-round in
    let h = c.in-Some.ensures.steps in
    let d = c.undo_round in
    simp length-append
    (undoing-turn _ c.requires.0 l.invariant _ c.in-Some.round.now h.2.0 h.2.1 l.auto.state d.ensures
    (same_len_mid 0 (length c.args.state.now - 0) l.mixed d.new.mixed d.auto.mixed) h.0)

pub returns : goal.returns
returns c = undoing-done _ c.requires.0 c.loop-round.invariant c.in-None.ensures.steps.2.0

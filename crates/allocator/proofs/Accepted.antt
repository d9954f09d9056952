-- What the questions of a pair say where they accept it, as facts on numbers. Assumes nothing.
use Prim.Native.Nat.{ℕ, ◌<◌}
use mathlib.Core.Path.{◌≡◌}
use mathlib.Core.Bool.{true}
use mathlib.Core.List.{List}
use borrow.Author.Tests.{ltb-true}
use Rattle.limits.specs.Numbers.{prime}
use Rattle.limits.proofs.Questions.{puts, puts-yes}
use Rattle.allocator.specs.Slots.{Pair, slot_takes, pair_asks, pair_no}

pub record SetPair (count : ℕ) (slots : List ℕ) (p : Pair) : Type 0 where
  pub unit : p.value < prime
  pub below : p.var < count
  pub takes : slot_takes slots p ≡ true

pub pair-yes : (count : ℕ) (slots : List ℕ) (p : Pair) → pair_no count slots p ≡ 0 → SetPair count slots p
unfolding pair_no
pair-yes count slots p e =
    let says = puts-yes (pair_asks count slots p) e in
    record {
      unit = ltb-true _ _ (says 4 _ tt (search puts depth 20));
      below = ltb-true _ _ (says 7 _ tt (search puts depth 20));
      takes = says 8 _ tt (search puts depth 20);
    }

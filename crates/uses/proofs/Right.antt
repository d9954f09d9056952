-- Right counts stay right: none at first, a query joined, a query struck; and their sum. Assumes nothing.
use Prim.Native.Nat.{ℕ, zero, suc, ◌+◌, ◌-◌, ◌≤◌}
use mathlib.Core.Path.{◌≡◌, refl, sym, ap, ap₂, ◌∙◌}
use mathlib.Core.Bool.{true, false}
use mathlib.Core.List.{List, [], ◌∷◌, ◌++◌}
use lib.ListN.{length, replicate}
use Rattle.limits.specs.Numbers.{max_count}
use Rattle.words.specs.Store.{All}
use Rattle.words.specs.Pieces.{flat, words_of}
use Rattle.words.proofs.Held.{flat-snoc, flat-length}
use Rattle.uses.specs.Uses.{times, strays, uses_from, uses_of, sum, uses_after, stray_after, uses_fit, UseCounts}
use Rattle.uses.proofs.Counts.{strays-append, joined-use, struck-use, struck-strays, adds-up}
use Rattle.uses.proofs.Fits.{join-fits, strike-fits}

zeros : (i n : ℕ) → uses_from i n [] ≡ replicate n 0
unfolding times
zeros i zero = refl
zeros i (suc n) = ap (λ (l : List ℕ). 0 ∷ l) (zeros (suc i) n)

-- fresh: a store of zeros, and no stray cell
pub none-counted : (len : ℕ) → UseCounts len [] (replicate len 0) 0
unfolding uses_of strays
none-counted len = record { uses-are = sym (zeros 0 len); stray-is = refl }

-- a query joins
pub joined-counted : (len : ℕ) (qs : List (List ℕ)) (q uses : List ℕ) (stray : ℕ)
    → UseCounts len (flat qs) uses stray → UseCounts len (flat (qs ++ (q ∷ []))) (uses_after false uses q) (stray_after false len stray q)
joined-counted len qs q uses stray c = record {
  uses-are =
      ap (λ (u : List ℕ). uses_after false u q) c.uses-are
      ∙ joined-use len (flat qs) q
      ∙ ap (uses_of len) (sym (flat-snoc qs q));
  stray-is =
      ap (λ (n : ℕ). n + strays len q) c.stray-is
      ∙ sym (strays-append len (flat qs) q)
      ∙ ap (strays len) (sym (flat-snoc qs q));
}

pub joined-fits : (len : ℕ) (cells q uses : List ℕ) (stray : ℕ) → length (cells ++ q) ≤ max_count → UseCounts len cells uses stray
    → uses_fit false len uses stray q ≡ true
joined-fits len cells q uses stray h c =
    ap₂ (λ (u : List ℕ) (s : ℕ). uses_fit false len u s q) c.uses-are c.stray-is ∙ join-fits len cells q h

-- a query is struck
pub struck-counted : (len : ℕ) (a q b uses : List ℕ) (stray : ℕ) → UseCounts len (a ++ (q ++ b)) uses stray
    → UseCounts len (a ++ b) (uses_after true uses q) (stray_after true len stray q)
struck-counted len a q b uses stray c = record {
  uses-are = ap (λ (u : List ℕ). uses_after true u q) c.uses-are ∙ struck-use len a q b;
  stray-is = ap (λ (n : ℕ). n - strays len q) c.stray-is ∙ struck-strays len a q b;
}

pub struck-fits : (len : ℕ) (a q b uses : List ℕ) (stray : ℕ) → length (a ++ (q ++ b)) ≤ max_count → UseCounts len (a ++ (q ++ b)) uses stray
    → uses_fit true len uses stray q ≡ true
struck-fits len a q b uses stray h c =
    ap₂ (λ (u : List ℕ) (s : ℕ). uses_fit true len u s q) c.uses-are c.stray-is ∙ strike-fits len a q b h

-- use counts and stray count add up to 2w times the queries
pub counted-sum : (len width : ℕ) (qs : List (List ℕ)) (uses : List ℕ) (stray : ℕ) → All (λ q. length q ≡ width + width) qs
    → UseCounts len (flat qs) uses stray → sum uses + stray ≡ words_of width (length qs)
counted-sum len width qs uses stray a c =
    ap₂ (λ (u : List ℕ) (s : ℕ). sum u + s) c.uses-are c.stray-is
    ∙ adds-up len (flat qs)
    ∙ flat-length (width + width) qs a

-- An opening's questions where several say no, and its use store (document 02's R-6), as one fact of the definitions.
-- Assumes nothing.
use Prim.Native.Nat.{ℕ}
use mathlib.Core.Path.{◌≡◌, refl}
use mathlib.Core.List.{[], ◌∷◌}
use Rattle.limits.specs.Questions.{ask, first_of_two}
use Rattle.sharing.specs.Opening.{with_allocator_no, with_allocator_uses}
use Rattle.sharing.specs.declared.VarAllocator.{VarAllocator}

-- one wire, and so many relations opened
abbrev with-opened : ℕ → VarAllocator
with-opened n = record { vars = 1; opened = n }

pub record Examples : Type 0 where
  -- 2 of the use store's size, 42, 6, 10
  pub too_large : with_allocator_no (with-opened 8) 1 2 1073741825 ≡ 2
  pub ninth : with_allocator_no (with-opened 8) 1 2 1 ≡ 42
  pub no_slot : with_allocator_no (with-opened 0) 1 0 1 ≡ 6
  pub short : with_allocator_no (with-opened 1) 1 2 1 ≡ 10
  pub long : with_allocator_no (with-opened 1) 1 2 3 ≡ 10
  -- cleared where it is accepted, by a later opening too, else as it was
  pub first-cleared : with_allocator_uses (with-opened 0) 1 (9 ∷ 9 ∷ []) (3 ∷ 3 ∷ []) ≡ 0 ∷ 0 ∷ []
  pub later-cleared : with_allocator_uses (with-opened 1) 1 (9 ∷ 9 ∷ []) (3 ∷ 3 ∷ []) ≡ 0 ∷ 0 ∷ []
  pub refused : with_allocator_uses (with-opened 1) 1 (9 ∷ 9 ∷ []) (3 ∷ []) ≡ 3 ∷ []

pub examples : Examples
unfolding ask first_of_two with_allocator_no
examples =
    record {
      too_large = refl;
      ninth = refl;
      no_slot = refl;
      short = refl;
      long = refl;
      first-cleared = refl;
      later-cleared = refl;
      refused = refl;
    }

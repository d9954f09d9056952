-- Laws of lists that the library lacks. Assumes nothing.
use Prim.Native.Nat.{ℕ, zero, suc, ◌<◌}
use mathlib.Core.Path.{◌≡◌, refl}
use mathlib.Core.List.{List, [], ◌∷◌, ◌++◌}
use native.Mathlib.Nat.{not-suc-le-zero, le_of_suc-le-suc}
use lib.ListN.{length, get_or}
use Rattle.words.specs.Store.{All}

-- within a list the default does not matter
pub get_d_any : {A : Type 0} (l : List A) (n : ℕ) (d e : A) → n < length l → get_or l n d ≡ get_or l n e
get_d_any [] n d e h = absurd (not-suc-le-zero h)
get_d_any (x ∷ l) zero d e h = refl
get_d_any (x ∷ l) (suc n) d e h = get_d_any l n d e (le_of_suc-le-suc h)

-- ---- a property of every element: of a list in two parts, and one property from another
pub all_append : {A : Type 0} (P : A → Type 0) (k l : List A) → All P k → All P l → All P (k ++ l)
all_append P [] l a b = b
all_append P (x ∷ k) l a b = (a.0, all_append P k l a.1 b)

pub all_map : {A : Type 0} (P Q : A → Type 0) (l : List A) → ((x : A) → P x → Q x) → All P l → All Q l
all_map P Q [] f a = tt
all_map P Q (x ∷ l) f a = (f x a.0, all_map P Q l f a.1)

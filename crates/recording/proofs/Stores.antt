-- Stores that begin with queries and equations: one more at the end. Assumes nothing.
use Prim.Native.Nat.{ℕ, zero, suc, ◌+◌, ◌≤◌, ◌<◌}
use mathlib.Core.Path.{◌≡◌, refl, sym, ap, ◌∙◌}
use mathlib.Core.Bool.{Bool, true, ◌&&◌}
use mathlib.Core.List.{List, [], ◌∷◌, ◌++◌}
use native.Mathlib.Omega.{arith}
use borrow.Author.Tests.{lt-ltb}
use lib.ListN.{length, length-append}
use Rattle.limits.specs.Numbers.{prime, max_count}
use Rattle.words.specs.Store.{all_below, put_words}
use Rattle.words.specs.Pieces.{words_of, flat}
use Rattle.words.proofs.Below.{all_below-append}
use Rattle.words.proofs.Lists.{all_append}
use Rattle.words.proofs.Pieces.{words_of-suc}
use Rattle.words.proofs.Held.{flat-snoc, pieces-put}
use Rattle.words.proofs.Written.{put-length}
use Rattle.expr.specs.Equation.{Term, Equation, equation, term_vars, term_weights, equation_words, equation_size, equations_words}
use Rattle.expr.proofs.Held.{length-equation, equations_words-snoc, equations-put, equations_held-snoc}
use Rattle.recording.specs.Relation.{up_from}
use Rattle.recording.specs.State.{HoldsQueries, HoldsEquations}

length-snoc : {A : Type 0} (l : List A) (x : A) → length (l ++ (x ∷ [])) ≡ length l + 1
length-snoc l x = length-append l (x ∷ [])

both_true : (a b : Bool) → a ≡ true → b ≡ true → (a && b) ≡ true
both_true a b e f = rw (e, f)

-- the wires of a mint are wires
pub up_from-below : (m n k : ℕ) → n + k ≤ m → all_below m (up_from n k) ≡ true
unfolding all_below
up_from-below m n zero h = refl
up_from-below m n (suc k) h = rw (lt-ltb n m (omega arith)) (up_from-below m (suc n) k (omega arith))

pub query-below : (a b : List ℕ) → all_below max_count a ≡ true → all_below max_count b ≡ true → all_below max_count (a ++ b) ≡ true
query-below a b e f = all_below-append max_count a b ∙ both_true _ _ e f

-- ---- queries
module _ (width count : ℕ) (store : List ℕ) (qs : List (List ℕ)) (q : List ℕ) (l : length q ≡ width + width) where
  pub query-holds : all_below max_count q ≡ true → length store ≤ max_count → words_of width (count + 1) ≤ length store
      → HoldsQueries width count store qs → HoldsQueries width (count + 1) (put_words (words_of width count) q store) (qs ++ (q ∷ []))
  query-holds b m h o =
      let n = words_of-suc width count in
      let kept = put-length (words_of width count) q store (omega arith) in record {
        counts = ap (λ (k : ℕ). k + 1) o.counts ∙ sym (length-snoc qs q);
        widths = all_append _ qs _ o.widths (l, tt);
        below = rw (flat-snoc qs q) (query-below (flat qs) q o.below b);
        begins = rw o.counts (pieces-put (width + width) qs q store o.widths o.begins);
        sized = λ s. rw kept m;
      }

-- ---- equations
module _ (count used : ℕ) (store : List ℕ) (es : List Equation) (ts : List Term) (image : ℕ) where
  pub equation-holds : all_below max_count (term_vars ts) ≡ true → all_below prime (term_weights ts) ≡ true → image < prime
      → length store ≤ max_count → used + equation_size (length ts) ≤ length store
      → HoldsEquations count used store es
      → HoldsEquations (count + 1) (used + equation_size (length ts)) (put_words used (equation_words (equation ts image)) store) (es ++ (equation ts image ∷ []))
  equation-holds v w i m h o =
      let e = equation ts image in
      let size = length-equation e in
      let kept = put-length used (equation_words e) store (rw size h) in record {
        counts = ap (λ (k : ℕ). k + 1) o.counts ∙ sym (length-snoc es e);
        words =
            rw (equations_words-snoc es e, length-append (equations_words es) (equation_words e), size)
            (ap (λ (k : ℕ). k + equation_size (length ts)) o.words);
        below = equations_held-snoc es e o.below (rw (v, w, lt-ltb image prime i));
        begins = rw o.words (equations-put es e store o.begins);
        sized = λ s. rw kept m;
      }

-- Readers after a number: a question or a number put before them is one put before what they get. Assumes nothing.
use Prim.Native.Nat.{ℕ, zero, suc}
use mathlib.Core.Path.{◌≡◌, refl, sym, ◌∙◌}
use mathlib.Core.Bool.{Bool, true, false}
use mathlib.Core.List.{List, [], ◌∷◌}
use Rattle.limits.specs.Questions.{ask, first_of_two, ◌▸◌}
use Rattle.narg.specs.Reader.{Got, got, Reader, on_got, or_stop, ◌>>◌, give, need, number}
use Rattle.narg.proofs.Fields.{never}
use Rattle.items.specs.Answers.{got_after}
use Rattle.decoding.specs.Read.{ended}

pub on_got-after : {A B : Type 0} (k : ℕ) (a : A) (r : List ℕ) (next : A → Reader B) → on_got (got_after k (got a r)) next ≡ got_after k (next a r)
on_got-after zero a r next = refl
on_got-after (suc k) a r next = refl

pub after-after : {A : Type 0} (j k : ℕ) (g : Got A) → got_after j (got_after k g) ≡ got_after (j ▸ k) g
unfolding first_of_two
after-after zero k g = refl
after-after (suc j) k g = refl

pub or_stop-after : {A : Type 0} (k : ℕ) (b : Bool) (g : Got A) → or_stop b (suc k) g ≡ got_after (ask (suc k) b) g
unfolding or_stop ask
or_stop-after k true g = refl
or_stop-after k false g = refl

pub need-after : {B : Type 0} (k : ℕ) (b : Bool) (bs : List ℕ) (next : Reader B) → (need (suc k) b >> next) bs ≡ got_after (ask (suc k) b) (next bs)
unfolding ask
need-after k true bs next = refl
need-after k false bs next = refl

pub number-after : {B : Type 0} (k : ℕ) (bs : List ℕ) (next : Reader B) → (number k >> next) bs ≡ got_after k (next bs)
number-after zero bs next = refl
number-after (suc k) bs next = refl

-- what was got after a number: it was 0
pub after-some : {A : Type 0} (k : ℕ) (g : Got A) (b : A) (s : List ℕ) → got_after k g ≡ got b s → (k ≡ 0) × (g ≡ got b s)
after-some zero g b s e = (refl, e)
after-some (suc k) g b s e = absurd (never e)

pub number-got : {B : Type 0} (k : ℕ) (bs : List ℕ) (next : Reader B) (b : B) (r : List ℕ) → (number k >> next) bs ≡ got b r → next bs ≡ got b r
number-got k bs next b r e = (after-some k (next bs) b r (sym (number-after k bs next) ∙ e)).1

pub after-got : {A : Type 0} (k : ℕ) (a b : A) (r s : List ℕ) → got_after k (got a r) ≡ got b s → (k ≡ 0) × (s ≡ r)
after-got k a b r s e = let p = after-some k (got a r) b s e in (p.0, cc)

-- nothing was left over
pub ended-got : {B : Type 0} (bs : List ℕ) (x y : B) (r : List ℕ) → (ended >> give x) bs ≡ got y r → (bs ≡ []) × (x ≡ y)
ended-got [] x y r e = (refl, cc)
ended-got (a ∷ bs) x y r e = absurd (never e)

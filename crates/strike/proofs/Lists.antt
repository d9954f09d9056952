-- Lists without one item: their pieces and equations one behind the other, and properties of every element.
-- Assumes nothing.
use Prim.Native.Nat.{ℕ, zero, suc, ◌+◌, ◌-◌, ◌<◌}
use mathlib.Core.Path.{◌≡◌, refl, sym, ap, ap₂, ◌∙◌}
use mathlib.Core.Bool.{Bool, true, false, ◌&&◌}
use mathlib.Core.List.{List, [], ◌∷◌, ◌++◌, append_assoc}
use native.Mathlib.Omega.{arith}
use native.Mathlib.Nat.{not-suc-le-zero, le_of_suc-le-suc}
use lib.Dec.{ltb}
use lib.ListN.{length, take, drop, get_or, replicate, length-append}
use lib.Seq.{take-append_seam, drop-append_seam, drop-append-add}
use Rattle.limits.specs.Numbers.{prime, max_count}
use Rattle.words.specs.Store.{All, all_below}
use Rattle.words.specs.Pieces.{flat}
use Rattle.words.proofs.Below.{all_below-append}
use Rattle.expr.specs.Equation.{Equation, equation, term_vars, term_weights, equation_words, equations_words, equations_held}
use Rattle.strike.specs.Strike.{without, struck_words}

-- ---- items
pub without-length : {A : Type 0} (i : ℕ) (l : List A) → i < length l → length (without i l) ≡ length l - 1
without-length i [] h = absurd (not-suc-le-zero h)
without-length zero (x ∷ l) h = omega arith
without-length (suc i) (x ∷ l) h = let e = without-length i l (le_of_suc-le-suc h) in omega arith

pub without_all : {A : Type 0} (P : A → Type 0) (i : ℕ) (l : List A) → All P l → All P (without i l)
without_all P i [] a = a
without_all P zero (x ∷ l) a = a.1
without_all P (suc i) (x ∷ l) a = (a.0, without_all P i l a.1)

pub all_take : {A : Type 0} (P : A → Type 0) (i : ℕ) (l : List A) → All P l → All P (take i l)
all_take P zero l a = tt
all_take P (suc i) [] a = tt
all_take P (suc i) (x ∷ l) a = (a.0, all_take P i l a.1)

pub all-at : {A : Type 0} (P : A → Type 0) (i : ℕ) (l : List A) (d : A) → i < length l → All P l → P (get_or l i d)
all-at P i [] d h a = absurd (not-suc-le-zero h)
all-at P zero (x ∷ l) d h a = a.0
all-at P (suc i) (x ∷ l) d h a = all-at P i l d (le_of_suc-le-suc h) a.1

pub take_count : {A : Type 0} (i : ℕ) (l : List A) → i < length l → length (take i l) ≡ i
take_count i [] h = absurd (not-suc-le-zero h)
take_count zero (x ∷ l) h = refl
take_count (suc i) (x ∷ l) h = ap suc (take_count i l (le_of_suc-le-suc h))

-- ---- pieces one behind the other
pub flat-split : (i : ℕ) (qs : List (List ℕ)) → i < length qs
    → flat qs ≡ flat (take i qs) ++ (get_or qs i [] ++ flat (drop (suc i) qs))
flat-split i [] h = absurd (not-suc-le-zero h)
flat-split zero (q ∷ qs) h = refl
flat-split (suc i) (q ∷ qs) h =
    ap (λ (l : List ℕ). q ++ l) (flat-split i qs (le_of_suc-le-suc h))
    ∙ sym (append_assoc q (flat (take i qs)) (get_or qs i [] ++ flat (drop (suc i) qs)))

pub flat-without : (i : ℕ) (qs : List (List ℕ)) → i < length qs → flat (without i qs) ≡ flat (take i qs) ++ flat (drop (suc i) qs)
flat-without i [] h = absurd (not-suc-le-zero h)
flat-without zero (q ∷ qs) h = refl
flat-without (suc i) (q ∷ qs) h =
    ap (λ (l : List ℕ). q ++ l) (flat-without i qs (le_of_suc-le-suc h)) ∙ sym (append_assoc q (flat (take i qs)) (flat (drop (suc i) qs)))

-- ---- equations one behind the other
-- what stands for an equation that is not there
abbrev pub no_equation : Equation
no_equation = equation [] 0

pub equations-split : (i : ℕ) (es : List Equation) → i < length es
    → equations_words es ≡ equations_words (take i es) ++ (equation_words (get_or es i no_equation) ++ equations_words (drop (suc i) es))
equations-split i [] h = absurd (not-suc-le-zero h)
equations-split zero (e ∷ es) h = refl
equations-split (suc i) (e ∷ es) h =
    ap (λ (l : List ℕ). equation_words e ++ l) (equations-split i es (le_of_suc-le-suc h))
    ∙ sym (append_assoc (equation_words e) (equations_words (take i es)) (equation_words (get_or es i no_equation) ++ equations_words (drop (suc i) es)))

pub equations-without : (i : ℕ) (es : List Equation) → i < length es
    → equations_words (without i es) ≡ equations_words (take i es) ++ equations_words (drop (suc i) es)
equations-without i [] h = absurd (not-suc-le-zero h)
equations-without zero (e ∷ es) h = refl
equations-without (suc i) (e ∷ es) h =
    ap (λ (l : List ℕ). equation_words e ++ l) (equations-without i es (le_of_suc-le-suc h))
    ∙ sym (append_assoc (equation_words e) (equations_words (take i es)) (equations_words (drop (suc i) es)))

last-and : (x y z r s : Bool) → (r ≡ true → s ≡ true) → (x && (y && (z && r))) ≡ true → (x && (y && (z && s))) ≡ true
last-and true true true r s f a = f a
last-and true true false r s f a = a
last-and true false z r s f a = a
last-and false y z r s f a = a

last_of : (x y z r : Bool) → (x && (y && (z && r))) ≡ true → r ≡ true
last_of true true true r a = a
last_of true true false r a = cc
last_of true false z r a = cc
last_of false y z r a = cc

pub held-without : (i : ℕ) (es : List Equation) → equations_held es ≡ true → equations_held (without i es) ≡ true
held-without i [] a = a
held-without zero (e ∷ es) a =
    last_of (all_below max_count (term_vars e.terms)) (all_below prime (term_weights e.terms)) (ltb e.image prime) (equations_held es) a
held-without (suc i) (e ∷ es) a =
    last-and (all_below max_count (term_vars e.terms)) (all_below prime (term_weights e.terms)) (ltb e.image prime)
    (equations_held es) (equations_held (without i es)) (λ b. held-without i es b) a

-- ---- all cells below a bound
and-skip : (x y z : Bool) → (x && (y && z)) ≡ true → (x && z) ≡ true
and-skip true true z e = e
and-skip true false z e = cc
and-skip false y z e = e

pub below-without : (bound i : ℕ) (qs : List (List ℕ)) → i < length qs → all_below bound (flat qs) ≡ true → all_below bound (flat (without i qs)) ≡ true
below-without bound i qs h e =
    let a = flat (take i qs) in
    let q = get_or qs i [] in
    let b = flat (drop (suc i) qs) in
    let f : (all_below bound a && (all_below bound q && all_below bound b)) ≡ true
    = sym (ap (λ (t : Bool). all_below bound a && t) (all_below-append bound q b)) ∙ sym (all_below-append bound a (q ++ b)) ∙ sym (ap (all_below bound) (flat-split i qs h)) ∙ e in
    ap (all_below bound) (flat-without i qs h) ∙ all_below-append bound a b ∙ and-skip (all_below bound a) (all_below bound q) (all_below bound b) f

-- ---- words struck from a store that begins with them
pub struck-parts : (a q b rest : List ℕ)
    → struck_words (length a) (length q) (length (a ++ (q ++ b))) ((a ++ (q ++ b)) ++ rest) ≡ (a ++ b) ++ (replicate (length q) 0 ++ rest)
struck-parts a q b rest =
    let s = (a ++ (q ++ b)) ++ rest in
    let n = length-append a (q ++ b) in
    let m = length-append q b in
    let s1 : s ≡ a ++ (q ++ (b ++ rest)) = append_assoc a (q ++ b) rest ∙ ap (λ (l : List ℕ). a ++ l) (append_assoc q b rest) in
    let t : take (length a) s ≡ a = ap (take (length a)) s1 ∙ take-append_seam a (q ++ (b ++ rest)) in
    let d : drop (length a + length q) s ≡ b ++ rest =
    ap (drop (length a + length q)) s1 ∙ drop-append-add a (q ++ (b ++ rest)) (length q) ∙ drop-append_seam q (b ++ rest) in
    let e : drop (length (a ++ (q ++ b))) s ≡ rest = drop-append_seam (a ++ (q ++ b)) rest in
    let k : length (a ++ (q ++ b)) - length q ≡ length (a ++ b) = let l = length-append a b in omega arith in
    let f : take (length (a ++ (q ++ b)) - length q) (take (length a) s ++ drop (length a + length q) s) ≡ a ++ b =
    ap₂ (λ (u v : List ℕ). take (length (a ++ (q ++ b)) - length q) (u ++ v)) t d
    ∙ ap₂ (λ (j : ℕ) (l : List ℕ). take j l) k (sym (append_assoc a b rest))
    ∙ take-append_seam (a ++ b) rest in
    ap₂ (λ (u v : List ℕ). u ++ (replicate (length q) 0 ++ v)) f e

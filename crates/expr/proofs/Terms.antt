-- Terms lent as records, taken one by one: how many they are, what the questions answer when one more is
-- asked, and what is left to store when one more is stored. Assumes nothing.
use Prim.Native.Nat.{ℕ, suc, ◌+◌, ◌*◌, ◌≤◌, ◌<◌, ◌^◌}
use mathlib.Core.Path.{◌≡◌, refl, sym, ap, ◌∙◌}
use mathlib.Core.Bool.{Bool, ◌&&◌, and-true, and_assoc}
use mathlib.Core.List.{List, [], ◌∷◌}
use native.Mathlib.Numerals.{add-one}
use native.Mathlib.Omega.{arith}
use lib.Dec.{ltb}
use lib.ListN.{length, get_or, set, drop, drop_of_length-le, length-set}
use lib.Seq.{sets, drop-cons}
use Rattle.limits.specs.Numbers.{prime, max_count}
use Rattle.words.specs.Store.{all_below}
use Rattle.expr.specs.Equation.{term_vars, term_weights, term_words}
use Rattle.expr.specs.Weighted.{terms_of}
use Rattle.expr.specs.declared.Weighted.{Weighted}

-- a record for what lies past the end
abbrev pub no_term : Weighted
no_term = record { var = record { 0 = 0 }; weight = record { 0 = 0 } }

-- a record takes 8 bytes, and its offset fits
pub offset-fits : (i n : ℕ) → i < n → n * 8 < 2 ^ 63 → i * 8 < 2 ^ 64
offset-fits i n l g = omega arith

pub length-terms_of : (ts : List Weighted) → length (terms_of ts) ≡ length ts
length-terms_of [] = refl
length-terms_of (t ∷ ts) = ap suc (length-terms_of ts)

-- ---- the questions
-- what is said of the first terms, and of those from place i on
abbrev pub wires_from : List Weighted → ℕ → Bool → Bool
wires_from ts i b = b && all_below max_count (term_vars (terms_of (drop i ts)))

abbrev pub weights_from : List Weighted → ℕ → Bool → Bool
weights_from ts i b = b && all_below prime (term_weights (terms_of (drop i ts)))

-- one term more
pub asked-one : (ts : List Weighted) (i : ℕ) (a b : Bool) → i < length ts → let t = get_or ts i no_term in
    (wires_from ts i a ≡ wires_from ts (i + 1) (a && ltb t.var.0 max_count)) × (weights_from ts i b ≡ weights_from ts (i + 1) (b && ltb t.weight.0 prime))
unfolding all_below
asked-one ts i a b l = let t = get_or ts i no_term in let e = drop-cons ts i no_term l in rw (e, add-one i) (sym (and_assoc a _ _), sym (and_assoc b _ _))

-- all of them
pub asked-all : (ts : List Weighted) (i : ℕ) (b : Bool) → length ts ≤ i → (wires_from ts i b ≡ b) × (weights_from ts i b ≡ b)
unfolding all_below
asked-all ts i b l = rw (drop_of_length-le ts l) (and-true b, and-true b)

-- ---- the words
-- term i of those whose words start at place `at`
abbrev pub put_term : List ℕ → ℕ → ℕ → Weighted → List ℕ
put_term out at i t = set (set out (at + (i + i)) t.var.0) (at + (i + i) + 1) t.weight.0

pub length-put_term : (out : List ℕ) (at i : ℕ) (t : Weighted) → length (put_term out at i t) ≡ length out
length-put_term out at i t = length-set (set out (at + (i + i)) t.var.0) (at + (i + i) + 1) t.weight.0 ∙ length-set out (at + (i + i)) t.var.0

pub stored_one : (ts : List Weighted) (out : List ℕ) (at i : ℕ) → i < length ts
    → sets (put_term out at i (get_or ts i no_term)) (at + ((i + 1) + (i + 1))) (term_words (terms_of (drop (i + 1) ts)))
    ≡ sets out (at + (i + i)) (term_words (terms_of (drop i ts)))
stored_one ts out at i l =
    let t = get_or ts i no_term in
    let e : at + ((i + 1) + (i + 1)) ≡ suc (suc (at + (i + i))) = omega arith in
    ap (λ (k : ℕ). sets (put_term out at i t) k (term_words (terms_of (drop (i + 1) ts)))) e
    ∙ ap (λ (k : ℕ). sets (put_term out at i t) (suc (suc (at + (i + i)))) (term_words (terms_of (drop k ts)))) (add-one i)
    ∙ ap (λ (k : ℕ). sets (set (set out (at + (i + i)) t.var.0) k t.weight.0) (suc (suc (at + (i + i)))) (term_words (terms_of (drop (suc i) ts)))) (add-one (at + (i + i)))
    ∙ ap (λ (us : List Weighted). sets out (at + (i + i)) (term_words (terms_of us))) (sym (drop-cons ts i no_term l))

pub stored-all : (ts : List Weighted) (out : List ℕ) (at i : ℕ) → length ts ≤ i
    → sets out (at + (i + i)) (term_words (terms_of (drop i ts))) ≡ out
stored-all ts out at i l = ap (λ (us : List Weighted). sets out (at + (i + i)) (term_words (terms_of us))) (drop_of_length-le ts l)

pub nothing_stored : (ts : List Weighted) (out : List ℕ) (at : ℕ)
    → sets out (at + (0 + 0)) (term_words (terms_of (drop 0 ts))) ≡ sets out at (term_words (terms_of ts))
nothing_stored ts out at = let e : at + (0 + 0) ≡ at = omega arith in ap (λ (k : ℕ). sets out k (term_words (terms_of ts))) e

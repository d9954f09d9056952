-- Equations that were put are read again, whatever lies behind them; where they end; and one more at the end.
-- Assumes nothing.
use Prim.Native.Nat.{ℕ, ◌*◌, ◌≤◌}
use mathlib.Core.Path.{◌≡◌, refl, sym, ap, ◌∙◌}
use mathlib.Core.Bool.{Bool, true, false, ◌&&◌}
use mathlib.Core.List.{List, [], ◌∷◌, ◌++◌, append_assoc, append-nil}
use native.Mathlib.Omega.{arith}
use lib.Dec.{ltb}
use lib.ListN.{length, length-append}
use lib.Seq.{get_or_at, drop-append_seam}
use Rattle.limits.specs.Numbers.{prime, max_count}
use Rattle.words.specs.Store.{all_below, put_words, Begins}
use Rattle.words.proofs.Held.{begins-put}
use Rattle.expr.specs.Equation.{Term, Equation, term_vars, term_weights, equations_held, term_words, equation_words, equation_size, equations_words, terms_at, equation_at, size_at, equations_at, equations_end}

-- ---- one equation
pub length-terms : (ts : List Term) → length (term_words ts) ≡ 2 * length ts
length-terms [] = refl
length-terms (t ∷ ts) = let e = length-terms ts in omega arith

pub length-equation : (e : Equation) → length (equation_words e) ≡ equation_size (length e.terms)
length-equation e =
    let z = length-append (term_words e.terms) (e.image ∷ []) in omega (arith, length-terms e.terms)

terms-words : (ts : List Term) (r : List ℕ) → terms_at (length ts) (term_words ts ++ r) ≡ ts
terms-words [] r = refl
terms-words (t ∷ ts) r = ap (λ (l : List Term). t ∷ l) (terms-words ts r)

pub equation-words : (e : Equation) (r : List ℕ) → equation_at (equation_words e ++ r) ≡ e
unfolding equation_at
equation-words e r =
    let ts = e.terms in
    let a : (term_words ts ++ (e.image ∷ [])) ++ r ≡ term_words ts ++ (e.image ∷ r) = append_assoc (term_words ts) (e.image ∷ []) r in
    rw a
    (λ j. record {
      terms = terms-words ts (e.image ∷ r) j;
      image = get_or_at (term_words ts) e.image r 0 (2 * length ts) (length-terms ts) j;
    })

pub size-words : (e : Equation) (r : List ℕ) → size_at (equation_words e ++ r) ≡ length (equation_words e)
unfolding size_at
size-words e r = sym (length-equation e)

-- ---- equations one after the other
pub equations-words : (es : List Equation) (r : List ℕ) → equations_at (length es) (equations_words es ++ r) ≡ es
equations-words [] r = refl
equations-words (e ∷ es) r =
    rw (
      append_assoc (equation_words e) (equations_words es) r,
      equation-words e (equations_words es ++ r),
      size-words e (equations_words es ++ r),
      drop-append_seam (equation_words e) (equations_words es ++ r),
    )
    (ap (λ (l : List Equation). e ∷ l) (equations-words es r))

pub end-words : (es : List Equation) (r : List ℕ) → equations_end (length es) (equations_words es ++ r) ≡ length (equations_words es)
end-words [] r = refl
end-words (e ∷ es) r =
    rw (
      append_assoc (equation_words e) (equations_words es) r,
      size-words e (equations_words es ++ r),
      drop-append_seam (equation_words e) (equations_words es ++ r),
      end-words es r,
    )
    (sym (length-append (equation_words e) (equations_words es)))

-- one more at the end
pub equations_words-snoc : (es : List Equation) (e : Equation) → equations_words (es ++ (e ∷ [])) ≡ equations_words es ++ equation_words e
equations_words-snoc [] e = append-nil (equation_words e)
equations_words-snoc (q ∷ es) e =
    ap (λ (l : List ℕ). equation_words q ++ l) (equations_words-snoc es e)
    ∙ sym (append_assoc (equation_words q) (equations_words es) (equation_words e))

-- m equations take at least 2m words
pub two-each : (es : List Equation) → 2 * length es ≤ length (equations_words es)
two-each [] = omega arith
two-each (q ∷ es) =
    let n = length-append (equation_words q) (equations_words es) in
    let k = length-equation q in
    let r = two-each es in
    omega arith

-- ---- in a store that begins with their words
pub equations-held : (es : List Equation) (store : List ℕ) → Begins (equations_words es) store → equations_at (length es) store ≡ es
equations-held es store b = ap (λ (s : List ℕ). equations_at (length es) s) b.is ∙ equations-words es b.rest

pub end-held : (es : List Equation) (store : List ℕ) → Begins (equations_words es) store
    → equations_end (length es) store ≡ length (equations_words es)
end-held es store b = ap (λ (s : List ℕ). equations_end (length es) s) b.is ∙ end-words es b.rest

pub equations-put : (es : List Equation) (e : Equation) (store : List ℕ) → Begins (equations_words es) store
    → Begins (equations_words (es ++ (e ∷ []))) (put_words (length (equations_words es)) (equation_words e) store)
equations-put es e store b =
    rw (equations_words-snoc es e) (begins-put (equations_words es) (equation_words e) store (length (equations_words es)) refl b)

-- held wires and units stay in their bounds with one more that keeps to them
pub equations_held-snoc : (es : List Equation) (e : Equation) → equations_held es ≡ true → equations_held (e ∷ []) ≡ true
    → equations_held (es ++ (e ∷ [])) ≡ true
equations_held-snoc [] e a h = h
equations_held-snoc (q ∷ es) e a h =
    go (all_below max_count (term_vars q.terms)) (all_below prime (term_weights q.terms)) (ltb q.image prime) a
    (λ k. equations_held-snoc es e k h)
  where
    go : (x y z : Bool) → (x && (y && (z && equations_held es))) ≡ true → (equations_held es ≡ true → equations_held (es ++ (e ∷ [])) ≡ true)
        → (x && (y && (z && equations_held (es ++ (e ∷ []))))) ≡ true
    go true true true a f = f a
    go true true false a f = a
    go true false z a f = a
    go false y z a f = a

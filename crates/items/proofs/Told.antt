-- Telling what a reader came to, and using what was told. Assumes nothing.
use Prim.Native.Nat.{ℕ, ◌+◌}
use mathlib.Core.Path.{◌≡◌, subst}
use mathlib.Core.List.{List}
use lib.Dec.{leb}
use lib.ListN.{length, drop}
use Rattle.std.specs.Prelude.{Result, Ok, Err}
use Rattle.limits.specs.Outcome.{refusal}
use Rattle.limits.specs.declared.Refused.{Refused}
use Rattle.narg.specs.Reader.{Got, got, stop, ◌>>=◌, need}
use Rattle.narg.specs.declared.Cursor.{Cursor}
use Rattle.allocator.specs.Slots.{Pair, pair}
use Rattle.expr.specs.Equation.{Term}
use Rattle.header.specs.declared.Field.{Field}
use Rattle.items.specs.Told.{FieldTold, Listed, ListTold, PairTold, TermsGiven, TermsTold, EquationGiven, EquationTold}
use Rattle.items.specs.Read.{read_equation, size_of}

-- ---- a word
module _ (g : Got ℕ) (bytes : List ℕ) (end : ℕ) where
  pub tell-on : (r : Result Field Refused) (why : Refused) → r ≡ Err why → g ≡ stop why.0 → FieldTold g bytes end r
  unfolding FieldTold
  tell-on r why e s = rw e s

  pub tell-got : (n words : ℕ) (next : Cursor) → g ≡ got n (drop next.at bytes) → next.at ≡ end → FieldTold g bytes end (Ok (record { value = n; extra = words; next = next }))
  unfolding FieldTold
  tell-got n words next e p = (e, p)

  pub told-stop : (r : Result Field Refused) (why : Refused) → r ≡ Err why → FieldTold g bytes end r → g ≡ stop why.0
  unfolding FieldTold
  told-stop r why e t = subst (FieldTold g bytes end) e t

  pub told-got : (r : Result Field Refused) (f : Field) → r ≡ Ok f → FieldTold g bytes end r → (g ≡ got f.value (drop f.next.at bytes)) × (f.next.at ≡ end)
  unfolding FieldTold
  told-got r f e t = subst (FieldTold g bytes end) e t

-- ---- a pair
module _ (g : Got Pair) (bytes : List ℕ) (end : ℕ) where
  pub tell-pair-on : (r : Result Field Refused) (why : Refused) → r ≡ Err why → g ≡ stop why.0 → PairTold g bytes end r
  unfolding PairTold
  tell-pair-on r why e s = rw e s

  pub tell-pair : (x v : ℕ) (next : Cursor) → g ≡ got (pair x v) (drop next.at bytes) → next.at ≡ end → PairTold g bytes end (Ok (record { value = x; extra = v; next = next }))
  unfolding PairTold
  tell-pair x v next e p = (e, p)

  pub pair-told-stop : (r : Result Field Refused) (why : Refused) → r ≡ Err why → PairTold g bytes end r → g ≡ stop why.0
  unfolding PairTold
  pair-told-stop r why e t = subst (PairTold g bytes end) e t

  pub pair-told : (r : Result Field Refused) (f : Field) → r ≡ Ok f → PairTold g bytes end r
      → (g ≡ got (pair f.value f.extra) (drop f.next.at bytes)) × (f.next.at ≡ end)
  unfolding PairTold
  pair-told r f e t = subst (PairTold g bytes end) e t

-- ---- a list that goes into a store
module _ {A : Type 0} (g : Got (List A)) (words_of : List A → List ℕ) (bytes : List ℕ) (start : ℕ) (before after : List ℕ) where
  pub list-stop : (k : ℕ) → g ≡ stop k → ListTold g words_of bytes start before after (Err (refusal k))
  unfolding ListTold
  list-stop k e = e

  pub list_on : (r : Result Field Refused) (why : Refused) → r ≡ Err why → g ≡ stop why.0 → ListTold g words_of bytes start before after r
  unfolding ListTold
  list_on r why e s = rw e s

  pub list-got : (n words : ℕ) (next : Cursor) → Listed g words_of bytes start before after n words next → ListTold g words_of bytes start before after (Ok (record { value = n; extra = words; next = next }))
  unfolding ListTold
  list-got n words next l = l

  -- the same of another reader that comes to the same, from another start that is the same
  pub list_same : (h : Got (List A)) (from : ℕ) (r : Result Field Refused) → g ≡ h → start ≡ from → ListTold g words_of bytes start before after r
      → ListTold h words_of bytes from before after r
  list_same h from r e s t = rw (← e, ← s) t

-- ---- terms
module _ (g : Got (List Term)) (bytes : List ℕ) (start : ℕ) (before after : List ℕ) (place : ℕ) where
  pub tell-terms-on : (r : Result Field Refused) (why : Refused) → r ≡ Err why → g ≡ stop why.0 → TermsTold g bytes start before after place r
  unfolding TermsTold
  tell-terms-on r why e s = rw e s

  pub tell-terms : (t words : ℕ) (next : Cursor) → TermsGiven g bytes start before after place next → TermsTold g bytes start before after place (Ok (record { value = t; extra = words; next = next }))
  unfolding TermsTold
  tell-terms t words next x = x

  pub terms-told-stop : (r : Result Field Refused) (why : Refused) → r ≡ Err why → TermsTold g bytes start before after place r → g ≡ stop why.0
  unfolding TermsTold
  terms-told-stop r why e t = subst (TermsTold g bytes start before after place) e t

  pub terms-told : (r : Result Field Refused) (f : Field) → r ≡ Ok f → TermsTold g bytes start before after place r
      → TermsGiven g bytes start before after place f.next
  unfolding TermsTold
  terms-told r f e x = subst (TermsTold g bytes start before after place) e x

-- ---- an equation
module _ (bytes : List ℕ) (at : ℕ) (before after : List ℕ) (place : ℕ) where
  abbrev asked : Got (Unit {0})
  asked = (read_equation >>= λ e. need 10 (leb (place + size_of e) (length before))) (drop at bytes)

  pub tell-equation-on : (r : Result Field Refused) (why : Refused) → r ≡ Err why → asked ≡ stop why.0 → EquationTold bytes at before after place r
  unfolding EquationTold
  tell-equation-on r why e s = rw e s

  pub tell-equation : (t words : ℕ) (next : Cursor) → EquationGiven bytes at before after place t next → EquationTold bytes at before after place (Ok (record { value = t; extra = words; next = next }))
  unfolding EquationTold
  tell-equation t words next x = x

  pub equation-told-stop : (r : Result Field Refused) (why : Refused) → r ≡ Err why → EquationTold bytes at before after place r → asked ≡ stop why.0
  unfolding EquationTold
  equation-told-stop r why e t = subst (EquationTold bytes at before after place) e t

  pub equation-told : (r : Result Field Refused) (f : Field) → r ≡ Ok f → EquationTold bytes at before after place r → EquationGiven bytes at before after place f.value f.next
  unfolding EquationTold
  equation-told r f e x = subst (EquationTold bytes at before after place) e x

-- A wire and a unit: a pair and a term are both that, over the record that they become. Assumes nothing.
use Prim.Native.Nat.{ℕ}
use mathlib.Core.Path.{◌≡◌, ap, ◌∙◌}
use mathlib.Core.List.{List}
use Rattle.narg.specs.Reader.{got, Reader, ◌>>=◌, give, wire, unit}
use Rattle.narg.proofs.Lists.{passed}
use Rattle.expr.specs.Equation.{Term}

module _ {A : Type 0} (make : ℕ → ℕ → A) where
  abbrev pub read_two : Reader A
  read_two = wire >>= λ x. unit >>= λ v. give (make x v)

  pub record Two (bs : List ℕ) (a : A) (r : List ℕ) : Type 0 where
    pub var : ℕ
    pub value : ℕ
    pub middle : List ℕ
    pub first : wire bs ≡ got var middle
    pub second : unit middle ≡ got value r
    pub is : make var value ≡ a

  pub two-got : (bs : List ℕ) (a : A) (r : List ℕ) → read_two bs ≡ got a r → Two bs a r
  two-got bs a r e =
      let x = passed (wire bs) (λ x. unit >>= λ v. give (make x v)) a r e in
      let v = passed (unit x.rest) (λ v. give (make x.value v)) a r x.second in
      let er : v.rest ≡ r = cc in
      record {
        var = x.value;
        value = v.value;
        middle = x.rest;
        first = x.first;
        second = v.first ∙ ap (λ (l : List ℕ). got v.value l) er;
        is = cc;
      }

-- a term from its wire and its weight
abbrev pub term : ℕ → ℕ → Term
term x v = record { var = x; weight = v }

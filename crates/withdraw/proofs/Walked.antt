-- The walk over the equations in two parts, to a place and from there on. Assumes nothing.
use Prim.Native.Nat.{ℕ, ◌+◌, ◌-◌, ◌≤◌, ◌<◌}
use mathlib.Core.Path.{◌≡◌, refl, sym, ap, ◌∙◌}
use mathlib.Core.Bool.{Bool, true, false}
use mathlib.Core.List.{List}
use native.Mathlib.Omega.{arith}
use borrow.Author.Tests.{eq-eqb, ne_eqb, eqb-true, eqb-false}
use lib.Dec.{eqb}
use lib.ListN.{length, take, drop, length-drop}
use lib.Seq.{take_all}
use Rattle.std.specs.Prelude.{Option, Some, None, Result, Ok, Err}
use Rattle.std.specs.Option.{ok_or, option_eq}
use Rattle.limits.specs.Outcome.{Outcome, refusal, asked, answer_of}
use Rattle.limits.specs.declared.Refused.{Refused}
use Rattle.limits.specs.Questions.{ask}
use Rattle.expr.specs.Equation.{equations_end, ends_right}
use Rattle.strike.specs.Strike.{end_within}
use Rattle.strike.proofs.Ends.{ended, unended, ends_by, end-split}

-- ---- the walk in two parts: the equations before i, and those from i on, are all of them
module _ (n i : ℕ) (s : List ℕ) (h : i < n) where
  all : equations_end n s ≡ equations_end i s + equations_end (n - i) (drop (equations_end i s) s)
  all = let k : n ≡ i + (n - i) = omega arith in ap (λ (m : ℕ). equations_end m s) k ∙ end-split i (n - i) s

  -- whether those before i end within the words
  module _ (o : Option ℕ) (w : o ≡ end_within i s) (r : Result ℕ Refused) (v : r ≡ ok_or o (refusal 11)) where
    -- they don't: 11
    pub place-refused : {e : Refused} → r ≡ Err e → Err e ≡ answer_of (ask 11 (ends_right n s)) (equations_end i s)
    unfolding ask
    place-refused was = go o (sym w) (sym v ∙ was)
      where
        go : (o : Option ℕ) → end_within i s ≡ o → {e : Refused} → ok_or o (refusal 11) ≡ Err e
            → Err e ≡ answer_of (ask 11 (ends_right n s)) (equations_end i s)
        go None e was =
            let l = unended i s e in
            rw (ne_eqb (equations_end n s) (length s) (λ z. absurd (omega (arith, all, z)))) cc
        go (Some at) e was = cc

    -- they do, at a place
    module _ (at : ℕ) (was : r ≡ Ok at) where
      found : end_within i s ≡ Some at
      found = sym w ∙ go o (sym v ∙ was)
        where
          go : (o : Option ℕ) → ok_or o (refusal 11) ≡ Ok at → o ≡ Some at
          go None was = cc
          go (Some x) was = cc

      pub place-found : (at ≡ equations_end i s) × (equations_end i s ≤ length s)
      place-found = ended i s found

      -- those from there on are asked
      ends-whole : ends_right (n - i) (drop at s) ≡ ends_right n s
      ends-whole = rw place-found.0 (go (eqb (equations_end n s) (length s)) refl)
        where
          d : length (drop (equations_end i s) s) ≡ length s - equations_end i s
          d = length-drop (equations_end i s) s

          go : (b : Bool) → eqb (equations_end n s) (length s) ≡ b
              → eqb (equations_end (n - i) (drop (equations_end i s) s)) (length (drop (equations_end i s) s)) ≡ eqb (equations_end n s) (length s)
          go true e = let z = eqb-true _ _ e in rw e (eq-eqb _ _ (omega (arith, all, d, z)))
          go false e = rw e (ne_eqb _ _ (λ z. eqb-false _ _ e (omega (arith, all, d, z, place-found.1))))

      -- what is asked of them
      module _ (rest : List ℕ) (p : rest ≡ take (length s - at) (drop at s)) (end : Option ℕ) (e : end ≡ end_within (n - i) rest)
          (says : Bool) (q : says ≡ option_eq eqb end (Some (length rest))) where
        says-right : says ≡ ends_right n s
        says-right =
            q
            ∙ ap (λ (o : Option ℕ). option_eq eqb o (Some (length rest))) e
            ∙ ends_by (n - i) rest
            ∙ ap (ends_right (n - i)) (p ∙ take_all (length s - at) (drop at s) (omega (arith, length-drop at s)))
            ∙ ends-whole

        pub right-refused : {a : Outcome} {e : Refused} → a ≡ asked 11 says → a ≡ Err e → Err e ≡ answer_of (ask 11 (ends_right n s)) (equations_end i s)
        unfolding ask
        right-refused was err = rw (sym says-right) (go says (sym was ∙ err))
          where
            go : (b : Bool) {e : Refused} → asked 11 b ≡ Err e → Err e ≡ answer_of (ask 11 b) (equations_end i s)
            go true was = cc
            go false was = cc

        pub right-accepted : {a : Outcome} {u : Unit {0}} → a ≡ asked 11 says → a ≡ Ok u → Ok at ≡ answer_of (ask 11 (ends_right n s)) (equations_end i s)
        unfolding ask
        right-accepted was ok = rw (sym says-right) (go says (sym was ∙ ok) ∙ ap (answer_of (ask 11 says)) place-found.0)
          where
            go : (b : Bool) {u : Unit {0}} → asked 11 b ≡ Ok u → Ok at ≡ answer_of (ask 11 b) at
            go true was = refl
            go false was = cc

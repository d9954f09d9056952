-- Numbers that leave the same modulo n, for any n: sums, products and powers keep it.
--
-- `Same n a b` is a record, so that n, a and b are found at each use. A chain of such steps, with
-- `same (omega arith)` between them for what is equal as a polynomial, proves an equation modulo n.
-- Assumes nothing.
use Prim.Native.Nat.{ℕ, ◌+◌, ◌*◌, ◌/◌, ◌%◌, ◌<◌}
use mathlib.Core.Path.{◌≡◌, refl, sym, ap, ◌∙◌}
use native.Mathlib.Nat.{add-mul, add_comm, mul_comm, mul_right_comm, div-add-mod', add-mul-mod_self_right, mod-add-mod, add-mod-mod, mod-mod, mod-eq_of_lt}

pub mod-mul-left : (a b n : ℕ) → (a % n) * b % n ≡ a * b % n
mod-mul-left a b n =
    let e : a * b ≡ (a % n) * b + (a / n * b) * n =
    ap (λ (t : ℕ). t * b) (sym (div-add-mod' a n)) ∙ add-mul (a / n * n) (a % n) b
    ∙ add_comm (a / n * n * b) ((a % n) * b) ∙ ap (λ (t : ℕ). (a % n) * b + t) (mul_right_comm (a / n) n b) in
    sym (ap (λ (t : ℕ). t % n) e ∙ add-mul-mod_self_right ((a % n) * b) (a / n * b) n)

pub mod-mul-right : (a b n : ℕ) → a * (b % n) % n ≡ a * b % n
mod-mul-right a b n =
    ap (λ (t : ℕ). t % n) (mul_comm a (b % n)) ∙ mod-mul-left b a n ∙ ap (λ (t : ℕ). t % n) (mul_comm b a)

pub record Same (n a b : ℕ) : Type 0 where
  pub is : a % n ≡ b % n

pub same : {n a b : ℕ} → a ≡ b → Same n a b
same {n} e = record { is = ap (λ (t : ℕ). t % n) e }

pub keep : {n a : ℕ} → Same n a a
keep = record { is = refl }

pub back : {n a b : ℕ} → Same n a b → Same n b a
back s = record { is = sym s.is }

infixr 30 ◌⟫◌
pub ◌⟫◌ : {n a b c : ℕ} → Same n a b → Same n b c → Same n a c
s ⟫ t = record { is = s.is ∙ t.is }

-- a remainder is the same as the number
pub rest : {n a : ℕ} → Same n (a % n) a
rest {n} {a} = record { is = mod-mod a n }

pub ◌⊗◌ : {n a b c d : ℕ} → Same n a b → Same n c d → Same n (a * c) (b * d)
◌⊗◌ {n} {a} {b} {c} {d} s t = record {
  is =
      sym (mod-mul-left a c n) ∙ ap (λ (t : ℕ). t * c % n) s.is ∙ mod-mul-left b c n
      ∙ sym (mod-mul-right b c n) ∙ ap (λ (t : ℕ). b * t % n) t.is ∙ mod-mul-right b d n;
}

pub ◌⊕◌ : {n a b c d : ℕ} → Same n a b → Same n c d → Same n (a + c) (b + d)
◌⊕◌ {n} {a} {b} {c} {d} s t = record {
  is =
      sym (mod-add-mod a n c) ∙ ap (λ (t : ℕ). (t + c) % n) s.is ∙ mod-add-mod b n c
      ∙ sym (add-mod-mod b c n) ∙ ap (λ (t : ℕ). (b + t) % n) t.is ∙ add-mod-mod b d n;
}

infixl 60 ◌⊕◌
infixl 70 ◌⊗◌
-- below n, the same is equal
pub below : {n a b : ℕ} → a < n → b < n → Same n a b → a ≡ b
below h l s = sym (mod-eq_of_lt h) ∙ s.is ∙ mod-eq_of_lt l

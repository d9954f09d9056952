-- 11 says yes exactly where these facts on lists hold, each test by itself; and what 1, 2 and 11 of an instance say,
-- group by group. Assumes nothing.
use Prim.Native.Nat.{ℕ, ◌*◌, ◌≤◌, ◌<◌}
use mathlib.Core.Path.{◌≡◌, refl, sym, ◌∙◌}
use mathlib.Core.Bool.{Bool, true, false, ◌||◌, or-true}
use mathlib.Core.List.{List, [], ◌∷◌, ◌++◌}
use mathlib.Core.Logic.{◌⊎◌, inl, inr}
use borrow.Author.Tests.{lt-ltb, eq-eqb, ltb-true, leb-true, eqb-true}
use lib.Dec.{eqb, ltb}
use lib.ListN.{length}
use Rattle.limits.specs.Numbers.{prime, max_count, unassigned, label_end}
use Rattle.limits.specs.Questions.{first_no}
use Rattle.limits.specs.Asks.{width_asks}
use Rattle.limits.proofs.Questions.{both, first_no-append, puts, puts-yes}
use Rattle.limits.proofs.Below.{both_true}
use Rattle.words.specs.Store.{all_below, All}
use Rattle.words.specs.Pieces.{words_of}
use Rattle.utf8.specs.Utf8.{is_utf8}
use Rattle.expr.specs.Equation.{Term, Equation, term_vars, term_weights, equations_at, equations_end, equations_held}
use Rattle.instance.specs.Parts.{held_publics, held_queries, held_equations}
use Rattle.held.specs.Held.{label_asks, parts_asks, equations_sound, publics_sound, slots_sound, parts_sound_asks, instance_asks}
use Rattle.instance.specs.declared.PermutationInstance.{PermutationInstance}

-- ---- tests that say yes
pub or-either : (a b : Bool) → (a || b) ≡ true → (a ≡ true) ⊎ (b ≡ true)
or-either true b e = inl refl
or-either false b e = inr e

-- every word is below the bound
abbrev pub Below : ℕ → List ℕ → Type 0
Below n l = All (λ (x : ℕ). x < n) l

pub all_below-facts : (n : ℕ) (l : List ℕ) → all_below n l ≡ true → Below n l
unfolding all_below
all_below-facts n [] e = tt
all_below-facts n (x ∷ l) e =
    let r = both_true (ltb x n) (all_below n l) e in
    (ltb-true x n r.0, all_below-facts n l r.1)

pub facts-all_below : (n : ℕ) (l : List ℕ) → Below n l → all_below n l ≡ true
unfolding all_below
facts-all_below n [] a = refl
facts-all_below n (x ∷ l) a = simp (lt-ltb x n a.0) (facts-all_below n l a.1)

-- ---- 11
-- terms' wires below 2^30 and weights below p, images below p
abbrev pub SoundTerm : Term → Type 0
SoundTerm t = (t.var < max_count) × (t.weight < prime)

abbrev pub SoundEquation : Equation → Type 0
SoundEquation e = All SoundTerm e.terms × (e.image < prime)

terms-facts : (ts : List Term) → Below max_count (term_vars ts) → Below prime (term_weights ts) → All SoundTerm ts
terms-facts [] a b = tt
terms-facts (t ∷ ts) a b = ((a.0, b.0), terms-facts ts a.1 b.1)

pub equations_held-facts : (es : List Equation) → equations_held es ≡ true → All SoundEquation es
equations_held-facts [] e = tt
equations_held-facts (q ∷ es) e =
    let a = both_true (all_below max_count (term_vars q.terms)) _ e in
    let b = both_true (all_below prime (term_weights q.terms)) _ a.1 in
    let c = both_true (ltb q.image prime) _ b.1 in (
      (
        terms-facts q.terms (all_below-facts max_count (term_vars q.terms) a.0) (all_below-facts prime (term_weights q.terms) b.0),
        ltb-true q.image prime c.0,
      ),
      equations_held-facts es c.1,
    )

pub equations_sound-facts : (n : ℕ) (held : List ℕ) → equations_sound n held ≡ true
    → (equations_end n held ≡ length held) × All SoundEquation (equations_at n held)
unfolding equations_sound
equations_sound-facts n held e =
    let a = both_true (eqb (equations_end n held) (length held)) _ e in
    (eqb-true (equations_end n held) (length held) a.0, equations_held-facts (equations_at n held) a.1)

facts-vars : (ts : List Term) → All SoundTerm ts → Below max_count (term_vars ts)
facts-vars [] a = tt
facts-vars (t ∷ ts) a = (a.0.0, facts-vars ts a.1)

facts-weights : (ts : List Term) → All SoundTerm ts → Below prime (term_weights ts)
facts-weights [] a = tt
facts-weights (t ∷ ts) a = (a.0.1, facts-weights ts a.1)

pub facts-equations_held : (es : List Equation) → All SoundEquation es → equations_held es ≡ true
facts-equations_held [] a = refl
facts-equations_held (q ∷ es) a =
    let x = facts-all_below max_count (term_vars q.terms) (facts-vars q.terms a.0.0) in
    let v = facts-all_below prime (term_weights q.terms) (facts-weights q.terms a.0.0) in
    simp (x, v, lt-ltb q.image prime a.0.1) (facts-equations_held es a.1)

pub facts-equations_sound : (n : ℕ) (held : List ℕ) → equations_end n held ≡ length held → All SoundEquation (equations_at n held)
    → equations_sound n held ≡ true
unfolding equations_sound
facts-equations_sound n held e a =
    simp (eq-eqb (equations_end n held) (length held) e) (facts-equations_held (equations_at n held) a)

-- a slot is a unit or unassigned
abbrev pub SoundSlot : ℕ → Type 0
SoundSlot x = (x < prime) ⊎ (x ≡ unassigned)

slot-fact : (x : ℕ) → (ltb x prime ≡ true) ⊎ (eqb x unassigned ≡ true) → SoundSlot x
slot-fact x (inl e) = inl (ltb-true x prime e)
slot-fact x (inr e) = inr (eqb-true x unassigned e)

pub slots_sound-facts : (s : List ℕ) → slots_sound s ≡ true → All SoundSlot s
unfolding slots_sound
slots_sound-facts [] e = tt
slots_sound-facts (x ∷ s) e =
    let a = both_true (ltb x prime || eqb x unassigned) (slots_sound s) e in
    (slot-fact x (or-either (ltb x prime) (eqb x unassigned) a.0), slots_sound-facts s a.1)

fact-slot : (x : ℕ) → SoundSlot x → (ltb x prime || eqb x unassigned) ≡ true
fact-slot x (inl h) = simp (lt-ltb x prime h)
fact-slot x (inr e) = simp (eq-eqb x unassigned e, or-true)

pub facts-slots_sound : (s : List ℕ) → All SoundSlot s → slots_sound s ≡ true
unfolding slots_sound
facts-slots_sound [] a = refl
facts-slots_sound (x ∷ s) a = simp (fact-slot x a.0) (facts-slots_sound s a.1)

-- ---- 1, 2 and 11 of an instance's parts and its label: where nothing says no, these facts hold
-- 2: each store has at most 2^30 words, and holds what the record counts
pub record PartsFit (ins : PermutationInstance) (publics queries equations : ℕ) : Type 0 where
  pub publics-high : publics ≤ max_count
  pub queries-high : queries ≤ max_count
  pub equations-high : equations ≤ max_count
  pub publics-held : 2 * ins.publics ≤ publics
  pub queries-held : words_of ins.width ins.queries ≤ queries
  pub words-held : ins.words ≤ equations
  pub equations-held : 2 * ins.equations ≤ equations

pub parts_asks-yes : (ins : PermutationInstance) (publics queries equations : ℕ) → first_no (parts_asks ins publics queries equations) ≡ 0
    → PartsFit ins publics queries equations
parts_asks-yes ins publics queries equations e =
    let says = puts-yes (parts_asks ins publics queries equations) e in
    record {
      publics-high = leb-true _ _ (says 2 _ tt (search puts depth 20));
      queries-high = leb-true _ _ (says 2 _ tt (search puts depth 20));
      equations-high = leb-true _ _ (says 2 _ tt (search puts depth 20));
      publics-held = leb-true _ _ (says 2 _ tt (search puts depth 20));
      queries-held = leb-true _ _ (says 2 _ tt (search puts depth 20));
      words-held = leb-true _ _ (says 2 _ tt (search puts depth 20));
      equations-held = leb-true _ _ (says 2 _ tt (search puts depth 20));
    }

pub label_asks-yes : (len : ℕ) → first_no (label_asks len) ≡ 0 → len < label_end
label_asks-yes len e = ltb-true _ _ (puts-yes (label_asks len) e 2 _ tt (search puts depth 20))

-- 11
pub record PartsSound (ins : PermutationInstance) (label publics queries equations : List ℕ) : Type 0 where
  pub ends : equations_end ins.equations (held_equations ins equations) ≡ length (held_equations ins equations)
  pub equations-sound : All SoundEquation (equations_at ins.equations (held_equations ins equations))
  pub publics-sound : publics_sound ins.publics (held_publics ins publics) ≡ true
  pub queries-sound : Below max_count (held_queries ins queries)
  pub label-sound : is_utf8 label ≡ true

pub parts_sound_asks-yes : (ins : PermutationInstance) (label publics queries equations : List ℕ)
    → first_no (parts_sound_asks ins label publics queries equations) ≡ 0 → PartsSound ins label publics queries equations
parts_sound_asks-yes ins label publics queries equations e =
    let says = puts-yes (parts_sound_asks ins label publics queries equations) e in
    let q = equations_sound-facts ins.equations (held_equations ins equations) (says 11 _ tt (search puts depth 20)) in
    record {
      ends = q.0;
      equations-sound = q.1;
      publics-sound = says 11 _ tt (search puts depth 20);
      queries-sound = all_below-facts max_count (held_queries ins queries) (says 11 _ tt (search puts depth 20));
      label-sound = says 11 _ tt (search puts depth 20);
    }

pub record InstanceSound (ins : PermutationInstance) (label publics queries equations : List ℕ) : Type 0 where
  pub parts : PartsFit ins (length publics) (length queries) (length equations)
  pub label-high : length label < label_end
  pub sound : PartsSound ins label publics queries equations

pub instance_asks-yes : (ins : PermutationInstance) (label publics queries equations : List ℕ)
    → first_no (instance_asks ins label publics queries equations) ≡ 0 → InstanceSound ins label publics queries equations
instance_asks-yes ins label publics queries equations e =
    let parts = parts_asks ins (length publics) (length queries) (length equations) in
    let sound = parts_sound_asks ins label publics queries equations in
    let a = both _ _ (sym (first_no-append (width_asks ins.width) (parts ++ (label_asks (length label) ++ sound))) ∙ e) in
    let b = both _ _ (sym (first_no-append parts (label_asks (length label) ++ sound)) ∙ a.1) in
    let c = both _ _ (sym (first_no-append (label_asks (length label)) sound) ∙ b.1) in
    record {
      parts = parts_asks-yes _ _ _ _ b.0;
      label-high = label_asks-yes _ c.0;
      sound = parts_sound_asks-yes _ _ _ _ _ c.1;
    }

-- Laws of questions in order: the first no of two, of a list and of a list that is put together from parts.
--
-- `both` and `join` say when nothing says no, `refused` what a number means. The code's chain of questions is
-- nested to the left; `simp (▸-assoc, zero-▸, ▸-zero)` turns a short one into the list that a definition cites, and
-- `chain-all` one of any length, by its groups. `puts-yes` says what an accepted call's questions say, by their
-- numbers and not by their places.
-- Assumes nothing.
use Prim.Native.Nat.{ℕ, zero, suc}
use mathlib.Core.Path.{◌≡◌, refl, sym, ap, ◌∙◌}
use native.Mathlib.Omega.{arith}
use mathlib.Core.Bool.{Bool, true, false, ◌&&◌}
use mathlib.Core.List.{List, [], ◌∷◌, ◌++◌}
use lib.Dec.{T, ltb}
use lib.ListN.{length, get_or}
use Rattle.limits.specs.Questions.{ask, first_of_two, ◌▸◌, Question, question, first_no, in_turn, on_yes}

-- ---- one question
pub ask-yes : (k : ℕ) (b : Bool) → b ≡ true → ask k b ≡ 0
unfolding ask
ask-yes k b e = simp e

pub ask-no : (k : ℕ) (b : Bool) → b ≡ false → ask k b ≡ k
unfolding ask
ask-no k b e = simp e

-- a question with a number says yes where nothing is answered
pub says-yes : (k : ℕ) (b : Bool) → ask (suc k) b ≡ 0 → b ≡ true
unfolding ask
says-yes k true e = refl
says-yes k false e = cc

-- ---- the first no of two
pub stays : (a b : ℕ) → (a ≡ 0 → ⊥) → a ▸ b ≡ a
unfolding first_of_two
stays zero b h = absurd (h refl)
stays (suc a) b h = refl

pub goes_on : (a b : ℕ) → a ≡ 0 → a ▸ b ≡ b
unfolding first_of_two
goes_on zero b e = refl
goes_on (suc a) b e = cc

pub both : (a b : ℕ) → a ▸ b ≡ 0 → (a ≡ 0) × (b ≡ 0)
unfolding first_of_two
both zero b e = (refl, e)
both (suc a) b e = (cc, cc)

pub join : (a b : ℕ) → a ≡ 0 → b ≡ 0 → a ▸ b ≡ 0
unfolding first_of_two
join zero b e f = f
join (suc a) b e f = e

pub zero-▸ : (b : ℕ) → 0 ▸ b ≡ b
unfolding first_of_two
zero-▸ b = refl

pub ▸-zero : (a : ℕ) → a ▸ 0 ≡ a
unfolding first_of_two
▸-zero zero = refl
▸-zero (suc a) = refl

pub ▸-assoc : (a b c : ℕ) → (a ▸ b) ▸ c ≡ a ▸ (b ▸ c)
unfolding first_of_two
▸-assoc zero b c = refl
▸-assoc (suc a) b c = refl

-- ---- what follows a number
pub on_yes-yes : {A : Type 0} (k : ℕ) (a b : A) → k ≡ 0 → on_yes k a b ≡ a
on_yes-yes zero a b e = refl
on_yes-yes (suc k) a b e = absurd (omega arith)

pub on_yes-no : {A : Type 0} (k : ℕ) (a b : A) → (k ≡ 0 → ⊥) → on_yes k a b ≡ b
on_yes-no zero a b h = absurd (h refl)
on_yes-no (suc k) a b h = refl

-- a list of one length either way
pub on_yes-length : (k : ℕ) (new old : List ℕ) → (k ≡ 0 → length new ≡ length old) → length (on_yes k new old) ≡ length old
on_yes-length zero new old f = f refl
on_yes-length (suc k) new old f = refl

-- ---- a list of questions
-- a list in two parts: the first no of the parts' first noes
pub first_no-append : (ps qs : List Question) → first_no (ps ++ qs) ≡ first_no ps ▸ first_no qs
unfolding first_of_two
first_no-append [] qs = refl
first_no-append (p ∷ ps) qs =
    ap (λ (n : ℕ). ask p.number p.says ▸ n) (first_no-append ps qs)
    ∙ sym (▸-assoc (ask p.number p.says) (first_no ps) (first_no qs))

-- groups put one after the other, each by what was answered before it, as code puts them
abbrev pub chain : ℕ → List (List Question) → ℕ
chain k [] = k
chain k (g ∷ gs) = chain (k ▸ first_no g) gs

pub chain-in_turn : (k : ℕ) (gs : List (List Question)) → chain k gs ≡ k ▸ first_no (in_turn gs)
chain-in_turn k [] = sym (▸-zero k)
chain-in_turn k (g ∷ gs) =
    chain-in_turn (k ▸ first_no g) gs
    ∙ ▸-assoc k (first_no g) (first_no (in_turn gs))
    ∙ ap (λ (n : ℕ). k ▸ n) (sym (first_no-append g (in_turn gs)))

-- with nothing answered before the first, and from what a first group answers
pub chain-all : (gs : List (List Question)) → chain 0 gs ≡ first_no (in_turn gs)
chain-all gs = chain-in_turn 0 gs ∙ zero-▸ (first_no (in_turn gs))

pub chain-from : (g : List Question) (gs : List (List Question)) → chain (first_no g) gs ≡ first_no (in_turn (g ∷ gs))
chain-from g gs = chain-in_turn (first_no g) gs ∙ sym (first_no-append g (in_turn gs))

-- every question has a number other than 0: computed
abbrev pub numbered : List Question → Bool
numbered [] = true
numbered (q ∷ qs) = ltb 0 q.number && numbered qs

-- what question i says, counted from 0; past the end, yes
abbrev pub says_at : List Question → ℕ → Bool
says_at qs i = (get_or qs i (question 0 true)).says

and_parts : (a b : Bool) → T (a && b) → T a × T b
and_parts true b t = (tt, t)
and_parts false b t = absurd t

first_says : (k : ℕ) (b : Bool) → T (ltb 0 k) → ask k b ≡ 0 → b ≡ true
first_says zero b t e = absurd t
first_says (suc k) b t e = says-yes k b e

-- accepted: each question says yes
pub accepted-says : (qs : List Question) → T (numbered qs) → first_no qs ≡ 0 → (i : ℕ) → says_at qs i ≡ true
accepted-says [] t e i = refl
accepted-says (q ∷ qs) t e zero =
    first_says q.number q.says (and_parts (ltb 0 q.number) (numbered qs) t).0 (both _ _ e).0
accepted-says (q ∷ qs) t e (suc i) =
    accepted-says qs (and_parts (ltb 0 q.number) (numbered qs) t).1 (both _ _ e).1 i

-- question k, which says this, is put in the list
pub data Puts (k : ℕ) (says : Bool) : List Question → Type 0 where
  here : {qs : List Question} → Puts k says (question k says ∷ qs)
  there : {q : Question} {qs : List Question} → Puts k says qs → Puts k says (q ∷ qs)

pub puts-after : {k : ℕ} {says : Bool} (ps : List Question) {qs : List Question} → Puts k says qs → Puts k says (ps ++ qs)
puts-after [] p = p
puts-after (q ∷ ps) p = there (puts-after ps p)

-- a question is found in a list by what it says: `search puts depth 20`
pub ruleset puts = (here, there, puts-after)

-- accepted: a question that is put says yes, wherever it stands
pub puts-yes : (qs : List Question) → first_no qs ≡ 0 → (k : ℕ) (says : Bool) → T (ltb 0 k) → Puts k says qs → says ≡ true
puts-yes qs e k says t p = go qs e p
  where
    go : (qs : List Question) → first_no qs ≡ 0 → Puts k says qs → says ≡ true
    go qs e here = first_says k says t (both _ _ e).0
    go qs e (there {qs = rest} p) = go rest (both _ _ e).1 p

-- and where each says yes, nothing is answered
pub says-accepted : (qs : List Question) → ((i : ℕ) → says_at qs i ≡ true) → first_no qs ≡ 0
says-accepted [] h = refl
says-accepted (q ∷ qs) h =
    join _ _ (ask-yes q.number q.says (h 0)) (says-accepted qs (λ i. h (suc i)))

-- refused with a number: a question of that number says no, and those before it say yes
pub record Refused (qs : List Question) (k : ℕ) : Type 0 where
  pub before : List Question
  pub no : Question
  pub after : List Question
  pub place : qs ≡ before ++ (no ∷ after)
  pub number : no.number ≡ k
  pub says : no.says ≡ false
  pub earlier : first_no before ≡ 0

no_of : (k n : ℕ) (b : Bool) → ask k b ≡ suc n → (b ≡ false) × (k ≡ suc n)
unfolding ask
no_of k n true e = absurd (omega arith)
no_of k n false e = (refl, e)

pub refused : (qs : List Question) (k : ℕ) → first_no qs ≡ suc k → Refused qs (suc k)
refused [] k e = absurd (omega arith)
refused (q ∷ qs) k e = go (λ z. refused qs k z) (ask q.number q.says) refl
  where
    go : (first_no qs ≡ suc k → Refused qs (suc k)) → (n : ℕ) → ask q.number q.says ≡ n → Refused (q ∷ qs) (suc k)
    go rest zero z =
        let r = rest (sym (goes_on _ (first_no qs) z) ∙ e) in
        record {
          before = q ∷ r.before;
          no = r.no;
          after = r.after;
          place = ap (λ (l : List Question). q ∷ l) r.place;
          number = r.number;
          says = r.says;
          earlier = join _ _ z r.earlier;
        }
    go rest (suc n) z =
        let p = no_of q.number n q.says z in
        let first : ask q.number q.says ≡ suc k = sym (stays _ (first_no qs) (λ w. absurd (omega (arith, z, w)))) ∙ e in
        record { before = []; no = q; after = qs; place = refl; number = p.1 ∙ sym z ∙ first; says = p.0; earlier = refl }

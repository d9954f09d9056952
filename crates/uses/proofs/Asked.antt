-- What `count_cells` answers and leaves, by its cases: a cell has no room, or all are moved and a question says no, or
-- none does. Assumes nothing.
use Prim.Native.Nat.{ℕ, ◌+◌, ◌≤◌, ◌<◌, min}
use mathlib.Core.Path.{◌≡◌, refl, sym, ap, ap₂, ◌∙◌}
use mathlib.Core.Bool.{Bool, true, false, ◌&&◌}
use mathlib.Core.List.{List, ◌++◌}
use native.Mathlib.Omega.{arith}
use borrow.Author.Tests.{lt-ltb, ltb-true, ltb-false, eqb-true, eqb-false, ne_eqb}
use lib.Dec.{eqb, ltb}
use lib.ListN.{length, get_or, take}
use lib.Seq.{take_all}
use Rattle.std.specs.Prelude.{Result, Ok, Err}
use Rattle.std.specs.Result.{result_and}
use Rattle.limits.specs.Numbers.{max_count}
use Rattle.limits.specs.Outcome.{Outcome, refusal, outcome_of, asked}
use Rattle.limits.specs.Questions.{pick, ask, first_of_two, ◌▸◌, first_no}
use Rattle.limits.specs.declared.Refused.{Refused}
use Rattle.limits.proofs.Below.{both_true}
use Rattle.limits.proofs.Questions.{ask-no}
use Rattle.uses.specs.Uses.{times, strays, count_after, count_fits, uses_fit, uses_asks, CountsCells}
use Rattle.uses.specs.Moves.{inside, Moves, Words, TakesBack, all_at_most, stray_fits}
use Rattle.uses.proofs.Counts.{strays-append, after-length}
use Rattle.uses.proofs.Room.{inside-all}
use Rattle.uses.proofs.Tried.{Unfit, Tries, tried-all, tried-none, words-after, first-none, second_none, both-moved, crowded-unfit, most-fits, most-unfit}
use Rattle.uses.proofs.Fits.{all_named, one-unfit, stray-unfit, named-stray}

module _ (strike : Bool) (len : ℕ) (uses : List ℕ) (stray : ℕ) (cells : List ℕ) where
  -- the stray count does not fit
  stray-no : stray_fits strike stray (strays len cells) ≡ false → uses_fit strike len uses stray cells ≡ false
  stray-no e = go (eqb (strays len cells) 0) refl e
    where
      go : (b : Bool) → eqb (strays len cells) 0 ≡ b → pick b true (count_fits strike stray (strays len cells)) ≡ false
          → uses_fit strike len uses stray cells ≡ false
      go true z f = absurd (let y : ◌≡◌ {A = ℕ} 0 1 = cc in omega arith)
      go false z f = stray-unfit strike len uses stray cells cells (omega (arith, eqb-false (strays len cells) 0 z)) f

  -- a use count does not
  use-no : (end : ℕ) → end ≤ len → end ≤ length uses → Unfit strike end uses cells → uses_fit strike len uses stray cells ≡ false
  use-no end h k u =
      let a : u.wire < len = omega (arith, u.below) in
      let b : u.wire < length uses = omega (arith, u.below) in
      one-unfit strike len uses stray cells cells u.wire u.named (rw (lt-ltb u.wire len a, lt-ltb u.wire (length uses) b) u.says)

  -- all do
  all_fit : (end : ℕ) → ((x : ℕ) → x < len → x < length uses → x < end) → stray_fits strike stray (strays len cells) ≡ true
      → ((x : ℕ) → x < end → 0 < times cells x → count_fits strike (get_or uses x 0) (times cells x) ≡ true)
      → uses_fit strike len uses stray cells ≡ true
  all_fit end m s f = all_named strike len uses stray cells cells (λ x h. go x h (ltb x len) refl (ltb x (length uses)) refl)
    where
      beyond : 0 < strays len cells → count_fits strike stray (strays len cells) ≡ true
      beyond h = rw (ne_eqb (strays len cells) 0 (λ z. omega arith)) at s

      go : (x : ℕ) → 0 < times cells x → (b : Bool) → ltb x len ≡ b → (c : Bool) → ltb x (length uses) ≡ c
          → pick b (pick c (count_fits strike (get_or uses x 0) (times cells x)) true) (count_fits strike stray (strays len cells)) ≡ true
      go x h true z true w = f x (m x (ltb-true x len z) (ltb-true x (length uses) w)) h
      go x h true z false w = refl
      go x h false z c w = beyond (named-stray len cells x (ltb-false x len z) h)

-- answers one after another, from the left or from the right
and-assoc : {A : Type 0} (a b : Outcome) (c : Result A Refused) → result_and (result_and a b) c ≡ result_and a (result_and b c)
and-assoc (Ok u) b c = refl
and-assoc (Err e) b c = refl

-- 11 and 10 as the code puts them: their first no
and-first : (f w : Bool) → result_and (asked 11 f) (asked 10 w) ≡ outcome_of (ask 11 f ▸ (ask 10 w ▸ 0))
unfolding ask first_of_two
and-first true true = refl
and-first true false = refl
and-first false w = refl

-- and what they say where none says no
and-yes : (f w : Bool) (rest : Outcome) → result_and (result_and (asked 11 f) (asked 10 w)) rest ≡ Ok tt → (f ≡ true) × (w ≡ true)
and-yes true true rest e = (refl, refl)
and-yes true false rest e = cc
and-yes false w rest e = cc

pub asked-stray : (s t w : Bool) (rest : Outcome) → result_and (result_and (asked 11 (s && t)) (asked 10 w)) rest ≡ Ok tt → s ≡ true
asked-stray s t w rest e = (both_true s t (and-yes (s && t) w rest e).0).0

module _ (strike : Bool) (len : ℕ) (uses : List ℕ) (stray : ℕ) (cells : List ℕ) (rest : Outcome) where
  -- a cell has no room
  counts-none : (end : ℕ) (left : List ℕ) → end ≤ len → end ≤ length uses → Tries strike end uses cells false left
      → CountsCells strike len uses stray cells rest (Err (refusal 11)) left
  unfolding first_of_two
  counts-none end left h k t =
      let u = use-no strike len uses stray cells end h k (crowded-unfit strike end uses cells (t.had-none refl)) in
      rw t.left_is (record { answer = rw (ask-no 11 (uses_fit strike len uses stray cells) u); uses-are = refl })

  -- all are moved, and the questions are asked
  module _ (said : Outcome) (e : said ≡ result_and (outcome_of (first_no (uses_asks strike len uses stray cells))) rest) where
    told : {r : Outcome} → said ≡ r → (after : ℕ) → after ≡ count_after strike stray (strays len cells)
        → result_and r (Ok after) ≡ result_and (outcome_of (first_no (uses_asks strike len uses stray cells))) (result_and rest (Ok (count_after strike stray (strays len cells))))
    told was after s = ap₂ (λ (r : Outcome) (n : ℕ). result_and r (Ok n)) (sym was ∙ e) s ∙ and-assoc _ rest _

-- what `count_cells` answers once all cells are moved and 11, 10 and the rest are asked, with the counts then, how many
-- cells are stray and what was said
pub record Cases (strike : Bool) (len : ℕ) (uses : List ℕ) (stray : ℕ) (cells : List ℕ) (rest : Outcome) (end : ℕ) (moved : List ℕ) (by : ℕ) (said : Outcome) : Type 0 where
  pub refuses : {e : Refused} (left : List ℕ) → said ≡ Err e → TakesBack strike end moved cells left
      → CountsCells strike len uses stray cells rest (Err e) left
  pub accepts : (after : ℕ) → said ≡ Ok tt → after ≡ count_after strike stray by
      → CountsCells strike len uses stray cells rest (Ok after) moved

-- ---- two lists
module _ (strike : Bool) (len : ℕ) (uses : List ℕ) (stray : ℕ) (a b : List ℕ) (rest : Outcome) (end : ℕ) (words : Words uses) (is : end ≡ min len (length uses)) where
  h : end ≤ len
  h = omega arith

  k : end ≤ length uses
  k = omega arith

  -- the first has a cell without room
  pub counts-first : (n : ℕ) (first left : List ℕ) → n < length a → Moves strike max_count end uses a n first
      → TakesBack strike end first (take n a) left
      → CountsCells strike len uses stray (a ++ b) rest (Err (refusal 11)) left
  counts-first n first left l m t =
      counts-none strike len uses stray (a ++ b) rest end left h k
      (first-none strike end a b uses false left refl (tried-none strike end uses a n first left words k l m t))

  module _ (n : ℕ) (first : List ℕ) (l : length a ≤ n) (m : Moves strike max_count end uses a n first) where
    all_first : Tries strike end uses a true first
    all_first = tried-all strike end uses a n first l m

    -- the second has one
    pub counts-second : (o : ℕ) (second middle left : List ℕ) → o < length b → Moves strike max_count end first b o second
        → TakesBack strike end second (take o b) middle → TakesBack strike end middle a left
        → CountsCells strike len uses stray (a ++ b) rest (Err (refusal 11)) left
    counts-second o second middle left g d t u =
        let e = all_first.left_is in
        let w : Words first = rw e (words-after strike uses (inside end a) words (all_first.had-room refl)) in
        let z : length first ≡ length uses = ap length e ∙ after-length strike uses (inside end a) in
        let v = tried-none strike end first b o second middle w (omega arith) g d t in
        counts-none strike len uses stray (a ++ b) rest end left h k
        (second_none strike end a b uses true false first middle refl all_first v left words k refl u)

    -- all are moved
    module _ (o : ℕ) (second : List ℕ) (g : length b ≤ o) (d : Moves strike max_count end first b o second) (i j : ℕ) (p : i ≡ strays len (take n a)) (q : j ≡ strays len (take o b)) where
      all_both : Tries strike end uses (a ++ b) true second
      all_both = both-moved strike end a b uses true true first second refl all_first (tried-all strike end first b o second g d) refl

      by-is : i + j ≡ strays len (a ++ b)
      by-is =
          let s = strays-append len a b in
          let x : i ≡ strays len a = p ∙ ap (strays len) (take_all n a l) in
          let y : j ≡ strays len b = q ∙ ap (strays len) (take_all o b g) in
          omega arith

      same : length second ≡ length uses
      same = ap length all_both.left_is ∙ after-length strike uses (inside end (a ++ b))

      module _ (s t : Bool) (x : s ≡ stray_fits strike stray (i + j)) (y : t ≡ pick strike (all_at_most end second (a ++ b)) true) where
        fit_is : (s && t) ≡ uses_fit strike len uses stray (a ++ b)
        fit_is = go s refl t refl
          where
            beyond : stray_fits strike stray (strays len (a ++ b)) ≡ s
            beyond = ap (stray_fits strike stray) (sym by-is) ∙ sym x

            go : (c : Bool) → s ≡ c → (r : Bool) → t ≡ r → (c && r) ≡ uses_fit strike len uses stray (a ++ b)
            go true e true f = sym (all_fit strike len uses stray (a ++ b) end (λ x u v. omega arith) (beyond ∙ e) (most-fits strike end uses (a ++ b) second all_both k (sym y ∙ f)))
            go true e false f = sym (use-no strike len uses stray (a ++ b) end h k (most-unfit strike end uses (a ++ b) second all_both k (sym y ∙ f)))
            go false e r f = sym (stray-no strike len uses stray (a ++ b) (beyond ∙ e))

        module _ (said : Outcome) (e : said ≡ result_and (result_and (asked 11 (s && t)) (asked 10 (eqb (length second) len))) rest) where
          said-is : said ≡ result_and (outcome_of (first_no (uses_asks strike len uses stray (a ++ b)))) rest
          said-is =
              e ∙ ap (λ (o : Outcome). result_and o rest)
              (and-first _ _ ∙ ap₂ (λ (f : Bool) (n : ℕ). outcome_of (ask 11 f ▸ (ask 10 (eqb n len) ▸ 0))) fit_is same)

          pub counts-cases : Cases strike len uses stray (a ++ b) rest end second (i + j) said
          counts-cases = record {
            refuses = λ left z u. record {
              answer = told strike len uses stray (a ++ b) rest said said-is z (count_after strike stray (strays len (a ++ b))) refl;
              uses-are = u uses words k (all_both.had-room refl) all_both.left_is;
            };
            accepts = λ after z u.
                let w = eqb-true (length second) len (and-yes (s && t) (eqb (length second) len) rest (sym e ∙ z)).1 in
                record {
                  answer = told strike len uses stray (a ++ b) rest said said-is z after (u ∙ ap (count_after strike stray) by-is);
                  uses-are = all_both.left_is ∙ inside-all strike end uses (a ++ b) (omega (arith, same));
                };
          }

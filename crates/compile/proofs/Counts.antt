-- The gate by counts is the gate as document 01 has it where the counts are right for the held cells. Assumes nothing.
use Prim.Native.Nat.{ℕ, zero, suc, ◌≤◌}
use mathlib.Core.Path.{◌≡◌, refl, sym, ap, ◌∙◌, subst}
use mathlib.Core.Bool.{Bool, true}
use mathlib.Core.List.{List, [], ◌++◌, append-nil, append_assoc}
use borrow.Author.Tests.{le-leb, leb-true, eq-eqb}
use lib.ListN.{length, take}
use Rattle.limits.specs.Numbers.{max_count}
use Rattle.limits.specs.Questions.{first_of_two, ◌▸◌, Question, first_no, pick}
use Rattle.limits.specs.Asks.{width_asks, store_asks}
use Rattle.limits.proofs.Questions.{ask-yes, goes_on, first_no-append, here, there, puts-yes}
use Rattle.words.specs.Pieces.{words_of}
use Rattle.uses.specs.Uses.{length_asks, UseCounts}
use Rattle.uses.proofs.Counts.{uses-length}
use Rattle.allocator.specs.Slots.{fit_asks}
use Rattle.permutation.specs.Sharing.{Sharing, alone}
use Rattle.permutation.specs.Relation.{relation_asks_with, relation_asks}
use Rattle.permutation.specs.declared.PermutationRelation.{PermutationRelation}
use Rattle.instance.proofs.Parts.{flat-held}
use Rattle.validated.specs.Validated.{gate_asks}
use Rattle.use_gate.proofs.Same.{same-gate}
use Rattle.compile.specs.Gate.{GateLent, publics_of, compiled_parts, lent_parts, lent_stores_asks, lent_sound_asks, publics_room, made_asks, compile_asks_with, compile_no, walked_asks_with, walked_asks}
use Rattle.compile.proofs.Publics.{publics-has}
use Rattle.compile.proofs.Gate.{gate_by}
use Rattle.compile.proofs.Facts.{relation_asks-yes}

-- ---- two lists of questions that begin alike
after : (ps qs rs : List Question) → first_no qs ≡ first_no rs → first_no (ps ++ qs) ≡ first_no (ps ++ rs)
after ps qs rs e = first_no-append ps qs ∙ ap (λ (n : ℕ). first_no ps ▸ n) e ∙ sym (first_no-append ps rs)

-- what follows is asked only where nothing said no before
only : (a b c : ℕ) → (a ≡ 0 → b ≡ c) → a ▸ b ≡ a ▸ c
unfolding first_of_two
only zero b c f = f refl
only (suc a) b c f = refl

-- ---- the walk, group by group
module _ (l : GateLent) where
  abbrev rel : PermutationRelation
  rel = l.relation

  -- 16, 12 to 15
  abbrev walk : List Question
  walk = gate_asks (lent_parts l) l.scratch

  pub walked-is : first_no (walked_asks l)
      ≡ first_no (relation_asks rel (length l.slots) ++ (lent_stores_asks l ++ (lent_sound_asks l ++ (publics_room l ++ walk))))
  walked-is =
      ap (λ (qs : List Question). first_no (relation_asks rel (length l.slots) ++ (lent_stores_asks l ++ (lent_sound_asks l ++ (publics_room l ++ qs)))))
      (append-nil walk)

  module _ (c : UseCounts (length l.slots) (take (words_of rel.width rel.queries) l.queries) l.uses rel.stray) where
    -- the use store has a word per slot
    pub counted_same : length l.uses ≡ length l.slots
    counted_same = ap length c.uses-are ∙ uses-length (length l.slots) (take (words_of rel.width rel.queries) l.queries)

    -- 16 and 12 to 15 by counts are those by the walk
    by-walk : rel.vars ≤ length l.slots → first_no (gate_by l) ≡ first_no walk
    unfolding compiled_parts publics_of
    by-walk h =
        same-gate (lent_parts l) (take rel.vars l.slots) l.uses rel.stray (length l.slots) h
        (rw (flat-held rel.width rel.queries l.queries) c) (publics-has (take rel.vars l.slots)) l.scratch

    -- 10 too
    by-room : rel.vars ≤ length l.slots → first_no (made_asks l) ≡ first_no (publics_room l ++ walk)
    by-room h =
        after (publics_room l) (length_asks (length l.slots) (length l.uses) ++ (gate_by l ++ [])) walk
        (goes_on _ _ (ask-yes 10 _ (eq-eqb _ _ counted_same)) ∙ ap first_no (append-nil (gate_by l)) ∙ by-walk h)

    -- `h` is what sharing puts in: where all that comes after the last 2 says yes, 2 is asked of the wire count
    module _ (h : Sharing) (opens : first_no h.opened ≡ 0 → h.counted ≡ true) where
      -- 1, and 2 of wire count and slots
      abbrev relation : List Question
      relation = relation_asks_with h rel (length l.slots)

      -- all that follows, by counts ..
      abbrev counts : List Question
      counts = lent_stores_asks l ++ (store_asks (length l.uses) ++ (h.opened ++ (lent_sound_asks l ++ made_asks l)))

      -- .. and by the walk
      abbrev walked : List Question
      walked = lent_stores_asks l ++ (h.opened ++ (lent_sound_asks l ++ (publics_room l ++ walk)))

      slots-fit : first_no relation ≡ 0 → length l.slots ≤ max_count
      slots-fit e = leb-true _ _ (puts-yes relation e 2 _ tt (there (there here)))

      vars-fit : first_no relation ≡ 0 → h.counted ≡ true → rel.vars ≤ length l.slots
      vars-fit e k =
          (relation_asks-yes rel (length l.slots)
          (subst (λ (b : Bool). first_no (width_asks rel.width ++ (store_asks (length l.slots) ++ pick b (fit_asks rel.vars (length l.slots)) [])) ≡ 0) k e)
          ).vars-held

      by-opened : first_no relation ≡ 0
          → first_no (h.opened ++ (lent_sound_asks l ++ made_asks l)) ≡ first_no (h.opened ++ (lent_sound_asks l ++ (publics_room l ++ walk)))
      by-opened e =
          first_no-append h.opened (lent_sound_asks l ++ made_asks l)
          ∙ only (first_no h.opened) _ _ (λ o. after (lent_sound_asks l) (made_asks l) (publics_room l ++ walk) (by-room (vars-fit e (opens o))))
          ∙ sym (first_no-append h.opened (lent_sound_asks l ++ (publics_room l ++ walk)))

      by-stores : first_no relation ≡ 0 → first_no counts ≡ first_no walked
      by-stores e =
          after (lent_stores_asks l) (store_asks (length l.uses) ++ (h.opened ++ (lent_sound_asks l ++ made_asks l)))
          (h.opened ++ (lent_sound_asks l ++ (publics_room l ++ walk)))
          (goes_on _ _ (ask-yes 2 _ (le-leb (length l.uses) max_count (rw counted_same (slots-fit e)))) ∙ by-opened e)

      -- the lists, one after the other
      counts-are : compile_asks_with h l ≡ relation ++ counts
      counts-are =
          append_assoc relation (lent_stores_asks l ++ (store_asks (length l.uses) ++ (h.opened ++ []))) (lent_sound_asks l ++ made_asks l)
          ∙ ap (λ (os : List Question). relation ++ (lent_stores_asks l ++ (store_asks (length l.uses) ++ (os ++ (lent_sound_asks l ++ made_asks l)))))
          (append-nil h.opened)

      walked-are : walked_asks_with h l ≡ relation ++ walked
      walked-are =
          ap (λ (qs : List Question). relation ++ (lent_stores_asks l ++ (h.opened ++ (lent_sound_asks l ++ (publics_room l ++ qs))))) (append-nil walk)

      -- on every input: where 2 says no of the slots both answer it, else the use store has the right length
      pub counted-gate-with : first_no (compile_asks_with h l) ≡ first_no (walked_asks_with h l)
      counted-gate-with =
          ap first_no counts-are
          ∙ first_no-append relation counts
          ∙ only (first_no relation) (first_no counts) (first_no walked) by-stores
          ∙ sym (ap first_no walked-are ∙ first_no-append relation walked)

    -- of a relation alone
    pub counted-gate : compile_no l ≡ first_no (walked_asks l)
    unfolding compile_no
    counted-gate = counted-gate-with alone (λ e. refl)

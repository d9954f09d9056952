-- No call changes the length of a store, and no list of calls does. Assumes nothing.
use mathlib.Core.Path.{◌≡◌, refl, ◌∙◌}
use mathlib.Core.List.{List, [], ◌∷◌}
use lib.Dec.{eqb}
use lib.ListN.{length, set, length-set}
use Rattle.limits.specs.Questions.{ask, ◌▸◌, first_no}
use Rattle.limits.proofs.Questions.{on_yes-length}
use Rattle.words.specs.Store.{put_words}
use Rattle.words.proofs.Written.{put-length}
use Rattle.allocator.specs.Slots.{pairs, pair_no, grown_slots, ran, set_run}
use Rattle.allocator.proofs.Run.{run_length, after-length as run-after-length}
use Rattle.expr.specs.Equation.{equation, equation_words}
use Rattle.expr.specs.Weighted.{terms_of}
use Rattle.expr.proofs.Held.{length-equation}
use Rattle.permutation.specs.declared.PermutationRelation.{PermutationRelation}
use Rattle.permutation.specs.Relation.{relation_asks}
use Rattle.permutation.specs.Numbers.{allocate_vars_no, set_var_no, set_vars_no}
use Rattle.recording.specs.Numbers.{add_equation_no}
use Rattle.permutation.specs.Answers.{set_vars_run}
use Rattle.permutation.proofs.Accepted.{allocate_vars-yes}
use Rattle.recording.proofs.Accepted.{add_equation-yes}
use Rattle.recording.proofs.Lengths.{add_permutation_queries-length, add_permutation_uses-length, allocate_permutation_slots-length, allocate_permutation_queries-length, allocate_permutation_uses-length}
use Rattle.withdraw.proofs.Lengths.{withdraw_query_queries-length, withdraw_query_uses-length, withdraw_equation_equations-length}
use Rattle.permutation.proofs.Slots.{grown-length}
use Rattle.tickets.specs.Lines.{lines_of, line_pair, line_no, set_lines}
use Rattle.tickets.specs.Tickets.{set_tickets_run}
use Rattle.history.specs.Calls.{Call, Allocate, Set, SetList, Record, Mint, Equate, Tickets, WithdrawQuery, WithdrawEquation, State, after, final, lengths_of}

module _ (s : State) where
  abbrev rel : PermutationRelation
  rel = s.relation

  lengths : (t : State) → length t.slots ≡ length s.slots → length t.queries ≡ length s.queries
      → length t.equations ≡ length s.equations → length t.uses ≡ length s.uses → lengths_of t ≡ lengths_of s
  lengths t a b c d = λ j. record { slots = a j; queries = b j; equations = c j; uses = d j }

  pub lengths-kept : (c : Call) → lengths_of (after s c) ≡ lengths_of s
  unfolding after set_vars_run set_tickets_run
  lengths-kept (Allocate n) =
      lengths (after s (Allocate n))
      (on_yes-length (allocate_vars_no rel (length s.slots) n) (grown_slots rel.vars n s.slots) s.slots
      (λ z. grown-length rel.vars n s.slots (allocate_vars-yes rel (length s.slots) n z).room)) refl refl refl
  lengths-kept (Set p) =
      lengths (after s (Set p))
      (on_yes-length (set_var_no rel s.slots p) (set s.slots p.var p.value) s.slots (λ z. length-set s.slots p.var p.value)) refl refl refl
  lengths-kept (SetList vars values) =
      let r = set_run rel.vars s.slots (pairs vars values) in
      lengths (after s (SetList vars values))
      (run-after-length (set_vars_no rel (length s.slots) vars values) (ran (r.number ▸ ask 9 (eqb (length vars) (length values))) r.accepted r.fresh r.slots) s.slots
      (run_length (pair_no rel.vars) (λ p. p) (pairs vars values) s.slots)) refl refl refl
  lengths-kept (Record input output) =
      lengths (after s (Record input output)) refl (add_permutation_queries-length rel (length s.slots) s.queries s.uses input output) refl
      (add_permutation_uses-length rel (length s.slots) s.queries s.uses input output)
  lengths-kept (Mint input) =
      lengths (after s (Mint input)) (allocate_permutation_slots-length rel s.slots s.queries s.uses input)
      (allocate_permutation_queries-length rel s.slots s.queries s.uses input) refl
      (allocate_permutation_uses-length rel s.slots s.queries s.uses input)
  lengths-kept (Equate terms image) =
      let e = equation (terms_of terms) image in
      lengths (after s (Equate terms image)) refl refl
      (on_yes-length (add_equation_no rel (length s.equations) (terms_of terms) image) (put_words rel.words (equation_words e) s.equations) s.equations
      (λ z.
      let y = add_equation-yes rel (length s.equations) (terms_of terms) image z in
      put-length rel.words (equation_words e) s.equations (rw (length-equation e) y.room))) refl
  lengths-kept (Tickets text) =
      lengths (after s (Tickets text))
      (run-after-length (first_no (relation_asks rel (length s.slots))) (set_lines rel.vars s.slots text) s.slots
      (run_length (line_no rel.vars) line_pair (lines_of text) s.slots)) refl refl refl
  lengths-kept (WithdrawQuery i) =
      lengths (after s (WithdrawQuery i)) refl (withdraw_query_queries-length rel (length s.slots) s.queries s.uses i) refl
      (withdraw_query_uses-length rel (length s.slots) s.queries s.uses i)
  lengths-kept (WithdrawEquation i) =
      lengths (after s (WithdrawEquation i)) refl refl (withdraw_equation_equations-length rel s.equations i) refl

-- nor does a list of calls
pub lengths-all : (cs : List Call) (s : State) → lengths_of (final s cs) ≡ lengths_of s
lengths-all [] s = refl
lengths-all (c ∷ cs) s = lengths-all cs (after s c) ∙ lengths-kept s c

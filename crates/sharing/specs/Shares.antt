-- Relations on one allocator (document 02, R-2): a relation with the shared wire count for its own, and what sharing
-- puts in among the questions of its calls. Assumes nothing.
use Rattle.std.specs.Prelude.{ℕ, ◌+◌, Bool, List, [], ◌∷◌, ltb, leb}
use Rattle.limits.specs.Questions.{Question, question}
use Rattle.permutation.specs.Sharing.{Sharing}
use Rattle.permutation.specs.Answers.{relation}
use Rattle.permutation.specs.declared.PermutationRelation.{PermutationRelation}
use Rattle.sharing.specs.declared.VarAllocator.{VarAllocator}
use Rattle.sharing.specs.declared.SharedRelation.{SharedRelation}

-- at most 8 relations are opened
abbrev pub max_relations : ℕ
max_relations = 8

-- a relation as one that has its wires to itself would be: the wire count is the allocator's
abbrev pub on_allocator : VarAllocator → SharedRelation → PermutationRelation
on_allocator a m = relation m.width a.vars m.queries m.equations m.words m.stray

-- is a relation opened? While none is, the wire count is asked nothing
abbrev pub any_opened : VarAllocator → Bool
any_opened a = ltb 0 a.opened

-- 2 of the allocator, at most 8 opened, and 42: is relation r opened? They are numbered from 0 as they are opened
abbrev pub opened_asks : VarAllocator → ℕ → List Question
opened_asks a r = question 2 (leb a.opened max_relations) ∷ question 42 (ltb r a.opened) ∷ []

-- 43: would it have obtained at most its quota with n wires more?
abbrev pub quota_asks : (quota obtained n : ℕ) → List Question
quota_asks quota obtained n = question 43 (leb (obtained + n) quota) ∷ []

-- what relation r's calls are asked beside those of a relation alone
abbrev pub shares : VarAllocator → ℕ → SharedRelation → Sharing
shares a r m =
    record { counted = any_opened a; opened = opened_asks a r; within = quota_asks m.quota m.obtained }

-- Opening a relation on an allocator (the source's `with_allocator`): the first does to the slots what fresh does, later
-- ones leave slots and wire count as they are. Assumes nothing.
use Rattle.std.specs.Prelude.{ℕ, ◌+◌, List, [], ◌∷◌, ◌++◌, Result, Ok, Err, ltb, leb, length}
use Rattle.limits.specs.Questions.{Question, question, first_no, pick, on_yes}
use Rattle.limits.specs.Outcome.{outcome_of}
use Rattle.limits.specs.declared.Refused.{Refused}
use Rattle.allocator.specs.Slots.{fit_asks}
use Rattle.permutation.specs.Relation.{new_relation_asks_with}
use Rattle.permutation.specs.Answers.{fresh_slots, fresh_uses}
use Rattle.sharing.specs.Shares.{max_relations, any_opened}
use Rattle.sharing.specs.declared.VarAllocator.{VarAllocator}
use Rattle.sharing.specs.declared.SharedRelation.{SharedRelation}
use Rattle.sharing.specs.Records.{Opened}

-- what an opening puts in after the store's 2: of the wire count where a relation is opened, of the allocator, and 42, is
-- there a number left?
abbrev pub opening_asks : VarAllocator → ℕ → List Question
opening_asks a len =
    pick (any_opened a) (fit_asks a.vars len) []
    ++ (question 2 (leb a.opened max_relations) ∷ question 42 (ltb a.opened max_relations) ∷ [])

-- 1, 2, 42, 6, 10
abbrev pub with_allocator_asks : VarAllocator → (width len uses : ℕ) → List Question
with_allocator_asks a width len uses = new_relation_asks_with (opening_asks a len) width len uses

-- the number
unfoldable pub with_allocator_no : VarAllocator → (width len uses : ℕ) → ℕ
with_allocator_no a width len uses = first_no (with_allocator_asks a width len uses)

-- a relation's record as it is opened
abbrev pub new_shared : (width quota : ℕ) → SharedRelation
new_shared width quota =
    record { width = width; queries = 0; equations = 0; words = 0; stray = 0; quota = quota; obtained = 0 }

-- the number and record that an opening came to, with the allocator beside them; refused, a number and a record of zeros
abbrev pub opened_on : Result (ℕ × SharedRelation) Refused → VarAllocator → Opened
opened_on (Ok made) a = record { outcome = Ok tt; index = made.0; allocator = a; relation = made.1 }
opened_on (Err e) a = record { outcome = Err e; index = 0; allocator = a; relation = new_shared 0 0 }

-- the allocator afterwards: one relation more, and the first makes one wire
abbrev pub one_opened : VarAllocator → VarAllocator
one_opened a = record { vars = pick (any_opened a) a.vars 1; opened = a.opened + 1 }

-- the answer: the relation's number, which is how many were opened before, and the two records; refused, the allocator
-- as it was and zeros
abbrev pub with_allocator : VarAllocator → (width quota : ℕ) → (slots uses : List ℕ) → Opened
with_allocator a width quota slots uses =
    let k = with_allocator_no a width (length slots) (length uses) in
    record {
      outcome = outcome_of k;
      index = on_yes k a.opened 0;
      allocator = on_yes k (one_opened a) a;
      relation = on_yes k (new_shared width quota) (new_shared 0 0);
    }

-- the slots afterwards
abbrev pub with_allocator_slots : VarAllocator → ℕ → (slots uses : List ℕ) → List ℕ
with_allocator_slots a width slots uses =
    on_yes (with_allocator_no a width (length slots) (length uses)) (pick (any_opened a) slots (fresh_slots slots)) slots

-- the use store afterwards, which is the relation's own: all 0 where the opening is accepted
abbrev pub with_allocator_uses : VarAllocator → ℕ → (slots uses : List ℕ) → List ℕ
with_allocator_uses a width slots uses = on_yes (with_allocator_no a width (length slots) (length uses)) (fresh_uses uses) uses

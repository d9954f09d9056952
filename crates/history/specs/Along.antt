-- Calls made one after the other, whatever calls, states, answers and ledgers are: what is left at the end, what was
-- called and answered, the ledger of that, and what is said along the way. Assumes nothing.
use Rattle.std.specs.Prelude.{◌≡◌, List, [], ◌∷◌, map}

-- one call, and what it was answered
pub record Logged (C A : Type 0) : Type 0 where
  pub called : C
  pub answered : A

-- what is left after every call, each on what the last one left
abbrev pub left_by : {S C : Type 0} → (S → C → S) → S → List C → S
left_by after s [] = s
left_by after s (c ∷ cs) = left_by after (after s c) cs

-- the calls in order, each with its answer on the state that the calls before it left
abbrev pub log_by : {S C A : Type 0} → (S → C → A) → (S → C → S) → S → List C → List (Logged C A)
log_by answer after s [] = []
log_by answer after s (c ∷ cs) = record { called = c; answered = answer s c } ∷ log_by answer after (after s c) cs

-- the ledger after all entries, from calls and answers alone
abbrev pub ledger_by : {L C A : Type 0} → (L → C → A → L) → L → List (Logged C A) → L
ledger_by noted l [] = l
ledger_by noted l (e ∷ es) = ledger_by noted (noted l e.called e.answered) es

-- what the ledger before each entry tells of its call
abbrev pub told_by : {L C A R : Type 0} → (L → C → A → L) → (L → C → R) → L → List (Logged C A) → List R
told_by noted tells l [] = []
told_by noted tells l (e ∷ es) = tells l e.called ∷ told_by noted tells (noted l e.called e.answered) es

-- said of each call, on the state and beside the ledger as they were before it
abbrev pub Along : {S L C A : Type 0} → (S → C → A) → (S → C → S) → (L → C → A → L) → (S → L → C → Type 0) → S → L → List C → Type 0
Along answer after noted Told s l [] = Unit {0}
Along answer after noted Told s l (c ∷ cs) = Told s l c × Along answer after noted Told (after s c) (noted l c (answer s c)) cs

-- ---- by code
-- the call on the state s answers a and leaves t, as the list has it
pub record PerformsBy {S C A : Type 0} (answer : S → C → A) (after : S → C → S) (s : S) (c : C) (a : A) (t : S) : Type 0 where
  pub answers : answer s c ≡ a
  pub leaves : after s c ≡ t

-- from s to t, each on what the one before it left, with what each answered
abbrev pub PerformedBy : {S C A : Type 0} → (S → C → A) → (S → C → S) → S → List (Logged C A) → S → Type 0
PerformedBy answer after s [] t = s ≡ t
PerformedBy {S} answer after s (e ∷ es) t = (u : S) × PerformsBy answer after s e.called e.answered u × PerformedBy answer after u es t

-- the calls of the entries
abbrev pub called_in : {C A : Type 0} → List (Logged C A) → List C
called_in {C} {A} es = map (λ (e : Logged C A). e.called) es

-- Which questions can still say no on a state that a list of calls came to, at the gate and after it, and what a call
-- sets there: by the ledger and the lengths of what is lent alone. Assumes nothing.
use Rattle.std.specs.Prelude.{ℕ, zero, suc, ◌+◌, ◌*◌, Bool, not, ◌&&◌, List, [], ◌∷◌, ◌++◌, leb, length, take}
use Rattle.limits.specs.Numbers.{prime}
use Rattle.limits.specs.Questions.{Question, question, first_no, pick}
use Rattle.limits.specs.Asks.{store_asks}
use Rattle.words.specs.Store.{all_below}
use Rattle.words.specs.Pieces.{flat, words_of}
use Rattle.utf8.specs.Utf8.{is_utf8}
use Rattle.expr.specs.Equation.{equations_words}
use Rattle.expr.specs.Weighted.{terms_of}
use Rattle.permutation.specs.Sharing.{nothing}
use Rattle.allocator.specs.Slots.{Pair}
use Rattle.permutation.specs.Left.{allocate_vars_left, set_var_left, set_vars_left, pairs_set, set_vars_set}
use Rattle.recording.specs.Left.{add_permutation_left, allocate_permutation_left, add_equation_left}
use Rattle.withdraw.specs.Left.{withdraw_left}
use Rattle.tickets.specs.Left.{set_tickets_left, set_tickets_set}
use Rattle.instance.specs.Parts.{pair_vars, has}
use Rattle.held.specs.Held.{label_asks}
use Rattle.validated.specs.Validated.{termwise_asks}
use Rattle.decoding.specs.Read.{Rooms}
use Rattle.history.specs.Ledger.{Ledger, known}
use Rattle.history.specs.Calls.{Call, Allocate, Set, SetList, Record, Mint, Equate, Tickets, WithdrawQuery, WithdrawEquation, Lengths}

-- ---- calls: 1 is never answered, nor 2 of the slots or a count
-- the number that a call answers, by ledger and lengths, with what comes after 5; 0 is yes
unfoldable pub left_with : (ℕ → List Question) → ℕ → Lengths → Ledger → Call → ℕ
left_with within w lengths l (Allocate n) = first_no (allocate_vars_left (within n) l.count lengths.slots n)
left_with within w lengths l (Set p) = first_no (set_var_left l.count l.sets p)
left_with within w lengths l (SetList vars values) = set_vars_left l.count l.sets vars values
left_with within w lengths l (Record input output) =
    first_no (add_permutation_left w lengths.slots l.queries lengths.queries input output)
left_with within w lengths l (Mint input) =
    first_no (allocate_permutation_left (within w) w l.count lengths.slots l.queries lengths.queries input)
left_with within w lengths l (Equate terms image) =
    first_no (add_equation_left l.equations lengths.equations (terms_of terms) image)
left_with within w lengths l (Tickets text) = set_tickets_left l.count l.sets text
left_with within w lengths l (WithdrawQuery i) = first_no (withdraw_left (length l.queries) lengths.queries i)
left_with within w lengths l (WithdrawEquation i) = first_no (withdraw_left (length l.equations) lengths.equations i)

-- of a relation alone
abbrev pub left : ℕ → Lengths → Ledger → Call → ℕ
left = left_with nothing

-- ---- what a call sets
-- the pairs, by the ledger and the arguments alone
unfoldable pub set_by : Ledger → Call → List Pair
set_by l (Allocate n) = []
set_by l (Set p) = pairs_set l.count l.sets (p ∷ [])
set_by l (SetList vars values) = set_vars_set l.count l.sets vars values
set_by l (Record input output) = []
set_by l (Mint input) = []
set_by l (Equate terms image) = []
set_by l (Tickets text) = set_tickets_set l.count l.sets text
set_by l (WithdrawQuery i) = []
set_by l (WithdrawEquation i) = []

-- of the n wires from i on, how many pass the test?
abbrev pub number_of : (ℕ → Bool) → (i n : ℕ) → ℕ
number_of test i zero = 0
number_of test i (suc n) = pick (test i) 1 0 + number_of test (suc i) n

-- of n wires, how many do the pairs name that the sets do not? (document 02's R-5: as many pairs are fresh)
abbrev pub fresh_count : ℕ → (sets ps : List Pair) → ℕ
fresh_count n sets ps = number_of (λ x. has (pair_vars ps) x && not (has (pair_vars sets) x)) 0 n

-- ---- the gate
-- how many wires are public: those that a set names
abbrev pub public_count : Ledger → ℕ
public_count l = number_of (has (pair_vars l.sets)) 0 l.count

-- 13, and then 14 and 15 term by term; 12 is never answered
abbrev pub validated_left : Ledger → List Question
validated_left l =
    question 13 (all_below l.count (flat l.queries)) ∷ termwise_asks l.count (known l) l.equations

-- 2 only of sizes, 11 only of the label, 10, 16, and 13 to 15; 1 is never answered
unfoldable pub compile_left : Lengths → Ledger → (label : List ℕ) → (publics scratch : ℕ) → List Question
compile_left lengths l label publics scratch =
    store_asks lengths.queries ++ (store_asks lengths.equations
    ++ (store_asks publics ++ (store_asks scratch ++ (label_asks (length label)
    ++ (question 11 (is_utf8 label)
    ∷ question 10 (leb (2 * public_count l) publics)
    ∷ question 16 (leb l.count scratch)
    ∷ validated_left l)))))

-- ---- after an accepted gate
-- the bytes of an SFRI: the header's 13 and five counts of 4, the label, and so many publics, queries and words
abbrev pub file_length : (w label publics queries words : ℕ) → ℕ
file_length w label publics queries words = 33 + label + 8 * publics + 8 * (w * queries) + 4 * words

-- of the ledger's parts with a label of n bytes
abbrev pub instance_length : ℕ → Ledger → ℕ → ℕ
instance_length w l n = file_length w n (public_count l) (length l.queries) (length (equations_words l.equations))

-- the bytes of an SFRW: the header's 13, one count of 4, and the steps
abbrev pub trace_length : (w steps : ℕ) → ℕ
trace_length w steps = 17 + 8 * (w * steps)

-- SFRI written: 2 and 11 only of the label, 10
unfoldable pub instance_write_left : ℕ → Ledger → (label : List ℕ) → (out : ℕ) → List Question
instance_write_left w l label out =
    label_asks (length label)
    ++ (question 11 (is_utf8 label) ∷ question 10 (leb (instance_length w l (length label)) out) ∷ [])

-- SFRI read: 2 only of sizes, 10 of each store, 16; none of 20 to 28, 3, 4 and 12 to 15
unfoldable pub instance_read_left : ℕ → Ledger → Rooms → List Question
instance_read_left w l rooms =
    store_asks rooms.publics ++ (store_asks rooms.queries ++ (store_asks rooms.equations ++ (store_asks rooms.scratch
    ++ (question 10 (leb (2 * public_count l) rooms.publics)
    ∷ question 10 (leb (words_of w (length l.queries)) rooms.queries)
    ∷ question 10 (leb (length (equations_words l.equations)) rooms.equations)
    ∷ question 16 (leb l.count rooms.scratch)
    ∷ []))))

-- SFRW written: 2, 11 whether the held units are below p, 10
unfoldable pub witness_write_left : (w steps : ℕ) → List ℕ → (out : ℕ) → List Question
witness_write_left w steps trace out =
    store_asks (length trace)
    ++ (question 2 (leb (words_of w steps) (length trace))
    ∷ question 11 (all_below prime (take (words_of w steps) trace))
    ∷ question 10 (leb (trace_length w steps) out)
    ∷ [])

-- SFRW read: 2 of the store's size, 10
unfoldable pub witness_read_left : (w steps room : ℕ) → List Question
witness_read_left w steps room = store_asks room ++ (question 10 (leb (words_of w steps) room) ∷ [])

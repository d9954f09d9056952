-- What an accepted gate, write and read say, by the questions that ledger and sizes leave open, as far as the
-- calls after them need it: one record each. Assumes nothing.
use Prim.Native.Nat.{ℕ, ◌*◌, ◌≤◌, ◌<◌}
use mathlib.Core.Path.{◌≡◌}
use mathlib.Core.Bool.{true}
use mathlib.Core.List.{List}
use borrow.Author.Tests.{leb-true, ltb-true}
use lib.ListN.{length}
use Rattle.limits.specs.Numbers.{max_count, label_end}
use Rattle.limits.specs.Questions.{first_no}
use Rattle.limits.proofs.Questions.{both, says-yes, accepted-says}
use Rattle.words.specs.Pieces.{words_of}
use Rattle.utf8.specs.Utf8.{is_utf8}
use Rattle.expr.specs.Equation.{equations_words}
use Rattle.decoding.specs.Read.{Rooms}
use Rattle.history.specs.Ledger.{Ledger}
use Rattle.history.specs.Calls.{Lengths}
use Rattle.history.specs.Left.{public_count, validated_left, compile_left, instance_write_left, instance_read_left, witness_write_left, witness_read_left}
use Rattle.history.specs.Whole.{TraceHeld}

-- ---- the gate
pub record CompileLeft (lengths : Lengths) (l : Ledger) (label : List ℕ) (publics : ℕ) : Type 0 where
  pub queries-high : lengths.queries ≤ max_count
  pub equations-high : lengths.equations ≤ max_count
  pub publics-high : publics ≤ max_count
  pub label-high : length label < label_end
  pub label-sound : is_utf8 label ≡ true
  pub room : 2 * public_count l ≤ publics
  pub valid : first_no (validated_left l) ≡ 0

pub compile_left-yes : (lengths : Lengths) (l : Ledger) (label : List ℕ) (publics scratch : ℕ)
    → first_no (compile_left lengths l label publics scratch) ≡ 0 → CompileLeft lengths l label publics
unfolding compile_left
compile_left-yes lengths l label publics scratch e =
    let queries = both _ _ e in
    let equations = both _ _ queries.1 in
    let made = both _ _ equations.1 in
    let seen = both _ _ made.1 in
    let size = both _ _ seen.1 in
    let utf8 = both _ _ size.1 in
    let room = both _ _ utf8.1 in
    let held = both _ _ room.1 in
    record {
      queries-high = leb-true _ _ (says-yes 1 _ queries.0);
      equations-high = leb-true _ _ (says-yes 1 _ equations.0);
      publics-high = leb-true _ _ (says-yes 1 _ made.0);
      label-high = ltb-true _ _ (says-yes 1 _ size.0);
      label-sound = says-yes 10 _ utf8.0;
      room = leb-true _ _ (says-yes 9 _ room.0);
      valid = held.1;
    }

-- ---- SFRI
pub record InstanceWriteLeft (label : List ℕ) : Type 0 where
  pub label-high : length label < label_end
  pub label-sound : is_utf8 label ≡ true

pub instance_write_left-yes : (w : ℕ) (l : Ledger) (label : List ℕ) (out : ℕ) → first_no (instance_write_left w l label out) ≡ 0
    → InstanceWriteLeft label
unfolding instance_write_left
instance_write_left-yes w l label out e =
    let says = accepted-says (instance_write_left w l label out) tt e in
    record { label-high = ltb-true _ _ (says 0); label-sound = says 1 }

pub record InstanceReadLeft (w : ℕ) (l : Ledger) (rooms : Rooms) : Type 0 where
  pub publics-high : rooms.publics ≤ max_count
  pub queries-high : rooms.queries ≤ max_count
  pub equations-high : rooms.equations ≤ max_count
  pub publics-room : 2 * public_count l ≤ rooms.publics
  pub queries-room : words_of w (length l.queries) ≤ rooms.queries
  pub equations-room : length (equations_words l.equations) ≤ rooms.equations

pub instance_read_left-yes : (w : ℕ) (l : Ledger) (rooms : Rooms) → first_no (instance_read_left w l rooms) ≡ 0 → InstanceReadLeft w l rooms
unfolding instance_read_left
instance_read_left-yes w l rooms e =
    let says = accepted-says (instance_read_left w l rooms) tt e in
    record {
      publics-high = leb-true _ _ (says 0);
      queries-high = leb-true _ _ (says 1);
      equations-high = leb-true _ _ (says 2);
      publics-room = leb-true _ _ (says 4);
      queries-room = leb-true _ _ (says 5);
      equations-room = leb-true _ _ (says 6);
    }

-- ---- SFRW
pub witness_write_left-yes : (w steps : ℕ) (trace : List ℕ) (out : ℕ) → first_no (witness_write_left w steps trace out) ≡ 0
    → TraceHeld w steps trace
unfolding witness_write_left
witness_write_left-yes w steps trace out e =
    let says = accepted-says (witness_write_left w steps trace out) tt e in
    record { size = leb-true _ _ (says 0); room = leb-true _ _ (says 1); units = says 2 }

pub record WitnessReadLeft (w steps room : ℕ) : Type 0 where
  pub trace-high : room ≤ max_count
  pub trace-room : words_of w steps ≤ room

pub witness_read_left-yes : (w steps room : ℕ) → first_no (witness_read_left w steps room) ≡ 0 → WitnessReadLeft w steps room
unfolding witness_read_left
witness_read_left-yes w steps room e =
    let says = accepted-says (witness_read_left w steps room) tt e in
    record { trace-high = leb-true _ _ (says 0); trace-room = leb-true _ _ (says 1) }

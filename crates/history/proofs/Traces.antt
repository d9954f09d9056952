-- A trace through its bytes: what the write and the read still ask, and that read equals written.
-- Assumes nothing.
use Prim.Native.Nat.{ℕ, zero, suc, ◌+◌, ◌≤◌, ◌<◌}
use mathlib.Core.Path.{◌≡◌, refl, sym, ap, ◌∙◌, subst}
use mathlib.Core.List.{List, [], ◌∷◌, ◌++◌}
use native.Mathlib.Omega.{arith}
use borrow.Author.Tests.{leb-true}
use lib.Dec.{leb}
use lib.ListN.{length, take, drop}
use lib.Seq.{length-take-le}
use Rattle.limits.specs.Numbers.{prime, max_count, max_width}
use Rattle.limits.specs.Questions.{ask, ◌▸◌, first_no}
use Rattle.limits.specs.Asks.{width_asks, store_asks}
use Rattle.words.specs.Store.{All, all_below}
use Rattle.words.specs.Pieces.{flat, pieces, words_of}
use Rattle.narg.specs.Bytes.{word_end}
use Rattle.narg.specs.Reader.{Got, got}
use Rattle.limits.specs.Outcome.{outcome_of}
use Rattle.instance.proofs.Parts.{flat-held}
use Rattle.validity.specs.Valid.{steps_of}
use Rattle.header.specs.Form.{version}
use Rattle.decoding.specs.Read.{read_witness}
use Rattle.decoding.specs.Sound.{SoundPiece, SoundSteps, got_after}
use Rattle.encoding.specs.Answers.{witness_to_bytes, witness_to_bytes_no}
use Rattle.decoding.specs.Answers.{witness_from_bytes, witness_answer, trace_after}
use Rattle.encoding.proofs.Length.{length-witness_bytes}
use Rattle.decoding.proofs.After.{after-after}
use Rattle.roundtrip.proofs.Reading.{read-witness-written}
use Rattle.history.specs.Left.{trace_length, witness_write_left, witness_read_left}
use Rattle.history.specs.Demand.{Accepted}
use Rattle.history.specs.Whole.{TraceHeld, TraceLent, witness_written, witness_bytes_made, witness_read_back, trace_read_back, Traced}
use Rattle.history.proofs.Outcomes.{past-width, then, after-says, then-last, accepted-no}
use Rattle.history.proofs.Accepted.{witness_write_left-yes, witness_read_left-yes}
use Rattle.history.proofs.Checks.{steps-lengths, is-trace}
use Rattle.history.proofs.Bytes.{written-bytes, padded-held, padded-length, got-yes, witness-outcome}

length-pieces : (k n : ℕ) (l : List ℕ) → length (pieces k n l) ≡ n
length-pieces k zero l = refl
length-pieces k (suc n) l = ap suc (length-pieces k n (drop k l))

sound-pieces : (w : ℕ) (steps : List (List ℕ)) → All (λ s. length s ≡ w + w) steps → All (λ s. All (λ v. v < prime) s) steps
    → All (SoundPiece prime w) steps
sound-pieces w [] a b = tt
sound-pieces w (s ∷ steps) a b = (record { cells = a.0; words = b.0 }, sound-pieces w steps a.1 b.1)

pub few : (n w : ℕ) → words_of w n ≤ max_count → 1 ≤ w → n < word_end
few n zero h k = absurd (let q : ⊥ = omega arith in q)
few n (suc w) h k = omega arith

module _ (w : ℕ) (least : 1 ≤ w) (most : w ≤ max_width) (t : TraceLent) where
  abbrev steps : List (List ℕ)
  steps = steps_of w t.steps t.trace

  abbrev write_no : ℕ
  write_no = witness_to_bytes_no w t.steps t.trace (length t.out)

  count : length steps ≡ t.steps
  count = length-pieces (w + w) t.steps (take (words_of w t.steps) t.trace)

  bytes-length : words_of w t.steps ≤ length t.trace → length (witness_to_bytes w t.steps t.trace) ≡ trace_length w t.steps
  bytes-length h =
      length-witness_bytes version w steps (steps-lengths w t.steps t.trace h)
      ∙ ap (trace_length w) count

  write-left : write_no ≡ first_no (witness_write_left w t.steps t.trace (length t.out))
  unfolding witness_to_bytes_no witness_write_left
  write-left =
      past-width w _ least most
      ∙ then _ _ _ (after-says 1 (leb (words_of w t.steps) (length t.trace)) _ _
      (λ h. then _ _ _ (ap (λ (n : ℕ). ask 10 (leb n (length t.out)) ▸ 0) (bytes-length (leb-true _ _ h)))))

  -- ---- the write accepted
  module _ (z : write_no ≡ 0) where
    trace-held : TraceHeld w t.steps t.trace
    trace-held = witness_write_left-yes w t.steps t.trace (length t.out) (sym write-left ∙ z)

    sound-steps : SoundSteps w steps
    sound-steps =
        let tr = is-trace w t.steps t.trace trace-held in
        let a = trace-held.size in
        let b = trace-held.room in
        record {
          width_fits = omega arith;
          count = rw count (few t.steps w (omega arith) least);
          pieces = sound-pieces w steps tr.lengths tr.units;
        }

    abbrev read_no : ℕ
    read_no = first_no (width_asks w ++ store_asks t.room) ▸ ask 10 (leb (words_of w (length steps)) t.room)

    got-is : witness_from_bytes w (witness_bytes_made w t) t.room ≡ got_after read_no (got steps [])
    unfolding witness_from_bytes
    got-is =
        ap (λ (b : List ℕ). got_after (first_no (width_asks w ++ store_asks t.room)) (read_witness version w t.room b))
        (written-bytes write_no (witness_to_bytes w t.steps t.trace) t.out z)
        ∙ ap (got_after (first_no (width_asks w ++ store_asks t.room))) (read-witness-written version w t.room steps sound-steps)
        ∙ after-after _ _ (got steps [])

    read_left : read_no ≡ first_no (witness_read_left w t.steps t.room)
    unfolding witness_read_left
    read_left =
        ap (λ (k : ℕ). k ▸ ask 10 (leb (words_of w (length steps)) t.room))
        (past-width w _ least most)
        ∙ then-last _ _
        ∙ ap (λ (n : ℕ). ask 2 (leb t.room max_count) ▸ (ask 10 (leb (words_of w n) t.room) ▸ 0)) count

    read-outcome : (witness_read_back w t).outcome ≡ outcome_of read_no
    read-outcome = ap (λ (g : Got (List (List ℕ))). (witness_answer g).outcome) got-is ∙ witness-outcome read_no steps

    -- ---- and the read
    module _ (y : read_no ≡ 0) where
      got-steps : witness_from_bytes w (witness_bytes_made w t) t.room ≡ got steps []
      got-steps = got-is ∙ got-yes read_no (got steps []) y

      pub steps-are : (witness_read_back w t).steps ≡ t.steps
      steps-are = ap (λ (g : Got (List (List ℕ))). (witness_answer g).steps) got-steps ∙ count

      words-length : length (flat steps) ≡ words_of w t.steps
      words-length =
          let n : words_of w t.steps ≤ length t.trace = trace-held.room in
          ap length (flat-held w t.steps t.trace)
          ∙ length-take-le (words_of w t.steps) t.trace n

      pub words_are : take (words_of w t.steps) (trace_read_back w t) ≡ take (words_of w t.steps) t.trace
      words_are =
          ap (λ (g : Got (List (List ℕ))). take (words_of w t.steps) (trace_after t.room g)) got-steps
          ∙ padded-held (words_of w t.steps) t.room (flat steps) words-length
          ∙ flat-held w t.steps t.trace

      -- 2 and 11 let what was read through
      pub read_held : TraceHeld w (witness_read_back w t).steps (trace_read_back w t)
      read_held =
          let r = witness_read_left-yes w t.steps t.room (sym read_left ∙ y) in
          let n : length (trace_read_back w t) ≡ t.room =
          ap (λ (g : Got (List (List ℕ))). length (trace_after t.room g)) got-steps
          ∙ padded-length t.room (flat steps) (rw words-length r.trace-room) in
          subst (λ (k : ℕ). TraceHeld w k (trace_read_back w t)) (sym steps-are)
          (record {
            size = rw n r.trace-high;
            room = rw n r.trace-room;
            units = ap (all_below prime) words_are ∙ trace-held.units;
          })

  written-no : Accepted (witness_written w t).outcome → write_no ≡ 0
  written-no a = accepted-no write_no a

  read-accepted : (a : Accepted (witness_written w t).outcome) → Accepted (witness_read_back w t).outcome → read_no (written-no a) ≡ 0
  read-accepted a b = accepted-no _ (sym (read-outcome (written-no a)) ∙ b)

  pub traced : Traced w t
  unfolding witness_to_bytes_no
  traced = record {
    writes = record { by-questions = refl; by-ledger = ap outcome_of write-left };
    reads = λ a. read-outcome (written-no a) ∙ ap outcome_of (read_left (written-no a));
    same-steps = λ a b. steps-are (written-no a) (read-accepted a b);
    same-words = λ a b. words_are (written-no a) (read-accepted a b);
  }

  pub trace-read : Accepted (witness_written w t).outcome → Accepted (witness_read_back w t).outcome
      → TraceHeld w (witness_read_back w t).steps (trace_read_back w t)
  trace-read a b = read_held (written-no a) (read-accepted a b)

-- Bytes that a call wrote into lent bytes, words that a read leaves in a store, and answers by number.
-- Assumes nothing.
use Prim.Native.Nat.{ℕ, zero, suc, ◌+◌, ◌-◌, ◌≤◌}
use mathlib.Core.Path.{◌≡◌, refl}
use mathlib.Core.List.{List, []}
use native.Mathlib.Omega.{arith}
use lib.ListN.{length, take, drop, replicate, length-append, length-replicate}
use lib.Seq.{take-append_seam, take_at}
use Rattle.limits.proofs.Questions.{on_yes-yes}
use Rattle.narg.specs.Reader.{Got, got, stop}
use Rattle.limits.specs.Outcome.{outcome_of}
use Rattle.decoding.specs.Read.{File}
use Rattle.decoding.specs.Sound.{got_after}
use Rattle.encoding.specs.Answers.{written_of, written_out}
use Rattle.decoding.specs.Answers.{padded, instance_answer, witness_answer}

-- exactly the bytes that were meant
pub written-bytes : (k : ℕ) (bytes out : List ℕ) → k ≡ 0 → take (written_of k bytes).len (written_out k bytes out) ≡ bytes
written-bytes zero bytes out e = take-append_seam bytes (drop (0 + length bytes) out)
written-bytes (suc k) bytes out e = absurd (let z : ⊥ = omega arith in z)

-- the words, and the length of the store
pub padded-held : (n len : ℕ) (words : List ℕ) → length words ≡ n → take n (padded len words) ≡ words
padded-held n len words e = take_at words (replicate (len - length words) 0) n e

pub padded-length : (len : ℕ) (words : List ℕ) → length words ≤ len → length (padded len words) ≡ len
padded-length len words h = simp (length-append, length-replicate) (omega arith)

-- a read that is left with a number
pub got-yes : {A : Type 0} (k : ℕ) (g : Got A) → k ≡ 0 → got_after k g ≡ g
got-yes k g e = on_yes-yes k g (stop k) e

pub instance-outcome : (w k : ℕ) (file : File) → (instance_answer w (got_after k (got file []))).outcome ≡ outcome_of k
instance-outcome w zero file = refl
instance-outcome w (suc k) file = refl

pub witness-outcome : (k : ℕ) (steps : List (List ℕ)) → (witness_answer (got_after k (got steps []))).outcome ≡ outcome_of k
witness-outcome zero steps = refl
witness-outcome (suc k) steps = refl

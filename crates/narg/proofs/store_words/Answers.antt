-- `narg::store_words` meets its contract: after i turns the first i words stand at the place and the rest of the
-- store is as it was (`paste` of lib.Seq).
-- Assumes nothing.
use Prim.Native.Nat.{ℕ, ◌+◌, ◌/◌}
use mathlib.Core.Path.{◌≡◌, sym, ap, ◌∙◌}
use mathlib.Core.List.{List, append_assoc}
use native.Mathlib.Omega.{arith}
use native.Mathlib.Numerals.{add-one}
use lib.ListN.{length, drop, set, get_or, length-drop}
use lib.Seq.{paste, paste-suc, take-length}
use Rattle.std.specs.Simd.{first_chunks}
use Rattle.narg.proofs.Words.{words_of, length-words_of, get_or-words_of-at, times-words_of, length-chunks_held, chunks_held-word, chunks_held-all}
use Rattle.narg.proofs.store_words.Goals as goal

pub bounds-out-place : goal.bounds-out-place
bounds-out-place c =
    let a = c.args in
    let e = c.as_chunks.ensures.front ∙ ap (λ (l : List ℕ). first_chunks 4 (length l / 4) l) c.behind.ensures in
    let h = chunks_held-all a.bytes.now a.at a.n _ e c.requires.0 in
    let count = length-chunks_held a.bytes.now a.at a.n _ h in
    omega arith

pub loop-i-preserved : goal.loop-i-preserved
loop-i-preserved c =
    let l = c.loop-i in
    let a = c.args in
    let ws = words_of a.n (drop a.at a.bytes.now) in
    let n = length-words_of a.n (drop a.at a.bytes.now) in
    let e = c.as_chunks.ensures.front ∙ ap (λ (l : List ℕ). first_chunks 4 (length l / 4) l) c.behind.ensures in
    let h = chunks_held-all a.bytes.now a.at a.n _ e c.requires.0 in
    let count = length-chunks_held a.bytes.now a.at a.n _ h in
    let v = c.from_le_bytes.ensures ∙ chunks_held-word a.bytes.now a.at a.n _ l.i h c.loop-i-test.true ∙ sym (get_or-words_of-at a.bytes.now a.at a.n l.i (omega arith)) in
    ap (λ (x : ℕ). set l.out (a.place + l.i) x) v
    ∙ ap (λ (s : List ℕ). set s (a.place + l.i) (get_or ws l.i 0)) l.invariant
    ∙ rw add-one (paste-suc a.out.now a.place ws l.i 0 (omega arith) (omega arith))

pub returns : goal.returns
returns c =
    let l = c.loop-i in
    let a = c.args in
    let bs = drop a.at a.bytes.now in
    let ws = words_of a.n bs in
    let n = length-words_of a.n bs in
    let m = length-drop a.at a.bytes.now in
    let e = c.as_chunks.ensures.front ∙ ap (λ (l : List ℕ). first_chunks 4 (length l / 4) l) c.behind.ensures in
    let h = chunks_held-all a.bytes.now a.at a.n _ e c.requires.0 in
    let count = length-chunks_held a.bytes.now a.at a.n _ h in
    let d : l.i ≡ length ws = omega arith in
    l.invariant
    ∙ ap (λ (k : ℕ). paste a.out.now a.place ws k) d
    ∙ rw (times-words_of a.n bs (omega arith)) (simp (take-length, append_assoc))

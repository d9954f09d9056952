-- `narg::ask_words` meets its contract: what the words so far say and what those that are left answer come together
-- to the answer of all of them.
-- Assumes nothing.
use mathlib.Core.Path.{◌∙◌}
use native.Mathlib.Omega.{arith}
use Rattle.narg.proofs.Words.{length-chunks_held, chunks_held-word}
use Rattle.narg.proofs.Items.{ask-not, ask-short, ask-done, ask-more}
use Rattle.narg.proofs.ask_words.Goals as goal

pub loop-word-preserved : goal.loop-word-preserved
loop-word-preserved c =
    let l = c.loop-word in
    let a = c.args in
    let h = c.words_held-words.ensures in
    let count = length-chunks_held a.bytes.now a.c.at a.n _ h in
    let word = c.from_le_bytes.ensures ∙ chunks_held-word a.bytes.now a.c.at a.n _ l.word-index h c.loop-word-test.true in
    ask-more a.bytes.now a.c.at a.n a.bound a.k l.word-index l.below l.invariant _ (omega arith) (omega arith) word

pub returns-then-not-below : goal.returns-then-not-below
returns-then-not-below c =
    let l = c.loop-word in
    let a = c.args in
    ask-not a.bytes.now a.c.at a.n a.bound a.k l.word-index l.below l.invariant c.if-not-below.true

pub returns-then-words-wanted : goal.returns-then-words-wanted
returns-then-words-wanted c =
    let l = c.loop-word in
    let a = c.args in
    let count = length-chunks_held a.bytes.now a.c.at a.n _ c.words_held-words.ensures in
    ask-short a.bytes.now a.c.at a.n a.bound a.k l.word-index l.below l.invariant c.if-not-below.false (omega arith) (omega arith)

pub returns : goal.returns
returns c =
    let l = c.loop-word in
    let a = c.args in
    let count = length-chunks_held a.bytes.now a.c.at a.n _ c.words_held-words.ensures in
    ask-done a.bytes.now a.c.at a.n a.bound a.k l.word-index l.below l.invariant c.if-not-below.false (omega arith)

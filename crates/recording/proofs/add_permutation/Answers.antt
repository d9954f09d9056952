-- `add_permutation` meets its contract: the counts answer what is asked last, and two writes, one behind the other, are
-- the query.
-- Assumes nothing.
use Prim.Native.Nat.{ℕ, ◌+◌}
use mathlib.Core.Path.{refl, sym, ap, ◌∙◌}
use Rattle.std.proofs.Common.{rules}
use Rattle.limits.proofs.Answered.{accepted-zero, refused-number, refused-own, store-accepted}
use Rattle.std.specs.Prelude.{Ok}
use Rattle.uses.proofs.Left.{counts-answer, uses-left, stray-left}
use Rattle.permutation.specs.Records.{recorded}
use Rattle.words.specs.Store.{fit_words}
use Rattle.words.specs.Pieces.{words_of}
use Rattle.words.proofs.Held.{halves-put}
use Rattle.permutation.specs.Answers.{relation}
use Rattle.permutation.proofs.Answered.{recorded-accepted}
use Rattle.recording.proofs.Accepted.{add_permutation-yes}
use Rattle.recording.proofs.Tallied.{record-early, record-counted, record-refused}
use Rattle.recording.proofs.add_permutation.Goals as goal

pub returns-in_err-ask_add_permutation : goal.returns-in_err-ask_add_permutation
returns-in_err-ask_add_permutation c =
    let e = c.ask_add_permutation.ensures in
    let was = c.in_err-ask_add_permutation.was in
    let h = refused-own _ _ e was in
    record-refused _ _ _ _ _ _ (search rules) (record-early _ _ _ _ _ _ _ (sym (refused-number _ _ e was)) h) h

pub returns-in_err-stray : goal.returns-in_err-stray
returns-in_err-stray c =
    let n = record-counted _ _ _ _ _ _ (accepted-zero _ _ c.ask_add_permutation.ensures c.in_ok-ask_add_permutation.was) in
    let t = c.count_cells.ensures in
    let room = c.ask_one_more-room.ensures in
    let e = counts-answer _ _ _ _ _ _ _ _ t _ room in
    let was = c.in_err-stray.was in
    let k = sym (refused-number _ _ e was) ∙ n in
    let h = refused-own _ _ e was in
    let r = record-refused c.args.rel.now c.args.slots.now c.args.queries.now c.args.uses.now c.args.input.now c.args.output.now (search rules) k h in
    record { answer = r.answer; queries = r.queries; uses = uses-left _ _ _ _ _ _ _ _ t _ room _ n }

pub returns : goal.returns
returns c =
    let n = record-counted _ _ _ _ _ _ (accepted-zero _ _ c.ask_add_permutation.ensures c.in_ok-ask_add_permutation.was) in
    let t = c.count_cells.ensures in
    let room = c.ask_one_more-room.ensures in
    let was = c.in_ok-stray.was in
    let z = sym n ∙ accepted-zero _ _ (counts-answer _ _ _ _ _ _ _ _ t _ room) was in
    let f = add_permutation-yes _ _ _ _ _ _ z in
    let rel = c.args.rel.now in
    let at = words_of rel.width rel.queries in
    record {
      answer =
          ap (λ (s : ℕ). recorded (Ok tt) (relation rel.width rel.vars (rel.queries + 1) rel.equations rel.words s)) (stray-left _ _ _ _ _ _ _ _ t was)
          ∙ recorded-accepted _ 0 (sym z) _ rel refl;
      queries =
          c.put-2.ensures
          ∙ ap (fit_words (at + rel.width) c.args.output.now) c.put.ensures
          ∙ halves-put rel.width rel.queries c.args.input.now c.args.output.now c.args.queries.now f.inputs f.outputs f.room
          ∙ store-accepted _ 0 (sym z) _ c.args.queries.now refl;
      uses = uses-left _ _ _ _ _ _ _ _ t _ room _ n;
    }

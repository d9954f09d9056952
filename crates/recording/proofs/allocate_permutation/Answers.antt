-- `allocate_permutation` meets its contract: the counts answer what is asked last; then the slots grow, and two writes,
-- one behind the other, are the query.
-- Assumes nothing.
use Prim.Native.Nat.{ℕ, ◌+◌}
use mathlib.Core.Path.{◌≡◌, refl, sym, ap, ◌∙◌}
use mathlib.Core.Bool.{false}
use mathlib.Core.List.{List, ◌++◌}
use borrow.Author.Tests.{le-leb}
use lib.ListN.{length, take}
use Rattle.std.proofs.Common.{rules}
use Rattle.std.specs.Prelude.{Ok}
use Rattle.limits.proofs.Answered.{accepted-zero, refused-number, refused-own, store-accepted}
use Rattle.words.specs.Store.{fit_words}
use Rattle.words.specs.Pieces.{words_of}
use Rattle.words.proofs.Held.{halves-put}
use Rattle.uses.specs.Uses.{CountsCells}
use Rattle.uses.proofs.Left.{counts-answer, uses-left, stray-left, same-cells}
use Rattle.permutation.specs.Answers.{relation}
use Rattle.permutation.specs.Records.{allocated}
use Rattle.permutation.proofs.Answered.{allocated-accepted}
use Rattle.recording.specs.Relation.{up_from, mint_cells}
use Rattle.recording.proofs.Accepted.{mints-yes, allocate_permutation-yes}
use Rattle.recording.proofs.Minted.{up_from-length, up_from-take}
use Rattle.recording.proofs.Tallied.{mint-early, mint-counted, mint-refused}
use Rattle.recording.proofs.allocate_permutation.Goals as goal
use Rattle.recording.proofs.allocate_permutation.Goals.{After-count_cells}

-- of the wires that follow the last one, the first w are the outputs
minted : (w : After-count_cells) → take w.args.rel.now.width w.vars_from-vars.result ≡ (up_from w.args.rel.now.vars w.args.rel.now.width)
minted w =
    ap (take w.args.rel.now.width) w.vars_from-vars.ensures ∙ up_from-take w.args.rel.now.vars w.args.rel.now.width 24
    (mints-yes w.args.rel.now _ _ _ _ (accepted-zero _ _ w.ask_allocate_permutation.ensures w.in_ok-ask_allocate_permutation.was)).width

-- the cells are counted
counted : (w : After-count_cells) →
    CountsCells false (length w.args.slots.now) w.args.uses.now w.args.rel.now.stray (mint_cells w.args.rel.now w.args.input.now) w.ask_one_more-room.result w.count_cells.result
    w.count_cells.new.uses
counted w = same-cells _ _ _ _ _ _ _ _ w.count_cells.ensures _ (ap (λ (l : List ℕ). w.args.input.now ++ l) (minted w))

pub returns-in_err-ask_allocate_permutation : goal.returns-in_err-ask_allocate_permutation
returns-in_err-ask_allocate_permutation c =
    let e = c.ask_allocate_permutation.ensures in
    let was = c.in_err-ask_allocate_permutation.was in
    let h = refused-own _ _ e was in
    mint-refused _ _ _ _ _ (search rules) (mint-early _ _ _ _ _ _ (sym (refused-number _ _ e was)) h) h

pub returns-in_err-stray : goal.returns-in_err-stray
returns-in_err-stray c =
    let n = mint-counted _ _ _ _ _ (accepted-zero _ _ c.ask_allocate_permutation.ensures c.in_ok-ask_allocate_permutation.was) in
    let t = counted (goal.at.returns-in_err-stray c).After-count_cells in
    let room = c.ask_one_more-room.ensures in
    let e = counts-answer _ _ _ _ _ _ _ _ t _ room in
    let was = c.in_err-stray.was in
    let k = sym (refused-number _ _ e was) ∙ n in
    let r = mint-refused c.args.rel.now c.args.slots.now c.args.queries.now c.args.uses.now c.args.input.now (search rules) k (refused-own _ _ e was) in
    record { answer = r.answer; slots = r.slots; queries = r.queries; uses = uses-left _ _ _ _ _ _ _ _ t _ room _ n }

pub returns : goal.returns
returns c =
    let n = mint-counted _ _ _ _ _ (accepted-zero _ _ c.ask_allocate_permutation.ensures c.in_ok-ask_allocate_permutation.was) in
    let w = (goal.at.returns c).After-count_cells in
    let t = counted w in
    let room = c.ask_one_more-room.ensures in
    let was = c.in_ok-stray.was in
    let z = sym n ∙ accepted-zero _ _ (counts-answer _ _ _ _ _ _ _ _ t _ room) was in
    let f = allocate_permutation-yes _ _ _ _ _ z in
    let rel = c.args.rel.now in
    let first = rel.vars in
    let at = words_of rel.width rel.queries in
    record {
      answer =
          ap (λ (s : ℕ). allocated (Ok first) (relation rel.width (first + rel.width) (rel.queries + 1) rel.equations rel.words s)) (stray-left _ _ _ _ _ _ _ _ t was)
          ∙ allocated-accepted _ 0 (sym z) _ rel first refl;
      slots =
          c.grow_slots.ensures
          ∙ (simp (le-leb (first + rel.width) (length c.args.slots.now) f.slot_room))
          ∙ store-accepted _ 0 (sym z) _ c.args.slots.now refl;
      queries =
          c.put-2.ensures
          ∙ ap (fit_words (at + rel.width) (take rel.width c.vars_from-vars.result)) c.put.ensures
          ∙ ap (λ (out : List ℕ). fit_words (at + rel.width) out (fit_words at c.args.input.now c.args.queries.now)) (minted w)
          ∙ halves-put rel.width rel.queries c.args.input.now (up_from rel.vars rel.width) c.args.queries.now f.inputs (up_from-length first rel.width) f.room
          ∙ store-accepted _ 0 (sym z) _ c.args.queries.now refl;
      uses = uses-left _ _ _ _ _ _ _ _ t _ room _ n;
    }

-- `sfri::put_held` meets its contract: header, label, wire count and lists, one after the other.
-- Assumes nothing.
use Prim.Native.Nat.{ℕ, ◌+◌, ◌*◌}
use mathlib.Core.Path.{◌≡◌, ◌∙◌}
use mathlib.Core.List.{List}
use native.Mathlib.Omega.{arith}
use lib.ListN.{length}
use Rattle.header.specs.Form.{header_length}
use Rattle.encoding.proofs.Length.{length-label_bytes, length-list_bytes}
use Rattle.encoding.proofs.Held.{held-put}
use Rattle.encoding.proofs.sfri.put_held.Goals as goal
use Rattle.encoding.proofs.sfri.put_held.Goals.{After-put_label-at, After-put_list-after_publics, After-put_list-after_queries}

-- ---- after label, publics and queries: the place past them, and the output is as long as it was
record Placed (before : List ℕ) (at place : ℕ) (out : List ℕ) : Type 0 where
  past : at ≡ place
  kept : length out ≡ length before

label-placed : (s : After-put_label-at)
    → Placed s.args.out.now s.put_label-at.result (header_length + 4 + length s.args.label.now) s.put_label-at.new.out
label-placed s =
    let l = length-label_bytes s.args.label.now in
    record { past = omega (arith, s.put_label-at.ensures.past); kept = s.put_label-at.auto.out ∙ s.put_header.auto.out }

publics-placed : (s : After-put_list-after_publics)
    → Placed s.args.out.now s.put_list-after_publics.result (s.put_label-at.result + 8 + 4 * length s.args.publics.now) s.put_list-after_publics.new.out
publics-placed s =
    record {
      past = omega (arith, s.put_list-after_publics.ensures.past, length-list_bytes);
      kept = s.put_list-after_publics.auto.out ∙ s.put_u32.auto.out ∙ s.put_label-at.auto.out ∙ s.put_header.auto.out;
    }

queries-placed : (s : After-put_list-after_queries)
    → Placed s.args.out.now s.put_list-after_queries.result (s.put_list-after_publics.result + 4 + 4 * length s.args.queries.now) s.put_list-after_queries.new.out
queries-placed s =
    let a = s.args in
    let l = length-list_bytes a.ins.queries a.queries.now in
    record {
      past = omega (arith, s.put_list-after_queries.ensures.past);
      kept = s.put_list-after_queries.auto.out ∙ s.put_list-after_publics.auto.out ∙ s.put_u32.auto.out ∙ s.put_label-at.auto.out ∙ s.put_header.auto.out;
    }

pub put_list-after_publics-requires : goal.put_list-after_publics-requires
put_list-after_publics-requires c =
    let l = label-placed (goal.at.put_list-after_publics-requires c).After-put_label-at in
    omega (arith, c.put_u32.auto.out, c.requires.room)

pub put_list-after_queries-requires : goal.put_list-after_queries-requires
put_list-after_queries-requires c =
    let p = publics-placed (goal.at.put_list-after_queries-requires c).After-put_list-after_publics in
    let l = label-placed (goal.at.put_list-after_queries-requires c).After-put_label-at in
    omega (arith, c.requires.room)

pub put_list-requires : goal.put_list-requires
put_list-requires c =
    let q = queries-placed (goal.at.put_list-requires c).After-put_list-after_queries in
    let p = publics-placed (goal.at.put_list-requires c).After-put_list-after_publics in
    let l = label-placed (goal.at.put_list-requires c).After-put_label-at in
    omega (arith, c.requires.room)

pub returns : goal.returns
returns c =
    let a = c.args in
    held-put a.ins a.label.now a.publics.now a.queries.now a.equations.now a.out.now c.requires
    c.put_header.ensures c.put_label-at.ensures c.put_u32.ensures.1 c.put_list-after_publics.ensures c.put_list-after_queries.ensures
    c.put_list.ensures

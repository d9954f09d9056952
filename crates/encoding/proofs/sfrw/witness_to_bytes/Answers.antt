-- `sfrw::witness_to_bytes` meets its contract: header, and count and held words behind it.
-- Assumes nothing.
use Prim.Native.Nat.{◌+◌, ◌*◌, ◌≤◌}
use mathlib.Core.Path.{refl, sym}
use native.Mathlib.Omega.{arith}
use lib.ListN.{length}
use Rattle.limits.proofs.Answered.{accepted-zero}
use Rattle.header.specs.Form.{letter_w, version, header_bytes}
use Rattle.encoding.specs.Form.{witness_fixed}
use Rattle.encoding.specs.Answers.{witness_to_bytes}
use Rattle.encoding.specs.Put.{list_bytes}
use Rattle.encoding.proofs.Length.{length-header}
use Rattle.encoding.proofs.Stored.{put_then, written-accepted}
use Rattle.encoding.proofs.Steps.{witness_to_bytes-yes, witness_to_bytes-held}
use Rattle.encoding.proofs.sfrw.witness_to_bytes.Goals as goal
use Rattle.encoding.proofs.sfrw.witness_to_bytes.Goals.{After-held_pieces-held}

-- every question says yes: the output holds the bytes
fits : (p : After-held_pieces-held) → witness_fixed + 4 * length p.held_pieces-held.result.now ≤ length p.args.out.now
fits p =
    let a = p.args in
    rw p.held_pieces-held.ensures
    (witness_to_bytes-yes a.width a.steps a.trace.now (length a.out.now) (accepted-zero _ _ p.ask_witness_to_bytes.ensures p.in_ok-ask_witness_to_bytes.was))

pub put_header-requires : goal.put_header-requires
put_header-requires c = omega (arith, fits (goal.at.put_header-requires c).After-held_pieces-held)

pub put_list-requires : goal.put_list-requires
put_list-requires c = omega (arith, fits (goal.at.put_list-requires c).After-held_pieces-held)

pub returns : goal.returns
returns c =
    let a = c.args in
    let w = length-header letter_w version a.width in
    written-accepted (witness_to_bytes a.width a.steps a.trace.now) a.out.now 0 _ (sym (accepted-zero _ _ c.ask_witness_to_bytes.ensures c.in_ok-ask_witness_to_bytes.was)) refl _ _
    (rw (witness_to_bytes-held a.width a.steps a.trace.now, ← c.held_pieces-held.ensures)
    (put_then 0 (header_bytes letter_w version a.width) (list_bytes a.steps c.held_pieces-held.result.now) a.out.now
    (record { past = omega arith; out = c.put_header.ensures }) c.put_list.ensures (omega (arith, fits (goal.at.returns c).After-held_pieces-held))))

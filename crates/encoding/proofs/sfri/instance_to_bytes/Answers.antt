-- `sfri::instance_to_bytes` meets its contract: the bytes of the parts are those of the held words.
-- Assumes nothing.
use mathlib.Core.Path.{refl, sym}
use lib.ListN.{length}
use Rattle.limits.proofs.Answered.{accepted-zero}
use Rattle.encoding.specs.Answers.{instance_to_bytes}
use Rattle.encoding.proofs.Stored.{written-accepted}
use Rattle.encoding.proofs.Held.{Fits, instance_to_bytes-yes, instance_to_bytes-held}
use Rattle.encoding.proofs.sfri.instance_to_bytes.Goals as goal
use Rattle.encoding.proofs.sfri.instance_to_bytes.Goals.{In_ok-ask_instance_to_bytes}

-- every question says yes: the output holds the bytes
fits : (e : In_ok-ask_instance_to_bytes) → let a = e.args in
    Fits a.ins a.label.now a.publics.now a.queries.now a.equations.now (length a.out.now)
fits e =
    let a = e.args in
    instance_to_bytes-yes a.ins a.label.now a.publics.now a.queries.now a.equations.now (length a.out.now)
    (accepted-zero _ _ e.ask_instance_to_bytes.ensures e.in_ok-ask_instance_to_bytes.was)

pub put_held-requires : goal.put_held-requires
put_held-requires c =
    let f = fits (goal.at.put_held-requires c).In_ok-ask_instance_to_bytes in
    record {
      room = rw (c.held_words-pairs.ensures, c.held_pieces-pieces.ensures, c.held_words-words.ensures) f.room-held;
      short = f.sound.label-high;
    }

pub returns : goal.returns
returns c =
    let a = c.args in
    written-accepted (instance_to_bytes a.ins a.label.now a.publics.now a.queries.now a.equations.now) a.out.now 0 _
    (sym (accepted-zero _ _ c.ask_instance_to_bytes.ensures c.in_ok-ask_instance_to_bytes.was)) refl _ _
    (rw (
      instance_to_bytes-held a.ins a.label.now a.publics.now a.queries.now a.equations.now (fits (goal.at.returns c).In_ok-ask_instance_to_bytes).sound,
      ← c.held_words-pairs.ensures,
      ← c.held_pieces-pieces.ensures,
      ← c.held_words-words.ensures,
    )
    c.put_held.ensures)

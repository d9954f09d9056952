-- `utf8::scan_utf8` meets its contract: the bytes before its place fit, and the one there doesn't or there is none. Assumes
-- nothing.
use mathlib.Core.Path.{refl}
use Rattle.utf8.proofs.Scan.{each-join, ascii-fit, scan-done, scan-ascii, scan-told}
use Rattle.utf8.proofs.scan_utf8.Goals as goal

pub returns-then-above-bytes : goal.returns-then-above-bytes
returns-then-above-bytes c = scan-told _ _ (scan-ascii _ _ c.if-above-bytes.true c.first_above-above.ensures.1)

pub returns : goal.returns
returns c =
    let s = c.args.bytes.now in
    let above = c.first_above-above.ensures in
    let far = c.far_end.ensures in
    let end = c.singles_end-place.ensures in
    let fit = each-join _ _ _ _ (ascii-fit s 0 _ refl above.1) (each-join _ _ _ _ far.2 end.2) in
    scan-told _ _ (rw c.whole_at.ensures (scan-done s _ end.1 fit end.3))

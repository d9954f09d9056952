-- `utf8::is_utf8` meets its contract: it is what the scan says of it. Assumes nothing.
use mathlib.Core.Path.{ap}
use Rattle.utf8.specs.declared.Utf8Scan.{Utf8Scan}
use Rattle.utf8.proofs.is_utf8.Goals as goal

pub returns : goal.returns
returns c =
    let scan = c.scan_utf8.ensures in
    (ap (λ (r : Utf8Scan). r.passes) scan.0, scan.2)

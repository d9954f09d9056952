-- Magic and version by the parts that hold them, of whatever bytes these are the parts: the contract of `ask_magic` cites
-- this, and nothing else does. Assumes nothing.
use Rattle.std.specs.Prelude.{ℕ, ◌≡◌, List, drop, Ok, Err}
use Rattle.limits.specs.Outcome.{Outcome}
use Rattle.narg.specs.Reader.{got, stop, Reader}
use Rattle.reader.specs.At.{part_at}
use Rattle.header.specs.Form.{version_at, width_at}
use Rattle.header.specs.Read.{read_magic}

-- an answer to questions as a reader: nothing is read
abbrev pub answered : Outcome → Reader (Unit {0})
answered (Ok u) bytes = got u bytes
answered (Err e) bytes = stop e.0

-- magic and version: their answer, and where it is yes they end at the width
abbrev pub ToldMagic : (last version : ℕ) (magic mark : List ℕ) → Outcome → Type 0
ToldMagic last version magic mark r =
    (s : List ℕ) → magic ≡ part_at s 0 version_at → mark ≡ part_at s version_at 1 → read_magic last version s ≡ answered r (drop width_at s)

-- What the reader of a header answers. Assumes nothing.
use Rattle.std.specs.Prelude.{Result, Ok, Err}
use Rattle.limits.specs.Outcome.{refusal}
use Rattle.limits.specs.declared.Refused.{Refused}
use Rattle.narg.specs.Reader.{Got, got, stop}
use Rattle.narg.specs.Cursor.{cursor}
use Rattle.header.specs.Form.{header_length}
use Rattle.header.specs.declared.Field.{Field}

-- a header that was read has no numbers to tell, and ends where its bytes end
abbrev pub header_field : Got (Unit {0}) → Result Field Refused
header_field (got u rest) = Ok (record { value = 0; extra = 0; next = cursor header_length })
header_field (stop k) = Err (refusal k)

-- What C gets of each answer to sets (document 02's R-5), worked. Assumes nothing.
use mathlib.Core.Bool.{true, false}
use mathlib.Core.Path.{◌≡◌, refl}
use Rattle.limits.specs.Outcome.{refusal}
use Rattle.std.specs.Prelude.{Err, Ok}
use Rattle.allocator.specs.declared.Set.TheVariants as set_is
use Rattle.sfr.specs.Relation.{set_answer, tally_of, ticket_tally_of}

pub record Examples : Type 0 where
  pub fresh : set_answer (Ok set_is.Fresh) ≡ record { number = 0; fresh = true }
  pub repeated : set_answer (Ok set_is.Repeated) ≡ record { number = 0; fresh = false }
  pub refused : set_answer (Err (refusal 8)) ≡ record { number = 8; fresh = false }
  pub list : tally_of (record { outcome = Err (refusal 8); accepted = 2; fresh = 1 }) ≡ record { number = 8; accepted = 2; fresh = 1 }
  pub tickets : ticket_tally_of (record { outcome = Err (refusal 40); accepted = 3; fresh = 1 }) ≡ record { number = 40; accepted = 3; fresh = 1 }

pub examples : Examples
examples = record { fresh = refl; repeated = refl; refused = refl; list = refl; tickets = refl }

-- The gate of relation r of an allocator: 1, 2, 42, and then that of a relation alone that has the shared wire count for
-- its own, which judges on everybody's sets and on its own queries and equations. Assumes nothing.
use Rattle.std.specs.Prelude.{ℕ, ◌≡◌, List, replicate}
use Rattle.limits.specs.Questions.{first_no, on_yes}
use Rattle.compile.specs.Gate.{GateLent, compile_front, refused_by, compile, compile_publics}
use Rattle.compile.specs.Records.{Compiled}
use Rattle.permutation.specs.Sharing.{Sharing}

-- `h` is what sharing puts in, `l` what the gate is lent, with the relation on its allocator
module _ (h : Sharing) (l : GateLent) where
  -- the number of the front
  unfoldable pub compile_on_no : ℕ
  compile_on_no = first_no (compile_front h l)

  -- the answer
  unfoldable pub compile_on : Compiled
  compile_on = on_yes compile_on_no (compile l) (refused_by compile_on_no)

  -- publics: all 0 where the gate refuses
  unfoldable pub compile_publics_on : List ℕ
  compile_publics_on = on_yes compile_on_no (compile_publics l) (replicate l.publics 0)

-- what a call of that gate ensures whose answer has the form `told`: the answer, and publics and scratch as it leaves them
pub record CompilesOn {A : Type 0} (told : Compiled → A) (h : Sharing) (l : GateLent) (r : A) (publics_left scratch_left : List ℕ) : Type 0 where
  pub answer : r ≡ told (compile_on h l)
  pub publics : publics_left ≡ compile_publics_on h l
  pub scratch : scratch_left ≡ replicate l.scratch 0

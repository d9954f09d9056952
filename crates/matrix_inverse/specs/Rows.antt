-- Rows of units as equations: row r says that v is the sum over j of r[j] times u[j]. Assumes nothing.
use Rattle.std.specs.Prelude.{ℕ, List, map, get_or, set}
use Rattle.baby_bear.specs.Field.{add_unit, mul_unit}
use Rattle.permute.specs.Permute.{pairwise}
use Rattle.powers.specs.Powers.{invert_unit}

-- minus a unit: p - 1 times it
abbrev pub neg_unit : ℕ → ℕ
neg_unit a = mul_unit 2013265920 a

-- row r, and f times row s added to it, place by place
abbrev pub add_row : ℕ → List ℕ → List ℕ → List ℕ
add_row f s r = pairwise (λ a b. add_unit a (mul_unit f b)) s r

-- the row solved for u[c]: u[c] is the sum over j of these words times u[j], with v in the place of u[c]. So each word
-- is divided by minus word c, and at c stands what word c has the product 1 with.
unfoldable pub solve_row : ℕ → List ℕ → List ℕ
solve_row c r = set (map (mul_unit (neg_unit (invert_unit (get_or r c 0)))) r) c (invert_unit (get_or r c 0))

-- the solution s put for u[c] into row r
unfoldable pub substitute : ℕ → List ℕ → List ℕ → List ℕ
substitute c s r = add_row (get_or r c 0) s (set r c 0)

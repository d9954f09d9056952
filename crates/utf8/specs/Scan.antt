-- What the scan of src/lib.rt asks of a byte: whether it is bad, where those before it are not, is told by it and the
-- three bytes before it, since no character has more than four. The contracts of the scan's helpers cite this, and
-- nothing else does. Assumes nothing.
use Rattle.std.specs.Prelude.{ℕ, ◌-◌, ◌≤◌, ◌<◌, ◌≡◌, Bool, true, ◌&&◌, ◌||◌, List, eqb, ltb, leb, get_or}
use Rattle.limits.specs.Questions.{pick}

-- after the bytes a, b and c no byte is due
abbrev pub whole : ℕ → ℕ → ℕ → Bool
whole a b c = (ltb a 0xF0 && ltb b 0xE0) && ltb c 0xC2

-- the least and the greatest byte that may follow c, where one is due
abbrev pub tail_low : ℕ → ℕ
tail_low c = pick (eqb c 0xE0) 0xA0 (pick (eqb c 0xF0) 0x90 0x80)

abbrev pub tail_high : ℕ → ℕ
tail_high c = pick (eqb c 0xED) 0x9F (pick (eqb c 0xF4) 0x8F 0xBF)

-- does the byte d fit after a, b and c?
abbrev pub fits : ℕ → ℕ → ℕ → ℕ → Bool
fits a b c d = pick (whole a b c) (ltb d 0x80 || (leb 0xC2 d && leb d 0xF4)) (leb (tail_low c) d && leb d (tail_high c))

-- the byte k places before i; 0 where there is none
abbrev pub byte_before : List ℕ → ℕ → ℕ → ℕ
byte_before s i k = pick (ltb i k) 0 (get_or s (i - k) 0)

-- before i no byte is due
abbrev pub whole_at : List ℕ → ℕ → Bool
whole_at s i = whole (byte_before s i 3) (byte_before s i 2) (byte_before s i 1)

-- does the byte at i fit after those before it?
abbrev pub fits_at : List ℕ → ℕ → Bool
fits_at s i = fits (byte_before s i 3) (byte_before s i 2) (byte_before s i 1) (get_or s i 0)

-- P from i on and before j
abbrev pub Each : (ℕ → Type 0) → ℕ → ℕ → Type 0
Each P i j = (k : ℕ) → i ≤ k → k < j → P k

-- the bytes from i on and before j fit
abbrev pub Fit : List ℕ → ℕ → ℕ → Type 0
Fit s = Each (λ k. fits_at s k ≡ true)

-- they are below 80
abbrev pub Ascii : List ℕ → ℕ → ℕ → Type 0
Ascii s = Each (λ k. get_or s k 0 < 0x80)

-- A matrix in three parts: the rows before row c, row c, and those behind it. Row c is put there solved, and then the
-- other two parts, each turned row by row. Assumes nothing.
use Prim.Native.Nat.{ℕ, suc, ◌+◌, ◌-◌, ◌*◌, ◌≤◌, ◌<◌}
use mathlib.Core.Path.{◌≡◌, sym, ap, ◌∙◌}
use mathlib.Core.List.{List, [], ◌∷◌, ◌++◌, map, map-append, append-nil, append_assoc}
use native.Mathlib.Omega.{arith}
use lib.ListN.{length, get_or, take, drop, length-append, length-drop, length-map, take-append-drop, drop_of_length-le}
use lib.Seq.{take_at, drop_at, take_all, set_at, get_or_at, length-take-le}
use Rattle.limits.specs.Numbers.{max_width}
use Rattle.words.specs.Store.{fit_words}
use Rattle.permute.specs.Parameters.{rows_of}
use Rattle.permute.proofs.Keeps.{rows_of-length}
use Rattle.permute.proofs.Trace.{lent-piece, lent_length}
use Rattle.matrix_inverse.specs.Rows.{solve_row, substitute}
use Rattle.matrix_inverse.specs.Inverse.{exchange}
use Rattle.matrix_inverse.proofs.Places.{rows_of-append, row_room, held-lent}

-- ---- rows in three parts
-- the words of c rows, of one row and of others have these rows one after the other
three-rows : (w c k : ℕ) (a r b : List ℕ) → length a ≡ c * w → length r ≡ w
    → rows_of w (c + suc k) (a ++ (r ++ b)) ≡ rows_of w c a ++ (r ∷ rows_of w k b)
unfolding rows_of
three-rows w c k a r b ha hr = rw (rows_of-append w c (suc k) a (r ++ b) ha, take_at r b w hr, drop_at r b w hr)

-- the rows exchanged, in three parts
exchange-parts : (c : ℕ) (p q : List (List ℕ)) (r s : List ℕ) → length p ≡ c → s ≡ solve_row c r
    → exchange c (p ++ (r ∷ q)) ≡ map (substitute c s) p ++ (s ∷ map (substitute c s) q)
unfolding exchange
exchange-parts c p q r s l e =
    let g : get_or (p ++ (r ∷ q)) c [] ≡ r = get_or_at p r q [] c l in
    let k : length (map (substitute c s) p) ≡ c = length-map p (substitute c s) ∙ l in
    rw (g, ← e, map-append (substitute c s) p (r ∷ q)) (set_at (map (substitute c s) p) (substitute c s r) (map (substitute c s) q) s c k)

-- ---- words in three parts, the first of n and the second of w words
module _ (n w : ℕ) (a r b : List ℕ) (ha : length a ≡ n) (hr : length r ≡ w) where
  -- the first part as it is lent
  mid-front : take (n - 0) (a ++ (r ++ b)) ≡ a
  mid-front = let z : n - 0 ≡ n = omega arith in rw z (take_at a (r ++ b) n ha)

  -- what lies behind it
  mid_back : drop (n - 0) (a ++ (r ++ b)) ≡ r ++ b
  mid_back = let z : n - 0 ≡ n = omega arith in rw z (drop_at a (r ++ b) n ha)

  -- the second
  mid_row : take (n + w - n) (drop n (a ++ (r ++ b))) ≡ r
  mid_row =
      lent-piece (a ++ (r ++ b)) n w ∙ ap (λ (t : List ℕ). take w t) (drop_at a (r ++ b) n ha) ∙ take_at r b w hr

  -- both together
  both-length : length (a ++ r) ≡ n + w
  both-length = length-append a r ∙ omega arith

  mid-both : take (n + w) (a ++ (r ++ b)) ≡ a ++ r
  mid-both = ap (λ (t : List ℕ). take (n + w) t) (sym (append_assoc a r b)) ∙ take_at (a ++ r) b (n + w) both-length

  -- what lies behind both
  mid-end : drop (n + w) (a ++ (r ++ b)) ≡ b
  mid-end = ap (λ (t : List ℕ). drop (n + w) t) (sym (append_assoc a r b)) ∙ drop_at (a ++ r) b (n + w) both-length

  -- all words
  mid-length : length (a ++ (r ++ b)) ≡ n + w + length b
  mid-length = simp length-append (omega arith)

  -- the third as it is lent
  mid-last : take (length (a ++ (r ++ b)) - (n + w)) (drop (n + w) (a ++ (r ++ b))) ≡ b
  mid-last =
      let z : length b ≤ length (a ++ (r ++ b)) - (n + w) = omega (arith, mid-length) in rw mid-end (take_all _ b z)

  -- and nothing behind that
  mid_none : drop (length (a ++ (r ++ b)) - (n + w)) (drop (n + w) (a ++ (r ++ b))) ≡ []
  mid_none =
      let z : length b ≤ length (a ++ (r ++ b)) - (n + w) = omega (arith, mid-length) in rw mid-end (drop_of_length-le b z)

-- ---- the words of the matrix
module _ (w c : ℕ) (words : List ℕ) (h : c < w) (l : length words ≡ w * w) where
  -- those before row c
  abbrev front : List ℕ
  front = take (c * w) words

  -- those behind it
  abbrev behind : List ℕ
  behind = drop (c * w + w - c * w) (drop (c * w) words)

  -- these are c rows
  front_length : length front ≡ c * w
  front_length = length-take-le (c * w) words (omega (arith, row_room w w c words h l))

  -- and these w - c - 1
  behind-length : length behind ≡ (w - c - 1) * w
  behind-length =
      let z : c * w + w - c * w ≡ w = omega arith in
      let v : (w - c - 1 + suc c) * w ≡ w * w = ap (λ (t : ℕ). t * w) (omega arith) in
      rw z (simp length-drop (omega (arith, v)))

  -- row c as it is lent
  abbrev row : List ℕ
  row = take (c * w + w - c * w) (drop (c * w) words)

  -- it has w words
  row-long : length row ≡ w
  row-long = lent_length words (c * w) w (row_room w w c words h l)

  -- the three are the words
  whole : words ≡ front ++ (row ++ behind)
  whole =
      sym (ap (λ (t : List ℕ). front ++ t) (take-append-drop (c * w + w - c * w) (drop (c * w) words)) ∙ take-append-drop (c * w) words)

  -- the rows before row c, row c and those behind it are all rows
  count : w ≡ c + suc (w - c - 1)
  count = omega arith

  -- as many rows in three parts
  parted : (a r b : List ℕ) → length a ≡ c * w → length r ≡ w → rows_of w w (a ++ (r ++ b)) ≡ rows_of w c a ++ (r ∷ rows_of w (w - c - 1) b)
  parted a r b ha hr =
      ap (λ (n : ℕ). rows_of w n (a ++ (r ++ b))) count ∙ three-rows w c (w - c - 1) a r b ha hr

  -- ---- row c put there
  module _ (r : List ℕ) (k : length r ≡ length row) where
    -- the words then
    abbrev one : List ℕ
    one = front ++ (r ++ behind)

    -- what is put there has w words
    r-long : length r ≡ w
    r-long = k ∙ row-long

    -- the words before it as they are lent
    one-front : take (c * w - 0) one ≡ front
    one-front = mid-front (c * w) w front r behind front_length r-long

    -- copied into room for it, and lent from there
    pub one-held : (room held : List ℕ) → w ≤ length room → held ≡ fit_words 0 (take (c * w + w - c * w) (drop (c * w) one)) room
        → take (w - 0) held ≡ r
    one-held room held j e =
        rw (e, mid_row (c * w) w front r behind front_length r-long) (held-lent r room w r-long j)

    -- ---- the rows before it put there
    module _ (x : List ℕ) (j : length x ≡ length (take (c * w - 0) one)) where
      -- the words then
      abbrev two : List ℕ
      two = x ++ drop (c * w - 0) one

      -- what is put there are c rows
      x-long : length x ≡ c * w
      x-long = j ∙ ap length one-front ∙ front_length

      -- the words in three parts
      two_is : two ≡ x ++ (r ++ behind)
      two_is = ap (λ (t : List ℕ). x ++ t) (mid_back (c * w) w front r behind front_length r-long)

      -- the words behind it as they are lent
      two-last : take (length two - (c * w + w)) (drop (c * w + w) two) ≡ behind
      two-last = rw two_is (mid-last (c * w) w x r behind x-long r-long)

      -- what is asked of the rows behind it
      pub two-asked : (s : List ℕ) → s ≡ r → w ≤ max_width
          → (c < length s) × (length s ≤ max_width) × (w - c - 1 ≤ max_width)
          × (length (take (length two - (c * w + w)) (drop (c * w + w) two)) ≡ (w - c - 1) * length s)
      two-asked s e m =
          let z : length s ≡ w = ap length e ∙ r-long in
          (omega arith, omega arith, omega arith, ap length two-last ∙ behind-length ∙ ap (λ (n : ℕ). (w - c - 1) * n) (sym z))

      -- ---- the rows behind it put there
      module _ (y : List ℕ) where
        -- the words then
        abbrev three : List ℕ
        three = take (c * w + w) two ++ (y ++ drop (length two - (c * w + w)) (drop (c * w + w) two))

        -- in three parts
        three-is : three ≡ x ++ (r ++ y)
        three-is =
            rw (two_is, mid-both (c * w) w x r behind x-long r-long, mid_none (c * w) w x r behind x-long r-long, append-nil y, append_assoc x r y)

        -- where row c is solved, and the solution put into the others, u[c] and v[c] are exchanged
        pub exchanged : (s : List ℕ) → s ≡ r → r ≡ solve_row c row
            → rows_of (length s) c x ≡ map (substitute c s) (rows_of (length s) c (take (c * w - 0) one))
            → rows_of (length s) (w - c - 1) y
            ≡ map (substitute c s) (rows_of (length s) (w - c - 1) (take (length two - (c * w + w)) (drop (c * w + w) two)))
            → rows_of w w three ≡ exchange c (rows_of w w words)
        exchanged s e er ex ey =
            let m = w - c - 1 in
            let ex' : rows_of w c x ≡ map (substitute c r) (rows_of w c front) = rw (e, r-long, one-front) at ex in
            let ey' : rows_of w m y ≡ map (substitute c r) (rows_of w m behind) = rw (e, r-long, two-last) at ey in
            let p : rows_of w w three ≡ map (substitute c r) (rows_of w c front) ++ (r ∷ map (substitute c r) (rows_of w m behind))
            = ap (λ (t : List ℕ). rows_of w w t) three-is ∙ parted x r y x-long r-long ∙ rw (ex', ey') in
            let q : rows_of w w words ≡ rows_of w c front ++ (row ∷ rows_of w m behind)
            = ap (λ (t : List ℕ). rows_of w w t) whole ∙ parted front row behind front_length row-long in
            p ∙ sym (exchange-parts c (rows_of w c front) (rows_of w m behind) row r (rows_of-length w c front) er) ∙ ap (exchange c) (sym q)

-- What a rule does to a read: it accepts exactly the plain read's files that keep the rule, and gives the same; on bytes
-- that keep it every answer is the plain read's; on others it answers the rule's number, after 1 and 2. Said of any
-- rule, then of the strict read's. Assumes nothing.
use Prim.Native.Nat.{ℕ, suc}
use mathlib.Core.Path.{◌≡◌, refl, sym, ap, ◌∙◌}
use mathlib.Core.Bool.{Bool, true, false}
use mathlib.Core.Logic.{◌↔◌}
use mathlib.Core.List.{List, []}
use Rattle.limits.specs.Questions.{ask, ◌▸◌, first_no}
use Rattle.limits.proofs.Questions.{▸-zero, ask-yes, ask-no, says-yes}
use Rattle.narg.specs.Reader.{Got, got, stop, Reader, ◌>>◌, give}
use Rattle.instance.specs.Parts.{Parts}
use Rattle.validated.specs.Validated.{gate_no}
use Rattle.zero_wire.specs.Zero.{has_zero_wire}
use Rattle.header.specs.Form.{version}
use Rattle.header.proofs.Got.{took}
use Rattle.encoding.specs.Form.{instance_bytes}
use Rattle.items.specs.Answers.{got_after}
use Rattle.decoding.specs.Read.{Rooms, Rule, plain_rule, strict_rule, gated, ended, File, file, read_file, read_instance}
use Rattle.decoding.specs.Sound.{SoundFile}
use Rattle.decoding.specs.Answers.{read_asks, instance_from_bytes}
use Rattle.decoding.proofs.After.{number-after, number-got, after-some, ended-got}
use Rattle.roundtrip.proofs.Reading.{file_asks, file-law}

-- ---- a read with a rule, beside the plain read
module _ (rule : Rule) (width : ℕ) (bytes : List ℕ) (m : Rooms) where
  -- header, label and parts, with the publics in order: what the rule, the gate and the end are put to
  abbrev pub file_there : Got File
  file_there = read_file version width m bytes

  -- bytes that keep the rule
  abbrev pub Keeps : Type 0
  Keeps = (f : File) (rest : List ℕ) → file_there ≡ got f rest → first_no (rule f.parts) ≡ 0

  -- gate and end
  abbrev ends : File → Reader File
  ends f = gated m.scratch f.parts >> ended >> give f

  -- both reads after 1 and 2
  abbrev ruled-read : Got File
  ruled-read = read_instance rule version width m bytes

  abbrev plain-read : Got File
  plain-read = read_instance plain_rule version width m bytes

  -- of a file that was got, and of none
  ruled-is : (f : File) (rest : List ℕ) → file_there ≡ got f rest → ruled-read ≡ got_after (first_no (rule f.parts)) (ends f rest)
  unfolding read_instance
  ruled-is f rest e = rw e (number-after (first_no (rule f.parts)) rest (ends f))

  plain-is : (f : File) (rest : List ℕ) → file_there ≡ got f rest → plain-read ≡ ends f rest
  unfolding read_instance
  plain-is f rest e = rw e

  both-stop : (k : ℕ) → file_there ≡ stop k → ruled-read ≡ plain-read
  unfolding read_instance
  both-stop k e = rw e

  same_read : Keeps → ruled-read ≡ plain-read
  same_read k = go file_there refl
    where
      go : (g : Got File) → file_there ≡ g → ruled-read ≡ plain-read
      go (got f rest) e = ruled-is f rest e ∙ ap (λ (n : ℕ). got_after n (ends f rest)) (k f rest e) ∙ sym (plain-is f rest e)
      go (stop j) e = both-stop j e

  -- every answer is the plain read's
  pub kept_same : Keeps → instance_from_bytes rule width bytes m ≡ instance_from_bytes plain_rule width bytes m
  unfolding instance_from_bytes
  kept_same k = ap (got_after (first_no (read_asks width m))) (same_read k)

  -- ---- what it accepts
  -- what gate and end give is the file that they were put to
  ends-give : (f g : File) (r s : List ℕ) → ends f r ≡ got g s → f ≡ g
  ends-give f g r s e = (ended-got r f g s (number-got (gate_no f.parts m.scratch) r (ended >> give f) g s e)).1

  ruled-got : (f : File) (rest : List ℕ) → ruled-read ≡ got f rest → (plain-read ≡ got f rest) × (first_no (rule f.parts) ≡ 0)
  unfolding read_instance
  ruled-got f rest e =
      took file_there _ f rest e (λ x r ex n.
      let p = after-some (first_no (rule x.parts)) (ends x r) f rest (sym (ruled-is x r ex) ∙ e) in
      let same : x ≡ f = ends-give x f r rest p.1 in
      (plain-is x r ex ∙ p.1, ap (λ (y : File). first_no (rule y.parts)) (sym same) ∙ p.0))

  plain-got : (f : File) (rest : List ℕ) → plain-read ≡ got f rest → first_no (rule f.parts) ≡ 0 → ruled-read ≡ got f rest
  unfolding read_instance
  plain-got f rest e z =
      took file_there _ f rest e (λ x r ex n.
      let given = sym (plain-is x r ex) ∙ e in
      let y = ap (λ (v : File). first_no (rule v.parts)) (ends-give x f r rest given) ∙ z in
      ruled-is x r ex ∙ ap (λ (k : ℕ). got_after k (ends x r)) y ∙ given)

  -- exactly the plain read's files that keep the rule, and what is got is the same
  pub accepts-exactly : (f : File) (rest : List ℕ)
      → instance_from_bytes rule width bytes m ≡ got f rest ↔ ((instance_from_bytes plain_rule width bytes m ≡ got f rest) × (first_no (rule f.parts) ≡ 0))
  unfolding instance_from_bytes
  accepts-exactly f rest = (
    λ e.
        let a = after-some (first_no (read_asks width m)) ruled-read f rest e in
        let t = ruled-got f rest a.1 in
        (ap (λ (k : ℕ). got_after k plain-read) a.0 ∙ t.0, t.1),
    λ e.
        let a = after-some (first_no (read_asks width m)) plain-read f rest e.0 in
        ap (λ (k : ℕ). got_after k ruled-read) a.0 ∙ plain-got f rest a.1 e.1,
  )

  -- ---- bytes that break it
  pub broken-no : (f : File) (rest : List ℕ) → file_there ≡ got f rest → (k : ℕ) → first_no (rule f.parts) ≡ suc k
      → instance_from_bytes rule width bytes m ≡ got_after (first_no (read_asks width m)) (stop (suc k))
  unfolding instance_from_bytes
  broken-no f rest e k n = ap (got_after (first_no (read_asks width m))) (ruled-is f rest e ∙ rw n)

-- ---- the strict read: wire 0 is listed with value 0
zero-said : (b : Bool) → (ask 46 b ▸ 0 ≡ 0) ↔ (b ≡ true)
zero-said b = (λ e. says-yes 45 b (sym (▸-zero (ask 46 b)) ∙ e), λ e. ▸-zero (ask 46 b) ∙ ask-yes 46 b e)

module _ (width : ℕ) (bytes : List ℕ) (m : Rooms) where
  -- it accepts exactly the plain read's files that list it, and gives the same
  pub strict-exactly : (f : File) (rest : List ℕ)
      → instance_from_bytes strict_rule width bytes m ≡ got f rest ↔ ((instance_from_bytes plain_rule width bytes m ≡ got f rest) × (has_zero_wire f.parts ≡ true))
  strict-exactly f rest =
      let a = accepts-exactly strict_rule width bytes m f rest in
      let z = zero-said (has_zero_wire f.parts) in
      (λ e. ((a.0 e).0, z.0 (a.0 e).1), λ e. a.1 (e.0, z.1 e.1))

  -- on bytes that list it every answer is the plain read's
  pub strict_same : ((f : File) (rest : List ℕ) → read_file version width m bytes ≡ got f rest → has_zero_wire f.parts ≡ true)
      → instance_from_bytes strict_rule width bytes m ≡ instance_from_bytes plain_rule width bytes m
  strict_same h = kept_same strict_rule width bytes m (λ f rest e. (zero-said (has_zero_wire f.parts)).1 (h f rest e))

  -- else, where header, label and parts are read and the publics are in order, 46, whatever gate and end would say; 1 and 2 first
  pub strict-46 : (f : File) (rest : List ℕ) → read_file version width m bytes ≡ got f rest → has_zero_wire f.parts ≡ false
      → instance_from_bytes strict_rule width bytes m ≡ got_after (first_no (read_asks width m)) (stop 46)
  strict-46 f rest e b =
      broken-no strict_rule width bytes m f rest e 45 (▸-zero (ask 46 (has_zero_wire f.parts)) ∙ ask-no 46 (has_zero_wire f.parts) b)

-- ---- and what was written
same-got : {A : Type 0} (a b : A) (r s : List ℕ) → got a r ≡ got b s → a ≡ b
same-got a b r s e = cc

-- the bytes of sound parts that list wire 0 with value 0 are read strictly as they are plainly
pub strict-written : (width : ℕ) (label : List ℕ) (parts : Parts) (m : Rooms) → SoundFile width label parts → has_zero_wire parts ≡ true
    → instance_from_bytes strict_rule width (instance_bytes version width label parts) m ≡ instance_from_bytes plain_rule width (instance_bytes version width label parts) m
strict-written width label parts m sound z =
    strict_same width (instance_bytes version width label parts) m (λ f rest e.
    let a = after-some (first_no (file_asks width m parts)) (got (file label parts) []) f rest (sym (file-law version width m label parts sound) ∙ e) in
    ap (λ (x : File). has_zero_wire x.parts) (sym (same-got (file label parts) f [] rest a.1)) ∙ z)

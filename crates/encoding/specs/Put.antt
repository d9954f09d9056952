-- SFRI by the words that stores hold, and what the functions ask and ensure that write it. Only private contracts cite
-- this file. Assumes nothing.
use Rattle.std.specs.Prelude.{ℕ, ◌+◌, ◌*◌, ◌≤◌, ◌<◌, ◌≡◌, List, ◌++◌, length}
use Rattle.limits.specs.Numbers.{label_end}
use Rattle.words.specs.Store.{put_words}
use Rattle.narg.specs.Bytes.{u32_bytes}
use Rattle.narg.specs.Reader.{each}
use Rattle.instance.specs.declared.PermutationInstance.{PermutationInstance}
use Rattle.header.specs.Form.{letter_i, header_bytes}
use Rattle.encoding.specs.Form.{instance_fixed, label_bytes}

-- a list as its count and its words
abbrev pub list_bytes : ℕ → List ℕ → List ℕ
list_bytes n words = u32_bytes n ++ each u32_bytes words

-- SFRI, each list as its count and its words (law: the bytes of the parts)
unfoldable pub held_bytes : (version : ℕ) → PermutationInstance → (label publics queries equations : List ℕ) → List ℕ
held_bytes version ins label publics queries equations =
    header_bytes letter_i version ins.width
    ++ (label_bytes label
    ++ (u32_bytes ins.vars
    ++ (list_bytes ins.publics publics
    ++ (list_bytes ins.queries queries ++ list_bytes ins.equations equations))))

-- how many bytes these are
abbrev pub held_length : (label publics queries equations : List ℕ) → ℕ
held_length label publics queries equations =
    instance_fixed + length label + 4 * (length publics + length queries + length equations)

-- what writing them asks: the output holds them, and the label's length is a word
pub record HeldFits (label publics queries equations out : List ℕ) : Type 0 where
  pub room : held_length label publics queries equations ≤ length out
  pub short : length label < label_end

-- of the label alone, from a place on
pub record LabelFits (at : ℕ) (label out : List ℕ) : Type 0 where
  pub room : at + 4 + length label ≤ length out
  pub short : length label < label_end

-- what writing bytes at a place ensures: the place past them, and the output
pub record PutsAt (at : ℕ) (bytes before : List ℕ) (end : ℕ) (after : List ℕ) : Type 0 where
  pub past : end ≡ at + length bytes
  pub out : after ≡ put_words at bytes before

-- The numbers of document 01. Assumes nothing.
use Rattle.std.specs.Prelude.{ℕ}

-- p: a unit is below it
abbrev pub prime : ℕ
prime = 2013265921

-- F: the mark of an unassigned wire
abbrev pub unassigned : ℕ
unassigned = 4294967295

-- 2^30: wires are below it, and no store has more words
abbrev pub max_count : ℕ
max_count = 1073741824

-- widths are 1 to 24
abbrev pub max_width : ℕ
max_width = 24

-- 2^32: a word is below it
abbrev pub word_end : ℕ
word_end = 4294967296

-- 2^32: a label has fewer bytes
abbrev pub label_end : ℕ
label_end = 4294967296

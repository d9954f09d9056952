-- The answers of the crates utf8 and narg as structs for C: what a scan tells; of what narg reads and writes document 01's
-- number, and the values of each case. Assumes nothing.
use Rattle.std.specs.Prelude.{ℕ, Option, Some, None, Result, Ok, Err}
use Rattle.limits.specs.declared.Refused.{Refused}
use Rattle.utf8.specs.declared.Utf8Scan.{Utf8Scan}
use Rattle.narg.specs.declared.Cursor.{Cursor}
use Rattle.sfr.specs.declared.SfrUtf8Scan.{SfrUtf8Scan}
use Rattle.sfr.specs.declared.SfrWord.{SfrWord}
use Rattle.sfr.specs.declared.SfrPlace.{SfrPlace}

-- what a scan tells
abbrev pub utf8_scanned : Utf8Scan → SfrUtf8Scan
utf8_scanned r = record { place = r.place; passes = r.passes }

-- this number with this place
abbrev pub place : ℕ → ℕ → SfrPlace
place number next = record { number = number; next = next }

-- a word read at a place, or 20
abbrev pub word_read : ℕ → Option (ℕ × Cursor) → SfrWord
word_read at (Some read) = record { number = 0; value = read.0; next = read.1.at }
word_read at None = record { number = 20; value = 0; next = at }

-- written at a place, or 10
abbrev pub place_written : ℕ → Option Cursor → SfrPlace
place_written at (Some c) = place 0 c.at
place_written at None = place 10 at

-- an item read at a place, or its number
abbrev pub place_read : ℕ → Result Cursor Refused → SfrPlace
place_read at (Ok c) = place 0 c.at
place_read at (Err e) = place e.0 at

-- The table of labels that the code fills.
use Rattle.std.specs.Prelude.{ℕ, ◌+◌, ◌*◌, ◌≤◌, List, ◌≡◌, length, take, set, Some, None}
use Rattle.std.specs.Prelude as std
use Rattle.statement.specs.declared.lines.Line.{Line}
use Rattle.statement.specs.declared.lines.Line.TheVariants.{Blank, Label, Code}
use Rattle.assembler.specs.Source.{lines_of, labels_of, count}
use Rattle.assembler.specs.Walk.{entries}
use Rattle.assembler.specs.declared.labels.Counts.{Counts}

-- a table with one label more, if a line has one
abbrev pub entered : std.Option Line → ℕ → ℕ → ℕ → List ℕ → List ℕ
entered None start n words table = table
entered (Some Blank) start n words table = table
entered (Some (Label at)) start n words table = set (set table (2 * n) (start + at)) (2 * n + 1) (4 * words)
entered (Some (Code i f)) start n words table = table

-- the table holds the labels of a source, of which so many were counted, and so many words
pub record Filled (source table : List ℕ) (r : Counts) : Type 0 where
  pub fits : 2 * r.labels ≤ length table
  pub holds : entries source (take (2 * r.labels) table) ≡ labels_of (lines_of source)
  pub counted : r.words ≡ count (lines_of source)

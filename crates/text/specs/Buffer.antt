-- A lent buffer that is written from a place on.
use Rattle.std.specs.Prelude.{ℕ, ◌+◌, cond, List, ◌++◌, ltb, length, take, drop}

-- the buffer with a text from a place on; what stands before and behind it is kept
abbrev pub placed : List ℕ → ℕ → List ℕ → List ℕ
placed buffer at text = take at buffer ++ text ++ drop (at + length text) buffer

-- what a call that writes a text leaves: the place behind the text, and the buffer
pub record Wrote : Type 0 where
  pub end : ℕ
  pub buffer : List ℕ

abbrev pub wrote : ℕ → List ℕ → Wrote
wrote end buffer = record { end = end; buffer = buffer }

abbrev pub writes : List ℕ → ℕ → List ℕ → Wrote
writes buffer at text = wrote (at + length text) (placed buffer at text)

-- a text put at the place where the last one ended, or nothing where it has no room there
unfoldable pub puts : Wrote → List ℕ → Wrote
puts w text = cond (ltb (length w.buffer) (w.end + length text)) w (writes w.buffer w.end text)

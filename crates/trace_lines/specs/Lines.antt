-- The lines of a trace, a row each (02, T-03: "thread, address, word (0 where none was fetched), status after"): the issue's number from 1,
-- then these, with the word's name before the status, a space apart.
use Rattle.std.specs.Prelude.{ℕ, ◌+◌, Bool, false, ◌&&◌, cond, List, [], ◌∷◌, ◌++◌, eqb}
use Rattle.isa.specs.Text.{bytes}
use Rattle.listing.specs.Listing.{label}
use Rattle.text.specs.Number.{decimal, decimal_long}
use Rattle.text.specs.Parts.{concat}
use Rattle.thread_lines.specs.Lines.{carried_parts}
use Rattle.thread_lines.specs.Text.{counter}
use Rattle.trace_lines.specs.Types.{Status, Idle, Running, Ended, Trapped, Waiting, Row}

-- "status after" in words, as in the runner's lines of threads
abbrev pub status_parts : Status → List (List ℕ)
status_parts Idle = bytes "idle" ∷ []
status_parts Running = bytes "running" ∷ []
status_parts Ended = bytes "ended" ∷ []
status_parts (Trapped number) = bytes "trapped" ∷ carried_parts (Trapped number)
status_parts (Waiting id count) = bytes "waiting" ∷ carried_parts (Waiting id count)

-- reason 4: "s63 not a multiple of 4, or at or past the program's end", and a jump to such a place
abbrev pub is_outside : Status → Bool
is_outside Idle = false
is_outside Running = false
is_outside Ended = false
is_outside (Trapped number) = eqb number 4
is_outside (Waiting id count) = false

-- the name of a row's word, as the lister has it; none where no word was fetched: 0 is no jump
unfoldable pub name_in : ℕ → Status → List ℕ
name_in word status = cond (eqb word 0 && is_outside status) (bytes "-") (label word)

-- the issue's number and the thread
abbrev pub numbers_parts : ℕ → ℕ → List (List ℕ)
numbers_parts issue thread = decimal_long issue ∷ bytes " " ∷ decimal thread ∷ bytes " " ∷ []

-- an address or a word: eight upper-case hex digits, as in a listing
abbrev pub hex_parts : ℕ → List (List ℕ)
hex_parts n = counter n ∷ bytes " " ∷ []

-- up to the status
abbrev pub head_parts : ℕ → Row → List (List ℕ)
head_parts issue r =
    numbers_parts issue r.thread ++ hex_parts r.address ++ hex_parts r.word ++ name_in r.word r.status ∷ bytes " " ∷ []

unfoldable pub line_parts : ℕ → Row → List (List ℕ)
line_parts issue r = head_parts issue r ++ status_parts r.status ++ bytes "\n" ∷ []

-- the lines of rows before which some issues were made
unfoldable pub page_parts : ℕ → List Row → List (List ℕ)
page_parts made [] = []
page_parts made (r ∷ rs) = line_parts (made + 1) r ++ page_parts (made + 1) rs

unfoldable pub page_text : ℕ → List Row → List ℕ
page_text made rows = concat (page_parts made rows)

-- What a read answers.
use Rattle.std.specs.Prelude.{ℕ, Result, Ok, Err}
use Rattle.files.specs.declared.reading.Failed.{Failed}

-- how many bytes are at the start of the buffer, those too that came before a failure
abbrev pub size_of : Result ℕ Failed → ℕ
size_of (Ok size) = size
size_of (Err failed) = failed.size

-- Numbers in bytes: "Little endian." (document 01, of data memory, of the words of an image, and of those that the lister reads).
use Rattle.std.specs.Prelude.{ℕ, zero, suc, ◌+◌, ◌*◌, ◌/◌, ◌%◌, ◌^◌, List, [], ◌∷◌, ◌++◌, get_or, set}

-- the number that n bytes from place a on stand for, the lowest byte first
unfoldable pub number_at : ℕ → List ℕ → ℕ → ℕ
number_at zero bytes a = 0
number_at (suc n) bytes a = get_or bytes a 0 + 2 ^ 8 * number_at n bytes (a + 1)

-- the bytes with the n lowest bytes of w from place a on, the lowest byte first
unfoldable pub with_number : ℕ → List ℕ → ℕ → ℕ → List ℕ
with_number zero bytes a w = bytes
with_number (suc n) bytes a w = with_number n (set bytes a (w % 2 ^ 8)) (a + 1) (w / 2 ^ 8)

-- the n lowest bytes of w alone
unfoldable pub number_bytes : ℕ → ℕ → List ℕ
number_bytes zero w = []
number_bytes (suc n) w = w % 2 ^ 8 ∷ number_bytes n (w / 2 ^ 8)

-- Words of four bytes: the first n words of bytes, and the bytes of the first n words of a list.

unfoldable pub words_of : ℕ → List ℕ → List ℕ
words_of zero bytes = []
words_of (suc n) bytes = words_of n bytes ++ number_at 4 bytes (4 * n) ∷ []

unfoldable pub bytes_of : ℕ → List ℕ → List ℕ
bytes_of zero words = []
bytes_of (suc n) words = bytes_of n words ++ number_bytes 4 (get_or words n 0)

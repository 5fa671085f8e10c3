-- The layout of a saved image: a table of record kinds, and what follows from it (document 01, "Saved image").
use Rattle.std.specs.Prelude.{ℕ, ◌+◌, ◌*◌, ◌/◌, ◌%◌, ◌<◌, Bool, true, ◌&&◌, cond, List, [], ◌∷◌, ◌++◌, leb, eqb, length, get_or, take, drop}
use Rattle.answer.specs.Refusal.{fixed_part, old_fixed_part, block_record}
use Rattle.image_layout.specs.Join.{concat_below, total, all_below}
use Rattle.image_layout.specs.Types.{Kind, Hd, Ti, Sr, Vr, Mm, Places, Nothing, ByThread, ByRegister, ByBlock, Form, Newest, Old, Shape, RecordRow}

-- The forms: "TH becomes TI, four bytes longer at its end; the fixed part is 36,980 bytes." "The old form can be written back" (02, T-05).

abbrev pub fixed_of : Form → ℕ
fixed_of Newest = fixed_part
fixed_of Old = old_fixed_part

-- "Refusal 9 knows both lengths": the length says the form, since the fixed parts differ by no multiple of a block's record
abbrev pub form_of : ℕ → Form
form_of size = cond (eqb (size % block_record) (old_fixed_part % block_record)) Old Newest

-- The table.

abbrev pub of_blocks : Form → ℕ → Shape
of_blocks form blocks = record { form = form; blocks = blocks }

abbrev row : ℕ → ℕ → Places → ℕ → ℕ → RecordRow
row first second places count size = record { first = first; second = second; places = places; count = count; size = size }

-- "Each record opens with a two-byte mark, in this order: HD, last, enabled; eight TH: thread, status, reason, id, count ..; eight SR:
-- thread, 64 words; 512 VR: thread, register, 16 words; MM for each 64-byte block: block number in two bytes, 64 bytes."
-- Of each kind: its mark in ASCII, its place numbers, how many records there are, and the bytes behind the place numbers of one.
-- "TH becomes TI, four bytes longer at its end" (02, T-05)
abbrev pub thread_row : Form → RecordRow
thread_row Newest = row 84 73 ByThread 8 8
thread_row Old = row 84 72 ByThread 8 4

abbrev pub row_of : Shape → Kind → RecordRow
row_of s Hd = row 72 68 Nothing 1 2
row_of s Ti = thread_row s.form
row_of s Sr = row 83 82 ByThread 8 256
row_of s Vr = row 86 82 ByRegister 512 64
row_of s Mm = row 77 77 ByBlock s.blocks 64

-- "in this order": the kinds; how many there are, and which stands at a position
abbrev pub order : List Kind
order = Hd ∷ Ti ∷ Sr ∷ Vr ∷ Mm ∷ []

abbrev pub kinds : ℕ
kinds = length order

abbrev pub kind_at : ℕ → Kind
kind_at q = get_or order q Hd

-- the first of them, HD and TI, hold the machine record
abbrev pub record_kinds : ℕ
record_kinds = 2

-- kinds are told apart by their marks, whatever the shape
abbrev pub same_mark : RecordRow → RecordRow → Bool
same_mark r q = eqb r.first q.first && eqb r.second q.second

-- the position of a kind: that of the first with its mark
unfoldable pub position_in : List Kind → Kind → ℕ
position_in [] k = 0
position_in (x ∷ xs) k = cond (same_mark (row_of (of_blocks Newest 0) x) (row_of (of_blocks Newest 0) k)) 0 (1 + position_in xs k)

unfoldable pub order_of : Kind → ℕ
order_of k = position_in order k

-- "Numbers rise from 0, by thread first." "words and block numbers are little endian"
abbrev pub places_of : Places → ℕ → List ℕ
places_of Nothing i = []
places_of ByThread i = i ∷ []
places_of ByRegister i = i / 64 ∷ i % 64 ∷ []
places_of ByBlock i = i % 256 ∷ i / 256 ∷ []

-- the place numbers of record i are bytes
abbrev pub Numbered : Places → ℕ → Type 0
Numbered Nothing i = Unit {0}
Numbered ByThread i = i < 256
Numbered ByRegister i = i < 16384
Numbered ByBlock i = i < 65536

-- how many bytes they are, and with the mark
abbrev pub places_length : Places → ℕ
places_length Nothing = 0
places_length ByThread = 1
places_length ByRegister = 2
places_length ByBlock = 2

abbrev pub head_length : Places → ℕ
head_length p = 2 + places_length p

-- what record i opens with
abbrev pub head_of : RecordRow → ℕ → List ℕ
head_of r i = r.first ∷ r.second ∷ places_of r.places i

-- the bytes of a record, and of all records of a kind
abbrev pub record_size : RecordRow → ℕ
record_size r = head_length r.places + r.size

abbrev pub extent_of : RecordRow → ℕ
extent_of r = record_size r * r.count

-- Writing: body i stands behind the place numbers of record i.

unfoldable pub record_of : RecordRow → (ℕ → List ℕ) → ℕ → List ℕ
record_of r body i = head_of r i ++ body i

unfoldable pub section_of : RecordRow → (ℕ → List ℕ) → List ℕ
section_of r body = concat_below r.count (record_of r body)

-- the first n kinds, and the whole image
abbrev pub laid_up_to : ℕ → Shape → (Kind → ℕ → List ℕ) → List ℕ
laid_up_to n s body = concat_below n (λ q. section_of (row_of s (kind_at q)) (body (kind_at q)))

unfoldable pub laid_out : Shape → (Kind → ℕ → List ℕ) → List ℕ
laid_out s body = laid_up_to kinds s body

-- Fixed places: where the q-th kind begins (at `kinds`: the whole length), and where record i and its body do.

unfoldable pub start_of : Shape → ℕ → ℕ
start_of s q = total q (λ p. extent_of (row_of s (kind_at p)))

abbrev pub record_at : RecordRow → ℕ → ℕ → ℕ
record_at r at i = at + record_size r * i

abbrev pub body_place : RecordRow → ℕ → ℕ → ℕ
body_place r at i = record_at r at i + head_length r.places

-- Reading: the body of record i of a kind.

unfoldable pub body_at : RecordRow → ℕ → List ℕ → ℕ → List ℕ
body_at r at l i = take r.size (drop (body_place r at i) l)

abbrev pub body_in : Shape → List ℕ → Kind → ℕ → List ℕ
body_in s l k i = body_at (row_of s k) (start_of s (order_of k)) l i

-- "an image record has a wrong mark, or a thread, register or block number out of place": whether h stands at place p,
unfoldable pub stands_at : List ℕ → List ℕ → ℕ → Bool
stands_at [] l p = true
stands_at (x ∷ h) l p = eqb (get_or l p 0) x && stands_at h l (p + 1)

-- whether record i stands there: not where the bytes end before its mark and place numbers do
unfoldable pub head_stands : RecordRow → ℕ → List ℕ → ℕ → Bool
head_stands r i l at = leb (at + head_length r.places) (length l) && stands_at (head_of r i) l at

-- at every record of a kind,
unfoldable pub heads_of : RecordRow → List ℕ → ℕ → Bool
heads_of r l at = all_below r.count (λ i. stands_at (head_of r i) l (record_at r at i))

-- of the first n kinds,
abbrev pub heads_up_to : ℕ → Shape → List ℕ → Bool
heads_up_to n s l = all_below n (λ q. heads_of (row_of s (kind_at q)) l (start_of s q))

-- and of the whole image
unfoldable pub heads_in : Shape → List ℕ → Bool
heads_in s l = heads_up_to kinds s l

-- The names as the rows of one table, made from the rows of the instruction words' tables.
use Rattle.std.specs.Prelude.{ℕ, ◌&&◌, cond, List, [], ◌∷◌, ◌++◌, eqb, length, get_or}
use Rattle.isa.specs.Table.{Table, table_r, table_movei, table_j, table_c, table_m}
use Rattle.names.specs.Name.{padded, spelled}
use Rattle.names.specs.declared.name.Name.{Name}
use Rattle.names.specs.declared.name.NameRow.{NameRow}

-- a row of the format with the number f for each operation: its opcode, and its name
abbrev pub rows_for : {A : Type 0} → ℕ → Table A → List A → List NameRow
rows_for f t [] = []
rows_for f t (op ∷ ops) = (f, (t.row_of op).opcode, length (t.row_of op).name, padded 16 (t.row_of op).name) ∷ rows_for f t ops

abbrev pub rows_of : {A : Type 0} → ℕ → Table A → List NameRow
rows_of f t = rows_for f t t.operations

-- the formats by their numbers: 0 R, and I with it; 2 MOVEI, 3 J, 4 C, 5 M
unfoldable pub rows : List NameRow
rows = rows_of 0 table_r ++ rows_of 2 table_movei ++ rows_of 3 table_j ++ rows_of 4 table_c ++ rows_of 5 table_m

-- the row at a place; behind the last row one without a name
abbrev pub no_row : NameRow
no_row = (0, 0, 0, [])

abbrev pub row_at : ℕ → NameRow
row_at k = get_or rows k no_row

-- the name in the first row of a format and an opcode
unfoldable pub named : List NameRow → ℕ → ℕ → Name
named [] f o = spelled []
named (r ∷ rs) f o = cond (eqb f r.0 && eqb o r.1) (record { bytes = r.3; len = r.2 }) (named rs f o)

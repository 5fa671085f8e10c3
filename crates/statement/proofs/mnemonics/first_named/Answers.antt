-- `first_named` meets its contract: no row passed over has the word as its name.
use Rattle.std.proofs.Common.{◌<◌, ◌≤◌, List, length, get_or, refl, ap, ◌∙◌, arith}
use Rattle.std.proofs.Math.Option.{none}
use Rattle.names.specs.Rows.{rows, no_row}
use Rattle.names.specs.declared.name.NameRow.{NameRow}
use Rattle.statement.specs.Rows.{tried}
use Rattle.statement.proofs.Named.{row_count, row_room, walk-found, walk-on, walk_ends}
use Rattle.statement.proofs.mnemonics.first_named.Goals as goal

pub tried-requires : goal.tried-requires
tried-requires c =
    let t = c.table-rows in
    row_room t.result c.loop-row.row-index _ t.ensures refl

pub loop-row-init : goal.loop-row-init
loop-row-init c = refl

pub returns-in-Some : goal.returns-in-Some
returns-in-Some c =
    let x = c.args in
    let t = c.table-rows in
    let l = c.loop-row in
    let h : l.row-index < length rows = omega (arith, row_count) in
    walk-found x.immediate x.word.now l.row-index c.in-Some.i h
    (c.in-Some.ensures ∙ ap (λ (rs : List NameRow). tried x.immediate (get_or rs l.row-index no_row) x.word.now none) t.ensures)
    ∙ l.invariant

pub loop-row-preserved : goal.loop-row-preserved
loop-row-preserved c =
    let x = c.args in
    let t = c.table-rows in
    let l = c.loop-row in
    let h : l.row-index < length rows = omega (arith, row_count) in
    walk-on x.immediate x.word.now l.row-index h
    (c.in_default.ensures ∙ ap (λ (rs : List NameRow). tried x.immediate (get_or rs l.row-index no_row) x.word.now none) t.ensures)
    ∙ l.invariant

pub returns : goal.returns
returns c =
    let x = c.args in
    let l = c.loop-row in
    let h : length rows ≤ l.row-index = omega (arith, row_count) in
    walk_ends x.immediate x.word.now l.row-index h ∙ l.invariant

-- `find` meets its contract: the rows passed over are none of the format and the opcode.
use Prim.Native.Nat.{ℕ, ◌<◌, ◌≤◌}
use mathlib.Core.Path.{◌≡◌, refl, ap, sym, ◌∙◌}
use mathlib.Core.List.{List, []}
use native.Mathlib.Numerals.{add-one}
use lib.ListN.{length, drop, drop_of_length-le}
use Rattle.names.proofs.Names.{here, behind}
use Rattle.names.specs.Name.{spelled}
use Rattle.names.specs.Rows.{rows, named}
use Rattle.names.specs.declared.name.NameRow.{NameRow}
use Rattle.names.proofs.name.find.Goals as goal

pub loop-f-init : goal.loop-f-init
loop-f-init c = refl

pub returns-then-format-f : goal.returns-then-format-f
unfolding rows
returns-then-format-f c =
    let x = c.args in
    let e = c.table-f-items.ensures in
    let h : c.loop-f.f-index < length c.table-f-items.result = rw e c.loop-f-test.true in
    sym (c.loop-f.invariant ∙ here c.table-f-items.result _ _ c.loop-f.f-index h c.if-format-f.true)
    ∙ ap (λ (l : List NameRow). named l x.format x.opcode) e

pub loop-f-preserved : goal.loop-f-preserved
unfolding rows
loop-f-preserved c =
    let h : c.loop-f.f-index < length c.table-f-items.result = rw c.table-f-items.ensures c.loop-f-test.true in
    c.loop-f.invariant ∙ rw (add-one c.loop-f.f-index) (behind c.table-f-items.result _ _ c.loop-f.f-index h c.if-format-f.false)

-- no row is left
none : (l : List NameRow) (f o k : ℕ) → length l ≤ k → spelled [] ≡ named (drop k l) f o
unfolding named
none l f o k h = rw (drop_of_length-le l {i = k} h)

pub returns : goal.returns
unfolding rows
returns c =
    let x = c.args in
    let e = c.table-f-items.ensures in
    let h : length c.table-f-items.result ≤ c.loop-f.f-index = rw e c.loop-f-test.false in
    none c.table-f-items.result x.format x.opcode c.loop-f.f-index h
    ∙ sym c.loop-f.invariant ∙ ap (λ (l : List NameRow). named l x.format x.opcode) e

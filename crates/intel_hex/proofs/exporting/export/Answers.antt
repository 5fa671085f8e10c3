-- `export` meets its contract: by the program's length, the buffer's, or the records and the end.
use Prim.Native.Nat.{◌+◌, ◌/◌}
use mathlib.Core.List.{[]}
use mathlib.Core.Path.{sym, ◌∙◌}
use native.Mathlib.Omega.{arith}
use lib.ListN.{length}
use Rattle.text.proofs.Placing.{length-wrote, next}
use Rattle.program.proofs.Sizes.{allowed}
use Rattle.intel_hex.specs.Export.{record_text, body, export_text}
use Rattle.intel_hex.specs.Program.{program_bytes}
use Rattle.intel_hex.proofs.Bodies.{length-body, no_program, no_room, whole-text}
use Rattle.intel_hex.proofs.exporting.export.Goals as goal

pub returns-then-bad_program : goal.returns-then-bad_program
returns-then-bad_program c = no_program c.args.words.now c.args.text.now (sym c.bad_program.ensures ∙ c.if-bad_program.true)

pub overflow_add-n-2 : goal.overflow_add-n-2
overflow_add-n-2 c = omega (arith, allowed (length c.args.words.now) (sym c.bad_program.ensures ∙ c.if-bad_program.false))

pub overflow_add-n-3 : goal.overflow_add-n-3
overflow_add-n-3 c = omega (arith, allowed (length c.args.words.now) (sym c.bad_program.ensures ∙ c.if-bad_program.false))

pub returns-then-text-n : goal.returns-then-text-n
returns-then-text-n c =
    let x = c.args in
    no_room x.words.now x.text.now (sym c.bad_program.ensures ∙ c.if-bad_program.false) c.if-text-n.true

pub put_body-p-requires : goal.put_body-p-requires
put_body-p-requires c =
    (omega (arith, allowed (length c.args.words.now) (sym c.bad_program.ensures ∙ c.if-bad_program.false)), omega arith)

pub put_record-requires : goal.put_record-requires
put_record-requires c =
    let x = c.args in
    let b = c.put_body-p in
    let ws = x.words.now in
    let k = (length ws + 3) / 4 in
    let l = length-body ws k (omega arith) in
    let w = length-wrote x.text.now 0 (body (program_bytes ws) k) b.result b.new.out (omega arith) b.ensures in
    (omega arith, omega (arith, w.0, w.1), omega arith, omega arith, omega arith)

pub returns : goal.returns
unfolding export_text
returns c =
    let x = c.args in
    let b = c.put_body-p in
    let q = c.put_record in
    let ws = x.words.now in
    let o = x.text.now in
    let k = (length ws + 3) / 4 in
    let l = length-body ws k (omega arith) in
    let e = next o 0 (body (program_bytes ws) k) (omega arith) (record_text 1 0 []) b.result b.new.out q.result q.new.out b.ensures q.ensures in
    whole-text ws o q.result q.new.out (sym c.bad_program.ensures ∙ c.if-bad_program.false) c.if-text-n.false e

-- `fill_labels` meets its contract.
use Rattle.assembler.proofs.Filling.{entered-length, labels-further, count-further, labels-begin, count-begin, labels-end, count-end}
use Rattle.assembler.proofs.Walking.{text_at, text-length, label-longer, few-labels, few_words, one_label}
use Rattle.assembler.proofs.Texts.{texts-none, end-in}
use Rattle.expression.specs.Label.{address_in}
use lib.ListN.{length, take}
use native.Mathlib.Omega.{arith}
use mathlib.Core.Path.{ap, ◌∙◌}
use Prim.Native.Nat.{◌≤◌}
use Rattle.assembler.proofs.labels.fill_labels.Goals as goal

pub loop-start-init : goal.loop-start-init
loop-start-init c = (labels-begin c.args.source.now c.args.table.now, count-begin c.args.source.now, omega arith, omega arith, omega arith, c.requires.1)

pub slice_bounds-line_of-count : goal.slice_bounds-line_of-count
slice_bounds-line_of-count c = omega (arith, end-in c.args.source.now c.loop-start.start c.line_end-end.result (omega arith) c.line_end-end.ensures)

pub slice_bounds-line_of-start : goal.slice_bounds-line_of-start
slice_bounds-line_of-start c = omega (arith, end-in c.args.source.now c.loop-start.start c.line_end-end.result (omega arith) c.line_end-end.ensures)

pub slice_bounds-line_of-end : goal.slice_bounds-line_of-end
slice_bounds-line_of-end c = omega (arith, end-in c.args.source.now c.loop-start.start c.line_end-end.result (omega arith) c.line_end-end.ensures)

pub enter-requires : goal.enter-requires
enter-requires c =
    let x = c.args in
    let p = c.loop-start in
    let e = c.line_end-end in
    let h = end-in x.source.now p.start e.result (omega arith) e.ensures in
    let t = text-length x.source.now p.start e.result (omega arith) e.ensures in
    (omega arith, omega arith, omega arith, omega arith, label-longer (length (text_at x.source.now p.start e.result)) 65536 c.line_of-line.result (omega arith) c.line_of-line.ensures.label)

pub overflow_add-n : goal.overflow_add-n
overflow_add-n c = omega (arith, c.labels_in-n.ensures, one_label c.line_of-line.result)

pub overflow_add-words : goal.overflow_add-words
overflow_add-words c = omega (arith, c.words_in-words.ensures, few_words c.line_of-line.result)

pub overflow_add-start : goal.overflow_add-start
overflow_add-start c = omega (arith, end-in c.args.source.now c.loop-start.start c.line_end-end.result (omega arith) c.line_end-end.ensures)

pub loop-start-smaller : goal.loop-start-smaller
loop-start-smaller c = omega (arith, end-in c.args.source.now c.loop-start.start c.line_end-end.result (omega arith) c.line_end-end.ensures)

pub loop-start-preserved : goal.loop-start-preserved
loop-start-preserved c =
    let l = c.args.source.now in
    let p = c.loop-start in
    let e = c.line_end-end in
    let r = c.line_of-line.result in
    let a = address_in l (take 0 p.table) in
    let k : p.start ≤ length l = omega arith in
    let h = end-in l p.start e.result k e.ensures in
    let t = text-length l p.start e.result k e.ensures in
    let m = c.labels_in-n.ensures in
    let w = c.words_in-words.ensures in
    let o = one_label r in
    let f = few_words r in
    let g = few-labels (length (text_at l p.start e.result)) r c.line_of-line.ensures.label in
    (rw (m, w, c.enter.ensures) (labels-further l p.start e.result k e.ensures a r c.line_of-line.ensures.line p.words p.table p.n (omega arith) c.line_of-line.ensures.label p.invariant.0), rw w (count-further l p.start e.result k e.ensures a r c.line_of-line.ensures.line p.words p.invariant.1), omega arith, omega arith, omega arith, ap length c.enter.ensures ∙ entered-length r p.start p.n p.words p.table ∙ p.invariant.5)

pub returns : goal.returns
returns c =
    let l = c.args.source.now in
    let p = c.loop-start in
    let none = texts-none l p.start (omega arith) in
    record { fits = omega arith; holds = labels-end l p.table p.start p.n p.words none p.invariant.0; counted = count-end l p.start p.words none p.invariant.1 }

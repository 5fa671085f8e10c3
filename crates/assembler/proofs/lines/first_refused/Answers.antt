-- `first_refused` meets its contract.
use Rattle.assembler.proofs.Walking.{text_at, text-here, table_at, number_is, words-on, labels-on, few_words, one_label}
use Rattle.assembler.proofs.Texts.{texts_at, texts-none, texts-all, end-in, walk-on, walk-rest, walk-found, walk_end}
use Rattle.answer.specs.Refusal.{row_of}
use Rattle.assembler.specs.Walk.{rule_of}
use Rattle.assembler.specs.Source.{texts_of, labels_from, count}
use Rattle.expression.specs.Labels.{addresses}
use lib.ListN.{take, drop}
use native.Mathlib.Omega.{arith}
use mathlib.Core.Path.{◌≡◌, refl, sym, ◌∙◌}
use Prim.Native.Nat.{◌+◌}
use mathlib.Core.Option.{none, some}
use mathlib.Core.List.{◌∷◌}
use Rattle.assembler.proofs.lines.first_refused.Goals as goal

pub loop-start-init : goal.loop-start-init
unfolding labels_from count
loop-start-init c = (sym (texts-all c.args.labels.source.now), refl, omega arith, omega arith, refl, refl, omega arith, omega arith)

pub slice_bounds-text-count : goal.slice_bounds-text-count
slice_bounds-text-count c = omega (arith, end-in c.args.labels.source.now c.loop-start.start c.line_end-end.result (omega arith) c.line_end-end.ensures)

pub slice_bounds-text-start : goal.slice_bounds-text-start
slice_bounds-text-start c = omega (arith, end-in c.args.labels.source.now c.loop-start.start c.line_end-end.result (omega arith) c.line_end-end.ensures)

pub slice_bounds-text-end : goal.slice_bounds-text-end
slice_bounds-text-end c = omega (arith, end-in c.args.labels.source.now c.loop-start.start c.line_end-end.result (omega arith) c.line_end-end.ensures)

pub judge-requires : goal.judge-requires
judge-requires c =
    let x = c.args in
    let p = c.loop-start in
    (table_at x.labels.source.now x.labels.table.now p.before p.n p.invariant.4 x.pass c.requires.1, c.line_of-line.ensures.label, omega arith)

pub returns-in-Err : goal.returns-in-Err
returns-in-Err c =
    let x = c.args in
    let l = x.labels.source.now in
    let a = addresses x.labels in
    let p = c.loop-start in
    let e = c.line_end-end in
    let T = text_at l p.start e.result in
    let here : drop p.before (texts_of l) ≡ T ∷ texts_at l (e.result + 1) = p.invariant.0 ∙ text-here l p.start e.result (omega arith) e.ensures in
    let n = row_of c.in-Err.refusal in
    let rule : rule_of x.pass a (take p.before (texts_of l)) T ≡ some n = sym (c.in-Err.ensures ∙ number_is l x.labels.table.now p.before p.n p.invariant.4 x.pass a p.words T c.line_of-line.result c.requires.1 p.invariant.5 c.line_of-line.ensures.line) in
    sym (walk-found (texts_of l) p.before T (texts_at l (e.result + 1)) here (rule_of x.pass a) n rule) ∙ p.invariant.1

pub overflow_add-n : goal.overflow_add-n
overflow_add-n c = omega (arith, c.labels_in-n.ensures, one_label c.line_of-line.result)

pub overflow_add-words : goal.overflow_add-words
overflow_add-words c = omega (arith, c.words_in-words.ensures, few_words c.line_of-line.result)

pub overflow_add-start : goal.overflow_add-start
overflow_add-start c = omega (arith, end-in c.args.labels.source.now c.loop-start.start c.line_end-end.result (omega arith) c.line_end-end.ensures)

pub loop-start-smaller : goal.loop-start-smaller
loop-start-smaller c = omega (arith, end-in c.args.labels.source.now c.loop-start.start c.line_end-end.result (omega arith) c.line_end-end.ensures)

pub loop-start-preserved : goal.loop-start-preserved
loop-start-preserved c =
    let x = c.args in
    let l = x.labels.source.now in
    let a = addresses x.labels in
    let p = c.loop-start in
    let e = c.line_end-end in
    let r = c.line_of-line.result in
    let T = text_at l p.start e.result in
    let here : drop p.before (texts_of l) ≡ T ∷ texts_at l (e.result + 1) = p.invariant.0 ∙ text-here l p.start e.result (omega arith) e.ensures in
    let rule : rule_of x.pass a (take p.before (texts_of l)) T ≡ none = sym (c.in_default.ensures ∙ number_is l x.labels.table.now p.before p.n p.invariant.4 x.pass a p.words T r c.requires.1 p.invariant.5 c.line_of-line.ensures.line) in
    let h = end-in l p.start e.result (omega arith) e.ensures in
    let m = c.labels_in-n.ensures in
    let w = c.words_in-words.ensures in
    let o = one_label r in
    let f = few_words r in
    (walk-rest (texts_of l) p.before T (texts_at l (e.result + 1)) here, walk-on (texts_of l) p.before T (texts_at l (e.result + 1)) here (rule_of x.pass a) rule ∙ p.invariant.1, omega arith, omega arith, rw m (labels-on l p.before a T (texts_at l (e.result + 1)) r here c.line_of-line.ensures.line p.n p.invariant.4), rw w (words-on l p.before a T (texts_at l (e.result + 1)) r here c.line_of-line.ensures.line p.words p.invariant.5), omega arith, omega arith)

pub returns : goal.returns
returns c =
    let x = c.args in
    let l = x.labels.source.now in
    let a = addresses x.labels in
    let p = c.loop-start in
    sym (walk_end (rule_of x.pass a) (texts_of l) p.before (p.invariant.0 ∙ texts-none l p.start (omega arith))) ∙ p.invariant.1

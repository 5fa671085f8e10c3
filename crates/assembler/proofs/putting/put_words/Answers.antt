-- `put_words` meets its contract.
use Rattle.assembler.proofs.Written.{stored-length, few, room, words-stored, stored-fits, rest-stored, words-here, words-begin, words-end}
use Rattle.assembler.proofs.Walking.{few_words}
use Rattle.assembler.proofs.Texts.{texts_at, texts-none, end-in}
use Rattle.assembler.specs.Walk.{line_word, words_in}
use Rattle.assembler.specs.Source.{line_in, lines_of, words_from}
use Rattle.expression.specs.Labels.{addresses}
use lib.ListN.{take}
use native.Mathlib.Omega.{arith}
use mathlib.Core.Path.{refl, ◌∙◌}
use Prim.Native.Nat.{◌+◌, ◌*◌}
use mathlib.Core.List.{map}
use Rattle.assembler.proofs.putting.put_words.Goals as goal

pub loop-start-init : goal.loop-start-init
loop-start-init c = let x = c.args in (words-begin (addresses x.labels) x.labels.source.now x.words.now, refl, omega arith, refl, omega arith, omega arith, omega arith)

pub slice_bounds-line_of-count : goal.slice_bounds-line_of-count
slice_bounds-line_of-count c = omega (arith, end-in c.args.labels.source.now c.loop-start.start c.line_end-end.result (omega arith) c.line_end-end.ensures)

pub slice_bounds-line_of-start : goal.slice_bounds-line_of-start
slice_bounds-line_of-start c = omega (arith, end-in c.args.labels.source.now c.loop-start.start c.line_end-end.result (omega arith) c.line_end-end.ensures)

pub slice_bounds-line_of-end : goal.slice_bounds-line_of-end
slice_bounds-line_of-end c = omega (arith, end-in c.args.labels.source.now c.loop-start.start c.line_end-end.result (omega arith) c.line_end-end.ensures)

pub put_line-k-requires : goal.put_line-k-requires
put_line-k-requires c =
    let x = c.args in
    let p = c.loop-start in
    let l = x.labels.source.now in
    let e = c.line_end-end in
    let r = c.line_of-line.result in
    let a = addresses x.labels in
    let here = words-here l p.start e.result (omega arith) e.ensures a r c.line_of-line.ensures.line (words_from a 0 (lines_of l)) (take p.k p.words) p.before p.invariant.0 in
    (omega arith, omega arith, room p.k p.words (words_from a 0 (lines_of l)) (words_from a (4 * (p.before + words_in r)) (map line_in (texts_at l (e.result + 1)))) (line_word p.before r) here (omega arith))

pub overflow_add-before : goal.overflow_add-before
overflow_add-before c = omega (arith, c.words_in-before.ensures, few_words c.line_of-line.result)

pub overflow_add-start : goal.overflow_add-start
overflow_add-start c = omega (arith, end-in c.args.labels.source.now c.loop-start.start c.line_end-end.result (omega arith) c.line_end-end.ensures)

pub loop-start-smaller : goal.loop-start-smaller
loop-start-smaller c = omega (arith, end-in c.args.labels.source.now c.loop-start.start c.line_end-end.result (omega arith) c.line_end-end.ensures)

pub loop-start-preserved : goal.loop-start-preserved
loop-start-preserved c =
    let x = c.args in
    let p = c.loop-start in
    let l = x.labels.source.now in
    let e = c.line_end-end in
    let r = c.line_of-line.result in
    let a = addresses x.labels in
    let o = line_word p.before r in
    let rest = words_from a (4 * (p.before + words_in r)) (map line_in (texts_at l (e.result + 1))) in
    let ws = words_from a 0 (lines_of l) in
    let here = words-here l p.start e.result (omega arith) e.ensures a r c.line_of-line.ensures.line ws (take p.k p.words) p.before p.invariant.0 in
    let fits = room p.k p.words ws rest o here (omega arith) in
    let h = end-in l p.start e.result (omega arith) e.ensures in
    let w = c.words_in-before.ensures in
    let f = few_words r in
    let g = few p.k p.before r in
    let c1 = c.put_line-k.ensures.count in
    let c2 = c.put_line-k.ensures.buffer in
    (rw (w, c1, c2) (words-stored p.k p.words ws rest o fits here), rw (c1, c2) (rest-stored p.k p.words ws rest x.words.now o p.invariant.1), rw (c1, c2) (stored-fits p.k p.words ws rest o fits p.invariant.2), rw c2 (stored-length p.k o p.words ∙ p.invariant.3), omega arith, omega arith, omega arith)

pub returns : goal.returns
returns c =
    let x = c.args in
    let p = c.loop-start in
    let l = x.labels.source.now in
    words-end (addresses x.labels) l p.words x.words.now _ p.start p.before p.k (texts-none l p.start (omega arith)) p.invariant.2 p.invariant.1 p.invariant.0

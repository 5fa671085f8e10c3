-- `entries::entries_in` meets its contract.
use Prim.Native.Nat.{◌+◌, ◌*◌, ◌<◌}
use mathlib.Core.Bool.{true, false}
use mathlib.Core.List.{[], ◌∷◌}
use mathlib.Core.Path.{◌≡◌, refl, sym, ap, ◌∙◌}
use native.Mathlib.Nat.{mul-suc}
use native.Mathlib.Numerals.{add-one}
use native.Mathlib.Omega.{arith}
use Rattle.std.proofs.lemmas.Result.{err_from_is_err_and}
use Rattle.answer.specs.Answer.{given, refused}
use Rattle.image_layout.proofs.Join.{grown-start, grown-join, grown-one, grown-new, grown-end}
use Rattle.image_layout.proofs.Rows.{threads, ti-order}
use Rattle.image_layout.proofs.Tests.{all_none, all_more, all-less, all-stop}
use Rattle.image_layout.specs.Join.{all_below}
use Rattle.image_layout.specs.Layout.{record_kinds, record_size}
use Rattle.image.specs.Answer.{given_if}
use Rattle.image.specs.Image.{is_entry, entry_or, entry_in, threads_in}
use Rattle.image.specs.Types.{Ti}
use Rattle.image.proofs.Numbers.{refused-entry}
use Rattle.image.proofs.RecordIn.{fixed-place, body-room-in, entry_at, entries-read, threads-read}
use Rattle.image.proofs.entries.entries_in.Goals as goal

pub loop-thread-init : goal.loop-thread-init
loop-thread-init c = (omega arith, all_none _, grown-start _ 0 _)

pub entry_at-requires : goal.entry_at-requires
entry_at-requires c =
    let a = c.args in
    let place = fixed-place a.shape Ti c.first_body-at.result c.record_size-size.result c.first_body-at.ensures (c.record_size-size.ensures ∙ ap record_size c.row_of.ensures) in
    let l = c.loop-thread in
    let t = l.thread-index in
    let h : t < 8 = omega (arith, c.loop-thread-test.true, l.invariant.2.size) in
    omega (arith, l.invariant.0, place t, body-room-in a.shape Ti record_kinds t _ (omega (arith, ti-order)) (omega (arith, h, threads a.shape.form)) c.requires)

pub overflow_add-at : goal.overflow_add-at
overflow_add-at c =
    let a = c.args in
    let place = fixed-place a.shape Ti c.first_body-at.result c.record_size-size.result c.first_body-at.ensures (c.record_size-size.ensures ∙ ap record_size c.row_of.ensures) in
    let l = c.loop-thread in
    let t = l.thread-index in
    let h : t < 8 = omega (arith, c.loop-thread-test.true, l.invariant.2.size) in
    omega (arith, l.invariant.0, place t, c.record_size-size.ensures ∙ ap record_size c.row_of.ensures, body-room-in a.shape Ti record_kinds t _ (omega (arith, ti-order)) (omega (arith, h, threads a.shape.form)) c.requires)

pub returns-in_err-thread : goal.returns-in_err-thread
returns-in_err-thread c =
    let a = c.args in
    let at = c.first_body-at.result in
    let size = c.record_size-size.result in
    let place = fixed-place a.shape Ti at size c.first_body-at.ensures (c.record_size-size.ensures ∙ ap record_size c.row_of.ensures) in
    let l = c.loop-thread in
    let image = a.image.now in
    let form = a.shape.form in
    let h : l.thread-index < 8 = omega (arith, c.loop-thread-test.true, l.invariant.2.size) in
    let p = err_from_is_err_and c.from_residual.result c.from_residual.ensures.1 in
    let no = ap is_entry (c.in_err-thread.ensures ∙ ap (entry_at form image) l.invariant.0) in
    let b : all_below 8 (λ t. is_entry (entry_in a.shape image t)) ≡ false =
    sym (entries-read a.shape image at size place) ∙ all-less 8 l.thread-index (λ k. is_entry (entry_at form image (at + size * k))) h (sym no) in
    rw (p.1, p.2) (ap refused (refused-entry _ _ c.in_err-thread.ensures) ∙ sym (ap (λ z. given_if z (threads_in a.shape image)) b))

pub loop-thread-preserved : goal.loop-thread-preserved
loop-thread-preserved c =
    let a = c.args in
    let image = a.image.now in
    let form = a.shape.form in
    let l = c.loop-thread in
    let t = l.thread-index in
    let at = c.first_body-at.result in
    let size = c.record_size-size.result in
    let f = c.in_ok-thread.ensures ∙ ap (entry_at form image) l.invariant.0 in (
      omega (arith, l.invariant.0, mul-suc size t, ap (λ n. size * n) (add-one t)),
      all_more t (λ k. is_entry (entry_at form image (at + size * k))) l.invariant.1 (sym (ap is_entry f)),
      grown-join t (λ k. entry_or (entry_at form image (at + size * k)) ∷ []) l.invariant.2
          (grown-new (ap (λ y. y ∷ []) (ap entry_or f)) (grown-one l.thread-items t _ (omega (arith, c.loop-thread-test.true, l.invariant.2.size)))),
    )

pub returns : goal.returns
returns c =
    let a = c.args in
    let image = a.image.now in
    let form = a.shape.form in
    let l = c.loop-thread in
    let t = l.thread-index in
    let at = c.first_body-at.result in
    let size = c.record_size-size.result in
    let place = fixed-place a.shape Ti at size c.first_body-at.ensures (c.record_size-size.ensures ∙ ap record_size c.row_of.ensures) in
    let b : all_below 8 (λ t. is_entry (entry_in a.shape image t)) ≡ true =
    sym (entries-read a.shape image at size place) ∙ all-stop t 8 (λ k. is_entry (entry_at form image (at + size * k))) (omega (arith, l.auto.thread-index-end, l.invariant.2.size)) (omega (arith, c.loop-thread-test.false, l.invariant.2.size)) l.invariant.1 in
    let g = grown-end t 8 (λ k. entry_or (entry_at form image (at + size * k)) ∷ []) l.invariant.2 (omega (arith, l.auto.thread-index-end, l.invariant.2.size)) (omega (arith, c.loop-thread-test.false, l.invariant.2.size)) in
    ap given (threads-read a.shape image at size place refl g) ∙ sym (ap (λ z. given_if z (threads_in a.shape image)) b)

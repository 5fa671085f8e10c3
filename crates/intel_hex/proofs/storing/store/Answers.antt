-- `store` meets its contract: what is stored, and the lines that are left, are the whole file.
use Rattle.std.proofs.Common.{◌≡◌, sym, ◌∙◌, drop}
use lib.Seq.{drop-drop}
use Rattle.std.specs.Prelude.{Some, None}
use Rattle.intel_hex.specs.Storing.{words_after, place_after}
use Rattle.intel_hex.proofs.Lines.{lf-some, lf-below, lf-none, rest_of}
use Rattle.intel_hex.proofs.Passing.{begin, stored, fits, goes, same-image}
use Rattle.intel_hex.proofs.storing.store.Goals as goal

pub loop-end-init : goal.loop-end-init
loop-end-init c = begin c.args.text.now c.args.words.now

pub store_record-p-requires : goal.store_record-p-requires
store_record-p-requires c =
    let l = c.loop-end in
    let t = l.rest.now in
    let end = c.in-Some.end in
    let e = sym c.in-Some.is ∙ c.line_feed.ensures in
    fits c.args.text.now c.args.words.now l.p l.words t l.invariant c.requires.bytes c.requires.is c.requires.room end (lf-below t end e) (lf-some t end e)
    (Some c.in-Some-heading_of.h) (sym c.in-Some-heading_of.is ∙ c.heading_of.ensures)

pub loop-end-preserved : goal.loop-end-preserved
unfolding words_after place_after
loop-end-preserved c =
    let l = c.loop-end in
    let t = l.rest.now in
    let end = c.in-Some.end in
    let e = sym c.in-Some.is ∙ c.line_feed.ensures in
    let on = goes c.args.text.now c.args.words.now l.p l.words t l.invariant c.requires.bytes c.requires.is c.requires.room end (lf-below t end e) (lf-some t end e) in
    rw (rest_of t end, rest_of (drop end t) 1, drop-drop 1 end t)
    (elim c.match-heading_of.branch [
      | goal.in-Some-heading_of w ↦ on (Some w.in-Some-heading_of.h) _ _ (sym w.in-Some-heading_of.is ∙ c.heading_of.ensures) (w.p-is ∙ w.store_record-p.ensures.0) (w.words-is ∙ w.store_record-p.ensures.1)
      | goal.in-None w ↦ on None _ _ (sym w.in-None.is ∙ c.heading_of.ensures) w.p-is w.words-is
    ])

pub returns : goal.returns
returns c b good =
    let l = c.loop-end in
    let e : c.requires.bytes ≡ b = same-image c.requires.is good in
    stored c.args.text.now c.args.words.now l.p l.words l.rest.now l.invariant b good (lf-none l.rest.now c.in_default.ensures) (rw e at c.requires.whole) (rw e at c.requires.room)

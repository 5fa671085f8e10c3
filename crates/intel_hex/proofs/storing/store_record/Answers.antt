-- `store_record` meets its contract, record by record.
use Prim.Native.Nat.{ℕ, ◌+◌, ◌*◌}
use mathlib.Core.List.{List}
use mathlib.Core.Path.{refl, ap, ◌∙◌}
use Rattle.std.specs.Prelude.{Some}
use native.Mathlib.Omega.{arith}
use lib.ListN.{length, drop, length-drop}
use Rattle.intel_hex.specs.Storing.{store_all, pair_bytes, words_after, place_after}
use Rattle.intel_hex.proofs.Stored.{fits-data, length-store, whole-tail}
use borrow.Author.Rules.{rules}
use Rattle.intel_hex.proofs.storing.store_record.Goals as goal

pub fill-requires : goal.fill-requires
fill-requires c =
    let f = fits-data c.args.line.now (Some c.args.h) c.args.p c.args.words.now _ _ c.requires (ap Some c.in-Data.is) in
    (omega (arith, f.rises), omega (arith, f.room))

pub slice_bounds-store_data-count : goal.slice_bounds-store_data-count
slice_bounds-store_data-count c =
    let f = fits-data c.args.line.now (Some c.args.h) c.args.p c.args.words.now _ _ c.requires (ap Some c.in-Data.is) in
    omega (arith, f.long)

pub slice_bounds-store_data-start : goal.slice_bounds-store_data-start
slice_bounds-store_data-start c =
    let f = fits-data c.args.line.now (Some c.args.h) c.args.p c.args.words.now _ _ c.requires (ap Some c.in-Data.is) in
    omega (arith, f.long)

pub store_data-requires : goal.store_data-requires
store_data-requires c =
    let f = fits-data c.args.line.now (Some c.args.h) c.args.p c.args.words.now _ _ c.requires (ap Some c.in-Data.is) in
    let q = c.fill in
    let t = whole-tail c.args.line.now in
    (omega (arith, f.room, ap length q.ensures ∙ length-store c.args.words.now _ _), omega (arith, f.long, ap length t, length-drop 1 c.args.line.now))

pub returns-in-End : goal.returns-in-End
unfolding place_after words_after
returns-in-End c = search rules

pub returns-in-Base : goal.returns-in-Base
unfolding place_after words_after
returns-in-Base c = rw c.in-Base.is (refl, refl)

pub returns-in-Data : goal.returns-in-Data
unfolding place_after words_after
returns-in-Data c =
    let x = c.args in
    let t = whole-tail x.line.now in
    let from = 65536 * x.p.upper + c.in-Data.address in
    let n = c.in-Data.n in
    rw c.in-Data.is (
      refl,
      c.store_data.ensures
          ∙ ap (λ (d : List ℕ). store_all c.fill.new.words from (pair_bytes d 4 n)) t
          ∙ ap (λ (l : List ℕ). store_all l from (pair_bytes (drop 1 x.line.now) 4 n)) c.fill.ensures,
    )

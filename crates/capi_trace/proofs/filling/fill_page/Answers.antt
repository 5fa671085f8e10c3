-- A traced run into a list of 64 rows, and what it made put as numbers.
use Prim.Native.Nat.{◌≤◌}
use mathlib.Core.Path.{refl}
use native.Mathlib.Omega.{arith}
use lib.ListN.{length}
use lib.Seq.{length-take-le}
use Rattle.machine.specs.State.{state}
use Rattle.capi_trace.proofs.Pages.{page-few, run-ok}
use Rattle.capi_trace.proofs.filling.fill_page.Goals as goal

pub unwrap-run-requires : goal.unwrap-run-requires
unwrap-run-requires c =
    let a = c.args in
    run-ok a.program.now (state a.so_far.machine a.registers.now a.memory.now) a.left _ _ _ _ _ _ c.requires.1 c.run_traced.ensures

pub slice_bounds-rows-end : goal.slice_bounds-rows-end
slice_bounds-rows-end c =
    let few = page-few _ _ _ _ c.unwrap-run.result _ _ _ refl (rw c.unwrap-run.ensures at c.run_traced.ensures) in
    omega (arith, few.0, c.run_traced.auto.rows)

pub slice_bounds-put_page-end : goal.slice_bounds-put_page-end
slice_bounds-put_page-end c =
    let run = c.unwrap-run.result in
    let rows = c.run_traced.new.rows in
    let few = page-few _ _ _ _ run _ _ _ refl (rw c.unwrap-run.ensures at c.run_traced.ensures) in
    let within : run.issues ≤ length rows = omega (arith, few.0, c.run_traced.auto.rows) in
    omega (arith, length-take-le run.issues rows within)

pub put_page-requires : goal.put_page-requires
put_page-requires c =
    let run = c.unwrap-run.result in
    let rows = c.run_traced.new.rows in
    let few = page-few _ _ _ _ run _ _ _ refl (rw c.unwrap-run.ensures at c.run_traced.ensures) in
    let within : run.issues ≤ length rows = omega (arith, few.0, c.run_traced.auto.rows) in
    omega (arith, few.1, c.requires.0, length-take-le run.issues rows within)

pub returns : goal.returns
returns c =
    record {
      page = c.unwrap-run.result;
      blank = _;
      rows = c.run_traced.new.rows;
      blanks = refl;
      ran = rw c.unwrap-run.ensures at c.run_traced.ensures;
      next = c.joined.ensures;
      put = c.put_page.ensures;
    }

-- `writing::Saved::put_record` meets its contract.
use mathlib.Core.Path.{ap}
use Rattle.image_layout.specs.Layout.{row_of, head_of, record_of}
use Rattle.image_layout.proofs.Join.{grown-more, grown-new}
use Rattle.image_layout.proofs.Rows.{head-length}
use Rattle.image.proofs.Bodies.{place-fits}
use native.Mathlib.Omega.{arith}
use Rattle.image.proofs.writing.Saved.put_record.Goals as goal

pub put_head-next-requires : goal.put_head-next-requires
put_head-next-requires c =
    let a = c.args in
    rw c.row_of-row.ensures (place-fits a.self.now.shape a.self.now.registers.now a.self.now.memory.now a.kind a.i c.requires.0 c.requires.1, omega (arith, c.requires.2))

pub put_body-requires : goal.put_body-requires
put_body-requires c =
    let a = c.args in
    let r = row_of a.self.now.shape a.kind in
    let g = grown-new (ap (λ r. head_of r a.i) c.row_of-row.ensures) c.put_head-next.ensures in
    (c.requires.0, c.requires.1, omega (arith, g.next, g.size, head-length r a.i, c.requires.2))

pub shape_of-buffer : goal.shape_of-buffer
shape_of-buffer c =
    let a = c.args in
    (grown-more (grown-new (ap (λ r. head_of r a.i) c.row_of-row.ensures) c.put_head-next.ensures) c.put_body.ensures).size

pub returns : goal.returns
unfolding record_of
returns c =
    let a = c.args in
    grown-more (grown-new (ap (λ r. head_of r a.i) c.row_of-row.ensures) c.put_head-next.ensures) c.put_body.ensures

-- `writing::Saved::put_section` meets its contract.
use Prim.Native.Nat.{◌<◌}
use Rattle.machine.specs.State.{State, state}
use Rattle.image_layout.proofs.Join.{grown-start, grown-join, grown-end, room_for}
use Rattle.image_layout.proofs.Rows.{record-length}
use Rattle.image_layout.specs.Layout.{row_of, record_size, record_of, section_of}
use Rattle.image.specs.Image.{body_of}
use Rattle.image.proofs.Bodies.{body-length-of}
use native.Mathlib.Omega.{arith}
use Rattle.image.proofs.writing.Saved.put_section.Goals as goal

pub loop-i-init : goal.loop-i-init
loop-i-init c = grown-start c.args.buffer.now c.args.at _

pub put_record-next-requires : goal.put_record-next-requires
put_record-next-requires c =
    let a = c.args in
    let h = c.requires in
    let s : State = state a.self.now.machine a.self.now.registers.now a.self.now.memory.now in
    let r = row_of a.self.now.shape a.kind in
    let l = c.loop-i in
    let t : l.i < r.count = omega (arith, c.loop-i-test.true, h.1) in
    (h.0, t, room_for (record_size r) l.i r.count (record_of r (body_of a.self.now.shape.form s a.kind)) l.invariant (record-length r (body_of a.self.now.shape.form s a.kind) (body-length-of a.self.now.shape s a.kind h.0)) t h.2)

pub loop-i-preserved : goal.loop-i-preserved
loop-i-preserved c =
    let a = c.args in
    let s : State = state a.self.now.machine a.self.now.registers.now a.self.now.memory.now in
    let r = row_of a.self.now.shape a.kind in
    let l = c.loop-i in
    grown-join l.i (record_of r (body_of a.self.now.shape.form s a.kind)) l.invariant c.put_record-next.ensures

pub returns : goal.returns
unfolding section_of
returns c =
    let a = c.args in
    let h = c.requires.1 in
    let s : State = state a.self.now.machine a.self.now.registers.now a.self.now.memory.now in
    let r = row_of a.self.now.shape a.kind in
    let l = c.loop-i in
    grown-end l.i r.count (record_of r (body_of a.self.now.shape.form s a.kind)) l.invariant (omega (arith, h, l.auto.i-end)) (omega (arith, h, c.loop-i-test.false))

pub shape_of-buffer : goal.shape_of-buffer
shape_of-buffer c = c.loop-i.invariant.size

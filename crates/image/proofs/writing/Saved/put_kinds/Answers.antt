-- `writing::Saved::put_kinds` meets its contract.
use Prim.Native.Nat.{ℕ, ◌≤◌}
use mathlib.Core.Path.{◌≡◌, ap, ◌∙◌}
use lib.ListN.{length}
use Rattle.machine.specs.State.{State, state}
use Rattle.image_layout.proofs.Join.{grown-start, grown-join, grown-end, grown-new, grown-whole}
use Rattle.image_layout.proofs.Rows.{section_at, sections-up-to, start-room}
use Rattle.image_layout.specs.Join.{concat_below}
use Rattle.image_layout.specs.Layout.{kind_at, row_of, section_of, start_of}
use Rattle.image.specs.Image.{SuitsUpTo, body_of}
use Rattle.image.specs.Types.{Shape}
use Rattle.image.proofs.Bodies.{body-length-of}
use native.Mathlib.Omega.{arith}
use Rattle.image.proofs.writing.Saved.put_kinds.Goals as goal

-- the first kinds are as long as the table says
laid : (w : Shape) (n : ℕ) (s : State) → SuitsUpTo n w s.registers s.memory → (q : ℕ) → q ≤ n → length (concat_below q (section_at w (body_of w.form s))) ≡ start_of w q
laid w n s h = sections-up-to w (body_of w.form s) n (λ q l. body-length-of w s (kind_at q) (h q l))

pub put_section-next-requires : goal.put_section-next-requires
put_section-next-requires c =
    let a = c.args in
    let h = c.requires in
    let s : State = state a.self.now.machine a.self.now.registers.now a.self.now.memory.now in
    let w = a.self.now.shape in
    let l = c.loop-position in
    let t = c.loop-position-test.true in
    let g = l.invariant in
    rw c.kind_at.ensures (h.0 l.position t, c.count_at-count.ensures, omega (arith, g.next, g.size, laid w a.n s h.0 l.position l.auto.position-end, start-room w l.position a.n t, h.1))

pub loop-position-preserved : goal.loop-position-preserved
loop-position-preserved c =
    let a = c.args in
    let s : State = state a.self.now.machine a.self.now.registers.now a.self.now.memory.now in
    let w = a.self.now.shape in
    let l = c.loop-position in
    let e = ap (λ k. section_of (row_of w k) (body_of a.self.now.shape.form s k)) c.kind_at.ensures in
    grown-join l.position (section_at w (body_of a.self.now.shape.form s)) l.invariant (grown-new e c.put_section-next.ensures)

pub returns : goal.returns
returns c =
    let a = c.args in
    let h = c.requires in
    let s : State = state a.self.now.machine a.self.now.registers.now a.self.now.memory.now in
    let w = a.self.now.shape in
    let l = c.loop-position in
    let g = grown-end l.position a.n (section_at w (body_of a.self.now.shape.form s)) l.invariant l.auto.position-end (omega (arith, c.loop-position-test.false)) in
    grown-whole g (laid w a.n s h.0 a.n (omega arith) ∙ h.1)

pub loop-position-init : goal.loop-position-init
loop-position-init c = grown-start c.args.buffer.now 0 _

pub shape_of-buffer : goal.shape_of-buffer
shape_of-buffer c = c.loop-position.invariant.size

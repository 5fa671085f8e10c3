-- The bodies of a state's records are as long as their rows say.
use Prim.Native.Nat.{ℕ, ◌*◌, ◌-◌, ◌≤◌, ◌<◌}
use mathlib.Core.List.{List, ◌++◌}
use mathlib.Core.Path.{◌≡◌, refl, ap}
use native.Mathlib.Omega.{arith}
use lib.ListN.{length, take, drop, length-drop}
use lib.Seq.{length-take-le}
use Rattle.machine.specs.State.{State}
use Rattle.image_layout.proofs.Join.{fits_in}
use Rattle.image_layout.proofs.Rows.{laid-length}
use Rattle.image_layout.specs.Layout.{kinds, thread_row, row_of, Numbered, start_of}
use Rattle.little_endian.proofs.Numbers.{bytes-length, bytes-of-length}
use Rattle.little_endian.specs.Numbers.{number_bytes}
use Rattle.image.specs.Image.{shape_of, Lengths, Suits, status_bytes, field_bytes, body_of, image}
use Rattle.image.specs.Types.{Kind, Hd, Ti, Sr, Vr, Mm, Form, Newest, Old, Shape, ThreadFields}

-- what each kind asks of the lengths, they have
pub suits : (a : Shape) (registers memory : List ℕ) → Lengths a registers memory → (k : Kind) → Suits a k registers memory
suits a registers memory w Hd = tt
suits a registers memory w Ti = tt
suits a registers memory w Sr = w
suits a registers memory w Vr = w
suits a registers memory w Mm = w

entry-fits : (f : Form) (i : ℕ) → i < (thread_row f).count → Numbered (thread_row f).places i
entry-fits Newest i l = omega arith
entry-fits Old i l = omega arith

pub place-fits : (a : Shape) (registers memory : List ℕ) (k : Kind) (i : ℕ) → Suits a k registers memory → i < (row_of a k).count → Numbered (row_of a k).places i
place-fits a registers memory Hd i w l = tt
place-fits a registers memory Ti i w l = entry-fits a.form i l
place-fits a registers memory Sr i w l = omega arith
place-fits a registers memory Vr i w l = omega arith
place-fits a registers memory Mm i w l = omega (arith, w.few)

pub numbered : (a : Shape) → a.blocks ≤ 65536 → (k : Kind) (i : ℕ) → i < (row_of a k).count → Numbered (row_of a k).places i
numbered a few Hd i l = tt
numbered a few Ti i l = entry-fits a.form i l
numbered a few Sr i l = omega arith
numbered a few Vr i l = omega arith
numbered a few Mm i l = omega arith

block-length : (n b i : ℕ) (l : List ℕ) → n * b ≡ length l → i < b → length (take n (drop (n * i) l)) ≡ n
block-length n b i l e h = length-take-le n (drop (n * i) l) (rw (length-drop (n * i) l) (omega (arith, fits_in n i b h)))

pub entry_length : (f : Form) (n : ThreadFields) → length (field_bytes f n) ≡ (thread_row f).size
entry_length Newest n = omega (arith, bytes-length 4 n.turns)
entry_length Old n = refl

-- its bytes: those of the status, and as many of the count of turns as are left
pub entry-parts : (f : Form) (n : ThreadFields) (size : ℕ) → size ≡ (thread_row f).size → status_bytes n ++ number_bytes (size - 4) n.turns ≡ field_bytes f n
unfolding number_bytes
entry-parts Newest n size e = ap (λ k. status_bytes n ++ number_bytes (k - 4) n.turns) e
entry-parts Old n size e = ap (λ k. status_bytes n ++ number_bytes (k - 4) n.turns) e

-- the body of a record is as long as its row says
pub body-length-of : (a : Shape) (s : State) (k : Kind) → Suits a k s.registers s.memory → (i : ℕ) → i < (row_of a k).count
    → length (body_of a.form s k i) ≡ (row_of a k).size
body-length-of a s Hd w i h = refl
body-length-of a s Ti w i h = entry_length a.form _
body-length-of a s Sr w i h = bytes-of-length 64 _
body-length-of a s Vr w i h = bytes-of-length 16 _
body-length-of a s Mm w i h = block-length 64 a.blocks i s.memory w.whole h

pub body-length : (a : Shape) (s : State) → Lengths a s.registers s.memory → (k : Kind) (i : ℕ) → i < (row_of a k).count → length (body_of a.form s k i) ≡ (row_of a k).size
body-length a s w k = body-length-of a s k (suits a s.registers s.memory w k)

pub image-length : (f : Form) (s : State) → Lengths (shape_of f s.memory) s.registers s.memory
    → length (image f s) ≡ start_of (shape_of f s.memory) kinds
unfolding image
image-length f s w = laid-length (shape_of f s.memory) (body_of f s) (body-length (shape_of f s.memory) s w)

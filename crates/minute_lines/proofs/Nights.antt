-- The lines of a night are calls of the box one after the other.
use Prim.Native.Nat.{ℕ}
use mathlib.Core.List.{List, [], ◌∷◌, ◌++◌}
use mathlib.Core.Option.{Option, none, some}
use mathlib.Core.Path.{refl}
use Rattle.machine.specs.State.{State}
use Rattle.night.proofs.Claims.{night-fair}
use Rattle.night.specs.Claims.{Night}
use Rattle.minute_lines.specs.Claims.{LinesFair}
use Rattle.minute_lines.specs.Line.{Given, read_line}
use Rattle.minute_lines.specs.Taking.{tick_on, call_on, calls_of}
use Rattle.minute_lines.specs.Types.{Kept}

calls-night : (p : List ℕ) (s : State) (kept : Kept) (lines : List (List ℕ)) → Night (calls_of p s kept lines) s kept
unfolding calls_of
calls-night p s kept [] = tt
calls-night p s kept (line ∷ lines) = go (read_line line) (λ s' kept'. calls-night p s' kept' lines)
  where
    go : (g : Option Given) → ((s' : State) (kept' : Kept) → Night (calls_of p s' kept' lines) s' kept')
        → Night (call_on p s kept g ++ calls_of p (tick_on p s kept g).left (tick_on p s kept g).kept lines) s kept
    go none rest = rest s kept
    go (some given) rest = let o = tick_on p s kept (some given) in (refl, rest o.left o.kept)

pub lines-fair : LinesFair
lines-fair p s kept lines w = night-fair (calls_of p s kept lines) s kept w (calls-night p s kept lines)

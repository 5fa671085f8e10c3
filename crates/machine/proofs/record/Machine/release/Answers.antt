-- `release` meets its contract.
use Rattle.std.proofs.Common.{◌≡◌, ℕ, ◌≤◌, List, ap, ◌∙◌, arith, length, ◌++◌, map, take, drop}
use Rattle.std.proofs.lemmas.Grind.{common_steps}
use Rattle.std.proofs.lemmas.List.Edits.{map_over_more}
use Rattle.std.proofs.lemmas.List.{take_all, drop_all, append-nil}
use Rattle.machine.specs.Barrier.{release}
use Rattle.machine.specs.Types.{Thread}
use Rattle.machine.proofs.Meetings.{freed}
use Rattle.machine.proofs.record.Machine.release.Goals as goal

done : (f : Thread → Thread) (xs : List Thread) (i : ℕ) → length xs ≤ i → map f (take i xs) ++ drop i xs ≡ map f xs
done f xs i l = rw (take_all i xs l, drop_all i xs l) (append-nil (map f xs))

pub loop-entry-preserved : goal.loop-entry-preserved
loop-entry-preserved c =
    let l = c.loop-entry in
    let a = c.args in
    let eight : length a.self.threads ≡ 8 = c.well_formed.0.1.1.1.0.1.0.1 in
    grind (arith, common_steps, map_over_more (freed a.id))

pub returns : goal.returns
unfolding release
returns c =
    let l = c.loop-entry in
    let a = c.args in
    let eight : length a.self.threads ≡ 8 = c.well_formed.0.1.1.1.0.1.0.1 in
    ap (λ xs. record { enabled = a.self.enabled; last = a.self.last; threads = xs })
    (l.invariant ∙ done (freed a.id) a.self.threads l.entry-index (omega arith))

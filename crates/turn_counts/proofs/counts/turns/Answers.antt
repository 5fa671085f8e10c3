-- `turns` meets its contract.
use Rattle.std.proofs.Common.{◌≡◌, ℕ, ◌<◌, get_or, length, rules, sym, ◌∙◌, arith}
use Rattle.std.proofs.lemmas.List.{ext_get_or}
use Rattle.machine.specs.Machine.{turns_of, turns_at}
use Rattle.machine.proofs.Turns.{turns-length, turns_at_lem}
use Rattle.turn_counts.proofs.counts.turns.Goals as goal

pub returns : goal.returns
returns c =
    let m = c.args.machine in
    let eight : length m.threads ≡ 8 = c.well_formed.0.1.1.1.0.1.0.1 in
    let each : (k : ℕ) → k < 8 → get_or c.map.result k 0 ≡ turns_at m k = search rules in
    let long : length c.map.result ≡ 8 = search rules in (
      ext_get_or 0 c.map.result (turns_of m) (long ∙ sym (turns-length m ∙ eight)) (λ k l. each k (omega (arith, long)) ∙ sym (turns_at_lem m k)),
      long,
    )

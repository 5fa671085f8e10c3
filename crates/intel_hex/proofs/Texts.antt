-- Bytes as text, one more at a time.
use Prim.Native.Nat.{ℕ, ◌+◌, ◌*◌, ◌/◌, ◌%◌, ◌≤◌, ◌<◌}
use mathlib.Core.List.{List, [], ◌∷◌, ◌++◌, append_assoc}
use mathlib.Core.Path.{◌≡◌, refl, sym, ap, ◌∙◌}
use native.Mathlib.Omega.{arith}
use native.Mathlib.Numerals.{add-one}
use lib.ListN.{length, get_or, take, drop, length-append, length-drop}
use lib.Seq.{take-suc, get_or-drop, length-take-le}
use Rattle.intel_hex.specs.Digits.{hexes, total}
use Rattle.intel_hex.specs.Export.{heads, checksum, record_text}
use Rattle.intel_hex.specs.Program.{program_bytes}
use Rattle.intel_hex.proofs.Words.{length-bytes}

pub hexes-append : (a b : List ℕ) → hexes (a ++ b) ≡ hexes a ++ hexes b
unfolding hexes
hexes-append [] b = refl
hexes-append (x ∷ a) b = rw (hexes-append a b)

pub length-hexes : (a : List ℕ) → length (hexes a) ≡ 2 * length a
unfolding hexes
length-hexes [] = refl
length-hexes (x ∷ a) = let h = length-hexes a in omega arith

pub length-pair : (x : ℕ) → length (hexes (x ∷ [])) ≡ 2
length-pair x = length-hexes (x ∷ [])

pub total-append : (a b : List ℕ) → total (a ++ b) ≡ total a + total b
unfolding total
total-append [] b = omega arith
total-append (x ∷ a) b = let h = total-append a b in omega arith

-- the next byte of a program behind those from a place on
module _ (ws : List ℕ) (from i : ℕ) where
  taken_more : from + i < 4 * length ws → take (i + 1) (drop from (program_bytes ws)) ≡ take i (drop from (program_bytes ws)) ++ get_or (program_bytes ws) (from + i) 0 ∷ []
  taken_more h =
      let e = length-bytes ws in
      let d = length-drop from (program_bytes ws) in
      rw (add-one i, take-suc (drop from (program_bytes ws)) i 0 (omega arith), get_or-drop from (program_bytes ws) i 0)

  pub total-more : from + i < 4 * length ws → total (take (i + 1) (drop from (program_bytes ws))) ≡ total (take i (drop from (program_bytes ws))) + get_or (program_bytes ws) (from + i) 0
  unfolding total
  total-more h = ap total (taken_more h) ∙ total-append (take i (drop from (program_bytes ws))) (get_or (program_bytes ws) (from + i) 0 ∷ []) ∙ omega arith

  pub hexes-more : (b : ℕ) → from + i < 4 * length ws → b ≡ get_or (program_bytes ws) (from + i) 0 → hexes (take (i + 1) (drop from (program_bytes ws))) ≡ hexes (take i (drop from (program_bytes ws))) ++ hexes (b ∷ [])
  hexes-more b h e = ap hexes (taken_more h) ∙ rw (e) (hexes-append (take i (drop from (program_bytes ws))) (get_or (program_bytes ws) (from + i) 0 ∷ []))

  pub length-hexes-take : from + i ≤ 4 * length ws → length (hexes (take i (drop from (program_bytes ws)))) ≡ 2 * i
  length-hexes-take h =
      let e = length-bytes ws in
      let d = length-drop from (program_bytes ws) in
      length-hexes (take i (drop from (program_bytes ws))) ∙ ap (λ (n : ℕ). 2 * n) (length-take-le i (drop from (program_bytes ws)) (omega arith))

pub length-head : (n address kind : ℕ) → length (58 ∷ hexes (heads n address kind)) ≡ 9
length-head n address kind = let h = length-hexes (heads n address kind) in omega arith

pub length-tail : (b : ℕ) → length (hexes (b ∷ []) ++ 10 ∷ []) ≡ 3
length-tail b = let h = length-hexes (b ∷ []) in length-append (hexes (b ∷ [])) (10 ∷ []) ∙ omega arith

-- a record's text is its head, its bytes and its tail
summed : (ds : List ℕ) (kind from n s : ℕ) → s ≡ (n + from / 256 + from % 256 + kind + total ds) % 256 → checksum s ≡ checksum (total (heads n from kind ++ ds))
unfolding total
summed ds kind from n s e = omega arith

parts : (ds : List ℕ) (kind from n s : ℕ) → length ds ≡ n → s ≡ (n + from / 256 + from % 256 + kind + total ds) % 256 →
    (58 ∷ hexes (heads n from kind) ++ hexes ds) ++ (hexes (checksum s ∷ []) ++ 10 ∷ []) ≡ record_text kind from ds
unfolding record_text
parts ds kind from n s l e =
    let h = heads n from kind in
    ap {A = List ℕ} {B = List ℕ} (λ x. 58 ∷ x)
    (sym (append_assoc (hexes h ++ hexes ds) (hexes (checksum s ∷ [])) (10 ∷ []))
    ∙ ap {A = List ℕ} {B = List ℕ} (λ x. x ++ 10 ∷ []) (sym (hexes-append (h ++ ds) (checksum s ∷ []) ∙ ap {A = List ℕ} {B = List ℕ} (λ x. x ++ hexes (checksum s ∷ [])) (hexes-append h ds))))
    ∙ ap {A = ℕ} {B = List ℕ} (λ x. 58 ∷ hexes (heads n from kind ++ ds ++ x ∷ []) ++ 10 ∷ []) (summed ds kind from n s e)
    ∙ ap {A = ℕ} {B = List ℕ} (λ m. 58 ∷ hexes (heads m from kind ++ ds ++ checksum (total (heads m from kind ++ ds)) ∷ []) ++ 10 ∷ []) (sym l)

pub record-parts : (ws : List ℕ) (kind from n s : ℕ) → from + n ≤ 4 * length ws →
    s ≡ (n + from / 256 + from % 256 + kind + total (take n (drop from (program_bytes ws)))) % 256 →
    (58 ∷ hexes (heads n from kind) ++ hexes (take n (drop from (program_bytes ws)))) ++ (hexes (checksum s ∷ []) ++ 10 ∷ []) ≡ record_text kind from (take n (drop from (program_bytes ws)))
record-parts ws kind from n s h e =
    let d = length-drop from (program_bytes ws) in
    let m = length-bytes ws in
    parts (take n (drop from (program_bytes ws))) kind from n s (length-take-le n (drop from (program_bytes ws)) (omega arith)) e
